use Rattle.std.specs.Prelude.{◌≡◌, ◌⊎◌, ⊤, false, true, None, codes, not}
use Rattle.nor_files.specs.Files.{FilesState, Name}
use Rattle.nor_files.specs.Named.{are_same_names}

-- The state of files about which nothing is known: each call may fail in each way, and names that differ are apart.
abbrev pub unknown : FilesState
unknown = record {
  view = record {
    nature = record { lawful = false; fails = λ failure. true; apart = λ one other. not (are_same_names one other) };
    out = λ name. false;
    seen = λ name. None;
  };
  left = 0;
  borrowed = None;
  may_leave = λ name left. ⊤;
}

-- Holds for the two names that `unseen_stream` may return: those of standard output and standard error.
abbrev pub IsStreamName : Name → Type 0
IsStreamName name = (name ≡ codes "/dev/fd/1") ⊎ (name ≡ codes "/dev/fd/2")
