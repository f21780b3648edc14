use Rattle.std.specs.Prelude.{◌≡◌, ℕ, Bool, true, false, List, Option, not, option_map}
use Rattle.std.specs.Cmp.Lexicographic.{same_text}
use Rattle.std.proofs.Common.{inl, inr, refl, sym}
use Rattle.std.proofs.lemmas.Bool.{false≢true}
use Rattle.nor_files.specs.Files.{Failure, FilesState, Name, Nature}
use Rattle.nor_files.specs.Files.Failure.{Busy, Printed, Shared, Unheld}
use Rattle.nor_files.specs.Named.{file_named, are_same_names}
use Rattle.nor_files.specs.OneFile.{AreOneFile, MayBeOneFile, NamesAreOfOne}
use Rattle.nor_files.specs.Stored.{MayLeave}
use Rattle.nor_files.specs.declared.memory.Memory.{Memory}
use Rattle.nor_files.specs.declared.stored.Stored.{Stored}

-- True for each failure that calls on files in memory may find. No other process locks these files, and each can be
-- overwritten.
abbrev pub memory_fails : Failure → Bool
memory_fails (Unheld name) = false
memory_fails (Busy name) = false
memory_fails (Shared one other) = are_same_names one other
memory_fails (Printed name) = false
memory_fails failure = true

-- the nature of files in memory: they obey the contract, and each file has exactly one name
abbrev pub memory_nature : Nature
memory_nature = record { lawful = true; fails = memory_fails; apart = λ one other. not (are_same_names one other) }

abbrev pub files_state : List Stored → (left : ℕ) (borrowed : Option Name) → FilesState
files_state files left borrowed = record {
  view = record {
    nature = memory_nature;
    out = λ name. (file_named files name).out;
    seen = λ name. (file_named files name).seen;
  };
  left = left;
  borrowed = borrowed;
  may_leave = λ name found. MayLeave (file_named files name) found;
}

abbrev pub memory_state : Memory → FilesState
memory_state memory = files_state memory.files.items memory.left (option_map (λ name. name.items) memory.borrowed)

true_from_not : (b : Bool) → not b ≡ false → b ≡ true
true_from_not true is = refl
true_from_not false is = absurd (false≢true (sym is))

pub one_name : (one other : Name) → MayBeOneFile memory_nature one other → one ≡ other
one_name one other (inl not_apart) = same_text one other (sym (true_from_not (are_same_names one other) not_apart))
one_name one other (inr shared) = same_text one other (sym shared)

one_file_itself : (name : Name) (files : FilesState) → AreOneFile name name files
one_file_itself name files =
    record { seen = refl; out = refl; leaves = λ left can. can; back = λ left can. can }

pub names_of_one : (files : List Stored) (left : ℕ) (borrowed : Option Name)
    → NamesAreOfOne (files_state files left borrowed)
names_of_one files left borrowed lawful one other may =
    rw (one_name one other may) (one_file_itself other (files_state files left borrowed))
