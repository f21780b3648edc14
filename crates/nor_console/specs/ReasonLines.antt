-- The lines that say what is wrong, byte by byte. Such a line is printed before the numbered line of a fault.
use Rattle.std.specs.Prelude.{ℕ, List, [], ◌∷◌, codes, if◌then◌else◌}
use Rattle.std.specs.List.{concat}
use Rattle.std.specs.Str.{bytes_eq}
use Rattle.nor_journal.specs.declared.fault.JournalFault.TheVariants as journal
use Rattle.nor_layout.specs.declared.fault.LayoutFault.{LayoutFault}
use Rattle.nor_layout.specs.declared.fault.LayoutFault.TheVariants as layout
use Rattle.nor_layout.specs.declared.fault.LineFault.{LineFault}
use Rattle.nor_layout.specs.declared.fault.LineFault.TheVariants as in_line
use Rattle.nor_request.specs.declared.refusal.Refusal.{Refusal}
use Rattle.nor_request.specs.declared.refusal.Refusal.TheVariants.{BadJournal}
use Rattle.nor_args.specs.Reasons.{option_text}
use Rattle.nor_args.specs.Text.{Text, key_of}
use Rattle.nor_args.specs.declared.reasons.Flaw.{Flaw}
use Rattle.nor_args.specs.declared.reasons.Flaw.TheVariants as flaw
use Rattle.nor_args.specs.declared.reasons.Reason.{Reason}
use Rattle.nor_args.specs.declared.reasons.Reason.TheVariants as because
use Rattle.nor_console.specs.Escapes.{escaped}

abbrev pub flaw_text : Flaw → List ℕ
flaw_text flaw.Key = codes "unknown key"
flaw_text flaw.Value = codes "invalid value"
flaw_text flaw.Twice = codes "repeated key"

-- the end of a reason: what to give instead of a setting of `-p` with this flaw, or no bytes
abbrev pub choices_for : (setting : Text) → Flaw → List ℕ
choices_for setting flaw.Key =
    codes "; the keys are emulate, image, status, stop, trace, unique, busy and power"
choices_for setting flaw.Value =
    if bytes_eq (key_of setting) (codes "emulate") then codes "; give W25Q64FV, W25Q128FV or TINY64" else []
choices_for setting flaw.Twice = []

abbrev pub reason_line : Reason → List ℕ
reason_line because.Unsaid = []
reason_line because.NoProgrammer = codes "error: the option -p is missing\n"
reason_line because.NoPrefix = codes "error: the value of -p does not begin with 'dummy:'\n"
reason_line (because.Setting setting wrong) = concat (codes "error: " ∷ flaw_text wrong ∷ codes " in -p: '"
    ∷ escaped setting.now ∷ codes "'" ∷ choices_for setting.now wrong ∷ codes "\n" ∷ [])
reason_line because.NoChip = codes "error: the value of -p lacks emulate=; give W25Q64FV, W25Q128FV or TINY64\n"
reason_line (because.Operations first last) = concat (codes "error: " ∷ option_text first ∷ codes " and "
    ∷ option_text last ∷ codes " cannot be used together\n" ∷ [])
reason_line (because.Range value) =
    concat (codes "error: invalid value of --wp-range: '" ∷ escaped value.now
    ∷ codes "'; give START,LENGTH, each decimal or 0x..\n" ∷ [])
reason_line (because.Progress value) =
    concat (codes "error: invalid value of --progress: '" ∷ escaped value.now
    ∷ codes "'; give auto, plain or none\n" ∷ [])
reason_line (because.Dash option) = concat (codes "error: '-' is no file for " ∷ option_text option
    ∷ codes "; for a file with this name give ./-\n" ∷ [])
reason_line (because.NoJournal option) = concat (codes "error: " ∷ option_text option ∷ codes " needs --journal\n" ∷ [])
reason_line because.JournalAndRehearse = codes "error: --journal and --rehearse cannot be used together\n"
reason_line (because.NoChange option) =
    concat (codes "error: " ∷ option_text option ∷ codes " needs -w, -E or --wp-range\n" ∷ [])
reason_line (because.NoNames option) = concat (codes "error: " ∷ option_text option ∷ codes " needs -i\n" ∷ [])
reason_line because.NoLayout = codes "error: -i needs -l\n"
reason_line (because.NoRegions option) =
    concat (codes "error: " ∷ option_text option ∷ codes " and -i need -r, -v, -w or -E\n" ∷ [])
reason_line (because.NoContent option) = concat (codes "error: " ∷ option_text option ∷ codes " needs -w or -E\n" ∷ [])
reason_line because.NoComparison = codes "error: -N needs -w, -E or --restore\n"
reason_line (because.NoRestore option) = concat (codes "error: " ∷ option_text option ∷ codes " needs --restore\n" ∷ [])
reason_line because.NoCheck = codes "error: --extract-image needs --check-journal\n"
reason_line (because.Stop part) =
    concat (codes "error: invalid number in --rehearse: '" ∷ escaped part.now ∷ codes "'\n" ∷ [])
reason_line because.ManyStops = codes "error: more than 64 numbers in --rehearse\n"
reason_line because.StopAndRehearse = codes "error: --rehearse and stop= cannot be used together\n"

abbrev pub line_fault_text : LineFault → List ℕ
line_fault_text in_line.Line = codes "there is no colon, or no space (a TAB is none) between END and NAME"
line_fault_text in_line.Address = codes "an address is not 1 to 8 hexadecimal digits, without blanks"
line_fault_text in_line.Backwards = codes "the end is below the start"
line_fault_text in_line.Name =
    codes "the name is not 1 to 32 visible ASCII characters (a CR is none) other than , and :"
line_fault_text in_line.Twice = codes "an earlier line has this name"

abbrev pub layout_line : LayoutFault → List ℕ
layout_line (layout.InLine line fault) = concat (codes "error: " ∷ line_fault_text fault ∷ codes "\n" ∷ [])
layout_line layout.TooMany = codes "error: the layout has more than 64 regions\n"
layout_line layout.Memory = []
layout_line layout.NoRegion = codes "error: a name of -i is no region\n"

abbrev pub journal_line : Refusal → List ℕ
journal_line (BadJournal journal.Short) = codes "error: the journal was never sealed, or was cut off later\n"
journal_line (BadJournal journal.Magic) = codes "error: the file is no journal, or is damaged\n"
journal_line (BadJournal fault) = codes "error: the journal is damaged\n"
journal_line _ = []
