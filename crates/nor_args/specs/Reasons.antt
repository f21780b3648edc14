-- The reasons of usage faults: what is wrong with the options.
use Rattle.std.specs.Prelude.{◌≡◌, ◌&&◌, ◌||◌, ℕ, Bool, true, false, ⊤, List, [], ◌∷◌, Option, Some, None, codes}
use Rattle.std.specs.Prelude.{find, is_some, nat_eq, not, reverse, if◌then◌else◌}
use Rattle.std.specs.List.{list_any, starts_with}
use Rattle.nor_args.specs.Text.{Text, pieces_of, reads}
use Rattle.nor_args.specs.Given.{Texts, asks_change, has_two_layouts, is_new_content, progress_of}
use Rattle.nor_args.specs.Faults.{Choosing, dashed, first_given, is_no, lacks_check}
use Rattle.nor_args.specs.Numbers.{range_of}
use Rattle.nor_args.specs.Numbers.{decimal_number}
use Rattle.nor_args.specs.Programmer.{has_key, is_setting, is_alone_in, keys, settings_of}
use Rattle.nor_args.specs.Stops.{stops_of}
use Rattle.nor_args.specs.declared.reasons.Flaw.{Flaw}
use Rattle.nor_args.specs.declared.reasons.Flaw.TheVariants as flaw
use Rattle.nor_args.specs.declared.reasons.OptionName.{OptionName}
use Rattle.nor_args.specs.declared.reasons.OptionName.TheVariants as option
use Rattle.nor_args.specs.declared.reasons.Reason.{Reason}
use Rattle.nor_args.specs.declared.reasons.Reason.TheVariants as because
use Rattle.nor_args.specs.declared.reasons.WrongArguments.{WrongArguments}
use Rattle.nor_args.specs.declared.words.UsageFault.{UsageFault}
use Rattle.nor_args.specs.declared.words.UsageFault.TheVariants as why

abbrev pub option_text : OptionName → List ℕ
option_text option.List = codes "-L"
option_text option.FlashSize = codes "--flash-size"
option_text option.FlashName = codes "--flash-name"
option_text option.WpStatus = codes "--wp-status"
option_text option.WpList = codes "--wp-list"
option_text option.Read = codes "-r"
option_text option.Verify = codes "-v"
option_text option.Write = codes "-w"
option_text option.Erase = codes "-E"
option_text option.WpRange = codes "--wp-range"
option_text option.Restore = codes "--restore"
option_text option.Backup = codes "--backup"
option_text option.CheckJournal = codes "--check-journal"
option_text option.ExtractImage = codes "--extract-image"
option_text option.WpEnable = codes "--wp-enable"
option_text option.WpDisable = codes "--wp-disable"
option_text option.Journal = codes "--journal"
option_text option.Rehearse = codes "--rehearse"
option_text option.Layout = codes "-l"
option_text option.Include = codes "-i"
option_text option.FmapFile = codes "--fmap-file"
option_text option.IfdFile = codes "--ifd-file"
option_text option.Fmap = codes "--fmap"
option_text option.Ifd = codes "--ifd"
option_text option.Quick = codes "--quick"
option_text option.ReplacedChip = codes "--replaced-chip"
option_text option.NoVerify = codes "-n"
option_text option.Unlock = codes "--unlock"
option_text option.Output = codes "-o"

unfoldable pub is_flawed : List Text → Text → Bool
is_flawed settings setting = not (is_setting setting) || not (is_alone_in settings setting)

abbrev pub first_flawed : List Text → Option Text
first_flawed settings = find (is_flawed settings) settings

abbrev pub has_known_key : Text → Bool
has_known_key setting = list_any (λ known. has_key known.0 setting) keys

abbrev pub flaw_by : (known valid : Bool) → Flaw
flaw_by known valid = if not known then flaw.Key else if valid then flaw.Twice else flaw.Value

abbrev pub flaw_of : Text → Flaw
flaw_of setting = flaw_by (has_known_key setting) (is_setting setting)

abbrev pub IsWrongProgrammer : Text → Reason → Type 0
IsWrongProgrammer text because.NoPrefix = starts_with nat_eq text (codes "dummy:") ≡ false
IsWrongProgrammer text (because.Setting setting wrong) = (starts_with nat_eq text (codes "dummy:") ≡ true)
    × (first_flawed (settings_of text) ≡ Some setting.now) × (wrong ≡ flaw_of setting.now)
IsWrongProgrammer text because.NoChip = (starts_with nat_eq text (codes "dummy:") ≡ true)
    × (first_flawed (settings_of text) ≡ None)
IsWrongProgrammer text _ = ⊥

abbrev pub operation_choices : Texts → List Choosing
operation_choices given =
    (given.list, option.List) ∷ (given.flash_size, option.FlashSize) ∷ (given.flash_name, option.FlashName)
    ∷ (given.wp_status, option.WpStatus) ∷ (given.wp_list, option.WpList) ∷ (is_some given.read, option.Read)
    ∷ (is_some given.verify, option.Verify)
    ∷ (is_some given.write, option.Write) ∷ (given.erase, option.Erase)
    ∷ (is_some given.wp_range, option.WpRange) ∷ (is_some given.restore, option.Restore)
    ∷ (is_some given.backup, option.Backup) ∷ (is_some given.check_journal, option.CheckJournal)
    ∷ (given.wp_enable, option.WpEnable) ∷ (given.wp_disable, option.WpDisable) ∷ []

abbrev pub operations_reason : (first last : Option OptionName) → Reason
operations_reason (Some first) (Some last) = because.Operations first last
operations_reason first last = because.Unsaid

abbrev pub IsWrongRange : Option Text → Reason → Type 0
IsWrongRange (Some value) (because.Range text) = text.now ≡ value
IsWrongRange None because.Unsaid = ⊤
IsWrongRange value _ = ⊥

abbrev pub IsWrongMode : Option Text → Reason → Type 0
IsWrongMode (Some value) (because.Progress text) = text.now ≡ value
IsWrongMode None because.Unsaid = ⊤
IsWrongMode value _ = ⊥

abbrev pub dash_reason : Option OptionName → Reason
dash_reason (Some option) = because.Dash option
dash_reason None = because.Unsaid

-- Holds if `reason` gives the first cause of fault 5 that applies: wrong `--progress`, wrong `--wp-range`, or file `-`.
abbrev pub IsWrongValue : (wrong_mode wrong_range : Bool) → Texts → Reason → Type 0
IsWrongValue true wrong_range given reason = IsWrongMode given.progress reason
IsWrongValue false true given reason = IsWrongRange given.wp_range reason
IsWrongValue false false given reason = reason ≡ dash_reason (dashed given)

-- the option that asks for the change, or `--wp-range` if no option does
abbrev pub change_option : Texts → OptionName
change_option given = if is_some given.write then option.Write else if given.erase then option.Erase else option.WpRange

abbrev pub journal_reason : Texts → Reason
journal_reason given =
    if is_some given.journal && is_some given.rehearse then because.JournalAndRehearse
    else if asks_change given then because.NoJournal (change_option given)
    else because.NoChange (if is_some given.journal then option.Journal else option.Rehearse)

abbrev pub layout_choices : Texts → List Choosing
layout_choices given =
    (is_some given.layout, option.Layout) ∷ (is_some given.fmap_file, option.FmapFile)
    ∷ (is_some given.ifd_file, option.IfdFile) ∷ (given.fmap, option.Fmap) ∷ (given.ifd, option.Ifd) ∷ []

abbrev pub names_reason : (layout : Option OptionName) → (names : Option Text) → Reason
names_reason (Some layout) (Some names) = because.NoRegions layout
names_reason (Some layout) None = because.NoNames layout
names_reason None names = because.NoLayout

abbrev pub regions_reason : Texts → Reason
regions_reason given =
    if has_two_layouts given
    then operations_reason (first_given (layout_choices given)) (first_given (reverse (layout_choices given)))
    else names_reason (first_given (layout_choices given)) given.names

abbrev pub journal_option_reason : Texts → Reason
journal_option_reason given =
    if lacks_check given then because.NoCheck
    else if given.quick && not (is_some given.restore) then because.NoRestore option.Quick
    else because.NoRestore option.ReplacedChip

-- the reason of fault 8: an option is given without the operation that it needs
abbrev pub unneeded_reason : Texts → Reason
unneeded_reason given =
    if is_new_content given then journal_option_reason given
    else if given.no_verify then because.NoContent option.NoVerify
    else if given.no_verify_all && not (is_some given.restore) then because.NoComparison
    else if given.unlock then because.NoContent option.Unlock
    else journal_option_reason given

abbrev pub first_unread : Text → Option Text
first_unread text = find (λ piece. not (reads decimal_number piece)) (pieces_of text)

-- Holds if this is the reason of fault 9. If the value of `--rehearse` is correct, the reason is that `-p` has `stop=`.
abbrev pub IsWrongStops : Option Text → Reason → Type 0
IsWrongStops (Some text) (because.Stop piece) = first_unread text ≡ Some piece.now
IsWrongStops (Some text) because.ManyStops = (first_unread text ≡ None) × (stops_of text ≡ None)
IsWrongStops (Some text) because.StopAndRehearse = (first_unread text ≡ None) × (is_some (stops_of text) ≡ true)
IsWrongStops None because.Unsaid = ⊤
IsWrongStops text _ = ⊥

abbrev pub IsProgrammerReason : Option Text → Reason → Type 0
IsProgrammerReason (Some text) reason = IsWrongProgrammer text reason
IsProgrammerReason None reason = reason ≡ because.Unsaid

-- Holds if `reason` is the reason of this fault. The reason is meaningful only if the options have this fault.
abbrev pub IsReason : Texts → UsageFault → Reason → Type 0
IsReason given why.NoProgrammer reason = reason ≡ because.NoProgrammer
IsReason given why.Programmer reason = IsProgrammerReason given.programmer reason
IsReason given why.TwoOperations reason = reason
    ≡ operations_reason (first_given (operation_choices given)) (first_given (reverse (operation_choices given)))
IsReason given why.Range reason =
    IsWrongValue (is_no (reads progress_of) given.progress) (is_no (reads range_of) given.wp_range) given reason
IsReason given why.Journal reason = reason ≡ journal_reason given
IsReason given why.Layout reason = reason ≡ regions_reason given
IsReason given why.Unneeded reason = reason ≡ unneeded_reason given
IsReason given why.Stops reason = IsWrongStops given.rehearse reason
IsReason given _ reason = reason ≡ because.Unsaid

abbrev pub IsOutOfMemory : WrongArguments → Type 0
IsOutOfMemory wrong = (wrong.fault ≡ why.Memory) × (wrong.reason ≡ because.Unsaid)
