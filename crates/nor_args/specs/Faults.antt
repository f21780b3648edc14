-- The usage faults 2 to 9 that options may have if `clap` accepts the arguments, and the messages of faults 2 to 10.
use Rattle.std.specs.Prelude.{◌&&◌, ◌||◌, ◌++◌, ℕ, Bool, false, Option, Some, None, List, [], ◌∷◌, codes, decimal}
use Rattle.std.specs.Prelude.{drop, find, is_some, nat_eq, nat_lt, not, option_map, if◌then◌else◌}
use Rattle.std.specs.List.{list_any}
use Rattle.std.specs.Option.{option_map_or}
use Rattle.std.specs.Str.{bytes_eq}
use Rattle.nor_args.specs.Text.{Text, after_colon, pieces_of, reads}
use Rattle.nor_args.specs.Given.{Texts, asks_change, gives_layout, has_two_layouts, how_many, is_new_content}
use Rattle.nor_args.specs.Given.{operations, progress_of, takes_regions}
use Rattle.nor_args.specs.Numbers.{range_of}
use Rattle.nor_args.specs.Programmer.{has_stop, is_programmer_text}
use Rattle.nor_args.specs.Stops.{stops_of}
use Rattle.nor_args.specs.declared.reasons.OptionName.{OptionName}
use Rattle.nor_args.specs.declared.reasons.OptionName.TheVariants as option
use Rattle.nor_args.specs.declared.words.UsageFault.{UsageFault}
use Rattle.nor_args.specs.declared.words.UsageFault.TheVariants as why

-- a usage fault, and whether the options have this fault
abbrev pub Case : Type 0
Case = Bool × UsageFault

abbrev pub passes_test : (Text → Bool) → Option Text → Bool
passes_test test text = option_map_or test text false

abbrev pub is_no : (Text → Bool) → Option Text → Bool
is_no test = passes_test (λ text. not (test text))

abbrev pub has_wrong_journal : Texts → Bool
has_wrong_journal given =
    not (nat_eq (how_many (is_some given.journal ∷ is_some given.rehearse ∷ [])) (if asks_change given then 1 else 0))

abbrev pub Choosing : Type 0
Choosing = Bool × OptionName

abbrev pub first_given : List Choosing → Option OptionName
first_given choices =
    option_map (λ (choosing : Choosing). choosing.1) (find (λ (choosing : Choosing). choosing.0) choices)

abbrev pub is_dash : Option Text → Bool
is_dash = passes_test (λ text. bytes_eq text (codes "-"))

-- True if `piece`, a part of the value of `-i`, has the form `NAME:-`, so that the region's file is `-`.
abbrev pub has_dash : Text → Bool
has_dash piece = bytes_eq (after_colon piece) (codes "-")

abbrev pub lists_dash : Text → Bool
lists_dash text = list_any has_dash (pieces_of text)

abbrev pub file_choices : Texts → List Choosing
file_choices given =
    (is_dash given.read, option.Read) ∷ (is_dash given.verify, option.Verify) ∷ (is_dash given.write, option.Write)
    ∷ (is_dash given.restore, option.Restore) ∷ (is_dash given.backup, option.Backup)
    ∷ (is_dash given.check_journal, option.CheckJournal) ∷ (is_dash given.extract_image, option.ExtractImage)
    ∷ (is_dash given.journal, option.Journal) ∷ (is_dash given.layout, option.Layout)
    ∷ (passes_test lists_dash given.names, option.Include) ∷ (is_dash given.fmap_file, option.FmapFile)
    ∷ (is_dash given.ifd_file, option.IfdFile) ∷ (is_dash given.log, option.Output) ∷ []

-- the first option in `file_choices` that names the file `-`; always `None` for flashnor, where `-` is an ordinary name
abbrev pub dashed : Texts → Option OptionName
dashed given = if given.hardware then first_given (file_choices given) else None

abbrev pub has_wrong_value : Texts → Bool
has_wrong_value given =
    (is_no (reads range_of) given.wp_range || is_no (reads progress_of) given.progress) || is_some (dashed given)

abbrev pub has_wrong_regions : Texts → Bool
has_wrong_regions given = (gives_layout given || is_some given.names)
    && not (gives_layout given
    && (is_some given.names && (takes_regions given && not (has_two_layouts given))))

abbrev pub lacks_check : Texts → Bool
lacks_check given = is_some given.extract_image && not (is_some given.check_journal)

abbrev pub has_unneeded_for_journal : Texts → Bool
has_unneeded_for_journal given = (given.replaced_chip && not (is_some given.restore)) || lacks_check given

abbrev pub has_unneeded_for_hardware : Texts → Bool
has_unneeded_for_hardware given = (given.no_verify_all && not (is_new_content given || is_some given.restore))
    || ((given.quick && not (is_some given.restore)) || has_unneeded_for_journal given)

abbrev pub has_unneeded : Texts → Bool
has_unneeded given =
    ((given.no_verify || given.unlock) && not (is_new_content given)) || has_unneeded_for_hardware given

-- the usage faults 2 to 9 in this order, and for each fault whether the options have this fault
abbrev pub usage_faults : Texts → List Case
usage_faults given =
    (not (is_some given.programmer) && not given.list, why.NoProgrammer)
    ∷ (is_no is_programmer_text given.programmer, why.Programmer)
    ∷ (nat_lt 1 (operations given), why.TwoOperations)
    ∷ (has_wrong_value given, why.Range)
    ∷ (has_wrong_journal given, why.Journal)
    ∷ (has_wrong_regions given, why.Layout)
    ∷ (has_unneeded given, why.Unneeded)
    ∷ (
      is_no (reads stops_of) given.rehearse
          || (is_some given.rehearse && passes_test has_stop given.programmer),
      why.Stops,
    )
    ∷ []

-- the usage faults 4 to 9, and for each fault whether the options have it if `-p` is ignored
abbrev pub operation_faults : Texts → List Case
operation_faults given = drop 2 (usage_faults (record given { programmer = None }))

abbrev pub first_fault : List Case → Option UsageFault
first_fault [] = None
first_fault (case ∷ cases) = if case.0 then Some case.1 else first_fault cases

abbrev pub usage_fault_number : UsageFault → ℕ
usage_fault_number (why.Words error) = 1
usage_fault_number why.NoProgrammer = 2
usage_fault_number why.Programmer = 3
usage_fault_number why.TwoOperations = 4
usage_fault_number why.Range = 5
usage_fault_number why.Journal = 6
usage_fault_number why.Layout = 7
usage_fault_number why.Unneeded = 8
usage_fault_number why.Stops = 9
usage_fault_number why.Memory = 10

abbrev pub numbered : ℕ → List ℕ
numbered number = codes "Usage fault " ++ (decimal number ++ codes ".")

-- the message of a fault; `None` for fault 1, whose message begins with the message of `clap`
abbrev pub usage_fault_text : UsageFault → Option (List ℕ)
usage_fault_text (why.Words error) = None
usage_fault_text fault = Some (numbered (usage_fault_number fault))
