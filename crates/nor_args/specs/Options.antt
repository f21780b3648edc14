-- The options of flashnor and of programs for hardware, as rules of `clap`.
use Rattle.std.specs.Prelude.{◌≡◌, ◌&&◌, Bool, true, false, List, [], ◌∷◌, ◌++◌, None, Some, codes, fold, is_some}
use Rattle.std.specs.Prelude.{map, not, slice_get, if◌then◌else◌}
use Rattle.std.specs.List.{filter}
use Rattle.std.specs.Str.{bytes_eq}
use Rattle.clap.specs.Words.{App, Rule, new_app, new_rule, rule_of, with_rule}
use Rattle.clap.specs.declared.builder.arg.Arg.{Arg}
use Rattle.clap.specs.declared.builder.action.ArgAction.TheVariants.{Append, Count, Set, SetTrue, HelpShort, Version}
use Rattle.clap.specs.declared.builder.range.ValueRange.{ValueRange}
use Rattle.nor_args.specs.declared.options.Choice.{Choice}
use Rattle.nor_args.specs.Text.{Text}

abbrev pub valued : Text → Rule
valued id = record (new_rule id) { action = Some Set; value_names = 1 }

abbrev pub flag : Text → Rule
flag id = record (new_rule id) { action = Some SetTrue }

abbrev pub by_letter : Text → Rule → Rule
by_letter letter rule = record rule { short = slice_get letter 0 }

abbrev pub by_name : Rule → Rule
by_name rule = record rule { long = Some rule.id }

abbrev pub chip_rules : List Rule
chip_rules =
    by_letter (codes "p") (valued (codes "programmer"))
    ∷ by_letter (codes "c") (valued (codes "chip"))
    ∷ by_letter (codes "L") (flag (codes "list"))
    ∷ []

abbrev pub reader_rules : List Rule
reader_rules =
    by_name (flag (codes "flash-size"))
    ∷ by_name (flag (codes "wp-status"))
    ∷ by_name (flag (codes "wp-list"))
    ∷ by_letter (codes "r") (valued (codes "read"))
    ∷ by_letter (codes "v") (valued (codes "verify"))
    ∷ []

abbrev pub change_rules : List Rule
change_rules =
    by_letter (codes "w") (valued (codes "write"))
    ∷ by_letter (codes "E") (flag (codes "erase"))
    ∷ by_name (valued (codes "wp-range"))
    ∷ by_name (valued (codes "restore"))
    ∷ []

abbrev pub manner_rules : List Rule
manner_rules =
    by_name (valued (codes "journal"))
    ∷ by_name (valued (codes "rehearse"))
    ∷ by_letter (codes "l") (valued (codes "layout"))
    ∷ by_letter (codes "i") (valued (codes "include"))
    ∷ by_letter (codes "n") (flag (codes "noverify"))
    ∷ by_name (flag (codes "unlock"))
    ∷ []

abbrev pub help_rule : Rule
help_rule = by_letter (codes "h") (record (new_rule (codes "usage")) { action = Some HelpShort })

-- all options of flashnor except `-h`: the rows of the table `CHOICES` in src/options.rt describe them
abbrev pub most_rules : List Rule
most_rules = chip_rules ++ reader_rules ++ change_rules ++ manner_rules

pub record IsOption (option : Rule) (arg : Arg) : Type 0 where
  pub rule : rule_of arg ≡ option
  pub local : arg.global ≡ false

-- the `clap` command of a program, without options: `clap` expects no program's name, and adds no help option
abbrev pub no_options_of : Text → App
no_options_of program = let app = new_app program in
    record app { top = record app.top { no_binary_name = true; disable_help_flag = true } }

abbrev pub no_options : App
no_options = no_options_of (codes "flashnor")

abbrev pub with_rules : App → List Rule → App
with_rules = fold with_rule

abbrev pub options : App
options =
    with_rule (with_rules (with_rules (with_rules (with_rules no_options chip_rules) reader_rules) change_rules)
    manner_rules) help_rule

abbrev pub is_for_hardware : Text → Bool
is_for_hardware id = not (bytes_eq id (codes "rehearse"))

-- the options, except `-R`, that only programs for hardware have; `hardware_form` adds the missing long names
abbrev pub own_rules : List Rule
own_rules =
    by_name (valued (codes "backup"))
    ∷ by_letter (codes "N") (flag (codes "noverify-all"))
    ∷ by_name (flag (codes "quick"))
    ∷ by_name (flag (codes "replaced-chip"))
    ∷ by_name (flag (codes "flash-name"))
    ∷ by_name (valued (codes "check-journal"))
    ∷ by_name (valued (codes "extract-image"))
    ∷ by_name (flag (codes "wp-enable"))
    ∷ by_name (flag (codes "wp-disable"))
    ∷ by_name (valued (codes "fmap-file"))
    ∷ by_name (valued (codes "ifd-file"))
    ∷ by_name (flag (codes "fmap"))
    ∷ by_name (flag (codes "ifd"))
    ∷ by_name (valued (codes "progress"))
    ∷ by_letter (codes "V") (flag (codes "verbose"))
    ∷ by_letter (codes "o") (valued (codes "output"))
    ∷ []

abbrev pub no_hardware_options_of : (program : Text) → App
no_hardware_options_of program = let app = no_options_of program in
    record app { top = record app.top { has_version = true; disable_version_flag = true } }

abbrev pub at_most_one : ValueRange
at_most_one = record { start_inclusive = 0; end_inclusive = 1 }

abbrev pub long_form : Rule → Rule
long_form rule =
    if bytes_eq rule.id (codes "progress")
    then record (by_name rule) { range = Some at_most_one; missing = codes "auto" ∷ [] }
    else if bytes_eq rule.id (codes "list") then record rule { long = Some (codes "list-supported") } else by_name rule

abbrev pub repeated_names : Rule → Rule
repeated_names rule = record (by_name rule) { action = Some Append; aliases = codes "image" ∷ [] }

-- the form of the option `rule` in programs for hardware, in which each option has a long name
abbrev pub hardware_form : Rule → Rule
hardware_form rule =
    if bytes_eq rule.id (codes "include") then repeated_names rule
    else if bytes_eq rule.id (codes "verbose") then record (by_name rule) { action = Some Count }
    else long_form rule

abbrev pub for_hardware : List Rule → List Rule
for_hardware rules = map hardware_form (filter (λ rule. is_for_hardware rule.id) rules)

abbrev pub version_rule : Rule
version_rule = record (by_letter (codes "R") (new_rule (codes "release"))) {
  long = Some (codes "version");
  action = Some Version;
}

abbrev pub hardware_help_rule : Rule
hardware_help_rule = record help_rule { long = Some (codes "help") }

-- the options of a program for hardware: `most_rules` without `--rehearse`, then `own_rules`, `-R` and `-h`
abbrev pub hardware_options : (program : Text) → App
hardware_options program =
    let shared = with_rules (no_hardware_options_of program) (for_hardware most_rules) in
    with_rule (with_rule (with_rules shared (for_hardware own_rules)) version_rule) hardware_help_rule

abbrev pub named : Choice → Rule
named choice = record (new_rule choice.name.now) {
  short = choice.letter;
  long = if is_some choice.letter then None else Some choice.name.now;
}

-- the option that `choice` describes; it takes a value if `choice.value` is a placeholder
abbrev pub chosen : Choice → Rule
chosen choice = record (named choice) {
  action = Some (if is_some choice.value then Set else SetTrue);
  value_names = if is_some choice.value then 1 else 0;
}

abbrev pub with_choice : App → Choice → App
with_choice app choice = with_rule app (chosen choice)

abbrev pub with_hardware_choice : App → Choice → App
with_hardware_choice app choice =
    if is_for_hardware choice.name.now then with_rule app (hardware_form (chosen choice)) else app
