-- The values of the options in the arguments.
use Rattle.std.specs.Prelude.{◌&&◌, ◌||◌, ℕ, Bool, true, false, Option, Some, None, List, [], ◌∷◌, codes, is_some}
use Rattle.std.specs.Prelude.{nat_lt, not, option_and_then, option_map, unwrap_or, if◌then◌else◌}
use Rattle.std.specs.List.{count_by, join_by}
use Rattle.std.specs.Option.{option_map_or, option_or}
use Rattle.std.specs.Str.{bytes_eq}
use Rattle.clap.specs.Words.{Row, all_of, count_of, first_of, matches_of}
use Rattle.nor_args.specs.Text.{Text}
use Rattle.nor_args.specs.Options.{hardware_options, options}
use Rattle.nor_args.specs.declared.given.Given.{Given}
use Rattle.nor_args.specs.declared.job.LayoutForm.{LayoutForm}
use Rattle.nor_args.specs.declared.job.LayoutForm.TheVariants as form
use Rattle.nor_args.specs.declared.job.ProgressMode.{ProgressMode}
use Rattle.nor_args.specs.declared.job.ProgressMode.TheVariants as mode

-- The values of options: `None` or false if an option isn't given. `names` is the value of `-i` (for hardware, all its
-- values joined with commas), `log` that of `-o`.
pub record Texts : Type 0 where
  pub programmer : Option Text
  pub chip : Option Text
  pub list : Bool
  pub flash_size : Bool
  pub flash_name : Bool
  pub wp_status : Bool
  pub wp_list : Bool
  pub read : Option Text
  pub verify : Option Text
  pub write : Option Text
  pub erase : Bool
  pub wp_range : Option Text
  pub restore : Option Text
  pub backup : Option Text
  pub check_journal : Option Text
  pub extract_image : Option Text
  pub wp_enable : Bool
  pub wp_disable : Bool
  pub quick : Bool
  pub replaced_chip : Bool
  pub journal : Option Text
  pub rehearse : Option Text
  pub layout : Option Text
  pub fmap_file : Option Text
  pub ifd_file : Option Text
  pub names : Option Text
  pub fmap : Bool
  pub ifd : Bool
  pub no_verify : Bool
  pub no_verify_all : Bool
  pub unlock : Bool
  pub progress : Option Text
  pub verbose : Bool
  pub log : Option Text
  -- True for a program for hardware, which accepts no file with the name `-`.
  pub hardware : Bool

abbrev pub is_flag_set : Option Text → Bool
is_flag_set value = option_map_or (λ text. bytes_eq text (codes "true")) value false

abbrev pub text_in : List Row → Text → Option Text
text_in rows id = first_of id rows

-- the values of the option `id` in the rows of a parse by `clap`, joined with commas; `None` without a value
abbrev pub joined_in : List Row → Text → Option Text
joined_in rows id = option_map (join_by (λ text. text) (codes ",")) (all_of id rows)

abbrev pub is_set_in : List Row → Text → Bool
is_set_in rows id = is_flag_set (first_of id rows)

abbrev pub given_in : List Row → Texts
given_in rows = record {
  programmer = text_in rows (codes "programmer");
  chip = text_in rows (codes "chip");
  list = is_set_in rows (codes "list");
  flash_size = is_set_in rows (codes "flash-size");
  flash_name = false;
  wp_status = is_set_in rows (codes "wp-status");
  wp_list = is_set_in rows (codes "wp-list");
  read = text_in rows (codes "read");
  verify = text_in rows (codes "verify");
  write = text_in rows (codes "write");
  erase = is_set_in rows (codes "erase");
  wp_range = text_in rows (codes "wp-range");
  restore = text_in rows (codes "restore");
  backup = None;
  check_journal = None;
  extract_image = None;
  wp_enable = false;
  wp_disable = false;
  quick = false;
  replaced_chip = false;
  journal = text_in rows (codes "journal");
  rehearse = text_in rows (codes "rehearse");
  layout = text_in rows (codes "layout");
  fmap_file = None;
  ifd_file = None;
  names = text_in rows (codes "include");
  fmap = false;
  ifd = false;
  no_verify = is_set_in rows (codes "noverify");
  no_verify_all = false;
  unlock = is_set_in rows (codes "unlock");
  progress = None;
  verbose = false;
  log = None;
  hardware = false;
}

abbrev pub given_by : List Text → Texts
given_by words = given_in (matches_of options words)

abbrev pub hardware_given_in : List Row → Texts
hardware_given_in rows = record (given_in rows) {
  rehearse = None;
  flash_name = is_set_in rows (codes "flash-name");
  backup = text_in rows (codes "backup");
  check_journal = text_in rows (codes "check-journal");
  extract_image = text_in rows (codes "extract-image");
  wp_enable = is_set_in rows (codes "wp-enable");
  wp_disable = is_set_in rows (codes "wp-disable");
  quick = is_set_in rows (codes "quick");
  replaced_chip = is_set_in rows (codes "replaced-chip");
  fmap_file = text_in rows (codes "fmap-file");
  ifd_file = text_in rows (codes "ifd-file");
  names = joined_in rows (codes "include");
  fmap = is_set_in rows (codes "fmap");
  ifd = is_set_in rows (codes "ifd");
  no_verify_all = is_set_in rows (codes "noverify-all");
  progress = text_in rows (codes "progress");
  verbose = nat_lt 0 (count_of (codes "verbose") rows);
  log = text_in rows (codes "output");
  hardware = true;
}

abbrev pub hardware_given_by : (program : Text) → List Text → Texts
hardware_given_by program words = hardware_given_in (matches_of (hardware_options program) words)

-- the options in the code's type `Given`, with each text as its bytes
abbrev pub texts_of : Given → Texts
texts_of given = record {
  programmer = option_map (λ text. text.now) given.programmer;
  chip = option_map (λ text. text.now) given.chip;
  list = given.list;
  flash_size = given.flash_size;
  flash_name = given.flash_name;
  wp_status = given.wp_status;
  wp_list = given.wp_list;
  read = option_map (λ text. text.now) given.read;
  verify = option_map (λ text. text.now) given.verify;
  write = option_map (λ text. text.now) given.write;
  erase = given.erase;
  wp_range = option_map (λ text. text.now) given.wp_range;
  restore = option_map (λ text. text.now) given.restore;
  backup = option_map (λ text. text.now) given.backup;
  check_journal = option_map (λ text. text.now) given.check_journal;
  extract_image = option_map (λ text. text.now) given.extract_image;
  wp_enable = given.wp_enable;
  wp_disable = given.wp_disable;
  quick = given.quick;
  replaced_chip = given.replaced_chip;
  journal = option_map (λ text. text.now) given.journal;
  rehearse = option_map (λ text. text.now) given.rehearse;
  layout = option_map (λ text. text.now) given.layout;
  fmap_file = option_map (λ text. text.now) given.fmap_file;
  ifd_file = option_map (λ text. text.now) given.ifd_file;
  names = option_map (λ text. text.now) given.names;
  fmap = given.fmap;
  ifd = given.ifd;
  no_verify = given.no_verify;
  no_verify_all = given.no_verify_all;
  unlock = given.unlock;
  progress = option_map (λ text. text.now) given.progress;
  verbose = given.verbose;
  log = option_map (λ text. text.now) given.log;
  hardware = given.is_hardware;
}

abbrev pub how_many : List Bool → ℕ
how_many = count_by (λ asked. asked)

abbrev pub operations : Texts → ℕ
operations given = how_many (
    given.list ∷ given.flash_size ∷ given.flash_name ∷ given.wp_status ∷ given.wp_list
    ∷ is_some given.read ∷ is_some given.verify
    ∷ is_some given.write ∷ given.erase ∷ is_some given.wp_range ∷ is_some given.restore
    ∷ is_some given.backup ∷ is_some given.check_journal ∷ given.wp_enable ∷ given.wp_disable ∷ [])

-- the value of `-l`, else that of `--fmap-file`, else that of `--ifd-file`, or `None` without these options
abbrev pub layout_file : Texts → Option Text
layout_file given = option_or given.layout (option_or given.fmap_file given.ifd_file)

abbrev pub layouts_given : Texts → List Bool
layouts_given given =
    is_some given.layout ∷ is_some given.fmap_file ∷ is_some given.ifd_file ∷ given.fmap ∷ given.ifd ∷ []

abbrev pub gives_layout : Texts → Bool
gives_layout given = is_some (layout_file given) || (given.fmap || given.ifd)

abbrev pub has_two_layouts : Texts → Bool
has_two_layouts given = nat_lt 1 (how_many (layouts_given given))

abbrev pub layout_form : Texts → LayoutForm
layout_form given =
    if is_some given.layout then (if given.hardware then form.Words else form.Lines)
    else if is_some given.fmap_file || given.fmap then form.Fmap else form.Descriptor

abbrev pub progress_of : Text → Option ProgressMode
progress_of text =
    if bytes_eq text (codes "auto") then Some mode.Auto
    else if bytes_eq text (codes "plain") then Some mode.Plain
    else if bytes_eq text (codes "none") then Some mode.Hidden
    else None

abbrev pub progress_mode : Texts → ProgressMode
progress_mode given = unwrap_or (option_and_then progress_of given.progress) mode.Auto

abbrev pub srp0_of : Texts → Option Bool
srp0_of given = if given.wp_enable then Some true else if given.wp_disable then Some false else None

abbrev pub output_of : Texts → Option Text
output_of given = option_or given.read given.backup

abbrev pub is_new_content : Texts → Bool
is_new_content given = is_some given.write || given.erase

abbrev pub asks_change : Texts → Bool
asks_change given = is_new_content given || is_some given.wp_range

abbrev pub is_on_chip : Texts → Bool
is_on_chip given = not (is_some given.check_journal) && not given.list

abbrev pub takes_regions : Texts → Bool
takes_regions given = is_some given.read || (is_some given.verify || is_new_content given)
