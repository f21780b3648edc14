-- The request that a change makes to a session, and the results of reading the layout of a job's regions.
use Rattle.std.specs.Prelude.{◌≡◌, ◌<◌, ◌≤◌, ◌⊎◌, ℕ, true, List, Option, Some, None, Ok, Err, find, length, not, ⊤}
use Rattle.std.specs.Borrow.{Bor}
use Rattle.nor_layout.specs.declared.fault.LayoutFault.{LayoutFault}
use Rattle.nor_layout.specs.declared.fault.LayoutFault.TheVariants as layout
use Rattle.nor_layout.specs.declared.ranges.Span.{Span}
use Rattle.nor_layout.specs.declared.region.Region.{Region}
use Rattle.nor_layout.specs.Grammar.{IsLayout}
use Rattle.nor_layout.specs.Included.{are_known, is_included, names_of}
use Rattle.nor_layout.specs.Ranges.{contains}
use Rattle.nor_layout.specs.Text.{AsksMemory, is_region_named, layout_says}
use Rattle.nor_maps.specs.Descriptor.{AsksInDescriptor, descriptor_says}
use Rattle.nor_maps.specs.Fmap.{AsksInFmap, fmap_says}
use Rattle.nor_maps.specs.Records.{ReadsTable}
use Rattle.nor_probe.specs.declared.table.ChipName.{ChipName}
use Rattle.nor_request.specs.declared.request.Request.{Request}
use Rattle.nor_request.specs.declared.request.What.{What}
use Rattle.nor_request.specs.declared.request.What.TheVariants as what
use Rattle.nor_args.specs.Text.{Text}
use Rattle.nor_args.specs.declared.job.Change.{Change}
use Rattle.nor_args.specs.declared.job.LayoutForm.{LayoutForm}
use Rattle.nor_args.specs.declared.job.LayoutForm.TheVariants as form
use Rattle.nor_args.specs.declared.job.Regions.{Regions}
use Rattle.nor_args.specs.declared.job.Wanted.{Wanted}
use Rattle.nor_args.specs.declared.job.Wanted.TheVariants as wanted
use Rattle.nor_args.specs.declared.reasons.Reason.TheVariants as because
use Rattle.nor_args.specs.declared.words.UsageFault.TheVariants as usage
use Rattle.nor_console.specs.Stored.{IsRead}
use Rattle.nor_files.specs.Files.{View}
use Rattle.nor_console.specs.Files.{IsReadingFault, IsTooLong}
use Rattle.nor_console.specs.LayoutWords.{in_words}
use Rattle.nor_console.specs.declared.layout_words.Place.TheVariants as place
use Rattle.nor_console.specs.declared.messages.Fault.{Fault}
use Rattle.nor_console.specs.declared.messages.Fault.TheVariants as end

abbrev pub what_of : Wanted → What
what_of (wanted.Write image) = what.Write
what_of wanted.Erase = what.Erase
what_of (wanted.Range start len) = what.WpRange start len

abbrev pub request_for : Change → Option ChipName → Option (List Span) → Request
request_for change named ranges = record {
  what = what_of change.wanted;
  named = named;
  included = ranges;
  unlock = change.unlock;
  verify = change.verify;
}

abbrev pub any_size : ℕ
any_size = 4294967295

-- Holds if `text` is a layout of this form with these regions, which may lie outside the chip.
abbrev pub HasLayout : LayoutForm → (text : List ℕ) → List Region → Type 0
HasLayout form.Lines text regions = IsLayout text regions
HasLayout form.Words text regions = IsLayout (in_words place.Start text) regions
HasLayout form.Fmap text regions = fmap_says any_size text ≡ Ok regions
HasLayout form.Descriptor text regions = descriptor_says any_size text ≡ Ok regions

-- Holds if `names` are regions of the layout `text`, and `ranges` contain exactly the addresses of these regions.
pub record AreIncluded (form : LayoutForm) (text names : List ℕ) (ranges : List Span) : Type 0 where
  pub regions : List Region
  pub layout : HasLayout form text regions
  pub known : are_known regions names ≡ true
  pub union : (a : ℕ) → contains ranges a ≡ is_included regions names a

-- Holds if `text` has at most 16 MiB, and is the content of the layout's file (any content if `IsKnownFile` isn't true)
-- or, without a file, what the chip returned (`shown`).
abbrev pub IsLayoutText : View → (shown : Option (List ℕ)) → (file : Option (Bor Text)) → (text : List ℕ) → Type 0
IsLayoutText view shown (Some name) text = IsRead view name.now 16777217 text × (length text ≤ 16777216)
IsLayoutText view shown None text = (shown ≡ Some text) × (length text ≤ 16777216)

pub record IsLayoutOf (view : View) (shown : Option (List ℕ)) (regions : Regions) (layout : List Region) : Type 0 where
  pub text : List ℕ
  pub read : IsLayoutText view shown regions.layout text
  pub has : HasLayout regions.form text layout

pub record AreOfLayout (view : View) (shown : Option (List ℕ)) (regions : Regions) (ranges : List Span) : Type 0 where
  pub text : List ℕ
  pub read : IsLayoutText view shown regions.layout text
  pub included : AreIncluded regions.form text regions.names.now ranges

abbrev pub AreRangesOf : View → (shown : Option (List ℕ)) → Option Regions → Option (List Span) → Type 0
AreRangesOf view shown None ranges = ranges ≡ None
AreRangesOf view shown (Some regions) None = ⊥
AreRangesOf view shown (Some regions) (Some ranges) = AreOfLayout view shown regions ranges

pub record IsNoLayout (text : List ℕ) (fault : LayoutFault) : Type 0 where
  pub none : (regions : List Region) → ¬ IsLayout text regions
  pub first : layout_says text ≡ Err fault

abbrev pub first_unknown : List Region → (names : List ℕ) → Option (List ℕ)
first_unknown regions names = find (λ name. not (is_region_named regions name)) (names_of names)

pub record IsUnknown (view : View) (shown : Option (List ℕ)) (regions : Regions) (name : Text) : Type 0 where
  pub layout : List Region
  pub read : IsLayoutOf view shown regions layout
  pub first : first_unknown layout regions.names.now ≡ Some name

abbrev pub IsUnparsed : (text : List ℕ) → LayoutFault → Type 0
IsUnparsed text layout.Memory = AsksMemory text
IsUnparsed text layout.NoRegion = ⊥
IsUnparsed text fault = IsNoLayout text fault

-- Holds if parsing `text` as a layout of this form may fail with this fault.
abbrev pub LacksLayout : LayoutForm → (text : List ℕ) → Fault → Type 0
LacksLayout form.Lines text (end.Layout fault) = IsUnparsed text fault
LacksLayout form.Words text (end.Layout fault) =
    IsUnparsed (in_words place.Start text) fault ⊎ (fault ≡ layout.Memory)
LacksLayout form.Fmap text (end.Map fault) =
    ReadsTable (fmap_says any_size text) (AsksInFmap any_size text) (Err fault)
LacksLayout form.Descriptor text (end.Map fault) =
    ReadsTable (descriptor_says any_size text) (AsksInDescriptor any_size text) (Err fault)
LacksLayout form text fault = ⊥

pub record IsLayoutFault (view : View) (shown : Option (List ℕ)) (regions : Regions) (fault : Fault) : Type 0 where
  pub text : List ℕ
  pub read : IsLayoutText view shown regions.layout text
  pub why : LacksLayout regions.form text fault

abbrev pub LacksShown : (shown : Option (List ℕ)) → Type 0
LacksShown None = ⊤
LacksShown (Some bytes) = 16777216 < length bytes

abbrev pub LacksText : View → (shown : Option (List ℕ)) → (file : Option (Bor Text)) → Fault → Type 0
LacksText view shown (Some name) fault =
    IsReadingFault view name.now 16777217 fault ⊎ IsTooLong view name.now 16777216 fault
LacksText view shown None (end.Usage usage.Layout because.Unsaid) = LacksShown shown
LacksText view shown None fault = ⊥

abbrev pub FailsToReadLayout : View → (shown : Option (List ℕ)) → Regions → Fault → Type 0
FailsToReadLayout view shown regions (end.Layout fault) = IsLayoutFault view shown regions (end.Layout fault)
FailsToReadLayout view shown regions (end.Map fault) = IsLayoutFault view shown regions (end.Map fault)
FailsToReadLayout view shown regions (end.NoRegion name) = ⊥
FailsToReadLayout view shown regions fault = LacksText view shown regions.layout fault

abbrev pub FailsToInclude : View → (shown : Option (List ℕ)) → Option Regions → Fault → Type 0
FailsToInclude view shown None fault = ⊥
FailsToInclude view shown (Some regions) (end.NoRegion name) = IsUnknown view shown regions name.now
FailsToInclude view shown (Some regions) fault = FailsToReadLayout view shown regions fault
