-- The regions of `-i` with a file of their own (`NAME:FILE`), and the replacement of an image's bytes by these files.
use Rattle.std.specs.Prelude.{◌≡◌, ◌≢◌, ◌⊎◌, ◌++◌, ◌+◌, ◌≤◌, ◌<◌, ◌==◌, ℕ, true, All, List, [], ◌∷◌, Option, None, Some}
use Rattle.std.specs.Prelude.{drop, length, map, option_map, take}
use Rattle.std.specs.Borrow.{Bor}
use Rattle.std.specs.List.{Any, before_first, filter_map, join_by, position, slice_split}
use Rattle.nor_files.specs.Files.{View}
use Rattle.nor_layout.specs.Included.{are_known, is_included}
use Rattle.nor_layout.specs.Ranges.{contains}
use Rattle.nor_layout.specs.declared.ranges.Span.{Span}
use Rattle.nor_layout.specs.declared.region.Region.{Region}
use Rattle.nor_request.specs.declared.refusal.Refusal.TheVariants.{Memory}
use Rattle.nor_args.specs.Text.{Text}
use Rattle.nor_args.specs.declared.job.Regions.{Regions}
use Rattle.nor_args.specs.declared.job.Task.{Task}
use Rattle.nor_args.specs.declared.job.Task.TheVariants as task
use Rattle.nor_console.specs.Files.{IsReadingFault}
use Rattle.nor_console.specs.Requests.{AreRangesOf, FailsToReadLayout, IsLayoutOf, IsUnknown, first_unknown}
use Rattle.nor_console.specs.Stored.{IsRead}
use Rattle.nor_console.specs.declared.messages.Fault.{Fault}
use Rattle.nor_console.specs.declared.messages.Fault.TheVariants as end
use Rattle.board_files.specs.declared.region_faults.RegionFault.TheVariants as wrong
use Rattle.board_files.specs.declared.region_files.RegionFile.{RegionFile}
use Rattle.board_files.specs.declared.early_ends.EarlyEnd.{EarlyEnd}
use Rattle.board_files.specs.declared.early_ends.EarlyEnd.TheVariants as early

abbrev pub regions_of : Task → Option Regions
regions_of (task.Read file regions) = regions
regions_of (task.Verify file regions) = regions
regions_of (task.Change change) = change.regions
regions_of _ = None

abbrev pub entries_of : Text → List Text
entries_of = slice_split (λ byte. byte == 44)

-- The name of a region in an entry of `-i`: the bytes before the first colon, or all bytes if it has none.
abbrev pub name_in : Text → Text
name_in = before_first (λ byte. byte == 58)

abbrev pub pair_in : Text → Option (Text × Text)
pair_in entry = option_map (λ at. (take at entry, drop (at + 1) entry)) (position (λ byte. byte == 58) entry)

abbrev pub names_in : Text → Text
names_in text = join_by (λ name. name) (44 ∷ []) (map name_in (entries_of text))

abbrev pub files_in : Text → List (Text × Text)
files_in text = filter_map pair_in (entries_of text)

abbrev pub with_names : Bor Text → Regions → Regions
with_names names regions = record { layout = regions.layout; form = regions.form; names = names }

-- Holds if `span` has the addresses of the region `name`. `shown` has the bytes of the layout if it is on the chip.
abbrev pub IsSpanOf : View → (shown : Option (List ℕ)) → Regions → Bor Text → Span → Type 0
IsSpanOf view shown regions name span = AreRangesOf view shown (Some (with_names name regions)) (Some (span ∷ []))

abbrev pub named_file : RegionFile → Text × Text
named_file region = (region.name.now, region.file.now)

-- Holds if `files` lists the regions of `-i` that have a file, in the order of `-i`, each with its addresses.
pub record AreFilesOf (view : View) (shown : Option (List ℕ)) (regions : Regions) (files : List RegionFile)
    : Type 0 where
  pub entries : map named_file files ≡ files_in regions.names.now
  pub spans : All (λ region. IsSpanOf view shown regions region.name region.span) files

abbrev pub AreFilesIn : View → (shown : Option (List ℕ)) → Option Regions → List RegionFile → Type 0
AreFilesIn view shown None files = files ≡ []
AreFilesIn view shown (Some regions) files = AreFilesOf view shown regions files

-- Holds if the region `name` is in the layout and has exactly the addresses in `ranges`.
pub record AreRangesIn (layout : List Region) (name : Text) (ranges : List Span) : Type 0 where
  pub known : are_known layout name ≡ true
  pub union : (a : ℕ) → contains ranges a ≡ is_included layout name a

-- Holds for layout fault 8 of a region that isn't in the layout, or whose addresses aren't one span.
abbrev pub FailsToFindSpan : List Region → Bor Text → Fault → Type 0
FailsToFindSpan layout name (end.NoRegion unknown) = (first_unknown layout name.now ≡ Some unknown.now)
    ⊎ ((unknown ≡ name) × ((ranges : List Span) × AreRangesIn layout name.now ranges × (length ranges ≢ 1)))
FailsToFindSpan layout name fault = ⊥

abbrev pub FailsToFindFiles : List Region → Fault → Type 0
FailsToFindFiles layout fault =
    (fault ≡ end.Refused Memory) ⊎ ((name : Bor Text) × FailsToFindSpan layout name fault)

-- Holds if finding these regions may fail with this fault. `names` are the regions without their files.
abbrev pub FailsToFindIn : View → (shown : Option (List ℕ)) → (names : Bor Text) → Regions → EarlyEnd → Type 0
FailsToFindIn view shown names regions (early.Fault fault) = FailsToReadLayout view shown regions fault
    ⊎ ((layout : List Region) × IsLayoutOf view shown regions layout × FailsToFindFiles layout fault)
FailsToFindIn view shown names regions (early.NoRegion name known) =
    IsUnknown view shown (with_names names regions) name.now
FailsToFindIn view shown names regions _ = ⊥

abbrev pub FailsToFindRegions : View → (shown : Option (List ℕ)) → (names : Bor Text) → Option Regions → EarlyEnd
    → Type 0
FailsToFindRegions view shown names None fault = ⊥
FailsToFindRegions view shown names (Some regions) fault = FailsToFindIn view shown names regions fault

-- Holds if the region's file is as long as the region, and `new` is `old` with the bytes of this file at the region's
-- addresses.
pub record IsReplaced (view : View) (region : RegionFile) (old new : List ℕ) : Type 0 where
  pub content : List ℕ
  pub read : IsRead view region.file.now 16777217 content
  pub fits : region.span.first + length content ≡ region.span.last + 1
  pub inside : region.span.last < length old
  pub same : new ≡ take region.span.first old ++ (content ++ drop (region.span.last + 1) old)

-- Holds if `new` is `old` with the bytes of each region replaced in turn. If regions overlap, the later file wins.
abbrev pub AreReplaced : View → List RegionFile → (old new : List ℕ) → Type 0
AreReplaced view [] old new = new ≡ old
AreReplaced view (region ∷ rest) old new =
    (next : List ℕ) × IsReplaced view region old next × AreReplaced view rest next new

-- Holds if the region's file has `found` bytes (at most 16,777,217 are counted), but the region has another number of
-- bytes (`wanted`).
pub record HasOtherLength (view : View) (region : RegionFile) (name : Bor Text) (found wanted : ℕ) : Type 0 where
  pub named : name ≡ region.file
  pub content : List ℕ
  pub read : IsRead view region.file.now 16777217 content
  pub counted : found ≡ length content
  pub region_length : region.span.first + wanted ≡ region.span.last + 1
  pub differs : found ≢ wanted

pub record EndsBefore (region : RegionFile) (image : Bor Text) (len : ℕ) (name of : Bor Text) : Type 0 where
  pub image_named : name ≡ image
  pub region_named : of ≡ region.name
  pub ends : region.span.first ≤ region.span.last + 1 → len < region.span.last + 1

abbrev pub FailsToReplaceOne : View → Bor Text → RegionFile → (len : ℕ) → EarlyEnd → Type 0
FailsToReplaceOne view image region len (early.Fault fault) = IsReadingFault view region.file.now 16777217 fault
FailsToReplaceOne view image region len (early.Region (wrong.Length name found wanted)) =
    HasOtherLength view region name found wanted
FailsToReplaceOne view image region len (early.Region (wrong.Short name of)) =
    EndsBefore region image len name of
FailsToReplaceOne view image region len _ = ⊥

abbrev pub FailsToReplace : View → Bor Text → List RegionFile → (len : ℕ) → EarlyEnd → Type 0
FailsToReplace view image files len fault = Any (λ region. FailsToReplaceOne view image region len fault) files
