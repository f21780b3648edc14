-- The files of a job: their roles, and the contents that are read before the job starts.
use Rattle.std.specs.Prelude.{◌≡◌, ◌⊎◌, ◌&&◌, ℕ, Bool, true, false, List, [], Option, None, Some, option_map, ⊤}
use Rattle.std.specs.Borrow.{Bor}
use Rattle.nor_files.specs.Files.{Nature, View}
use Rattle.nor_files.specs.Files.Failure.{There}
use Rattle.nor_args.specs.Text.{Text}
use Rattle.nor_args.specs.declared.job.Operation.{Operation}
use Rattle.nor_args.specs.declared.job.JournalUse.{JournalUse}
use Rattle.nor_args.specs.declared.job.JournalUse.TheVariants as uses
use Rattle.nor_args.specs.declared.job.Task.{Task}
use Rattle.nor_args.specs.declared.job.Task.TheVariants as task
use Rattle.nor_args.specs.declared.job.Regions.{Regions}
use Rattle.nor_args.specs.declared.job.Wanted.{Wanted}
use Rattle.nor_args.specs.declared.job.Wanted.TheVariants as wanted
use Rattle.nor_layout.specs.declared.ranges.Span.{Span}
use Rattle.nor_jobs.specs.Sources.{FailsImage, IsImage, IsInvalid}
use Rattle.nor_console.specs.Files.{IsReadingFault, IsSharingFault}
use Rattle.nor_console.specs.Requests.{AreRangesOf}
use Rattle.nor_console.specs.Roles.{FailsApart, FailsUnprinted}
use Rattle.nor_console.specs.Tasks.{named_by}
use Rattle.nor_console.specs.Stored.{AreTwo, Happens, IsRead}
use Rattle.nor_console.specs.declared.messages.Fault.{Fault}
use Rattle.nor_console.specs.declared.messages.Fault.TheVariants as end
use Rattle.nor_console.specs.declared.messages.FileFault.TheVariants as file
use Rattle.board_files.specs.Images.{AreAdapted, FailsToAdapt}
use Rattle.board_files.specs.Regions.{AreFilesIn, AreReplaced, FailsToReplace, names_in, regions_of, with_names}
use Rattle.board_files.specs.Tasks.{is_compared}
use Rattle.board_files.specs.declared.region_files.RegionFile.{RegionFile}
use Rattle.board_files.specs.declared.early_ends.EarlyEnd.{EarlyEnd}
use Rattle.board_files.specs.declared.early_ends.EarlyEnd.TheVariants as early

-- Holds if the device and the files in `named_by job` are apart, except that the layout and the image may be one file.
pub record HaveOneRole (nature : Nature) (device : Bor Text) (job : Task) : Type 0 where
  pub device_layout : AreTwo nature (Some device) (named_by job).layout
  pub device_wanted : AreTwo nature (Some device) (named_by job).wanted
  pub device_output : AreTwo nature (Some device) (named_by job).output
  pub device_journal : AreTwo nature (Some device) (named_by job).journal
  pub layout_output : AreTwo nature (named_by job).layout (named_by job).output
  pub layout_journal : AreTwo nature (named_by job).layout (named_by job).journal
  pub wanted_journal : AreTwo nature (named_by job).wanted (named_by job).journal

abbrev pub FailsDevice : Nature → Bor Text → Task → Fault → Type 0
FailsDevice nature device job fault = FailsApart nature (Some device) (named_by job).layout fault
    ⊎ (FailsApart nature (Some device) (named_by job).wanted fault
    ⊎ (FailsApart nature (Some device) (named_by job).output fault
    ⊎ FailsApart nature (Some device) (named_by job).journal fault))

abbrev pub FailsFiles : Nature → Task → Fault → Type 0
FailsFiles nature job fault = FailsApart nature (named_by job).layout (named_by job).output fault
    ⊎ (FailsApart nature (named_by job).layout (named_by job).journal fault
    ⊎ FailsApart nature (named_by job).wanted (named_by job).journal fault)

abbrev pub FailsRoles : Nature → Bor Text → Task → Fault → Type 0
FailsRoles nature device job fault = FailsDevice nature device job fault
    ⊎ (FailsFiles nature job fault
    ⊎ (FailsUnprinted nature (named_by job).output fault ⊎ FailsUnprinted nature (named_by job).journal fault))

pub record HasOwnLog (nature : Nature) (device : Bor Text) (job : Task) (log : Option (Bor Text)) : Type 0 where
  pub device_log : AreTwo nature (Some device) log
  pub layout_log : AreTwo nature (named_by job).layout log
  pub wanted_log : AreTwo nature (named_by job).wanted log
  pub output_log : AreTwo nature (named_by job).output log
  pub journal_log : AreTwo nature (named_by job).journal log

abbrev pub FailsLogRole : Nature → Bor Text → Task → Option (Bor Text) → Fault → Type 0
FailsLogRole nature device job log fault = FailsApart nature (Some device) log fault
    ⊎ (FailsApart nature (named_by job).layout log fault
    ⊎ (FailsApart nature (named_by job).wanted log fault
    ⊎ (FailsApart nature (named_by job).output log fault
    ⊎ (FailsApart nature (named_by job).journal log fault ⊎ FailsUnprinted nature log fault))))

abbrev pub IsThere : View → JournalUse → Fault → Type 0
IsThere view (uses.Journal name) (end.File file.Exists of cause) = (of.now ≡ name.now) × Happens view (There name.now)
IsThere view _ fault = ⊥

-- Holds for file fault 4 of a change whose journal may exist, or for the fault of a restore's invalid journal.
abbrev pub FailsCheck : View → Task → Fault → Type 0
FailsCheck view (task.Change change) fault = IsThere view change.journal_use fault
FailsCheck view (task.Restore journal) fault = IsInvalid view journal.now fault
FailsCheck view _ fault = ⊥

-- Holds if `bytes` are the contents of the job's image or journal, or are empty because the job reads neither.
abbrev pub AreBytes : View → Task → List ℕ → Type 0
AreBytes view (task.Verify file regions) bytes = IsRead view file.now 16793662 bytes
AreBytes view (task.Change change) bytes = IsImage view change.wanted bytes
AreBytes view (task.Restore journal) bytes = IsRead view journal.now 16793662 bytes
AreBytes view _ bytes = bytes ≡ []

abbrev pub FailsToReadBytes : View → Task → Fault → Type 0
FailsToReadBytes view (task.Verify file regions) fault = IsReadingFault view file.now 16793662 fault
FailsToReadBytes view (task.Change change) fault = FailsImage view change.wanted fault
FailsToReadBytes view (task.Restore journal) fault = IsSharingFault view journal.now 16793662 fault
FailsToReadBytes view _ fault = ⊥

abbrev pub AreReplacedIn : View → (image : Option (Bor Text)) → List RegionFile → (old new : List ℕ) → Type 0
AreReplacedIn view None files old new = new ≡ old
AreReplacedIn view (Some image) files old new = AreReplaced view files old new

pub record AreUsed (view : View) (replaced : Bool) (job : Task) (whole : List ℕ) : Type 0 where
  pub found : List ℕ
  pub read : AreBytes view job found
  pub adapted : AreAdapted replaced job found whole

-- Holds if `bytes` are the contents of the job's image or journal, adapted (`AreAdapted`), or are empty because the job
-- reads neither. In an image, each region that has a file has the bytes of this file instead.
pub record ArePreparedBytes (view : View) (is_replaced : Bool) (job : Task) (files : List RegionFile)
    (bytes : List ℕ) : Type 0 where
  pub whole : List ℕ
  pub used : AreUsed view is_replaced job whole
  pub replaced : AreReplacedIn view (named_by job).wanted files whole bytes

abbrev pub FailsToReplaceIn : View → (image : Option (Bor Text)) → List RegionFile → (len : ℕ) → EarlyEnd → Type 0
FailsToReplaceIn view None files len fault = ⊥
FailsToReplaceIn view (Some image) files len fault = FailsToReplace view image files len fault

abbrev pub FailsToUse : View → (replaced : Bool) → Task → EarlyEnd → Type 0
FailsToUse view replaced job fault =
    (found : List ℕ) × AreBytes view job found × FailsToAdapt replaced job found fault

abbrev pub FailsToReadOrCheck : View → Task → EarlyEnd → Type 0
FailsToReadOrCheck view job (early.Fault fault) = FailsToReadBytes view job fault ⊎ FailsCheck view job fault
FailsToReadOrCheck view job fault = ⊥

abbrev pub FailsToReadSource : View → (replaced : Bool) → Task → EarlyEnd → Type 0
FailsToReadSource view replaced job fault = FailsToReadOrCheck view job fault ⊎ FailsToUse view replaced job fault

abbrev pub ArePlainNames : Option Regions → Text → Type 0
ArePlainNames None names = ⊤
ArePlainNames (Some regions) names = names ≡ names_in regions.names.now

abbrev pub named_regions : Bor Text → Task → Option Regions
named_regions names job = option_map (with_names names) (regions_of job)

-- Holds if `ranges` has the addresses of the job's regions, and `files` lists the regions with files of their own.
pub record AreJobRegions (view : View) (shown : Option (List ℕ)) (job : Task) (files : List RegionFile)
    (ranges : Option (List Span)) : Type 0 where
  pub names : Bor Text
  pub plain : ArePlainNames (regions_of job) names.now
  pub included : AreRangesOf view shown (named_regions names job) ranges
  pub files_in : AreFilesIn view shown (regions_of job) files

abbrev pub writes_image : Wanted → Bool
writes_image (wanted.Write image) = true
writes_image _ = false

-- True if the job ends with a comparison of the chip with an image: for `-v`, and for `-w` without `-n` and `-N`.
abbrev pub ends_with_image : Operation → Task → Bool
ends_with_image operation (task.Verify file regions) = true
ends_with_image operation (task.Change change) = is_compared operation change && writes_image change.wanted
ends_with_image operation _ = false

-- Holds for `None`, or for `bytes` if the job ends with a comparison of the chip with an image.
abbrev pub MayExpectImage : Operation → (bytes : List ℕ) → Option (List ℕ) → Type 0
MayExpectImage operation bytes None = ⊤
MayExpectImage operation bytes (Some image) = (ends_with_image operation operation.task ≡ true) × (image ≡ bytes)
