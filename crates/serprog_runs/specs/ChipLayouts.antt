-- A layout on the chip itself (`--fmap`, `--ifd`), which is read from the chip before the job.
use Rattle.std.specs.Prelude.{◌≡◌, ◌⊎◌, ℕ, List, [], ◌∷◌, Option, None, Some, Ok}
use Rattle.std.specs.Borrow.{Bor}
use Rattle.nor_model.specs.Bus.{BusState}
use Rattle.nor_layout.specs.Ranges.{IsSetOf}
use Rattle.nor_layout.specs.declared.ranges.Span.{Span}
use Rattle.nor_probe.specs.declared.probes.Found.{Found}
use Rattle.nor_probe.specs.declared.table.ChipName.{ChipName}
use Rattle.nor_request.specs.declared.refusal.Refusal.{Refusal}
use Rattle.nor_request.specs.declared.report.Report.{Report}
use Rattle.nor_args.specs.Text.{Text}
use Rattle.nor_args.specs.declared.job.LayoutForm.{LayoutForm}
use Rattle.nor_args.specs.declared.job.LayoutForm.TheVariants as form
use Rattle.nor_args.specs.declared.job.Regions.{Regions}
use Rattle.nor_console.specs.declared.messages.Fault.{Fault}
use Rattle.nor_console.specs.declared.messages.Fault.TheVariants as end
use Rattle.nor_jobs.specs.Finding.{FailsToFind, HasIdentified}
use Rattle.serprog_runs.specs.Connected.{Seen, device_of}
use Rattle.serprog_board.specs.Unused.{IsUnused}
use Rattle.board_jobs.specs.Following.{FailsInMemory, HasReadToMemory}
use Rattle.board_jobs.specs.Sends.{KeepsSent}
use Rattle.serprog_runs.specs.declared.connected.Connected.{Connected}

abbrev pub form_of_shown : Regions → (file : Option (Bor Text)) → Option LayoutForm
form_of_shown regions None = Some regions.form
form_of_shown regions (Some file) = None

abbrev pub form_on_chip : Option Regions → Option LayoutForm
form_on_chip None = None
form_on_chip (Some regions) = form_of_shown regions regions.layout

abbrev pub descriptor_span : Span
descriptor_span = record { first = 0; last = 4095 }

-- Holds if `ranges` must be read for a layout of this form: the first 4 KiB of the chip for a flash descriptor,
-- otherwise the whole chip (`None`).
abbrev pub AreReadFor : LayoutForm → (ranges : Option (List Span)) → Type 0
AreReadFor form.Descriptor None = ⊥
AreReadFor form.Descriptor (Some spans) = IsSetOf (descriptor_span ∷ []) spans
AreReadFor _ ranges = ranges ≡ None

pub record HasFoundFirst (named : Option ChipName) (layout : LayoutForm) (old : BusState) : Type 0 where
  pub found : BusState
  pub chip : Found
  pub identified : HasIdentified named old found (Ok chip)
  pub ranges : Option (List Span)
  pub for_layout : AreReadFor layout ranges

-- Holds if the chip was identified and then read into memory for a layout of this form. `bytes` are the bytes read.
pub record HasReadLayout (named : Option ChipName) (layout : LayoutForm) (old new : BusState) (bytes : List ℕ)
    : Type 0 where
  pub first : HasFoundFirst named layout old
  pub report : Report
  pub read : HasReadToMemory named first.ranges first.found new bytes (Ok report)

pub record HasNoLayout (named : Option ChipName) (layout : LayoutForm) (old new : BusState) (fault : Fault)
    : Type 0 where
  pub first : HasFoundFirst named layout old
  pub refusal : Refusal
  pub fails : FailsInMemory named first.ranges first.found new refusal
  pub is : fault ≡ end.Refused refusal

abbrev pub FailsToReadShown : Option ChipName → LayoutForm → (old new : BusState) → Fault → Type 0
FailsToReadShown named layout old new fault = FailsToFind named old new fault ⊎ HasNoLayout named layout old new fault

-- Holds if `bytes` were read for a layout of this form over a new bus to `device`. The state of this bus was first that
-- of `start` and then `last`. This bus expects no image, and no modifying command was sent over this bus.
pub record IsReadFirst {B : Type 0} (seen : Seen B) (device : Text) (named : Option ChipName) (layout : LayoutForm)
    (bytes : List ℕ) : Type 0 where
  pub start : Connected B
  pub same_device : device_of start ≡ device
  pub fresh : IsUnused (seen.state start)
  pub finds : seen.finds start
  pub unexpecting : seen.expected start ≡ None
  pub last : BusState
  pub read : HasReadLayout named layout (seen.state start) last bytes
  pub sends : KeepsSent (seen.state start) last

-- With a layout on the chip: holds if `shown` are the bytes read for it. Otherwise: holds if `shown` is `None`.
abbrev pub IsShown : {B : Type 0} → Seen B → (device : Text) → Option ChipName → Option LayoutForm
    → (shown : Option (List ℕ)) → Type 0
IsShown seen device named None shown = shown ≡ None
IsShown seen device named (Some layout) None = ⊥
IsShown seen device named (Some layout) (Some bytes) = IsReadFirst seen device named layout bytes
