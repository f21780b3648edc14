-- The emulated chip that a run opens, and the bus to it.
use Rattle.std.specs.Prelude.{◌≡◌, ◌⊎◌, ◌/◌, ◌%◌, ◌==◌, ◌∷◌, [], ℕ, List, true, false, Option, Some, None, IsSomeAnd}
use Rattle.std.specs.Prelude.{is_none, replicate, slice_index, unwrap_or}
use Rattle.std.specs.Borrow.{Bor}
use Rattle.nor_model.specs.Bus.{BusState}
use Rattle.nor_model.specs.Chip.{Chip, kept_in}
use Rattle.nor_chip.specs.Sim.{fill_of, pace_of, sim_state}
use Rattle.nor_chip.specs.Start.{AreChipBytes}
use Rattle.nor_model.specs.Chip.{status_of}
use Rattle.nor_model.specs.declared.config.Config.{Config}
use Rattle.nor_chip.specs.declared.sim.SimBus.{SimBus}
use Rattle.nor_request.specs.declared.refusal.Refusal.TheVariants.{Memory}
use Rattle.nor_args.specs.Programmer.{IsConfigOfEmulated}
use Rattle.nor_args.specs.declared.programmer.Emulated.{Emulated}
use Rattle.nor_args.specs.declared.programmer.Programmer.{Programmer}
use Rattle.nor_args.specs.Text.{Text}
use Rattle.nor_files.specs.Files.{FilesState, View}
use Rattle.nor_console.specs.Stored.{AreOfFile, ArePut}
use Rattle.nor_console.specs.Files.{IsLockingFault, IsOpeningFault}
use Rattle.flashnor.specs.Found.{emulated_part}
use Rattle.flashnor.specs.declared.chips.Content.{Content}
use Rattle.nor_console.specs.declared.messages.Fault.{Fault}
use Rattle.nor_console.specs.declared.messages.Fault.TheVariants as end

-- Holds if `config` is that of the emulated chip, with the given unique ID (eight zero bytes if none is given).
abbrev pub IsConfigWith : Emulated → Option (List ℕ) → Config → Type 0
IsConfigWith chip None config = IsConfigOfEmulated chip config
IsConfigWith chip (Some unique) config =
    IsConfigOfEmulated chip (record config { unique = replicate 8 0 }) × (config.unique ≡ unique)

abbrev pub allowance_of : Programmer → ℕ
allowance_of programmer = unwrap_or programmer.stop 18446744073709551615

-- Holds if the bus is well-behaved and punctual with the allowance of `stop=`, has no further types, its emulated chip
-- is idle, and nothing that may modify a chip was sent. The bus is steady if and only if `power=` is missing.
pub record IsReady (programmer : Programmer) (bus : BusState) : Type 0 where
  pub config : IsConfigWith programmer.chip programmer.unique bus.chip.config
  pub idle : bus.chip.busy ≡ 0
  pub left : bus.left ≡ allowance_of programmer
  pub honest : bus.honest ≡ true
  pub punctual : bus.punctual ≡ true
  pub steady : bus.steady ≡ is_none programmer.power
  pub further : bus.further ≡ false
  pub unsent : bus.sent ≡ []

-- Holds if a run reads `content` from the chip's files. A missing image is all FFh, a missing status file two zeros.
pub record IsContentOf (view : View) (programmer : Programmer) (content : Content) : Type 0 where
  pub bytes : AreOfFile view programmer.image (emulated_part programmer.chip).size
      (replicate (emulated_part programmer.chip).size 255) content.bytes.items
  pub status : AreOfFile view programmer.status 2 (0 ∷ 0 ∷ []) content.status

pub record HasContent (content : Content) (chip : Chip) : Type 0 where
  pub bytes : (a : ℕ) → chip.bytes a ≡ slice_index content.bytes.items a
  pub kept : chip.kept ≡ kept_in content.status
  pub latch : chip.latch ≡ (slice_index content.status 0 / 2 % 2 == 1)

pub record OpensChip (programmer : Programmer) (content : Content) (bus : BusState) : Type 0 where
  pub ready : IsReady programmer bus
  pub holds : HasContent content bus.chip

pub record HoldsFiles (programmer : Programmer) (content : Content) (bus : BusState) : Type 0 where
  pub config : IsConfigWith programmer.chip programmer.unique bus.chip.config
  pub idle : bus.chip.busy ≡ 0
  pub honest : bus.honest ≡ true
  pub punctual : bus.punctual ≡ true
  pub further : bus.further ≡ false
  pub unsent : bus.sent ≡ []
  pub bytes : (a : ℕ) → bus.chip.bytes a ≡ slice_index content.bytes.items a
  pub kept : bus.chip.kept ≡ kept_in content.status
  pub latch : bus.chip.latch ≡ (slice_index content.status 0 / 2 % 2 == 1)

-- Holds if the bus is ready (`IsReady`), its chip has this content, and the bus has the values of `busy=` and `power=`.
pub record StartsBus (programmer : Programmer) (content : Content) (bus : SimBus) : Type 0 where
  pub opens : OpensChip programmer content (sim_state bus)
  pub pace : pace_of bus ≡ unwrap_or programmer.busy 0
  pub fill : fill_of bus ≡ programmer.power

abbrev pub FailsToOpen : View → Programmer → Fault → Type 0
FailsToOpen view programmer fault = (fault ≡ end.Refused Memory)
    ⊎ (IsSomeAnd programmer.image (λ name. IsOpeningFault view name.now (emulated_part programmer.chip).size fault)
    ⊎ IsSomeAnd programmer.status (λ name. IsOpeningFault view name.now 2 fault))

abbrev pub FailsToHold : View → Programmer → Fault → Type 0
FailsToHold view programmer fault = (fault ≡ end.Refused Memory)
    ⊎ (IsSomeAnd programmer.image (λ name. IsLockingFault view name.now (emulated_part programmer.chip).size fault)
    ⊎ IsSomeAnd programmer.status (λ name. IsLockingFault view name.now 2 fault))

-- Holds if the chip's bytes and status bytes are durable in the chip's files (or the files don't obey their contract).
-- `image` and `status`, if given, name the exceptions: files that could not be written.
pub record AreWrittenBack (programmer : Programmer) (chip : Chip) (image status : Option (Bor Text))
    (files : FilesState) : Type 0 where
  pub bytes : List ℕ
  pub are : AreChipBytes chip bytes
  pub image_put : ArePut programmer.image bytes image files
  pub status_put : ArePut programmer.status (status_of chip) status files
