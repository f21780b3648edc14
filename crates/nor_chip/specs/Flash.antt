use Rattle.std.specs.Prelude.{◌≡◌, ◌<◌, ◌/◌, ◌%◌, ◌==◌, ◌&&◌, ℕ, true, List, length, not, slice_index, if◌then◌else◌}
use Rattle.nor_model.specs.declared.command.Command.{Command}
use Rattle.nor_model.specs.declared.running.Running.{Running}
use Rattle.nor_chip.specs.declared.sim.flash.Flash.{Flash}
use Rattle.nor_model.specs.Chip.{Chip}
use Rattle.nor_model.specs.Power.{is_known_running, is_in_work, kept_before}
use Rattle.nor_model.specs.Step.{is_operation, done_of, reply_byte}

abbrev pub chip_of : Flash → Chip
chip_of flash = record {
  config = flash.config;
  bytes = λ a. slice_index flash.bytes.items a;
  kept = record { one = flash.kept.one.0 / 4; two = flash.kept.two.0 };
  latch = flash.latch;
  busy = flash.busy;
  running = flash.running;
}

pub record Begins (runs : Running) (polls : ℕ) (old new : Chip) : Type 0 where
  pub config : new.config ≡ old.config
  pub bytes : (a : ℕ) → new.bytes a ≡ old.bytes a
  pub kept : new.kept ≡ old.kept
  pub busy : new.busy ≡ polls
  pub running : new.running ≡ runs
  pub latch : new.latch ≡ not (new.busy == 0)

pub record CutsOff (fill : ℕ) (old new : Chip) : Type 0 where
  pub config : new.config ≡ old.config
  pub bytes : (a : ℕ)
      → new.bytes a ≡ (if is_known_running old.running && is_in_work old.running a then fill else old.bytes a)
  pub kept : new.kept ≡ (if fill % 2 == 0 then kept_before old else old.kept)

pub record Paces (command : Command) (old new : Flash) : Type 0 where
  pub each : new.each ≡ old.each
  pub busy : is_operation command ≡ true → new.busy ≡ old.each

-- Holds if the reply has the bytes that the model names, also FFh for a transaction that is no command of the model.
pub record IsWholeReply (out answer : List ℕ) (old : Chip) : Type 0 where
  pub same : (i : ℕ) → i < length answer → slice_index answer i ≡ reply_byte old (done_of old out (length answer)) i
