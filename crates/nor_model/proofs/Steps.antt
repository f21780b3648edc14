use Rattle.std.proofs.Common.{◌≡◌, ◌<◌, ℕ, Bool, true, false, List, [], length, refl, ap, arith}
use Rattle.std.specs.Prelude.{slice_index, if◌then◌else◌}
use Rattle.nor_model.specs.declared.config.Config.{Config}
use Rattle.nor_model.specs.declared.command.Command.{Command}
use Rattle.nor_model.specs.declared.command.Command.TheVariants.{Poll}
use Rattle.nor_model.specs.Chip.{Chip}
use Rattle.nor_model.specs.Command.{command_of}
use Rattle.nor_model.specs.Step.{Step, is_carried_out, is_command, done_of, determined}

pub record Agrees (x y : Chip) : Type 0 where
  pub config : y.config ≡ x.config
  pub kept : y.kept ≡ x.kept
  pub latch : y.latch ≡ x.latch
  pub busy : y.busy ≡ x.busy

carried-agrees : (x y : Chip) (command : Command) → Agrees x y → is_carried_out y command ≡ is_carried_out x command
carried-agrees x y Poll same = refl
carried-agrees x y _ same = cc

pub done-agrees : (x y : Chip) (out : List ℕ) (replies : ℕ) → Agrees x y → done_of y out replies ≡ done_of x out replies
done-agrees x y out replies same = cc (carried-agrees x y (command_of y.config out replies) same)

-- If a transaction sends and reads no bytes, the chip stays as it is.
pub nothing_sent : (chip : Chip) → Step chip [] [] chip
nothing_sent chip = search arith

pub all_determined : (config : Config) (out answer : List ℕ) → is_command config out (length answer) ≡ true
    → determined config out answer ≡ answer
all_determined config out answer is = ap (λ (all : Bool). if all then answer else []) is

same_as : (all : Bool) (answer : List ℕ) (byte : ℕ → ℕ)
    → ((i : ℕ) → i < length answer → slice_index answer i ≡ byte i)
    → (i : ℕ) → i < length (if all then answer else []) → slice_index (if all then answer else []) i ≡ byte i
same_as true answer byte same i below = same i below
same_as false answer byte same i below = absurd (omega (arith, below))

pub determined_as : (config : Config) (out answer : List ℕ) (byte : ℕ → ℕ)
    → ((i : ℕ) → i < length answer → slice_index answer i ≡ byte i)
    → (i : ℕ) → i < length (determined config out answer) → slice_index (determined config out answer) i ≡ byte i
determined_as config out answer byte same = same_as (is_command config out (length answer)) answer byte same
