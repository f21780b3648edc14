use Rattle.std.proofs.Common.{◌≡◌, ◌<◌, ◌≤◌, ◌+◌, ◌*◌, ◌%◌, ◌∙◌, ℕ, true, false, cond, List, [], ◌∷◌, length, refl, arith}
use Rattle.std.proofs.Math.Nat.{mod-eq_of_lt}
use Rattle.std.proofs.Math.Bool.{or-false, and-true}
use Rattle.nor_model.specs.declared.config.Config.{Config}
use Rattle.nor_model.specs.declared.command.Command.TheVariants.{Program, Ignored}
use Rattle.nor_model.specs.Chip.{Chip}
use Rattle.nor_model.specs.Command.{address_of}
use Rattle.nor_model.specs.Step.{is_idle}
use Rattle.nor_model.specs.Sent.{with_sent}
use Rattle.nor_model.specs.Bus.{BusState}
use Rattle.nor_model.proofs.PageBytes.{byte_after-program}
use Rattle.nor_driver.specs.Operations.{operation_of, IsCommandAt, MayOperate, HasOperated, LeavesOperation, Operates, command_operation}
use Rattle.nor_driver.specs.Programs.{takes_program, MayProgram, HasProgrammed, SendsProgram, page_program}
use Rattle.nor_driver.proofs.Taken.{IsFor, asked_at, leaves_as, does_as}

pub same_address : (config : Config) (x y z at : ℕ) → 65536 * x + 256 * y + z ≡ at → at < config.size
    → address_of config x y z ≡ at
same_address config x y z at names below = rw names (mod-eq_of_lt below)

program_command : (chip : Chip) (x y z at : ℕ) (sent : List ℕ) → 65536 * x + 256 * y + z ≡ at → at < chip.config.size
    → 0 < length sent → operation_of chip (0x02 ∷ x ∷ y ∷ z ∷ sent) ≡ cond (takes_program chip at) (Program at) Ignored
program_command chip x y z at [] names below some = absurd (omega arith)
program_command chip x y z at (byte ∷ []) names below some =
    rw (same_address chip.config x y z at names below, and-true (is_idle chip)) refl
program_command chip x y z at (byte ∷ next ∷ rest) names below some =
    rw (same_address chip.config x y z at names below, and-true (is_idle chip)) refl

module _ (at : ℕ) (sent : List ℕ) (fits : at % 256 + length sent ≤ 256) (old new : BusState) where
  may_program : MayOperate (Program at) sent old new → MayProgram at sent old new
  may_program may =
      let byte = λ (a : ℕ). byte_after-program old.chip at sent a fits in
      grind (arith, byte)

  has_programmed : HasOperated (Program at) sent old new → HasProgrammed at sent old new
  has_programmed has =
      let byte = λ (a : ℕ). byte_after-program old.chip at sent a fits in
      grind (arith, byte, or-false)

module _ (at : ℕ) (sent command : List ℕ) (sends : IsCommandAt 0x02 at sent command) (some : 0 < length sent)
    (fits : at % 256 + length sent ≤ 256) (old new : BusState) where
  asked : at < old.chip.config.size
      → operation_of old.chip command ≡ cond (takes_program old.chip at) (Program at) Ignored
  asked below = rw sends.4 (program_command old.chip sends.0 sends.1 sends.2 at sent sends.3 below some)

  program_asked : IsFor command sent (Program at) (page_program at sent) old.chip
  program_asked = record {
    sectors = rw (sends.4, sends.3) (λ s targeted. targeted);
    programmed = rw (sends.4, sends.3) (λ a byte is. is);
    status = rw sends.4 (λ one two is. is);
    numbers = rw sends.4 (refl, refl, refl);
    bytes = rw sends.4 refl;
    operates = refl;
    takes = λ can.
        let takes : takes_program old.chip at ≡ true = rw (can.idle, can.free) refl in
        asked_at _ true _ (asked (omega (arith, can.inside))) takes;
    refuses = λ ignores. asked_at _ false _ (asked ignores.0) ignores.1;
  }

  pub leaves_program : LeavesOperation (command_operation command) old new
      → LeavesOperation (page_program at sent) old new
  leaves_program leaves = leaves_as program_asked (λ may can. may_program at sent fits old new may) leaves

  pub sends_program : new.sent ≡ with_sent command ((0x06 ∷ []) ∷ old.sent) → SendsProgram at sent old new
  sends_program added = record {
    out = command;
    added = added ∙ rw sends.4 refl;
    programs = sends;
  }

  pub does_program : (count : ℕ) → Operates (command_operation command) old new count
      → Operates (page_program at sent) old new count
  does_program count does = does_as program_asked (λ has can. has_programmed at sent fits old new has) count does
