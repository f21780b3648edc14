-- Lemmas: after a harmless transaction, or a loss of power, a chip can still be restored by each journal that could.
use Rattle.std.proofs.Common.{◌≡◌, ◌≤◌, ◌∙◌, ℕ, Bool, true, false, List, [], ◌∷◌, zero, suc, refl, sym, ap, subst, arith, inl, take, length}
use Rattle.std.specs.Prelude.{if◌then◌else◌}
use Rattle.std.proofs.lemmas.Bool.Decides.{nat_tests}
use Rattle.nor_model.specs.declared.config.Config.{Config}
use Rattle.nor_model.specs.declared.command.Command.{Command}
use Rattle.nor_model.specs.declared.command.Command.TheVariants.{Ignored}
use Rattle.nor_model.specs.Chip.{Chip}
use Rattle.nor_model.specs.Command.{command_of}
use Rattle.nor_model.specs.Power.{PowerLost}
use Rattle.nor_model.specs.Step.{Step, Does, done_of, is_carried_out, is_operation}
use Rattle.nor_model.specs.Bus.{BusState}
use Rattle.nor_journal.specs.Text.{Content}
use Rattle.nor_session.specs.Headline.{CanRestore}
use Rattle.nor_session.proofs.InTurn.{lost_can_restore}
use Rattle.nor_serprog.specs.Harmless.{begins_harmless, is_harmless_opcode}
use Rattle.serprog_board.specs.Looking.{IsRestorableChip}

-- Holds if only BUSY and WEL of the chip changed, and no operation began.
pub record IsLookedAt (old new : Chip) : Type 0 where
  pub config : new.config ≡ old.config
  pub bytes : (a : ℕ) → new.bytes a ≡ old.bytes a
  pub kept : new.kept ≡ old.kept
  pub running : new.running ≡ old.running
  pub busy : new.busy ≤ old.busy

harmless_asks : (config : Config) (opcode : ℕ) (rest : List ℕ) (replies : ℕ) → is_harmless_opcode opcode ≡ true
    → is_operation (command_of config (opcode ∷ rest) replies) ≡ false
harmless_asks config opcode [] replies harmless = grind (arith, nat_tests)
harmless_asks config opcode (x ∷ []) replies harmless = refl
harmless_asks config opcode (x ∷ y ∷ []) replies harmless = grind (arith, nat_tests)
harmless_asks config opcode (x ∷ y ∷ z ∷ []) replies harmless = grind (arith, nat_tests)
harmless_asks config opcode (x ∷ y ∷ z ∷ fifth ∷ []) replies harmless = grind (arith, nat_tests)
harmless_asks config opcode (x ∷ y ∷ z ∷ fifth ∷ sixth ∷ rest) replies harmless = grind (arith, nat_tests)

harmless_whole : (config : Config) (out : List ℕ) (replies : ℕ) → begins_harmless out ≡ true
    → is_operation (command_of config out replies) ≡ false
harmless_whole config [] replies harmless = refl
harmless_whole config (opcode ∷ rest) replies harmless = harmless_asks config opcode rest replies harmless

harmless_part : (config : Config) (count : ℕ) (out : List ℕ) (replies : ℕ) → begins_harmless out ≡ true
    → is_operation (command_of config (take count out) replies) ≡ false
harmless_part config zero out replies harmless = refl
harmless_part config (suc n) [] replies harmless = refl
harmless_part config (suc n) (opcode ∷ rest) replies harmless =
    harmless_asks config opcode (take n rest) replies harmless

none_either : (test : Bool) (command : Command) → is_operation command ≡ false
    → is_operation (if test then command else Ignored) ≡ false
none_either true command none = none
none_either false command none = refl

none_done : (chip : Chip) (out : List ℕ) (replies : ℕ) → is_operation (command_of chip.config out replies) ≡ false
    → is_operation (done_of chip out replies) ≡ false
none_done chip out replies none =
    let command = command_of chip.config out replies in none_either (is_carried_out chip command) command none

none_begun : (command : Command) (sent answer : List ℕ) (old new : Chip) → is_operation command ≡ false
    → Does command sent old answer new → IsLookedAt old new
none_begun command sent answer old new none does = grind arith

pub looked_at : (out answer : List ℕ) (old new : Chip) → begins_harmless out ≡ true → Step old out answer new
    → IsLookedAt old new
looked_at out answer old new harmless step =
    none_begun _ _ _ old new
    (none_done old out (length answer) (harmless_whole old.config out (length answer) harmless)) step

pub part_looked_at : (count : ℕ) (out answer : List ℕ) (old new : Chip) → begins_harmless out ≡ true
    → Step old (take count out) answer new → IsLookedAt old new
part_looked_at count out answer old new harmless step =
    none_begun _ _ _ old new
    (none_done old (take count out) (length answer) (harmless_part old.config count out (length answer) harmless)) step

pub looked_restorable : (further : Bool) (journal : Content) (first old new : Chip) → IsLookedAt old new
    → IsRestorableChip further journal first old → IsRestorableChip further journal first new
looked_restorable further journal first old new looked can = λ state same none.
    let before : BusState = record state { chip = old } in
    let was : CanRestore journal first before = can before refl none in
    let less = looked.busy in
    record {
      known = was.known;
      saves = was.saves;
      within = record {
        config = ap (λ (c : Chip). c.config) same ∙ looked.config ∙ was.within.config;
        bytes = λ a outside. ap (λ (c : Chip). c.bytes a) same ∙ looked.bytes a ∙ was.within.bytes a outside;
        fixed = rw (same, looked.kept) was.within.fixed;
        kept = λ locked. ap (λ (c : Chip). c.kept) same ∙ looked.kept ∙ was.within.kept locked;
        runs = λ unsteady busy.
            let busy_is : state.chip.busy ≡ new.busy = ap (λ (c : Chip). c.busy) same in
            rw (same, looked.running)
            (was.within.runs unsteady (λ idle. busy (omega (arith, busy_is, less, idle))));
      };
    }

pub lost_restorable : (further : Bool) (journal : Content) (first old new : Chip) → PowerLost old new
    → IsRestorableChip further journal first old → IsRestorableChip further journal first new
lost_restorable further journal first old new lost can = λ state same none.
    let before : BusState = record state { chip = old; steady = false } in
    let P : Chip → Type 0 = λ c. PowerLost old c in
    lost_can_restore journal first before state (can before refl none)
    (record { further = refl; known = inl refl; lost = subst P (sym same) lost })
