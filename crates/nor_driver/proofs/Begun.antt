use Rattle.std.proofs.Common.{◌≡◌, ◌⊎◌, ℕ, true, false, not, List, [], ◌∷◌, length, take, cond, ap, ◌∙◌, arith, inl, inr}
use Rattle.std.specs.Prelude.{◌==◌, if◌then◌else◌}
use Rattle.std.proofs.lemmas.Bool.Decides.{eqb_tells, nat_tests}
use Rattle.std.proofs.Math.Bool.{or-false}
use Rattle.nor_model.specs.declared.command.Command.{Command}
use Rattle.nor_model.specs.declared.command.Command.TheVariants.{Ignored}
use Rattle.nor_model.specs.Chip.{Chip, KeptBits}
use Rattle.nor_model.specs.Power.{is_in_work, KeptCut}
use Rattle.nor_model.specs.Step.{Does, is_carried_out, is_idle, is_operation, done_of, byte_after, kept_after, running_after}
use Rattle.nor_model.specs.Bus.{BusState, Carries}
use Rattle.nor_model.proofs.Steps.{done-agrees}
use Rattle.nor_driver.specs.OnlyReads.{Unchanged, KeepsChip, Spent}
use Rattle.nor_driver.specs.Waits.{HasWaited, latch_when_idle}
use Rattle.nor_driver.specs.Operations.{operation_of, AsksForOperation, MayOperate, HasOperated}
use Rattle.nor_driver.proofs.Readings.{Wore, no_operation}

pub record IsEnabled (old new : BusState) : Type 0 where
  pub unchanged : Unchanged old new
  pub busy : new.chip.busy ≡ old.chip.busy
  pub latch : new.chip.latch ≡ (if is_idle old.chip then true else old.chip.latch)
  pub count : Spent 1 old new

pub enabled : (old new : BusState) (answer : List ℕ) → length answer ≡ 0 → Carries (6 ∷ []) answer old new
    → IsEnabled old new
enabled old new [] none carries =
    let nothing = no_operation (done_of old.chip (6 ∷ []) 0) [] [] old new in
    grind (arith, nothing, carries.step, carries.worn)
enabled old new (byte ∷ rest) none carries = absurd (omega arith)

pub then_done : (out : List ℕ) (old ready : BusState) → AsksForOperation out → IsEnabled old ready
    → done_of ready.chip out 0 ≡ operation_of old.chip out
then_done out old ready asks enabling = elim (eqb_tells old.chip.busy 0) [
  | inl idle ↦ done-agrees (record old.chip { latch = true }) ready.chip out 0 (grind arith)
  | inr busy ↦ grind (arith, asks.whole old.chip.config)
]

pub part_done : (out : List ℕ) (old ready : BusState) (count replies : ℕ) → AsksForOperation out
    → IsEnabled old ready → (done_of ready.chip (take count out) replies ≡ Ignored)
    ⊎ (done_of ready.chip (take count out) replies ≡ operation_of old.chip out)
part_done out old ready count replies asks enabling =
    let does = λ (k : Command). cond (is_carried_out ready.chip k) k Ignored in
    elim (asks.begun ready.chip.config count replies) [
      | inl none ↦ inl (ap does none)
      | inr same ↦ inr (ap does same ∙ then_done out old ready asks enabling)
    ]

pub operation-ignored : (chip : Chip) (out : List ℕ) → AsksForOperation out
    → is_operation (operation_of chip out) ≡ false → operation_of chip out ≡ Ignored
operation-ignored chip out asks none = grind (arith, asks.whole chip.config)

pub idle-takes : (chip : Chip) (out : List ℕ) → AsksForOperation out → is_operation (operation_of chip out) ≡ true
    → chip.busy ≡ 0
idle-takes chip out asks is = grind (arith, asks.whole chip.config, nat_tests)

pub record HasBegun (command : Command) (sent : List ℕ) (old new : BusState) : Type 0 where
  pub config : new.chip.config ≡ old.chip.config
  pub bytes : (a : ℕ) → new.chip.bytes a ≡ byte_after old.chip command sent a
  pub kept : new.chip.kept ≡ kept_after old.chip command
  pub running : new.chip.running ≡ running_after old.chip command
  pub latch : new.chip.latch ≡ not (new.chip.busy == 0)
  pub worn : Wore command old new

pub operation-begins : (command : Command) (sent answer : List ℕ) (old ready new : BusState)
    → is_operation command ≡ true → Unchanged old ready → Does command sent ready.chip answer new.chip
    → Wore command ready new → HasBegun command sent old new
operation-begins command sent answer old ready new is same does wore = grind (arith, same.same.bytes, same.worn, wore)

outside-work : (chip : Chip) (command : Command) (sent : List ℕ) (a : ℕ)
    → is_in_work (running_after chip command) a ≡ false → is_operation command ≡ true
    → byte_after chip command sent a ≡ chip.bytes a
outside-work chip command sent a out is = grind arith

kept-cut : (command : Command) (old : Chip) (begun new : KeptBits) → is_operation command ≡ true
    → begun ≡ kept_after old command → KeptCut (running_after old command) begun new
    → (new ≡ old.kept) ⊎ (new ≡ kept_after old command)
kept-cut command old begun new is kept cut = grind arith

pub may-before : (command : Command) (sent : List ℕ) (old new : BusState) → old.chip.busy ≡ 0 → KeepsChip old new
    → MayOperate command sent old new
may-before command sent old new idle stays = grind (arith, stays.steady_or_idle (inr idle))

pub may-after : (command : Command) (sent : List ℕ) (old begun new : BusState) → is_operation command ≡ true
    → begun.steady ≡ old.steady → HasBegun command sent old begun → KeepsChip begun new → MayOperate command sent old new
may-after command sent old begun new is steady has stays =
    let outside = outside-work old.chip command sent in
    let kept = kept-cut command old.chip begun.chip.kept new.chip.kept is has.kept in
    grind (arith, stays.steady_or_idle, has.bytes, stays.bytes, outside, stays.worn, has.worn, or-false, kept)

pub may-unsteady : (command : Command) (sent part : List ℕ) (old new : BusState) → old.steady ≡ false
    → MayOperate command part old new → MayOperate command sent old new
may-unsteady command sent part old new unsteady may = grind (arith, may.bytes, may.worn)

pub operated : (command : Command) (sent : List ℕ) (old begun new : BusState) (waited : _)
    → HasBegun command sent old begun → HasWaited begun new waited → HasOperated command sent old new
operated command sent old begun new waited has waits = grind (arith, nat_tests)

pub latch-kept : (old ready begun : BusState) → IsEnabled old ready → begun.chip.latch ≡ ready.chip.latch
    → begun.chip.busy ≡ ready.chip.busy → latch_when_idle begun.chip ≡ is_idle old.chip
latch-kept old ready begun enabling latch busy = grind (arith, nat_tests)
