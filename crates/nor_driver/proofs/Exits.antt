-- The effect of an operation at each of its exits: a stop at the write enable or command, a failed wait, or success.
use Rattle.std.proofs.Common.{◌≡◌, ◌+◌, ◌∙◌, ◌⊎◌, ℕ, true, false, List, [], ◌∷◌, length, drop, take, ap, refl, sym, subst, arith, inl, inr}
use Rattle.std.proofs.Math.Bool.{or-true}
use Rattle.nor_model.specs.declared.command.Command.{Command}
use Rattle.nor_model.specs.Exchange.{Exchange}
use Rattle.nor_model.specs.History.{replied}
use Rattle.nor_model.specs.Sent.{is_stirred, with_sent}
use Rattle.nor_model.specs.Step.{Does, is_operation, done_of, determined}
use Rattle.nor_model.specs.Bus.{BusState, KeepsNature, IsHonestFor, AtStop, Stops, Carries}
use Rattle.nor_model.proofs.Nature.{nature_then}
use Rattle.nor_driver.proofs.Sends.{Sends}
use Rattle.nor_driver.specs.declared.waits.Waited.{Waited}
use Rattle.nor_driver.specs.OnlyReads.{Unchanged, KeepsChip, Falls, OnlyReads}
use Rattle.nor_driver.specs.Polls.{PollsUntilReady}
use Rattle.nor_driver.specs.Waits.{Waits}
use Rattle.nor_driver.specs.Reads.{HasRead}
use Rattle.nor_driver.specs.Limits.{Limits, limits_of, SendsWithin}
use Rattle.nor_driver.specs.Operations.{operation_of, AsksForOperation, most_operation, MayOperate, SendsOperation, LeavesOperation, Operates, command_operation}
use Rattle.nor_driver.proofs.Limits.{enable_sends, command_sends, command_exactly, still_stirred, sends_same, exactly_same}
use Rattle.nor_driver.proofs.Cuts.{stays_after, unchanged_then}
use Rattle.nor_driver.proofs.Torn.{Wore, IsAsBefore, still_or_torn, still_stays, reached, reached_stays, none_begun, enable_stays}
use Rattle.nor_driver.proofs.Polled.{replied_then}
use Rattle.nor_driver.proofs.Readings.{carried_ignored}
use Rattle.nor_driver.proofs.Begun.{IsEnabled, enabled, then_done, part_done, operation-ignored, idle-takes, HasBegun, operation-begins, may-before, may-after, may-unsteady, operated, latch-kept}

record Stirs (limits : Limits) (old new : BusState) : Type 0 where
  pub nature : KeepsNature old new
  pub stirred : is_stirred new.sent ≡ true
  pub sends : SendsWithin limits old new

module _ (out : List ℕ) (asks : AsksForOperation out) (old : BusState) where
  leaves_by : {new : BusState} → Stirs (limits_of out) old new → (old.honest ≡ true → Falls most_operation old new)
      → (old.honest ≡ true → is_operation (operation_of old.chip out) ≡ true
      → MayOperate (operation_of old.chip out) (drop 4 out) old new)
      → (old.honest ≡ true → is_operation (operation_of old.chip out) ≡ false → KeepsChip old new)
      → LeavesOperation (command_operation out) old new
  leaves_by stirs falls reached ignored = assumption

  not_begun : (new : BusState) → Stirs (limits_of out) old new
      → (old.honest ≡ true → Falls most_operation old new) → (old.honest ≡ true → KeepsChip old new)
      → LeavesOperation (command_operation out) old new
  not_begun new stirs falls stays =
      leaves_by stirs falls
      (λ honest is.
      may-before (operation_of old.chip out) (drop 4 out) old new (idle-takes old.chip out asks is) (stays honest))
      (λ honest none. stays honest)

  enable_fits : (bus : BusState) → bus.honest ≡ true → IsHonestFor (6 ∷ []) 0 bus
  enable_fits bus honest = record { honest = honest; fits = inr (omega arith, omega arith) }

  command_fits : (bus : BusState) → bus.honest ≡ true → IsHonestFor out 0 bus
  command_fits bus honest = record { honest = honest; fits = inr (asks.short, omega arith) }

  enabled_stirs : (new : BusState) → Sends (6 ∷ []) old new → is_stirred new.sent ≡ true
  enabled_stirs new sends = sends.sent.stirred ∙ or-true (is_stirred old.sent)

  pub leaves-at_enable : (new : BusState) → Sends (6 ∷ []) old new
      → (IsHonestFor (6 ∷ []) 0 old → Stops (6 ∷ []) old new)
      → LeavesOperation (command_operation out) old new
  leaves-at_enable new sends stops =
      let within = enable_sends (limits_of out) old new sends in
      not_begun new record { nature = sends.nature; stirred = enabled_stirs new sends; sends = within }
      (λ honest punctual. omega (arith, (stops (enable_fits old honest)).left punctual))
      (λ honest. enable_stays old new (stops (enable_fits old honest)))

  module _ (ready : BusState) (first : List ℕ) (none : length first ≡ 0) (sends : Sends (6 ∷ []) old ready)
      (carries : IsHonestFor (6 ∷ []) 0 old → Carries (6 ∷ []) first old ready) where
    enabling : old.honest ≡ true → IsEnabled old ready
    enabling honest = enabled old ready first none (carries (enable_fits old honest))

    honest-ready : old.honest ≡ true → ready.honest ≡ true
    honest-ready honest = sends.nature.honest ∙ honest

    punctual-ready : old.punctual ≡ true → ready.punctual ≡ true
    punctual-ready punctual = sends.nature.punctual ∙ punctual

    stirs-by : (new : BusState) → Sends out ready new → Stirs (limits_of out) old new
    stirs-by new sends' =
        let nature = nature_then old ready new sends'.nature sends.nature in
        record {
          nature = nature;
          stirred = still_stirred out ready new (enabled_stirs ready sends) sends';
          sends = command_sends out old ready new asks.known sends sends';
        }

    module _ (honest : old.honest ≡ true) (new : BusState) where
      stays-before : KeepsChip ready new → KeepsChip old new
      stays-before stays = stays_after old ready new sends.nature.steady (enabling honest).unchanged stays

      module _ (unsteady : ready.steady ≡ false) (cut : AtStop out ready new) where
        begins-part : is_operation (operation_of old.chip out) ≡ true
            → done_of ready.chip (take cut.count out) (length cut.read) ≡ operation_of old.chip out
            → HasBegun (operation_of old.chip out) (drop 4 (take cut.count out)) old (reached out ready new cut)
        begins-part is same =
            operation-begins (operation_of old.chip out) (drop 4 (take cut.count out)) _ old ready
            (reached out ready new cut) is (enabling honest).unchanged
            (subst (λ (k : Command). Does k (drop 4 (take cut.count out)) ready.chip
            (determined ready.chip.config (take cut.count out) cut.read) cut.reached) same cut.step)
            (subst (λ (k : Command). Wore k ready (reached out ready new cut)) same cut.worn)

        may-cut : is_operation (operation_of old.chip out) ≡ true
            → MayOperate (operation_of old.chip out) (drop 4 out) old new
        may-cut is = elim (part_done out old ready cut.count (length cut.read) asks (enabling honest)) [
          | inl none ↦
              may-before _ _ old new (idle-takes old.chip out asks is)
              (stays-before (none_begun out ready new unsteady cut (ap is_operation none)))
          | inr same ↦
              may-unsteady _ (drop 4 out) _ old new (sym sends.nature.steady ∙ unsteady)
              (may-after _ _ old (reached out ready new cut) new is sends.nature.steady (begins-part is same)
              (reached_stays out ready new unsteady cut))
        ]

        stays-cut : is_operation (operation_of old.chip out) ≡ false → KeepsChip old new
        stays-cut none = stays-before (none_begun out ready new unsteady cut
            (elim (part_done out old ready cut.count (length cut.read) asks (enabling honest)) [
              | inl nothing ↦ ap is_operation nothing
              | inr same ↦ ap is_operation same ∙ none
            ]))

      may-at_stop : is_operation (operation_of old.chip out) ≡ true
          → IsAsBefore ready new ⊎ ((ready.steady ≡ false) × AtStop out ready new)
          → MayOperate (operation_of old.chip out) (drop 4 out) old new
      may-at_stop is (inl still) =
          may-before _ _ old new (idle-takes old.chip out asks is) (stays-before (still_stays ready new still))
      may-at_stop is (inr cut) = may-cut cut.0 cut.1 is

      stays-at_stop : is_operation (operation_of old.chip out) ≡ false
          → IsAsBefore ready new ⊎ ((ready.steady ≡ false) × AtStop out ready new) → KeepsChip old new
      stays-at_stop none (inl still) = stays-before (still_stays ready new still)
      stays-at_stop none (inr cut) = stays-cut cut.0 cut.1 none

    pub leaves-at_command : (new : BusState) → Sends out ready new → (IsHonestFor out 0 ready → Stops out ready new)
        → LeavesOperation (command_operation out) old new
    leaves-at_command new sends' stops =
        let stopped = λ (honest : old.honest ≡ true). stops (command_fits ready (honest-ready honest)) in
        leaves_by (stirs-by new sends') (λ honest punctual.
        omega (arith, (enabling honest).count punctual, (stopped honest).left (punctual-ready punctual)))
        (λ honest is. may-at_stop honest new is (still_or_torn out ready new (stopped honest).at_stop))
        (λ honest none. stays-at_stop honest new none (still_or_torn out ready new (stopped honest).at_stop))

    module _ (begun : BusState) (second : List ℕ) (none' : length second ≡ 0) (sends' : Sends out ready begun)
        (carries' : IsHonestFor out 0 ready → Carries out second ready begun) where
      command : old.honest ≡ true → done_of ready.chip out (length second) ≡ operation_of old.chip out
      command honest =
          ap (λ (n : ℕ). done_of ready.chip out n) none' ∙ then_done out old ready asks (enabling honest)

      carried : old.honest ≡ true → Carries out second ready begun
      carried honest = carries' (command_fits ready (honest-ready honest))

      stirs : Stirs (limits_of out) old begun
      stirs = stirs-by begun sends'

      punctual-begun : old.punctual ≡ true → begun.punctual ≡ true
      punctual-begun punctual = stirs.nature.punctual ∙ punctual

      has-begun : old.honest ≡ true → is_operation (operation_of old.chip out) ≡ true
          → HasBegun (operation_of old.chip out) (drop 4 out) old begun
      has-begun honest is =
          operation-begins (operation_of old.chip out) (drop 4 out) _ old ready begun is (enabling honest).unchanged
          (subst (λ (k : Command). Does k (drop 4 out) ready.chip (determined ready.chip.config out second) begun.chip)
          (command honest) (carried honest).step)
          (subst (λ (k : Command). Wore k ready begun) (command honest) (carried honest).worn)

      was-read : old.honest ≡ true → is_operation (operation_of old.chip out) ≡ false → HasRead ready begun
      was-read honest is =
          carried_ignored out second ready begun (command honest ∙ operation-ignored old.chip out asks is) (carried honest)

      unchanged : old.honest ≡ true → is_operation (operation_of old.chip out) ≡ false → Unchanged old begun
      unchanged honest is =
          unchanged_then old ready begun (enabling honest).unchanged (was-read honest is).rested.unchanged

      pub leaves-at_wait : (new : BusState) → OnlyReads 65536 begun new
          → LeavesOperation (command_operation out) old new
      leaves-at_wait new only_reads =
          let nature = nature_then old begun new only_reads.nature stirs.nature in
          let honest_reads = λ (honest : old.honest ≡ true). only_reads.honest_reads (stirs.nature.honest ∙ honest) in
          leaves_by record {
            nature = nature;
            stirred = ap is_stirred only_reads.sent ∙ stirs.stirred;
            sends = sends_same (limits_of out) old begun new only_reads.sent stirs.sends;
          } (λ honest punctual. omega (
            arith,
            (honest_reads honest).falls (punctual-begun punctual),
            (enabling honest).count punctual,
            (carried honest).left (punctual-ready punctual),
          ))
          (λ honest is.
          may-after _ _ old begun new is stirs.nature.steady (has-begun honest is) (honest_reads honest).stays)
          (λ honest is. stays_after old begun new stirs.nature.steady (unchanged honest is) (honest_reads honest).stays)

      sends-operation : (new : BusState) (waited : Waited) → new.sent ≡ begun.sent → Waits begun new waited
          → ready.history ≡ replied (6 ∷ []) first ∷ old.history → begun.history ≡ replied out second ∷ ready.history
          → SendsOperation old new (waited.polls + 2)
      sends-operation new waited same waits enabled_by begun_by = record {
        command = out;
        waited = waited;
        added = same ∙ sends'.added ∙ ap (with_sent out) sends.added;
        history = subst (λ (earlier : List Exchange). PollsUntilReady earlier new.history waited)
            (begun_by ∙ replied_then out (6 ∷ []) none none' enabled_by) waits.history;
        count = refl;
      }

      pub operates-with : (new : BusState) (waited : Waited) → new.sent ≡ begun.sent → Waits begun new waited
          → ready.history ≡ replied (6 ∷ []) first ∷ old.history → begun.history ≡ replied out second ∷ ready.history
          → Operates (command_operation out) old new (waited.polls + 2)
      operates-with new waited same waits enabled_by begun_by =
          let wait = λ (honest : old.honest ≡ true). waits.done (stirs.nature.honest ∙ honest) in
          record {
            ends = record {
              sends = sends-operation new waited same waits enabled_by begun_by;
              least = omega (arith, waits.some);
              few = omega (arith, waits.few);
              polled_ready = waits.polled_ready;
              count = λ honest punctual. omega (
                arith,
                (enabling honest).count punctual,
                (carried honest).left (punctual-ready punctual),
                (wait honest).count (punctual-begun punctual),
              );
              idle = λ honest. (wait honest).idle;
            };
            sends = exactly_same same (command_exactly out old ready begun sends sends');
            done = λ honest is. operated _ _ old begun new waited (has-begun honest is) (wait honest);
            ignored = λ honest is.
                let same = unchanged_then old begun new (unchanged honest is) (wait honest).rested.unchanged in
                let read = was-read honest is in
                let kept = latch-kept old ready begun (enabling honest) read.latch read.busy in
                grind (arith, wait honest, same.same, same.worn, kept);
          }
