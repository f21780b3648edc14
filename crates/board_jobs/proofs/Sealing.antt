-- Lemmas: the parts of a change before and after its session send no modifying command.
use Rattle.std.proofs.Common.{◌≡◌, ℕ, Bool, List, Option, None, Some, Result, Ok, Err, IfErr, IfOk, false, inl, inr}
use Rattle.std.proofs.Common.{true}
use Rattle.nor_model.specs.Bus.{BusState}
use Rattle.nor_layout.specs.declared.ranges.Span.{Span}
use Rattle.nor_probe.specs.declared.table.ChipName.{ChipName}
use Rattle.nor_request.specs.declared.refusal.Refusal.{Refusal}
use Rattle.nor_args.specs.declared.job.Wanted.{Wanted}
use Rattle.nor_args.specs.declared.job.Wanted.TheVariants as wanted
use Rattle.nor_console.specs.declared.answers.Answer.{Answer}
use Rattle.board_jobs.specs.Following.{FailsToFollow, FailsToMerge, IsFollowed, IsWholeTarget}
use Rattle.board_jobs.specs.Jobs.{FailsToAdmit, FailsToFill, FailsToTarget, IsBufferOf}
use Rattle.board_jobs.specs.Sends.{KeepsSent}
use Rattle.board_jobs.specs.declared.chip_faults.JobFault.{JobFault}
use Rattle.board_jobs.specs.declared.chip_faults.JobFault.TheVariants as ended
use Rattle.board_jobs.proofs.SentFitted.{reads_on, same_keeps_sent}

module _ (named : Option ChipName) (old new : BusState) where
  whole_target_unsent : (ranges : Option (List Span)) (image target : List ℕ)
      → IsWholeTarget named ranges image old new target → KeepsSent old new
  whole_target_unsent None image target is = same_keeps_sent old new is.0
  whole_target_unsent (Some spans) image target is = is.read.always.only_reads.sent

  no_target_unsent : (size : ℕ) (ranges : Option (List Span)) (image : List ℕ) (refusal : Refusal)
      → FailsToMerge named size ranges image old new refusal → KeepsSent old new
  no_target_unsent size None image refusal fails = absurd fails
  no_target_unsent size (Some spans) image refusal (inl unfit) = same_keeps_sent old new unfit.0
  no_target_unsent size (Some spans) image refusal (inr (inl read)) = read.2.always.only_reads.sent
  no_target_unsent size (Some spans) image refusal (inr (inr other)) = other.read.always.only_reads.sent

  unadmitted_unsent : (fault : JobFault) → FailsToAdmit named old new fault → KeepsSent old new
  unadmitted_unsent (ended.Fault fault) found = found.1.always.only_reads.sent
  unadmitted_unsent (ended.Protected byte id) protected = protected.identified.always.only_reads.sent
  unadmitted_unsent _ fails = absurd fails

module _ (named : Option ChipName) (ranges : Option (List Span)) (bytes : List ℕ) (old new : BusState) where
  pub buffer_unsent : (target : Wanted) (image : List ℕ) → IsBufferOf named target ranges bytes old new image
      → KeepsSent old new
  buffer_unsent (wanted.Range start len) image is = same_keeps_sent old new is.0
  buffer_unsent target image is = reads_on old is.found new is.changeable.identified.always.only_reads.sent
      (whole_target_unsent named is.found new ranges _ image is.is)

  target_unsent : (target : Wanted) (fault : JobFault) → FailsToTarget named target ranges bytes old new fault
      → KeepsSent old new
  target_unsent target fault (inl fails) = unadmitted_unsent named old new fault fails
  target_unsent target fault (inr has) = reads_on old has.1.found new has.1.changeable.identified.always.only_reads.sent
      (elim has.1.fails [
        | inl short ↦ same_keeps_sent has.1.found new short.0
        | inr fails ↦ no_target_unsent named has.1.found new has.1.chip.size ranges _ has.0 fails
      ])

  pub fill_unsent : (target : Wanted) (fault : JobFault) → FailsToFill named target ranges bytes old new fault
      → KeepsSent old new
  fill_unsent (wanted.Range start len) fault fails = absurd fails
  fill_unsent target fault fails = target_unsent target fault fails

module _ (named : Option ChipName) (target : List ℕ) (old new : BusState) where
  followed_unsent : (session : Result Answer Refusal) (compared : Bool)
      → IsFollowed session compared named target old new → KeepsSent old new
  followed_unsent (Ok found) true is = is.1.always.only_reads.sent
  followed_unsent (Ok found) false same = same_keeps_sent old new same
  followed_unsent (Err refusal) compared same = same_keeps_sent old new same

  differing_unsent : (session : Result Answer Refusal) (compared : Bool) (fault : JobFault)
      → FailsToFollow session compared named target old new fault → KeepsSent old new
  differing_unsent (Ok found) true (ended.NotCompared refusal) fails = fails.always.only_reads.sent
  differing_unsent (Ok found) true _ fails = absurd fails
  differing_unsent (Ok found) false fault fails = absurd fails
  differing_unsent (Err refusal) compared fault fails = absurd fails

  -- The comparison after a session sends no modifying command.
  pub comparison_unsent : (session : Result Answer Refusal) (compared : Bool)
      → (result : Result (Result Answer Refusal) JobFault)
      → IfOk result (λ outcome. (outcome ≡ session) × IsFollowed session compared named target old new)
      → IfErr result (FailsToFollow session compared named target old new) → KeepsSent old new
  comparison_unsent session compared (Ok outcome) done fails = followed_unsent session compared done.1
  comparison_unsent session compared (Err fault) done fails = differing_unsent session compared fault fails
