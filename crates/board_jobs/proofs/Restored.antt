use Rattle.std.proofs.Common.{◌≡◌, ℕ, Bool, List, None, Result, IfErr, IfOk, inl}
use Rattle.std.proofs.lemmas.Result.{IfOk-weaker, MatchResult-weaker}
use Rattle.nor_model.specs.Bus.{BusState}
use Rattle.nor_journal.specs.Text.{Content as Journal, IsContent, text}
use Rattle.nor_request.specs.declared.refusal.Refusal.{Refusal}
use Rattle.nor_args.specs.declared.job.Operation.{Operation}
use Rattle.nor_console.specs.declared.answers.Answer.{Answer}
use Rattle.board_jobs.specs.UnsavedSectors.{FailsToFollowRestore, FollowsRestore, is_compared_after}
use Rattle.board_jobs.specs.Fitting.{HasRestoredFitting}
use Rattle.board_jobs.specs.Restoring.{FailsBy, FailsCompared, FailsRestore, HasReadBefore, HasRestored}
use Rattle.board_jobs.specs.Restoring.{HasRestoredAndCompared, HasRestoredBy}
use Rattle.board_jobs.specs.declared.chip_faults.JobFault.{JobFault}
use Rattle.board_jobs.specs.declared.chip_faults.JobFault.TheVariants as ended

module _ (operation : Operation) (bytes : List ℕ) (journal : Journal) (sound : IsContent journal)
    (read : bytes ≡ text journal) (old new : BusState) (result : Result (Result Answer Refusal) JobFault) where
  pub restored_from : IfOk result (HasRestoredBy operation.verifies_all operation journal old new)
      → IfOk result (HasRestored operation bytes old new)
  restored_from does = IfOk-weaker result _ _
      (λ outcome is. record { journal = journal; sound = sound; read = read; restored = is }) does

  pub fails_from : IfErr result (FailsBy operation.verifies_all operation journal old new)
      → IfErr result (FailsRestore operation bytes old new)
  fails_from fails = MatchResult-weaker result fails (λ outcome is. is)
      (λ fault is. inl (record { journal = journal; sound = sound; read = read; fails = is }))

module _ (operation : Operation) (journal : Journal) (rest : List ℕ) (old found restored new : BusState)
    (first : HasReadBefore operation.named journal rest old found) (outcome : Result Answer Refusal)
    (ran : HasRestoredFitting operation.is_quick None journal found restored outcome)
    (result : Result (Result Answer Refusal) JobFault) where
  ends : (ended' : Result Answer Refusal)
      → (ended' ≡ outcome) × FollowsRestore (is_compared_after outcome) journal rest restored new
      → HasRestoredAndCompared operation journal old new ended'
  ends ended' is = rw is.0 (record {
    rest = rest;
    found = found;
    restored = restored;
    first = first;
    ran = ran;
    followed = is.1;
  })

  lost : (fault : JobFault) → FailsToFollowRestore outcome journal rest restored new fault
      → FailsCompared operation journal old new fault
  lost (ended.RestNotCompared given refusal) has = rw has.same (record {
    rest = rest;
    found = found;
    restored = restored;
    first = first;
    ran = ran;
    followed = has.followed;
    fails = has.fails;
  })
  lost _ fails = absurd fails

  pub compared : IfOk result (λ ended'. (ended' ≡ outcome)
      × FollowsRestore (is_compared_after outcome) journal rest restored new)
      → IfOk result (HasRestoredAndCompared operation journal old new)
  compared does = IfOk-weaker result _ _ ends does

  pub compares_fails : IfErr result (FailsToFollowRestore outcome journal rest restored new)
      → IfErr result (FailsCompared operation journal old new)
  compares_fails fails = MatchResult-weaker result fails (λ outcome is. is) lost
