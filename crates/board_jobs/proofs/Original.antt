-- Reads on a modelled bus: the chip stays the same, and a journal that can restore the original chip still can.
use Rattle.std.proofs.Common.{◌≡◌, ◌≤◌, ◌∙◌, ℕ, List, [], ◌++◌, Option, Result, Ok, Err, IfErr, IfOk, ap, arith, inl}
use Rattle.std.proofs.Common.{inr, true}
use Rattle.std.specs.Prelude.{IsOk}
use Rattle.std.proofs.lemmas.Bool.{false≢true}
use Rattle.nor_model.specs.Bus.{BusState}
use Rattle.nor_model.specs.Chip.{Chip, IsSame}
use Rattle.nor_model.specs.History.{EndsStopped}
use Rattle.nor_driver.specs.OnlyReads.{IsSteadyOrIdle, OnlyReads}
use Rattle.nor_driver.proofs.ReadsInTurn.{only_reads_none, only_reads_then}
use Rattle.nor_journal.specs.Text.{Content as Journal, IsContent, text}
use Rattle.nor_journal.proofs.OneForm.{one_text}
use Rattle.nor_probe.specs.Found.{HasOtherName, IsConfigOf, ProbeErrors}
use Rattle.nor_probe.specs.Known.{IsModelled, shown_as}
use Rattle.nor_probe.specs.Replied.{ProbeEndsAt}
use Rattle.nor_probe.specs.declared.probes.Found.{Found}
use Rattle.nor_probe.specs.declared.probes.ProbeFault.{ProbeFault}
use Rattle.nor_probe.specs.declared.probes.ProbeFault.TheVariants as probe
use Rattle.nor_probe.specs.declared.table.ChipName.{ChipName}
use Rattle.nor_request.specs.Refusal.{of_probe}
use Rattle.nor_request.specs.declared.refusal.Refusal.{Refusal}
use Rattle.nor_request.specs.declared.refusal.Refusal.TheVariants.{OtherName, Stopped}
use Rattle.nor_session.specs.Headline.{CanRestore, open_addresses}
use Rattle.nor_session.specs.Restore.{IsOfTypeFound}
use Rattle.nor_session.proofs.RestoredOriginal.{within_after_reads}
use Rattle.nor_jobs.specs.Finding.{HasIdentified, IsProbed}
use Rattle.board_jobs.specs.Looked.{HasOnlyLooked}

pub looked_by : {most : ℕ} {old new : BusState} → OnlyReads most old new → HasOnlyLooked old new
looked_by {most} only_reads = record { most = most; only_reads = only_reads }

pub looked_none : (old new : BusState) → new ≡ old → HasOnlyLooked old new
looked_none old new same = rw same (looked_by (only_reads_none old))

pub looked_then : {old mid new : BusState} → HasOnlyLooked old mid → HasOnlyLooked mid new → HasOnlyLooked old new
looked_then {old} {mid} {new} first second =
    looked_by (only_reads_then first.most second.most old mid new first.only_reads second.only_reads)

module _ {old new : BusState} (looked : HasOnlyLooked old new) where
  pub modelled_after : IsModelled old → IsModelled new
  modelled_after modelled = record {
    honest = looked.only_reads.nature.honest ∙ modelled.honest;
    genuine = rw (looked.only_reads.nature.further, looked.only_reads.nature.config modelled.honest) modelled.genuine;
  }

  pub can_restore_after : (journal : Journal) (first : Chip) → old.honest ≡ true → CanRestore journal first old
      → CanRestore journal first new
  can_restore_after journal first honest can = record {
    known = rw looked.only_reads.nature.further can.known;
    saves = can.saves;
    within = within_after_reads (open_addresses journal first) first looked.most old new
        looked.only_reads.nature.steady (looked.only_reads.honest_reads honest) can.within;
  }

  pub same_after : old.honest ≡ true → IsSteadyOrIdle old → IsSame old.chip new.chip
  same_after honest settled = (looked.only_reads.honest_reads honest).stays.steady_or_idle settled

  pub settled_after : old.honest ≡ true → IsSteadyOrIdle old → IsSteadyOrIdle new
  settled_after honest (inl steady) = inl (looked.only_reads.nature.steady ∙ steady)
  settled_after honest (inr idle) = inr (
      let less : new.chip.busy ≤ old.chip.busy = (looked.only_reads.honest_reads honest).stays.busy in
      omega (arith, less, idle))

pub same_content : (one other : Journal) → IsContent one → IsContent other → text one ≡ text other → one ≡ other
same_content one other is other_is same =
    (one_text one other [] [] is other_is (ap (λ (bytes : List ℕ). bytes ++ []) same)).0

-- Holds for error 12, if the last transaction was a stop of the bus, and for error 3, if the chip has another name.
abbrev pub FailsNamed : Option ChipName → (old new : BusState) → Refusal → Type 0
FailsNamed named old new Stopped = EndsStopped new.history
FailsNamed named old new OtherName = HasOtherName old.further named old.chip.config
FailsNamed named old new _ = ⊥

probe_fails : (named : Option ChipName) (old new : BusState) (fault : ProbeFault)
    → IsOk (shown_as old.further old.chip.config) → ProbeErrors named old new fault → ProbeEndsAt new.history fault
    → FailsNamed named old new (of_probe fault)
probe_fails named old new probe.NoChip shown errors ends = absurd (false≢true (rw errors.0 at shown))
probe_fails named old new (probe.UnknownChip fault) shown errors ends = absurd (false≢true (rw errors.0 at shown))
probe_fails named old new probe.OtherName shown errors ends = errors.0
probe_fails named old new probe.Stopped shown errors ends = ends
probe_fails named old new probe.Timeout shown errors ends = absurd errors

probed_fails : (named : Option ChipName) (old new : BusState) (probed : Result Found ProbeFault) (refusal : Refusal)
    → IsProbed probed (Err refusal) → IsOk (shown_as old.further old.chip.config)
    → IfErr probed (ProbeErrors named old new) → IfErr probed (ProbeEndsAt new.history)
    → FailsNamed named old new refusal
probed_fails named old new (Ok found) refusal is shown errors ends = absurd (cc is)
probed_fails named old new (Err fault) refusal is shown errors ends =
    let same : refusal ≡ of_probe fault = cc in rw same (probe_fails named old new fault shown errors ends)

probed_config : (old : BusState) (probed : Result Found ProbeFault) (chip : Found) → IsProbed probed (Ok chip)
    → IfOk probed (IsConfigOf old.further old.chip.config) → IsConfigOf old.further old.chip.config chip
probed_config old (Ok found) chip is config = let same : chip ≡ found = cc in rw same config
probed_config old (Err fault) chip is config = absurd (cc is)

module _ (journal : Journal) (first : Chip) (named : Option ChipName) (old new : BusState)
    (modelled : IsModelled old) (can : CanRestore journal first old) where
  shown : IsOk (shown_as old.further old.chip.config)
  shown = rw can.within.config can.known.shown

  pub identified_fails : (refusal : Refusal) → HasIdentified named old new (Err refusal)
      → FailsNamed named old new refusal
  identified_fails refusal has = probed_fails named old new has.probed refusal has.returned shown
      (has.honest modelled.honest).errors has.always.last_transaction

  pub identified_type : (chip : Found) → HasIdentified named old new (Ok chip) → IsOfTypeFound journal chip
  identified_type chip has =
      let config = probed_config old has.probed chip has.returned (has.modelled modelled) in
      record {
        id = rw (config.id, can.within.config) can.saves.kind.id;
        size = rw (config.size, can.within.config) can.saves.kind.size;
      }
