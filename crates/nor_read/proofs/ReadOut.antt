-- What `read_out` promises at each exit follows from what the identification (`find`) and the copying promise.
use Rattle.std.proofs.Common.{◌≡◌, ℕ, true, List, Option, Result, Ok, Err, arith}
use Rattle.std.specs.Prelude.{◌/◌, ◌*◌}
use Rattle.nor_model.specs.Exchange.{Exchange}
use Rattle.nor_model.specs.History.{Continues}
use Rattle.nor_model.specs.Bus.{BusState}
use Rattle.nor_model.proofs.Histories.{continues_refl}
use Rattle.nor_driver.specs.OnlyReads.{OnlyReads}
use Rattle.nor_journal.specs.Vault.{VaultState}
use Rattle.nor_layout.specs.declared.ranges.Span.{Span}
use Rattle.nor_layout.specs.Sectors.{FitsInto, ReachesPast}
use Rattle.nor_probe.specs.declared.table.ChipName.{ChipName}
use Rattle.nor_probe.specs.declared.probes.Probed.{Probed}
use Rattle.nor_probe.specs.Found.{most_probe}
use Rattle.nor_probe.specs.Replied.{IsFoundBy}
use Rattle.nor_request.specs.declared.refusal.Refusal.{Refusal}
use Rattle.nor_request.specs.declared.refusal.Refusal.TheVariants.{RegionOutside, Stopped, Output}
use Rattle.nor_request.specs.declared.report.Report.{Report}
use Rattle.nor_request.specs.Errors.{IdentificationErrors, EndsAtError}
use Rattle.nor_read.specs.Finding.{IsModelled, HasFound, ReadingErrors, most_read}
use Rattle.nor_read.specs.Reading.{ReadOutAlways, ReadOutHonest, ReadOutModelled, IsReadRefusal, ReadOutErrors}
use Rattle.nor_read.specs.Reading.{TakesWhole, Copies, EndsCopyingBegun, HasCopiedReplies, ReadsPieces, CopyErrors}
use Rattle.nor_driver.proofs.RestsInTurn.{same_bytes}
use Rattle.nor_read.proofs.Copied.{copies_if, none_begun}
use Rattle.nor_read.proofs.Onward.{found_still}
use Rattle.nor_read.proofs.Whole.{Sends, find_errors, find_ends, sends_probe, sends_on, fails, report_of, reported}
use Rattle.nor_read.proofs.Whole.{rested_on, size_of, open_after, is_taken, is_passed}

pub record HasReadOut (named : Option ChipName) (included : Option (List Span)) (old new : BusState)
    (vault vault' : VaultState) (result : Result Report Refusal) : Type 0 where
  pub always : ReadOutAlways named included old new vault vault' result
  pub honest : old.honest ≡ true → ReadOutHonest named included old new result
  pub modelled : IsModelled old → ReadOutModelled named included old new vault vault' result

module _ (named : Option ChipName) (included : Option (List Span)) (vault : VaultState) where
  refused : {old new : BusState} {vault' : VaultState} (refusal : Refusal) → Sends old new
      → IsReadRefusal vault vault' refusal → EndsAtError refusal new.history
      → HasCopiedReplies included old.history new.history vault vault' (Err refusal)
      → (old.honest ≡ true → ReadingErrors (most_read 16777216) named old new refusal)
      → (IsModelled old → ReadOutErrors named included old new vault vault' refusal)
      → HasReadOut named included old new vault vault' (Err refusal)
  refused refusal sends is last replies errors own = search sends.own

  begun_none : {old new : List Exchange} → Continues old new → EndsCopyingBegun included old new vault vault
  begun_none {old} first = (old, continues_refl old, none_begun first)

  unfound_errors : (old new : BusState) (refusal : Refusal) → Continues old.history new.history
      → IdentificationErrors most_probe named old new refusal → IsReadRefusal vault vault refusal
      × HasCopiedReplies included old.history new.history vault vault (Err refusal)
      × (IsModelled old → ReadOutErrors named included old new vault vault refusal)
  unfound_errors old new Stopped first errors = (
    (tt, assumption),
    begun_none first,
    λ known punctual.
        let ran = errors.ran_out known.honest punctual in omega arith,
  )
  unfound_errors old new _ first errors = let none = begun_none first in search

  pub unfound : {old new : BusState} (refusal : Refusal) → OnlyReads most_probe old new
      → IdentificationErrors most_probe named old new refusal → HasReadOut named included old new vault vault (Err refusal)
  unfound {old} {new} refusal only_reads errors =
      let own = unfound_errors old new refusal only_reads.nature.history errors in
      refused refusal (sends_probe only_reads) own.0 (find_ends most_probe named old new refusal errors) own.1
      (find_errors (most_read 16777216) named old new refusal (omega arith) errors) own.2

  module _ {old mid : BusState} {probed : Probed} (found : HasFound named old mid probed)
      (only_reads : OnlyReads most_probe old mid) where
    pub past : ReachesPast included probed.found.size
        → HasReadOut named included old mid vault vault (Err RegionOutside)
    past reaches = refused RegionOutside (sends_probe only_reads) (assumption) tt
        (begun_none only_reads.nature.history) found.rested
        (is_passed found only_reads reaches)

    module _ {new : BusState} {vault' : VaultState} (fits : FitsInto included probed.found.size)
        (after : OnlyReads (probed.found.size / 4096) mid new) where
      pub broken : (refusal : Refusal) → CopyErrors included probed.found.size mid new vault vault' refusal
          → HasReadOut named included old new vault vault' (Err refusal)
      broken Stopped errors =
          let halt = fails found only_reads errors.0 in
          refused Stopped (sends_on found only_reads after) (tt, errors.1) halt.last
          (mid.history, only_reads.nature.history, errors.2) halt.largest halt.own
      broken (Output written) breaks =
          refused (Output written) (sends_on found only_reads after) breaks.took tt
          (mid.history, only_reads.nature.history, breaks.replied) (rested_on found only_reads breaks.rested)
          (λ known. record {
            taken = is_taken found only_reads fits known;
            within = let same = size_of found only_reads known in let within = breaks.within in omega arith;
            copy = λ telling. rw (same_bytes (found.rested known.honest))
                at (breaks.copy (open_after found only_reads known) telling);
          })
      broken _ errors = absurd errors

      pub copied_whole : {reads : ℕ}
          → ReadsPieces included probed.found.size (probed.found.size / 65536) mid new vault vault' reads
          → HasReadOut named included old new vault vault' (Ok (report_of probed reads))
      copied_whole {reads = reads} all =
          let blocks = found.is.part.in_blocks in
          let size : 65536 * (probed.found.size / 65536) ≡ probed.found.size = omega arith in
          let sectors : 16 * (probed.found.size / 65536) ≡ probed.found.size / 4096 = omega arith in
          let sends = sends_on found only_reads after in
          let reports = reported found only_reads all.honest_reads (rw sectors at all.counted) in
          let identified : IsFoundBy old.further new.history probed.found =
          found_still all.replied.reads found.replied in
          let replied : HasCopiedReplies included old.history new.history vault vault' (Ok (report_of probed reads)) =
          (mid.history, only_reads.nature.history, rw size at all.replied) in
          let copies = λ (telling : vault.telling ≡ true). rw size at (all.copy telling) in
          let took : TakesWhole probed.found.size vault vault' =
          record { accepted = all.accepted; grows = λ telling. (copies telling).grows } in
          let copy : IsModelled old → vault.telling ≡ true
          → Copies included old.chip.bytes old.chip.config.size vault vault'
          = λ known telling. rw (size_of found only_reads known, same_bytes (found.rested known.honest))
          at (copies_if (copies telling) (open_after found only_reads known)) in
          search (sends.own, reports.reads, reports.config)
