-- Lemmas about the two status bytes that `wp_status` reads, and about its promises at each exit.
use Rattle.std.proofs.Common.{◌≡◌, ◌∙◌, ℕ, ◌/◌, Bool, true, false, List, [], ◌∷◌, Option, Some, None, Result, Ok}
use Rattle.std.proofs.Common.{Err, ap, refl, sym, arith}
use Rattle.std.specs.Prelude.{MatchOption}
use Rattle.std.proofs.lemmas.Bool.Decides.{nat_tests}
use Rattle.nor_model.specs.Chip.{Chip, IsSame, KeptBits, status1_of, kept_in, is_locked}
use Rattle.nor_model.specs.Guard.{code_of, is_undefined}
use Rattle.nor_model.specs.Offer.{IsRangeOf}
use Rattle.nor_model.specs.PolledReady.{is_poll}
use Rattle.nor_model.specs.Bus.{BusState}
use Rattle.nor_model.proofs.Histories.{answered_keeps, continues_by}
use Rattle.nor_driver.specs.OnlyReads.{OnlyReads, HasStopped}
use Rattle.nor_driver.specs.Reads.{ReadsStatus2}
use Rattle.nor_probe.specs.declared.table.ChipName.{ChipName}
use Rattle.nor_probe.specs.declared.probes.Probed.{Probed}
use Rattle.nor_probe.specs.Found.{most_probe}
use Rattle.nor_probe.specs.Replied.{IsFoundBy}
use Rattle.nor_probe.proofs.Replied.{other_opcode, no_poll, found_later}
use Rattle.nor_driver.proofs.ReadsInTurn.{only_reads_more, only_reads_within}
use Rattle.nor_request.specs.declared.refusal.Refusal.{Refusal}
use Rattle.nor_request.specs.declared.refusal.Refusal.TheVariants.{NoProtection, Stopped, Timeout}
use Rattle.nor_request.specs.Errors.{IdentificationErrors, EndsAtError}
use Rattle.nor_read.specs.declared.protection.Protection.{Protection}
use Rattle.nor_read.specs.Finding.{IsModelled, HasFound, ReadingErrors, most_status}
use Rattle.nor_read.specs.Protecting.{IsProtectedRange, IsProtectionReplied, IsProtectionRefusal, IsUnprotected}
use Rattle.nor_read.specs.Protecting.{ProtectionAlways, ProtectionHonest, ProtectionModelled, ProtectionErrors}
use Rattle.nor_read.proofs.Whole.{find_errors, find_ends, ran_on, rested_on, has_name, size_of}

pub record HasReported (named : Option ChipName) (old new : BusState) (result : Result Protection Refusal) : Type 0 where
  pub always : ProtectionAlways old new result
  pub honest : old.honest ≡ true → ProtectionHonest named old new result
  pub modelled : IsModelled old → ProtectionModelled named old result

lock_read : (one two : ℕ) (kept : KeptBits) → one / 4 ≡ kept.one → two ≡ kept.two
    → is_locked (kept_in (one ∷ two ∷ [])) ≡ is_locked kept
lock_read one two kept low high = grind (arith, nat_tests)

kept1_read : (old mid : Chip) (one : ℕ) → one ≡ status1_of mid → IsSame old mid → mid.busy ≡ 0 → one / 4 ≡ old.kept.one
kept1_read old mid one is same idle = let kept = ap (λ (bits : KeptBits). bits.one) same.kept in grind (arith, nat_tests)

range_read : (chip : Chip) (range : Option (ℕ × ℕ)) → chip.config.scheme ≡ true
    → MatchOption range (is_undefined (code_of chip.kept) ≡ true)
    (λ places. IsRangeOf chip.config.size (code_of chip.kept) places.0 places.1)
    → MatchOption range (is_undefined (code_of chip.kept) ≡ true) (λ places. IsProtectedRange chip places.0 places.1)
range_read chip None scheme undefined = undefined
range_read chip (Some places) scheme is =
    record { defined = is.defined; exactly = λ a. rw scheme (is.exactly a); plain = is.plain }

module _ (named : Option ChipName) where
  refused : {old new : BusState} (refusal : Refusal) → OnlyReads most_status old new → IsProtectionRefusal refusal
      → IsUnprotected old.further new.history refusal → EndsAtError refusal new.history
      → (old.honest ≡ true → ReadingErrors most_status named old new refusal)
      → (IsModelled old → ProtectionErrors old.further named old.chip refusal) → HasReported named old new (Err refusal)
  refused refusal only_reads is lacks last errors own = search

  unfound_errors : (old new : BusState) (refusal : Refusal) → IdentificationErrors most_probe named old new refusal
      → IsProtectionRefusal refusal × IsUnprotected old.further new.history refusal
      × ProtectionErrors old.further named old.chip refusal
  unfound_errors old new (Timeout address) errors = (errors.0, tt, tt)
  unfound_errors old new _ errors = search

  pub unfound : {old new : BusState} (refusal : Refusal) → OnlyReads most_probe old new
      → IdentificationErrors most_probe named old new refusal → HasReported named old new (Err refusal)
  unfound {old} {new} refusal only_reads errors =
      let own = unfound_errors old new refusal errors in
      refused refusal (only_reads_more most_probe most_status old new (omega arith) only_reads) own.0 own.1
      (find_ends most_probe named old new refusal errors)
      (find_errors most_status named old new refusal (omega arith) errors) (λ known. own.2)

  module _ {old mid new : BusState} {probed : Probed} (found : HasFound named old mid probed)
      (only_reads : OnlyReads most_probe old mid) (after : OnlyReads 1 mid new) where
    only_reads_all : OnlyReads most_status old new
    only_reads_all = only_reads_within most_status (omega arith) only_reads after

    pub stopped : HasStopped 1 mid new → HasReported named old new (Err Stopped)
    stopped out =
        refused Stopped only_reads_all tt tt out.last (ran_on found only_reads 1 most_status (omega arith) out)
        (λ known. tt)

    module _ {status2 : ℕ} (reads : ReadsStatus2 mid new status2) where
      identified : IsFoundBy old.further new.history probed.found
      identified =
          let keeps = answered_keeps reads.answered in
          found_later (continues_by reads.answered.history) (keeps.same _ (other_opcode 0x35 0x9F refl))
          (keeps.same is_poll (no_poll 0x35 refl)) found.replied

      pub plain : probed.found.scheme ≡ false → HasReported named old new (Err NoProtection)
      plain none = refused NoProtection only_reads_all tt (probed.found, identified, none) tt
          (rested_on found only_reads (λ is. (reads.read is).rested))
          (λ known. (has_name found only_reads known.honest, sym (found.is.config known).scheme ∙ none))

      pub returned : (bytes : List ℕ) (range : Option (ℕ × ℕ)) (locked : Bool) → new.polled_ready ≡ mid.polled_ready
          → probed.found.scheme ≡ true → bytes ≡ probed.found.status1 ∷ status2 ∷ []
          → MatchOption range (is_undefined (code_of (kept_in bytes)) ≡ true)
          (λ places. IsRangeOf probed.found.size (code_of (kept_in bytes)) places.0 places.1)
          → locked ≡ is_locked (kept_in bytes)
          → HasReported named old new (Ok (record { range = range; locked = locked; size = probed.found.size }))
      returned bytes range locked same scheme are places lock = record {
        always =
            let replied : IsProtectionReplied old.further old.history new.history
            (record { range = range; locked = locked; size = probed.found.size }) = record {
              found = probed.found;
              kept = kept_in bytes;
              read = record {
                before = mid.history;
                since = only_reads.nature.history;
                status2 = status2;
                read = reads.answered;
                identified = identified;
                is = ap (λ (status : List ℕ). kept_in status) are;
              };
              scheme = scheme;
              says = record { protected = places; lock = lock; chip_size = refl };
            } in
            search (only_reads_all, same ∙ found.polled_ready);
        honest = λ honest.
            let rested = rested_on found only_reads (λ is. (reads.read is).rested) honest in
            let idle = found.idle honest in
            let same = (reads.read (only_reads.nature.honest ∙ honest)).busy in
            search (arith, has_name found only_reads);
        modelled = λ known.
            let was = (found.rested known.honest).unchanged.same in
            let one = kept1_read old.chip mid.chip probed.found.status1 (found.status1 known.honest) was
            (found.idle known.honest) in
            let two : status2 ≡ old.chip.kept.two =
            reads.replied (only_reads.nature.honest ∙ known.honest) ∙ ap (λ (bits : KeptBits). bits.two) was.kept in
            let protects : old.chip.config.scheme ≡ true = sym (found.is.config known).scheme ∙ scheme in
            let code : code_of (kept_in bytes) ≡ code_of old.chip.kept = rw (are, one, two) (omega arith) in
            let protected = range_read old.chip range protects (rw (code, size_of found only_reads known) at places) in
            let locks = lock ∙ ap (λ (bytes : List ℕ). is_locked (kept_in bytes)) are
            ∙ lock_read probed.found.status1 status2 old.chip.kept one two in
            search (size_of found only_reads known);
      }
