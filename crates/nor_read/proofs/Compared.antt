-- What `verify` promises at each exit follows from what the identification (`find`) and the comparison promise.
use Rattle.std.proofs.Common.{◌≡◌, ◌≢◌, ◌≤◌, ◌<◌, ◌∙◌, ℕ, true, refl, sym, List, length, slice_index, Option, Some, None, Result, Ok, Err}
use Rattle.std.proofs.lemmas.Bool.{both_ways, and_from, lt-ltb, ltb-true}
use Rattle.std.proofs.Common.{arith}
use Rattle.std.specs.Prelude.{◌/◌, ◌*◌, ◌&&◌, nat_lt, Bool, false}
use Rattle.nor_model.specs.Bus.{BusState}
use Rattle.nor_driver.specs.OnlyReads.{OnlyReads, HasStopped}
use Rattle.nor_layout.specs.declared.ranges.Span.{Span}
use Rattle.nor_layout.specs.Sectors.{includes, FitsInto, ReachesPast}
use Rattle.nor_probe.specs.declared.table.ChipName.{ChipName}
use Rattle.nor_probe.specs.declared.probes.Probed.{Probed}
use Rattle.nor_probe.specs.Found.{most_probe}
use Rattle.nor_probe.specs.Replied.{IsFoundBy}
use Rattle.nor_request.specs.declared.refusal.Refusal.{Refusal}
use Rattle.nor_request.specs.declared.refusal.Refusal.TheVariants.{ImageSize, RegionOutside, Stopped, Timeout, Mismatch}
use Rattle.nor_request.specs.declared.report.Report.{Report}
use Rattle.nor_request.specs.Errors.{IdentificationErrors}
use Rattle.nor_read.specs.declared.verifying.Compared.{Compared}
use Rattle.nor_read.specs.Finding.{IsModelled, HasFound, ReadingErrors, most_read}
use Rattle.nor_read.specs.Verifying.{VerifyAlways, VerifyHonest, VerifyModelled, VerifyErrors, IsVerifyRefusal}
use Rattle.nor_driver.specs.ReadBack.{bytes_read, IsReadAs, ReadsBack, ReadsOther}
use Rattle.nor_read.specs.Verifying.{FindsFirst, AgreeIn, IsFirstOther, ComparesBelow, VerifyEnds, HasReadBack, included_below}
use Rattle.nor_driver.proofs.RestsInTurn.{same_bytes}
use Rattle.nor_read.proofs.Onward.{read_after, found_still}
use Rattle.nor_read.proofs.Whole.{Sends, find_errors, sends_probe, sends_on, fails, report_of, reported}
use Rattle.nor_read.proofs.Whole.{rested_on, size_of, open_after, has_name, is_taken, is_passed}

pub record Verified (named : Option ChipName) (included : Option (List Span)) (image : List ℕ) (old new : BusState)
    (result : Result Report Refusal) : Type 0 where
  pub always : VerifyAlways named included image old new result
  pub honest : old.honest ≡ true → VerifyHonest named included old new result
  pub modelled : IsModelled old → VerifyModelled named included image old new result

both_true : (x y : Bool) → (x && y) ≡ true → (x ≡ true) × (y ≡ true)
both_true true y is = (refl, is)
both_true false y is = absurd (both_ways false refl is)

module _ (named : Option ChipName) (included : Option (List Span)) (image : List ℕ) where
  refused : {old new : BusState} (refusal : Refusal) → Sends old new → IsVerifyRefusal refusal
      → VerifyEnds old.history new.history refusal → HasReadBack included image old.history new.history (Err refusal)
      → (old.honest ≡ true → ReadingErrors (most_read 16777216) named old new refusal)
      → (IsModelled old → VerifyErrors named included image old new refusal)
      → Verified named included image old new (Err refusal)
  refused refusal sends is last replies errors own = search sends.own

  unfound_errors : (old new : BusState) (refusal : Refusal) → IdentificationErrors most_probe named old new refusal
      → IsVerifyRefusal refusal × VerifyEnds old.history new.history refusal
      × HasReadBack included image old.history new.history (Err refusal) × (IsModelled old → VerifyErrors named included image old new refusal)
  unfound_errors old new Stopped errors =
      (tt, errors.last, tt, λ known punctual. let ran = errors.ran_out known.honest punctual in omega arith)
  unfound_errors old new (Timeout address) errors = (errors.0, errors.1, tt, λ known. tt)
  unfound_errors old new _ errors = search

  pub unfound : {old new : BusState} (refusal : Refusal) → OnlyReads most_probe old new
      → IdentificationErrors most_probe named old new refusal → Verified named included image old new (Err refusal)
  unfound {old} {new} refusal only_reads errors =
      let own = unfound_errors old new refusal errors in
      refused refusal (sends_probe only_reads) own.0 own.1 own.2
      (find_errors (most_read 16777216) named old new refusal (omega arith) errors) own.3

  module _ {old mid : BusState} {probed : Probed} (found : HasFound named old mid probed)
      (only_reads : OnlyReads most_probe old mid) where
    pub other_size : length image ≢ probed.found.size
        → Verified named included image old mid (Err (ImageSize probed.found.size (length image)))
    other_size differ = refused _ (sends_probe only_reads) tt tt tt found.rested (λ known.
        let size = size_of found only_reads known in search (has_name found only_reads, rw size at differ))

    pub past : length image ≡ probed.found.size → ReachesPast included probed.found.size
        → Verified named included image old mid (Err RegionOutside)
    past whole reaches = refused RegionOutside (sends_probe only_reads) tt tt tt found.rested
        (λ known. (is_passed found only_reads reaches known, whole ∙ size_of found only_reads known))

    module _ {new : BusState} (after : OnlyReads (probed.found.size / 4096) mid new) where
      pub stopped : HasStopped (probed.found.size / 4096) mid new
          → Verified named included image old new (Err Stopped)
      stopped out =
          let halt = fails found only_reads out in
          refused Stopped (sends_on found only_reads after) tt halt.last tt halt.largest halt.own

      module _ (whole : length image ≡ probed.found.size) (fits : FitsInto included probed.found.size)
          {compared : Compared} (all : ComparesBelow included image probed.found.size (probed.found.size / 4096) mid new compared) where
        first_before : (first : Option ℕ) → compared.first ≡ first → IsModelled old
            → FindsFirst included image old.chip.bytes 0 old.chip.config.size first
        first_before first is known =
            let blocks = found.is.part.in_blocks in
            let end : 4096 * (probed.found.size / 4096) ≡ probed.found.size = omega arith in
            rw (end, size_of found only_reads known, same_bytes (found.rested known.honest), is)
            at (all.errors (open_after found only_reads known))

        at_end : 4096 * (probed.found.size / 4096) ≡ length image
        at_end = let blocks = found.is.part.in_blocks in omega arith

        read_whole : (a : ℕ) → included_below included (length image) a ≡ true
            → (a < 4096 * (probed.found.size / 4096)) × (includes included a ≡ true)
        read_whole a inside =
            let is = both_true (includes included a) (nat_lt a (length image)) inside in
            let below = ltb-true a (length image) is.1 in
            let end = at_end in (omega arith, is.0)

        replied_to : (to : ℕ) → to ≤ 4096 * (probed.found.size / 4096)
            → AgreeIn included image (bytes_read all.reads_all.later) 0 to → (a : ℕ) → a < to
            → included_below included (length image) a ≡ true
            → IsReadAs (slice_index image a) all.reads_all.later a
        replied_to to fits agree a below inside =
            let is = read_whole a inside in
            record { whole = all.whole a is.0 is.1; same = sym (agree a (omega arith) below is.1) }

        read_back : compared.first ≡ None
            → ReadsBack (included_below included (length image)) (slice_index image) mid.history new.history
        read_back none = record {
          reads = all.reads_all;
          each = λ a inside. replied_to _ (omega arith) (rw none at all.finds) a (read_whole a inside).0 inside;
        }

        reads_other : (address : ℕ) → compared.first ≡ Some address
            → ReadsOther (included_below included (length image)) (slice_index image) address mid.history new.history
        reads_other address is =
            let other : IsFirstOther included image (bytes_read all.reads_all.later) 0
            (4096 * (probed.found.size / 4096)) address = rw is at all.finds in
            let end = at_end in let below = other.below in let inside = other.is_included in
            record {
              reads = all.reads_all;
              is = and_from _ _ inside (lt-ltb address (length image) (omega arith));
              whole = all.whole address other.below other.is_included;
              differs = λ same. other.differs (sym same);
              before = replied_to address (omega (arith, below)) other.before;
            }

        pub mismatch : (address : ℕ) → compared.first ≡ Some address
            → Verified named included image old new (Err (Mismatch address))
        mismatch address is = refused _ (sends_on found only_reads after) tt
            (read_after only_reads.nature.history (rw is at all.replied))
            (mid.history, only_reads.nature.history, reads_other address is) (rested_on found only_reads all.honest_reads.rested)
            (λ known. search (
              is_taken found only_reads fits,
              whole ∙ size_of found only_reads known,
              first_before (Some address) is known,
            ))

        pub equal : compared.first ≡ None
            → Verified named included image old new (Ok (report_of probed compared.reads))
        equal none =
            let sends = sends_on found only_reads after in
            let reports = reported found only_reads all.honest_reads all.counted in
            let first = first_before None none in
            let identified : IsFoundBy old.further new.history probed.found =
            found_still all.reads_all found.replied in
            let back : HasReadBack included image old.history new.history (Ok (report_of probed compared.reads)) =
            (mid.history, only_reads.nature.history, read_back none) in
            search (sends.own, reports.reads, reports.config)
