-- Lemmas about the identification of the chip and the reads after it, for the three calls of this crate.
use Rattle.std.proofs.Common.{◌≡◌, ◌≤◌, ◌+◌, ◌∙◌, ℕ, true, List, Option, sym, arith}
use Rattle.std.specs.Prelude.{◌/◌}
use Rattle.nor_model.specs.Chip.{status1_of}
use Rattle.nor_model.specs.History.{EndsStopped}
use Rattle.nor_model.specs.Bus.{BusState}
use Rattle.nor_driver.specs.OnlyReads.{Rested, Spent, OnlyReads, RanOut, HasStopped, IsOpen}
use Rattle.nor_layout.specs.declared.ranges.Span.{Span}
use Rattle.nor_layout.specs.Sectors.{sectors_included, FitsInto, ReachesPast}
use Rattle.nor_layout.proofs.Sectors.{sectors_included-most}
use Rattle.nor_probe.specs.declared.table.ChipName.{ChipName}
use Rattle.nor_probe.specs.declared.probes.Probed.{Probed}
use Rattle.nor_probe.specs.Found.{IsConfigOf, most_probe}
use Rattle.nor_driver.proofs.ReadsInTurn.{only_reads_more, only_reads_within}
use Rattle.nor_driver.proofs.RestsInTurn.{HasOnlyRead, rested_then}
use Rattle.nor_request.specs.declared.refusal.Refusal.{Refusal}
use Rattle.nor_request.specs.declared.refusal.Refusal.TheVariants.{Stopped, Timeout}
use Rattle.nor_request.specs.declared.report.Report.{Report}
use Rattle.nor_request.specs.Errors.{IdentificationErrors, EndsAtError}
use Rattle.nor_read.specs.Finding.{IsModelled, HasFound, IsNamed, IsPassed, IsTaken}
use Rattle.nor_read.specs.Finding.{ReportsPart, ReportsReads, ReadingErrors, most_read}

pub record Sends (old new : BusState) : Type 0 where
  pub largest : OnlyReads (most_read 16777216) old new
  pub own : IsModelled old → OnlyReads (most_read old.chip.config.size) old new

pub record OperationFails (old new : BusState) : Type 0 where
  pub last : EndsStopped new.history
  pub largest : old.honest ≡ true → RanOut (most_read 16777216) old new
  pub own : IsModelled old → RanOut (most_read old.chip.config.size) old new

pub find_errors : (most : ℕ) (named : Option ChipName) (old new : BusState) (refusal : Refusal) → most_probe ≤ most
    → IdentificationErrors most_probe named old new refusal → old.honest ≡ true → ReadingErrors most named old new refusal
find_errors most named old new Stopped fits errors honest = λ punctual.
    let ran = errors.ran_out honest punctual in omega arith
find_errors most named old new (Timeout address) fits errors honest = absurd (errors.2 honest)
find_errors most named old new _ fits errors honest = search

pub find_ends : (most : ℕ) (named : Option ChipName) (old new : BusState) (refusal : Refusal)
    → IdentificationErrors most named old new refusal → EndsAtError refusal new.history
find_ends most named old new Stopped errors = errors.last
find_ends most named old new (Timeout address) errors = errors.1
find_ends most named old new _ errors = search

pub sends_probe : {old new : BusState} → OnlyReads most_probe old new → Sends old new
sends_probe only_reads = search (arith, only_reads_more)

abbrev pub report_of : Probed → (reads : ℕ) → Report
report_of probed reads =
    record { found = probed.found; touched = 0; erases = 0; programs = 0; transactions = probed.transactions + reads }

pub report_is : (probed : Probed) (reads : ℕ) (report : Report) → report.found ≡ probed.found → report.touched ≡ 0
    → report.erases ≡ 0 → report.programs ≡ 0 → report.transactions ≡ probed.transactions + reads
    → report ≡ report_of probed reads
report_is probed reads report found touched erases programs sent = λ i.
    record { found = found i; touched = touched i; erases = erases i; programs = programs i; transactions = sent i }

pub record Reports (named : Option ChipName) (included : Option (List Span)) (old new : BusState)
    (report : Report) : Type 0 where
  pub part : ReportsPart named old.further report
  pub polled_ready : new.polled_ready ≡ true
  pub reads : old.honest ≡ true → ReportsReads (sectors_included included report.found.size) old new report
  pub config : IsModelled old → IsConfigOf old.further old.chip.config report.found

status1_stays : (old new : BusState) → old.chip.busy ≡ 0 → Rested old new → status1_of new.chip ≡ status1_of old.chip
status1_stays old new idle rested =
    let latch = rested.idle_latch idle in
    let busy : new.chip.busy ≡ old.chip.busy = omega arith in cc

module _ {named : Option ChipName} {old mid : BusState} {probed : Probed}
    (found : HasFound named old mid probed) (only_reads : OnlyReads most_probe old mid) where
  pub size_of : IsModelled old → probed.found.size ≡ old.chip.config.size
  size_of known = (found.is.config known).size

  pub sends_on : {new : BusState} → OnlyReads (probed.found.size / 4096) mid new → Sends old new
  sends_on after =
      let most = found.is.part.at_most in
      record {
        largest = only_reads_within (most_read 16777216) (omega arith) only_reads after;
        own = λ known. let size = size_of known in
            only_reads_within (most_read old.chip.config.size) (omega arith) only_reads after;
      }

  pub ran_on : {new : BusState} (n most : ℕ) → most_probe + n ≤ most → HasStopped n mid new → old.honest ≡ true
      → RanOut most old new
  ran_on n most fits out honest punctual =
      let ran = out.ran_out (only_reads.nature.honest ∙ honest) (only_reads.nature.punctual ∙ punctual) in
      let fell = found.fell honest punctual in omega arith

  pub fails : {new : BusState} → HasStopped (probed.found.size / 4096) mid new → OperationFails old new
  fails out = let most = found.is.part.at_most in search (arith, ran_on, size_of, out.last)

  pub rested_on : {new : BusState} → (mid.honest ≡ true → Rested mid new) → old.honest ≡ true → Rested old new
  rested_on {new} rested honest =
      rested_then old mid new (found.rested honest) (rested (only_reads.nature.honest ∙ honest))

  pub open_after : IsModelled old → IsOpen probed.found.size mid
  open_after known =
      let rested = found.rested known.honest in let size = size_of known in search (arith, found.idle)

  pub has_name : old.honest ≡ true → IsNamed old.further named old.chip.config
  has_name honest = search found.is.shown

  pub is_taken : {included : Option (List Span)} → FitsInto included probed.found.size → IsModelled old
      → IsTaken old.further named included old.chip.config
  is_taken fits known = search (has_name, rw (size_of known) at fits)

  pub is_passed : {included : Option (List Span)} → ReachesPast included probed.found.size → IsModelled old
      → IsPassed old.further named included old.chip.config
  is_passed past known = search (has_name, rw (size_of known) at past)

  pub reported : {included : Option (List Span)} {new : BusState} {reads : ℕ} → HasOnlyRead reads mid new
      → reads ≡ sectors_included included probed.found.size → Reports named included old new (report_of probed reads)
  reported {included} {new} {reads} honest_reads counted =
      let few = sectors_included-most included probed.found.size in
      let most = found.most in
      record {
        part = search arith;
        polled_ready = honest_reads.polled_ready found.polled_ready;
        reads = λ honest.
            let now = only_reads.nature.honest ∙ honest in
            let idle = found.idle honest in
            let last = honest_reads.rested now in
            let sent : Spent (probed.transactions + reads) old new = λ punctual. omega (
              arith,
              found.fell honest punctual,
              honest_reads.sent now (only_reads.nature.punctual ∙ punctual),
            ) in
            let rested = rested_on honest_reads.rested honest in
            let status1 = found.status1 honest ∙ sym (status1_stays mid new idle last) in
            search (arith, found.is.shown honest, found.count honest, sent);
        config = found.is.config;
      }
