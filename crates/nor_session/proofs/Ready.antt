-- The state of a session after it saved the touched sectors, and bounds on its transactions and status writes.
use Rattle.std.proofs.Common.{◌≡◌, ◌≤◌, ◌+◌, ◌/◌, ◌∙◌, ℕ, Bool, true, false, List, ap, sym, refl, arith, rules}
use Rattle.std.specs.Prelude.{if◌then◌else◌}
use Rattle.std.proofs.lemmas.Bool.{true_from_ne_false, false_from_ne_true}
use Rattle.std.proofs.lemmas.Bool.Decides.{nat_tests}
use Rattle.nor_model.specs.Guard.{code_of}
use Rattle.nor_model.specs.Chip.{kept_in}
use Rattle.nor_model.specs.declared.status.Status.{Status}
use Rattle.nor_model.specs.Status.{bytes_of}
use Rattle.nor_model.specs.Bus.{BusState}
use Rattle.nor_model.proofs.Nature.{nature_then}
use Rattle.nor_driver.specs.OnlyReads.{OnlyReads, RanOut}
use Rattle.nor_layout.specs.Sectors.{includes, has_in_sector}
use Rattle.nor_geometry.proofs.Below.{count_below-most}
use Rattle.nor_plan.specs.SectorSet.{has}
use Rattle.nor_probe.specs.Found.{IsPart}
use Rattle.nor_apply.specs.declared.changes.Changes.{Changes}
use Rattle.nor_apply.specs.declared.changes.Work.{Work}
use Rattle.nor_driver.specs.Limits.{Spends}
use Rattle.nor_apply.specs.Applying.{status_writes}
use Rattle.nor_apply.proofs.ProgrammingWhole.{room}
use Rattle.nor_scan.specs.declared.identity.Identity.{Identity}
use Rattle.nor_scan.specs.declared.saving.SavedScan.{SavedScan}
use Rattle.nor_scan.specs.declared.scanning.Scanned.{Scanned}
use Rattle.nor_request.specs.declared.request.Request.{Request}
use Rattle.nor_request.specs.declared.request.What.{What}
use Rattle.nor_request.specs.declared.request.What.TheVariants.{WpRange}
use Rattle.nor_request.specs.Request.{is_data, scanned_sectors}
use Rattle.nor_scan.specs.Identity.{status_read, ReadsIdentity, most_identity}
use Rattle.nor_scan.specs.Judging.{Lifts}
use Rattle.nor_scan.specs.Scanning.{AreMarks}
use Rattle.nor_scan.specs.SavedScan.{HasSaved}
use Rattle.nor_driver.proofs.RestsInTurn.{HasOnlyRead, rested_then}
use Rattle.nor_session.specs.Bounds.{most_of}
use Rattle.nor_session.specs.Changing.{read_back, most_changed, DoesChange}
use Rattle.nor_session.specs.Session.{most_status_writes, IsWithinBound, CountsChanges}
use Rattle.nor_session.proofs.Changed.{two_writes, write_once}

abbrev pub changes_of : Identity → SavedScan → Status → ℕ → Changes
changes_of identity kept status code =
    record {
      touched = kept.scanned.touched;
      raised = kept.scanned.raised;
      kinds = identity.found.kinds;
      size = identity.found.size;
      status = status;
      unlock = kept.unlock;
      code = code;
    }

pub record Ready (request : Request) (identity : Identity) (status : Status) (code : ℕ) (kept : SavedScan) (old mid : BusState) : Type 0 where
  pub part : IsPart old.further identity.found
  pub honest_reads : HasOnlyRead (identity.transactions + kept.scanned.reads) old mid
  pub least : 4 ≤ identity.transactions
  pub few : identity.transactions ≤ most_identity
  pub reads : kept.scanned.reads ≡ scanned_sectors request identity.found.size
  pub marks : AreMarks (identity.found.size / 4096) kept.scanned
  pub fewer : kept.scanned.count ≤ kept.scanned.reads
  pub lifts : Lifts request kept.scanned.touched kept.unlock
  pub is_status : bytes_of status ≡ status_read identity
  pub same_code : is_data request.what ≡ true → code ≡ code_of (kept_in (status_read identity))

pub has_opened : {named : _} {identity : Identity} {old mid : BusState} → OnlyReads most_identity old mid
    → ReadsIdentity named old mid identity → HasOnlyRead identity.transactions old mid
has_opened only_reads opens = search rules

pub ready : {request : Request} {identity : Identity} {status : Status} {code most : ℕ} {image image' : List ℕ}
    {vault : _} {kept : SavedScan} {old mid new : BusState} → OnlyReads most_identity old mid
    → ReadsIdentity request.named old mid identity → OnlyReads most mid new
    → HasSaved request identity code image image' mid new vault kept
    → bytes_of status ≡ status_read identity → (is_data request.what ≡ true → code ≡ code_of (kept_in (status_read identity)))
    → Ready request identity status code kept old new
ready {identity = identity} {kept = kept} {old = old} {mid = mid} {new = new} only_reads opens more keeps is_status same_code =
    let honest_reads : HasOnlyRead (identity.transactions + kept.scanned.reads) old new
    = grind (arith, nature_then old mid new more.nature only_reads.nature, rested_then old mid new) in
    search rules

pub scanned_most : (request : Request) (size : ℕ) → scanned_sectors request size ≤ size / 4096
scanned_most request size =
    let most = count_below-most (size / 4096) (has_in_sector (includes request.included)) in
    grind (arith, nat_tests)

pub scanned_few : (request : Request) (size : ℕ) → size ≤ 16777216 → scanned_sectors request size ≤ 4096
scanned_few request size small = let most = scanned_most request size in omega arith

pub spends_more : {m n : ℕ} {old new : BusState} → m ≤ n → Spends m old new → Spends n old new
spends_more fits spends =
    record {
      nature = spends.nature;
      falls = λ honest punctual. let falls = spends.falls honest punctual in omega arith;
    }

pub spends_only_reads : {m n : ℕ} {old new : BusState} → m ≤ n → OnlyReads m old new → Spends n old new
spends_only_reads fits only_reads =
    spends_more fits (record { nature = only_reads.nature; falls = λ honest. (only_reads.honest_reads honest).falls })

pub touched_data : (request : Request) (size : ℕ) {scanned : Scanned} (s : ℕ) → size ≤ 16777216
    → AreMarks (size / 4096) scanned → scanned.count ≤ scanned.reads → scanned.reads ≡ scanned_sectors request size
    → has scanned.touched s ≡ true → is_data request.what ≡ true
touched_data request size {scanned} s large marks fewer reads some = true_from_ne_false (is_data request.what) (λ other.
    let below = marks.below s some in
    let one = room (has scanned.touched) s (omega arith) some in
    grind (arith, nat_tests))

writes_by : (what : What) (unlock lifted : Bool) (writes : ℕ) → writes ≤ 2 → (lifted ≡ true → unlock ≡ true)
    → (is_data what ≡ true → lifted ≡ false → writes ≡ 0) → (is_data what ≡ false → writes ≤ 1)
    → writes ≤ most_status_writes what unlock
writes_by (WpRange start len) unlock lifted writes two lifts none one = one refl
writes_by _ unlock lifted writes two lifts none one = let zero = none refl in grind (arith, nat_tests)

module _ {request : Request} {identity : Identity} {status : Status} {code : ℕ} {kept : SavedScan} {old mid : BusState}
    (is : Ready request identity status code kept old mid) where
  pub spends_ready : {new : BusState} → Spends (most_changed (changes_of identity kept status code)) mid new
      → Spends (most_of (scanned_sectors request identity.found.size)) old new
  spends_ready {new} spends = record {
    nature = nature_then old mid new spends.nature is.honest_reads.nature;
    falls = λ honest punctual.
        let before = is.honest_reads.nature in
        let sent = is.honest_reads.sent honest punctual in
        let falls = spends.falls (before.honest ∙ honest) (before.punctual ∙ punctual) in omega arith;
  }

  pub ran_out_ready : {new : BusState} → old.honest ≡ true
      → RanOut (most_changed (changes_of identity kept status code)) mid new
      → RanOut (most_of (scanned_sectors request identity.found.size)) old new
  ran_out_ready honest ran punctual =
      let sent = is.honest_reads.sent honest punctual in
      let out = ran (is.honest_reads.nature.punctual ∙ punctual) in omega arith

  pub lifts_none : is_data request.what ≡ false → kept.unlock ≡ false
  lifts_none other = false_from_ne_true kept.unlock (λ lifted.
      let some = (is.lifts lifted).1 in
      let about_bytes = touched_data request _ some.0 is.part.at_most is.marks is.fewer is.reads some.1 in
      cc)

  pub writes_few : status_writes (changes_of identity kept status code) ≤ most_status_writes request.what request.unlock
  writes_few =
      let changes = changes_of identity kept status code in
      writes_by request.what request.unlock kept.unlock (status_writes changes) (two_writes changes)
      (λ lifted. (is.lifts lifted).0)
      (λ about_bytes off.
      let same : code_of (kept_in (bytes_of status)) ≡ code = ap (λ (bytes : List ℕ). code_of (kept_in bytes)) is.is_status ∙ sym (is.same_code about_bytes) in
      grind (arith, nat_tests))
      (λ range. write_once changes (lifts_none range))

pub bounded_by : (request : Request) (identity : Identity) (status : Status) (code : ℕ) (kept : SavedScan) (old mid new : BusState) (wanted : ℕ → ℕ) (verify : Bool) (work : Work) (sent most : ℕ) → sent ≡ kept.scanned.reads
    → Ready request identity status code kept old mid → status_writes (changes_of identity kept status code) ≤ most
    → DoesChange (changes_of identity kept status code) wanted verify mid new work
    → IsWithinBound (scanned_sectors request identity.found.size) most verify
    (record { found = identity.found; touched = kept.scanned.count; erases = work.erases; programs = work.programs; transactions = identity.transactions + sent + work.transactions })
bounded_by request identity status code kept old mid new wanted verify work sent most is_sent is writes does =
    let checks : (if verify then kept.scanned.count else 0) ≡ read_back (changes_of identity kept status code) verify
    = ap (λ (n : ℕ). if verify then n else 0) is.marks.count in
    omega arith

pub counts_changes : (request : Request) (identity : Identity) (status : Status) (code : ℕ) (kept : SavedScan) (old mid new : BusState) (wanted : ℕ → ℕ) (verify : Bool) (work : Work) (sent most : ℕ) → sent ≡ kept.scanned.reads
    → Ready request identity status code kept old mid → status_writes (changes_of identity kept status code) ≤ most
    → DoesChange (changes_of identity kept status code) wanted verify mid new work
    → CountsChanges (scanned_sectors request identity.found.size) most verify old new
    (record { found = identity.found; touched = kept.scanned.count; erases = work.erases; programs = work.programs; transactions = identity.transactions + sent + work.transactions })
counts_changes request identity status code kept old mid new wanted verify work sent most is_sent is writes does =
    let checks : (if verify then kept.scanned.count else 0) ≡ read_back (changes_of identity kept status code) verify
    = ap (λ (n : ℕ). if verify then n else 0) is.marks.count in
    record {
      before = mid;
      first = identity.transactions + kept.scanned.reads;
      changing = work.transactions;
      only_read = is.honest_reads;
      few = omega (arith, is.few, is.reads);
      sum = omega (arith, is_sent);
      added = record {
        all = does.added.all;
        few_others = omega (arith, does.added.few_others, checks, is.marks.count, writes);
      };
    }
