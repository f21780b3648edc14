-- Lemmas about programming one sector, which is read first unless it was erased, and about the loop over all sectors.
use Rattle.std.proofs.Common.{◌≡◌, ◌<◌, ◌≤◌, ◌+◌, ◌*◌, ◌/◌, ◌∙◌, ℕ, Bool, true, false, List, slice_index, refl, ap, sym, arith, inl, inr, true≢false}
use Rattle.std.specs.Prelude.{◌&&◌, ◌||◌, nat_lt}
use Rattle.std.proofs.lemmas.Bool.{cases_Bool, and_parts, lt-ltb, le-ltb}
use Rattle.std.proofs.lemmas.Bool.Decides.{nat_tests}
use Rattle.std.proofs.Math.Bool.{and-false, or-false}
use Rattle.nor_geometry.specs.Below.{count_below}
use Rattle.nor_geometry.specs.Counts.{sector_count}
use Rattle.nor_geometry.proofs.Counting.{any_below-same, count_below-same, count_below-zero, count_below-with, count_below-without, count_below-add, count_below-none, count_below-most}
use Rattle.nor_model.specs.Bus.{BusState}
use Rattle.nor_model.proofs.Sizes.{sized_bounds}
use Rattle.nor_driver.specs.declared.waits.OperationError.{OperationError}
use Rattle.nor_driver.specs.Reads.{IsSectorOf}
use Rattle.nor_driver.specs.Waits.{OperationFails}
use Rattle.nor_driver.specs.Limits.{programming}
use Rattle.nor_driver.proofs.Limits.{sends_none, exactly_none}
use Rattle.nor_plan.specs.Content.{is_other, is_page_other, is_programmed}
use Rattle.nor_plan.specs.SectorSet.{none}
use Rattle.nor_apply.specs.declared.tally.Tally.{Tally}
use Rattle.nor_apply.specs.Within.{addresses_of}
use Rattle.nor_apply.specs.Change.{HasMade, only, byte_of, is_target_byte}
use Rattle.nor_apply.specs.Spending.{NamesTimeoutIn}
use Rattle.nor_apply.specs.Programming.{CanProgramSpans, CanProgramSector, LoadsOk, LeavesSector, DoesSector, CanProgramAll, LeavesPrograms, DoesPrograms, most_pages, most_sector}
use Rattle.nor_apply.proofs.InTurn.{Ran, ran_part, ran_after, ran_none, ran_leaves, honest_now, leaves_after, fails_after}
use Rattle.nor_apply.proofs.Alone.{only-here, count_below-next, only-is, shown_byte}
use Rattle.nor_apply.proofs.Changing.{can_after, change_then, change_as, made_may, changed_may, made_none, made_same, made_then}

module _ {sector : ℕ} {erased : Bool} {bytes bytes' : List ℕ} {reads : ℕ} {first mid : BusState}
    (loads : LoadsOk sector erased bytes bytes' first mid reads) where
  loads_ran : (target : (a byte : ℕ) → Bool)
      → Ran (programming (only sector) target 0) 1 first mid (record { count = 0; transactions = reads })
  loads_ran target =
      let read = loads.honest_reads in
      let few : reads ≤ 1 = grind (arith, loads.reads_once) in
      record {
        nature = read.nature;
        sends = sends_none (programming (only sector) target 0) first mid read.same_sent;
        exactly = exactly_none first mid read.same_sent;
        tallies = record {
          least = omega arith;
          few = omega (arith, few);
          added = record { all = loads.added.all; few_others = omega (arith, loads.added.few_others, few) };
          polled_ready = read.polled_ready;
          unsent = λ none. read.same_sent;
          idle = λ honest idle. omega (arith, (read.rested honest).unchanged.busy, idle);
          sent = read.sent;
        };
      }

  module _ {wanted : List ℕ} (blank : (i : ℕ) → i < 4096 → slice_index bytes i ≡ 255) (honest : first.honest ≡ true)
      (can : CanProgramSector sector wanted erased first.chip) where
    has_loaded : HasMade (λ a. false) (byte_of sector wanted) none first mid × IsSectorOf mid.chip.bytes sector bytes'
    has_loaded =
        let rested = loads.honest_reads.rested honest in
        let unchanged = rested.unchanged in
        let inside = can.can.inside sector (only-here refl) in
        let worn = λ (s : ℕ). unchanged.worn s ∙ sym (or-false (first.worn s)) in
        let idle : mid.chip.busy ≡ 0 = omega (arith, unchanged.busy, can.can.idle) in
        let of : IsSectorOf first.chip.bytes sector bytes' = elim (cases_Bool erased) [
          | inl is ↦ record {
            byte = λ i small. rw (loads.kept is)
                (blank i small ∙ sym (can.blank is (4096 * sector + i) (omega arith)));
          }
          | inr is ↦ loads.replied is honest can.can.idle (omega arith)
        ] in
        let same = unchanged.same.bytes in
        (assumption, record { byte = λ i small. of.byte i small ∙ sym (same (4096 * sector + i)) })

    can_spans : CanProgramSpans sector bytes' wanted mid.chip
    can_spans =
        let loaded = has_loaded in
        let able = can_after mid.chip (λ s is. is) can.can loaded.0.config loaded.0.kept loaded.0.idle in
        grind (arith, loaded.1.byte, loaded.0.bytes, can.falls, nat_tests)

  module _ {wanted : List ℕ} {new : BusState} (blank : (i : ℕ) → i < 4096 → slice_index bytes i ≡ 255)
      (leaves : LeavesSector most_pages (CanProgramSpans sector bytes' wanted) sector wanted mid new) where
    abbrev target : (a byte : ℕ) → Bool
    target = is_target_byte (only sector) (byte_of sector wanted)

    pub sector_leaves : LeavesSector most_sector (CanProgramSector sector wanted erased) sector wanted first new
    sector_leaves =
        leaves_after (loads_ran target) leaves (grind arith)
        (omega (arith, (loads_ran target).tallies.few)) (λ honest can. (
          can_spans blank honest can,
          change_then loads.honest_reads.nature.steady
              (made_may (λ a no. absurd (true≢false (sym no))) (λ s no. no) (has_loaded blank honest can).0),
        ))

    pub sector_does : {tally all : Tally} → DoesSector 0 (CanProgramSpans sector bytes' wanted) sector wanted mid new tally
        → all.count ≡ tally.count → all.transactions ≡ tally.transactions + reads
        → DoesSector 1 (CanProgramSector sector wanted erased) sector wanted first new all
    sector_does {tally} {all} does count transactions =
        let ran : Ran (programming (only sector) target tally.count) 1 first new all =
        ran_after (loads_ran target) (grind arith) (ran_part leaves does.exactly does.tallies)
        (omega arith) (omega arith) (omega arith) in
        record {
          fewer = omega (arith, does.fewer);
          exactly = rw count ran.exactly;
          tallies = ran.tallies;
          done = λ honest can.
              made_then (λ a. refl) (λ s. refl) (λ a is. refl) (has_loaded blank honest can).0
              (does.done (honest_now (loads_ran target) honest) (can_spans blank honest can));
          counted = λ honest can.
              let bytes : mid.chip.bytes ≡ first.chip.bytes = λ i a. (has_loaded blank honest can).0.bytes a i in
              let pages = λ (x : ℕ → ℕ) (page : ℕ). is_page_other x (byte_of sector wanted) (16 * sector + page) in
              count ∙ does.counted (honest_now (loads_ran target) honest) (can_spans blank honest can)
              ∙ ap (λ (x : ℕ → ℕ). count_below 16 (pages x)) bytes;
        }

abbrev pub before : (ℕ → Bool) → ℕ → ℕ → Bool
before touched n s = touched s && nat_lt s n

before_more : (touched : ℕ → Bool) (n : ℕ) → touched n ≡ true → (s : ℕ)
    → before touched (n + 1) s ≡ (before touched n s || only n s)
before_more touched n is s = grind (arith, nat_tests)

before_skip : (touched : ℕ → Bool) (n : ℕ) → touched n ≡ false → (s : ℕ) → before touched n s ≡ before touched (n + 1) s
before_skip touched n free s = grind (arith, nat_tests)

pub record SectorsSoFar (touched raised : ℕ → Bool) (wanted : ℕ → ℕ) (n : ℕ) (first now : BusState)
    (tally : Tally) : Type 0 where
  pub ran : Ran (programming touched (is_target_byte touched wanted) tally.count) (count_below n touched) first now
      tally
  pub fewer : tally.count ≤ 16 * count_below n touched
  pub done : first.honest ≡ true → CanProgramAll touched raised wanted first.chip
      → HasMade (addresses_of (before touched n)) wanted none first now
  pub counted : first.honest ≡ true → CanProgramAll touched raised wanted first.chip
      → tally.count ≡ count_below (16 * n) (is_programmed touched first.chip.bytes wanted)

pub sectors_none : {touched raised : ℕ → Bool} {wanted : ℕ → ℕ} (state : BusState)
    → SectorsSoFar touched raised wanted 0 state state (record { count = 0; transactions = 0 })
sectors_none {touched} {wanted = wanted} state = record {
  ran = ran_none state (refl, refl, refl);
  fewer = omega arith;
  done = λ honest can. made_none state (λ a. grind (arith, nat_tests)) (λ s. refl) can.can.idle;
  counted = λ honest can. sym (count_below-zero (is_programmed touched state.chip.bytes wanted));
}

pages_more : (touched : ℕ → Bool) (content wanted : ℕ → ℕ) (n : ℕ) (is : Bool) → touched n ≡ is
    → count_below (16 * (n + 1)) (is_programmed touched content wanted)
    ≡ count_below (16 * n) (is_programmed touched content wanted)
    + count_below 16 (λ page. is && is_page_other content wanted (16 * n + page))
pages_more touched content wanted n is same =
    let test = is_programmed touched content wanted in
    let length : 16 * (n + 1) ≡ 16 * n + 16 = omega arith in
    ap (λ (m : ℕ). count_below m test) length ∙ count_below-add (16 * n) 16 test
    ∙ ap (λ (m : ℕ). count_below (16 * n) test + m) (count_below-same 16 (λ page. test (16 * n + page))
    (λ page. is && is_page_other content wanted (16 * n + page))
    (λ page small. let sector : (16 * n + page) / 16 ≡ n = omega arith in rw (sector, same) refl))

page_same : (page : ℕ) {now before wanted wanted' : ℕ → ℕ} → ((a : ℕ) → a / 256 ≡ page → now a ≡ before a)
    → ((a : ℕ) → a / 256 ≡ page → wanted a ≡ wanted' a)
    → is_page_other now wanted page ≡ is_page_other before wanted' page
unfolding is_page_other
page_same page {now} {before} {wanted} {wanted'} same same_wanted =
    let at : ℕ → ℕ = λ i. 256 * page + i in
    any_below-same 256 (λ i. is_other (now (at i)) (wanted (at i))) (λ i. is_other (before (at i)) (wanted' (at i)))
    (λ i below. rw (same (at i) (omega arith), same_wanted (at i) (omega arith)) refl)

pub room : (touched : ℕ → Bool) (n : ℕ) → n < 4096 → touched n ≡ true → count_below n touched + 1 ≤ sector_count touched
room touched n below is = count_below-next 4096 n touched below is

pub record IsTouched (touched : ℕ → Bool) (wanted : ℕ → ℕ) (n : ℕ) (bytes : List ℕ) : Type 0 where
  pub is : touched n ≡ true
  pub below : n < 4096
  pub shows : (i : ℕ) → i < 4096 → slice_index bytes i ≡ wanted (4096 * n + i)

module _ {touched raised : ℕ → Bool} {wanted : ℕ → ℕ} {n : ℕ} {first now : BusState} {tally : Tally}
    (so : SectorsSoFar touched raised wanted n first now tally) where
  pub few_sectors : n < 4096 → (tally.count ≤ 65520) × (tally.transactions ≤ 4294053855)
  few_sectors below = omega (arith, count_below-most n touched)

  pub sectors_skip : touched n ≡ false → SectorsSoFar touched raised wanted (n + 1) first now tally
  sectors_skip free =
      let count = count_below-without n touched free in
      record {
        ran = rw count so.ran;
        fewer = rw count so.fewer;
        done = λ honest can.
            made_same (λ a. before_skip touched n free (a / 4096)) (λ s. refl) (so.done honest can);
        counted = λ honest can.
            let none = count_below-none 16 (λ page. false) (λ page small. refl) in
            omega (arith, so.counted honest can, pages_more touched first.chip.bytes wanted n false free, none);
      }

  module _ {bytes : List ℕ} (is : IsTouched touched wanted n bytes) where
    only_touched : (s : ℕ) → only n s ≡ true → touched s ≡ true
    only_touched s here = ap touched (only-is here) ∙ is.is

    wanted_byte : (a : ℕ) → only n (a / 4096) ≡ true → byte_of n bytes a ≡ wanted a
    wanted_byte a here = shown_byte n a bytes wanted (only-is here) is.shows

    target_byte : (a byte : ℕ) → is_target_byte (only n) (byte_of n bytes) a byte ≡ true
        → is_target_byte touched wanted a byte ≡ true
    target_byte a byte is =
        let parts = and_parts _ _ is in rw (only_touched (a / 4096) parts.0, ← wanted_byte a parts.0) parts.1

    names_member : (error : OperationError) → NamesTimeoutIn (only n) error → NamesTimeoutIn touched error
    names_member error returned = grind (arith, only_touched)

    module _ {erased : Bool} {new : BusState} (erased_is : erased ≡ raised n)
        (leaves : LeavesSector most_sector (CanProgramSector n bytes erased) n bytes now new) where
      module _ (honest : first.honest ≡ true) (can : CanProgramAll touched raised wanted first.chip) where
        still_old : (a : ℕ) → only n (a / 4096) ≡ true → now.chip.bytes a ≡ first.chip.bytes a
        still_old a here =
            let past : nat_lt (a / 4096) n ≡ false = le-ltb (a / 4096) n (omega (arith, only-is here)) in
            (so.done honest can).bytes a ∙ rw (past, and-false) refl

        can_sector : CanProgramSector n bytes erased now.chip
        can_sector =
            let done = so.done honest can in
            let able = can_after now.chip only_touched can.can done.config done.kept done.idle in
            grind (arith, still_old, only_touched, wanted_byte, can.blank, can.falls, nat_tests)

      pub sectors_failed : {error : OperationError} → OperationFails most_sector now new error → NamesTimeoutIn (only n) error
          → LeavesPrograms touched raised wanted first new
          × OperationFails (most_sector * sector_count touched) first new error × NamesTimeoutIn touched error
      sectors_failed {error} fails names =
          let fits : tally.transactions + most_sector ≤ most_sector * sector_count touched =
          omega (arith, so.fewer, room touched n is.below is.is) in (
            leaves_after so.ran leaves
                (grind (arith, only_touched, target_byte, so.fewer, room touched n is.below is.is)) fits
                (λ honest can. (
                  can_sector honest can,
                  λ may.
                      change_then so.ran.nature.steady
                      (made_may (λ a here. (and_parts _ _ here).0) (λ s no. no) (so.done honest can))
                      (change_as only_touched (λ s no. no) (λ a plain here. wanted_byte a here) may),
                )),
            fails_after so.ran fails fits,
            names_member error names,
          )

      pub sectors_more : {more all : Tally} → DoesSector 1 (CanProgramSector n bytes erased) n bytes now new more
          → all.count ≡ tally.count + more.count
          → all.transactions ≡ tally.transactions + more.transactions
          → SectorsSoFar touched raised wanted (n + 1) first new all
      sectors_more {more} does count transactions =
          let one = count_below-with n touched is.is in
          record {
            ran = ran_after so.ran (grind (arith, only_touched, target_byte, count))
                (ran_part leaves does.exactly does.tallies) (omega arith) count transactions;
            fewer = omega (arith, so.fewer, does.fewer);
            done = λ honest can.
                made_then (λ a. before_more touched n is.is (a / 4096)) (λ s. refl) wanted_byte
                (so.done honest can)
                (does.done (honest_now so.ran honest) (can_sector honest can));
            counted = λ honest can.
                let here = count_below-same 16 (λ page. is_page_other now.chip.bytes (byte_of n bytes) (16 * n + page))
                (λ page. is_page_other first.chip.bytes wanted (16 * n + page))
                (λ page small. page_same (16 * n + page) (λ a in_page. still_old honest can a (only-here (omega arith)))
                (λ a in_page. wanted_byte a (only-here (omega arith)))) in
                omega (
                  arith,
                  count,
                  so.counted honest can,
                  pages_more touched first.chip.bytes wanted n true is.is,
                  here,
                  does.counted (honest_now so.ran honest) (can_sector honest can),
                );
          }

module _ {touched raised : ℕ → Bool} {wanted : ℕ → ℕ} {n : ℕ} {first now : BusState} {tally : Tally} (end : n ≡ 4096)
    (so_far : SectorsSoFar touched raised wanted n first now tally) where
  pub does_ended : DoesPrograms touched raised wanted first now tally
  does_ended =
      let so = rw end at so_far in
      record {
        fewer = so.fewer;
        exactly = so.ran.exactly;
        tallies = so.ran.tallies;
        done = λ honest can.
            let small = (sized_bounds first.chip.config).small in
            let all : (s : ℕ) → before touched 4096 s ≡ touched s = λ s. elim (cases_Bool (touched s)) [
              | inl is ↦ rw (is, lt-ltb s 4096 (omega (arith, can.can.inside s is))) refl
              | inr free ↦ rw free refl
            ] in
            made_same (λ a. all (a / 4096)) (λ s. refl) (so.done honest can);
        counted = λ honest can. so.counted honest can;
      }

  pub leaves_ended : LeavesPrograms touched raised wanted first now
  leaves_ended =
      ran_leaves so_far.ran (grind (arith, does_ended.fewer))
      (omega (arith, does_ended.fewer, does_ended.tallies.few)) (λ honest can. changed_may (does_ended.done honest can))
