use Rattle.std.proofs.Common.{◌≡◌, ◌≢◌, ◌≤◌, ◌<◌, ◌+◌, ◌-◌, ◌*◌, ◌/◌, ◌%◌, ◌∙◌, ℕ, Bool, true, false, refl, ap, sym, arith, inl, inr, List, [], ◌∷◌, length, slice_index, Err}
use Rattle.std.proofs.lemmas.Bool.{cases_eq, both_ways}
use Rattle.std.proofs.lemmas.List.Elements.{All-nil, All-cons}
use Rattle.std.proofs.lemmas.Bool.Decides.{nat_tests}
use Rattle.nor_geometry.specs.Below.{count_below}
use Rattle.nor_geometry.specs.Counts.{sector_count}
use Rattle.nor_geometry.proofs.Counting.{count_below-zero, count_below-with, count_below-without}
use Rattle.nor_model.specs.Exchange.{Exchange}
use Rattle.nor_model.specs.History.{Answered, EndsReading, names, replied as returned}
use Rattle.nor_model.specs.Bus.{BusState}
use Rattle.nor_driver.specs.OnlyReads.{OnlyReads, HasStopped}
use Rattle.nor_driver.specs.Polls.{AddsTransactions}
use Rattle.nor_driver.specs.Reads.{IsSectorOf, ReadsSector}
use Rattle.nor_driver.proofs.Polled.{adds_none, adds_one, adds_then}
use Rattle.nor_driver.proofs.RestsInTurn.{HasOnlyRead, has_only_read-none, has_only_read-then, only_reads_after, runs_out}
use Rattle.nor_plan.specs.Bytes.{AllAgree, IsFirstDifference}
use Rattle.nor_apply.specs.Change.{only, byte_of}
use Rattle.nor_driver.specs.ReadBack.{sector_read, bytes_read, IsSectorRead, AddsSectorReads, IsReadAs, ReadsBack, ReadsOther}
use Rattle.nor_driver.proofs.ReadBack.{read_other, read_here}
use Rattle.nor_apply.specs.Within.{addresses_of}
use Rattle.nor_session.specs.Checking.{CanCheck, DoesChecks, CheckErrors, NamesDifference, ReadsWhole, ChecksReply, ChecksReplies}
use Rattle.nor_session.specs.declared.checks.CheckFault.{CheckFault}
use Rattle.nor_session.specs.declared.checks.CheckFault.TheVariants.{Stopped, Mismatch}
use Rattle.nor_apply.proofs.Alone.{count_below-next, only-here, only-is, sector_count-only, shown_byte, old_byte}

pub stops : {sector : ℕ} (wanted : List ℕ) {old new : BusState} → sector < 4096 → HasStopped 1 old new
    → CheckErrors (only sector) (byte_of sector wanted) old new Stopped
stops {sector} wanted below out = rw (sector_count-only sector below) out

ends_reading : (sector : ℕ) (old new : BusState) (bytes : List ℕ) (first : ℕ) → first < 4096
    → Answered (names 0x03 (4096 * sector)) old.history new.history bytes
    → EndsReading (4096 * sector + first) new.history
ends_reading sector old new bytes first below answered =
    let here : (4096 * sector + first) / 4096 * 4096 ≡ 4096 * sector = omega (arith, below) in record {
      earlier = old.history;
      bytes = bytes;
      read = rw here answered;
    }

module _ {sector : ℕ} {bytes : List ℕ} {old new : BusState} (long : length bytes ≡ 4096)
    (reads : ReadsSector sector old new bytes) where
  replied : old.honest ≡ true → CanCheck (only sector) old.chip → IsSectorOf old.chip.bytes sector bytes
  replied honest can = let inside = can.inside sector (only-here refl) in reads.replied honest can.idle (omega arith)

  read_at : old.honest ≡ true → CanCheck (only sector) old.chip → (a : ℕ) → only sector (a / 4096) ≡ true
      → old.chip.bytes a ≡ slice_index bytes (a - 4096 * sector)
  read_at honest can a is = old_byte sector bytes old.chip.bytes a (only-is is) (replied honest can)

  pub agrees : (wanted : List ℕ) → sector < 4096 → HasOnlyRead 1 old new → AllAgree bytes wanted
      → DoesChecks (only sector) (byte_of sector wanted) old new 1
  agrees wanted below honest_reads agree = record {
    reads = sym (sector_count-only sector below);
    added = adds_one reads.answered.history;
    honest_reads = honest_reads;
    same = grind (arith, read_at, agree, nat_tests);
  }

  pub differs : (wanted : List ℕ) {first : ℕ} → IsFirstDifference bytes wanted first
      → CheckErrors (only sector) (byte_of sector wanted) old new (Mismatch (4096 * sector + first))
  differs wanted {first} difference = (
    ends_reading sector old new bytes first (omega (arith, difference.within, long)) reads.answered,
    λ honest can.
        let within = difference.within in
        let at : 4096 * sector + first - 4096 * sector ≡ first = omega arith in
        grind (arith, difference.differs, difference.before, read_at honest can, nat_tests),
  )

pub read_whole : {sector : ℕ} {bytes : List ℕ} {old new : BusState} {Is : List ℕ → Type 0}
    → ReadsSector sector old new bytes → length bytes ≡ 4096 → Is bytes
    → ReadsWhole sector Is old.history new.history
read_whole {bytes = bytes} reads long is = record { bytes = bytes; answered = reads.answered; whole = long; is = is }

-- Holds after each sector of the set `sectors` below `n` was read once, and each reply had the target bytes.
pub record HasChecked (sectors : ℕ → Bool) (wanted : ℕ → ℕ) (n : ℕ) (old new : BusState) (sent : ℕ) : Type 0 where
  pub honest_reads : HasOnlyRead sent old new
  pub added : AddsTransactions sent sent old.history new.history
  pub few : sent ≤ n
  pub counted : sent ≡ count_below n sectors
  pub reads : AddsSectorReads old.history new.history
  pub each : (a : ℕ) → a / 4096 < n → sectors (a / 4096) ≡ true → IsReadAs (wanted a) reads.later a
  pub same : old.honest ≡ true → CanCheck sectors old.chip
      → (a : ℕ) → a / 4096 < n → sectors (a / 4096) ≡ true → old.chip.bytes a ≡ wanted a

pub checked_none : {t : ℕ → Bool} {w : ℕ → ℕ} (state : BusState) → HasChecked t w 0 state state 0
checked_none {t} state = record {
  honest_reads = has_only_read-none state;
  added = adds_none state.history;
  few = omega arith;
  counted = sym (count_below-zero t);
  reads = record { later = []; is = refl; each = All-nil IsSectorRead };
  each = λ a below hit. absurd (omega (arith, below));
  same = λ honest can a below hit. absurd (omega (arith, below));
}

module _ {t : ℕ → Bool} {w : ℕ → ℕ} {n sent : ℕ} {old mid : BusState} (has : HasChecked t w n old mid sent) where
  elsewhere : t n ≡ false → (a : ℕ) → t (a / 4096) ≡ true → a / 4096 ≢ n
  elsewhere not a hit here = both_ways (t n) not (rw here at hit)

  pub checked_without : t n ≡ false → HasChecked t w (n + 1) old mid sent
  checked_without not = record {
    honest_reads = has.honest_reads;
    added = has.added;
    few = let few = has.few in omega arith;
    counted = has.counted ∙ sym (count_below-without n t not);
    reads = has.reads;
    each = λ a below hit.
        has.each a (let other = elsewhere not a hit in omega arith) hit;
    same = λ honest can a below hit.
        has.same honest can a (let other = elsewhere not a hit in omega arith) hit;
  }

  module _ (is : t n ≡ true) (bytes : List ℕ)
      (are : (i : ℕ) → i < 4096 → slice_index bytes i ≡ w (4096 * n + i)) where
    can_one : (honest : old.honest ≡ true) → CanCheck t old.chip → CanCheck (only n) mid.chip
    can_one honest can = grind (arith, has.honest_reads.rested honest, can.inside, nat_tests)

    wanted_at : (a : ℕ) → a / 4096 ≡ n → byte_of n bytes a ≡ w a
    wanted_at a here = shown_byte n a bytes w here are

    module _ {new : List Exchange} {Is : List ℕ → Type 0} (back : ReadsWhole n Is mid.history new) where
      abbrev reads_more : AddsSectorReads old.history new
      reads_more = record {
        later = returned back.answered.out back.bytes ∷ has.reads.later;
        is = back.answered.history
            ∙ ap (λ (h : List Exchange). returned back.answered.out back.bytes ∷ h) has.reads.is;
        each = All-cons IsSectorRead (returned back.answered.out back.bytes) has.reads.later
            (record { sector = n; bytes = back.bytes; reads = back.answered.asks; replied = refl }) has.reads.each;
      }

      before_as : (a : ℕ) → a / 4096 < n → t (a / 4096) ≡ true → IsReadAs (w a) reads_more.later a
      before_as a below hit =
          let was = has.each a below hit in
          let read = read_other {n = n} back.answered.out back.bytes back.answered.asks has.reads.later a (λ here. omega (arith, below, here)) in
          record {
            whole = ap (λ (l : List ℕ). length l) read ∙ was.whole;
            same = ap (λ (reply : List ℕ). slice_index reply (a % 4096)) read ∙ was.same;
          }

      here_whole : (a : ℕ) → a / 4096 ≡ n → length (sector_read reads_more.later a) ≡ 4096
      here_whole a here = ap (λ (l : List ℕ). length l) (read_here {n = n} back.answered.out back.bytes back.answered.asks has.reads.later a here) ∙ back.whole

      here_byte : (a : ℕ) → a / 4096 ≡ n → bytes_read reads_more.later a ≡ slice_index back.bytes (a % 4096)
      here_byte a here = ap (λ (reply : List ℕ). slice_index reply (a % 4096))
          (read_here {n = n} back.answered.out back.bytes back.answered.asks has.reads.later a here)

      target_at : (a : ℕ) → a / 4096 ≡ n → slice_index bytes (a % 4096) ≡ w a
      target_at a here =
          let place : 4096 * n + a % 4096 ≡ a = omega arith in are (a % 4096) (omega arith) ∙ ap w place

      here_as : (a : ℕ) → a / 4096 ≡ n → slice_index back.bytes (a % 4096) ≡ slice_index bytes (a % 4096)
          → IsReadAs (w a) reads_more.later a
      here_as a here agree =
          record { whole = here_whole a here; same = here_byte a here ∙ agree ∙ target_at a here }

    pub checked_with : {new : BusState} → DoesChecks (only n) (byte_of n bytes) mid new 1
        → ReadsWhole n (λ reply. AllAgree reply bytes) mid.history new.history
        → HasChecked t w (n + 1) old new (sent + 1)
    checked_with does back =
        let honest_reads = has_only_read-then has.honest_reads does.honest_reads in
        let long = back.whole in record {
          honest_reads = honest_reads;
          added = adds_then has.added does.added;
          few = let few = has.few in omega arith;
          counted = let next = count_below-with n t is in let counted = has.counted in omega arith;
          reads = reads_more back;
          each = λ a below hit. elim (cases_eq (a / 4096) n) [
            | inl here ↦ here_as back a here (back.is (a % 4096) (omega arith))
            | inr other ↦ before_as back a (omega (arith, below, other)) hit
          ];
          same = grind (arith, does.same, can_one, wanted_at, has.same, nat_tests);
        }

    pub checked_other : {new : List Exchange} {first : ℕ}
        → ReadsWhole n (λ reply. IsFirstDifference reply bytes first) mid.history new
        → ReadsOther (addresses_of t) w (4096 * n + first) old.history new
    checked_other {first = first} back =
        let small : first < 4096 = let within = back.is.within in let long = back.whole in omega arith in
        let here : (4096 * n + first) / 4096 ≡ n = omega (arith, small) in
        let at : (4096 * n + first) % 4096 ≡ first = omega (arith, small) in record {
          reads = reads_more back;
          is = ap t here ∙ is;
          whole = here_whole back (4096 * n + first) here;
          differs = λ same. back.is.differs (ap (slice_index back.bytes) (sym at)
              ∙ sym (here_byte back (4096 * n + first) here) ∙ same ∙ sym (target_at back (4096 * n + first) here)
              ∙ ap (slice_index bytes) at);
          before = λ a below hit. elim (cases_eq (a / 4096) n) [
            | inl in_sector ↦ here_as back a in_sector (back.is.before (a % 4096) (omega arith))
            | inr other ↦ before_as back a (omega (arith, below, other)) hit
          ];
        }

    module _ (below : n < 4096) where
      fewer : sent + 1 ≤ sector_count t
      fewer = omega (arith, count_below-next 4096 n t below is, has.counted)

      failed_errors : (new : BusState) (fault : CheckFault) → CheckErrors (only n) (byte_of n bytes) mid new fault
          → CheckErrors t w old new fault
      failed_errors new Stopped errors =
          runs_out sent (sector_count t) old mid new (omega (arith, fewer)) has.honest_reads
          (rw (sector_count-only n below) at errors)
      failed_errors new (Mismatch address) errors = (
        errors.0,
        λ honest can.
            let same = (has.honest_reads.rested honest).unchanged.same in
            let first = errors.1 (has.honest_reads.nature.honest ∙ honest) (can_one honest can) in
            grind (arith, same.bytes, first.differs, first.before, wanted_at, has.same honest can, nat_tests),
      )

      failed_names : (fault : CheckFault) → NamesDifference (only n) fault → NamesDifference t fault
      failed_names fault returned = grind (arith, only-is)

      failed_replies : (new : BusState) (fault : CheckFault)
          → ChecksReply n bytes mid.history new.history (Err fault)
          → ChecksReplies t w old.history new.history (Err fault)
      failed_replies new Stopped replies = tt
      failed_replies new (Mismatch address) replies = rw replies.1 (checked_other replies.2)

      pub failed : {new : BusState} (fault : CheckFault) → OnlyReads 1 mid new
          → CheckErrors (only n) (byte_of n bytes) mid new fault → NamesDifference (only n) fault
          → ChecksReply n bytes mid.history new.history (Err fault)
          → OnlyReads (sector_count t) old new × CheckErrors t w old new fault × NamesDifference t fault
          × ChecksReplies t w old.history new.history (Err fault)
      failed {new} fault only_reads errors names replies = (
        only_reads_after sent 1 (sector_count t) old mid new fewer has.honest_reads only_reads,
        failed_errors new fault errors,
        failed_names fault names,
        failed_replies new fault replies,
      )

pub all_checked : {t : ℕ → Bool} {w : ℕ → ℕ} {sent : ℕ} {old new : BusState} → HasChecked t w 4096 old new sent
    → ((s : ℕ) → t s ≡ true → s < 4096) → ReadsBack (addresses_of t) w old.history new.history
all_checked has below = record {
  reads = has.reads;
  each = λ a hit. has.each a (below (a / 4096) hit) hit;
}
