use Rattle.std.proofs.Common.{◌≡◌, ◌≤◌, ◌<◌, ◌+◌, ◌-◌, ◌*◌, ◌/◌, ◌%◌, ◌∙◌, ◌⊎◌, ℕ, Bool, true, [], ◌∷◌, inl, inr, ap, sym, subst, arith}
use Rattle.std.specs.Prelude.{◌&&◌, ◌||◌, ◌==◌}
use Rattle.std.proofs.lemmas.Bool.{and_parts, eqb-true}
use Rattle.std.proofs.Math.Nat.{add-mul}
use Rattle.std.proofs.lemmas.Bool.Decides.{nat_tests}
use Rattle.nor_model.specs.declared.status.Status.{Status}
use Rattle.nor_model.specs.Chip.{kept_in}
use Rattle.nor_model.specs.Guard.{code_of}
use Rattle.nor_model.specs.Status.{bytes_of}
use Rattle.nor_model.specs.Sent.{Sent, is_targeted, has_written, has_programmed, has_unknown, erases_of, programs_of, status_writes_of}
use Rattle.nor_model.specs.Bus.{BusState}
use Rattle.nor_driver.specs.StatusWrites.{fixed_of, is_status_with_code}
use Rattle.nor_geometry.specs.Counts.{sector_count}
use Rattle.nor_geometry.proofs.Counting.{count_below-most}
use Rattle.nor_journal.specs.Text.{Content}
use Rattle.nor_journal.specs.Saved.{is_saved}
use Rattle.nor_apply.specs.declared.changes.Changes.{Changes}
use Rattle.nor_apply.specs.Applying.{touched_in, raised_in, status_writes, is_status_asked}
use Rattle.nor_apply.proofs.Targeting.{target_split}
use Rattle.nor_apply.proofs.ApplyingInTurn.{count_below-fewer}
use Rattle.nor_session.specs.Changing.{LeavesChange}
use Rattle.nor_session.specs.Session.{SendsSaved, ProgramsOnly, SendsFew, WritesOnly, WritesStatusAtMost}

pub none_written : (most : ℕ) (old new : BusState) → new.sent ≡ old.sent → WritesStatusAtMost most old new
none_written most old new same = let count = ap status_writes_of same in omega (arith, count)

pub none_sent : (IsCode : ℕ → Type 0) (calls : ℕ) (journal : Content) (old new : BusState) → new.sent ≡ old.sent
    → SendsSaved IsCode calls journal old new
none_sent IsCode calls journal old new same = grind arith

pub none_programmed : (IsByte : (a byte : ℕ) → Type 0) (old new : BusState) → new.sent ≡ old.sent
    → ProgramsOnly IsByte old new
none_programmed IsByte old new same = λ a byte. inl (ap (λ (sent : Sent). has_programmed sent a byte) same)

pub programs_then : (IsByte : (a byte : ℕ) → Type 0) (old mid new : BusState) → ProgramsOnly IsByte old mid
    → ProgramsOnly IsByte mid new → ProgramsOnly IsByte old new
programs_then IsByte old mid new before after a byte = elim (after a byte) [
  | inl same ↦ elim (before a byte) [ inl was ↦ inl (same ∙ was) | inr is ↦ inr is ]
  | inr is ↦ inr is
]

pub few_none : (old new : BusState) → new.sent ≡ old.sent → SendsFew old new
few_none old new same = grind arith

pub sends_then : (IsCode : ℕ → Type 0) (m n : ℕ) (journal : Content) (old mid new : BusState)
    → SendsSaved IsCode m journal old mid → SendsSaved IsCode n journal mid new
    → SendsSaved IsCode (m + n) journal old new
sends_then IsCode m n journal old mid new before after =
    let erases = add-mul m n (sector_count (is_saved journal)) in
    let programs = add-mul m n (16 * sector_count (is_saved journal)) in
    grind (arith, before.targeted, after.targeted, before.written, after.written, erases, programs)

pub sends_most : (IsCode : ℕ → Type 0) (n most : ℕ) (journal : Content) (old new : BusState) → n ≤ most
    → SendsSaved IsCode n journal old new → SendsSaved IsCode most journal old new
sends_most IsCode n most journal old new few sends =
    let erases = times_more (sector_count (is_saved journal)) in
    let programs = times_more (16 * sector_count (is_saved journal)) in
    search (arith, sends.targeted, sends.written)
  where
    times_more : (k : ℕ) → n * k ≤ most * k
    times_more k =
        let split : most ≡ n + (most - n) = omega (arith, few) in
        let sum : most * k ≡ n * k + (most - n) * k = ap (λ (m : ℕ). m * k) split ∙ add-mul n (most - n) k in
        omega (arith, sum)

pub sends_wider : (IsCode IsWider : ℕ → Type 0) (calls : ℕ) (journal : Content) (old new : BusState)
    → ((code : ℕ) → IsCode code → IsWider code) → SendsSaved IsCode calls journal old new
    → SendsSaved IsWider calls journal old new
sends_wider IsCode IsWider calls journal old new wider sends = grind (arith, sends.targeted, sends.written, wider)

pub coded_only : (IsCode : ℕ → Type 0) (journal : Content) (status : Status) (code one two : ℕ) → code < 64
    → fixed_of (kept_in (bytes_of status)) ≡ fixed_of (kept_in journal.status) → IsCode code
    → is_status_with_code status code one two ≡ true → WritesOnly IsCode journal one two
coded_only IsCode journal status code one two small fixed is written =
    let first : one ≡ 128 * (status.one.0 / 128) + 4 * (code % 32) = grind (arith, nat_tests) in
    let second : two ≡ status.two.0 % 64 + 64 * (code / 32) = grind (arith, nat_tests) in
    let same : code_of (kept_in (one ∷ two ∷ [])) ≡ code = omega (arith, first, second) in
    let bits1 : one / 4 / 32 ≡ status.one.0 / 4 / 32 = omega (arith, first) in
    let bits2 : two % 128 % 64 ≡ status.two.0 % 128 % 64 = omega (arith, second) in
    record {
      fixed = rw (bits1, bits2) fixed;
      code = rw same is;
      clear1 = omega (arith, first);
      clear2 = omega (arith, second);
    }

-- Holds if the changes are for a chip of the journal's size, touch only saved sectors, raise only touched ones, and
-- write only allowed bits.
pub record AreOfJournal (IsCode : ℕ → Type 0) (journal : Content) (changes : Changes) : Type 0 where
  pub sized : journal.size ≡ changes.size
  pub saved : (s : ℕ) → touched_in changes s ≡ true → is_saved journal s ≡ true
  pub raised : (s : ℕ) → raised_in changes s ≡ true → touched_in changes s ≡ true
  pub fixed : fixed_of (kept_in (bytes_of changes.status)) ≡ fixed_of (kept_in journal.status)
  pub small : changes.code < 64
  pub lifted : changes.unlock ≡ true → IsCode 0
  pub code : IsCode changes.code

asked_parts : (changes : Changes) (one two : ℕ) → is_status_asked changes one two ≡ true
    → ((changes.unlock ≡ true) × (is_status_with_code changes.status 0 one two ≡ true))
    ⊎ (is_status_with_code changes.status changes.code one two ≡ true)
asked_parts changes one two asked = or_parts changes.unlock (is_status_with_code changes.status 0 one two) _ _ asked
  where
    or_parts : (a b c d : Bool) → (a && b || c && d) ≡ true → ((a ≡ true) × (b ≡ true)) ⊎ (d ≡ true)
    or_parts a b c d is = grind arith

module _ {changes : Changes} {wanted : ℕ → ℕ} (old : BusState) {mid new : BusState} (unsent : mid.sent ≡ old.sent)
    (leaves : LeavesChange changes wanted mid new) where
  pub change_programs : (IsByte : (a byte : ℕ) → Type 0)
      → ((a : ℕ) → touched_in changes (a / 4096) ≡ true → IsByte a (wanted a)) → ProgramsOnly IsByte old new
  change_programs IsByte target a byte = elim (leaves.sends.programmed a byte) [
    | inl same ↦ inl (same ∙ ap (λ (sent : Sent). has_programmed sent a byte) unsent)
    | inr is ↦
        let parts = and_parts (touched_in changes (a / 4096)) (byte == wanted a) is in
        inr (subst (λ (b : ℕ). IsByte a b) (sym (eqb-true byte (wanted a) parts.1)) (target a parts.0))
  ]

  pub change_writes : {most : ℕ} → status_writes changes ≤ most → WritesStatusAtMost most old new
  change_writes few =
      let same = ap status_writes_of unsent in let most = leaves.sends.status_writes in omega (arith, same, few, most)

  module _ (IsCode : ℕ → Type 0) (journal : Content) (are : AreOfJournal IsCode journal changes) where
    touched_few : sector_count (touched_in changes) ≤ sector_count (is_saved journal)
    touched_few = count_below-fewer 4096 (touched_in changes) (is_saved journal) are.saved

    raised_fewer : sector_count (raised_in changes) ≤ sector_count (touched_in changes)
    raised_fewer = count_below-fewer 4096 (raised_in changes) (touched_in changes) are.raised

    asked_only : (one two : ℕ) → is_status_asked changes one two ≡ true → WritesOnly IsCode journal one two
    asked_only one two asked = elim (asked_parts changes one two asked) [
      | inl lifts ↦ coded_only IsCode journal changes.status 0 one two (omega arith) are.fixed (are.lifted lifts.0) lifts.1
      | inr writes ↦ coded_only IsCode journal changes.status changes.code one two are.small are.fixed are.code writes
    ]

    pub change_sends : SendsSaved IsCode 1 journal old new
    change_sends = record {
      targeted = λ s. elim (leaves.sends.targeted s) [
        | inl same ↦ inl (same ∙ ap (λ (sent : Sent). is_targeted sent s) unsent)
        | inr targeted ↦ elim (target_split (touched_in changes) changes.size s targeted) [
          | inl here ↦ inr (inl (are.saved s here))
          | inr outside ↦ inr (inr record {
            whole = λ k below. are.saved k (outside.1 k (omega (arith, below, are.sized)));
            past_end = let past = outside.0 in omega (arith, past, are.sized);
          })
        ]
      ];
      written = λ one two. elim (leaves.sends.written one two) [
        | inl same ↦ inl (same ∙ ap (λ (sent : Sent). has_written sent one two) unsent)
        | inr asked ↦ inr (asked_only one two asked)
      ];
      erases =
          let same = ap erases_of unsent in let most = leaves.sends.erases in
          omega (arith, same, most, touched_few, raised_fewer);
      programs =
          let same = ap programs_of unsent in let most = leaves.sends.programs in
          omega (arith, same, most, touched_few);
      unknown = leaves.sends.unknown ∙ ap has_unknown unsent;
    }

  pub change_few : ((s : ℕ) → raised_in changes s ≡ true → touched_in changes s ≡ true) → SendsFew old new
  change_few inside =
      let few = count_below-most 4096 (touched_in changes) in
      let raised_fewer = count_below-fewer 4096 (raised_in changes) (touched_in changes) inside in
      let same1 = ap erases_of unsent in let same2 = ap programs_of unsent in
      let most1 = leaves.sends.erases in let most2 = leaves.sends.programs in
      record {
        erases = omega (arith, same1, most1, few, raised_fewer);
        programs = omega (arith, same2, most2, few);
        unknown = leaves.sends.unknown ∙ ap has_unknown unsent;
      }
