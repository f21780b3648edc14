use Rattle.std.proofs.Common.{◌≡◌, ◌<◌, ◌+◌, ◌*◌, ◌/◌, ◌%◌, ◌&&◌, ◌∙◌, ℕ, Bool, true, false, inl, inr, sym, arith, bit_and}
use Rattle.std.specs.Prelude.{if◌then◌else◌}
use Rattle.std.proofs.lemmas.Bool.{cases_Bool, false_from_ne_true, eqb-true, eq-eqb, both_ways, not-false, not_from_true, true_from_ne_false}
use Rattle.nor_geometry.specs.Below.{any_below, count_below}
use Rattle.nor_geometry.proofs.Below.{any_below-found}
use Rattle.nor_journal.specs.Text.{Content}
use Rattle.nor_journal.specs.Saved.{is_saved, saved_byte}
use Rattle.nor_plan.specs.Content.{is_other, must_rise, is_touched, is_raised, is_page_other, is_programmed}
use Rattle.nor_geometry.proofs.Counting.{any_below-false, any_below-same, count_below-same}
use Rattle.nor_scan.proofs.Planned.{unraised}
use Rattle.nor_session.specs.Restore.{restored, differing, every_saved}
use Rattle.nor_session.specs.PrepareRestore.{IsSoundChoice}
use Rattle.nor_session.proofs.SavedBytes.{sector_at}
use Rattle.nor_session.proofs.Rescanned.{restored_saved, untouched_other, unraised_other}

none_at : (test : ℕ → Bool) (a : ℕ) → any_below 4096 (λ i. test (4096 * (a / 4096) + i)) ≡ false → test a ≡ false
none_at test a none =
    let place : 4096 * (a / 4096) + a % 4096 ≡ a = omega arith in
    rw place at (any_below-false 4096 (λ i. test (4096 * (a / 4096) + i)) none (a % 4096) (omega arith))

pub untouched_byte : (content target_bytes : ℕ → ℕ) (a : ℕ) → is_touched content target_bytes (a / 4096) ≡ false → content a ≡ target_bytes a
unfolding is_touched
untouched_byte content target_bytes a none = eqb-true _ _ (not-false _ (none_at (λ b. is_other (content b) (target_bytes b)) a none))

pub unraised_byte : (content target_bytes : ℕ → ℕ) (a : ℕ) → is_raised content target_bytes (a / 4096) ≡ false → bit_and (target_bytes a) (content a) ≡ target_bytes a
unfolding is_raised
unraised_byte content target_bytes a none = eqb-true _ _ (not-false _ (none_at (λ b. must_rise (content b) (target_bytes b)) a none))

pub untouched_unraised : (content target_bytes : ℕ → ℕ) (s : ℕ) → is_touched content target_bytes s ≡ false → is_raised content target_bytes s ≡ false
untouched_unraised content target_bytes s none =
    unraised content target_bytes s (λ i below. sym (untouched_byte content target_bytes (4096 * s + i) (rw (sector_at s i below) none)))

pub touched_byte : (content target_bytes : ℕ → ℕ) (s : ℕ) → is_touched content target_bytes s ≡ true → (k : ℕ) × (k < 4096) × ¬ (content (4096 * s + k) ≡ target_bytes (4096 * s + k))
unfolding is_touched
touched_byte content target_bytes s some = search (arith, any_below-found, both_ways, eq-eqb, not_from_true)

pub touched_saved : (journal : Content) (content : ℕ → ℕ) (s : ℕ) → is_touched content (restored journal content) s ≡ true → is_saved journal s ≡ true
touched_saved journal content s some = search (arith, both_ways, true_from_ne_false, untouched_other)

pub written_restored : (journal : Content) (old mid new : ℕ → ℕ) (touched : ℕ → Bool) (a : ℕ)
    → ((s : ℕ) → touched s ≡ true → is_saved journal s ≡ true)
    → ((s : ℕ) → is_touched old (restored journal old) s ≡ true → touched s ≡ true) → mid a ≡ old a
    → new a ≡ (if touched (a / 4096) then saved_byte journal a else mid a) → new a ≡ restored journal old a
written_restored journal old mid new touched a saved differs same is = elim (cases_Bool (touched (a / 4096))) [
  | inl hit ↦ rw hit at is ∙ sym (restored_saved journal old a (saved (a / 4096) hit))
  | inr none ↦
      let untouched : is_touched old (restored journal old) (a / 4096) ≡ false
      = false_from_ne_true _ (λ other. both_ways (touched (a / 4096)) none (differs (a / 4096) other)) in
      rw none at is ∙ same ∙ untouched_byte old (restored journal old) a untouched
]

pub raised_saved : (journal : Content) (content : ℕ → ℕ) (s : ℕ) → is_raised content (restored journal content) s ≡ true → is_saved journal s ≡ true
raised_saved journal content s some = search (arith, both_ways, true_from_ne_false, unraised_other)

touched_if_raised : (journal : Content) (content : ℕ → ℕ) (s : ℕ) → is_raised content (restored journal content) s ≡ true
    → is_touched content (restored journal content) s ≡ true
touched_if_raised journal content s some = true_from_ne_false _
    (λ none. both_ways _ (untouched_unraised content (restored journal content) s none) some)

pub differing_sound : IsSoundChoice differing
differing_sound = record {
  saved = touched_saved;
  differs = λ journal content s is. is;
  rises = λ journal content s is. is;
  inside = touched_if_raised;
  few = λ saved. omega arith;
}

pub every_saved_sound : IsSoundChoice every_saved
every_saved_sound = record {
  saved = λ journal content s is. is;
  differs = touched_saved;
  rises = raised_saved;
  inside = λ journal content s is. is;
  few = λ saved. omega arith;
}

and_same : (b x y : Bool) → (b ≡ true → x ≡ y) → (b && x) ≡ (b && y)
and_same b x y same = grind arith

pub pages_same : (touched : ℕ → Bool) (old target_bytes target_bytes' : ℕ → ℕ) → ((a : ℕ) → touched (a / 4096) ≡ true → target_bytes a ≡ target_bytes' a)
    → count_below 65536 (is_programmed touched old target_bytes) ≡ count_below 65536 (is_programmed touched old target_bytes')
unfolding is_page_other
pages_same touched old target_bytes target_bytes' same = search (arith, and_same, any_below-same, count_below-same)
