use Rattle.std.proofs.Common.{◌≡◌, ◌∙◌, ◌∷◌, ℕ, Bool, true, false, true≢false, List, [], None, refl, sym, ap, subst, inl, inr, arith}
use Rattle.std.specs.Prelude.{◌==◌, if◌then◌else◌}
use Rattle.std.proofs.Math.Bool.{or-false}
use Rattle.std.proofs.lemmas.Bool.{or_cases, cases_Bool, eqb-true}
use Rattle.std.proofs.lemmas.Bool.Decides.{nat_tests}
use Rattle.nor_model.specs.Command.{begins_quiet, is_quiet_opcode, is_changing_opcode, is_erase_opcode}
use Rattle.nor_model.specs.Sent.{Sent, RecordsSent, with_sent, is_stirred, has_unknown, is_targeted, has_written, has_programmed, none_targeted, bare_targeted, addressed_targeted, is_in_targeted, targets, writes_status, programs_at}

quiet_is : (opcode : ℕ) → is_quiet_opcode opcode ≡ true → (P : ℕ → Type 0) → P 0x03 → P 0x04 → P 0x05 → P 0x35 → P 0x4B
    → P 0x5A → P 0x9F → P opcode
quiet_is opcode quiet P p3 p4 p5 p35 p4b p5a p9f =
    let at : (n : ℕ) → (opcode == n) ≡ true → P n → P opcode = λ n is p. subst P (sym (eqb-true opcode n is)) p in
    elim (or_cases _ _ quiet) [
      | inr is ↦ at 0x9F is p9f
      | inl quiet ↦ elim (or_cases _ _ quiet) [
        | inr is ↦ at 0x5A is p5a
        | inl quiet ↦ elim (or_cases _ _ quiet) [
          | inr is ↦ at 0x4B is p4b
          | inl quiet ↦ elim (or_cases _ _ quiet) [
            | inr is ↦ at 0x35 is p35
            | inl quiet ↦ elim (or_cases _ _ quiet) [
              | inr is ↦ at 0x05 is p5
              | inl quiet ↦ elim (or_cases _ _ quiet) [
                | inr is ↦ at 0x04 is p4
                | inl is ↦ at 0x03 is p3
              ]
            ]
          ]
        ]
      ]
    ]

in_none : (s : ℕ) → is_in_targeted none_targeted s ≡ false
in_none s = grind (arith, nat_tests)

targets_none : (opcode : ℕ) (rest : List ℕ) → bare_targeted opcode ≡ none_targeted
    → ((sector : ℕ) → addressed_targeted opcode sector ≡ none_targeted) → (s : ℕ) → targets (opcode ∷ rest) s ≡ false
targets_none opcode [] bare at s = rw bare (in_none s)
targets_none opcode (x ∷ []) bare at s = rw bare (in_none s)
targets_none opcode (x ∷ y ∷ []) bare at s = rw bare (in_none s)
targets_none opcode (x ∷ y ∷ z ∷ rest) bare at s = rw (at _) (in_none s)

writes_none : (opcode : ℕ) (rest : List ℕ) → (opcode == 0x01) ≡ false → (one two : ℕ)
    → writes_status (opcode ∷ rest) one two ≡ false
writes_none opcode [] other one two = refl
writes_none opcode (x ∷ []) other one two = refl
writes_none opcode (x ∷ y ∷ []) other one two = rw other refl
writes_none opcode (x ∷ y ∷ z ∷ rest) other one two = refl

programs_none : (opcode : ℕ) (rest : List ℕ) → (opcode == 0x02) ≡ false → (a : ℕ) → programs_at (opcode ∷ rest) a ≡ None
programs_none opcode [] other a = refl
programs_none opcode (x ∷ []) other a = refl
programs_none opcode (x ∷ y ∷ []) other a = refl
programs_none opcode (x ∷ y ∷ z ∷ rest) other a = rw other refl

silent : (opcode : ℕ) (rest : List ℕ) (old : Sent) → bare_targeted opcode ≡ none_targeted
    → ((sector : ℕ) → addressed_targeted opcode sector ≡ none_targeted) → is_quiet_opcode opcode ≡ true
    → is_changing_opcode opcode ≡ false → (opcode == 0x01) ≡ false → (opcode == 0x02) ≡ false
    → is_erase_opcode opcode ≡ false → RecordsSent (opcode ∷ rest) old old
silent opcode rest old bare at quiet change status program erase = record {
  quiet = λ is. refl;
  stirred = rw change (sym (or-false (is_stirred old)));
  unknown = rw quiet (sym (or-false (has_unknown old)));
  targeted = λ s. rw (targets_none opcode rest bare at s) (sym (or-false (is_targeted old s)));
  written = λ one two. rw (writes_none opcode rest status one two) (sym (or-false (has_written old one two)));
  programmed = λ a byte. rw (programs_none opcode rest program a) (sym (or-false (has_programmed old a byte)));
  erases = rw erase refl;
  programs = rw program refl;
  status_writes = rw status refl;
}

quiet_records_sent : (out : List ℕ) (old : Sent) → begins_quiet out ≡ true → RecordsSent out old old
quiet_records_sent [] old quiet = record {
  quiet = λ is. refl;
  stirred = sym (or-false (is_stirred old));
  unknown = sym (or-false (has_unknown old));
  targeted = λ s. rw (in_none s) (sym (or-false (is_targeted old s)));
  written = λ one two. sym (or-false (has_written old one two));
  programmed = λ a byte. sym (or-false (has_programmed old a byte));
  erases = refl;
  programs = refl;
  status_writes = refl;
}
quiet_records_sent (opcode ∷ rest) old quiet =
    let none : (sector : ℕ) → none_targeted ≡ none_targeted = λ sector. refl in
    quiet_is opcode quiet (λ (o : ℕ). RecordsSent (o ∷ rest) old old)
    (silent 0x03 rest old refl none refl refl refl refl refl)
    (silent 0x04 rest old refl none refl refl refl refl refl)
    (silent 0x05 rest old refl none refl refl refl refl refl)
    (silent 0x35 rest old refl none refl refl refl refl refl)
    (silent 0x4B rest old refl none refl refl refl refl refl)
    (silent 0x5A rest old refl none refl refl refl refl refl)
    (silent 0x9F rest old refl none refl refl refl refl refl)

loud_records_sent : (out : List ℕ) (old : Sent) → begins_quiet out ≡ false → RecordsSent out old (out ∷ old)
loud_records_sent out old loud = record {
  quiet = λ quiet. absurd (true≢false (sym quiet ∙ loud));
  stirred = refl;
  unknown = refl;
  targeted = λ s. refl;
  written = λ one two. refl;
  programmed = λ a byte. refl;
  erases = refl;
  programs = refl;
  status_writes = refl;
}

pub records_sent : {out : List ℕ} {old new : Sent} → new ≡ with_sent out old → RecordsSent out old new
records_sent {out} {old} {new} is = elim (cases_Bool (begins_quiet out)) [
  | inl quiet ↦
      subst (λ (n : Sent). RecordsSent out old n)
      (sym (is ∙ ap (λ (b : Bool). if b then old else out ∷ old) quiet)) (quiet_records_sent out old quiet)
  | inr loud ↦
      subst (λ (n : Sent). RecordsSent out old n)
      (sym (is ∙ ap (λ (b : Bool). if b then old else out ∷ old) loud)) (loud_records_sent out old loud)
]
