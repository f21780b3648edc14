use Rattle.std.proofs.Common.{◌≡◌, ℕ, ◌/◌, ◌⊎◌, inl, true, false, true≢false, arith, ◌∙◌, sym, ap}
use Rattle.std.specs.Prelude.{Bool, ◌||◌, if◌then◌else◌}
use Rattle.std.proofs.lemmas.Bool.{false_from_ne_true}
use Rattle.std.proofs.Math.Bool.{or-false, or_assoc}
use Rattle.nor_model.specs.Chip.{Chip, IsSame}
use Rattle.nor_model.specs.Bus.{BusState}
use Rattle.nor_model.proofs.ProtectedBlocks.{is_protected-same}
use Rattle.nor_driver.specs.StatusWrites.{MayWriteStatus, fixed_of}
use Rattle.nor_apply.specs.Within.{is_writable, IsWithin, addresses_of}
use Rattle.nor_apply.specs.Change.{CanChange, MayChange, HasMade, HasChanged}
use Rattle.nor_apply.proofs.Kept.{fixed_coded, writable_same}

pub within_then : (p : ℕ → Bool) (first : Chip) (mid new : BusState) → IsWithin p first mid → IsWithin p mid.chip new
    → IsWithin p first new
within_then p first mid new before after =
    let writable = writable_same first mid.chip before.config before.fixed in
    record {
      config = after.config ∙ before.config;
      bytes = λ a out. after.bytes a out ∙ before.bytes a out;
      fixed = after.fixed ∙ before.fixed;
      kept = λ shut. after.kept (writable ∙ shut) ∙ before.kept shut;
      runs = λ loses works.
          let runs = after.runs loses works in
          record {
            known = runs.known;
            inside = runs.inside;
            status = λ one two is.
                let returned = runs.status one two is in
                (sym writable ∙ returned.0, returned.1 ∙ before.fixed);
          };
    }

pub narrower : {b c : Bool} → (b ≡ true → c ≡ true) → c ≡ false → b ≡ false
narrower {b} wider out = false_from_ne_true b (λ is. true≢false (sym (wider is) ∙ out))

pub within_wider : (p q : ℕ → Bool) (first : Chip) (state : BusState) → ((a : ℕ) → p a ≡ true → q a ≡ true)
    → IsWithin p first state → IsWithin q first state
within_wider p q first state wider within = record {
  config = within.config;
  bytes = λ a out. within.bytes a (narrower (wider a) out);
  fixed = within.fixed;
  kept = within.kept;
  runs = λ loses works.
      let runs = within.runs loses works in search (runs.inside, runs.status);
}

pub idle_within : {p : ℕ → Bool} {first : Chip} {state : BusState} → state.chip.config ≡ first.config
    → ((a : ℕ) → p a ≡ false → state.chip.bytes a ≡ first.bytes a) → state.chip.kept ≡ first.kept → state.chip.busy ≡ 0
    → IsWithin p first state
idle_within {first} {state} config bytes kept idle = grind (arith, ap fixed_of kept)

pub same_within : (p : ℕ → Bool) (first : Chip) (state : BusState) → IsSame first state.chip → state.chip.busy ≡ 0
    → IsWithin p first state
same_within p first state same idle = idle_within same.config (λ a out. same.bytes a) same.kept idle

pub can_after : {t t' : ℕ → Bool} {old : Chip} (new : Chip) → ((s : ℕ) → t' s ≡ true → t s ≡ true) → CanChange t old
    → new.config ≡ old.config → new.kept ≡ old.kept → new.busy ≡ 0 → CanChange t' new
can_after {old} new within can config kept idle =
    grind (arith, within, can.inside, can.free, is_protected-same old new config kept)

pub same_change : {t r : ℕ → Bool} {w : ℕ → ℕ} {old new : BusState} → IsSame old.chip new.chip → new.chip.busy ≡ 0
    → ((s : ℕ) → new.worn s ≡ old.worn s) → MayChange t r w old new
same_change {t} {old} {new} same idle worn =
    search (same_within (addresses_of t) old.chip new same idle, same.bytes, inl)

pub change_then : {t r : ℕ → Bool} {w : ℕ → ℕ} {old mid new : BusState} → mid.steady ≡ old.steady
    → MayChange t r w old mid → MayChange t r w mid new → MayChange t r w old new
change_then {t} {old} {mid} {new} steadily before after =
    let within = within_then (addresses_of t) old.chip mid new before.within after.within in
    grind (arith, within, before.gentle, after.gentle, before.worn, after.worn)

pub change_as : {t r t' r' : ℕ → Bool} {w w' : ℕ → ℕ} {old new : BusState} → ((s : ℕ) → t s ≡ true → t' s ≡ true)
    → ((s : ℕ) → r s ≡ true → r' s ≡ true) → ((a : ℕ) → r' (a / 4096) ≡ false → t (a / 4096) ≡ true → w a ≡ w' a)
    → MayChange t r w old new → MayChange t' r' w' old new
change_as {t} {t' = t'} {old} {new} more raised wanted change =
    let within = within_wider (addresses_of t) (addresses_of t') old.chip new (λ a. more (a / 4096)) change.within in
    grind (arith, within, raised, wanted, change.gentle, change.within.bytes, change.worn)

pub status_change : {t r : ℕ → Bool} {w : ℕ → ℕ} {code : ℕ} {old new : BusState} → is_writable old.chip ≡ true
    → MayWriteStatus code old new → MayChange t r w old new
status_change {code = code} {old = old} writable wrote =
    grind (arith, wrote.bytes, wrote.runs, wrote.worn, fixed_coded code old.chip.kept)

pub either_byte : (b : Bool) {x old wanted : ℕ} → x ≡ (if b then wanted else old) → (x ≡ old) ⊎ (x ≡ wanted)
either_byte b is = grind arith

pub made_may : {p t r e : ℕ → Bool} {w : ℕ → ℕ} {old new : BusState} → ((a : ℕ) → p a ≡ true → t (a / 4096) ≡ true)
    → ((s : ℕ) → e s ≡ true → r s ≡ true) → HasMade p w e old new → MayChange t r w old new
made_may {old} {new} inside raised has =
    grind (arith, inside, raised, has.bytes, has.worn, or-false, ap fixed_of has.kept)

pub changed_may : {t e : ℕ → Bool} {w : ℕ → ℕ} {old new : BusState} → HasChanged t w e old new → MayChange t e w old new
changed_may has = made_may (λ a is. is) (λ s is. is) has

pub made_none : {p e : ℕ → Bool} {w : ℕ → ℕ} (state : BusState) → ((a : ℕ) → p a ≡ false) → ((s : ℕ) → e s ≡ false)
    → state.chip.busy ≡ 0 → HasMade p w e state state
made_none state none spared idle = grind (arith, none, spared, or-false)

pub made_same : {p p' e e' : ℕ → Bool} {w : ℕ → ℕ} {old new : BusState} → ((a : ℕ) → p a ≡ p' a)
    → ((s : ℕ) → e s ≡ e' s) → HasMade p w e old new → HasMade p' w e' old new
made_same {w = w} {old = old} same spared has =
    let bytes = λ (a : ℕ). has.bytes a ∙ ap (λ (b : Bool). if b then w a else old.chip.bytes a) (same a) in
    let worn = λ (s : ℕ). has.worn s ∙ ap (λ (b : Bool). old.worn s || b) (spared s) in
    assumption

pub made_then : {p q t e f g : ℕ → Bool} {v w : ℕ → ℕ} {old mid new : BusState} → ((a : ℕ) → t a ≡ (p a || q a))
    → ((s : ℕ) → g s ≡ (e s || f s)) → ((a : ℕ) → q a ≡ true → v a ≡ w a)
    → HasMade p w e old mid → HasMade q v f mid new → HasMade t w g old new
made_then both spared wanted before after =
    grind (arith, both, spared, wanted, before.bytes, after.bytes, before.worn, after.worn, or_assoc)
