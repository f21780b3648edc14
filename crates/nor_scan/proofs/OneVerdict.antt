use Rattle.std.proofs.Common.{◌≡◌, ◌≢◌, ◌<◌, ◌≤◌, ◌*◌, ◌∙◌, ℕ, Bool, true, false, List, length, Err, refl, sym, arith, rules}
use Rattle.std.proofs.Common.{Option, None, Some}
use mathlib.Core.Path.{fun_ext}
use Rattle.std.specs.Option.{is_some}
use Rattle.std.specs.Prelude.{MatchBool, MatchOption}
use Rattle.std.proofs.lemmas.Bool.{and_parts, both_ways, true_from_ne_false}
use Rattle.nor_model.specs.Chip.{Chip, is_locked}
use Rattle.nor_model.specs.Guard.{code_of, is_undefined, is_block_protected}
use Rattle.nor_model.specs.Offer.{IsLeastCode}
use Rattle.nor_plan.specs.Content.{is_touched}
use Rattle.nor_layout.specs.Sectors.{ReachesPast}
use Rattle.nor_probe.specs.declared.probes.ProbeFault.TheVariants as Probes
use Rattle.nor_probe.specs.declared.sfdp.SfdpFault.{SfdpFault}
use Rattle.nor_probe.specs.Known.{shown_as}
use Rattle.nor_request.specs.declared.request.Request.{Request}
use Rattle.nor_request.specs.declared.request.What.{What}
use Rattle.nor_request.specs.declared.request.What.TheVariants.{WpRange}
use Rattle.nor_request.specs.declared.refusal.Refusal.{Refusal}
use Rattle.nor_request.specs.declared.refusal.Refusal.TheVariants.{NoChip, UnknownChip, OtherName, ImageSize, RegionOutside, NoProtection, UndefinedProtection, RangeNotOffered, StatusLocked, Protected}
use Rattle.nor_request.specs.Refusal.{refusal_number}
use Rattle.nor_request.specs.Request.{is_data, IsWantedCode, wanted}
use Rattle.nor_scan.specs.Saving.{AsksForNone, NeedsStatus, NoneProtected, SomeProtected, IsLeastProtected, is_touched_protected}
use Rattle.nor_scan.specs.Verdict.{IsNamed, NeedsStatusWrite, RefusalHolds, IsVerdict, IsAccepted, NoneHoldsTo, IdentityAccepts, ScanAccepts}
use Rattle.nor_scan.proofs.Planned.{untouched}

pub record FitsChip (request : Request) (image : ℕ) (chip : Chip) : Type 0 where
  pub image_size : is_data request.what ≡ true → image ≡ chip.config.size
  pub regions : is_data request.what ≡ true → ¬ ReachesPast request.included chip.config.size

pub record FitsProtection (request : Request) (chip : Chip) : Type 0 where
  pub scheme : is_data request.what ≡ false → chip.config.scheme ≡ true
  pub defined : chip.config.scheme ≡ true → is_undefined (code_of chip.kept) ≡ false

abbrev pub OpeningJudges : Request → (image : ℕ) → Chip → Refusal → Type 0
OpeningJudges request image chip (ImageSize size len) =
    (is_data request.what ≡ true) × (size ≡ chip.config.size) × (len ≡ image) × (image ≢ chip.config.size)
OpeningJudges request image chip RegionOutside =
    (is_data request.what ≡ true) × (image ≡ chip.config.size) × ReachesPast request.included chip.config.size
OpeningJudges request image chip NoProtection = (is_data request.what ≡ false) × (chip.config.scheme ≡ false)
OpeningJudges request image chip UndefinedProtection =
    FitsChip request image chip × (chip.config.scheme ≡ true) × (is_undefined (code_of chip.kept) ≡ true)
OpeningJudges request image chip RangeNotOffered = FitsProtection request chip × AsksForNone request.what chip
OpeningJudges request image chip _ = ⊥

pub record OpeningPasses (request : Request) (image : ℕ) (chip : Chip) (code : ℕ) : Type 0 where
  pub fits : FitsChip request image chip
  pub protection : FitsProtection request chip
  pub is_wanted : IsWantedCode request.what chip code

abbrev pub ScanJudges : Request → (code : ℕ) → (touched : ℕ → Bool) → Chip → Refusal → Type 0
ScanJudges request code touched chip StatusLocked =
    (is_locked chip.kept ≡ true) × NeedsStatus request.what request.unlock code touched chip
ScanJudges request code touched chip (Protected address) =
    (request.unlock ≡ false) × (sector : ℕ) × (address ≡ 4096 * sector) × IsLeastProtected touched chip sector
ScanJudges request code touched chip _ = ⊥

pub record ScanPasses (request : Request) (code : ℕ) (touched : ℕ → Bool) (chip : Chip) (unlock : Bool) : Type 0 where
  pub lifts : unlock ≡ true → (request.unlock ≡ true) × SomeProtected touched chip
  pub free : unlock ≡ false → NoneProtected touched chip
  pub not_locked : is_locked chip.kept ≡ true → ¬ NeedsStatus request.what request.unlock code touched chip

asks_for_range : (what : What) (chip : Chip) → AsksForNone what chip → is_data what ≡ false
asks_for_range (WpRange start len) chip none = refl
asks_for_range _ chip none = absurd none

none_or_code : (what : What) (chip : Chip) (code : ℕ) → AsksForNone what chip → ¬ IsWantedCode what chip code
none_or_code (WpRange start len) chip code none wanted = none code wanted.defined wanted.protects
none_or_code _ chip code none wanted = none

one_least : (size start len x y : ℕ) → IsLeastCode size start len x → IsLeastCode size start len y → x ≡ y
one_least size start len x y first second =
    let above = λ (lower : x < y). second.least x lower first.defined first.protects in
    let below = λ (lower : y < x). first.least y lower second.defined second.protects in
    omega arith

needs_same : (what : What) (unlock : Bool) (x y : ℕ) (touched : ℕ → Bool) (chip : Chip) → IsWantedCode what chip x
    → IsWantedCode what chip y → NeedsStatus what unlock x touched chip → NeedsStatus what unlock y touched chip
needs_same (WpRange start len) unlock x y touched chip first second needs =
    rw (one_least _ _ _ x y first second) at needs
needs_same _ unlock x y touched chip first second needs = needs

pub touched_data : (request : Request) (image : List ℕ) (chip : Chip) (s : ℕ)
    → is_touched chip.bytes (wanted request image chip) s ≡ true → is_data request.what ≡ true
unfolding is_touched
touched_data request image chip s touched = true_from_ne_false (is_data request.what) (λ range.
    both_ways (is_touched chip.bytes (wanted request image chip) s)
    (rw range (untouched chip.bytes chip.bytes s (λ i below. refl))) touched)

needs_unlock : (what : What) (unlock : Bool) (code : ℕ) (touched : ℕ → Bool) (chip : Chip) → is_data what ≡ true
    → unlock ≡ false → ¬ NeedsStatus what unlock code touched chip
needs_unlock (WpRange start len) unlock code touched chip about_bytes off needs = absurd cc
needs_unlock _ unlock code touched chip about_bytes off needs = let on = needs.0 in absurd cc

never_lifted : (unlock lifted : Bool) → (lifted ≡ true → unlock ≡ true) → unlock ≡ false → lifted ≡ false
never_lifted unlock lifted asked off = grind arith

pub record IsClear (further : Bool) (request : Request) (image : List ℕ) (chip : Chip) (n : ℕ) : Type 0 where
  pub few : n ≤ 9
  pub there : 1 < n → shown_as further chip.config ≢ Err Probes.NoChip
  pub known : 2 < n → (fault : SfdpFault) → shown_as further chip.config ≢ Err (Probes.UnknownChip fault)
  pub named : 3 < n → IsNamed further request.named chip.config
  pub image_size : 4 < n → is_data request.what ≡ true → length image ≡ chip.config.size
  pub regions : 5 < n → is_data request.what ≡ true → ¬ ReachesPast request.included chip.config.size
  pub scheme : 6 < n → is_data request.what ≡ false → chip.config.scheme ≡ true
  pub defined : 7 < n → chip.config.scheme ≡ true → is_undefined (code_of chip.kept) ≡ false
  pub offered : 8 < n → ¬ AsksForNone request.what chip

number_few : (refusal : Refusal) → refusal_number refusal < 21
number_few NoChip = omega arith
number_few _ = omega arith

module _ {further : Bool} {request : Request} {image : List ℕ} {chip : Chip} where
  none_below : {n : ℕ} (refusal : Refusal) → IsClear further request image chip n → refusal_number refusal < n
      → ¬ RefusalHolds further request image chip refusal
  none_below NoChip is low holds = is.there low holds
  none_below (UnknownChip fault) is low holds = is.known low fault holds
  none_below OtherName is low holds =
      let one = (is.named low).shown in let same : (is.named low).part ≡ holds.part = (let other = holds.shown in cc) in
      holds.other (rw same at (is.named low).wanted)
  none_below (ImageSize size len) is low holds = holds.3 (holds.2 ∙ is.image_size low holds.0 ∙ sym holds.1)
  none_below RegionOutside is low holds = is.regions low holds.0 holds.1
  none_below NoProtection is low holds = let protects = is.scheme low holds.0 in let bare = holds.1 in cc
  none_below UndefinedProtection is low holds = let defined = is.defined low holds.0 in let none = holds.1 in cc
  none_below RangeNotOffered is low holds = is.offered low holds
  none_below StatusLocked is low holds = let few = is.few in absurd (omega arith)
  none_below (Protected address) is low holds = let few = is.few in absurd (omega arith)
  none_below _ is low holds = holds

  pub first_of : (refusal : Refusal) → IsClear further request image chip (refusal_number refusal)
      → RefusalHolds further request image chip refusal → IsVerdict further request image chip refusal
  first_of refusal is holds = record { holds = holds; first = λ other. none_below other is }

  pub opening_judged : (refusal : Refusal) → IsNamed further request.named chip.config
      → OpeningJudges request (length image) chip refusal → IsVerdict further request image chip refusal
  opening_judged (ImageSize size len) named judges = first_of (ImageSize size len) (search (rules, arith))
      (judges.0, judges.1, judges.2, λ same. judges.3 (sym judges.2 ∙ same ∙ judges.1))
  opening_judged RegionOutside named judges = first_of RegionOutside (search (rules, arith)) (judges.0, judges.2)
  opening_judged NoProtection named judges = first_of NoProtection (search (rules, arith)) judges
  opening_judged UndefinedProtection named judges =
      first_of UndefinedProtection (search (rules, arith)) (judges.1, judges.2)
  opening_judged RangeNotOffered named judges =
      let range = asks_for_range request.what chip judges.1 in
      first_of RangeNotOffered (search (rules, arith)) judges.1
  opening_judged _ named judges = absurd judges

  pub opening_accepted : {code : ℕ} → IsNamed further request.named chip.config
      → OpeningPasses request (length image) chip code → IdentityAccepts further request image chip code
  opening_accepted {code = code} named passes =
      let offered = λ (none : AsksForNone request.what chip).
      none_or_code request.what chip code none passes.is_wanted in
      let clear : IsClear further request image chip 9 = search (rules, arith) in
      record { clear = λ refusal low. none_below refusal clear (omega arith); is_wanted = passes.is_wanted }

pub some_protected-found : (touched : ℕ → Bool) (chip : Chip) (found : Option ℕ)
    → MatchOption found (NoneProtected touched chip) (IsLeastProtected touched chip)
    → MatchBool (is_some found) (SomeProtected touched chip) (NoneProtected touched chip)
some_protected-found touched chip None none = none
some_protected-found touched chip (Some s) least = record { sector = s; held = least.is }

module _ (further : Bool) (request : Request) (image : List ℕ) (chip : Chip) where
  abbrev touches : (s : ℕ) → Bool
  touches = is_touched chip.bytes (wanted request image chip)

  needs_code : {code : ℕ} → IdentityAccepts further request image chip code → NeedsStatusWrite request image chip
      → NeedsStatus request.what request.unlock code touches chip
  needs_code accepts needs = needs_same request.what _ needs.0 _ _ chip needs.1 accepts.is_wanted needs.2

  never_needed : (s : ℕ) → request.unlock ≡ false → is_touched_protected touches chip s ≡ true → ¬ NeedsStatusWrite request image chip
  never_needed s off held needs =
      let touched = (and_parts (touches s) (is_block_protected chip (4096 * s) 4096) held).0 in
      needs_unlock request.what request.unlock needs.0 _ chip (touched_data request image chip s touched) off needs.2

  scan_first : (n : ℕ) (refusal : Refusal) → NoneHoldsTo further 8 request image chip
      → (9 < n → ¬ RefusalHolds further request image chip StatusLocked)
      → (10 < n → (address : ℕ) → ¬ RefusalHolds further request image chip (Protected address))
      → refusal_number refusal < n → ¬ RefusalHolds further request image chip refusal
  scan_first n StatusLocked clear writable free low holds = writable low holds
  scan_first n (Protected address) clear writable free low holds = free low address holds
  scan_first n NoChip clear writable free low holds = clear NoChip (omega arith) holds
  scan_first n (UnknownChip fault) clear writable free low holds = clear (UnknownChip fault) (omega arith) holds
  scan_first n OtherName clear writable free low holds = clear OtherName (omega arith) holds
  scan_first n (ImageSize size len) clear writable free low holds = clear (ImageSize size len) (omega arith) holds
  scan_first n RegionOutside clear writable free low holds = clear RegionOutside (omega arith) holds
  scan_first n NoProtection clear writable free low holds = clear NoProtection (omega arith) holds
  scan_first n UndefinedProtection clear writable free low holds = clear UndefinedProtection (omega arith) holds
  scan_first n RangeNotOffered clear writable free low holds = clear RangeNotOffered (omega arith) holds
  scan_first n _ clear writable free low holds = holds

module _ {further : Bool} {request : Request} {image : List ℕ} {chip : Chip} {code : ℕ} {touched : ℕ → Bool}
    (accepts : IdentityAccepts further request image chip code)
    (same : (s : ℕ) → touched s ≡ is_touched chip.bytes (wanted request image chip) s) where
  pub scan_judged : (refusal : Refusal) → ScanJudges request code touched chip refusal
      → IsVerdict further request image chip refusal
  scan_judged StatusLocked judges =
      let needs = rw (fun_ext same) at judges.1 in
      record {
        holds = (judges.0, (code, accepts.is_wanted, needs));
        first = λ other low. scan_first further request image chip 9 other accepts.clear (omega arith)
            (λ past. absurd (omega arith)) low;
      }
  scan_judged (Protected address) judges =
      let least = rw (fun_ext same) at judges.3 in
      record {
        holds = (judges.0, judges.1, judges.2, least);
        first = λ other low. scan_first further request image chip 10 other accepts.clear
            (λ past locked. never_needed further request image chip judges.1 judges.0 least.is locked.1)
            (λ past. absurd (omega arith)) low;
      }
  scan_judged _ judges = absurd judges

  pub scan_accepted : {unlock : Bool} → ScanPasses request code touched chip unlock
      → ScanAccepts further request image chip unlock
  scan_accepted {unlock = unlock} passes' =
      let passes = rw (fun_ext same) at passes' in
      record {
        accepted = λ refusal. scan_first further request image chip 21 refusal accepts.clear
            (λ past locked. passes.not_locked locked.0 (needs_code further request image chip accepts locked.1))
            (λ past address held. both_ways (is_touched_protected (is_touched chip.bytes (wanted request image chip)) chip held.1)
            (passes.free (never_lifted request.unlock unlock (λ on. (passes.lifts on).0) held.0) held.1) held.3.is)
            (number_few refusal);
        lifts = passes.lifts;
        free = passes.free;
      }

pub accepted_only : (further : Bool) (request : Request) (image : List ℕ) (chip : Chip) (refusal : Refusal)
    → IsAccepted further request image chip → IsVerdict further request image chip refusal → ⊥
accepted_only further request image chip refusal accepted verdict = accepted refusal verdict.holds
