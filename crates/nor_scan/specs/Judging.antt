-- The results of the checks of a request against the identification, and against the touched sectors.
use Rattle.std.specs.Prelude.{◌≡◌, ℕ, Bool, true, List, length, Option, Result, IfOk, IfErr, MatchBool, MatchOption, ⊤}
use Rattle.nor_model.specs.Chip.{Chip, kept_in}
use Rattle.nor_model.specs.Guard.{code_of}
use Rattle.nor_model.specs.Offer.{IsLeastCode}
use Rattle.nor_plan.specs.declared.set.SectorSet.{SectorSet}
use Rattle.nor_plan.specs.SectorSet.{HasSome}
use Rattle.nor_plan.specs.Content.{is_touched}
use Rattle.nor_request.specs.Request.{wanted}
use Rattle.nor_scan.specs.declared.identity.Identity.{Identity}
use Rattle.nor_request.specs.declared.request.Request.{Request}
use Rattle.nor_request.specs.declared.request.What.{What}
use Rattle.nor_request.specs.declared.request.What.TheVariants.{WpRange}
use Rattle.nor_scan.specs.Identity.{status_read}
use Rattle.nor_request.specs.declared.refusal.Refusal.{Refusal}
use Rattle.nor_request.specs.declared.refusal.Refusal.TheVariants.{ImageSize, RegionOutside, NoProtection, UndefinedProtection, RangeNotOffered, StatusLocked, Protected}
use Rattle.nor_scan.specs.Saving.{IsIdentityOf, IsLeastProtected, NoneProtected, SomeProtected, NeedsStatus}
use Rattle.nor_scan.specs.Verdict.{IsNamed, IsVerdict, IdentityAccepts, ScanAccepts}

abbrev pub IsIdentityRefusal : Refusal → Type 0
IsIdentityRefusal (ImageSize chip image) = ⊤
IsIdentityRefusal RegionOutside = ⊤
IsIdentityRefusal NoProtection = ⊤
IsIdentityRefusal UndefinedProtection = ⊤
IsIdentityRefusal RangeNotOffered = ⊤
IsIdentityRefusal _ = ⊥

-- Holds if `code` has the target protection bits: for a protection range the least defined value that protects exactly
-- this range, otherwise the bits that were read.
abbrev pub IsFoundCode : What → Identity → ℕ → Type 0
IsFoundCode (WpRange start len) identity code = IsLeastCode identity.found.size start len code
IsFoundCode _ identity code = code ≡ code_of (kept_in (status_read identity))

abbrev pub IsScanRefusal : Refusal → Type 0
IsScanRefusal StatusLocked = ⊤
IsScanRefusal (Protected address) = ⊤
IsScanRefusal _ = ⊥

abbrev pub Lifts : Request → SectorSet → Bool → Type 0
Lifts request touched unlock = unlock ≡ true → (request.unlock ≡ true) × HasSome touched

-- Holds if `judged` (the result of `judge_identity`) is an error, or its code satisfies `IdentityAccepts` for every
-- image of `len` bytes and every chip that has this identification and, if the request has a name, this name.
abbrev pub AcceptsIdentity : Request → ℕ → Identity → Result ℕ Refusal → Type 0
AcceptsIdentity request len identity judged =
    (further : Bool) (chip : Chip) (image : List ℕ) → IsIdentityOf further chip identity
    → IsNamed further request.named chip.config → length image ≡ len
    → IfOk judged (IdentityAccepts further request image chip)

abbrev pub RefusesIdentity : Request → ℕ → Identity → Result ℕ Refusal → Type 0
RefusesIdentity request len identity judged =
    (further : Bool) (chip : Chip) (image : List ℕ) → IsIdentityOf further chip identity
    → IsNamed further request.named chip.config → length image ≡ len
    → IfErr judged (IsVerdict further request image chip)

abbrev pub FindsProtected : (ℕ → Bool) → Identity → Option ℕ → Type 0
FindsProtected touched identity found =
    (further : Bool) (chip : Chip) → IsIdentityOf further chip identity
    → MatchOption found (NoneProtected touched chip) (IsLeastProtected touched chip)

abbrev pub FindsNeed : Request → Identity → Bool → ℕ → Bool → Type 0
FindsNeed request identity is_touched_protected code needed = (further : Bool) (chip : Chip) (touched : ℕ → Bool)
    → IsIdentityOf further chip identity
    → MatchBool is_touched_protected (SomeProtected touched chip) (NoneProtected touched chip)
    → MatchBool needed (NeedsStatus request.what request.unlock code touched chip)
    (¬ NeedsStatus request.what request.unlock code touched chip)

-- Holds if `promise` holds for each chip with this identification and each image, provided that `IdentityAccepts` holds
-- with `code` and the request touches exactly the sectors in `touched`.
abbrev pub OfTouched : Request → Identity → ℕ → (ℕ → Bool) → (Bool → List ℕ → Chip → Type 0) → Type 0
OfTouched request identity code touched promise =
    (further : Bool) (chip : Chip) (image : List ℕ) → IsIdentityOf further chip identity
    → IdentityAccepts further request image chip code
    → ((s : ℕ) → touched s ≡ is_touched chip.bytes (wanted request image chip) s) → promise further image chip

abbrev pub AcceptsScan : Request → Identity → ℕ → (ℕ → Bool) → Result Bool Refusal → Type 0
AcceptsScan request identity code touched judged =
    OfTouched request identity code touched (λ further image chip. IfOk judged (ScanAccepts further request image chip))

abbrev pub RefusesScan : Request → Identity → ℕ → (ℕ → Bool) → Result Bool Refusal → Type 0
RefusesScan request identity code touched judged =
    OfTouched request identity code touched (λ further image chip. IfErr judged (IsVerdict further request image chip))
