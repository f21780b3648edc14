-- The verdict on a request: the request is accepted, or refused with the lowest of errors 1 to 10 that applies.
use Rattle.std.specs.Prelude.{◌≡◌, ◌≢◌, ◌<◌, ◌≤◌, ◌*◌, ℕ, Bool, true, false, List, length, Err}
use Rattle.nor_model.specs.Chip.{Chip, is_locked}
use Rattle.nor_model.specs.Guard.{code_of, is_undefined}
use Rattle.nor_plan.specs.Content.{is_touched}
use Rattle.nor_layout.specs.Sectors.{ReachesPast}
use Rattle.nor_probe.specs.declared.probes.ProbeFault.TheVariants as Probes
use Rattle.nor_probe.specs.Known.{shown_as}
pub use Rattle.nor_probe.specs.Found.{IsNamed}
use Rattle.nor_probe.specs.Found.{HasOtherName}
use Rattle.nor_request.specs.declared.request.Request.{Request}
use Rattle.nor_request.specs.declared.refusal.Refusal.{Refusal}
use Rattle.nor_request.specs.declared.refusal.Refusal.TheVariants.{NoChip, UnknownChip, OtherName, ImageSize, RegionOutside, NoProtection, UndefinedProtection, RangeNotOffered, StatusLocked, Protected}
use Rattle.nor_request.specs.Refusal.{refusal_number}
use Rattle.nor_request.specs.Request.{is_data, IsWantedCode, wanted}
use Rattle.nor_scan.specs.Saving.{AsksForNone, NeedsStatus, IsLeastProtected, NoneProtected, SomeProtected}

abbrev pub NeedsStatusWrite : Request → (image : List ℕ) → Chip → Type 0
NeedsStatusWrite request image chip = (code : ℕ) × IsWantedCode request.what chip code
    × NeedsStatus request.what request.unlock code (is_touched chip.bytes (wanted request image chip)) chip

-- Holds if the error applies to the request and the chip, regardless of other errors.
abbrev pub RefusalHolds : (further : Bool) → Request → (image : List ℕ) → Chip → Refusal → Type 0
RefusalHolds further request image chip NoChip = shown_as further chip.config ≡ Err Probes.NoChip
RefusalHolds further request image chip (UnknownChip fault) =
    shown_as further chip.config ≡ Err (Probes.UnknownChip fault)
RefusalHolds further request image chip OtherName = HasOtherName further request.named chip.config
RefusalHolds further request image chip (ImageSize size len) =
    (is_data request.what ≡ true) × (size ≡ chip.config.size) × (len ≡ length image) × (len ≢ size)
RefusalHolds further request image chip RegionOutside =
    (is_data request.what ≡ true) × ReachesPast request.included chip.config.size
RefusalHolds further request image chip NoProtection = (is_data request.what ≡ false) × (chip.config.scheme ≡ false)
RefusalHolds further request image chip UndefinedProtection =
    (chip.config.scheme ≡ true) × (is_undefined (code_of chip.kept) ≡ true)
RefusalHolds further request image chip RangeNotOffered = AsksForNone request.what chip
RefusalHolds further request image chip StatusLocked =
    (is_locked chip.kept ≡ true) × NeedsStatusWrite request image chip
RefusalHolds further request image chip (Protected address) = (request.unlock ≡ false)
    × (sector : ℕ) × (address ≡ 4096 * sector)
    × IsLeastProtected (is_touched chip.bytes (wanted request image chip)) chip sector
RefusalHolds further request image chip _ = ⊥

-- Holds if the error is the verdict on the request: it applies, and no error with a lower number applies.
pub record IsVerdict (further : Bool) (request : Request) (image : List ℕ) (chip : Chip)
    (refusal : Refusal) : Type 0 where
  pub holds : RefusalHolds further request image chip refusal
  pub first : (other : Refusal) → refusal_number other < refusal_number refusal
      → ¬ RefusalHolds further request image chip other

-- Holds if the request is accepted: none of the errors 1 to 10 applies.
abbrev pub IsAccepted : (further : Bool) → Request → (image : List ℕ) → Chip → Type 0
IsAccepted further request image chip = (refusal : Refusal) → ¬ RefusalHolds further request image chip refusal

abbrev pub NoneHoldsTo : (further : Bool) → (number : ℕ) → Request → (image : List ℕ) → Chip → Type 0
NoneHoldsTo further number request image chip =
    (refusal : Refusal) → refusal_number refusal ≤ number → ¬ RefusalHolds further request image chip refusal

-- Holds if none of the errors 1 to 8 applies, and `code` has the target protection bits.
pub record IdentityAccepts (further : Bool) (request : Request) (image : List ℕ) (chip : Chip) (code : ℕ) : Type 0 where
  pub clear : NoneHoldsTo further 8 request image chip
  pub is_wanted : IsWantedCode request.what chip code

-- Holds if no error applies, and `unlock` is set if and only if a touched sector is protected.
pub record ScanAccepts (further : Bool) (request : Request) (image : List ℕ) (chip : Chip)
    (unlock : Bool) : Type 0 where
  pub accepted : IsAccepted further request image chip
  pub lifts : unlock ≡ true
      → (request.unlock ≡ true) × SomeProtected (is_touched chip.bytes (wanted request image chip)) chip
  pub free : unlock ≡ false → NoneProtected (is_touched chip.bytes (wanted request image chip)) chip
