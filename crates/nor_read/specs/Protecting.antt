-- The report of `wp_status` on a chip's block protection.
use Rattle.std.specs.Prelude.{◌≡◌, ◌<◌, ◌≤◌, ◌+◌, ◌↔◌, ℕ, Bool, true, false, Option, MatchOption, ⊤}
use Rattle.std.specs.Prelude.{Result, IfOk, IfErr, OnOk, List, [], ◌∷◌}
use Rattle.nor_model.specs.Chip.{Chip, KeptBits, is_locked, kept_in}
use Rattle.nor_model.specs.Exchange.{Exchange}
use Rattle.nor_model.specs.History.{Continues, Answered, begins_with}
use Rattle.nor_model.specs.Guard.{code_of, is_protected, is_undefined}
use Rattle.nor_model.specs.Offer.{IsRangeOf}
use Rattle.nor_model.specs.Size.{is_chip_size}
use Rattle.nor_model.specs.Bus.{BusState}
use Rattle.nor_driver.specs.OnlyReads.{OnlyReads, Rested}
use Rattle.nor_probe.specs.declared.probes.Found.{Found}
use Rattle.nor_probe.specs.declared.table.ChipName.{ChipName}
use Rattle.nor_probe.specs.Replied.{IsFoundBy}
use Rattle.nor_request.specs.declared.refusal.Refusal.{Refusal}
use Rattle.nor_request.specs.declared.refusal.Refusal.TheVariants.{NoProtection}
use Rattle.nor_request.specs.Errors.{EndsAtError}
use Rattle.nor_read.specs.declared.protection.Protection.{Protection}
use Rattle.nor_read.specs.Finding.{IsNamed, IsFindRefusal, ReadingErrors, most_status}

-- Holds if the datasheets define a range for the chip's protection bits, and the protected addresses are exactly the
-- `len` addresses from `start` on. If `len` is 0, `start` is 0.
pub record IsProtectedRange (chip : Chip) (start len : ℕ) : Type 0 where
  pub defined : is_undefined (code_of chip.kept) ≡ false
  pub exactly : (a : ℕ) → (is_protected chip a ≡ true) ↔ ((start ≤ a) × (a < start + len))
  pub plain : len ≡ 0 → start ≡ 0

-- Holds if the chip has block protection and `protection` describes it (no `range` for undefined protection bits).
pub record IsProtection (chip : Chip) (protection : Protection) : Type 0 where
  pub scheme : chip.config.scheme ≡ true
  pub protected : MatchOption protection.range (is_undefined (code_of chip.kept) ≡ true)
      (λ places. IsProtectedRange chip places.0 places.1)
  pub lock : protection.locked ≡ is_locked chip.kept
  pub chip_size : protection.size ≡ chip.config.size

-- Holds if `protection` describes these non-volatile status bits on a chip of `size` bytes: the range that they protect
-- (no `range` if the datasheets don't define one) and whether they lock the status.
pub record IsProtectionOf (size : ℕ) (kept : KeptBits) (protection : Protection) : Type 0 where
  pub protected : MatchOption protection.range (is_undefined (code_of kept) ≡ true)
      (λ places. IsRangeOf size (code_of kept) places.0 places.1)
  pub lock : protection.locked ≡ is_locked kept
  pub chip_size : protection.size ≡ size

-- Holds if the last transaction was a read of status 2 (35h), sent after `old`, and `kept` has the non-volatile bits of
-- its reply and of the last reply to 05h. `found` is the chip that the replies in the history `new` identify
-- (`IsFoundBy`), with this status 1.
pub record HasReadStatus (further : Bool) (old new : List Exchange) (found : Found) (kept : KeptBits) : Type 0 where
  pub before : List Exchange
  pub since : Continues old before
  pub status2 : ℕ
  pub read : Answered (begins_with 0x35) before new (status2 ∷ [])
  pub identified : IsFoundBy further new found
  pub is : kept ≡ kept_in (found.status1 ∷ status2 ∷ [])

-- Holds if `protection` is what the bus replied: the size of the chip that was identified, which has block protection,
-- and the range and the lock that its status bytes mean.
pub record IsProtectionReplied (further : Bool) (old new : List Exchange) (protection : Protection) : Type 0 where
  pub found : Found
  pub kept : KeptBits
  pub read : HasReadStatus further old new found kept
  pub scheme : found.scheme ≡ true
  pub says : IsProtectionOf found.size kept protection

-- Holds for error 6 if the chip that the replies identify has no block protection. Holds for all other errors.
abbrev pub IsUnprotected : (further : Bool) → (history : List Exchange) → Refusal → Type 0
IsUnprotected further history NoProtection =
    (found : Found) × IsFoundBy further history found × (found.scheme ≡ false)
IsUnprotected further history refusal = ⊤

abbrev pub IsProtectionRefusal : Refusal → Type 0
IsProtectionRefusal NoProtection = ⊤
IsProtectionRefusal refusal = IsFindRefusal refusal

pub record ProtectionAlways (old new : BusState) (result : Result Protection Refusal) : Type 0 where
  pub only_reads : OnlyReads most_status old new
  pub sized : IfOk result (λ protection. is_chip_size protection.size ≡ true)
  pub replied : IfOk result (IsProtectionReplied old.further old.history new.history)
  pub unprotected : IfErr result (IsUnprotected old.further new.history)
  pub refuses : IfErr result IsProtectionRefusal
  pub last_transaction : IfErr result (λ refusal. EndsAtError refusal new.history)
  pub polled_ready : OnOk result (new.polled_ready ≡ true)

pub record ProtectionHonest (named : Option ChipName) (old new : BusState)
    (result : Result Protection Refusal) : Type 0 where
  pub rested : OnOk result (Rested old new)
  pub idle : OnOk result (new.chip.busy ≡ 0)
  pub is : OnOk result (IsNamed old.further named old.chip.config)
  pub errors : IfErr result (ReadingErrors most_status named old new)

-- Holds for error 6 if the chip can be identified and has the requested name, if any (`IsNamed`), but has no block
-- protection. Holds for all other errors.
abbrev pub ProtectionErrors : (further : Bool) → Option ChipName → Chip → Refusal → Type 0
ProtectionErrors further named chip NoProtection = IsNamed further named chip.config × (chip.config.scheme ≡ false)
ProtectionErrors further named chip _ = ⊤

pub record ProtectionModelled (named : Option ChipName) (old : BusState)
    (result : Result Protection Refusal) : Type 0 where
  pub returned : IfOk result (IsProtection old.chip)
  pub errors : IfErr result (ProtectionErrors old.further named old.chip)
