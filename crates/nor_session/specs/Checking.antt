-- The results of a verification of touched sectors.
use Rattle.std.specs.Prelude.{◌≡◌, ◌≢◌, ◌≤◌, ◌<◌, ◌+◌, ◌*◌, ◌/◌, ℕ, Bool, true, List, length, Result, Ok, Err, ⊤}
use Rattle.nor_model.specs.Chip.{Chip}
use Rattle.nor_model.specs.Exchange.{Exchange}
use Rattle.nor_model.specs.History.{Answered, EndsReading, names}
use Rattle.nor_model.specs.Bus.{BusState}
use Rattle.nor_driver.specs.OnlyReads.{HasStopped}
use Rattle.nor_driver.specs.ReadsInTurn.{HasOnlyRead}
use Rattle.nor_driver.specs.Polls.{AddsTransactions}
use Rattle.nor_driver.specs.ReadBack.{ReadsBack, ReadsOther}
use Rattle.nor_plan.specs.Bytes.{AllAgree, IsFirstDifference}
use Rattle.nor_apply.specs.Within.{addresses_of}
use Rattle.nor_request.specs.declared.refusal.Refusal.{Refusal}
use Rattle.nor_request.specs.declared.refusal.Refusal.TheVariants as Refusals
use Rattle.nor_session.specs.declared.checks.CheckFault.{CheckFault}
use Rattle.nor_session.specs.declared.checks.CheckFault.TheVariants.{Stopped, Mismatch}
use Rattle.nor_geometry.specs.Counts.{sector_count}

pub record CanCheck (sectors : ℕ → Bool) (chip : Chip) : Type 0 where
  pub idle : chip.busy ≡ 0
  pub inside : (s : ℕ) → sectors s ≡ true → 4096 * s + 4096 ≤ chip.config.size

pub record IsFirstMismatch (sectors : ℕ → Bool) (wanted content : ℕ → ℕ) (address : ℕ) : Type 0 where
  pub in_sector : sectors (address / 4096) ≡ true
  pub differs : content address ≢ wanted address
  pub before : (a : ℕ) → a < address → sectors (a / 4096) ≡ true → content a ≡ wanted a

-- Holds if the verification succeeded with `sent` transactions. If `CanCheck` held on a well-behaved bus, the sectors
-- have their target bytes.
pub record DoesChecks (sectors : ℕ → Bool) (wanted : ℕ → ℕ) (old new : BusState) (sent : ℕ) : Type 0 where
  pub reads : sent ≡ sector_count sectors
  pub added : AddsTransactions sent sent old.history new.history
  pub honest_reads : HasOnlyRead sent old new
  pub same : old.honest ≡ true → CanCheck sectors old.chip
      → (a : ℕ) → sectors (a / 4096) ≡ true → old.chip.bytes a ≡ wanted a

-- Holds if the verification may fail with this error. If `CanCheck` held on a well-behaved bus, `Mismatch` names the
-- first address in these sectors at which the chip differs from the target.
abbrev pub CheckErrors : (ℕ → Bool) → (ℕ → ℕ) → (old new : BusState) → CheckFault → Type 0
CheckErrors sectors wanted old new Stopped = HasStopped (sector_count sectors) old new
CheckErrors sectors wanted old new (Mismatch address) = EndsReading address new.history
    × (old.honest ≡ true → CanCheck sectors old.chip → IsFirstMismatch sectors wanted old.chip.bytes address)

abbrev pub NamesDifference : (ℕ → Bool) → CheckFault → Type 0
NamesDifference sectors Stopped = ⊤
NamesDifference sectors (Mismatch address) = sectors (address / 4096) ≡ true

pub record ReadsWhole (sector : ℕ) (Is : List ℕ → Type 0) (old new : List Exchange) : Type 0 where
  pub bytes : List ℕ
  pub answered : Answered (names 0x03 (4096 * sector)) old new bytes
  pub whole : length bytes ≡ 4096
  pub is : Is bytes

abbrev pub ChecksReply : (sector : ℕ) → (target : List ℕ) → (old new : List Exchange) → Result Unit CheckFault → Type 0
ChecksReply sector target old new (Ok done) = ReadsWhole sector (λ bytes. AllAgree bytes target) old new
ChecksReply sector target old new (Err Stopped) = ⊤
ChecksReply sector target old new (Err (Mismatch address)) = (first : ℕ) × (address ≡ 4096 * sector + first)
    × ReadsWhole sector (λ bytes. IsFirstDifference bytes target first) old new

abbrev pub ChecksReplies : (sectors : ℕ → Bool) → (wanted : ℕ → ℕ) → (old new : List Exchange) → Result ℕ CheckFault
    → Type 0
ChecksReplies sectors wanted old new (Ok sent) = ReadsBack (addresses_of sectors) wanted old new
ChecksReplies sectors wanted old new (Err Stopped) = ⊤
ChecksReplies sectors wanted old new (Err (Mismatch address)) =
    ReadsOther (addresses_of sectors) wanted address old new

abbrev pub of_check : CheckFault → Refusal
of_check Stopped = Refusals.Stopped
of_check (Mismatch address) = Refusals.Mismatch address
