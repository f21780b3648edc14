-- The effect of `save`, which scans the chip and writes a journal.
use Rattle.std.specs.Prelude.{◌≡◌, ◌≢◌, ◌/◌, ◌&&◌, ℕ, Bool, true, nat_lt, List, slice_index, Result, Ok, Err, ⊤}
use Rattle.nor_journal.specs.Text.{Content, IsContent, SameHeader, front, text}
use Rattle.nor_model.specs.Chip.{Chip}
use Rattle.nor_model.specs.Bus.{BusState}
use Rattle.nor_driver.specs.OnlyReads.{HasStopped}
use Rattle.nor_plan.specs.Content.{is_touched, is_raised}
use Rattle.nor_journal.specs.Saved.{Saves, JournalSaves, IsJournalPrefix, is_saved}
use Rattle.nor_journal.specs.Vault.{VaultState, Refused, Completed, Accepted}
use Rattle.nor_plan.specs.SectorSet.{has}
use Rattle.nor_scan.specs.declared.identity.Identity.{Identity}
use Rattle.nor_scan.specs.declared.saving.SavedScan.{SavedScan}
use Rattle.nor_request.specs.declared.request.Request.{Request}
use Rattle.nor_request.specs.declared.refusal.Refusal.{Refusal}
use Rattle.nor_request.specs.declared.refusal.Refusal.TheVariants.{StatusLocked, Protected, Vault, Stopped}
use Rattle.nor_request.specs.Request.{wanted, scanned_sectors}
use Rattle.nor_scan.specs.Scanning.{Scans}
use Rattle.nor_scan.specs.Judging.{Lifts}
use Rattle.nor_scan.specs.Saving.{IsIdentityOf, HasIdleChip, header_of}
use Rattle.nor_scan.specs.Verdict.{IsVerdict, IdentityAccepts, ScanAccepts}

-- Holds if the vault is sealed and the result is success, or the vault refused a call and the result is error 11, or
-- the vault accepted every call and the result is another error.
abbrev pub SavePuts : Result SavedScan Refusal → (old new : VaultState) → Type 0
SavePuts (Ok saved) old new = Completed old new
SavePuts (Err Vault) old new = Refused old new
SavePuts (Err _) old new = Accepted old new

pub record IsJournal (bytes : List ℕ) : Type 0 where
  pub content : Content
  pub is : IsContent content
  pub same : bytes ≡ text content

-- Holds if `bytes` are the encoding of a journal that has the header of `head` and saves exactly `sectors`.
pub record IsJournalOf (head : Content) (sectors : ℕ → Bool) (bytes : List ℕ) : Type 0 where
  pub content : Content
  pub is : IsContent content
  pub same : bytes ≡ text content
  pub head_same : SameHeader head content
  pub saved : (s : ℕ) → is_saved content s ≡ sectors s

-- Holds if the vault has the encoding of a journal, or is unsealed, or isn't faithful (`telling`).
abbrev pub HoldsJournal : VaultState → Type 0
HoldsJournal vault = vault.sealed ≡ true → vault.telling ≡ true → IsJournal vault.bytes

-- Holds if `saved` has exactly the sectors of `chip` that the request touches and raises, `image'` has the target bytes
-- of these sectors, a faithful vault (`telling`) has their journal, and `IdentityAccepts` implies `ScanAccepts`.
pub record HasSavedChip (further : Bool) (request : Request) (code : ℕ) (image image' : List ℕ)
    (chip : Chip) (vault : VaultState) (saved : SavedScan) : Type 0 where
  pub touched : (s : ℕ) → has saved.scanned.touched s ≡ is_touched chip.bytes (wanted request image chip) s
  pub raised : (s : ℕ) → has saved.scanned.raised s ≡ is_raised chip.bytes (wanted request image chip) s
  pub accepts : IdentityAccepts further request image chip code → ScanAccepts further request image chip saved.unlock
  pub merged : (a : ℕ) → has saved.scanned.touched (a / 4096) ≡ true
      → slice_index image' a ≡ wanted request image chip a
  pub journal : vault.telling ≡ true
      → JournalSaves (header_of chip) chip.bytes (is_touched chip.bytes (wanted request image chip)) vault.bytes

-- Holds after `save` succeeded. On a well-behaved bus with an idle chip that `identity` describes, the result
-- satisfies `HasSavedChip` for this chip.
pub record HasSaved (request : Request) (identity : Identity) (code : ℕ) (image image' : List ℕ)
    (old new : BusState) (vault : VaultState) (saved : SavedScan) : Type 0 where
  pub lifts : Lifts request saved.scanned.touched saved.unlock
  pub scans : Scans request identity.found.size image image' old new saved.scanned
  pub chip : (further : Bool) (chip : Chip) → IsIdentityOf further chip identity → HasIdleChip chip old
      → HasSavedChip further request code image image' chip vault saved

-- Holds if the error is the verdict on the request for the chip of a well-behaved bus, provided that this chip is idle
-- and has this identification, and that `IdentityAccepts` holds.
abbrev pub JudgesChip : Request → Identity → ℕ → List ℕ → BusState → Refusal → Type 0
JudgesChip request identity code image old refusal =
    (further : Bool) (chip : Chip) → IsIdentityOf further chip identity → HasIdleChip chip old
    → IdentityAccepts further request image chip code
    → IsVerdict further request image chip refusal

-- Holds if `save` may return this error.
abbrev pub SaveErrors : Request → Identity → ℕ → List ℕ → (old new : BusState) → Refusal → Type 0
SaveErrors request identity code image old new Stopped =
    HasStopped (scanned_sectors request identity.found.size) old new
SaveErrors request identity code image old new Vault = ⊤
SaveErrors request identity code image old new StatusLocked = JudgesChip request identity code image old StatusLocked
SaveErrors request identity code image old new (Protected address) =
    JudgesChip request identity code image old (Protected address)
SaveErrors request identity code image old new _ = ⊥

-- Holds if `bytes` are the header of `head`, followed by complete records of exactly the touched sectors below some
-- bound, with their bytes in `old`.
pub record HasWholeRecords (head : Content) (old : ℕ → ℕ) (touched : ℕ → Bool) (bytes : List ℕ) : Type 0 where
  pub content : Content
  pub bound : ℕ
  pub same : SameHeader head content
  pub saves : Saves old (λ s. nat_lt s bound && touched s) content
  pub is : bytes ≡ front content

-- Holds if a faithful vault (`telling`) has a prefix of the journal of the touched sectors, provided that the bus is
-- well-behaved, and its chip is idle and has this identification.
abbrev pub SaveCuts : Request → Identity → List ℕ → BusState → VaultState → Type 0
SaveCuts request identity image old vault = vault.telling ≡ true
    → (further : Bool) (chip : Chip) → IsIdentityOf further chip identity → HasIdleChip chip old
    → IsJournalPrefix (header_of chip) chip.bytes (is_touched chip.bytes (wanted request image chip)) vault.bytes

-- Holds if, after an error other than 11 and under the premises of `SaveCuts`, a faithful vault has a prefix of the
-- journal that ends after the header or after a complete record.
abbrev pub SaveBegins : Request → Identity → List ℕ → BusState → VaultState → Refusal → Type 0
SaveBegins request identity image old vault refusal = refusal ≢ Vault → vault.telling ≡ true
    → (further : Bool) (chip : Chip) → IsIdentityOf further chip identity → HasIdleChip chip old
    → HasWholeRecords (header_of chip) chip.bytes (is_touched chip.bytes (wanted request image chip)) vault.bytes
