use Rattle.std.proofs.Common.{◌≡◌, ◌≤◌, ◌+◌, ◌*◌, ◌/◌, ◌&&◌, ℕ, Bool, true, List, length, refl, subst, arith}
use mathlib.Core.Path.{fun_ext}
use Rattle.std.specs.Prelude.{nat_lt}
use Rattle.std.proofs.lemmas.Bool.Decides.{nat_tests}
use Rattle.nor_model.specs.Chip.{IsChip}
use Rattle.nor_model.specs.Bus.{BusState}
use Rattle.nor_driver.specs.OnlyReads.{IsOpen}
use Rattle.nor_driver.specs.Reads.{IsSectorOf}
use Rattle.nor_driver.proofs.RestsInTurn.{HasOnlyRead, open_later, same_bytes}
use Rattle.nor_journal.specs.declared.writer.Writer.{Writer}
use Rattle.nor_journal.specs.Text.{Content, IsContent, front}
use Rattle.nor_journal.specs.Saved.{IsWholeSector, HasOneMore, IsJournalPrefix}
use Rattle.nor_journal.specs.Vault.{VaultState, HoldsPrefix}
use Rattle.nor_journal.specs.Writer.{HasPutSectors}
use Rattle.nor_journal.proofs.Saves.{Saves-none}
use Rattle.nor_journal.proofs.Saved.{next_number-empty_content}
use Rattle.nor_journal.proofs.WholeJournals.{begins_whole}
use Rattle.nor_scan.specs.declared.identity.Identity.{Identity}
use Rattle.nor_scan.specs.Saving.{IsIdentityOf, HasIdleChip, header_of, kept_read}
use Rattle.nor_scan.specs.Scanning.{HoldsCut, HasKeptBelow, sectors_below}
use Rattle.nor_scan.specs.SavedWhole.{BeginsWholeChip}
use Rattle.nor_scan.proofs.Begun.{put_alike}
use Rattle.nor_scan.proofs.Cuts.{head_read, head_same, same_bytes as chip_bytes, PutsHead, FromHead, from_head}

pub one_below : (n : ℕ) → HasOneMore (sectors_below n) n (sectors_below (n + 1))
one_below n = record {
  here = grind (arith, nat_tests);
  others = λ s other. grind (arith, nat_tests);
}

pub read_first : {reads size n : ℕ} {old mid : BusState} {bytes : List ℕ} → HasOnlyRead reads old mid
    → (mid.honest ≡ true → mid.chip.busy ≡ 0 → 4096 * (n + 1) ≤ mid.chip.config.size → IsSectorOf mid.chip.bytes n bytes)
    → length bytes ≡ 4096 → 4096 * (n + 1) ≤ size → IsOpen size old → IsWholeSector old.chip.bytes n bytes
read_first was shown long inside known =
    let later = open_later was known in let same = later.same in
    record {
      whole = long;
      same = rw (same_bytes (was.rested known.honest)) at (shown later.honest later.idle (omega arith)).byte;
    }

below_total : (n total : ℕ) → n ≤ total → (s : ℕ) → (nat_lt s n && sectors_below total s) ≡ sectors_below n s
below_total n total within s = grind (arith, nat_tests)

pub put_below : {V : Type 0} {state : V → VaultState} {writer : Writer V} {head : Content} {chip : ℕ → ℕ} {n total : ℕ}
    → n ≤ total → HasPutSectors state writer head chip (sectors_below n) n
    → HasPutSectors state writer head chip (λ s. nat_lt s n && sectors_below total s) n
put_below {n = n} {total = total} within put =
    put_alike (λ s i is below. refl) (below_total n total within) (omega arith) put

pub kept_whole : {V : Type 0} {state : V → VaultState} {writer : Writer V} {head : Content} {chip : ℕ → ℕ} {n total : ℕ}
    → n ≤ total → HasPutSectors state writer head chip (sectors_below n) n
    → HasKeptBelow state writer head chip (sectors_below total) total
kept_whole {n = n} within put = record { bound = n; inside = within; kept = put_below within put }

all_below : (total : ℕ) → (λ (s : ℕ). nat_lt s total && sectors_below total s) ≡ sectors_below total
all_below total = fun_ext (λ s. below_total total total (omega arith) s)

cut_whole : {head : Content} {chip : ℕ → ℕ} {bytes : List ℕ} (total : ℕ)
    → IsJournalPrefix head chip (λ s. nat_lt s total && sectors_below total s) bytes
    → IsJournalPrefix head chip (sectors_below total) bytes
cut_whole {head = head} {chip = chip} {bytes = bytes} total =
    subst (λ (set : ℕ → Bool). IsJournalPrefix head chip set bytes) (all_below total)

pub whole_in_head : (seen vault : VaultState) {identity : Identity} {status : List ℕ} {old : BusState}
    → (old.honest ≡ true → IsChip old.chip) → status ≡ kept_read identity
    → IsContent (head_read identity status) → HoldsPrefix seen (front (head_read identity status)) → seen ≡ vault
    → BeginsWholeChip identity old vault
whole_in_head seen vault reaches read content holds same = rw (← same) (λ faithful further chip is shows.
    let head = header_of chip in
    let e = head_same is shows (reaches shows.honest).kept2 read in
    let total = chip.config.size / 4096 in
    cut_whole total (begins_whole head chip.bytes (sectors_below total) head 0 seen.bytes refl
    (Saves-none chip.bytes _ head (rw e at content) refl (λ s. grind (arith, nat_tests)))
    (omega (arith, next_number-empty_content head.id head.unique head.status head.size)) (omega arith)
    (rw e at (holds faithful))))

module _ {V : Type 0} {state : V → VaultState} {first : Writer V} {identity : Identity} {old : BusState}
    (puts : PutsHead state first identity old) where
  pub whole_in_sectors : (seen vault : VaultState) → FromHead state first identity.found.size old (λ head.
      HoldsCut seen head old.chip.bytes (sectors_below (identity.found.size / 4096)) (identity.found.size / 4096))
      → seen ≡ vault → BeginsWholeChip identity old vault
  whole_in_sectors seen vault promised same = rw (← same) (λ faithful further chip is shows.
      cut_whole (chip.config.size / 4096)
      (rw (chip_bytes is shows, is.config.size) at (from_head puts promised further chip is shows faithful)))

  pub all_sectors : {last : Writer V} → FromHead state first identity.found.size old (λ head. HasPutSectors state last
      head old.chip.bytes (sectors_below (identity.found.size / 4096)) (identity.found.size / 4096))
      → (further : Bool) (chip : _) → IsIdentityOf further chip identity → HasIdleChip chip old
      → HasPutSectors state last (header_of chip) chip.bytes (sectors_below (chip.config.size / 4096)) (chip.config.size / 4096)
  all_sectors promised further chip is shows =
      rw (chip_bytes is shows, is.config.size) at (from_head puts promised further chip is shows)
