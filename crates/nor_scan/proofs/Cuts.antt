use Rattle.std.proofs.Common.{◌≡◌, ◌∙◌, ℕ, true, ◌*◌, ◌/◌, ◌%◌, ◌<◌, List, [], refl, ap, sym, arith, ◌≤◌, ◌+◌}
use Rattle.std.proofs.Common.{◌&&◌, Bool, length, subst}
use mathlib.Core.Path.{fun_ext}
use Rattle.std.specs.Prelude.{Some, nat_lt, ◌≢◌}
use Rattle.nor_model.specs.declared.config.Config.{Config}
use Rattle.nor_model.specs.Chip.{Chip, IsChip, KeptBits}
use Rattle.nor_model.specs.Bus.{BusState}
use Rattle.nor_driver.specs.OnlyReads.{IsOpen}
use Rattle.nor_journal.specs.Text.{Content, empty_content, IsContent, front, with_sector}
use Rattle.nor_journal.specs.declared.writer.Writer.{Writer}
use Rattle.nor_journal.specs.Vault.{VaultState, HoldsPrefix}
use Rattle.nor_journal.specs.Writer.{HasWritten, HasPutSectors, vault_seen}
use Rattle.nor_journal.proofs.Saves.{HasKept-none, Saves-none, Saves-same, Saves-more, may_follow}
use Rattle.nor_plan.specs.SectorSet.{has, none}
use Rattle.nor_scan.specs.declared.identity.Identity.{Identity}
use Rattle.nor_scan.specs.declared.scanning.Scanned.{Scanned}
use Rattle.nor_request.specs.declared.request.Request.{Request}
use Rattle.nor_request.specs.declared.refusal.Refusal.{Refusal}
use Rattle.nor_request.specs.declared.refusal.Refusal.TheVariants.{StatusLocked, Protected, Vault}
use Rattle.nor_scan.specs.Scanning.{Scans, AreRight, sectors_below, HoldsCut, HasKeptBelow, wanted_at}
use Rattle.nor_scan.specs.Saving.{IsIdentityOf, HasIdleChip, header_of, kept_read}
use Rattle.nor_scan.specs.Verdict.{IsVerdict}
use Rattle.nor_scan.proofs.Begun.{put_alike}
use Rattle.nor_scan.specs.Judging.{IsScanRefusal, OfTouched}
use Rattle.nor_scan.proofs.Planned.{only_inside, touched_past, raised_past}
use Rattle.nor_model.proofs.Sizes.{sized_bounds}
use Rattle.nor_scan.specs.SavedScan.{SaveErrors, SaveBegins, SaveCuts}
use Rattle.std.specs.Io.{StartsWith}
use Rattle.std.proofs.lemmas.List.{take_all, append-nil}
use Rattle.std.proofs.lemmas.Bool.Decides.{nat_tests}
use Rattle.nor_journal.specs.Saved.{IsWholeSector}
use Rattle.nor_journal.proofs.Saved.{next_number-empty_content, next_number-with_sector}
use Rattle.nor_journal.proofs.WholeJournals.{one_more_below, begins_whole, front_begins}
use Rattle.nor_journal.specs.Saved.{IsJournalPrefix}
use Rattle.nor_plan.specs.Content.{is_touched, is_raised}
use Rattle.nor_request.specs.Request.{wanted}

put_begins : {V : Type 0} {state : V → VaultState} {writer : Writer V} {c : Content} → HasWritten state writer c
    → (vault_seen state writer).telling ≡ true → StartsWith (front c) (vault_seen state writer).bytes
put_begins {c = c} written faithful = rw (written.put.held faithful) (take_all (length (front c)) (front c) (omega arith))

module _ {V : Type 0} {state : V → VaultState} {writer : Writer V} {head : Content} {chip target_bytes : ℕ → ℕ} {n : ℕ}
    {scanned : Scanned} (right : AreRight target_bytes chip (sectors_below n) scanned)
    (kept : HasPutSectors state writer head chip (has scanned.touched) n) where
  pub kept_touched : HasPutSectors state writer head chip (λ s. nat_lt s n && is_touched chip target_bytes s) n
  kept_touched = put_alike (λ s i is below. refl) (λ s. sym (right.touched s)) (omega arith) kept

  pub kept_below : {total : ℕ} → n ≤ total → HasKeptBelow state writer head chip (is_touched chip target_bytes) total
  kept_below inside = record { bound = n; inside = inside; kept = kept_touched }

pub cut_between : {V : Type 0} {state : V → VaultState} {writer : Writer V} {head : Content} {chip : ℕ → ℕ}
    {touched : ℕ → Bool} (size : ℕ) → head.size ≡ size → HasKeptBelow state writer head chip touched (size / 4096)
    → HoldsCut (vault_seen state writer) head chip touched (size / 4096)
cut_between {head = head} {chip = chip} {touched = touched} size sized below = λ faithful.
    let kept = below.kept in let inside = below.inside in
    rw (← sized) (begins_whole head chip touched kept.content below.bound _ kept.same kept.saves kept.next
    (rw sized inside) (put_begins kept.written faithful))

pub cut_in_record : {V : Type 0} {state : V → VaultState} {writer : Writer V} {head : Content} {chip : ℕ → ℕ} {n : ℕ}
    {bytes : List ℕ} (vault : VaultState) (touched : ℕ → Bool) (size : ℕ)
    (kept : HasPutSectors state writer head chip (λ s. nat_lt s n && touched s) n) → head.size ≡ size
    → n < size / 4096 → touched n ≡ true → IsWholeSector chip n bytes
    → HoldsPrefix vault (front (with_sector kept.content n bytes)) → HoldsCut vault head chip touched (size / 4096)
cut_in_record {state = state} {writer = writer} {head = head} {chip = chip} {n = n} {bytes = bytes} vault touched size
    kept sized within is sector holds = λ faithful.
    let inside : n < head.size / 4096 = rw sized within in
    rw (← sized) (begins_whole head chip touched (with_sector kept.content n bytes) (n + 1) vault.bytes
    kept.same
    (Saves-more chip _ (λ s. nat_lt s (n + 1) && touched s) kept.content n bytes kept.saves
    (may_follow state writer head chip _ n n kept (omega arith) inside) sector (one_more_below touched n is))
    (omega (arith, next_number-with_sector kept.content n bytes)) (omega arith) (holds faithful))

abbrev touched_of : Request → (image : List ℕ) → Chip → (s : ℕ) → Bool
touched_of request image chip = is_touched chip.bytes (wanted request image chip)

only_touched : (request : Request) (image : List ℕ) (chip : Chip)
    → (λ (s : ℕ). nat_lt s (chip.config.size / 4096) && touched_of request image chip s) ≡ touched_of request image chip
only_touched request image chip = fun_ext (λ s. only_inside (touched_of request image chip) (chip.config.size / 4096) s
    (touched_past request image chip.config.size chip.bytes s (sized_bounds chip.config).blocks))

begins_touched : (request : Request) (image bytes : List ℕ) (chip : Chip)
    → IsJournalPrefix (header_of chip) chip.bytes (λ s. nat_lt s (chip.config.size / 4096) && touched_of request image chip s) bytes
    → IsJournalPrefix (header_of chip) chip.bytes (touched_of request image chip) bytes
begins_touched request image bytes chip =
    subst (λ (set : ℕ → Bool). IsJournalPrefix (header_of chip) chip.bytes set bytes) (only_touched request image chip)

abbrev pub head_read : Identity → (status : List ℕ) → Content
head_read identity status = empty_content identity.found.id (Some identity.unique) status identity.found.size

module _ {further : Bool} {chip : Chip} {identity : Identity} {old : BusState} (is : IsIdentityOf further chip identity) (shows : HasIdleChip chip old) where
  pub same_bytes : old.chip.bytes ≡ chip.bytes
  same_bytes = fun_ext shows.same.bytes

  pub is_open : IsOpen identity.found.size old
  is_open = record {
    honest = shows.honest;
    idle = shows.idle;
    same = ap (λ (config : Config). config.size) shows.same.config ∙ sym is.config.size;
  }

  module _ {request : Request} {image image' : List ℕ} {new : BusState} {scanned : Scanned}
      (scans : Scans request identity.found.size image image' old new scanned) where
    pub touched_right : (s : ℕ) → has scanned.touched s ≡ is_touched chip.bytes (wanted request image chip) s
    touched_right s = rw (same_bytes, is.config.size) at ((scans.right is_open).touched s)
        ∙ ap (λ (set : ℕ → Bool). set s) (only_touched request image chip)

    pub raised_right : (s : ℕ) → has scanned.raised s ≡ is_raised chip.bytes (wanted request image chip) s
    raised_right s = rw (same_bytes, is.config.size) at ((scans.right is_open).raised s)
        ∙ only_inside (is_raised chip.bytes (wanted request image chip)) (chip.config.size / 4096) s
        (raised_past request image chip.config.size chip.bytes s (sized_bounds chip.config).blocks)

  pub head_same : {status : List ℕ} → old.chip.kept.two < 128 → status ≡ kept_read identity
      → head_read identity status ≡ header_of chip
  head_same {status = status} small read =
      let id = is.config.id in let unique = is.unique in let size = is.config.size in
      let same = ap (λ (kept : KeptBits). kept.two) shows.same.kept in let two = is.two in let one = is.one in
      let low : identity.found.status1 / 4 * 4 ≡ 4 * chip.kept.one = omega arith in
      let high : identity.status2 % 128 ≡ chip.kept.two = omega arith in
      cc

abbrev pub PutsHead : {V : Type 0} → (V → VaultState) → Writer V → Identity → BusState → Type 0
PutsHead state writer identity old = (further : Bool) (chip : Chip) → IsIdentityOf further chip identity → HasIdleChip chip old
    → HasPutSectors state writer (header_of chip) old.chip.bytes none 0

pub head_put : {V : Type 0} {state : V → VaultState} {writer : Writer V} {status : List ℕ} (identity : Identity)
    (old : BusState) → (old.honest ≡ true → IsChip old.chip) → status ≡ kept_read identity
    → HasWritten state writer (head_read identity status) → PutsHead state writer identity old
head_put {state = state} {writer = writer} identity old reaches read written = λ further chip is shows.
    rw (head_same is shows (reaches shows.honest).kept2 read) at
    (HasKept-none state writer identity.found.id (Some identity.unique) _ identity.found.size old.chip.bytes none 0
    written (λ s. refl))

abbrev pub FromHead : {V : Type 0} → (V → VaultState) → Writer V → (size : ℕ) → BusState → (Content → Type 0) → Type 0
FromHead state writer size old promise = IsOpen size old → (head : Content) → head.size ≡ size
    → HasPutSectors state writer head old.chip.bytes none 0 → promise head

pub from_head : {V : Type 0} {state : V → VaultState} {writer : Writer V} {identity : Identity} {old : BusState}
    {promise : Content → Type 0} → PutsHead state writer identity old
    → FromHead state writer identity.found.size old promise → (further : Bool) (chip : Chip) → IsIdentityOf further chip identity → HasIdleChip chip old
    → promise (header_of chip)
from_head puts promised further chip is shows = promised (is_open is shows) (header_of chip) (sym is.config.size) (puts further chip is shows)

pub judged_errors : {request : Request} {identity : Identity} {image image' : List ℕ} {old new : BusState}
    {scanned : Scanned} (code : ℕ) (refusal : Refusal) → Scans request identity.found.size image image' old new scanned
    → IsScanRefusal refusal
    → OfTouched request identity code (has scanned.touched) (λ further image chip. IsVerdict further request image chip refusal)
    → SaveErrors request identity code image old new refusal
judged_errors {image = image} code StatusLocked scans is judges =
    λ further chip opened shows accepts. judges further chip image opened accepts (touched_right opened shows scans)
judged_errors {image = image} code (Protected address) scans is judges =
    λ further chip opened shows accepts. judges further chip image opened accepts (touched_right opened shows scans)
judged_errors code _ scans is judges = absurd is

pub cut_in_head : (request : Request) (image : List ℕ) (seen vault : VaultState) {identity : Identity} {status : List ℕ}
    {old : BusState} → (old.honest ≡ true → IsChip old.chip) → status ≡ kept_read identity
    → IsContent (head_read identity status) → HoldsPrefix seen (front (head_read identity status)) → seen ≡ vault
    → SaveCuts request identity image old vault
cut_in_head request image seen vault reaches read content holds same =
    rw (← same) (λ faithful further chip is shows.
    let head = header_of chip in
    let e = head_same is shows (reaches shows.honest).kept2 read in
    begins_touched request image seen.bytes chip
    (begins_whole head chip.bytes (touched_of request image chip) head 0 seen.bytes refl
    (Saves-none chip.bytes _ head (rw e at content) refl (λ s. grind (arith, nat_tests)))
    (omega (arith, next_number-empty_content head.id head.unique head.status head.size)) (omega arith)
    (rw e at (holds faithful))))

module _ {V : Type 0} {state : V → VaultState} {first : Writer V} {identity : Identity} {old : BusState}
    (request : Request) (image : List ℕ) (vault : VaultState) (puts : PutsHead state first identity old) where
  pub cut_in_scan : (seen : VaultState) → FromHead state first identity.found.size old (λ head.
      HoldsCut seen head old.chip.bytes (is_touched old.chip.bytes (wanted_at request image identity.found.size
      old.chip.bytes)) (identity.found.size / 4096)) → seen ≡ vault → SaveCuts request identity image old vault
  cut_in_scan seen promised same = rw (← same) (λ faithful further chip is shows.
      begins_touched request image seen.bytes chip
      (rw (same_bytes is shows, is.config.size) at (from_head puts promised further chip is shows faithful)))

  pub begins_scan : {last : Writer V} {refusal : Refusal} → FromHead state first identity.found.size old (λ head.
      refusal ≢ Vault → HasKeptBelow state last head old.chip.bytes (is_touched old.chip.bytes (wanted_at request image
      identity.found.size old.chip.bytes)) (identity.found.size / 4096)) → vault_seen state last ≡ vault
      → SaveBegins request identity image old vault refusal
  begins_scan promised same = rw (← same) (λ other faithful further chip is shows.
      let below = rw (same_bytes is shows, is.config.size) at (from_head puts promised further chip is shows other) in
      let kept = below.kept in let inside = below.inside in
      record {
        content = kept.content;
        bound = below.bound;
        same = kept.same;
        saves = Saves-same chip.bytes _ (λ s. nat_lt s below.bound && is_touched chip.bytes (wanted request image chip) s) kept.content
            (λ s. grind (arith, nat_tests)) kept.saves;
        is = kept.written.put.held faithful;
      })

module _ {V : Type 0} {state : V → VaultState} {first last : Writer V} {request : Request} {identity : Identity}
    {image image' : List ℕ} {old new : BusState} {scanned : Scanned} (puts : PutsHead state first identity old)
    (scans : Scans request identity.found.size image image' old new scanned)
    (keeps : FromHead state first identity.found.size old (λ head. HasPutSectors state last head old.chip.bytes
    (has scanned.touched) (identity.found.size / 4096))) where
  pub all_put : (further : Bool) (chip : Chip) → IsIdentityOf further chip identity → HasIdleChip chip old → HasPutSectors state last (header_of chip)
      chip.bytes (is_touched chip.bytes (wanted request image chip)) (identity.found.size / 4096)
  all_put further chip is shows = rw (same_bytes is shows, fun_ext (touched_right is shows scans)) at
      (from_head puts keeps further chip is shows)

  pub cut_at_end : (vault : VaultState) → vault_seen state last ≡ vault → SaveCuts request identity image old vault
  cut_at_end vault same = rw (← same) (λ faithful further chip is shows.
      let kept = all_put further chip is shows in
      record {
        content = kept.content;
        same = kept.same;
        saves = kept.saves;
        begins = front_begins kept.content (front kept.content) [] (vault_seen state last).bytes
            (sym (append-nil (front kept.content))) (put_begins kept.written faithful);
      })

  pub begins_all : (vault : VaultState) {refusal : Refusal} → vault_seen state last ≡ vault
      → SaveBegins request identity image old vault refusal
  begins_all vault same = rw (← same) (λ other faithful further chip is shows.
      let kept = all_put further chip is shows in
      record {
        content = kept.content;
        bound = chip.config.size / 4096;
        same = kept.same;
        saves = Saves-same chip.bytes (is_touched chip.bytes (wanted request image chip)) _ kept.content
            (λ s. ap (λ (set : ℕ → Bool). set s) (only_touched request image chip)) kept.saves;
        is = kept.written.put.held faithful;
      })
