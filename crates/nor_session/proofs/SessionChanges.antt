use Rattle.std.proofs.Common.{◌≡◌, ◌≢◌, ◌<◌, ◌≤◌, ◌/◌, ◌∙◌, ℕ, Bool, true, false, List, ap, sym, refl, arith, bit_and}
use Rattle.nor_probe.specs.Known.{shown_as}
use Rattle.nor_probe.specs.Found.{part_in}
use Rattle.std.specs.Prelude.{Ok, ◌||◌, slice_index}
use Rattle.std.proofs.lemmas.Bool.{true_from_ne_false}
use Rattle.nor_model.specs.declared.status.Status.{Status}
use Rattle.nor_model.specs.Status.{bytes_of}
use Rattle.nor_model.proofs.Kept.{kept_same}
use Rattle.nor_model.specs.Chip.{Chip, status1_of, kept_in}
use Rattle.nor_model.specs.Guard.{code_of}
use Rattle.nor_model.specs.Bus.{BusState}
use Rattle.nor_driver.specs.OnlyReads.{Rested}
use Rattle.nor_plan.specs.Content.{is_touched, is_raised}
use Rattle.nor_plan.specs.SectorSet.{has}
use Rattle.nor_apply.specs.Within.{is_writable}
use Rattle.nor_apply.specs.Applying.{CanApply, status_writes, writes_code}
use Rattle.nor_journal.specs.Vault.{VaultState}
use Rattle.nor_scan.specs.declared.identity.Identity.{Identity}
use Rattle.nor_scan.specs.declared.saving.SavedScan.{SavedScan}
use Rattle.nor_request.specs.declared.request.Request.{Request}
use Rattle.nor_request.specs.declared.request.What.{What}
use Rattle.nor_request.specs.declared.request.What.TheVariants.{WpRange}
use Rattle.nor_request.specs.declared.refusal.Refusal.{Refusal}
use Rattle.nor_request.specs.declared.refusal.Refusal.TheVariants.{Stopped, Timeout, Mismatch}
use Rattle.nor_request.specs.Request.{is_data, wanted}
use Rattle.nor_scan.specs.Identity.{status_read}
use Rattle.nor_request.specs.Refusal.{refusal_number}
use Rattle.nor_session.specs.Bounds.{most_of}
use Rattle.nor_scan.specs.Saving.{IsIdentityOf, SomeProtected, NeedsStatus}
use Rattle.nor_request.specs.declared.refusal.Refusal.TheVariants.{NoProtection, StatusLocked}
use Rattle.nor_session.specs.Changing.{ChangeErrors}
use Rattle.nor_session.specs.Session.{HonestErrors, SessionErrors}
use Rattle.nor_scan.specs.Verdict.{NeedsStatusWrite, IdentityAccepts, ScanAccepts}
use Rattle.nor_session.proofs.Changed.{no_write, writes_other}
use Rattle.nor_scan.proofs.Held.{code_same}
use Rattle.nor_session.proofs.JudgedStatus.{held_scheme, free_address, writable_for}
use Rattle.nor_session.proofs.RestoredBytes.{unraised_byte}
use Rattle.nor_session.proofs.Ready.{Ready, changes_of, lifts_none, ran_out_ready, scanned_few}
use Rattle.nor_session.proofs.ReadyChip.{most_sized}

pub record ReadyChip (request : Request) (image image' : List ℕ) (identity : Identity) (code : ℕ) (kept : SavedScan) (old mid : BusState) : Type 0 where
  pub honest : old.honest ≡ true
  pub is : IsIdentityOf old.further old.chip identity
  pub shown : shown_as old.further old.chip.config ≡ Ok (part_in identity.found)
  pub replied : old.chip.busy ≡ 0 → identity.found.status1 ≡ status1_of old.chip
  pub accepts : IdentityAccepts old.further request image old.chip code
  pub idle : mid.chip.busy ≡ 0
  pub rested : Rested old mid
  pub touched : (s : ℕ) → has kept.scanned.touched s ≡ is_touched old.chip.bytes (wanted request image old.chip) s
  pub raised : (s : ℕ) → has kept.scanned.raised s ≡ is_raised old.chip.bytes (wanted request image old.chip) s
  pub scan : ScanAccepts old.further request image old.chip kept.unlock
  pub merged : (a : ℕ) → has kept.scanned.touched (a / 4096) ≡ true → slice_index image' a ≡ wanted request image old.chip a
  pub bytes : (a : ℕ) → slice_index image' a < 256
  pub small : old.chip.kept.two < 128

needs_by : (what : What) (unlock lifted : Bool) (code : ℕ) (touched : ℕ → Bool) (chip : Chip)
    → (lifted ≡ true → (unlock ≡ true) × SomeProtected touched chip) → (is_data what ≡ false → lifted ≡ false)
    → (is_data what ≡ true → code ≡ code_of chip.kept) → (lifted ≡ false → code ≢ code_of chip.kept)
    → NeedsStatus what unlock code touched chip
needs_by (WpRange start len) unlock lifted code touched chip lifts off same other = other (off refl)
needs_by _ unlock lifted code touched chip lifts off same other =
    lifts (true_from_ne_false lifted (λ none. other none (same refl)))

scheme_needed : (what : What) (unlock : Bool) (code : ℕ) (touched : ℕ → Bool) (chip : Chip) → (is_data what ≡ false → chip.config.scheme ≡ true) → NeedsStatus what unlock code touched chip → chip.config.scheme ≡ true
scheme_needed (WpRange start len) unlock code touched chip scheme need = scheme refl
scheme_needed _ unlock code touched chip scheme need = held_scheme touched chip need.1

module _ (request : Request) (image image' : List ℕ) (identity : Identity) (status : Status) (code : ℕ)
    (kept : SavedScan) (old mid : BusState) (is : Ready request identity status code kept old mid)
    (of : ReadyChip request image image' identity code kept old mid) where
  pub needs : (kept.unlock || writes_code (changes_of identity kept status code)) ≡ true
      → NeedsStatus request.what request.unlock code (is_touched old.chip.bytes (wanted request image old.chip)) old.chip
  needs writes =
      let read : code_of (kept_in (bytes_of status)) ≡ code_of (kept_in (status_read identity)) = ap (λ (bytes : List ℕ). code_of (kept_in bytes)) is.is_status in
      let chip = code_same of.is in
      needs_by request.what request.unlock kept.unlock code _ old.chip of.scan.lifts
      (lifts_none is) (λ about_bytes. is.same_code about_bytes ∙ chip)
      (λ off same. writes_other (changes_of identity kept status code) off writes (read ∙ chip ∙ sym same))

  pub never_written : ¬ NeedsStatusWrite request image old.chip
      → status_writes (changes_of identity kept status code) ≤ 0
  never_written none =
      no_write (changes_of identity kept status code) (λ writes. none (code, of.accepts.is_wanted, needs writes))

  writable : (kept.unlock || writes_code (changes_of identity kept status code)) ≡ true → is_writable mid.chip ≡ true
  writable writes =
      let need = needs writes in
      writable_for of.rested.unchanged.same
      (scheme_needed request.what request.unlock code _ old.chip
      (λ range. true_from_ne_false old.chip.config.scheme (λ none. of.accepts.clear NoProtection (omega arith) (range, none)))
      need)
      (λ locked. of.scan.accepted StatusLocked (locked, (code, of.accepts.is_wanted, need)))

  falls : (a : ℕ) → is_touched old.chip.bytes (wanted request image old.chip) (a / 4096) ≡ true
      → is_raised old.chip.bytes (wanted request image old.chip) (a / 4096) ≡ false
      → bit_and (wanted request image old.chip a) (old.chip.bytes a) ≡ wanted request image old.chip a
  falls a touched low = unraised_byte old.chip.bytes (wanted request image old.chip) a low

  pub can_apply : CanApply (changes_of identity kept status code) (λ a. slice_index image' a) mid.chip
  can_apply =
      let same = of.rested.unchanged.same in
      let size : mid.chip.config.size ≡ identity.found.size = cc in
      let one : status.one.0 ≡ identity.found.status1 = (let read = is.is_status in cc) in
      let two : status.two.0 ≡ identity.status2 = (let read = is.is_status in cc) in
      record {
        idle = of.idle;
        sized = record { same = size; same_kinds = cc };
        kept = same.kept ∙ kept_same old.chip.kept (kept_in (bytes_of status)) (omega arith) (omega arith);
        inside = λ s touched. let below = is.marks.below s touched in omega arith;
        free = λ off a touched.
            let below = is.marks.below (a / 4096) touched in
            free_address same _ a (of.scan.free off) (sym (of.touched (a / 4096)) ∙ touched) (omega arith);
        writable = writable;
        raised = is.marks.inside;
        bytes = λ a touched. of.bytes a;
        falls = λ a touched low.
            let merged = of.merged a touched in let stays = same.bytes a in
            let fall = falls a (sym (of.touched (a / 4096)) ∙ touched) (sym (of.raised (a / 4096)) ∙ low) in
            cc;
      }

pub change_fails : (request : Request) (identity : Identity) (status : Status) (code : ℕ) (kept : SavedScan) (target_bytes : ℕ → ℕ) (old mid new : BusState) (refusal : Refusal) → old.honest ≡ true
    → Ready request identity status code kept old mid → ChangeErrors (changes_of identity kept status code) target_bytes mid new refusal → HonestErrors (most_of 4096) (λ refusal. refusal_number refusal ≤ 11) old new refusal
change_fails request identity status code kept target_bytes old mid new Stopped honest is errors = λ punctual.
    let ran = ran_out_ready is honest (errors.ran_out (is.honest_reads.nature.honest ∙ honest)) punctual in
    let few = scanned_few request identity.found.size is.part.at_most in
    omega arith
change_fails request identity status code kept target_bytes old mid new (Timeout address) honest is errors = errors.1 (is.honest_reads.nature.honest ∙ honest)
change_fails request identity status code kept target_bytes old mid new (Mismatch address) honest is errors =
    λ judged. absurd (omega arith)
change_fails request identity status code kept target_bytes old mid new _ honest is errors = absurd errors

pub change_errors : (request : Request) (image image' : List ℕ) (identity : Identity) (status : Status) (code : ℕ) (kept : SavedScan) (old mid new : BusState) (vault vault' : VaultState) (refusal : Refusal)
    → Ready request identity status code kept old mid → ReadyChip request image image' identity code kept old mid
    → ChangeErrors (changes_of identity kept status code) (λ a. slice_index image' a) mid new refusal → SessionErrors request image old new vault vault' refusal
change_errors request image image' identity status code kept old mid new vault vault' Stopped is of errors = λ punctual.
    let ran = ran_out_ready is of.honest (errors.ran_out (is.honest_reads.nature.honest ∙ of.honest)) punctual in
    let sized = most_sized request of.is.config in
    omega arith
change_errors request image image' identity status code kept old mid new vault vault' (Timeout address) is of errors = absurd (errors.1 (is.honest_reads.nature.honest ∙ of.honest))
change_errors request image image' identity status code kept old mid new vault vault' (Mismatch address) is of errors =
    absurd (errors.1 (is.honest_reads.nature.honest ∙ of.honest) (can_apply request image image' identity status code kept old mid is of))
change_errors request image image' identity status code kept old mid new vault vault' _ is of errors = absurd errors
