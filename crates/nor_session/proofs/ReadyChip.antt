-- Lemmas about what the identification and the scan of a session show about the chip.
use Rattle.std.proofs.Common.{◌+◌, ◌≡◌, ◌<◌, ◌≤◌, ◌/◌, ◌∙◌, ℕ, Bool, true, List, ap, refl, arith, rules, inr}
use Rattle.std.specs.Prelude.{Option, Err}
use Rattle.std.proofs.lemmas.Bool.Decides.{nat_tests}
use Rattle.nor_model.specs.declared.config.Config.{Config}
use Rattle.nor_model.specs.Chip.{Chip, KeptBits, status1_of}
use Rattle.nor_model.specs.Bus.{BusState}
use Rattle.nor_driver.specs.Reads.{unique_of}
use Rattle.nor_driver.specs.OnlyReads.{OnlyReads}
use Rattle.nor_driver.proofs.ReadsInTurn.{same_then}
use Rattle.nor_journal.specs.Vault.{VaultState, CountsRefusal}
use Rattle.nor_probe.specs.declared.probes.Found.{Found}
use Rattle.nor_probe.specs.declared.table.ChipName.{ChipName}
use Rattle.nor_probe.specs.Found.{IsConfigOf, part_in}
use Rattle.nor_scan.specs.declared.identity.Identity.{Identity}
use Rattle.nor_request.specs.declared.request.Request.{Request}
use Rattle.nor_request.specs.declared.refusal.Refusal.{Refusal}
use Rattle.nor_request.specs.declared.refusal.Refusal.TheVariants.{NoChip, UnknownChip, OtherName, StatusLocked, Protected, Vault, Stopped, Timeout, Mismatch}
use Rattle.nor_request.specs.Refusal.{refusal_number}
use Rattle.nor_request.specs.Request.{scanned_sectors}
use Rattle.nor_scan.specs.Identity.{ReadsIdentity, most_identity, needed_to_identify}
use Rattle.nor_request.specs.Errors.{IdentificationErrors, EndsAtError}
use Rattle.nor_scan.specs.Saving.{IsIdentityOf, HasIdleChip}
use Rattle.nor_scan.specs.SavedScan.{SavePuts, SaveErrors}
use Rattle.nor_probe.specs.Known.{IsModelled}
use Rattle.nor_session.specs.Bounds.{most_of}
use Rattle.nor_scan.specs.Verdict.{IsNamed, IsVerdict, IdentityAccepts}
use Rattle.nor_session.specs.Session.{SessionErrors, HonestErrors}
use Rattle.nor_scan.proofs.OneVerdict.{first_of}
use Rattle.nor_session.proofs.Ready.{scanned_most, scanned_few}

kept_one : (status1 one : ℕ) (chip : Chip) → status1 ≡ status1_of chip → chip.kept.one ≡ one → status1 / 4 ≡ one
kept_one status1 one chip read kept = grind (arith, nat_tests)

pub opening_of : {named : Option ChipName} {identity : Identity} {old mid : BusState} → IsModelled old
    → ReadsIdentity named old mid identity → IsIdentityOf old.further old.chip identity
opening_of {mid = mid} is opens =
    let same = (opens.rested is.honest).unchanged.same in
    record {
      config = opens.genuine is;
      one = kept_one _ _ mid.chip (opens.status1 is.honest) (ap (λ (bits : KeptBits). bits.one) same.kept);
      two = opens.status2 is.honest ∙ ap (λ (bits : KeptBits). bits.two) same.kept;
      unique = opens.unique is.honest ∙ ap unique_of same.config;
    }

pub is_opening : (request : Request) (identity : Identity) (old mid : BusState) → IsModelled old
    → ReadsIdentity request.named old mid identity → IsIdentityOf old.further old.chip identity
is_opening request identity old mid = opening_of

pub status1_if_idle : (named : Option ChipName) (identity : Identity) (old mid : BusState) → old.honest ≡ true → ReadsIdentity named old mid identity → old.chip.busy ≡ 0 → identity.found.status1 ≡ status1_of old.chip
status1_if_idle named identity old mid honest opens idle =
    let rested = opens.rested honest in let latch = rested.idle_latch idle in
    opens.status1 honest ∙ (let now = opens.idle honest in let same = ap (λ (bits : KeptBits). bits.one) rested.unchanged.same.kept in cc)

pub shows : (request : Request) (identity : Identity) (old mid : BusState) → IsModelled old → OnlyReads most_identity old mid → ReadsIdentity request.named old mid identity → HasIdleChip old.chip mid
shows request identity old mid is only_reads opens =
    let rested = opens.rested is.honest in let idle = opens.idle is.honest in search rules

pub small_first : {named : Option ChipName} {identity : Identity} {old mid : BusState} → old.honest ≡ true
    → ReadsIdentity named old mid identity → mid.chip.kept.two < 128 → old.chip.kept.two < 128
small_first honest opens small =
    let same = ap (λ (bits : KeptBits). bits.two) (opens.rested honest).unchanged.same.kept in omega arith

pub named : (request : Request) (identity : Identity) (old mid : BusState) → IsModelled old → ReadsIdentity request.named old mid identity → IsNamed old.further request.named old.chip.config
named request identity old mid is opens = record { part = part_in identity.found; shown = opens.shown is.honest; wanted = opens.wanted }

pub most_sized : {further : Bool} (request : Request) {config : Config} {found : Found} → IsConfigOf further config found
    → most_of (scanned_sectors request found.size) ≤ most_of (config.size / 4096)
most_sized request {found = found} is =
    let most = scanned_most request found.size in let size = is.size in omega arith

pub save_fails : (request : Request) (image : List ℕ) (identity : Identity) (code few : ℕ) (old mid new : BusState)
    (refusal : Refusal) → old.honest ≡ true → OnlyReads most_identity old mid → ReadsIdentity request.named old mid identity
    → OnlyReads few mid new → SaveErrors request identity code image mid new refusal
    → HonestErrors (most_of 4096) (λ refusal. refusal_number refusal ≤ 11) old new refusal
save_fails request image identity code few old mid new Stopped honest only_reads opens more errors = λ punctual.
    let ran = errors.ran_out (only_reads.nature.honest ∙ honest) (only_reads.nature.punctual ∙ punctual) in
    let count = opens.count honest punctual in
    let sectors = scanned_few request identity.found.size opens.part.at_most in
    omega arith
save_fails request image identity code few old mid new (Timeout address) honest only_reads opens more errors = errors
save_fails request image identity code few old mid new _ honest only_reads opens more errors = λ early.
    same_then old.chip mid.chip new.chip (opens.rested honest).unchanged.same
    ((more.honest_reads (only_reads.nature.honest ∙ honest)).stays.steady_or_idle (inr (opens.idle honest)))

pub refused_puts : (refusal : Refusal) (old new : VaultState) → SavePuts (Err refusal) old new
    → (new.telling ≡ old.telling) × (new.sealed ≡ old.sealed)
refused_puts Vault old new puts = (puts.telling, puts.sealed)
refused_puts _ old new puts = (puts.telling, puts.sealed)

pub save_errors : (request : Request) (image : List ℕ) (identity : Identity) (code : ℕ) (old mid new : BusState) (vault vault' : VaultState) (refusal : Refusal)
    → IsModelled old → OnlyReads most_identity old mid → ReadsIdentity request.named old mid identity → IdentityAccepts old.further request image old.chip code
    → (refusal ≡ Vault → CountsRefusal vault vault') → SaveErrors request identity code image mid new refusal → SessionErrors request image old new vault vault' refusal
save_errors request image identity code old mid new vault vault' Vault is only_reads opens accepts rose errors = rose refl
save_errors request image identity code old mid new vault vault' Stopped is only_reads opens accepts rose errors =
    λ punctual.
    let ran = errors.ran_out (only_reads.nature.honest ∙ is.honest) (only_reads.nature.punctual ∙ punctual) in
    let count = opens.count is.honest punctual in
    let most = scanned_most request identity.found.size in let size = (opens.genuine is).size in
    omega arith
save_errors request image identity code old mid new vault vault' StatusLocked is only_reads opens accepts rose errors =
    errors old.further old.chip (opening_of is opens) (shows request identity old mid is only_reads opens) accepts
save_errors request image identity code old mid new vault vault' (Protected address) is only_reads opens accepts rose errors =
    errors old.further old.chip (opening_of is opens) (shows request identity old mid is only_reads opens) accepts
save_errors request image identity code old mid new vault vault' _ is only_reads opens accepts rose errors = absurd errors

pub save_early : (request : Request) (image : List ℕ) (identity : Identity) (code : ℕ) (old mid new : BusState)
    → IsModelled old → OnlyReads most_identity old mid → ReadsIdentity request.named old mid identity
    → SaveErrors request identity code image mid new Stopped
    → old.punctual ≡ true → old.left < needed_to_identify old.further old.chip + scanned_sectors request old.chip.config.size
save_early request image identity code old mid new is only_reads opens errors punctual =
    let ran = errors.ran_out (only_reads.nature.honest ∙ is.honest) (only_reads.nature.punctual ∙ punctual) in
    let count = opens.count is.honest punctual in
    let exact = opens.exact is.honest in rw (← (opens.genuine is).size) (omega arith)

pub save_last : (request : Request) (identity : Identity) (code : ℕ) (image : List ℕ) (old new : BusState)
    (refusal : Refusal) → SaveErrors request identity code image old new refusal → EndsAtError refusal new.history
save_last request identity code image old new Stopped errors = errors.last
save_last request identity code image old new (Timeout address) errors = absurd errors
save_last request identity code image old new (Mismatch address) errors = absurd errors
save_last request identity code image old new _ errors = tt

pub open_last : (most : ℕ) (named : Option ChipName) (old new : BusState) (refusal : Refusal)
    → IdentificationErrors most named old new refusal → EndsAtError refusal new.history
open_last most named old new Stopped errors = errors.last
open_last most named old new (Timeout address) errors = errors.1
open_last most named old new (Mismatch address) errors = absurd errors
open_last most named old new _ errors = tt

pub open_errors : (request : Request) (image : List ℕ) (old new : BusState) (vault vault' : VaultState) (refusal : Refusal) → IsModelled old
    → IdentificationErrors most_identity request.named old new refusal → SessionErrors request image old new vault vault' refusal
open_errors request image old new vault vault' NoChip is errors =
    first_of NoChip (search (rules, arith)) (errors is.honest).0
open_errors request image old new vault vault' (UnknownChip fault) is errors =
    let shown = (errors is.honest).0 in first_of (UnknownChip fault) (search (rules, arith)) shown
open_errors request image old new vault vault' OtherName is errors =
    let other = (errors is.honest).0 in first_of OtherName (search (rules, arith)) other
open_errors request image old new vault vault' Stopped is errors = λ punctual.
    let ran = errors.ran_out is.honest punctual in omega arith
open_errors request image old new vault vault' (Timeout address) is errors = absurd (errors.2 is.honest)
open_errors request image old new vault vault' _ is errors = absurd errors

pub judge_errors : (request : Request) (image : List ℕ) (old new : BusState) (vault vault' : VaultState)
    (refusal : Refusal) → IsVerdict old.further request image old.chip refusal
    → SessionErrors request image old new vault vault' refusal
judge_errors request image old new vault vault' Vault verdict = absurd verdict.holds
judge_errors request image old new vault vault' Stopped verdict = absurd verdict.holds
judge_errors request image old new vault vault' refusal verdict = verdict
