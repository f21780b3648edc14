-- The state of a session after its request was checked, and the bus states from which the session can have started.
use Rattle.std.specs.Prelude.{◌≡◌, ◌≤◌, ◌<◌, ◌%◌, ℕ, Bool, true, Option, List, Result, length}
use Rattle.nor_model.specs.Guard.{code_of}
use Rattle.nor_model.specs.Size.{is_chip_size}
use Rattle.nor_model.specs.Chip.{Chip, kept_in}
use Rattle.nor_model.specs.Bus.{BusState}
use Rattle.nor_driver.specs.OnlyReads.{OnlyReads}
use Rattle.nor_probe.specs.declared.table.ChipName.{ChipName}
use Rattle.nor_scan.specs.declared.identity.Identity.{Identity}
use Rattle.nor_request.specs.declared.request.Request.{Request}
use Rattle.nor_request.specs.declared.report.Report.{Report}
use Rattle.nor_request.specs.declared.refusal.Refusal.{Refusal}
use Rattle.nor_journal.specs.Vault.{VaultState}
use Rattle.nor_request.specs.Request.{is_data}
use Rattle.nor_scan.specs.Identity.{status_read, ReadsIdentity, most_identity}
use Rattle.nor_scan.specs.Judging.{IsFoundCode}
use Rattle.nor_scan.specs.Saving.{IsIdentityOf}
use Rattle.nor_scan.specs.Verdict.{IsNamed, IdentityAccepts}
use Rattle.nor_probe.specs.Known.{IsModelled}
use Rattle.nor_session.specs.Session.{SessionAlways, SessionHonest, SessionModelled}

pub record IsJudged (request : Request) (image : ℕ) (identity : Identity) (code : ℕ) : Type 0 where
  pub is_size : is_chip_size identity.found.size ≡ true
  pub at_most : identity.found.size ≤ 16777216
  pub in_blocks : identity.found.size % 65536 ≡ 0
  pub few : identity.transactions ≤ most_identity
  pub six_bits : code < 64
  pub sized : is_data request.what ≡ true → image ≡ identity.found.size
  pub found_code : IsFoundCode request.what identity code
  pub same_code : is_data request.what ≡ true → code ≡ code_of (kept_in (status_read identity))
  pub accepts : (further : Bool) (chip : Chip) (bytes : List ℕ) → IsIdentityOf further chip identity
      → IsNamed further request.named chip.config
      → length bytes ≡ image → IdentityAccepts further request bytes chip code

-- Holds if `promise` holds for every bus state from which an identification with the result `identity` can have led to
-- the state `now`.
abbrev pub SinceIdentity : Option ChipName → Identity → BusState → (BusState → Type 0) → Type 0
SinceIdentity named identity now promise =
    (first : BusState) → OnlyReads most_identity first now → ReadsIdentity named first now identity → promise first

-- The promises of a session, except `KeepsOriginal`, which follows from these.
pub record KeepsPromise (request : Request) (image : List ℕ) (old new : BusState) (vault vault' : VaultState)
    (result : Result Report Refusal) : Type 0 where
  pub always : SessionAlways request image old new vault vault' result
  pub honest : old.honest ≡ true → SessionHonest request image old new result
  pub modelled : IsModelled old → SessionModelled request image old new vault vault' result
