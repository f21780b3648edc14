-- The result of the identification of a chip.
use Rattle.std.specs.Prelude.{◌≡◌, ◌≤◌, ◌+◌, ℕ, Bool, true, Option, Ok, List, [], ◌∷◌}
use Rattle.nor_model.specs.Chip.{Chip, status1_of}
use Rattle.nor_model.specs.Exchange.{Exchange}
use Rattle.nor_model.specs.History.{Answered, begins_with}
use Rattle.nor_model.specs.Bus.{BusState}
use Rattle.nor_driver.specs.OnlyReads.{Rested, Spent}
use Rattle.nor_driver.specs.Ready.{StaysReady}
use Rattle.nor_driver.specs.Reads.{unique_of}
use Rattle.nor_probe.specs.declared.table.ChipName.{ChipName}
use Rattle.nor_probe.specs.declared.probes.Probed.{Probed}
use Rattle.nor_probe.specs.Known.{shown_as, IsModelled}
use Rattle.nor_probe.specs.Found.{needed, part_in, IsPart, IsWanted, IsConfigOf}
use Rattle.nor_scan.specs.declared.identity.Identity.{Identity}
use Rattle.nor_scan.specs.Replied.{IsIdentifiedBy}

abbrev pub most_identity : ℕ
most_identity = 65542

abbrev pub needed_to_identify : (further : Bool) → Chip → ℕ
needed_to_identify further chip = needed further chip + 2

abbrev pub status_read : Identity → List ℕ
status_read identity = identity.found.status1 ∷ identity.status2 ∷ []

pub record ReadsRest (probed : Probed) (old new : BusState) (identity : Identity) : Type 0 where
  pub found : identity.found ≡ probed.found
  pub between : List Exchange
  pub read_status2 : Answered (begins_with 0x35) old.history between (identity.status2 ∷ [])
  pub read_unique : Answered (begins_with 0x4B) between new.history identity.unique
  pub transactions : identity.transactions ≡ probed.transactions + 2
  pub polled_ready : StaysReady old new
  pub rested : old.honest ≡ true → Rested old new
  pub count : old.honest ≡ true → Spent 2 old new
  pub status2 : old.honest ≡ true → identity.status2 ≡ old.chip.kept.two
  pub unique : old.honest ≡ true → old.chip.busy ≡ 0 → identity.unique ≡ unique_of old.chip.config

-- Holds after an identification succeeded. The size, erase types and block protection that were found are proved to be
-- the chip's own only on a modelled bus.
pub record ReadsIdentity (named : Option ChipName) (old new : BusState) (identity : Identity) : Type 0 where
  pub part : IsPart old.further identity.found
  pub replied : IsIdentifiedBy old.further new.history identity
  pub wanted : IsWanted named identity.found.name
  pub least : 4 ≤ identity.transactions
  pub most : identity.transactions ≤ most_identity
  pub polled_ready : new.polled_ready ≡ true
  pub rested : old.honest ≡ true → Rested old new
  pub idle : old.honest ≡ true → new.chip.busy ≡ 0
  pub shown : old.honest ≡ true → shown_as old.further old.chip.config ≡ Ok (part_in identity.found)
  pub genuine : IsModelled old → IsConfigOf old.further old.chip.config identity.found
  pub status1 : old.honest ≡ true → identity.found.status1 ≡ status1_of new.chip
  pub status2 : old.honest ≡ true → identity.status2 ≡ new.chip.kept.two
  pub unique : old.honest ≡ true → identity.unique ≡ unique_of new.chip.config
  pub count : old.honest ≡ true → Spent identity.transactions old new
  pub exact : old.honest ≡ true → identity.transactions ≡ needed_to_identify old.further old.chip
