use Rattle.std.specs.Prelude.{◌≡◌, ℕ, Bool, None, Ok, List, [], ◌∷◌, ⊤}
use Rattle.nor_model.specs.Exchange.{Exchange}
use Rattle.nor_model.specs.History.{Continues, Answered, EndsStopped, EndsBusy, last_reply, begins_with, names}
use Rattle.nor_model.specs.PolledReady.{is_poll}
use Rattle.nor_probe.specs.declared.sfdp.Geometry.{Geometry}
use Rattle.nor_probe.specs.declared.table.Part.{Part}
use Rattle.nor_probe.specs.declared.probes.Found.{Found}
use Rattle.nor_probe.specs.declared.probes.ProbeFault.{ProbeFault}
use Rattle.nor_probe.specs.declared.probes.ProbeFault.TheVariants.{Stopped, Timeout}
use Rattle.nor_probe.specs.Known.{part_in, pointer_in, sfdp_part}
use Rattle.nor_probe.specs.Sfdp.{sfdp_says}
use Rattle.nor_probe.specs.Table.{part_for}

-- Holds if the last three transactions read the SFDP header, the first parameter header, and the table at the address
-- that the first parameter header contains.
pub record RepliedSfdp (history : List Exchange) (header first table : List ℕ) : Type 0 where
  pub before : List Exchange
  pub at_header : List Exchange
  pub at_first : List Exchange
  pub read_header : Answered (names 0x5A 0) before at_header header
  pub read_first : Answered (names 0x5A 8) at_header at_first first
  pub read_table : Answered (names 0x5A (pointer_in first)) at_first history table

-- Holds if three transactions in a row read SFDP bytes that describe the size and erase types of `part`, which has the
-- name `Sfdp` and no block protection.
pub record IsTypeBySfdp (history : List Exchange) (part : Part) : Type 0 where
  pub read : List Exchange
  pub later : Continues read history
  pub header : List ℕ
  pub first : List ℕ
  pub table : List ℕ
  pub replied : RepliedSfdp read header first table
  pub geometry : Geometry
  pub says : sfdp_says header first table ≡ Ok geometry
  pub is : part ≡ sfdp_part part.id geometry

pub record IsFoundBy (further : Bool) (history : List Exchange) (found : Found) : Type 0 where
  pub id : last_reply (begins_with 0x9F) history ≡ found.id
  pub status1 : last_reply is_poll history ≡ found.status1 ∷ []
  pub by_sfdp : part_for further found.id ≡ None → IsTypeBySfdp history (part_in found)

abbrev pub ProbeEndsAt : List Exchange → ProbeFault → Type 0
ProbeEndsAt history Stopped = EndsStopped history
ProbeEndsAt history Timeout = EndsBusy history
ProbeEndsAt history _ = ⊤
