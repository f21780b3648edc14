-- The replies to an identification, on every bus.
use Rattle.std.specs.Prelude.{◌≡◌, Bool, List, [], ◌∷◌}
use Rattle.nor_model.specs.Exchange.{Exchange}
use Rattle.nor_model.specs.History.{last_reply, begins_with}
use Rattle.nor_probe.specs.Replied.{IsFoundBy}
use Rattle.nor_scan.specs.declared.identity.Identity.{Identity}

-- Holds if `identity` has what the bus replied: the chip that was found (`IsFoundBy`), and the last replies to 35h
-- (status 2) and 4Bh (unique ID).
pub record IsIdentifiedBy (further : Bool) (history : List Exchange) (identity : Identity) : Type 0 where
  pub found : IsFoundBy further history identity.found
  pub status2 : last_reply (begins_with 0x35) history ≡ identity.status2 ∷ []
  pub unique : last_reply (begins_with 0x4B) history ≡ identity.unique
