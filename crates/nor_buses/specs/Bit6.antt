-- Bit 6 of status 1, which is QE on some chips, and SEC on chips that have a row in the table of known chips.
use Rattle.std.specs.Prelude.{◌≡◌, ◌==◌, ◌&&◌, ◌||◌, ◌/◌, ◌%◌, ◌-◌, ℕ, Bool, true, false, not, List, [], ◌∷◌}
use Rattle.std.specs.Prelude.{if◌then◌else◌, slice_index, slice_set}
use Rattle.nor_model.specs.declared.config.Config.{Config}
use Rattle.nor_model.specs.Bus.{BusState}
use Rattle.nor_model.specs.Exchange.{Exchange}
use Rattle.nor_model.specs.History.{begins_with, bytes_or_none, replied}
use Rattle.nor_buses.specs.Listed.{is_id_listed}
use Rattle.nor_buses.specs.SomeChips.{chip_id}

-- True if bit 6 of this chip is never hidden: the bus hides nothing, or the chip has an ID of `rows`.
abbrev pub keeps_bit6 : (rows : List (List ℕ)) → (hides : Bool) → Config → Bool
keeps_bit6 rows hides config = not hides || is_id_listed rows (chip_id config)

-- Holds if `hides` or `is_judged` is true, and `has_quad` is false. The second condition applies only if the bus is
-- well-behaved and bit 6 of its chip is never hidden (`keeps_bit6`).
pub record IsPlain (rows : List (List ℕ)) (hides has_quad is_judged : Bool) (inside : BusState) : Type 0 where
  pub shown : hides ≡ false → is_judged ≡ true
  pub none : inside.honest ≡ true → keeps_bit6 rows hides inside.chip.config ≡ true → has_quad ≡ false

-- True if the four bytes of double word 15 have the quad enable requirements 010b (bits 22 to 20).
abbrev pub is_bit6 : (word : List ℕ) → Bool
is_bit6 (a ∷ b ∷ c ∷ d ∷ []) = c / 16 % 8 == 2
is_bit6 _ = false

-- True if a reply to a read of SFDP (5Ah) in the history has the quad enable requirements 010b (`is_bit6`).
abbrev pub names_bit6 : List Exchange → Bool
names_bit6 [] = false
names_bit6 (last ∷ earlier) =
    (begins_with 0x5A last.out && is_bit6 (bytes_or_none last.reply)) || names_bit6 earlier

abbrev pub without_quad : (status : ℕ) → ℕ
without_quad status = if status / 64 % 2 == 1 then status - 64 else status

-- Holds if no transaction that may modify a chip was sent.
pub record OnlyReadsOn (old new : BusState) : Type 0 where
  pub sent : new.sent ≡ old.sent

-- Holds if `out` was passed on with the reply `raw`, and `reply` is `raw` with bit 6 of the first byte clear.
pub record ShowsWithoutQuad (out reply : List ℕ) (old new : List Exchange) : Type 0 where
  pub raw : List ℕ
  pub history : new ≡ replied out raw ∷ old
  pub shown : reply ≡ slice_set raw 0 (without_quad (slice_index raw 0))
