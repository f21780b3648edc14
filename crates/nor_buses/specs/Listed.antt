-- Chips that are known by their ID or their SFDP, and what transactions show about them.
use Rattle.std.specs.Prelude.{◌≡◌, ◌==◌, ◌&&◌, ◌||◌, ◌/◌, ◌%◌, ℕ, Bool, true, false, not, Option, None, Some, List, [], ◌∷◌}
use Rattle.std.specs.Prelude.{bytes_eq, length}
use Rattle.std.specs.List.{list_any}
use Rattle.nor_model.specs.declared.config.Config.{Config}
use Rattle.nor_model.specs.Bus.{BusState}
use Rattle.nor_model.specs.Exchange.{Exchange}
use Rattle.nor_model.specs.History.{begins_with, bytes_or_none}
use Rattle.nor_buses.specs.SomeChips.{chip_id}

-- True if no transaction of the history begins with 35h.
abbrev pub asks_none : List Exchange → Bool
asks_none [] = true
asks_none (last ∷ earlier) = not (begins_with 0x35 last.out) && asks_none earlier

abbrev pub is_id_listed : (ids : List (List ℕ)) → (id : List ℕ) → Bool
is_id_listed ids id = list_any (λ one. bytes_eq one id) ids

abbrev pub is_same : (before : Option (List ℕ)) → (id : List ℕ) → Bool
is_same None id = false
is_same (Some one) id = bytes_eq one id

-- True if the chip has an ID of the list `ids`, or the ID `before`.
abbrev pub is_listed_chip : (ids : List (List ℕ)) → (before : Option (List ℕ)) → Config → Bool
is_listed_chip ids before config = is_same before (chip_id config) || is_id_listed ids (chip_id config)

-- True if a read of the ID (9Fh, with three reply bytes) returned an ID of the list `ids`, or the ID `before`.
abbrev pub shows_known : (ids : List (List ℕ)) → (before : Option (List ℕ)) → (out reply : List ℕ) → Bool
shows_known ids before out reply =
    begins_with 0x9F out && (length reply == 3 && (is_same before reply || is_id_listed ids reply))

-- True if double word 15 has the quad enable requirements 101b or 110b (bits 22 to 20), so that 35h reads status 2.
abbrev pub is_readable : (word : List ℕ) → Bool
is_readable (a ∷ b ∷ c ∷ d ∷ []) = c / 16 % 8 == 5 || c / 16 % 8 == 6
is_readable _ = false

-- True if a reply to a read of SFDP (5Ah) in the history has the quad enable requirements 101b or 110b (`is_readable`).
abbrev pub names_status2 : List Exchange → Bool
names_status2 [] = false
names_status2 (last ∷ earlier) =
    (begins_with 0x5A last.out && is_readable (bytes_or_none last.reply)) || names_status2 earlier

-- True if a read of the ID (9Fh alone, with three reply bytes) returned an ID other than FFFFFFh.
abbrev pub shows_id : (out reply : List ℕ) → Bool
shows_id (opcode ∷ []) (a ∷ b ∷ c ∷ []) = opcode == 0x9F && not (a == 255 && (b == 255 && c == 255))
shows_id _ _ = false

-- Holds if `reply` is the ID of the chip. Always holds if `shows_id` is false or the bus isn't well-behaved.
pub record RepliesId (out reply : List ℕ) (inside : BusState) : Type 0 where
  pub id : inside.honest ≡ true → shows_id out reply ≡ true → reply ≡ chip_id inside.chip.config

-- Holds if `has_id` implies `is_known`, or if the chip isn't listed (`is_listed_chip`), or the bus isn't well-behaved.
pub record IsKnownOnceRead (ids : List (List ℕ)) (before : Option (List ℕ)) (has_id is_known : Bool) (inside : BusState)
    : Type 0 where
  pub known : has_id ≡ true → inside.honest ≡ true → is_listed_chip ids before inside.chip.config ≡ true
      → is_known ≡ true
