-- Replies of other makers' chips, and the replies that an `OtherMakers` returns in their place.
use Rattle.std.specs.Prelude.{◌≡◌, ◌==◌, ◌&&◌, ◌||◌, ◌%◌, ◌/◌, ℕ, Bool, true, false, not, List, [], ◌∷◌, length, replicate}
use Rattle.std.specs.Prelude.{slice_index, slice_index_or, bytes_eq, slice_set, if◌then◌else◌, nat_lt, take}
use Rattle.nor_model.specs.declared.config.Config.{Config}
use Rattle.nor_model.specs.Bus.{BusState}
use Rattle.nor_model.specs.History.{begins_with}
use Rattle.nor_buses.specs.Listed.{is_id_listed}
use Rattle.nor_buses.specs.SomeChips.{chip_id}

abbrev pub is_unique_read : (out : List ℕ) → Bool
is_unique_read (opcode ∷ w ∷ x ∷ y ∷ z ∷ []) = opcode == 0x4B
is_unique_read _ = false

-- True if the reply to a read of the unique ID is eight bytes FFh or eight bytes 00h.
abbrev pub is_missing : (reply : List ℕ) → Bool
is_missing reply = length reply == 8 && (bytes_eq reply (replicate 8 255) || bytes_eq reply (replicate 8 0))

abbrev pub is_table_read : (out reply : List ℕ) → Bool
is_table_read out reply = begins_with 0x5A out && length reply == 36

-- The reply of a busy chip to 9Fh with three reply bytes.
abbrev pub unanswered : List ℕ
unanswered = 255 ∷ 255 ∷ 255 ∷ []

-- True if `id` is neither FFFFFFh nor one of `rows`.
abbrev pub has_no_row : (rows : List (List ℕ)) → (id : List ℕ) → Bool
has_no_row rows id = not (bytes_eq id unanswered) && not (is_id_listed rows id)

-- The reply of an idle chip to a read of the unique ID with eight reply bytes.
abbrev pub chip_unique : Config → List ℕ
chip_unique config =
    slice_index_or config.unique 0 255 ∷ slice_index_or config.unique 1 255 ∷ slice_index_or config.unique 2 255
    ∷ slice_index_or config.unique 3 255 ∷ slice_index_or config.unique 4 255 ∷ slice_index_or config.unique 5 255
    ∷ slice_index_or config.unique 6 255 ∷ slice_index_or config.unique 7 255 ∷ []

-- True if no reply of this chip is changed, because the chip has an ID of `rows` and a unique ID.
abbrev pub keeps_replies : (rows : List (List ℕ)) → Config → Bool
keeps_replies rows config = is_id_listed rows (chip_id config) && not (is_missing (chip_unique config))

-- Holds if `id` is the ID of the chip or, if the chip is busy, FFFFFFh. Always holds if the bus isn't well-behaved.
pub record IsIdOf (id : List ℕ) (inside : BusState) : Type 0 where
  pub idle : inside.honest ≡ true → inside.chip.busy ≡ 0 → id ≡ chip_id inside.chip.config
  pub busy : inside.honest ≡ true → (inside.chip.busy ≡ 0 → ⊥) → id ≡ unanswered

-- True if bits 1 and 0 of double word 1 aren't 01b, the value for an erase of 4 KiB that is available everywhere.
abbrev pub is_uneven : (table : List ℕ) → Bool
is_uneven table = not (slice_index table 0 % 4 == 1)

abbrev pub shares : (opcode one two three : ℕ) → Bool
shares opcode one two three = opcode == one || opcode == two || opcode == three

abbrev pub cleared : (is : Bool) → (at : ℕ) → (table : List ℕ) → List ℕ
cleared is at table = if is then slice_set table at 0 else table

abbrev pub without_shared : (all : Bool) → (one two three four : ℕ) → (table : List ℕ) → List ℕ
without_shared all one two three four table =
    cleared (all || shares four one two three) 35
    (cleared (all || shares three one two four) 33
    (cleared (all || shares two one three four) 31
    (cleared (all || shares one two three four) 29 table)))

-- The SFDP table `table` with 00h as the opcode of each erase type that shares its opcode with another one or, if `all`
-- is true, as the opcode of all four erase types.
abbrev pub shown_table : (all : Bool) → (table : List ℕ) → List ℕ
shown_table all table =
    without_shared all (slice_index table 29) (slice_index table 31) (slice_index table 33) (slice_index table 35) table

-- True if double word 11 of an SFDP table says that a page has fewer than 2^8 bytes.
abbrev pub is_small_page : (table : List ℕ) → Bool
is_small_page table = nat_lt (slice_index table 40 / 16) 8

-- The 36 bytes that an `OtherMakers` returns if it read the 44 bytes `table` of an SFDP table.
abbrev pub judged_table : (table : List ℕ) → List ℕ
judged_table table = shown_table (is_uneven table || is_small_page table) (take 36 table)
