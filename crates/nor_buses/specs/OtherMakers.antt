-- The fields and the state of an `OtherMakers`, and how this bus changes two replies: the unique ID and the SFDP table.
use Rattle.std.specs.Prelude.{◌≡◌, ◌&&◌, ℕ, Bool, true, false, List, [], ◌∷◌, length, replicate, if◌then◌else◌, bytes_eq}
use Rattle.nor_model.specs.Bus.{BusState}
use Rattle.nor_model.specs.Exchange.{Exchange}
use Rattle.nor_model.specs.History.{replied}
use Rattle.nor_buses.specs.Adapted.{has_no_row, is_missing, is_uneven, judged_table, keeps_replies, shown_table, unanswered}
use Rattle.nor_buses.specs.ReadsAs.{beside}
use Rattle.nor_buses.specs.SomeChips.{only_if}
use Rattle.nor_buses.specs.declared.other_makers.OtherMakers.{OtherMakers}

abbrev pub adapted_by : {B : Type 0} → OtherMakers B → B
adapted_by other = other.bus

abbrev pub rows_of : {B : Type 0} → OtherMakers B → List (List ℕ)
rows_of other = other.rows.items

abbrev pub missing_as : {B : Type 0} → OtherMakers B → ℕ
missing_as other = other.missing

-- True if the bus hides all erase opcodes of a chip that has pages below 256 bytes or can't erase 4 KiB everywhere, and
-- that has no row in the table of known chips.
abbrev pub refuses_uneven : {B : Type 0} → OtherMakers B → Bool
refuses_uneven other = other.refuses_uneven

abbrev pub has_word_11 : {B : Type 0} → OtherMakers B → Bool
has_word_11 other = other.has_word_11

abbrev pub has_small_pages : {B : Type 0} → OtherMakers B → Bool
has_small_pages other = other.has_small_pages

abbrev pub history_of : {B : Type 0} → OtherMakers B → List Exchange
history_of other = other.history.exchanges

-- The state of the bus inside, except that it counts as well-behaved only if no reply of its chip needs a change
-- (`keeps_replies`).
abbrev pub inside_adapted : {B : Type 0} → (inside : B → BusState) → OtherMakers B → BusState
inside_adapted inside other =
    only_if (keeps_replies (rows_of other) (inside (adapted_by other)).chip.config) (inside (adapted_by other))

abbrev pub other_makers_state : {B : Type 0} → (inside : B → BusState) → OtherMakers B → BusState
other_makers_state inside other = beside (inside_adapted inside other) (history_of other)

-- True if the bus reads 44 bytes of the SFDP table of a chip without a row, instead of 36.
abbrev pub looks_further : {B : Type 0} → OtherMakers B → Bool
looks_further other = refuses_uneven other && has_word_11 other

-- Holds if `out` returned `raw`, and then a read of the ID returned `id`. If `id` is FFFFFFh, `reply` must be `raw`.
-- Otherwise `reply` must have the length of `raw`, with `missing` as each byte.
pub record ReplacesUnique (missing : ℕ) (out raw reply : List ℕ) (old new : List Exchange) : Type 0 where
  pub id : List ℕ
  pub history : new ≡ replied (0x9F ∷ []) id ∷ replied out raw ∷ old
  pub shown : reply ≡ (if bytes_eq id unanswered then raw else replicate (length raw) missing)

-- Holds if `out` returned `raw`, and `reply` is `raw` or, if `is_missing raw` is true, as `ReplacesUnique` says.
pub record ShowsUnique (missing : ℕ) (out reply : List ℕ) (old new : List Exchange) : Type 0 where
  pub raw : List ℕ
  pub history : is_missing raw ≡ false → new ≡ replied out raw ∷ old
  pub same : is_missing raw ≡ false → reply ≡ raw
  pub none : is_missing raw ≡ true → ReplacesUnique missing out raw reply old new

pub record ShowsJudged (out reply : List ℕ) (old new : List Exchange) : Type 0 where
  pub raw : List ℕ
  pub len : length raw ≡ 44
  pub history : new ≡ replied out raw ∷ old
  pub judged : reply ≡ judged_table raw

pub record ShowsShared (refuses : Bool) (out reply : List ℕ) (old new : List Exchange) : Type 0 where
  pub raw : List ℕ
  pub history : new ≡ replied out raw ∷ old
  pub shown : reply ≡ shown_table (refuses && is_uneven raw) raw

-- Holds if the ID was read, and then the SFDP table. If the ID is FFFFFFh or one of `rows`, the table was returned
-- unchanged. Otherwise it was returned as `judged_table` if `looks` is true, and as `shown_table` if `looks` is false.
pub record ShowsTable (rows : List (List ℕ)) (refuses looks : Bool) (out reply : List ℕ) (old new : List Exchange)
    : Type 0 where
  pub id : List ℕ
  pub row : has_no_row rows id ≡ false → new ≡ replied out reply ∷ replied (0x9F ∷ []) id ∷ old
  pub judged : has_no_row rows id ≡ true → looks ≡ true
      → ShowsJudged out reply (replied (0x9F ∷ []) id ∷ old) new
  pub shared : has_no_row rows id ≡ true → looks ≡ false
      → ShowsShared refuses out reply (replied (0x9F ∷ []) id ∷ old) new
