-- Second reads of the sectors of a reply that differ from an image.
use Rattle.std.specs.Prelude.{◌≡◌, ◌≢◌, ◌<◌, ◌≤◌, ◌+◌, ◌/◌, ◌%◌, ◌++◌, ◌⊎◌, ◌==◌, ℕ, true, List, [], ◌∷◌, length, slice_index, ⊤, if◌then◌else◌}
use Rattle.nor_model.specs.Bus.{BusState, Carries, IsHonestFor, SameNature}
use Rattle.nor_model.specs.Chip.{Chip}
use Rattle.nor_model.specs.Exchange.{Exchange}
use Rattle.nor_model.specs.History.{replied, bytes_or_none}
use Rattle.nor_buses.specs.ReadsAs.{reads_data, address_in, part}
use Rattle.nor_buses.specs.Parts.{address_bytes}

-- Holds if byte `i` of `answer`, which was read from the address `at` on, equals the byte of the image at its address.
pub record IsExpected (image : List ℕ) (at : ℕ) (answer : List ℕ) (i : ℕ) : Type 0 where
  pub within : at + i < length image
  pub same : slice_index answer i ≡ slice_index image (at + i)

-- Holds if some byte of `answer` in the same sector as byte `i` is not expected (`IsExpected`).
pub record DiffersInSector (image : List ℕ) (at : ℕ) (answer : List ℕ) (i : ℕ) : Type 0 where
  pub j : ℕ
  pub within : j < length answer
  pub sector : (at + j) / 4096 ≡ (at + i) / 4096
  pub differs : IsExpected image at answer j → ⊥

abbrev pub data_read : (address : ℕ) → List ℕ
data_read address = 0x03 ∷ address_bytes address

-- Holds if the transaction read a part of `answer` again and returned the same bytes, and if each byte of this part is
-- in a sector that differs from the image (`DiffersInSector`).
pub record IsReadAgain (image : List ℕ) (at : ℕ) (answer : List ℕ) (exchange : Exchange) : Type 0 where
  pub from : ℕ
  pub len : ℕ
  pub within : from + len ≤ length answer
  pub is : exchange ≡ replied (data_read (at + from)) (part answer from len)
  pub needed : (i : ℕ) → from ≤ i → i < from + len → DiffersInSector image at answer i

abbrev pub AreReadAgain : (image : List ℕ) → (at : ℕ) → (answer : List ℕ) → List Exchange → Type 0
AreReadAgain image at answer [] = ⊤
AreReadAgain image at answer (exchange ∷ earlier) =
    IsReadAgain image at answer exchange × AreReadAgain image at answer earlier

-- Holds if the transaction read a part of `answer` that contains byte `i` again, and returned the same bytes.
pub record ReadsByteAgain (at : ℕ) (answer : List ℕ) (i : ℕ) (exchange : Exchange) : Type 0 where
  pub from : ℕ
  pub len : ℕ
  pub within : from + len ≤ length answer
  pub is : exchange ≡ replied (data_read (at + from)) (part answer from len)
  pub begins : from ≤ i
  pub ends : i < from + len

abbrev pub WasReadAgain : (at : ℕ) → (answer : List ℕ) → (i : ℕ) → List Exchange → Type 0
WasReadAgain at answer i [] = ⊥
WasReadAgain at answer i (exchange ∷ earlier) =
    ReadsByteAgain at answer i exchange ⊎ WasReadAgain at answer i earlier

-- Holds if since `old` the read of data `out` had the reply `answer`, and then each byte of `answer` that differs from
-- the image was read again. Only sectors that differ from the image were read again.
pub record RepeatsDiffering (image out answer : List ℕ) (old new : List Exchange) : Type 0 where
  pub reads : reads_data out ≡ true
  -- the transactions after the first read, the last one first
  pub later : List Exchange
  pub is : new ≡ later ++ (replied out answer ∷ old)
  pub only : AreReadAgain image (address_in out) answer later
  pub each : (i : ℕ) → i < length answer
      → IsExpected image (address_in out) answer i ⊎ WasReadAgain (address_in out) answer i later

abbrev pub CarriesEach : (later : List Exchange) → (old new : BusState) → Type 0
CarriesEach [] old new = new ≡ old
CarriesEach (exchange ∷ earlier) old new =
    (between : BusState) × (CarriesEach earlier old between
    × Carries exchange.out (bytes_or_none exchange.reply) between new)

pub record CarriesDiffering (image out answer : List ℕ) (old new : BusState) : Type 0 where
  pub repeats : RepeatsDiffering image out answer old.history new.history
  pub between : BusState
  pub first : Carries out answer old between
  pub again : CarriesEach repeats.later between new

-- Holds if since `old` each of the first `n` bytes of `answer` that isn't expected (`IsExpected`) was read again. Only
-- bytes in sectors that differ from the image were read again. A well-behaved bus that takes a read as long as `answer`
-- carried out each of these second reads.
pub record RepeatsBelow (image : List ℕ) (at : ℕ) (answer : List ℕ) (n : ℕ) (old new : BusState) : Type 0 where
  pub later : List Exchange
  pub is : new.history ≡ later ++ old.history
  pub only : AreReadAgain image at answer later
  pub each : (i : ℕ) → i < n → IsExpected image at answer i ⊎ WasReadAgain at answer i later
  pub carried : IsHonestFor (data_read at) (length answer) old → CarriesEach later old new

pub record DiffersBetween (image : List ℕ) (at : ℕ) (answer : List ℕ) (n m : ℕ) : Type 0 where
  pub j : ℕ
  pub after : n ≤ j
  pub before : j < m
  pub differs : IsExpected image at answer j → ⊥

-- The first byte of the reply to a read of data from `address` on. A busy chip ignores the read, and the reply is FFh.
abbrev pub data_byte : Chip → (address : ℕ) → ℕ
data_byte chip address = if chip.busy == 0 then chip.bytes (address % chip.config.size) else 255

pub record HasData (chip : Chip) (at : ℕ) (bytes : List ℕ) : Type 0 where
  pub same : (i : ℕ) → i < length bytes → slice_index bytes i ≡ data_byte chip (at + i)

pub record FirstRead (out answer : List ℕ) (old new : BusState) : Type 0 where
  pub carries : Carries out answer old new
  pub nature : SameNature old new
  pub history : new.history ≡ replied out answer ∷ old.history

pub record CarriesOther (out answer : List ℕ) (old new : BusState) : Type 0 where
  pub other : List ℕ
  pub carries : Carries out other old new
  pub len : length other ≡ length answer
  pub differs : other ≢ answer
