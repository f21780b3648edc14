use Rattle.std.specs.Prelude.{◌≡◌, ◌≤◌, ◌<◌, ◌+◌, ◌*◌, ◌%◌, ℕ, Bool, true, false, List, [], ◌∷◌, length, map, slice_index, slice_index_or}
use Rattle.std.specs.List.{range_with_len}
use Rattle.nor_model.specs.declared.config.Config.{Config}
use Rattle.nor_model.specs.declared.command.Command.{Command}
use Rattle.nor_model.specs.declared.command.Command.TheVariants.{ReadStatus2, ReadData, ReadId, ReadSfdp, ReadUnique, Ignored}
use Rattle.nor_model.specs.Chip.{sfdp_byte}
use Rattle.nor_model.specs.Command.{command_of, begins_quiet}
use Rattle.nor_model.specs.Step.{done_of, is_command, reply_byte}
use Rattle.nor_model.specs.History.{Answered, replied, begins_with, names}
use Rattle.nor_model.specs.Bus.{BusState}
use Rattle.nor_driver.specs.OnlyReads.{Rested, Spent}

-- True if the command changes nothing, not even the write enable latch or `busy`.
abbrev pub changes_nothing : Command → Bool
changes_nothing ReadStatus2 = true
changes_nothing (ReadData at) = true
changes_nothing ReadId = true
changes_nothing (ReadSfdp at) = true
changes_nothing ReadUnique = true
changes_nothing Ignored = true
changes_nothing _ = false

pub record IsReading (out : List ℕ) : Type 0 where
  pub short : length out ≤ 260
  pub quiet : begins_quiet out ≡ true
  pub reading : (config : Config) (replies : ℕ) → changes_nothing (command_of config out replies) ≡ true
  pub known : (config : Config) (replies : ℕ) → is_command config out replies ≡ true

pub record HasRead (old new : BusState) : Type 0 where
  pub rested : Rested old new
  pub busy : new.chip.busy ≡ old.chip.busy
  pub latch : new.chip.latch ≡ old.chip.latch
  pub count : Spent 1 old new

pub record Replies (out : List ℕ) (old new : BusState) (reply : List ℕ) : Type 0 where
  pub history : new.history ≡ replied out reply ∷ old.history
  pub read : old.honest ≡ true → HasRead old new
  pub replied : old.honest ≡ true → (i : ℕ) → i < length reply
      → slice_index reply i ≡ reply_byte old.chip (done_of old.chip out (length reply)) i

-- The ID: the first three bytes that 9Fh reads (W25Q64FV datasheet, Read JEDEC ID).
abbrev pub id_of : Config → List ℕ
id_of config = slice_index_or config.id 0 255 ∷ slice_index_or config.id 1 255 ∷ slice_index_or config.id 2 255 ∷ []

-- The unique ID: the first eight bytes that 4Bh reads (W25Q64FV datasheet, Read Unique ID Number).
abbrev pub unique_of : Config → List ℕ
unique_of config = map (λ (i : ℕ). slice_index_or config.unique i 255) (0 ∷ 1 ∷ 2 ∷ 3 ∷ 4 ∷ 5 ∷ 6 ∷ 7 ∷ [])

-- The `len` SFDP bytes that 5Ah reads from the address `at`, which the chip takes modulo its size.
unfoldable pub shown : Config → (at len : ℕ) → List ℕ
shown config at len = map (sfdp_byte config) (range_with_len (at % config.size) len)

pub record IsSectorOf (content : ℕ → ℕ) (sector : ℕ) (bytes : List ℕ) : Type 0 where
  pub byte : (i : ℕ) → i < 4096 → slice_index bytes i ≡ content (4096 * sector + i)

pub record ReadsId (old new : BusState) (id : List ℕ) : Type 0 where
  pub answered : Answered (begins_with 0x9F) old.history new.history id
  pub read : old.honest ≡ true → HasRead old new
  pub replied : old.honest ≡ true → old.chip.busy ≡ 0 → id ≡ id_of old.chip.config

pub record ReadsStatus2 (old new : BusState) (status2 : ℕ) : Type 0 where
  pub answered : Answered (begins_with 0x35) old.history new.history (status2 ∷ [])
  pub read : old.honest ≡ true → HasRead old new
  pub replied : old.honest ≡ true → status2 ≡ old.chip.kept.two

pub record ReadsUnique (old new : BusState) (unique : List ℕ) : Type 0 where
  pub answered : Answered (begins_with 0x4B) old.history new.history unique
  pub read : old.honest ≡ true → HasRead old new
  pub replied : old.honest ≡ true → old.chip.busy ≡ 0 → unique ≡ unique_of old.chip.config

pub record ReadsSfdp (at len : ℕ) (old new : BusState) (bytes : List ℕ) : Type 0 where
  pub answered : Answered (names 0x5A at) old.history new.history bytes
  pub read : old.honest ≡ true → HasRead old new
  pub replied : old.honest ≡ true → old.chip.busy ≡ 0 → bytes ≡ shown old.chip.config at len

pub record ReadsSector (sector : ℕ) (old new : BusState) (bytes : List ℕ) : Type 0 where
  pub answered : Answered (names 0x03 (4096 * sector)) old.history new.history bytes
  pub read : old.honest ≡ true → HasRead old new
  pub replied : old.honest ≡ true → old.chip.busy ≡ 0 → 4096 * (sector + 1) ≤ old.chip.config.size
      → IsSectorOf old.chip.bytes sector bytes
