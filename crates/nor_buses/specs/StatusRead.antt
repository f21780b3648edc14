-- How a `CheckedStatus` confirms what it reads, and which status writes it may pass on.
use Rattle.std.specs.Prelude.{◌≡◌, ◌/◌, ◌%◌, ◌&&◌, ◌||◌, ◌==◌, ℕ, Bool, true, false, List, [], ◌∷◌, Option, None}
use Rattle.std.specs.Prelude.{Some, slice_index}
use Rattle.nor_model.specs.Exchange.{Exchange}
use Rattle.nor_model.specs.History.{begins_with, bytes_or_none, replied}

abbrev pub pair : (status : ℕ) → Exchange
pair status = replied (0x05 ∷ []) (status ∷ status ∷ [])

abbrev pub second : (status : ℕ) → Exchange
second status = replied (0x35 ∷ []) (status ∷ [])

abbrev pub read_id : (id : List ℕ) → Exchange
read_id id = replied (0x9F ∷ []) id

abbrev pub begins_confirmed : (out : List ℕ) → Bool
begins_confirmed [] = false
begins_confirmed (opcode ∷ rest) = opcode == 0x03 || opcode == 0x5A || opcode == 0x4B

-- True for a read of status 1 (05h) or status 2 (35h) with one reply byte, which a `CheckedStatus` checks.
abbrev pub is_checked_read : (out : List ℕ) → (replies : ℕ) → Bool
is_checked_read (opcode ∷ []) replies = (opcode == 0x05 || opcode == 0x35) && replies == 1
is_checked_read _ replies = false

abbrev pub is_known : Option (List ℕ) → Bool
is_known None = false
is_known (Some id) = true

-- The history after one more read of the ID, whose reply is the known ID. If no ID is known, the history is unchanged.
abbrev pub confirmed : (known : Option (List ℕ)) → List Exchange → List Exchange
confirmed None history = history
confirmed (Some id) history = read_id id ∷ history

-- Holds if the known ID did not change, or no ID was known.
pub record KeepsId (old new : Option (List ℕ)) : Type 0 where
  pub same : is_known old ≡ true → new ≡ old

-- Holds if the bus inside made the transaction `read`, and then read the ID, with the reply `known`.
pub record IsConfirmed (read : Exchange) (known : Option (List ℕ)) (old new : List Exchange) : Type 0 where
  pub knows : is_known known ≡ true
  pub is : new ≡ confirmed known (read ∷ old)

-- Holds if the bus inside made the transaction `read` twice, with the same reply, and read the ID `known` after each.
pub record IsReadTwice (read : Exchange) (known : Option (List ℕ)) (old new : List Exchange) : Type 0 where
  pub knows : is_known known ≡ true
  pub is : new ≡ confirmed known (read ∷ confirmed known (read ∷ old))

-- Holds if since `old` status 2 was read twice with the value `two`, and all non-volatile bits of status 1 (`one`) and
-- status 2 (`two`) are as in `sent`, the two data bytes of a status write.
pub record HasStored (sent : List ℕ) (one : ℕ) (known : Option (List ℕ)) (old new : List Exchange) : Type 0 where
  pub two : ℕ
  pub twice : IsReadTwice (second two) known old new
  pub first : one / 4 ≡ slice_index sent 0 / 4
  pub last : two % 128 ≡ slice_index sent 1 % 128

-- Holds if since `old` status 1 was read twice with the value `status`, and then status 2 was read twice, and all
-- non-volatile bits of both registers are as in `sent`, the two data bytes of a status write.
pub record AgreesWithSent (sent : List ℕ) (status : ℕ) (known : Option (List ℕ)) (old new : List Exchange)
    : Type 0 where
  pub between : List Exchange
  pub twice : IsReadTwice (pair status) known old between
  pub stored : HasStored sent status known between new

abbrev pub has_read : (opcode byte : ℕ) → Exchange → Bool
has_read opcode byte exchange = begins_with opcode exchange.out && begins_with byte (bytes_or_none exchange.reply)

abbrev pub has_read_id : Exchange → Bool
has_read_id exchange = begins_with 0x9F exchange.out

-- True if a reply has at least two bytes, and one of the first two shows BUSY (bit 0).
abbrev pub shows_busy : (reply : List ℕ) → Bool
shows_busy (first ∷ last ∷ rest) = first % 2 == 1 || last % 2 == 1
shows_busy _ = false

abbrev pub is_replied : (reply : List ℕ) → Bool
is_replied [] = false
is_replied (first ∷ rest) = true

abbrev pub ends_in_poll : (history : List Exchange) → Bool
ends_in_poll [] = false
ends_in_poll (last ∷ earlier) = begins_with 0x05 last.out && is_replied (bytes_or_none last.reply)

abbrev pub ends_busy : (history : List Exchange) → Bool
ends_busy [] = false
ends_busy (last ∷ earlier) = begins_with 0x05 last.out && shows_busy (bytes_or_none last.reply)

-- True if the last transaction is a read of the ID, and the one before it is a poll that showed BUSY (`ends_busy`).
abbrev pub read_id_while_busy : (history : List Exchange) → Bool
read_id_while_busy [] = false
read_id_while_busy (last ∷ earlier) = has_read_id last && ends_busy earlier

-- True if the history contains four transactions in a row (in order of time) of which the first and third begin with
-- `opcode` and have replies that begin with `byte`, and the second and fourth are reads of the ID.
abbrev pub was_read_twice : (opcode byte : ℕ) → List Exchange → Bool
was_read_twice opcode byte [] = false
was_read_twice opcode byte (d ∷ []) = false
was_read_twice opcode byte (d ∷ c ∷ []) = false
was_read_twice opcode byte (d ∷ c ∷ b ∷ []) = false
was_read_twice opcode byte (d ∷ c ∷ b ∷ a ∷ earlier) =
    (has_read_id d && has_read opcode byte c && has_read_id b && has_read opcode byte a)
    || was_read_twice opcode byte (c ∷ b ∷ a ∷ earlier)

pub record ChangesOnlySrp0 (one two one_read two_read : ℕ) : Type 0 where
  pub protection : one % 128 / 4 ≡ one_read % 128 / 4
  pub whole : two % 128 ≡ two_read % 128

-- Holds if SRP0 (of status 1), and SRP1, QE, the reserved bit and LB1 to LB3 (of status 2) are as they were read.
pub record ChangesOnlyProtection (one two one_read two_read : ℕ) : Type 0 where
  pub srp0 : one / 128 ≡ one_read / 128
  pub locks : two / 8 % 8 ≡ two_read / 8 % 8
  pub low : two % 8 ≡ two_read % 8

abbrev pub ChangesAsAllowed : (locks : Bool) → (one two one_read two_read : ℕ) → Type 0
ChangesAsAllowed true one two one_read two_read = ChangesOnlySrp0 one two one_read two_read
ChangesAsAllowed false one two one_read two_read = ChangesOnlyProtection one two one_read two_read

-- Holds if a `CheckedStatus` may pass on `out`: it is a status write of two bytes in which BUSY, WEL and SUS are clear,
-- and it changes only bits that it may change (`ChangesAsAllowed`). Both status registers were read twice before, and
-- the ID was read after each of these reads.
pub record IsStatusAllowed (locks : Bool) (out : List ℕ) (history : List Exchange) : Type 0 where
  pub one : ℕ
  pub two : ℕ
  pub is : out ≡ 0x01 ∷ one ∷ two ∷ []
  pub one_read : ℕ
  pub two_read : ℕ
  pub first : was_read_twice 0x05 one_read history ≡ true
  pub last : was_read_twice 0x35 two_read history ≡ true
  pub changes : ChangesAsAllowed locks one two one_read two_read
  pub idle : one % 4 ≡ 0
  pub awake : two / 128 ≡ 0
