-- What a `CheckedStatus` knows about the chip, which replies it believes, and which status writes it sends.
use Rattle.std.specs.Prelude.{◌≡◌, ◌/◌, ◌%◌, ◌||◌, ◌⊎◌, ℕ, Bool, true, false, List, [], ◌∷◌, Option, None, Some, length, slice_index}
use Rattle.nor_model.specs.Bus.{BusState}
use Rattle.nor_model.specs.Command.{begins_change}
use Rattle.nor_model.specs.Exchange.{Exchange}
use Rattle.nor_model.specs.Sent.{begins_status_write, with_sent}
use Rattle.nor_buses.specs.StatusRead.{AgreesWithSent, IsReadTwice, IsStatusAllowed, pair, second}
use Rattle.nor_buses.specs.declared.known.Known.{Known}

pub record KeepsFixed (one two one_known two_known : ℕ) : Type 0 where
  pub srp0 : one / 128 ≡ one_known / 128
  pub low : two % 64 ≡ two_known % 64

pub record KeepsAllButLock (one two one_known two_known : ℕ) : Type 0 where
  pub protection : one % 128 / 4 ≡ one_known % 128 / 4
  pub whole : two % 128 ≡ two_known % 128

-- Holds if a status write of `one` and `two` keeps the non-volatile bits of `one_known` and `two_known`: all except
-- SRP0 if `locks` is true, and otherwise all except the protection bits.
abbrev pub KeepsBits : (locks : Bool) → (one two one_known two_known : ℕ) → Type 0
KeepsBits true one two one_known two_known = KeepsAllButLock one two one_known two_known
KeepsBits false one two one_known two_known = KeepsFixed one two one_known two_known

-- Holds if `out` is a status write of the bytes `sent`, both status registers are known, and `sent` keeps their bits
-- (`KeepsBits`). BUSY, WEL and SUS are clear in `sent`.
pub record KeepsKnown (known : Known) (out sent : List ℕ) : Type 0 where
  pub one : ℕ
  pub two : ℕ
  pub is : out ≡ 0x01 ∷ one ∷ two ∷ []
  pub sends : sent ≡ one ∷ two ∷ []
  pub one_known : ℕ
  pub two_known : ℕ
  pub first : known.one ≡ Some one_known
  pub last : known.two ≡ Some two_known
  pub keeps : KeepsBits known.locks one two one_known two_known
  pub idle : one % 4 ≡ 0
  pub awake : two / 128 ≡ 0

-- Holds for a poll that returned `status` (of a ready chip) and made these transactions over the bus inside: two polls
-- and a read of the ID after each, if no modifying command was passed on before; otherwise one poll. If a status write
-- (`sent`) isn't read back yet, the transactions are those of `AgreesWithSent`, and the status must agree with `sent`.
pub record PollAgrees (known known' : Known) (status : ℕ) (old new : List Exchange) : Type 0 where
  pub unchanged : known.is_changing ≡ false → known.written ≡ None → IsReadTwice (pair status) known'.id old new
  pub changing : known.is_changing ≡ true → known.written ≡ None → new ≡ pair status ∷ old
  pub stored : (sent : List ℕ) → known.written ≡ Some sent → AgreesWithSent sent status known'.id old new

pub record IsWritten (out : List ℕ) (remembered : Option (List ℕ)) : Type 0 where
  pub one : ℕ
  pub two : ℕ
  pub is : out ≡ 0x01 ∷ one ∷ two ∷ []
  pub written : remembered ≡ Some (one ∷ two ∷ [])

pub record KeepsTask (old new : Known) : Type 0 where
  pub is_changing : new.is_changing ≡ old.is_changing
  pub written : new.written ≡ old.written
  pub locks : new.locks ≡ old.locks

pub record KeepsStatus (old new : Known) : Type 0 where
  pub one : new.one ≡ old.one
  pub two : new.two ≡ old.two
  pub is_changing : new.is_changing ≡ old.is_changing
  pub written : new.written ≡ old.written
  pub locks : new.locks ≡ old.locks

-- Holds if no transaction that may modify the chip was sent over the bus inside, except perhaps `out`, once. If `out`
-- is a status write that isn't allowed (`IsStatusAllowed`), nothing at all was sent.
pub record SendsKept (locks : Bool) (out : List ℕ) (old new : BusState) : Type 0 where
  pub sent : (new.sent ≡ old.sent) ⊎ (new.sent ≡ with_sent out old.sent)
  pub kept : begins_status_write out ≡ true → (new ≡ old) ⊎ IsStatusAllowed locks out old.history

-- Holds for a successful transaction if the status that it returned as its only byte is confirmed (`PollAgrees` for a
-- status 1 of a ready chip, `IsReadTwice` for a status 2), and if `known'` records the bytes of a status write, and
-- whether a modifying command was passed on.
pub record BelievesStatus (out answer : List ℕ) (known known' : Known) (old new : List Exchange) : Type 0 where
  pub poll : out ≡ 0x05 ∷ [] → length answer ≡ 1 → slice_index answer 0 % 2 ≡ 0
      → PollAgrees known known' (slice_index answer 0) old new
  pub twice : out ≡ 0x35 ∷ [] → length answer ≡ 1 → IsReadTwice (second (slice_index answer 0)) known'.id old new
  pub written : begins_status_write out ≡ true → IsWritten out known'.written
  pub begun : known'.is_changing ≡ (known.is_changing || begins_change out)
