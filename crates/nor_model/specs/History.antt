-- The history of a bus: its transactions, each with its reply or stop, the last one first.
use Rattle.std.specs.Prelude.{◌≡◌, ◌+◌, ◌*◌, ◌/◌, ◌%◌, ◌==◌, ◌&&◌, ◌++◌, ℕ, Bool, true, false, List, [], ◌∷◌, Option, Some, None, Result, Ok, Err, if◌then◌else◌}
use Rattle.nor_model.specs.Exchange.{Exchange}
use Rattle.nor_model.specs.declared.bus.Stopped.{Stopped}
use Rattle.nor_model.specs.declared.history.Event.{Event}
use Rattle.nor_model.specs.declared.history.Event.TheVariants as event

abbrev pub replied : (out reply : List ℕ) → Exchange
replied out reply = record { out = out; reply = Some reply }

abbrev pub stopped : (out : List ℕ) → Exchange
stopped out = record { out = out; reply = None }

abbrev pub exchange_of : (out answer : List ℕ) → Result Unit Stopped → Exchange
exchange_of out answer (Ok done) = replied out answer
exchange_of out answer (Err stop) = stopped out

abbrev pub exchanges_with : Event → List Exchange → List Exchange
exchanges_with (event.Replied out reply) earlier = replied out.now reply.now ∷ earlier
exchanges_with (event.Stopped out) earlier = stopped out.now ∷ earlier
exchanges_with (event.Allowed n) earlier = earlier

abbrev pub allowances_with : Event → List ℕ → List ℕ
allowances_with (event.Allowed n) earlier = n ∷ earlier
allowances_with _ earlier = earlier

pub record Continues (old new : List Exchange) : Type 0 where
  pub later : List Exchange
  pub is : new ≡ later ++ old

abbrev pub bytes_or_none : Option (List ℕ) → List ℕ
bytes_or_none (Some bytes) = bytes
bytes_or_none None = []

-- The reply to the last transaction that satisfies `is`, or `[]` if there is none or the bus stopped at it.
abbrev pub last_reply : (is : List ℕ → Bool) → List Exchange → List ℕ
last_reply is [] = []
last_reply is (exchange ∷ earlier) = if is exchange.out then bytes_or_none exchange.reply else last_reply is earlier

abbrev pub begins_with : (opcode : ℕ) → (out : List ℕ) → Bool
begins_with opcode [] = false
begins_with opcode (first ∷ rest) = first == opcode

-- True if `out` begins with the byte `opcode` and the three bytes of `address`, high byte first.
abbrev pub names : (opcode address : ℕ) → (out : List ℕ) → Bool
names opcode address (first ∷ x ∷ y ∷ z ∷ rest) = first == opcode && 65536 * x + 256 * y + z == address
names opcode address _ = false

-- Holds if `old` and `new` have the same last replies, except to transactions that satisfy `may`.
pub record KeepsReplies (may : List ℕ → Bool) (old new : List Exchange) : Type 0 where
  pub same : (is : List ℕ → Bool) → ((out : List ℕ) → may out ≡ true → is out ≡ false)
      → last_reply is new ≡ last_reply is old

-- Holds if `new` is `old` with one later transaction, which satisfies `is` and received `reply`.
pub record Answered (is : List ℕ → Bool) (old new : List Exchange) (reply : List ℕ) : Type 0 where
  pub out : List ℕ
  pub asks : is out ≡ true
  pub history : new ≡ replied out reply ∷ old

pub record EndsStopped (history : List Exchange) : Type 0 where
  pub out : List ℕ
  pub earlier : List Exchange
  pub is : history ≡ stopped out ∷ earlier

pub record EndsBusy (history : List Exchange) : Type 0 where
  pub status : ℕ
  pub earlier : List Exchange
  pub is : history ≡ replied (0x05 ∷ []) (status ∷ []) ∷ earlier
  pub busy : status % 2 ≡ 1

pub record EndsReading (address : ℕ) (history : List Exchange) : Type 0 where
  pub earlier : List Exchange
  pub bytes : List ℕ
  pub read : Answered (names 0x03 (address / 4096 * 4096)) earlier history bytes
