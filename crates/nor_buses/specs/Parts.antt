-- Reads and programs that are carried out in parts.
use Rattle.std.specs.Prelude.{◌≡◌, ◌<◌, ◌≤◌, ◌+◌, ◌-◌, ◌*◌, ◌/◌, ◌%◌, ◌++◌, ◌⊎◌, ◌==◌, ◌||◌, ℕ, Bool, false, List, [], ◌∷◌, length, Result, All, OnOk, ⊤}
use Rattle.nor_model.specs.Exchange.{Exchange}
use Rattle.nor_model.specs.History.{replied, bytes_or_none}
use Rattle.nor_model.specs.declared.bus.Stopped.{Stopped}
use Rattle.nor_buses.specs.ReadsAs.{part}

-- The 24-bit number `address` as three bytes, high byte first.
abbrev pub address_bytes : (address : ℕ) → List ℕ
address_bytes address = address / 65536 % 256 ∷ address / 256 % 256 ∷ address % 256 ∷ []

-- The bytes `out` with their address, if there is one, increased by `n`.
abbrev pub further : (out : List ℕ) → (n : ℕ) → List ℕ
further (opcode ∷ x ∷ y ∷ z ∷ rest) n = opcode ∷ address_bytes (65536 * x + 256 * y + z + n) ++ rest
further out n = out

-- The replies to these transactions, joined in the order of time. The list has the last transaction first.
abbrev pub bytes_of_replies : List Exchange → List ℕ
bytes_of_replies [] = []
bytes_of_replies (exchange ∷ earlier) = bytes_of_replies earlier ++ bytes_or_none exchange.reply

-- Holds if the transaction sends `out` with its address increased by `from`, and has at most `most` reply bytes.
pub record IsReadPart (most : ℕ) (out : List ℕ) (from : ℕ) (exchange : Exchange) : Type 0 where
  pub sends : exchange.out ≡ further out from
  pub few : length (bytes_or_none exchange.reply) ≤ most

-- Holds if each of these transactions continues the read `out` where the earlier ones ended, by at most `most` bytes.
abbrev pub AreReadParts : (most : ℕ) → (out : List ℕ) → List Exchange → Type 0
AreReadParts most out [] = ⊤
AreReadParts most out (exchange ∷ earlier) =
    IsReadPart most out (length (bytes_of_replies earlier)) exchange × AreReadParts most out earlier

-- True if `out` is a read that can be split: of data (03h), SFDP (5Ah), status 1 (05h) or status 2 (35h).
abbrev pub can_split_read : (out : List ℕ) → Bool
can_split_read (opcode ∷ []) = opcode == 0x05 || opcode == 0x35
can_split_read (opcode ∷ x ∷ y ∷ z ∷ []) = opcode == 0x03
can_split_read (opcode ∷ x ∷ y ∷ z ∷ dummy ∷ []) = opcode == 0x5A
can_split_read _ = false

-- Holds if since `old` only parts of the read `out` were sent, in order and without a gap. After success, `answer`
-- consists of the replies to these parts.
pub record SplitsRead (most : ℕ) (out answer : List ℕ) (result : Result Unit Stopped)
    (old new : List Exchange) : Type 0 where
  pub later : List Exchange
  pub is : new ≡ later ++ old
  pub parts : AreReadParts most out later
  pub whole : OnOk result (answer ≡ bytes_of_replies later)

-- The bytes to send to program `n` bytes of `bytes`, from the index `from` on, if `bytes` begin at `address`.
abbrev pub program_part : (address : ℕ) → (bytes : List ℕ) → (from n : ℕ) → List ℕ
program_part address bytes from n = 0x02 ∷ address_bytes (address + from) ++ part bytes from n

-- The number of bytes that these transactions send after the first four of each (a program's opcode and address).
abbrev pub bytes_programmed : List Exchange → ℕ
bytes_programmed [] = 0
bytes_programmed (exchange ∷ earlier) = bytes_programmed earlier + (length exchange.out - 4)

-- Holds if the last of these transactions is a poll that succeeded and showed that the chip is ready.
pub record EndsReady (history : List Exchange) : Type 0 where
  pub answer : List ℕ
  pub before : List Exchange
  pub is : history ≡ replied (0x05 ∷ []) answer ∷ before
  pub some : 0 < length answer
  pub ready : All (λ (status : ℕ). status % 2 ≡ 0) answer

pub record EndsEnabled (history : List Exchange) : Type 0 where
  pub before : List Exchange
  pub is : history ≡ replied (0x06 ∷ []) [] ∷ before

pub record SendsPoll (exchange : Exchange) : Type 0 where
  pub sends : exchange.out ≡ 0x05 ∷ []

-- Holds if the transaction is a write enable just after a poll that showed that the chip is ready.
pub record Enables (exchange : Exchange) (earlier : List Exchange) : Type 0 where
  pub sends : exchange.out ≡ 0x06 ∷ []
  pub ready : EndsReady earlier

-- Holds if the transaction programs the next bytes of `bytes` and sends at most `most` bytes. The transaction is the
-- first one, or comes just after a write enable.
pub record ProgramsPart (most address : ℕ) (bytes : List ℕ) (exchange : Exchange)
    (earlier : List Exchange) : Type 0 where
  pub len : ℕ
  pub sends : exchange.out ≡ program_part address bytes (bytes_programmed earlier) len
  pub some : 0 < len
  pub few : 4 + len ≤ most
  pub within : bytes_programmed earlier + len ≤ length bytes
  pub enabled : (earlier ≡ []) ⊎ EndsEnabled earlier

abbrev pub AreProgramSteps : (most address : ℕ) → (bytes : List ℕ) → List Exchange → Type 0
AreProgramSteps most address bytes [] = ⊤
AreProgramSteps most address bytes (exchange ∷ earlier) =
    (SendsPoll exchange ⊎ (Enables exchange earlier ⊎ ProgramsPart most address bytes exchange earlier))
    × AreProgramSteps most address bytes earlier

-- Holds if since `old` only polls, write enables and parts of this program were sent. The parts are in order, without a
-- gap, with a poll of a ready chip and a write enable between two parts. After success, all bytes were sent.
pub record SplitsProgram (most address : ℕ) (bytes : List ℕ) (result : Result Unit Stopped)
    (old new : List Exchange) : Type 0 where
  pub later : List Exchange
  pub is : new ≡ later ++ old
  pub steps : AreProgramSteps most address bytes later
  pub all : OnOk result (bytes_programmed later ≡ length bytes)

abbrev pub ArePolls : List Exchange → Type 0
ArePolls [] = ⊤
ArePolls (exchange ∷ earlier) = SendsPoll exchange × ArePolls earlier

pub record WaitsReady (result : Result Unit Stopped) (old new : List Exchange) : Type 0 where
  pub later : List Exchange
  pub is : new ≡ later ++ old
  pub polls : ArePolls later
  pub ready : OnOk result (EndsReady later)

pub record PollsOnce (old new : List Exchange) : Type 0 where
  pub exchange : Exchange
  pub poll : SendsPoll exchange
  pub is : new ≡ exchange ∷ old
