-- The commands of serprog as bytes (flashrom's Documentation/serprog-protocol.txt: the table of commands).
use Rattle.std.specs.Prelude.{◌≡◌, ◌<◌, ◌≤◌, ◌+◌, ◌*◌, ◌/◌, ◌%◌, ◌++◌, ◌==◌, ◌||◌, ℕ, List, [], ◌∷◌, Option, None, Some, length, drop, slice_index, if◌then◌else◌, ⊤}
use Rattle.nor_serprog.specs.declared.command.Command.{Command}
use Rattle.nor_serprog.specs.declared.command.Command.TheVariants.{Nop, QueryInterface, QueryCommands, QueryName, QuerySerialBuffer, QueryBuses, QueryLongestWrite, SyncNop, QueryLongestRead, SetBuses, Operate, SetFrequency, SetPins, SelectChip}

abbrev pub three_of : ℕ → List ℕ
three_of n = n % 256 ∷ n / 256 % 256 ∷ n / 65536 % 256 ∷ []

abbrev pub four_of : ℕ → List ℕ
four_of n = n % 256 ∷ n / 256 % 256 ∷ n / 65536 % 256 ∷ n / 16777216 % 256 ∷ []

abbrev pub number_in : (a b c : ℕ) → ℕ
number_in a b c = a + 256 * b + 65536 * c

-- The frame of O_SPIOP: the opcode, the number of bytes to send, the number of reply bytes, and the bytes to send.
abbrev pub operation_frame : (out : List ℕ) → (replies : ℕ) → List ℕ
operation_frame out replies = 0x13 ∷ three_of (length out) ++ three_of replies ++ out

abbrev pub frame_of : Command → List ℕ
frame_of Nop = 0x00 ∷ []
frame_of QueryInterface = 0x01 ∷ []
frame_of QueryCommands = 0x02 ∷ []
frame_of QueryName = 0x03 ∷ []
frame_of QuerySerialBuffer = 0x04 ∷ []
frame_of QueryBuses = 0x05 ∷ []
frame_of QueryLongestWrite = 0x08 ∷ []
frame_of SyncNop = 0x10 ∷ []
frame_of QueryLongestRead = 0x11 ∷ []
frame_of (SetBuses flags) = 0x12 ∷ flags ∷ []
frame_of (Operate out replies) = operation_frame out.now replies
frame_of (SetFrequency hertz) = 0x14 ∷ four_of hertz
frame_of (SetPins enabled) = 0x15 ∷ (if enabled then 1 else 0) ∷ []
frame_of (SelectChip number) = 0x16 ∷ number ∷ []

-- Holds if this crate can encode the command as one frame.
abbrev pub FitsFrame : Command → Type 0
FitsFrame (Operate out replies) = (length out.now ≤ 260) × (replies < 16777216)
FitsFrame _ = ⊤

-- The number of argument bytes after an opcode other than O_SPIOP (13h) and "write n" (0Dh), for which see `long_len`.
abbrev pub argument_count : (opcode : ℕ) → ℕ
argument_count opcode =
    if opcode == 0x12 || opcode == 0x15 || opcode == 0x16 then 1
    else if opcode == 0x09 then 3
    else if opcode == 0x0C || opcode == 0x0E || opcode == 0x14 then 4
    else if opcode == 0x0A then 6
    else 0

-- The length of a frame of O_SPIOP or "write n", or `None` if fewer than three bytes after the opcode are given. After
-- the opcode come two 3-byte numbers, the first of which is the number of bytes that follow both.
abbrev pub long_len : List ℕ → Option ℕ
long_len (a ∷ b ∷ c ∷ rest) = Some (7 + number_in a b c)
long_len _ = None

-- The length of the frame that begins with the bytes `begun`, or `None` if more bytes are needed to determine it.
abbrev pub frame_len : (begun : List ℕ) → Option ℕ
frame_len [] = None
frame_len (opcode ∷ rest) =
    if opcode == 0x13 || opcode == 0x0D then long_len rest else Some (1 + argument_count opcode)

abbrev pub IsFrame : List ℕ → Type 0
IsFrame bytes = frame_len bytes ≡ Some (length bytes)

abbrev pub out_in : List ℕ → List ℕ
out_in frame = drop 7 frame

abbrev pub replies_in : List ℕ → ℕ
replies_in frame = number_in (slice_index frame 4) (slice_index frame 5) (slice_index frame 6)

-- Holds if a programmer that receives this frame carries out this command.
abbrev pub ReadsAs : List ℕ → Command → Type 0
ReadsAs frame (Operate out replies) =
    (slice_index frame 0 ≡ 0x13) × (out_in frame ≡ out.now) × (replies_in frame ≡ replies)
ReadsAs frame command = frame ≡ frame_of command
