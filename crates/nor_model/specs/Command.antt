use Rattle.std.specs.Prelude.{◌+◌, ◌*◌, ◌/◌, ◌%◌, ◌==◌, ◌&&◌, ◌||◌, ℕ, Bool, true, false, List, [], ◌∷◌, if◌then◌else◌}
use Rattle.nor_model.specs.declared.config.Config.{Config}
use Rattle.nor_model.specs.declared.command.Command.{Command}
use Rattle.nor_model.specs.declared.command.Command.TheVariants.{WriteEnable, WriteDisable, Poll, ReadStatus2, WriteStatus, Program, Erase, ReadData, ReadId, ReadSfdp, ReadUnique, Ignored}

abbrev pub address_of : Config → (x y z : ℕ) → ℕ
address_of config x y z = (65536 * x + 256 * y + z) % config.size

abbrev pub aligned_erase : (len at : ℕ) → Command
aligned_erase len at = Erase (at / len * len) len

abbrev pub bare_command : Config → (opcode replies : ℕ) → Command
bare_command config opcode replies =
    if opcode == 0x05 then Poll
    else if opcode == 0x35 then ReadStatus2
    else if opcode == 0x9F then ReadId
    else if opcode == 0x06 && replies == 0 then WriteEnable
    else if opcode == 0x04 && replies == 0 then WriteDisable
    else if opcode == 0xC7 && replies == 0 then Erase 0 config.size
    else Ignored

abbrev pub addressed_command : Config → (opcode at replies : ℕ) → Command
addressed_command config opcode at replies =
    if opcode == 0x03 then ReadData at
    else if opcode == 0x20 && replies == 0 then aligned_erase 4096 at
    else if opcode == 0x52 && replies == 0 && config.kinds.k32 then aligned_erase 32768 at
    else if opcode == 0xD8 && replies == 0 && config.kinds.k64 then aligned_erase 65536 at
    else Ignored

abbrev pub command_of : Config → (out : List ℕ) → (replies : ℕ) → Command
command_of config [] replies = Ignored
command_of config (opcode ∷ []) replies = bare_command config opcode replies
command_of config (opcode ∷ x ∷ []) replies = Ignored
command_of config (opcode ∷ x ∷ y ∷ []) replies = if opcode == 0x01 && replies == 0 then WriteStatus x y else Ignored
command_of config (opcode ∷ x ∷ y ∷ z ∷ []) replies = addressed_command config opcode (address_of config x y z) replies
command_of config (opcode ∷ x ∷ y ∷ z ∷ fifth ∷ []) replies =
    if opcode == 0x5A then ReadSfdp (address_of config x y z)
    else if opcode == 0x4B then ReadUnique
    else if opcode == 0x02 && replies == 0 then Program (address_of config x y z)
    else Ignored
command_of config (opcode ∷ x ∷ y ∷ z ∷ fifth ∷ sixth ∷ rest) replies =
    if opcode == 0x02 && replies == 0 then Program (address_of config x y z) else Ignored

-- True for the quiet opcodes: the six with which the model reads, and write disable (04h).
abbrev pub is_quiet_opcode : (opcode : ℕ) → Bool
is_quiet_opcode opcode =
    opcode == 0x03 || opcode == 0x04 || opcode == 0x05 || opcode == 0x35
    || opcode == 0x4B || opcode == 0x5A || opcode == 0x9F

abbrev pub is_erase_opcode : (opcode : ℕ) → Bool
is_erase_opcode opcode = opcode == 0x20 || opcode == 0x52 || opcode == 0xD8 || opcode == 0xC7

abbrev pub is_changing_opcode : (opcode : ℕ) → Bool
is_changing_opcode opcode = opcode == 0x06 || opcode == 0x01 || opcode == 0x02 || is_erase_opcode opcode

abbrev pub begins_change : (out : List ℕ) → Bool
begins_change [] = false
begins_change (opcode ∷ rest) = is_changing_opcode opcode

abbrev pub begins_quiet : (out : List ℕ) → Bool
begins_quiet [] = true
begins_quiet (opcode ∷ rest) = is_quiet_opcode opcode

-- True if `out` is a modifying opcode, followed by the bytes that its command takes: after 02h an address and data.
abbrev pub is_change : (out : List ℕ) → Bool
is_change [] = false
is_change (opcode ∷ []) = opcode == 0x06 || opcode == 0xC7
is_change (opcode ∷ x ∷ []) = false
is_change (opcode ∷ x ∷ y ∷ []) = opcode == 0x01
is_change (opcode ∷ x ∷ y ∷ z ∷ []) = opcode == 0x20 || opcode == 0x52 || opcode == 0xD8
is_change (opcode ∷ x ∷ y ∷ z ∷ byte ∷ rest) = opcode == 0x02
