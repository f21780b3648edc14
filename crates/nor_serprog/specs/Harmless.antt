-- Calls of a port that send nothing that modifies a chip.
use Rattle.std.specs.Prelude.{◌≡◌, ◌==◌, ◌||◌, ◌++◌, ◌⊎◌, ◌∷◌, [], ℕ, Bool, true, false, List, All, ⊤}
use Rattle.nor_serprog.specs.declared.command.Command.{Command}
use Rattle.nor_serprog.specs.declared.command.Command.TheVariants.{Operate}
use Rattle.nor_serprog.specs.Frame.{FitsFrame, frame_of}
use Rattle.nor_serprog.specs.Asked.{AreNops}

-- True for 03h, 05h, 5Ah and 9Fh, which read data, status 1, SFDP and the ID, for ABh, which wakes a chip, and for FFh,
-- which ends QPI mode and continuous reads.
abbrev pub is_harmless_opcode : ℕ → Bool
is_harmless_opcode opcode =
    opcode == 0x03 || opcode == 0x05 || opcode == 0x5A || opcode == 0x9F || opcode == 0xAB || opcode == 0xFF

abbrev pub begins_harmless : (out : List ℕ) → Bool
begins_harmless [] = false
begins_harmless (opcode ∷ rest) = is_harmless_opcode opcode

-- Holds unless the command is an O_SPIOP whose transaction sends no byte, or begins with another opcode than those of
-- `is_harmless_opcode`.
abbrev pub ModifiesNothing : Command → Type 0
ModifiesNothing (Operate out replies) = begins_harmless out.now ≡ true
ModifiesNothing _ = ⊤

-- Holds if `argument`, the bytes that one call of the port was asked to send, are only NOPs and SYNCNOPs, or the frame
-- of a command that modifies nothing (`ModifiesNothing`).
abbrev pub IsHarmless : (argument : List ℕ) → Type 0
IsHarmless argument =
    AreNops argument
    ⊎ ((command : Command) × (ModifiesNothing command × (FitsFrame command × (argument ≡ frame_of command))))

-- Holds if `asked` is `start` and then only harmless calls (`IsHarmless`).
pub record IsHarmlessSince (start asked : List (List ℕ)) : Type 0 where
  pub later : List (List ℕ)
  pub since : asked ≡ later ++ start
  pub harmless : All IsHarmless later

-- Holds if `new` is `old` and then only harmless calls (`IsHarmless`).
abbrev pub StaysHarmless : (old new : List (List ℕ)) → Type 0
StaysHarmless old new = (start : List (List ℕ)) → IsHarmlessSince start old → IsHarmlessSince start new
