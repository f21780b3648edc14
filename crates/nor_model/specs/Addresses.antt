use Rattle.std.specs.Prelude.{◌≡◌, ◌<◌, ◌≤◌, ◌+◌, ◌%◌, ℕ, ⊤}
use Rattle.nor_model.specs.declared.command.Command.{Command}
use Rattle.nor_model.specs.declared.command.Command.TheVariants.{Program, Erase, ReadData, ReadSfdp}

pub record IsSectorRange (size start len : ℕ) : Type 0 where
  pub start_aligned : start % 4096 ≡ 0
  pub len_aligned : len % 4096 ≡ 0
  pub not_empty : 0 < len
  pub within : start + len ≤ size

-- Holds for a program or a read of data or SFDP if its address is below `size`, for an erase if it covers one or more
-- whole sectors within `size` bytes, and for every other command.
abbrev pub HasValidAddress : ℕ → Command → Type 0
HasValidAddress size (Program at) = at < size
HasValidAddress size (ReadData at) = at < size
HasValidAddress size (ReadSfdp at) = at < size
HasValidAddress size (Erase start len) = IsSectorRange size start len
HasValidAddress size _ = ⊤
