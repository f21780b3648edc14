-- Whether the last poll that received a byte showed that the chip is ready. (W25Q64FV datasheet, Read Status
-- Register-1.)
use Rattle.std.specs.Prelude.{◌-◌, ◌%◌, ◌==◌, ◌&&◌, ℕ, Bool, false, List, [], ◌∷◌, Option, Some, None, length, nat_lt, slice_index, if◌then◌else◌}
use Rattle.nor_model.specs.Exchange.{Exchange}

abbrev pub is_poll : List ℕ → Bool
is_poll [] = false
is_poll (opcode ∷ []) = opcode == 0x05
is_poll (opcode ∷ next ∷ rest) = false

-- True if BUSY (bit 0) is clear in the last byte of `answer`, or if `answer` is empty.
abbrev pub shows_ready : (answer : List ℕ) → Bool
shows_ready answer = slice_index answer (length answer - 1) % 2 == 0

abbrev pub polled_ready_after : (out answer : List ℕ) → (before : Bool) → Bool
polled_ready_after out answer before = if is_poll out && nat_lt 0 (length answer) then shows_ready answer else before

abbrev pub polled_ready_by : (out : List ℕ) → (reply : Option (List ℕ)) → (before : Bool) → Bool
polled_ready_by out (Some answer) before = polled_ready_after out answer before
polled_ready_by out None before = before

abbrev pub polled_ready_in : List Exchange → Bool
polled_ready_in [] = false
polled_ready_in (exchange ∷ earlier) = polled_ready_by exchange.out exchange.reply (polled_ready_in earlier)
