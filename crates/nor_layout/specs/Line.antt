use Rattle.std.specs.Prelude.{ℕ, Bool, not, ◌&&◌, ◌==◌, nat_le, nat_lt, if◌then◌else◌, List, [], ◌∷◌, length, Option, Some, None, Result, Ok, Err}
use Rattle.std.specs.Option.{option_map}
use Rattle.std.specs.List.{list_all}
use Rattle.nor_layout.specs.declared.region.Region.{Region}
use Rattle.nor_layout.specs.declared.fault.LineFault.{LineFault}
use Rattle.nor_layout.specs.declared.fault.LineFault.TheVariants.{Line, Address, Backwards, Name}
use Rattle.nor_layout.specs.Address.{digits_address}

abbrev pub cut_at : ℕ → List ℕ → Option (List ℕ × List ℕ)
cut_at byte [] = None
cut_at byte (b ∷ text) =
    if b == byte then Some ([], text) else option_map (λ parts. (b ∷ parts.0, parts.1)) (cut_at byte text)

abbrev pub without_spaces : List ℕ → List ℕ
without_spaces [] = []
without_spaces (b ∷ text) = if b == 32 then without_spaces text else b ∷ text

pub record Parts : Type 0 where
  pub start : List ℕ
  pub end : List ℕ
  pub name : List ℕ

abbrev pub with_start : List ℕ → Option (List ℕ × List ℕ) → Option Parts
with_start start None = None
with_start start (Some parts) = Some (record { start = start; end = parts.0; name = without_spaces parts.1 })

abbrev pub parts_after : Option (List ℕ × List ℕ) → Option Parts
parts_after None = None
parts_after (Some parts) = with_start parts.0 (cut_at 32 parts.1)

-- The parts of a line: the start ends at the first `:`, the end at the next space, and the name follows the spaces.
abbrev pub parts_of : List ℕ → Option Parts
parts_of line = parts_after (cut_at 58 line)

-- True for a visible ASCII character except `,` and `:`.
abbrev pub is_name_byte : ℕ → Bool
is_name_byte b = nat_le 33 b && nat_le b 126 && not (b == 44) && not (b == 58)

abbrev pub is_name : List ℕ → Bool
is_name name = nat_le 1 (length name) && nat_le (length name) 32 && list_all is_name_byte name

-- The region with this start, end and name, or its first fault. `None` stands for a text that is no address.
abbrev pub region_of : (start end : Option ℕ) → (name : List ℕ) → Result Region LineFault
region_of None end name = Err Address
region_of (Some start) None name = Err Address
region_of (Some start) (Some end) name =
    if nat_lt end start then Err Backwards
    else if is_name name then Ok (record { start = start; end = end; name = record { items = name } })
    else Err Name

abbrev pub parts_say : Option Parts → Result Region LineFault
parts_say None = Err Line
parts_say (Some parts) = region_of (digits_address parts.start) (digits_address parts.end) parts.name

abbrev pub line_says : List ℕ → Result Region LineFault
line_says line = parts_say (parts_of line)
