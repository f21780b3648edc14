use Rattle.std.specs.Prelude.{◌≡◌, ℕ, ◌++◌, nat_lt, not, if◌then◌else◌, List, [], ◌∷◌, length, Result, Ok, Err, ⊤}
use Rattle.nor_layout.specs.declared.region.Region.{Region}
use Rattle.nor_layout.specs.declared.layout.adding.RegionFault.{RegionFault}
use Rattle.nor_layout.specs.declared.layout.adding.RegionFault.TheVariants.{Name, Twice, TooMany, Memory}
use Rattle.nor_layout.specs.Line.{is_name}
use Rattle.nor_layout.specs.Text.{is_region_named}

abbrev pub with_region : List Region → Region → Result (List Region) RegionFault
with_region regions region =
    if not (is_name region.name.items) then Err Name
    else if is_region_named regions region.name.items then Err Twice
    else if nat_lt (length regions) 64 then Ok (regions ++ region ∷ [])
    else Err TooMany

-- Holds if adding `region` may have this result: what `with_region` defines or, if the region has no fault, `Memory`.
abbrev pub Adds : (old new : List Region) → Region → Result ⊤ RegionFault → Type 0
Adds old new region (Ok x) = with_region old region ≡ Ok new
Adds old new region (Err Memory) = (new ≡ old) × (with_region old region ≡ Ok (old ++ region ∷ []))
Adds old new region (Err fault) = (new ≡ old) × (with_region old region ≡ Err fault)

abbrev pub region_fault_number : RegionFault → ℕ
region_fault_number Name = 1
region_fault_number Twice = 2
region_fault_number TooMany = 3
region_fault_number Memory = 4
