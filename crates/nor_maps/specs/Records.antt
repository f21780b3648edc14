use Rattle.std.specs.Prelude.{◌≡◌, ℕ, zero, suc, ◌+◌, ◌*◌, ◌==◌, nat_lt, if◌then◌else◌, List, [], ◌∷◌, ◌++◌, drop, Result, Ok, Err, ⊤}
use Rattle.nor_layout.specs.declared.region.Region.{Region}
use Rattle.nor_layout.specs.declared.layout.adding.RegionFault.{RegionFault}
use Rattle.nor_layout.specs.declared.layout.adding.RegionFault.TheVariants.{Memory}
use Rattle.nor_layout.specs.Adding.{with_region}
use Rattle.nor_maps.specs.declared.fault.MapFault.{MapFault}
use Rattle.nor_maps.specs.declared.fault.MapFault.TheVariants.{Outside, Region as InRecord}

abbrev pub before_nul : List ℕ → List ℕ
before_nul [] = []
before_nul (b ∷ bytes) = if b == 0 then [] else b ∷ before_nul bytes

abbrev pub in_record : (number : ℕ) → Result (List Region) RegionFault → Result (List Region) MapFault
in_record number (Ok regions) = Ok regions
in_record number (Err fault) = Err (InRecord number fault)

abbrev pub with_found : (size : ℕ) → List Region → (number : ℕ) → Region → Result (List Region) MapFault
with_found size regions number region =
    if nat_lt region.end size then in_record number (with_region regions region) else Err (Outside number)

-- A function that reads a record: it returns the earlier regions and then the region of the record, if any, or a fault.
abbrev pub Reading : Type 0
Reading = List Region → ℕ → List ℕ → Result (List Region) MapFault

abbrev pub if_read : (next : List Region → Result (List Region) MapFault) → Result (List Region) MapFault
    → Result (List Region) MapFault
if_read next (Ok regions) = next regions
if_read next (Err fault) = Err fault

-- The earlier `regions` and those of `count` records of `len` bytes, or the fault of the first record that has one.
unfoldable pub records_say : Reading → (len : ℕ) → (regions : List Region) → (number count : ℕ) → List ℕ
    → Result (List Region) MapFault
records_say reading len regions number zero bytes = Ok regions
records_say reading len regions number (suc count) bytes =
    if_read (λ more. records_say reading len more (number + 1) count (drop len bytes)) (reading regions number bytes)

-- Holds if memory may run out at record `number`: it describes a region, and no record up to this one has a fault.
pub record AsksAt (reading : Reading) (len first : ℕ) (bytes : List ℕ) (number : ℕ) : Type 0 where
  pub before : ℕ
  pub number_is : number ≡ before + first
  pub regions : List Region
  pub whole : records_say reading len [] first before bytes ≡ Ok regions
  pub region : Region
  pub more : reading regions number (drop (len * before) bytes) ≡ Ok (regions ++ region ∷ [])

-- Holds if the result of reading is the defined one (`said`), or the fault `Memory` of a record for which `asks` holds.
abbrev pub ReadsTable : (said : Result (List Region) MapFault) → (asks : ℕ → Type 0) → Result (List Region) MapFault
    → Type 0
ReadsTable said asks (Ok regions) = said ≡ Ok regions
ReadsTable said asks (Err (InRecord number Memory)) = asks number
ReadsTable said asks (Err fault) = said ≡ Err fault

-- Holds if reading a record may have this result: the defined one (`said`), or `Memory` if the record adds a region.
abbrev pub AddsRecord : (old new : List Region) → (number : ℕ) → Result ⊤ MapFault
    → (said : Result (List Region) MapFault) → Type 0
AddsRecord old new number (Ok x) said = said ≡ Ok new
AddsRecord old new number (Err (InRecord n Memory)) said =
    (n ≡ number) × ((region : Region) × (said ≡ Ok (old ++ region ∷ [])))
AddsRecord old new number (Err fault) said = said ≡ Err fault
