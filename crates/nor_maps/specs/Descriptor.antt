-- The flash descriptor of Intel's chipsets, the first 4 KiB of an image (SPI programming guides of the chipsets).
-- FLMAP0 and FLMAP1 follow the signature. Numbers have 4 bytes, little-endian; FRBA and FMBA are in units of 16 bytes:
--
--   FLMAP0: bits 23:16 region table (FRBA), bits 26:24 number of regions minus one (NR)
--   FLMAP1: bits 7:0 masters' section (FMBA)
--   entry of the region table (FLREG): bits 14:0 base, bits 30:16 limit, both in units of 4 KiB
use Rattle.std.specs.Prelude.{◌≡◌, ℕ, ◌+◌, ◌-◌, ◌*◌, ◌/◌, ◌%◌, ◌^◌, ◌==◌, nat_le, nat_lt, max, Bool, not, ◌&&◌, ◌||◌, if◌then◌else◌, List, [], ◌∷◌, length, drop, codes, slice_index_or, Option, Some, None, Result, Ok, Err, ⊤}
use Rattle.byteorder.specs.Endian.{little_from}
use Rattle.nor_layout.specs.declared.region.Region.{Region}
use Rattle.nor_maps.specs.declared.fault.MapFault.{MapFault}
use Rattle.nor_maps.specs.declared.fault.MapFault.TheVariants.{Missing, Short, Region as InRecord}
use Rattle.nor_layout.specs.declared.layout.adding.RegionFault.TheVariants.{Name, Twice, TooMany}
use Rattle.nor_maps.specs.Records.{with_found, records_say, AsksAt}

-- The index of the signature: 10h, or 0 in the oldest descriptors, or `None` if the signature is at neither index.
abbrev pub signature_at : List ℕ → Option ℕ
signature_at bytes =
    if little_from 16 4 bytes == 0x0FF0A55A then Some 16
    else if little_from 0 4 bytes == 0x0FF0A55A then Some 0
    else None

unfoldable pub region_table : (signature : ℕ) → List ℕ → ℕ
region_table signature bytes = 16 * (little_from (signature + 4) 4 bytes / 2 ^ 16 % 2 ^ 8)

abbrev pub masters_at : (signature : ℕ) → List ℕ → ℕ
masters_at signature bytes = 16 * (little_from (signature + 8) 4 bytes % 2 ^ 8)

-- The number of entries in the table: 16 if these fit before the masters' section, else the stated number, at least 5.
unfoldable pub entry_count : (signature : ℕ) → List ℕ → ℕ
entry_count signature bytes =
    if nat_le (region_table signature bytes + 64) (masters_at signature bytes) then 16
    else max (little_from (signature + 4) 4 bytes / 2 ^ 24 % 2 ^ 3 + 1) 5

abbrev pub region_names : List (List ℕ)
region_names =
    codes "fd" ∷ codes "bios" ∷ codes "me" ∷ codes "gbe" ∷ codes "pd" ∷ codes "reg5" ∷ codes "bios2" ∷ codes "reg7"
    ∷ codes "ec" ∷ codes "reg9" ∷ codes "ie" ∷ codes "10gbe" ∷ codes "reg12" ∷ codes "reg13" ∷ codes "reg14"
    ∷ codes "reg15" ∷ []

abbrev pub region_name : (index : ℕ) → List ℕ
region_name index = slice_index_or region_names index []

abbrev pub base_of : (entry : ℕ) → ℕ
base_of entry = entry % 2 ^ 15

abbrev pub limit_of : (entry : ℕ) → ℕ
limit_of entry = entry / 2 ^ 16 % 2 ^ 15

-- True if an entry describes no region: its base is above its limit, or its value is FFFFFFFFh, or its value is 0 and
-- its index isn't 0.
abbrev pub is_unused : (index entry : ℕ) → Bool
is_unused index entry =
    nat_lt (limit_of entry) (base_of entry) || entry == 2 ^ 32 - 1 || (entry == 0 && not (index == 0))

abbrev pub entry_region : (index entry : ℕ) → Region
entry_region index entry = record {
  start = base_of entry * 4096;
  end = limit_of entry * 4096 + 4095;
  name = record { items = region_name index };
}

abbrev pub with_number : (size : ℕ) → List Region → (index entry : ℕ) → Result (List Region) MapFault
with_number size regions index entry =
    if is_unused index entry then Ok regions else with_found size regions index (entry_region index entry)

abbrev pub with_entry : (size : ℕ) → List Region → (index : ℕ) → List ℕ → Result (List Region) MapFault
with_entry size regions index bytes = with_number size regions index (little_from 0 4 bytes)

abbrev pub entries_say : (size : ℕ) → List ℕ → Option ℕ → Result (List Region) MapFault
entries_say size image None = Err Missing
entries_say size image (Some signature) =
    if nat_lt 4096 (region_table signature image + 4 * entry_count signature image) then Err Short
    else records_say (with_entry size) 4 [] 0 (entry_count signature image) (drop (region_table signature image) image)

abbrev pub descriptor_says : (size : ℕ) → (image : List ℕ) → Result (List Region) MapFault
descriptor_says size image =
    if nat_lt (length image) 4096 then Err Short else entries_say size image (signature_at image)

-- Holds if reading a descriptor may have this fault: any fault except those about a name and about too many regions.
abbrev pub IsDescriptorFault : MapFault → Type 0
IsDescriptorFault (InRecord index Name) = ⊥
IsDescriptorFault (InRecord index Twice) = ⊥
IsDescriptorFault (InRecord index TooMany) = ⊥
IsDescriptorFault fault = ⊤

-- Holds if memory may run out at entry `index`: it describes a region, and neither it nor an earlier entry has a fault.
abbrev pub AsksInDescriptor : (size : ℕ) → (image : List ℕ) → (index : ℕ) → Type 0
AsksInDescriptor size image index =
    (signature : ℕ) × (signature_at image ≡ Some signature)
    × AsksAt (with_entry size) 4 0 (drop (region_table signature image) image) index
