-- FMAP, Chromium's map of an image (flashmap, lib/fmap.h): a header of 56 bytes, and areas of 42 bytes each after it.
-- Numbers are little-endian. The fields, with their first byte and their length:
--
--   header: signature 0, 8; major version 8, 1; minor version 9, 1; base 10, 8; size of the image 18, 4; name 22, 32;
--           number of areas 54, 2
--   area:   offset 0, 4; size 4, 4; name 8, 32; flags 40, 2
use Rattle.std.specs.Prelude.{◌≡◌, ℕ, ◌+◌, ◌-◌, ◌*◌, ◌==◌, nat_le, nat_lt, Bool, ◌&&◌, if◌then◌else◌, List, [], ◌∷◌, length, drop, codes, bytes_eq, slice_index, slice_range, Option, Some, None, Result, Ok, Err}
use Rattle.std.specs.List.{list_all}
use Rattle.byteorder.specs.Endian.{little_from}
use Rattle.nor_layout.specs.declared.region.Region.{Region}
use Rattle.nor_maps.specs.declared.fault.MapFault.{MapFault}
use Rattle.nor_maps.specs.declared.fault.MapFault.TheVariants.{Missing, Short}
use Rattle.nor_maps.specs.Records.{before_nul, with_found, records_say, AsksAt}

abbrev pub is_visible : ℕ → Bool
is_visible b = nat_le 33 b && nat_le b 126

abbrev pub area_count : (header : List ℕ) → ℕ
area_count header = little_from 54 2 header

abbrev pub fmap_length : (header : List ℕ) → ℕ
fmap_length header = 56 + 42 * area_count header

-- True for a name of visible ASCII characters that ends with NUL within its field.
abbrev pub is_ended_name : (field : List ℕ) → Bool
is_ended_name field = nat_lt (length (before_nul field)) 32 && list_all is_visible (before_nul field)

-- True if the bytes begin with a valid header. The header's image size must be at least the length of the FMAP.
unfoldable pub is_fmap_header : List ℕ → Bool
is_fmap_header bytes =
    nat_le 56 (length bytes) && bytes_eq (slice_range bytes 0 8) (codes "__FMAP__") && slice_index bytes 8 == 1
    && is_ended_name (slice_range bytes 22 54) && nat_le (fmap_length bytes) (little_from 18 4 bytes)

unfoldable pub first_fmap : (image : List ℕ) → Option (List ℕ)
first_fmap [] = None
first_fmap (b ∷ bytes) = if is_fmap_header (b ∷ bytes) then Some (b ∷ bytes) else first_fmap bytes

abbrev pub area_region : (area : List ℕ) → Region
area_region area = record {
  start = little_from 0 4 area;
  end = little_from 0 4 area + little_from 4 4 area - 1;
  name = record { items = before_nul (slice_range area 8 40) };
}

-- The earlier `regions` and then the region of `area` (none if its size is 0), or the fault of `area`.
abbrev pub with_area : (size : ℕ) → List Region → (number : ℕ) → (area : List ℕ) → Result (List Region) MapFault
with_area size regions number area =
    if little_from 4 4 area == 0 then Ok regions else with_found size regions number (area_region area)

abbrev pub areas_say : (size : ℕ) → Option (List ℕ) → Result (List Region) MapFault
areas_say size None = Err Missing
areas_say size (Some map) =
    if nat_lt (length map) (fmap_length map) then Err Short
    else records_say (with_area size) 42 [] 1 (area_count map) (drop 56 map)

abbrev pub fmap_says : (size : ℕ) → (image : List ℕ) → Result (List Region) MapFault
fmap_says size image = areas_say size (first_fmap image)

-- Holds if memory may run out at area `number`: it has a region, and neither it nor an earlier area has a fault.
abbrev pub AsksInFmap : (size : ℕ) → (image : List ℕ) → (number : ℕ) → Type 0
AsksInFmap size image number =
    (map : List ℕ) × (first_fmap image ≡ Some map) × AsksAt (with_area size) 42 1 (drop 56 map) number
