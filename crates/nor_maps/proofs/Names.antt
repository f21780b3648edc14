use Rattle.std.proofs.Common.{◌≡◌, ℕ, zero, suc, ◌+◌, ◌<◌, ◌≤◌, ◌⊎◌, Bool, true, false, not, ◌&&◌, List, [], ◌∷◌, ◌++◌}
use Rattle.std.proofs.Common.{drop, length, get_or, ltb, Result, Ok, Err, IfErr, refl, inl, inr, arith}
use Rattle.std.specs.Prelude.{⊤}
use Rattle.std.specs.Str.{bytes_eq}
use Rattle.std.specs.List.{list_any, list_all}
use Rattle.std.proofs.lemmas.Bool.{cases_Bool}
use Rattle.std.proofs.lemmas.Bool.Decides.{nat_tests}
use Rattle.std.proofs.lemmas.List.{length-append}
use Rattle.std.proofs.lemmas.List.Folds.{list_any_at, list_all_at}
use Rattle.nor_layout.specs.declared.region.Region.{Region}
use Rattle.nor_layout.specs.declared.layout.adding.RegionFault.TheVariants.{Memory}
use Rattle.nor_layout.specs.Line.{is_name}
use Rattle.nor_layout.specs.Text.{is_region_named}
use Rattle.nor_maps.specs.declared.fault.MapFault.{MapFault}
use Rattle.nor_maps.specs.declared.fault.MapFault.TheVariants.{Outside, Region as InRecord}
use Rattle.nor_maps.specs.Records.{records_say, ReadsTable}
use Rattle.nor_maps.specs.Descriptor.{region_names, region_name, entry_region, is_unused, with_number, with_entry}
use Rattle.nor_maps.specs.Descriptor.{IsDescriptorFault}
use Rattle.byteorder.specs.Endian.{little_from}

abbrev are_apart : List (List ℕ) → Bool
are_apart [] = true
are_apart (name ∷ names) = not (list_any (bytes_eq name) names) && are_apart names

apart_at : (names : List (List ℕ)) → are_apart names ≡ true → (k i : ℕ) → k < i → i < length names
    → bytes_eq (get_or names k []) (get_or names i []) ≡ false
apart_at [] apart k i below within = absurd (omega arith)
apart_at (name ∷ names) apart k zero below within = absurd (omega arith)
apart_at (name ∷ names) apart zero (suc i) below within =
    grind (arith, list_any_at (bytes_eq name) names i [])
apart_at (name ∷ names) apart (suc k) (suc i) below within =
    grind (arith, apart_at names)

name_at : (index : ℕ) → index < 16 → is_name (region_name index) ≡ true
name_at index within = elim (cases_Bool (is_name (region_name index))) [
  | inl valid ↦ valid
  | inr other ↦
      let all : list_all is_name region_names ≡ true = refl in
      let none = list_all_at is_name region_names index [] within other in
      absurd (cc)
]

abbrev AreNamedBelow : (index : ℕ) → List Region → Type 0
AreNamedBelow index [] = ⊤
AreNamedBelow index (region ∷ regions) =
    ((k : ℕ) × (k < index) × (region.name.items ≡ region_name k)) × AreNamedBelow index regions

unnamed : (index : ℕ) → index < 16 → (regions : List Region) → AreNamedBelow index regions
    → is_region_named regions (region_name index) ≡ false
unnamed index within [] named = refl
unnamed index within (region ∷ regions) named =
    let other = apart_at region_names refl named.0.0 index named.0.1 within in
    rw (named.0.2, other) (unnamed index within regions named.1)

named_next : (index : ℕ) (regions : List Region) → AreNamedBelow index regions → AreNamedBelow (index + 1) regions
named_next index [] named = named
named_next index (region ∷ regions) named =
    ((named.0.0, omega (arith, named.0.1), named.0.2), named_next index regions named.1)

named_push : (index entry : ℕ) (regions : List Region) → AreNamedBelow index regions
    → AreNamedBelow (index + 1) (regions ++ entry_region index entry ∷ [])
named_push index entry [] named = ((index, omega arith, refl), named)
named_push index entry (region ∷ regions) named =
    ((named.0.0, omega (arith, named.0.1), named.0.2), named_push index entry regions named.1)

added : (size index entry : ℕ) (regions : List Region) → index < 16 → AreNamedBelow index regions
    → length regions ≤ index
    → (with_number size regions index entry ≡ Ok regions)
    ⊎ ((with_number size regions index entry ≡ Ok (regions ++ entry_region index entry ∷ []))
    ⊎ (with_number size regions index entry ≡ Err (Outside index)))
added size index entry regions within named few =
    let valid = name_at index within in
    let new = unnamed index within regions named in
    let room : length regions < 64 = omega arith in
    elim (cases_Bool (is_unused index entry)) [
      | inl unused ↦ inl (rw unused refl)
      | inr used ↦ elim (cases_Bool (ltb (entry_region index entry).end size)) [
        | inl inside ↦ inr (inl (grind (arith, nat_tests)))
        | inr outside ↦ inr (inr (rw (used, outside) refl))
      ]
    ]

faults : (size count index : ℕ) (regions : List Region) (bytes : List ℕ) → index + count ≤ 16
    → AreNamedBelow index regions → length regions ≤ index → (fault : MapFault)
    → records_say (with_entry size) 4 regions index count bytes ≡ Err fault → IsDescriptorFault fault
unfolding records_say
faults size zero index regions bytes within named few fault e = absurd (cc)
faults size (suc count) index regions bytes within named few fault e =
    elim (added size index (little_from 0 4 bytes) regions (omega arith) named few) [
      | inl none ↦ faults size count (index + 1) regions (drop 4 bytes) (omega arith)
          (named_next index regions named) (omega arith) fault (rw none at e)
      | inr some ↦ elim some [
        | inl one ↦ faults size count (index + 1) (regions ++ entry_region index (little_from 0 4 bytes) ∷ [])
            (drop 4 bytes) (omega arith) (named_push index (little_from 0 4 bytes) regions named)
            (omega (arith, length-append regions (entry_region index (little_from 0 4 bytes) ∷ []))) fault (rw one at e)
        | inr outside ↦
            let same : Outside index ≡ fault = cc (rw outside at e) in
            rw (← same) tt
      ]
    ]

pub reads_named : (size count : ℕ) (table : List ℕ) → count ≤ 16 → (asks : ℕ → Type 0)
    → (result : Result (List Region) MapFault)
    → ReadsTable (records_say (with_entry size) 4 [] 0 count table) asks result → IfErr result IsDescriptorFault
reads_named size count table few asks (Ok regions) reads = tt
reads_named size count table few asks (Err (InRecord number Memory)) reads = tt
reads_named size count table few asks (Err fault) reads =
    faults size count 0 [] table (omega arith) tt (omega arith) fault reads
