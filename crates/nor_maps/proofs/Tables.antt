use Rattle.std.proofs.Common.{◌≡◌, ◌∙◌, ℕ, suc, ◌+◌, ◌-◌, ◌*◌, ◌≤◌, List, [], ◌∷◌, ◌++◌, drop, Result, Ok, Err, refl, sym, ap}
use Rattle.std.proofs.Common.{arith, subst}
use Rattle.std.proofs.lemmas.List.{drop-drop}
use Rattle.nor_layout.specs.declared.region.Region.{Region}
use Rattle.nor_layout.specs.declared.layout.adding.RegionFault.TheVariants.{Memory}
use Rattle.nor_maps.specs.declared.fault.MapFault.{MapFault}
use Rattle.nor_maps.specs.declared.fault.MapFault.TheVariants.{Region as InRecord}
use Rattle.nor_maps.specs.Records.{Reading, if_read, records_say, AsksAt, ReadsTable, AddsRecord}

-- Holds if the first `before` records have no fault and define `regions`, however many records follow.
abbrev pub RecordsDefine : Reading → (len first : ℕ) → List ℕ → (before : ℕ) → List Region → Type 0
RecordsDefine reading len first bytes before regions = (more : ℕ)
    → records_say reading len [] first (before + more) bytes
    ≡ records_say reading len regions (before + first) more (drop (len * before) bytes)

module _ (reading : Reading) (len first : ℕ) (bytes : List ℕ) where
  pub define_none : RecordsDefine reading len first bytes 0 []
  define_none more =
      let count : 0 + more ≡ more = omega arith in
      let number : 0 + first ≡ first = omega arith in
      let place : len * 0 ≡ 0 = omega arith in
      rw (count, number, place) refl

  module _ (before : ℕ) (regions : List Region) (define : RecordsDefine reading len first bytes before regions) where
    pub define_all : (count : ℕ) → before ≡ count → records_say reading len [] first count bytes ≡ Ok regions
    unfolding records_say
    define_all count is =
        let same : count ≡ before + 0 = omega arith in
        ap (λ n. records_say reading len [] first n bytes) same ∙ define 0

    module _ (number : ℕ) (number_is : number ≡ before + first) where
      onward : (said : Result (List Region) MapFault) → reading regions number (drop (len * before) bytes) ≡ said
          → (more : ℕ) → records_say reading len [] first (before + suc more) bytes
          ≡ if_read (λ all. records_say reading len all (number + 1) more (drop len (drop (len * before) bytes))) said
      unfolding records_say
      onward said e more =
          define (suc more)
          ∙ ap (λ n. if_read (λ all. records_say reading len all (n + 1) more (drop len (drop (len * before) bytes)))
          (reading regions n (drop (len * before) bytes))) (sym number_is)
          ∙ ap (if_read (λ all. records_say reading len all (number + 1) more (drop len (drop (len * before) bytes)))) e

      pub define_more : (more_regions : List Region)
          → reading regions number (drop (len * before) bytes) ≡ Ok more_regions
          → RecordsDefine reading len first bytes (before + 1) more_regions
      define_more more_regions e more =
          let count : before + 1 + more ≡ before + suc more = omega arith in
          let next : number + 1 ≡ before + 1 + first = omega arith in
          let place : len * before + len ≡ len * (before + 1) = grind arith in
          ap (λ n. records_say reading len [] first n bytes) count
          ∙ onward (Ok more_regions) e more
          ∙ ap (λ n. records_say reading len more_regions n more (drop len (drop (len * before) bytes))) next
          ∙ ap (records_say reading len more_regions (before + 1 + first) more)
          (drop-drop len (len * before) bytes ∙ ap (λ n. drop n bytes) place)

      pub reads_fault : (count : ℕ) → before + 1 ≤ count → (new : List Region) (fault : MapFault)
          → AddsRecord regions new number (Err fault) (reading regions number (drop (len * before) bytes))
          → ReadsTable (records_say reading len [] first count bytes) (AsksAt reading len first bytes) (Err fault)
      reads_fault count within new (InRecord n Memory) adds = record {
        before = before;
        number_is = adds.0 ∙ number_is;
        regions = regions;
        whole = define_all before refl;
        region = adds.1.0;
        more = subst (λ k. reading regions k (drop (len * before) bytes) ≡ Ok (regions ++ adds.1.0 ∷ [])) (sym adds.0)
            adds.1.1;
      }
      reads_fault count within new fault adds =
          let same : count ≡ before + suc (count - (before + 1)) = omega arith in
          ap (λ n. records_say reading len [] first n bytes) same ∙ onward (Err fault) adds (count - (before + 1))

pub reads_same : (said other : Result (List Region) MapFault) (asks may_ask : ℕ → Type 0) → said ≡ other
    → ((number : ℕ) → asks number → may_ask number) → (result : Result (List Region) MapFault)
    → ReadsTable said asks result → ReadsTable other may_ask result
reads_same said other asks may_ask same more (Ok regions) reads = sym same ∙ reads
reads_same said other asks may_ask same more (Err (InRecord number Memory)) reads = more number reads
reads_same said other asks may_ask same more (Err fault) reads = sym same ∙ reads
