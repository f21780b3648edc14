-- If a genuine chip shows a chip type (`shown_as`), that type has the properties of the chip's configuration.
use Rattle.std.proofs.Common.{◌≡◌, ◌∙◌, ℕ, Bool, true, false, List, [], ◌∷◌, refl, arith}
use Rattle.std.specs.Prelude.{Option, None, Some, Result, Ok, Err, find, bytes_eq, if◌then◌else◌}
use Rattle.std.specs.List.{list_all}
use Rattle.std.proofs.lemmas.Grind.{common_steps}
use Rattle.std.proofs.lemmas.Slice.Eq.{bytes_eq-Decides}
use Rattle.nor_model.specs.declared.config.Config.{Config}
use Rattle.nor_driver.specs.Reads.{id_of}
use Rattle.nor_probe.specs.declared.sfdp.Geometry.{Geometry}
use Rattle.nor_probe.specs.declared.sfdp.SfdpFault.{SfdpFault}
use Rattle.nor_probe.specs.declared.table.Part.{Part}
use Rattle.nor_probe.specs.declared.probes.Found.{Found}
use Rattle.nor_probe.specs.declared.probes.ProbeFault.TheVariants.{NoChip}
use Rattle.nor_probe.specs.Table.{chips, further_chips, part_with_id, further_with_id, row_or, part_for}
use Rattle.nor_probe.specs.Known.{is_no_chip, chip_says, sfdp_part, part_by_sfdp, listed_or, shown_as}
use Rattle.nor_probe.specs.Known.{IsGenuine, IsKnown}
use Rattle.nor_probe.specs.Found.{part_in, IsConfigOf}

pub found_has : (test holds : Part → Bool) (parts : List Part) (part : Part) → list_all holds parts ≡ true
    → find test parts ≡ Some part → (test part ≡ true) × (holds part ≡ true)
found_has test holds [] part all is = absurd (cc)
found_has test holds (first ∷ parts) part all is =
    let rest = found_has test holds parts part in
    (grind (arith, common_steps, rest), grind (arith, common_steps, rest))

pub row_has : (holds : Part → Bool) (of_id : List ℕ) (part : Part) → list_all holds chips ≡ true
    → part_with_id of_id ≡ Some part → holds part ≡ true
row_has holds of_id part all is = (found_has (λ p. bytes_eq p.id of_id) holds chips part all is).1

module _ (holds : Part → Bool) (of_id : List ℕ) (part : Part) (all : list_all holds chips ≡ true)
    (more : list_all holds further_chips ≡ true) where
  either_has : (row : Option Part) → part_with_id of_id ≡ row → row_or (further_with_id of_id) row ≡ Some part
      → (bytes_eq part.id of_id ≡ true) × (holds part ≡ true)
  either_has (Some row) listed is = found_has (λ p. bytes_eq p.id of_id) holds chips part all (listed ∙ is)
  either_has None listed is = found_has (λ p. bytes_eq p.id of_id) holds further_chips part more is

  pub applied_has : (further : Bool) → part_for further of_id ≡ Some part
      → (bytes_eq part.id of_id ≡ true) × (holds part ≡ true)
  applied_has false is = found_has (λ p. bytes_eq p.id of_id) holds chips part all is
  applied_has true is = either_has (part_with_id of_id) refl is

record IsPartOf (config : Config) (part : Part) : Type 0 where
  id : part.id ≡ id_of config
  size : part.size ≡ config.size
  kinds : part.kinds ≡ config.kinds
  scheme : part.scheme ≡ config.scheme

shown_part : (further : Bool) (config : Config) (none : Bool) (row : Option Part) (says : Result Geometry SfdpFault) (part : Part)
    → IsGenuine further config → part_for further (id_of config) ≡ row → chip_says config ≡ says
    → (if none then Err NoChip else listed_or (part_by_sfdp (id_of config) says) row) ≡ Ok part → IsPartOf config part
shown_part further config true row says part genuine listed errors is = absurd (cc)
shown_part further config false (Some row) says part genuine listed errors is =
    let has = genuine.listed row listed in
    let found = applied_has (λ p. true) (id_of config) row refl refl further listed in
    let same : row ≡ part = cc in
    let id = (bytes_eq-Decides row.id (id_of config)).0 found.0 in
    grind arith
shown_part further config false None (Ok geometry) part genuine listed errors is =
    let has = genuine.described listed geometry errors in
    let same : sfdp_part (id_of config) geometry ≡ part = cc in
    let scheme = genuine.unlisted listed in
    grind arith
shown_part further config false None (Err fault) part genuine listed errors is = absurd (cc)

pub shown_config : (further : Bool) (config : Config) (found : Found) → IsGenuine further config
    → shown_as further config ≡ Ok (part_in found) → IsConfigOf further config found
shown_config further config found genuine is =
    let of_id = id_of config in
    let part = shown_part further config (is_no_chip of_id) (part_for further of_id) (chip_says config)
    (part_in found) genuine refl refl is in
    let known : IsKnown further config = record { genuine = genuine; shown = rw is refl } in
    assumption
