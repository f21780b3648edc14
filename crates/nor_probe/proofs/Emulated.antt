-- The emulated chips are known, even with another unique ID. Therefore chips exist that meet the premise "genuine".
use Rattle.std.proofs.Common.{◌≡◌, ◌∙◌, ◌⊎◌, ℕ, Bool, true, false, List, [], ◌∷◌, ap, cond, not, refl, sym, inl, inr, subst}
use Rattle.std.specs.Prelude.{Ok, None, Some, bytes_eq, slice_index_or}
use Rattle.std.proofs.lemmas.Slice.Eq.{bytes_eq-Decides}
use Rattle.nor_model.specs.declared.config.Config.{Config}
use Rattle.nor_model.specs.Makers.{all_kinds, IsTiny64, IsW25q64fv, IsW25q128fv}
use Rattle.nor_model.specs.Size.{is_chip_size}
use Rattle.nor_probe.specs.declared.sfdp.Geometry.{Geometry}
use Rattle.nor_probe.specs.Sfdp.{double_word, size_in_bits, is_chip_size_in_bits, has_signature, is_basic}
use Rattle.nor_probe.specs.Sfdp.{address_mode, has_write_granularity, has_erase_type}
use Rattle.nor_probe.specs.declared.table.Part.{Part}
use Rattle.nor_probe.specs.Table.{tiny64, part_with_id, part_for, IsEmulatedPart, IsMadeOf}
use Rattle.nor_driver.specs.Reads.{id_of, shown}
use Rattle.nor_probe.specs.Known.{is_no_chip, chip_says, shown_as, IsKnown, IsEmulated}
use Rattle.nor_probe.proofs.Configs.{row_has, applied_has}
use Rattle.nor_probe.proofs.Rows.{not_true}

abbrev tiny64_geometry : Geometry
tiny64_geometry = record { size = 65536; kinds = all_kinds }

tiny64_says : (config : Config) → IsMadeOf tiny64 config → chip_says config ≡ Ok tiny64_geometry
unfolding chip_says shown double_word size_in_bits is_chip_size_in_bits has_signature is_basic address_mode has_write_granularity has_erase_type
tiny64_says config tiny = rw (tiny.sfdp, tiny.size) refl

tiny64_shown : (config : Config) → IsMadeOf tiny64 config → shown_as false config ≡ Ok tiny64
tiny64_shown config tiny = rw (tiny64_says config tiny, tiny.id) refl

tiny64_known : (config : Config) → IsMadeOf tiny64 config → IsKnown false config
tiny64_known config tiny = record {
  genuine = record {
    listed = λ part listed. absurd (let other = rw tiny.id at listed in cc);
    unlisted = λ _. tiny.scheme;
    described = λ _ geometry is.
        let says = tiny64_says config tiny in
        let same : tiny64_geometry ≡ geometry = cc in
        rw (← same) (record { size = tiny.size; kinds = tiny.kinds });
  };
  shown = rw (tiny64_shown config tiny) refl;
}

listed_known : (further : Bool) (config : Config) (part : Part)
    → part_for further (id_of config) ≡ Some part → is_no_chip (id_of config) ≡ false
    → config.size ≡ part.size → config.kinds ≡ part.kinds → config.scheme ≡ part.scheme → IsKnown further config
listed_known further config part listed driven size kinds scheme = record {
  genuine = record {
    listed = λ other is.
        let row : part ≡ other = cc in
        rw (← row) (record { size = size; kinds = kinds }, scheme);
    unlisted = λ none. absurd (let both : None ≡ Some part = sym none ∙ listed in cc);
    described = λ none geometry is. absurd (let both : None ≡ Some part = sym none ∙ listed in cc);
  };
  shown = rw (driven, listed) refl;
}

abbrev read_as : List ℕ → List ℕ
read_as id = slice_index_or id 0 255 ∷ slice_index_or id 1 255 ∷ slice_index_or id 2 255 ∷ []

module _ (part : Part) (config : Config) (listed : part_with_id part.id ≡ Some part) (made : IsMadeOf part config) where
  read_id : id_of config ≡ part.id
  read_id =
      let whole = (bytes_eq-Decides part.id (read_as part.id)).0
      (row_has (λ p. bytes_eq p.id (read_as p.id)) part.id part refl listed) in
      ap read_as made.id ∙ sym whole

  row_found : part_with_id (id_of config) ≡ Some part
  row_found = subst (λ (id : List ℕ). part_with_id id ≡ Some part) (sym read_id) listed

  driven : is_no_chip (id_of config) ≡ false
  driven =
      ap is_no_chip read_id ∙ not_true _ (row_has (λ p. not (is_no_chip p.id)) part.id part refl listed)

  row_known : IsKnown false config
  row_known = listed_known false config part row_found driven made.size made.kinds made.scheme

  row_shown : shown_as false config ≡ Ok part
  row_shown = rw (driven, row_found) refl

sized_by : (part : Part) (tiny : Bool) → cond tiny (Some tiny64) (part_with_id part.id) ≡ Some part
    → is_chip_size part.size ≡ true
sized_by part true is = let same : tiny64 ≡ part = cc in rw (← same) refl
sized_by part false is = row_has (λ p. is_chip_size p.size) part.id part refl is

module _ (part : Part) (config : Config) where
  known_by : (tiny : Bool) → cond tiny (Some tiny64) (part_with_id part.id) ≡ Some part → IsMadeOf part config
      → IsKnown false config
  known_by true is made =
      let same : part ≡ tiny64 = cc in
      tiny64_known config (subst (λ (p : Part). IsMadeOf p config) same made)
  known_by false is made = row_known part config is made

  shown_by : (tiny : Bool) → cond tiny (Some tiny64) (part_with_id part.id) ≡ Some part → IsMadeOf part config
      → shown_as false config ≡ Ok part
  shown_by true is made =
      let same : part ≡ tiny64 = cc in
      tiny64_shown config (subst (λ (p : Part). IsMadeOf p config) same made) ∙ ap Ok (sym same)
  shown_by false is made = row_shown part config is made

pub emulated_sized : (part : Part) → IsEmulatedPart part → is_chip_size part.size ≡ true
emulated_sized part is = sized_by part (bytes_eq part.id tiny64.id) is

pub emulated_shown : (part : Part) (config : Config) → IsEmulatedPart part → IsMadeOf part config
    → shown_as false config ≡ Ok part
emulated_shown part config is made = shown_by part config (bytes_eq part.id tiny64.id) is made

pub emulated_known : (config : Config) → IsEmulated config → IsKnown false config
emulated_known config (part, is, made) = known_by part config (bytes_eq part.id tiny64.id) is made

pub makers_emulated : (config : Config) → IsTiny64 config ⊎ IsW25q64fv config ⊎ IsW25q128fv config → IsEmulated config
makers_emulated config (inl tiny) = (tiny64, refl, tiny)
makers_emulated config (inr (inl small)) = (_, refl, small)
makers_emulated config (inr (inr large)) = (_, refl, large)

pub further_known : (part : Part) (config : Config) → part_for true part.id ≡ Some part → IsMadeOf part config
    → IsKnown true config
further_known part config listed made =
    let whole = (bytes_eq-Decides part.id (read_as part.id)).0
    (applied_has (λ p. bytes_eq p.id (read_as p.id)) part.id part refl refl true listed).1 in
    let read : id_of config ≡ part.id = ap read_as made.id ∙ sym whole in
    let found = subst (λ (id : List ℕ). part_for true id ≡ Some part) (sym read) listed in
    let driven = ap is_no_chip read ∙ not_true _ (applied_has (λ p. not (is_no_chip p.id)) part.id part refl refl true listed).1 in
    listed_known true config part found driven made.size made.kinds made.scheme

pub renumbered_known : (further : Bool) (config : Config) (unique : List ℕ) → IsKnown further config
    → IsKnown further (record config { unique = unique })
unfolding chip_says shown
renumbered_known further config unique is = record {
  genuine = record {
    listed = λ part row. let has = is.genuine.listed part row in
        (record { size = has.0.size; kinds = has.0.kinds }, has.1);
    unlisted = is.genuine.unlisted;
    described = λ none geometry says.
        let has = is.genuine.described none geometry says in
        record { size = has.size; kinds = has.kinds };
  };
  shown = is.shown;
}

pub renumbered_shown : (further : Bool) (config : Config) (unique : List ℕ)
    → shown_as further (record config { unique = unique }) ≡ shown_as further config
unfolding chip_says shown
renumbered_shown further config unique = refl
