use Rattle.std.proofs.Common.{◌≡◌, ◌∙◌, ◌==◌, ℕ, Bool, true, false, List, refl, inl}
use Rattle.std.specs.Prelude.{Option, None, Some, bytes_eq}
use Rattle.std.specs.List.{list_all}
use Rattle.std.proofs.lemmas.Bool.{eqb-true}
use Rattle.std.proofs.lemmas.Slice.Eq.{bytes_eq-Decides}
use Rattle.nor_model.specs.Size.{is_chip_size}
use Rattle.nor_probe.specs.declared.table.Part.{Part}
use Rattle.nor_probe.specs.Table.{part_for}
use Rattle.nor_probe.specs.Known.{is_no_chip}
use Rattle.nor_probe.specs.Steps.{IsIdentified, reads_under}
use Rattle.nor_probe.proofs.Configs.{applied_has}

pub row_identified : (further : Bool) (of_id : List ℕ) (part : Part) → is_no_chip of_id ≡ false
    → part_for further of_id ≡ Some part → IsIdentified further of_id part
row_identified further of_id part driven is =
    let sized = applied_has (λ p. is_chip_size p.size) of_id part refl refl further is in
    let one = applied_has (λ p. reads_under p.name == 1) of_id part refl refl further is in
    record {
      driven = driven;
      same_id = (bytes_eq-Decides part.id of_id).0 sized.0;
      origin = inl is;
      sized = sized.1;
      reads = rw (driven, is) (eqb-true (reads_under part.name) 1 one.1);
    }
