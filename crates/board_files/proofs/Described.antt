use Rattle.std.proofs.Common.{◌≡◌, ◌+◌, ◌<◌, ◌∙◌, ℕ, List, Some, ap, false, length, sym, take, true}
use Rattle.std.specs.Prelude.{slice_get}
use Rattle.std.specs.List.{count_by}
use Rattle.std.proofs.lemmas.List.Sums.{count_by_more_no, count_by_more_yes}
use Rattle.std.proofs.lemmas.Option.{get_or_from_slice_get}
use Rattle.nor_journal.specs.Text.{SavedSector}
use Rattle.board_files.specs.Journals.{is_blank}

module _ (saved : List SavedSector) (i n : ℕ) (sector : SavedSector) (inside : i < length saved)
    (at : slice_get saved i ≡ Some sector) (counted : n ≡ count_by is_blank (take i saved)) where
  pub one_more : is_blank sector ≡ true → n + 1 ≡ count_by is_blank (take (i + 1) saved)
  one_more blank = ap (λ m. m + 1) counted ∙ sym (count_by_more_yes is_blank saved i sector inside
      (ap is_blank (get_or_from_slice_get saved i sector sector at) ∙ blank))

  pub no_more : is_blank sector ≡ false → n ≡ count_by is_blank (take (i + 1) saved)
  no_more blank = counted ∙ sym (count_by_more_no is_blank saved i sector inside
      (ap is_blank (get_or_from_slice_get saved i sector sector at) ∙ blank))
