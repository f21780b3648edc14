use Rattle.std.proofs.Common.{◌≡◌, ◌≢◌, ◌∙◌, ◌+◌, ◌<◌, ℕ, suc, zero, Bool, true, false, cond, List, [], ◌∷◌, ◌++◌}
use Rattle.std.proofs.Common.{Option, None, Some, refl, sym, ap, arith, length, get_or, not, set, position}
use Rattle.std.specs.List.{position_or_len}
use Rattle.std.specs.Cmp.Lexicographic.{same_text}
use Rattle.std.proofs.lemmas.Bool.{lt-ltb, cond_both, false_from_ne_true, false≢true}
use Rattle.std.proofs.lemmas.Bool.Decides.{nat_tests}
use Rattle.std.proofs.lemmas.Cmp.{nat_list_eq_equiv}
use Rattle.std.proofs.lemmas.List.{get_or-set_same, get_or_append_left, length-append, length-set}
use Rattle.std.proofs.lemmas.List.Folds.{position_or_len-set}
use Rattle.std.proofs.lemmas.List.Quantifiers.{position-Some}
use Rattle.std.proofs.lemmas.List.Recursion as recursion
use Rattle.std.proofs.lemmas.List.Sums.{fails_before_first, position_or_len_is}
use Rattle.std.proofs.Math.Seq.{get_or-append_seam}
use Rattle.nor_files.specs.Files.{AreApart, Name}
use Rattle.nor_files.specs.Memory.{memory_nature}
use Rattle.nor_files.specs.Named.{file_named, are_same_names, is_borrowed_there, is_named, is_there}
use Rattle.nor_files.specs.Stored.{file_in, missing}
use Rattle.nor_files.specs.declared.stored.Stored.{Stored}

past : (is : Stored → Bool) (files : List Stored) (k : ℕ) → position is files ≡ None → k < length files
    → k < position_or_len is files
past is files k none within = grind (arith, nat_tests)

module _ {Y : Type 0} (name : Name) (look : List Stored → Y) (of : Stored → Y) (miss : Y) (none : look [] ≡ miss)
    (step : (stored : Stored) (files : List Stored)
    → look (stored ∷ files) ≡ cond (is_named name stored) (of stored) (look files)) where
  looked_up : (files : List Stored) (at : ℕ) (stored : Stored) → position (is_named name) files ≡ Some at
      → stored ≡ get_or files at stored → look files ≡ of stored
  looked_up files at stored is place =
      let first = position-Some (is_named name) files at stored is in
      recursion.found_at look (is_named name) of miss none step files at stored first.0 first.2 first.1
      ∙ sym (ap of place)

  missed : (files : List Stored) → position (is_named name) files ≡ None → look files ≡ miss
  missed [] is = none
  missed (first ∷ files) is =
      recursion.found_nowhere look (is_named name) of miss none step (first ∷ files) first (λ k within.
      fails_before_first (is_named name) (first ∷ files) k first (past (is_named name) (first ∷ files) k is within))

pub found_at : (name : Name) (files : List Stored) (at : ℕ) (stored : Stored)
    → position (is_named name) files ≡ Some at → stored ≡ get_or files at stored
    → file_named files name ≡ file_in stored
found_at name = looked_up name (λ files. file_named files name) file_in missing refl (λ _ _. refl)

pub not_found : (name : Name) (files : List Stored) → position (is_named name) files ≡ None → file_named files name ≡ missing
not_found name = missed name (λ files. file_named files name) file_in missing refl (λ _ _. refl)

pub not_there : (name : Name) (files : List Stored) → position (is_named name) files ≡ None → is_there files name ≡ false
not_there name = missed name (λ files. is_there files name) (λ _. true) false refl (λ _ _. refl)

pub place_kept : (name : Name) (files : List Stored) (stored : Stored)
    → position (is_named name) files ≡ None → stored.name.items ≡ name
    → position (is_named name) (files ++ stored ∷ []) ≡ Some (length files)
place_kept name files stored none is =
    let named : is_named name stored ≡ true = rw is (nat_list_eq_equiv.refl name) in
    let whole : length (files ++ stored ∷ []) ≡ length files + 1 = length-append files (stored ∷ []) in
    let first : position_or_len (is_named name) (files ++ stored ∷ []) ≡ length files =
    position_or_len_is (is_named name) (files ++ stored ∷ []) (length files) stored (omega (arith, whole))
    (λ k below. rw (get_or_append_left files (stored ∷ []) stored k below)
    (fails_before_first (is_named name) files k stored (past (is_named name) files k none below)))
    (λ within. rw (get_or-append_seam files stored [] stored) named) in
    rw (first, lt-ltb (length files) (length (files ++ stored ∷ [])) (omega (arith, whole))) refl

pub same_with_place : (files : List Stored) (stored : Stored) (any : Name) → file_in stored ≡ missing
    → file_named (files ++ stored ∷ []) any ≡ file_named files any
same_with_place [] stored any is = cond_both (is_named any stored) _ _ (λ file. file ≡ missing) (λ _. is) (λ _. refl)
same_with_place (first ∷ files) stored any is =
    ap (cond (is_named any first) (file_in first)) (same_with_place files stored any is)

there_with_place : (files : List Stored) (stored : Stored) (name : Name)
    → is_there files name ≡ true → is_there (files ++ stored ∷ []) name ≡ true
there_with_place [] stored name there = absurd cc
there_with_place (first ∷ files) stored name there = grind (arith, there_with_place files stored name)

pub lent_with_place : (files : List Stored) (stored : Stored) (borrowed : Option Name)
    → is_borrowed_there files borrowed ≡ true → is_borrowed_there (files ++ stored ∷ []) borrowed ≡ true
lent_with_place files stored None there = refl
lent_with_place files stored (Some name) there = there_with_place files stored name there

set_there : (any : Name) (files : List Stored) (at : ℕ) (now d : Stored)
    → is_named any now ≡ is_named any (get_or files at d) → is_there (set files at now) any ≡ is_there files any
set_there any [] at now d same = refl
set_there any (first ∷ files) zero now d same = ap (λ named. cond named true (is_there files any)) same
set_there any (first ∷ files) (suc at) now d same =
    ap (cond (is_named any first) true) (set_there any files at now d same)

-- Holds if only the named file may differ: it is `was` in the list `old`, and `now` in the list `new`.
pub record IsUpdated (name : Name) (old new : List Stored) (was now : Stored) : Type 0 where
  pub before : file_named old name ≡ file_in was
  pub after : file_named new name ≡ file_in now
  pub others : (other : Name) → AreApart memory_nature name other → file_named new other ≡ file_named old other
  pub there : is_there new name ≡ true

apart_differ : (name other : Name) → AreApart memory_nature name other → other ≢ name
apart_differ name other apart same =
    let is : are_same_names name other ≡ true = rw same (nat_list_eq_equiv.refl name) in
    false≢true (sym (ap not is) ∙ apart.0)

other_named : (name other : Name) (stored : Stored) → is_named name stored ≡ true → other ≢ name
    → is_named other stored ≡ false
other_named name other stored is ne = false_from_ne_true _
    (λ too. ne (sym (same_text stored.name.items other (sym too)) ∙ same_text stored.name.items name (sym is)))

module _ (files : List Stored) (at : ℕ) (was now : Stored) (place : was ≡ get_or files at was)
    (same : now.name ≡ was.name) where
  still_named : (any : Name) → is_named any now ≡ is_named any (get_or files at was)
  still_named any = ap (λ its. are_same_names its.items any) (same ∙ ap (λ stored. stored.name) place)

  still_at : (any : Name) (first : ℕ) → position (is_named any) files ≡ Some first
      → position (is_named any) (set files at now) ≡ Some first
  still_at any first is =
      rw (position_or_len-set (is_named any) files at now was (still_named any), length-set files at now) is

  pub updated : (name : Name) → position (is_named name) files ≡ Some at
      → IsUpdated name files (set files at now) was now
  updated name is =
      let first = position-Some (is_named name) files at was is in
      record {
        before = found_at name files at was is place;
        after = found_at name (set files at now) at now (still_at name at is)
            (sym (get_or-set_same files at now now first.0));
        others = λ other apart.
            let ne = apart_differ name other apart in
            recursion.found_set_other (λ all. file_named all other) (is_named other) file_in missing refl (λ _ _. refl) files
            at now was (other_named name other (get_or files at was) first.1 ne)
            (other_named name other now (still_named name ∙ first.1) ne);
        there = looked_up name (λ all. is_there all name) (λ _. true) false refl (λ _ _. refl) (set files at now) at now
            (still_at name at is) (sym (get_or-set_same files at now now first.0));
      }

  pub lent_updated : (borrowed : Option Name) → is_borrowed_there files borrowed ≡ true
      → is_borrowed_there (set files at now) borrowed ≡ true
  lent_updated None there = refl
  lent_updated (Some name) there = set_there name files at now was (still_named name) ∙ there

pub updated_since : {name : Name} {old kept new : List Stored} {was now : Stored}
    → ((any : Name) → file_named kept any ≡ file_named old any) → IsUpdated name kept new was now
    → IsUpdated name old new was now
updated_since {name} same is = record {
  before = sym (same name) ∙ is.before;
  after = is.after;
  others = λ other apart. is.others other apart ∙ same other;
  there = is.there;
}
