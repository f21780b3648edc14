use Rattle.std.proofs.Common.{◌≡◌, ◌+◌, ◌<◌, ◌≤◌, ◌∙◌, ◌&&◌, ℕ, Bool, true, false, List, [], ◌∷◌, None, Some, All}
use Rattle.std.proofs.Common.{ap, arith, get_or, inl, inr, length, nat_le, refl, subst, sym, take, if◌then◌else◌}
use Rattle.std.specs.Borrow.{Bor}
use Rattle.std.specs.Prelude.{Option, option_map}
use Rattle.std.specs.List.{Any}
use Rattle.std.proofs.lemmas.Bool.{and_parts}
use Rattle.std.proofs.lemmas.Bool.Decides.{nat_tests}
use Rattle.std.proofs.lemmas.List.{take_all}
use Rattle.std.proofs.lemmas.List.Elements.{All-more}
use Rattle.nor_layout.specs.declared.ranges.Span.{Span}
use Rattle.nor_args.specs.Text.{Text}
use Rattle.nor_files.specs.Files.{AreApart, FilesState, Found, KeepsFile, OthersStay, View, is_lawful}
use Rattle.nor_console.specs.Files.{IsMaking}
use Rattle.nor_console.specs.Roles.{FailsApart}
use Rattle.nor_console.specs.Stored.{IsRead}
use Rattle.nor_console.specs.declared.messages.Fault.{Fault}
use Rattle.nor_console.proofs.Lent.{lawful_after}
use Rattle.board_files.proofs.RegionApart.{any_at, pair_at}
use Rattle.board_files.specs.RegionCopies.{AreCopiedFrom, FailsToCopy, FailsToCopyRegion, FailsToWrite, IsCopied}
use Rattle.board_files.specs.RegionCopies.{part_at, part_if_inside}
use Rattle.board_files.specs.declared.region_files.RegionFile.{RegionFile}

some_if : {X : Type 0} (test : Bool) (x y : X) → Some x ≡ (if test then Some y else None) → (test ≡ true) × (x ≡ y)
some_if true x y is = (refl, cc)
some_if false x y is = cc

pub part_inside : (span : Span) (bytes part : List ℕ) → Some part ≡ part_if_inside span bytes
    → (span.last < length bytes) × (part ≡ part_at span bytes)
part_inside span bytes part is =
    let begins = nat_le span.first (span.last + 1) in
    let ends = nat_le (span.last + 1) (length bytes) in
    let both = some_if (begins && ends) part (part_at span bytes) is in
    let inside = (and_parts begins ends both.0).1 in
    (grind (arith, nat_tests, inside), both.1)

pub copied_kept : (bytes : List ℕ) (old new : FilesState) (name : Text) (files : List RegionFile)
    → new.view.nature ≡ old.view.nature → (is_lawful old.view ≡ true → OthersStay name old new)
    → All (λ other. AreApart old.view.nature name other.file.now) files
    → All (IsCopied bytes old.view) files → All (IsCopied bytes new.view) files
copied_kept bytes old new name files same others apart copied k d lt = record {
  inside = (copied k d lt).inside;
  same = λ is.
      let was = lawful_after (sym same) is in
      (others was (get_or files k d).file.now (apart k d lt)).seen ∙ (copied k d lt).same was;
}

pub copied_more : (bytes held part : List ℕ) (old new : FilesState) (files : List RegionFile) (i : ℕ) (d : RegionFile)
    → i < length files → held ≡ bytes → new.view.nature ≡ old.view.nature
    → (is_lawful old.view ≡ true → OthersStay (get_or files i d).file.now old new)
    → All (λ other. AreApart old.view.nature (get_or files i d).file.now other.file.now) (take i files)
    → Some part ≡ part_if_inside (get_or files i d).span held
    → (is_lawful new.view ≡ true → new.view.seen (get_or files i d).file.now ≡ Some part)
    → All (IsCopied bytes old.view) (take i files) → All (IsCopied bytes new.view) (take (i + 1) files)
copied_more bytes held part old new files i d lt whole same others apart inside written copied =
    let name = (get_or files i d).file.now in
    let here = part_inside (get_or files i d).span held part inside in
    let before = copied_kept bytes old new name (take i files) same others apart copied in
    let one : IsCopied bytes new.view (get_or files i d) = record {
      inside = subst (λ (all : List ℕ). (get_or files i d).span.last < length all) whole here.0;
      same = λ is. written is
          ∙ ap (λ (some : List ℕ). Some some) (here.1 ∙ ap (part_at (get_or files i d).span) whole);
    } in
    All-more (IsCopied bytes new.view) files i d lt before one

pub read_kept : (name : Text) (most : ℕ) (bytes : List ℕ) (old new : FilesState)
    → new.view.nature ≡ old.view.nature → (is_lawful old.view ≡ true → KeepsFile name old new)
    → IsRead old.view name most bytes → IsRead new.view name most bytes
read_kept name most bytes old new same keeps read known =
    let was = lawful_after (sym same) known.lawful in
    let kept = keeps was in
    read (record { lawful = was; in_store = sym kept.out ∙ known.in_store })
    ∙ ap (λ (found : Found). option_map (take most) found) (sym kept.seen)

pub all_copied : (out : Text) (files : List RegionFile) (bytes : List ℕ) (index : ℕ) (old new : FilesState)
    → length files ≤ index → new.view.nature ≡ old.view.nature → (is_lawful old.view ≡ true → KeepsFile out old new)
    → IsRead old.view out 16777217 bytes → All (IsCopied bytes new.view) (take index files)
    → AreCopiedFrom out files new.view
all_copied out [] bytes index old new long same keeps read copied = tt
all_copied out (x ∷ xs) bytes index old new long same keeps read copied = (
  bytes,
  read_kept out 16777217 bytes old new same keeps read,
  subst (All (IsCopied bytes new.view)) (take_all index (x ∷ xs) long) copied,
)

none_if : {X : Type 0} (test : Bool) (x : X) → None ≡ (if test then Some x else None) → test ≡ false
none_if true x is = cc
none_if false x is = refl

pub part_outside : (span : Span) (bytes : List ℕ) → None ≡ part_if_inside span bytes
    → span.first ≤ span.last + 1 → length bytes < span.last + 1
part_outside span bytes is forwards =
    let none = none_if (nat_le span.first (span.last + 1) && nat_le (span.last + 1) (length bytes))
    (part_at span bytes) is in
    grind (arith, nat_tests, none)

making_before : (name : Text) (fault : Fault) (old mid : View) → mid.nature ≡ old.nature
    → IsMaking mid name fault → IsMaking old name fault
making_before name fault old mid same fails = grind arith

pub write_fails : (name : Bor Text) (span : Span) (bytes held part : List ℕ) (fault : Fault) (old mid new : View)
    → mid.nature ≡ old.nature → held ≡ bytes → Some part ≡ part_if_inside span held
    → FailsToWrite name part mid new fault → FailsToWrite name (part_at span bytes) old new fault
write_fails name span bytes held part fault old mid new same whole inside fails =
    let is = (part_inside span held part inside).1 ∙ ap (part_at span) whole in
    subst (λ (some : List ℕ). FailsToWrite name some old new fault) is (earlier fails)
  where
    earlier : FailsToWrite name part mid new fault → FailsToWrite name part old new fault
    earlier (inl making) = inl (making_before name.now fault old mid same making)
    earlier (inr partly) = inr partly

module _ (out : Bor Text) (log : Option (Bor Text)) (files : List RegionFile) (bytes : List ℕ) (i : ℕ) (d : RegionFile)
    (before after : View) (fault : Fault) (within : i < length files)
    (read : IsRead before out.now 16777217 bytes) where
  pub region_fails : FailsToCopyRegion out log bytes (get_or files i d) before after fault
      → FailsToCopy out log files before after fault
  region_fails fails = inr (
    bytes,
    read,
    inl (any_at (λ region. FailsToCopyRegion out log bytes region before after fault) files i d within fails),
  )

  pub compare_fails : Any (λ other. FailsApart before.nature (Some other.file) (Some (get_or files i d).file) fault)
      (take i files)
      → FailsToCopy out log files before after fault
  compare_fails fails = inr (
    bytes,
    read,
    inr (pair_at (λ a b. FailsApart before.nature (Some a.file) (Some b.file) fault) files i d within fails),
  )
