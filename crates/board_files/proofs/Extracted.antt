use Rattle.std.proofs.Common.{◌≡◌, ap, subst, sym, true}
use Rattle.nor_files.specs.Files.{AreApart, AreUntouched, FilesState, KeepsFile, Name, OthersStay, View, is_lawful}
use Rattle.nor_console.proofs.Lent.{stays_on}

pub untouched_keeps : {old new : FilesState} (name : Name) → AreUntouched old new → KeepsFile name old new
untouched_keeps name same = record {
  out = ap (λ (view : View). view.out name) same.view;
  seen = ap (λ (view : View). view.seen name) same.view;
  leaves = same.leaves name;
}

pub others_same : (name : Name) (old new : FilesState) → AreUntouched old new → OthersStay name old new
others_same name old new same other apart = untouched_keeps other same

pub others_after : (name : Name) (old mid new : FilesState) → AreUntouched old mid
    → (is_lawful mid.view ≡ true → OthersStay name mid new) → is_lawful old.view ≡ true → OthersStay name old new
others_after name old mid new same stay lawful other apart = stays_on (untouched_keeps other same) (stay
    (subst (λ (view : View). is_lawful view ≡ true) (sym same.view) lawful) other
    (subst (λ (view : View). AreApart view.nature name other) (sym same.view) apart))
