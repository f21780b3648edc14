-- The chip's two files after they were written, and the names of those that could not be written.
use Rattle.std.proofs.Common.{◌≡◌, ◌∙◌, ℕ, Bool, List, Option, None, Some, IfSome, arith, refl, sym, true}
use Rattle.std.specs.Borrow.{Bor}
use Rattle.nor_model.specs.Chip.{Chip, status_of}
use Rattle.nor_chip.specs.Start.{AreChipBytes}
use Rattle.nor_files.specs.Files.{FilesState, Name, KeepsFile, View, is_lawful}
use Rattle.nor_files.specs.Files.Failure.{Unwritten}
use Rattle.nor_args.specs.Text.{Text}
use Rattle.nor_args.specs.declared.programmer.Programmer.{Programmer}
use Rattle.flashnor.specs.Chips.{AreWrittenBack}
use Rattle.flashnor.specs.Holding.{AreAmid, AreReady, IsReadyIfNamed, LeavesAmid, MakesDurable}
use Rattle.nor_console.specs.Stored.{ArePut, AreTwo, Happens, IsNot, IsReportedOf}

abbrev OthersOf : Option (Bor Text) → (old new : FilesState) → Type 0
OthersOf name old new = is_lawful old.view ≡ true → (any : Name) → IsNot old.view.nature name any → KeepsFile any old new

abbrev PutsBack : Option (Bor Text) → (there : Bool) → (bytes : List ℕ) → (failed : Option (Bor Text))
    → (old new : FilesState) → Type 0
PutsBack name there bytes failed old new = record {
  nature : new.view.nature ≡ old.view.nature;
  others : OthersOf name old new;
  fails : IfSome failed (λ of. (name ≡ Some of) × Happens old.view (Unwritten of.now));
  put : failed ≡ None → (had : List ℕ) → IsReadyIfNamed name there had bytes old → MakesDurable name (Some bytes) new;
  amid : (had : List ℕ) → IsReadyIfNamed name there had bytes old → LeavesAmid name there had bytes new;
}

other_write_keeps : (there : Bool) (had bytes : List ℕ) (a b c : FilesState) (one other : Option (Bor Text))
    → AreTwo a.view.nature one other → b.view.nature ≡ a.view.nature → OthersOf other b c
    → IsReadyIfNamed one there had bytes a
    → (MakesDurable one (Some bytes) b → MakesDurable one (Some bytes) c)
    × (LeavesAmid one there had bytes b → LeavesAmid one there had bytes c)
other_write_keeps there had bytes a b c one other two same others ready = grind arith

pub reported : (name failed : Option (Bor Text)) (view : View)
    → IfSome failed (λ is. (name ≡ Some is) × Happens view (Unwritten is.now)) → IsReportedOf name failed view
reported name failed view is = grind arith

pub reported_before : (name failed : Option (Bor Text)) (old mid : View) → mid.nature ≡ old.nature
    → IsReportedOf name failed mid
    → IsReportedOf name failed old
reported_before name failed old mid same is = grind arith

abbrev Looks : (name failed found : Option (Bor Text)) → View → Type 0
Looks name failed found view = record {
  fails : IsReportedOf name failed view → IsReportedOf name found view;
  written : found ≡ None → failed ≡ None;
}

put_looked : (name : Option (Bor Text)) (bytes : List ℕ) (failed found : Option (Bor Text)) (files : FilesState)
    → Looks name failed found files.view → ArePut name bytes failed files → ArePut name bytes found files
put_looked name bytes None None files looks put = put
put_looked name bytes (Some failed) None files looks put = let never = looks.written refl in grind arith
put_looked name bytes None (Some found) files looks put = looks.fails tt
put_looked name bytes (Some failed) (Some found) files looks put = looks.fails put

pub reported_looked : (name failed found : Option (Bor Text)) (old mid new : View) → mid.nature ≡ old.nature
    → new.nature ≡ old.nature → IfSome failed (λ is. (name ≡ Some is) × Happens mid (Unwritten is.now))
    → Looks name failed found new → IsReportedOf name found old
reported_looked name failed found old mid new same same2 is looks =
    reported_before name found old new same2 (looks.fails
    (reported_before name failed new mid (same ∙ sym same2) (reported name failed mid is)))

module _ {programmer : Programmer} {image_there status_there : Bool} {had bits : List ℕ} {chip : Chip}
    {bytes flags : List ℕ} {image status : Option (Bor Text)} {a b c : FilesState} (are : AreChipBytes chip bytes)
    (is : flags ≡ status_of chip) (two : AreTwo a.view.nature programmer.image programmer.status)
    (ready : AreReady programmer image_there status_there had bits chip a)
    (first : PutsBack programmer.image image_there bytes image a b)
    (second : PutsBack programmer.status status_there flags status b c) where
  pub both_put : AreWrittenBack programmer chip image status c
  both_put = record {
    bytes = bytes;
    are = are;
    image_put = grind (arith, other_write_keeps, ready.image bytes are);
    status_put = grind (arith, other_write_keeps);
  }

  pub both_looked : {image' status' : Option (Bor Text)} → Looks programmer.image image image' c.view
      → Looks programmer.status status status' c.view → AreWrittenBack programmer chip image' status' c
  unfolding both_put
  both_looked looks looks2 = record {
    bytes = bytes;
    are = are;
    image_put = put_looked _ _ _ _ c looks both_put.image_put;
    status_put = put_looked _ _ _ _ c looks2 both_put.status_put;
  }

  pub both_amid : AreAmid programmer image_there status_there had bits chip c
  both_amid = record {
    put = bytes;
    are = are;
    image = grind (arith, other_write_keeps, ready.image bytes are);
    status = grind (arith, other_write_keeps);
  }
