-- Lemmas: what a job with a trace reads, creates and returns, stated for the files before the trace was created.
use Rattle.std.proofs.Common.{◌≡◌, ◌∙◌, ℕ, Option, None, Some, IsSomeAnd, ap, arith, inl, inr, subst, sym, true}
use Rattle.std.specs.Borrow.{Bor}
use Rattle.nor_files.specs.Calls.{LeavesOrEmpty, ReadsFile}
use Rattle.nor_files.specs.Files.{AreUntouched, FilesState, Found, IsKnownFile, KnownStay, Name, Nature, KeepsFile}
use Rattle.nor_files.specs.Files.{View, is_lawful}
use Rattle.nor_args.specs.Text.{Text}
use Rattle.nor_args.specs.declared.job.ChipJob.{ChipJob}
use Rattle.nor_console.specs.Files.{IsMaking}
use Rattle.flashnor.specs.Run.{FailsTraced, IsViewBut}
use Rattle.nor_console.specs.declared.messages.Fault.{Fault}
use Rattle.nor_console.specs.Stored.{AreTwo, IsMissing, IsNot, MakesNothing}
use Rattle.nor_console.proofs.Lent.{lawful_after, stays_on}
use Rattle.flashnor.proofs.Sources.{untouched_keeps}
use Rattle.flashnor.proofs.Stays.{not_that}

pub view_apart : (trace : Option (Bor Text)) (old mid : FilesState) → mid.view.nature ≡ old.view.nature
    → (is_lawful old.view ≡ true → (name : Name) → IsNot old.view.nature trace name → KeepsFile name old mid)
    → IsViewBut trace old.view mid.view
view_apart trace old mid nature others = grind arith

pub view_before : (trace : Option (Bor Text)) (old mid : FilesState) (amid : View) → mid.view.nature ≡ old.view.nature
    → KnownStay old mid → IsViewBut trace mid.view amid → IsViewBut trace old.view amid
view_before trace old mid amid nature stay but = grind arith

pub reads_before : (trace : Option (Bor Text)) (file : Text) (most : ℕ) (found : Found) (old amid : View)
    → IsNot old.nature trace file
    → IsViewBut trace old amid → ReadsFile file most found amid → ReadsFile file most found old
reads_before trace file most found old amid not but reads = grind arith

pub missing_before : (trace : Option (Bor Text)) (file : Bor Text) (old amid : View) → IsNot old.nature trace file.now
    → IsViewBut trace old amid → IsMissing (Some file) amid → IsMissing (Some file) old
missing_before trace file old amid not but gone = grind arith

makes_nothing_later : (file : Text) (old mid new : FilesState) → mid.view.nature ≡ old.view.nature
    → KeepsFile file old mid → (IsKnownFile file mid.view → LeavesOrEmpty file mid new) → IsKnownFile file old.view
    → LeavesOrEmpty file old new
makes_nothing_later file old mid new nature keeps made known = grind arith

pub unmade_traced : (trace journal : Option (Bor Text)) (old new : FilesState)
    → (is_lawful old.view ≡ true → (name : Name) → IsNot old.view.nature trace name → KeepsFile name old new)
    → AreTwo old.view.nature trace journal → MakesNothing journal old new
unmade_traced trace None old new others two = tt
unmade_traced trace (Some file) old new others two = λ known left can.
    inl ((others known.lawful file.now (not_that old.view.nature trace file two)).leaves left can)

module _ (trace : Option (Bor Text)) (old traced read : FilesState) (nature : traced.view.nature ≡ old.view.nature)
    (others : is_lawful old.view ≡ true → (name : Name) → IsNot old.view.nature trace name → KeepsFile name old traced)
    (same : AreUntouched traced read) where
  pub nature_read : read.view.nature ≡ old.view.nature
  nature_read = ap (λ (v : View). v.nature) same.view ∙ nature

  pub keeps_read : is_lawful old.view ≡ true → (name : Name) → IsNot old.view.nature trace name → KeepsFile name old read
  keeps_read is name not = stays_on (others is name not) (untouched_keeps name same)

  pub view_read : IsViewBut trace old.view read.view
  view_read = view_apart trace old read nature_read keeps_read

  pub makes_nothing_read : (journal : Option (Bor Text)) → AreTwo old.view.nature trace journal
      → MakesNothing journal old read
  makes_nothing_read journal two = unmade_traced trace journal old read keeps_read two

  module _ (new : FilesState) where
    pub makes_nothing_called : (journal : Option (Bor Text)) → AreTwo old.view.nature trace journal
        → MakesNothing journal read new → MakesNothing journal old new
    makes_nothing_called None two made = tt
    makes_nothing_called (Some file) two made = λ known. makes_nothing_later file.now old read new nature_read
        (keeps_read known.lawful file.now (not_that old.view.nature trace file two)) made known

    pub keeps_called : (made : Option (Bor Text))
        → (is_lawful read.view ≡ true → (name : Name) → IsNot read.view.nature made name → KeepsFile name read new)
        → is_lawful old.view ≡ true → (name : Name) → IsNot old.view.nature trace name
        → IsNot old.view.nature made name → KeepsFile name old new
    keeps_called made later is name traced other =
        stays_on (keeps_read is name traced)
        (later (lawful_after nature_read is) name (subst (λ (n : Nature). IsNot n made name) (sym nature_read) other))

trace_before : (trace : Option (Bor Text)) (fault : Fault) (old mid : View) → mid.nature ≡ old.nature
    → IsSomeAnd trace (λ name. IsMaking mid name.now fault) → IsSomeAnd trace (λ name. IsMaking old name.now fault)
trace_before trace fault old mid same fails = grind arith

pub fails_before : (job : ChipJob) (fault : Fault) (old mid : FilesState) → mid.view.nature ≡ old.view.nature
    → KnownStay old mid
    → FailsTraced mid.view job fault → FailsTraced old.view job fault
fails_before job fault old mid same stay fails = elim fails [
  | inl trace ↦ inl (trace_before job.programmer.trace fault old.view mid.view same trace)
  | inr (inl roles) ↦ inr (inl (rw (← same) roles))
  | inr (inr before) ↦
      inr (inr (before.0, view_before job.programmer.trace old mid before.0 same stay before.1, before.2))
]
