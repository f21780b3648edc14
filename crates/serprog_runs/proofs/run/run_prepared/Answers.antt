use Rattle.std.proofs.Common.{◌≡◌, ◌∙◌, ℕ, Bool, List, ap, refl, sym}
use Rattle.std.specs.Prelude.{Option, None, Some, is_some}
use Rattle.std.proofs.lemmas.Bool.{false≢true}
use Rattle.nor_model.specs.Bus.{BusState}
use Rattle.nor_layout.specs.declared.ranges.Span.{Span}
use Rattle.nor_files.specs.Files.{FilesState, View}
use Rattle.nor_args.specs.declared.job.Operation.{Operation}
use Rattle.board_files.specs.declared.region_files.RegionFile.{RegionFile}
use Rattle.serprog_runs.specs.Run.{HasRun, HasRunBy}
use Rattle.serprog_runs.proofs.run.run_prepared.Goals as goal

other_job : {operation : Operation} {files : List RegionFile} {ranges : Option (List Span)} {bytes : List ℕ}
    {before : View} {after : FilesState} {old new : BusState} {out out' : Option (List ℕ)} {status : ℕ}
    (srp0 : Option Bool) → srp0 ≡ None → HasRun operation files ranges bytes before after old new out out' status
    → HasRunBy srp0 operation files ranges bytes before after old new out out' status
other_job srp0 none run = rw none run

pub returns-in-Some-clause-ran : goal.returns-in-Some-clause-ran
returns-in-Some-clause-ran g c = rw c.in-Some.is (c.run_lock.ensures, refl)

pub returns-in-None-clause-ran : goal.returns-in-None-clause-ran
returns-in-None-clause-ran g c = other_job c.args.operation.now.srp0 c.in-None.is c.run_job.ensures.ran

some_none : (srp0 : Option Bool) (set : Bool) → srp0 ≡ Some set → srp0 ≡ None → ⊥
some_none srp0 set some none = false≢true (ap is_some (sym none ∙ some))

pub returns-in-Some-clause-sealed : goal.returns-in-Some-clause-sealed
returns-in-Some-clause-sealed g c = λ lawful none. absurd (some_none _ _ c.in-Some.is none)

pub returns-in-None-clause-sealed : goal.returns-in-None-clause-sealed
returns-in-None-clause-sealed g c = λ lawful none. c.run_job.ensures.sealed lawful
