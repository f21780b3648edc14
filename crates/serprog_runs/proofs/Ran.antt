-- Lemmas on a run that performs the operation given by its arguments.
use Rattle.std.proofs.Common.{◌≡◌, ◌≤◌, ℕ, Bool, IfOk, IfSome, List, None, Ok, Option, Result, Some, arith, is_some, subst, sym, true}
use Rattle.std.specs.Prelude.{Err, IsSomeAnd}
use Rattle.std.proofs.lemmas.Bool.{false≢true}
use Rattle.std.specs.Borrow.{Bor}
use Rattle.std.specs.Global.{Global}
use Rattle.std.specs.declared.string.String.{String}
use Rattle.std.specs.declared.vec.IntoIter.{IntoIter}
use Rattle.nor_model.specs.Bus.{BusState}
use Rattle.nor_files.specs.Files.{FilesState, View}
use Rattle.nor_layout.specs.declared.ranges.Span.{Span}
use Rattle.nor_args.specs.Text.{Text}
use Rattle.nor_args.specs.Words.{arguments_of}
use Rattle.nor_args.specs.declared.job.Operation.{Operation}
use Rattle.serprog_runs.specs.Connected.{Seen, device_of}
use Rattle.serprog_runs.specs.Run.{HasRunBy, HasRunJob, HasRunOperation, HasSucceeded, IsAskedFor}
use Rattle.serprog_runs.specs.declared.connected.Connected.{Connected}
use Rattle.board_files.specs.declared.region_files.RegionFile.{RegionFile}

module _ {B : Type 0} (seen : Seen B) (files after : FilesState) (words : List Text) (name : Bor Text)
    (operation : Operation) (asked : IsAskedFor words name operation) (out out' : Option (List ℕ)) (status : ℕ) where
  pub job_ran : (used : Option (Connected B))
      → IfSome used (λ connected. HasRunOperation seen files after name operation (device_of connected)
      (seen.state connected) out out' status)
      → IfSome used (λ connected. HasRunJob seen files after words (device_of connected) (seen.state connected) out out'
      status)
  job_ran None ran = ran
  job_ran (Some connected) ran = record { name = name; operation = operation; asked = asked; run = ran }

pub is_used : {C : Type 0} (P : C → Type 0) (used : Option C) → is_some used ≡ true → IfSome used P
    → IsSomeAnd used P
is_used P None none holds = absurd (false≢true none)
is_used P (Some connected) some holds = holds

pub never_zero : {T E : Type 0} (P : T → Type 0) (given : Result T E) (status : ℕ) → status ≡ 1
    → IfOk given (λ value. status ≡ 0 → P value)
never_zero P (Ok value) status one = λ zero. absurd (omega (arith, one, zero))
never_zero P (Err error) status one = tt

pub unused : {C : Type 0} (P : C → Type 0) (used : Option C) → used ≡ None → IfSome used P
unused P used none = rw none tt

pub few_after : (operation : Operation) (files : List RegionFile) (ranges : Option (List Span)) (bytes : List ℕ)
    (before : View) (after : FilesState) (old new : BusState) (out out' : Option (List ℕ)) (status : ℕ)
    (srp0 : Option Bool) → HasRunBy srp0 operation files ranges bytes before after old new out out' status
    → status ≤ 1
few_after operation files ranges bytes before after old new out out' status None run = run.few
few_after operation files ranges bytes before after old new out out' status (Some srp0) run = run.0.few

-- If `given` is `Ok args` and `words` are the arguments in `args`, `HasSucceeded` for `words` also holds for `given`.
pub succeeded_given : {B E : Type 0} (seen : Seen B) (files after : FilesState) (words : List Text)
    (given : Result (IntoIter (String Global) Global) E) (args : IntoIter (String Global) Global)
    (used : Option (Connected B)) (out out' : Option (List ℕ)) (status : ℕ) → given ≡ Ok args → words ≡ arguments_of args
    → (status ≡ 0 → HasSucceeded seen files after words used out out')
    → IfOk given (λ args. status ≡ 0 → HasSucceeded seen files after (arguments_of args) used out out')
succeeded_given {E = E} seen files after words given args used out out' status is same succeeded =
    subst (λ (given : Result (IntoIter (String Global) Global) E). IfOk given (λ args. status ≡ 0
    → HasSucceeded seen files after (arguments_of args) used out out')) (sym is)
    (λ zero. subst (λ (words : List Text). HasSucceeded seen files after words used out out') same (succeeded zero))

pub ran_given : {B E : Type 0} (seen : Seen B) (files after : FilesState) (words : List Text)
    (given : Result (IntoIter (String Global) Global) E) (args : IntoIter (String Global) Global)
    (used : Option (Connected B)) (out out' : Option (List ℕ)) (status : ℕ) → given ≡ Ok args → words ≡ arguments_of args
    → IfSome used (λ connected. HasRunJob seen files after words (device_of connected) (seen.state connected) out out' status)
    → IfOk given (λ args. IfSome used (λ connected. HasRunJob seen files after (arguments_of args)
    (device_of connected) (seen.state connected) out out' status))
ran_given {E = E} seen files after words given args used out out' status is same ran =
    subst (λ (given : Result (IntoIter (String Global) Global) E). IfOk given (λ args. IfSome used
    (λ connected. HasRunJob seen files after (arguments_of args) (device_of connected) (seen.state connected) out out'
    status))) (sym is)
    (subst (λ (words : List Text). IfSome used (λ connected. HasRunJob seen files after words (device_of connected)
    (seen.state connected) out out' status)) same ran)
