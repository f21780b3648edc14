-- Each fault that occurs when files and streams are compared is a fault that `FailsFileRoles` allows.
use Rattle.std.proofs.Common.{◌≡◌, IfErr, IfSome, Option, None, Some, Result, true, arith, inl, inr, refl}
use Rattle.std.specs.Prelude.{IsSomeAnd}
use Rattle.std.specs.Borrow.{Bor}
use Rattle.nor_args.specs.Text.{Text}
use Rattle.nor_files.specs.Files.{Nature}
use Rattle.nor_files.specs.Files.Failure.{Printed}
use Rattle.nor_console.specs.Roles.{FailsApart, IsUnseenFile, IsUnseenStream}
use Rattle.nor_args.specs.declared.job.ChipJob.{ChipJob}
use Rattle.flashnor.specs.Roles.{FailsFileRoles, IsPrintedName, changes_files, file_with_role, must_differ}
use Rattle.nor_console.specs.declared.messages.Fault.{Fault}
use Rattle.nor_console.specs.declared.roles.Role.{Role}

pub pair_fails : {T : Type 0} (nature : Nature) (job : ChipJob) (earlier later : Role) (result : Result T Fault)
    → must_differ job earlier later ≡ true
    → IfErr result (FailsApart nature (file_with_role job earlier) (file_with_role job later))
    → IfErr result (FailsFileRoles nature job)
pair_fails nature job earlier later result differ fails = grind arith

module _ (nature : Nature) (job : ChipJob) (fault : Fault) where
  pub unseen_fails : (role : Role) → IsUnseenFile nature (file_with_role job role) fault
      → FailsFileRoles nature job fault
  unseen_fails role unseen = inr (inr (inl (role, unseen)))

  pub stream_fails : changes_files job ≡ true → IsUnseenStream nature fault → FailsFileRoles nature job fault
  stream_fails changes unseen = inr (inr (inr (changes, unseen)))

pub printed_name : (nature : Nature) (job : ChipJob) (role : Role) (found : Option (Bor Text))
    → found ≡ file_with_role job role → IsSomeAnd found (λ given. nature.fails (Printed given.now) ≡ true)
    → IfSome found (λ name. IsPrintedName nature job name.now)
printed_name nature job role None is printed = tt
printed_name nature job role (Some of) is printed = (role, rw (← is) (refl, printed))
