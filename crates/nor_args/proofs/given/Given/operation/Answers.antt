use Rattle.std.proofs.Common.{◌≡◌, None, refl, subst}
use Rattle.nor_args.specs.Faults.{first_fault, usage_faults}
use Rattle.nor_args.specs.Given.{Texts, texts_of}
use Rattle.nor_args.specs.Job.{IsAsked}
use Rattle.nor_args.specs.declared.job.Job.TheVariants as job
use Rattle.nor_args.proofs.Emulating.{given_text, operation-asked}
use Rattle.nor_args.proofs.given.Given.operation.Goals as goal

pub returns-in-Ok-Chip : goal.returns-in-Ok-Chip
returns-in-Ok-Chip c =
    let asked = rw c.in-Ok-Chip.field-0-is at c.in-Ok-Chip.ensures in
    operation-asked (texts_of c.args.self) c.in-Ok-Chip.field-0-0 c.args.named
    c.is_some.result c.srp0.result c.progress_mode.result c.args.self.log c.requires.2
    (given_text c.args.self.backup _ c.is_some.ensures) c.srp0.ensures c.progress_mode.ensures refl
    (subst (λ (t : Texts). (first_fault (usage_faults t) ≡ None) × IsAsked t (job.Chip c.in-Ok-Chip.field-0-0))
    c.emulated.ensures asked)
