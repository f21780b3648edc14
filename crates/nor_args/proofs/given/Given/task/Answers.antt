use Rattle.std.proofs.Common.{refl, rules}
use Rattle.nor_args.specs.Given.{texts_of}
use Rattle.nor_args.proofs.Sound.{no_change-wanted, sound-none, stops-kept}
use Rattle.nor_args.proofs.given.Given.task.Goals as goal

pub plain_task-requires : goal.plain_task-requires
plain_task-requires c =
    let sound = sound-none (texts_of c.args.self.now) c.requires.2 in search (rules, no_change-wanted)

pub journal_use-requires : goal.journal_use-requires
journal_use-requires c = stops-kept (texts_of c.args.self.now) c.in-Some.wanted _
    (sound-none (texts_of c.args.self.now) c.requires.2) c.in-Some.ensures refl

pub regions-requires : goal.regions-requires
regions-requires c = (sound-none (texts_of c.args.self.now) c.requires.2).regions
