use Rattle.std.proofs.Common.{◌∙◌, ap, rules, sym}
use Rattle.nor_files.proofs.Places.{found_at, not_found}
use Rattle.nor_files.proofs.memory.Memory.bytes_of.Goals as goal

pub returns-in-Some : goal.returns-in-Some
returns-in-Some c =
    c.bytes.ensures ∙ sym (ap (λ file. file.seen)
    (found_at c.args.name.now c.args.self.now.files.items c.in-Some.at c.index.result.now (search rules) c.index.ensures))

pub returns-in-None : goal.returns-in-None
returns-in-None c = sym (ap (λ file. file.seen) (not_found c.args.name.now c.args.self.now.files.items (search rules)))
