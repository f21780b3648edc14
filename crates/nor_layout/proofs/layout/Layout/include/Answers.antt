use Rattle.std.proofs.Common.{◌≡◌, ◌∙◌}
use Rattle.nor_layout.specs.Included.{names_of}
use Rattle.nor_layout.proofs.Unions.{by_name}
use Rattle.nor_layout.proofs.layout.Layout.include.Goals as goal

pub returns-clause-union : goal.returns-clause-union
returns-clause-union c = λ address.
    let regions : c.deref-2.result.now ≡ c.args.self.now = c.deref-2.ensures.value ∙ c.self.view_is in
    let names : c.as_bytes-names.result.now ≡ c.args.names.now = c.as_bytes-names.ensures.value in
    rw (← regions, ← names) (c.listed_ranges.ensures.union address
    ∙ by_name (names_of c.as_bytes-names.result.now) c.deref-2.result.now address)
