use Rattle.std.proofs.Common.{◌≡◌, ◌∙◌, ap}
use Rattle.nor_layout.specs.Positions.{parts_in_sector, positions_left}
use Rattle.nor_layout.proofs.Parts.{parts_are_included}
use Rattle.nor_layout.proofs.ranges.Ranges.positions_in.Goals as goal

pub returns : goal.returns
returns c =
    let left : positions_left c.new.result ≡ parts_in_sector c.args.sector c.args.self.now = c.new.ensures ∙ ap (parts_in_sector c.args.sector) c.spans.ensures.same in
    rw left (parts_are_included c.args.sector c.args.self.now c.spans.ensures.ranges.apart)
