use Rattle.std.proofs.Common.{◌∙◌, [], ap}
use Rattle.std.proofs.lemmas.List.Elements.{All-nil}
use Rattle.nor_serprog.specs.Harmless.{IsHarmless, IsHarmlessSince}
use Rattle.serprog_board.proofs.Results.{none_ok}
use Rattle.serprog_board.proofs.Reached.{chip_reached, settled_for}
use Rattle.serprog_board.proofs.connect.connect_over.Goals as goal

pub returns-in_err-programmer-clause-fresh : goal.returns-in_err-programmer-clause-fresh
returns-in_err-programmer-clause-fresh g c = none_ok _ _ c.from_residual.result c.from_residual.ensures.1

pub returns-in_err-programmer-clause-reaches : goal.returns-in_err-programmer-clause-reaches
returns-in_err-programmer-clause-reaches g c awaits = none_ok _ _ c.from_residual.result c.from_residual.ensures.1

pub board_over-requires : goal.board_over-requires
board_over-requires g c =
    let opened : IsHarmlessSince [] (g.P.Port.state c.new-link.result.port).asked = record {
      later = [];
      since = ap (λ port. (g.P.Port.state port).asked) c.new-link.ensures.port ∙ c.requires.unasked;
      harmless = All-nil IsHarmless;
    } in
    record {
      harmless = c.reach_chip.ensures.harmless [] opened;
      settled = settled_for g.P.Port.state c.args.port c.new-link.result c.reach_chip.new.link c.in_ok-programmer.programmer
          c.args.setting.now.hertz c.new-link.ensures.port c.requires.idle c.reach_chip.ensures.nature
          (λ awaits. (c.in_ok-programmer.ensures.looks awaits c.new-link.ensures.not_cut).done)
          (λ awaits. c.in_ok-programmer.ensures.reported awaits c.new-link.ensures.not_cut);
    }

pub returns-clause-reaches : goal.returns-clause-reaches
returns-clause-reaches g c awaits =
    chip_reached g.P.Port.state c.args.port c.new-link.result c.reach_chip.new.link c.in_ok-programmer.programmer
    c.args.setting.now.hertz _ c.new-link.ensures.port awaits
    (λ awaits. (c.in_ok-programmer.ensures.looks awaits c.new-link.ensures.not_cut).looks)
    (λ awaits. (c.in_ok-programmer.ensures.looks awaits c.new-link.ensures.not_cut).done)
    (λ awaits. c.in_ok-programmer.ensures.reported awaits c.new-link.ensures.not_cut)
    c.board_over.ensures.honest c.board_over.ensures.chip c.board_over.ensures.further
    c.board_over.ensures.steady
