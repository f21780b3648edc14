use Rattle.std.proofs.Common.{◌≡◌, ◌∙◌, [], subst, sym, true}
use Rattle.nor_model.specs.Chip.{Chip}
use Rattle.nor_buses.specs.Adapted.{keeps_replies}
use Rattle.nor_serprog.proofs.Modifying.{harmless_modifies}
use Rattle.serprog_board.specs.BoardBus.{ids_with_row}
use Rattle.serprog_board.proofs.board_bus.board_over.Goals as goal

pub account_for-requires : goal.account_for-requires
account_for-requires g c =
    ∣ rw (
      c.for_makers.ensures.fresh.sent,
      c.for_makers.ensures.over.passed,
      c.reading-reader.ensures.over.passed,
      c.over_port-carrier.ensures.over.passed,
    )
    (harmless_modifies [] _ c.requires.harmless) ∣₁

pub returns-clause-honest : goal.returns-clause-honest
returns-clause-honest g c fits =
    rw c.account_for.ensures.layers
    (c.for_makers.ensures.honest (record {
      honest = rw (
        c.reading-reader.ensures.honest,
        c.over_port-carrier.ensures.over.honest,
        fits.honest,
        c.longest_part-longest_part.ensures.value,
        c.longest_read-longest_read.ensures.value,
      ) fits.whole;
      replies = subst (λ (chip : Chip). keeps_replies ids_with_row chip.config ≡ true)
          (sym (c.reading-reader.ensures.over.chip ∙ c.over_port-carrier.ensures.over.chip)) fits.replies;
    }))
