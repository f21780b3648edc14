use Rattle.std.proofs.Common.{arith}
use Rattle.nor_geometry.proofs.Sizes.{is_chip_size-in_blocks}
use Rattle.board_files.proofs.images.sectors_of.Goals as goal

pub returns-clause-few : goal.returns-clause-few
returns-clause-few c =
    let blocks = is_chip_size-in_blocks c.args.journal.now.size c.size.ensures.sound.size in omega (arith, blocks)
