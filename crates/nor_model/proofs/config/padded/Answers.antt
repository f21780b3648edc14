use Rattle.std.proofs.Common.{◌∙◌, ◌++◌, ap, drop, length}
use Rattle.std.specs.Prelude.{replicate}
use Rattle.std.proofs.lemmas.List.{drop-replicate}
use Rattle.nor_model.proofs.config.padded.Goals as goal

pub returns : goal.returns
returns c =
    ap (λ front. front ++ drop (length c.args.sfdp.now) (replicate 256 255)) c.copy_from_slice.ensures.after
    ∙ ap (λ back. c.args.sfdp.now ++ back) (drop-replicate (length c.args.sfdp.now) 256 255)
