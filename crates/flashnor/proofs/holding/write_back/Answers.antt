use Rattle.std.proofs.Common.{◌∙◌, refl}
use Rattle.flashnor.proofs.WrittenBack.{both_amid, both_looked, reported_looked}
use Rattle.flashnor.proofs.holding.write_back.Goals as goal

pub returns-clause-put : goal.returns-clause-put
returns-clause-put g c = λ two bytes bits ready.
    both_looked c.bytes.ensures c.status.ensures two ready c.write_if_named-image.ensures c.write_if_named-status.ensures
    c.last_look-image.ensures c.last_look-status.ensures

pub returns-clause-amid : goal.returns-clause-amid
returns-clause-amid g c = λ two bytes bits ready.
    both_amid c.bytes.ensures c.status.ensures two ready c.write_if_named-image.ensures c.write_if_named-status.ensures

pub returns-clause-fails : goal.returns-clause-fails
returns-clause-fails g c =
    let first = c.write_if_named-image.ensures in
    let second = c.write_if_named-status.ensures in
    let same = second.nature ∙ first.nature in (
      reported_looked _ _ _ _ (g.R.Store.state c.args.rt.now).view _ refl same first.fails c.last_look-image.ensures,
      reported_looked _ _ _ _ (g.R.Store.state c.write_if_named-image.new.rt).view _ first.nature same second.fails
          c.last_look-status.ensures,
    )
