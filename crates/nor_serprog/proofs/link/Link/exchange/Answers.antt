use Rattle.nor_serprog.proofs.Harmless.{harmless_exchange}
use Rattle.nor_serprog.proofs.link.Link.exchange.Goals as goal

pub returns-in-InStep-clause-harmless : goal.returns-in-InStep-clause-harmless
returns-in-InStep-clause-harmless g c nothing =
    harmless_exchange (λ link. (g.P.Port.state link.port).asked) c.args.self.now c.exchange_in_step.new.self
    c.args.command _ nothing c.exchange_in_step.ensures.fitted c.exchange_in_step.ensures.refused
    c.exchange_in_step.ensures.asked c.exchange_in_step.ensures.failed
