use Rattle.std.proofs.Common.{◌∙◌, ap, map, string_bytes}
use Rattle.std.proofs.lemmas.Iterator.{items_from_collect}
use Rattle.std.proofs.lemmas.Iterator.Adapters.{YieldsList-from_skip, YieldsList-from_vec}
use Rattle.std.proofs.lemmas.Result.{IfOk-weaker}
use Rattle.nor_jobs.proofs.arguments.arguments_after_name.Goals as goal

pub returns : goal.returns
returns c =
    let all = YieldsList-from_vec c.args.args.rest.items (ap (λ s. s.rest.items) c.skip.ensures.source)
    (ap (λ s. s.rest.len) c.skip.ensures.source ∙ c.args.args.rest.ok.0) in
    IfOk-weaker c.collect.result _ _ (λ words is. ap (map string_bytes) is)
    (items_from_collect c.collect.result c.collect.ensures.ran (YieldsList-from_skip 1 all c.skip.ensures.count))
