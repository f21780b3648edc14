use Rattle.std.proofs.Common.{◌∙◌, sym, ap, arith, rules}
use Rattle.std.specs.Prelude.{Ok}
use Rattle.std.proofs.lemmas.Grind.{common_steps}
use Rattle.nor_driver.proofs.ReadsInTurn.{only_reads_within}
use Rattle.nor_driver.proofs.Readings.{rested_then}
use Rattle.nor_probe.specs.Known.{id_of}
use Rattle.nor_probe.proofs.Configs.{shown_config}
use Rattle.nor_probe.proofs.Errors.{blames_other, shows_same, probe_errors}
use Rattle.nor_probe.proofs.Replied.{found_by}
use Rattle.nor_probe.proofs.probes.probe_counted.Goals as goal

pub returns-in_err-id-clause-always : goal.returns-in_err-id-clause-always
returns-in_err-id-clause-always g c =
    let only_reads = only_reads_within 65540 (omega arith) c.wait.ensures.leaves c.read_id.ensures.leaves in
    grind (arith, common_steps)

pub returns-in_err-part-clause-always : goal.returns-in_err-part-clause-always
returns-in_err-part-clause-always g c =
    let polled = only_reads_within 65537 (omega arith) c.wait.ensures.leaves c.read_id.ensures.leaves in
    let only_reads = only_reads_within 65540 (omega arith) polled c.identify.ensures.leaves in
    grind (arith, common_steps)

pub returns-then-not-is_wanted-clause-always : goal.returns-then-not-is_wanted-clause-always
returns-then-not-is_wanted-clause-always g c =
    let polled = only_reads_within 65537 (omega arith) c.wait.ensures.leaves c.read_id.ensures.leaves in
    record {
      only_reads = only_reads_within 65540 (omega arith) polled c.identify.ensures.leaves;
      part = tt;
      wanted = tt;
      blames = blames_other c.args.named c.in_ok-part.part.name c.is_wanted.result c.is_wanted.ensures
          c.if-not-is_wanted.true;
      polled_ready = tt;
      replied = tt;
      last_transaction = tt;
    }

pub returns-clause-always : goal.returns-clause-always
returns-clause-always g c =
    let polled = only_reads_within 65537 (omega arith) c.wait.ensures.leaves c.read_id.ensures.leaves in record {
      only_reads = only_reads_within 65540 (omega arith) polled c.identify.ensures.leaves;
      part = grind (arith, common_steps);
      wanted = grind (arith, common_steps);
      blames = tt;
      polled_ready = grind (arith, common_steps);
      replied = found_by {polled = (g.B.Bus.state c.wait.new.bus).history} c.found.result (grind (arith, common_steps)) (grind (arith, common_steps))
          c.in_ok-part.ensures.replies (grind (arith, common_steps));
      last_transaction = tt;
    }

pub returns-in_err-part-clause-honest : goal.returns-in_err-part-clause-honest
returns-in_err-part-clause-honest g c honest =
    let waited = c.in_ok-waited.ensures.does.done honest in
    let still = c.wait.ensures.leaves.nature.honest ∙ honest in
    let read = c.in_ok-id.ensures.does.read still in
    let idle = read.busy ∙ waited.idle in
    let nature = c.wait.ensures.leaves.nature in
    let errors = probe_errors c.args.named _ _ (rested_then _ _ _ waited.rested read.rested)
    (c.read_id.ensures.leaves.nature.punctual ∙ nature.punctual)
    (c.read_id.ensures.leaves.nature.further ∙ nature.further)
    (λ punctual. omega (arith, waited.count punctual, waited.polls, read.count (nature.punctual ∙ punctual)))
    (omega (arith, waited.polls, c.in_ok-waited.ensures.does.few)) (g.B.Bus.state c.identify.new.bus)
    c.in_err-part.field-0.0 (search rules)
    (c.in_err-part.ensures.errors (c.has_further_types-further.ensures ∙ sym (c.read_id.ensures.leaves.nature.further ∙ nature.further))
    (c.read_id.ensures.leaves.nature.honest ∙ still) idle
    (c.in_ok-id.ensures.does.replied still waited.idle ∙ ap id_of (sym read.rested.unchanged.same.config))) in
    search rules

pub returns-clause-modelled : goal.returns-clause-modelled
returns-clause-modelled g c modelled =
    let honest = modelled.honest in
    let waited = c.in_ok-waited.ensures.does.done honest in
    let still = c.wait.ensures.leaves.nature.honest ∙ honest in
    let read = c.in_ok-id.ensures.does.read still in
    let kept = c.read_id.ensures.leaves.nature.further ∙ c.wait.ensures.leaves.nature.further in
    let shown = c.in_ok-part.ensures.shown (c.has_further_types-further.ensures ∙ sym kept)
    (c.read_id.ensures.leaves.nature.honest ∙ still) (read.busy ∙ waited.idle)
    (c.in_ok-id.ensures.does.replied still waited.idle ∙ ap id_of (sym read.rested.unchanged.same.config)) in
    let same = read.rested.unchanged.same.config ∙ waited.rested.unchanged.same.config in
    shown_config (g.B.Bus.state c.args.bus.now).further (g.B.Bus.state c.args.bus.now).chip.config c.found.result modelled.genuine
    (shows_same kept same ∙ shown.shows ∙ ap Ok (sym c.found.ensures.part))
