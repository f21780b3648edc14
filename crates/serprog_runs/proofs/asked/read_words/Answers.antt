use Rattle.std.proofs.Common.{map, string_bytes}
use Rattle.std.proofs.lemmas.Result.{err_from_is_err_and}
use Rattle.nor_args.specs.Given.{hardware_given_by}
use Rattle.serprog_runs.specs.Run.{program}
use Rattle.serprog_runs.proofs.Helped.{options-ask, words-ask}
use Rattle.serprog_runs.proofs.asked.read_words.Goals as goal

pub returns-in_err-operation_of-clause-help : goal.returns-in_err-operation_of-clause-help
returns-in_err-operation_of-clause-help c =
    let p = err_from_is_err_and c.from_residual.result c.from_residual.ensures.1 in
    rw (p.1, p.2) (words-ask _ _ c.in_err-operation_of.ensures)

pub returns-in_err-operation-in-Chip-clause-help : goal.returns-in_err-operation-in-Chip-clause-help
returns-in_err-operation-in-Chip-clause-help c =
    let p = err_from_is_err_and c.from_residual-in_err-operation-in-Chip.result
    c.from_residual-in_err-operation-in-Chip.ensures.1 in
    let job = rw c.in-Chip.is at c.in_ok-operation_of.ensures in
    rw (p.1, p.2) (λ is. absurd (options-ask (hardware_given_by program (map string_bytes c.args.words.now)) _
    (rw c.in_err-operation-in-Chip.was at job.asked.operation) is))

pub returns-in-List-clause-ok : goal.returns-in-List-clause-ok
returns-in-List-clause-ok c = rw c.in-List.is at c.in_ok-operation_of.ensures

pub returns-in-CheckJournal-clause-ok : goal.returns-in-CheckJournal-clause-ok
returns-in-CheckJournal-clause-ok c = rw c.in-CheckJournal.is at c.in_ok-operation_of.ensures

pub returns-in_ok-operation-in-Chip-clause-ok : goal.returns-in_ok-operation-in-Chip-clause-ok
returns-in_ok-operation-in-Chip-clause-ok c = let job = rw c.in-Chip.is at c.in_ok-operation_of.ensures in record {
  programmer = c.in-Chip.job.programmer;
  asked = record {
    taken = job.taken;
    asked = record {
      on_a_chip = job.asked.on_a_chip;
      programmer = job.asked.programmer;
      operation = rw c.in_ok-operation-in-Chip.was at job.asked.operation;
    };
  };
  named = c.in_ok-setting-in-Chip.ensures.device;
}
