use Rattle.std.proofs.Common.{refl, arith, ℕ, ◌*◌, ◌/◌, ◌∙◌, ap, drop}
use Rattle.std.proofs.lemmas.List.{drop-drop}
use Rattle.nor_journal.specs.Text.{next_number}
use Rattle.nor_journal.specs.Reading.{BeginsRecord, saved_records}
use Rattle.nor_journal.proofs.SectorRecords.{has_one_more, next_number-more}
use Rattle.nor_journal.proofs.records.count_records.Goals as goal

pub loop-number-init : goal.loop-number-init
unfolding next_number saved_records
loop-number-init c =
    record { records = record { within = omega arith; rising = tt }; rest = refl; least = refl; sectors = refl }

pub loop-number-preserved : goal.loop-number-preserved
loop-number-preserved c =
    let so_far = c.loop-number.invariant in
    let begins : BeginsRecord (c.args.head.now.size / 4096) c.loop-number.least c.loop-number.rest.now c.in-Some.number = rw c.in-Some.is at c.in_ok-number.ensures.found in
    record {
      records = has_one_more _ _ _ _ _ _ so_far.records so_far.rest so_far.least begins;
      rest = c.split_at.ensures.back ∙ ap (drop 4100) so_far.rest ∙ drop-drop 4100 (4100 * c.loop-number.count) c.args.bytes.now ∙ ap (λ (n : ℕ). drop n c.args.bytes.now) (omega arith);
      least = next_number-more _ _ _ _ (rw (← so_far.rest) begins.is);
      sectors = refl;
    }
