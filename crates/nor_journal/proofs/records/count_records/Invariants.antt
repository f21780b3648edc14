use Rattle.std.proofs.Common.{◌≡◌, ◌*◌, ◌/◌, length, drop}
use Rattle.nor_journal.specs.Text.{next_number}
use Rattle.nor_journal.specs.Reading.{HasRecords, content_at}
use Rattle.nor_journal.proofs.records.count_records.Given as goal

abbrev pub invariant-loop-number : goal.invariant-loop-number
invariant-loop-number l = record {
  records : HasRecords l.head l.bytes l.count;
  rest : l.rest ≡ drop (4100 * l.count) l.bytes;
  least : l.least ≡ next_number (content_at l.head l.count l.bytes);
  sectors : l.sectors ≡ l.head.size / 4096;
}

abbrev pub decreases-loop-number : goal.decreases-loop-number
decreases-loop-number l = length l.rest
