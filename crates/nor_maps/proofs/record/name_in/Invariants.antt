use Rattle.std.proofs.Common.{◌≡◌, ◌+◌, ◌≤◌, ◌++◌, length}
use Rattle.nor_maps.specs.Records.{before_nul}
use Rattle.nor_maps.proofs.record.name_in.Given as goal

-- The name in the whole field is `name`, followed by the bytes of `rest` before its first NUL.
abbrev pub invariant-loop-rest : goal.invariant-loop-rest
invariant-loop-rest l = record {
  same : before_nul l.field ≡ l.name.items ++ before_nul l.rest;
  room : length l.name.items + length l.rest ≤ 32;
}

abbrev pub decreases-loop-rest : goal.decreases-loop-rest
decreases-loop-rest l = length l.rest
