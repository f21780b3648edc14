-- Bounds on the transactions of a call on a punctual bus.
use Rattle.std.specs.Prelude.{◌+◌, ◌*◌, ℕ}
use Rattle.nor_driver.specs.Operations.{most_operation}
use Rattle.nor_scan.specs.Identity.{most_identity}

abbrev pub most_reads : (sectors : ℕ) → ℕ
most_reads sectors = most_identity + sectors

-- The bound for a session or restore that scans or touches at most `sectors` sectors: the identification, two status
-- writes, and for each sector three reads, one erase and sixteen page programs.
abbrev pub most_of : (sectors : ℕ) → ℕ
most_of sectors = most_identity + 3 * sectors + most_operation * (17 * sectors + 2)
