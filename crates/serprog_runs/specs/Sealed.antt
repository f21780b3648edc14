-- A run sends modifying commands of a change only in a session whose journal is durable from the seal on.
use Rattle.std.specs.Prelude.{◌≡◌, List, None}
use Rattle.std.specs.Borrow.{Bor}
use Rattle.nor_model.specs.Bus.{BusState}
use Rattle.nor_files.specs.Files.{FilesState, Found}
use Rattle.nor_journal.specs.Vault.{VaultState}
use Rattle.nor_args.specs.Text.{Text}
use Rattle.nor_args.specs.declared.job.Operation.{Operation}
use Rattle.board_jobs.specs.Sealing.{SealsTask}
use Rattle.serprog_runs.specs.Run.{IsAskedFor}
use Rattle.serprog_board.specs.Unused.{IsUnused}

-- Holds if a job on an unused bus (`start`) left the bus as `last`, and sent modifying commands of a change only in a
-- session whose journal is durable from the seal on (`SealsTask`). Says nothing about a change of SRP0.
pub record SealsOperation {V : Type 0} (state : V → VaultState) (synced : V → Found) (operation : Operation)
    (last : BusState) (after : FilesState) : Type 0 where
  pub start : BusState
  pub fresh : IsUnused start
  pub seals : operation.srp0 ≡ None → SealsTask state synced operation.task start last after

-- Holds if `SealsOperation` holds for an operation that the arguments ask for.
pub record SealsJob {V : Type 0} (state : V → VaultState) (synced : V → Found) (words : List Text)
    (last : BusState) (after : FilesState) : Type 0 where
  pub name : Bor Text
  pub operation : Operation
  pub asked : IsAskedFor words name operation
  pub seals : SealsOperation state synced operation last after
