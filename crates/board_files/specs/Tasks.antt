use Rattle.std.specs.Prelude.{◌&&◌, Bool, true, false}
use Rattle.nor_args.specs.declared.job.Change.{Change}
use Rattle.nor_args.specs.declared.job.Operation.{Operation}
use Rattle.nor_args.specs.declared.job.Wanted.{Wanted}
use Rattle.nor_args.specs.declared.job.Wanted.TheVariants as wanted

abbrev pub changes_bytes : Wanted → Bool
changes_bytes (wanted.Range start len) = false
changes_bytes _ = true

-- True if the whole chip is compared after a change: after a write or an erase without `-n` and `-N`.
abbrev pub is_compared : Operation → Change → Bool
is_compared operation change = changes_bytes change.wanted && (change.verify && operation.verifies_all)
