use Rattle.std.proofs.Common.{inl}
use Rattle.std.proofs.lemmas.Result.{err_from_is_err_and}
use Rattle.nor_files.proofs.memory.MemoryStore.vault_in_new.Goals as goal

pub returns-in_err-lend-clause-fails : goal.returns-in_err-lend-clause-fails
returns-in_err-lend-clause-fails c lawful =
    let p = err_from_is_err_and c.from_residual-in_err-lend.result c.from_residual-in_err-lend.ensures.1 in
    rw p.1 (record { fails = c.in_err-lend.ensures.counts; leaves = λ known left can. inl (c.in_err-lend.ensures.stays.leaves left can) })
