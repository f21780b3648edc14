use Rattle.std.proofs.Common.{option_map}
use Rattle.nor_journal.specs.MemVault.{held_by}
use Rattle.serprog_board.proofs.Results.{none_ok}
use Rattle.serprog_runs.proofs.preparing.read_files.Goals as goal

pub returns-clause-ok : goal.returns-clause-ok
returns-clause-ok g c =
    let same = c.read_early.ensures.same.view in
    let late = c.read_late.ensures.same.view in
    record {
      shown = option_map (λ vault. (held_by vault).bytes) c.in_ok-chip.chip;
      source = c.in_ok-chip.ensures;
      roles = c.in_ok-have_one_role.ensures.ok;
      own_log = c.in_ok-has_own_log.ensures.ok;
      regions = record {
        names = c.args.names;
        plain = c.requires;
        included = rw c.in_ok-sources.ensures.included
            (rw (same, c.bytes_of.ensures) at c.in_ok-included.ensures.ranges);
        files_in = rw (same, c.bytes_of.ensures) at c.in_ok-included.ensures.files;
      };
      names = rw c.deref.ensures.value at c.in_ok-check_region_files.ensures.names;
      file_roles = rw (same, c.deref.ensures.value) at c.in_ok-check_region_files.ensures.roles;
      sources = record {
        whole = c.in_ok-bytes.bytes.items;
        used = rw same at c.in_ok-bytes.ensures.ok;
        replaced = rw (late, same, c.deref-2.ensures.value) at c.in_ok-sources.ensures.ok;
      };
    }

pub returns-in_err-have_one_role-clause-ok : goal.returns-in_err-have_one_role-clause-ok
returns-in_err-have_one_role-clause-ok g c = none_ok _ _ c.from_residual.result c.from_residual.ensures.1

pub returns-in_err-has_own_log-clause-ok : goal.returns-in_err-has_own_log-clause-ok
returns-in_err-has_own_log-clause-ok g c =
    none_ok _ _ c.from_residual-in_err-has_own_log.result c.from_residual-in_err-has_own_log.ensures.1

pub returns-in_err-check_log-clause-ok : goal.returns-in_err-check_log-clause-ok
returns-in_err-check_log-clause-ok g c =
    none_ok _ _ c.from_residual-in_err-check_log.result c.from_residual-in_err-check_log.ensures.1

pub returns-in_err-check_new-clause-ok : goal.returns-in_err-check_new-clause-ok
returns-in_err-check_new-clause-ok g c =
    none_ok _ _ c.from_residual-in_err-check_new.result c.from_residual-in_err-check_new.ensures.1

pub returns-in_err-early-clause-ok : goal.returns-in_err-early-clause-ok
returns-in_err-early-clause-ok g c =
    none_ok _ _ c.from_residual-in_err-early.result c.from_residual-in_err-early.ensures.1

pub returns-in_err-chip-clause-ok : goal.returns-in_err-chip-clause-ok
returns-in_err-chip-clause-ok g c = none_ok _ _ c.from_residual-in_err-chip.result c.from_residual-in_err-chip.ensures.1

pub returns-in_err-included-clause-ok : goal.returns-in_err-included-clause-ok
returns-in_err-included-clause-ok g c =
    none_ok _ _ c.from_residual-in_err-included.result c.from_residual-in_err-included.ensures.1

pub returns-in_err-check_region_files-clause-ok : goal.returns-in_err-check_region_files-clause-ok
returns-in_err-check_region_files-clause-ok g c =
    none_ok _ _ c.from_residual-in_err-check_region_files.result c.from_residual-in_err-check_region_files.ensures.1

pub returns-in_err-bytes-clause-ok : goal.returns-in_err-bytes-clause-ok
returns-in_err-bytes-clause-ok g c =
    none_ok _ _ c.from_residual-in_err-bytes.result c.from_residual-in_err-bytes.ensures.1

pub returns-in_err-sources-clause-ok : goal.returns-in_err-sources-clause-ok
returns-in_err-sources-clause-ok g c =
    none_ok _ _ c.from_residual-in_err-sources.result c.from_residual-in_err-sources.ensures.1
