use Rattle.nor_session.proofs.BackupRestores as backup
use Rattle.nor_session.proofs.laws.backup_restores_any.Goals as goal

pub returns : goal.returns
returns c = backup.backup_restores_any
