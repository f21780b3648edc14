use Rattle.nor_session.proofs.BackupRestores as backup
use Rattle.nor_session.proofs.laws.read_is_backup.Goals as goal

pub returns : goal.returns
returns c = backup.read_is_backup
