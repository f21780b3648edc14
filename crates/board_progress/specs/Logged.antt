use Rattle.board_progress.specs.declared.run_log.Logged.{Logged}

abbrev pub written_by : {W : Type 0} → Logged W → W
written_by logged = logged.inner
