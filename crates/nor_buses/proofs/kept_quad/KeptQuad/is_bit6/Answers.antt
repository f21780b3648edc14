use Rattle.std.proofs.Common.{◌≡◌, ◌∙◌, false, length, refl, arith, rules}
use Rattle.nor_model.proofs.Passed.{quiet_passes}
use Rattle.nor_buses.specs.Listed.{is_id_listed}
use Rattle.nor_buses.specs.KeptQuad.{rows_of}
use Rattle.nor_buses.proofs.ReadsKeep.{read_stops, on_err}
use Rattle.nor_buses.proofs.Polls.{fits_short}
use Rattle.nor_buses.proofs.Plain.{not_missed}
use Rattle.nor_buses.proofs.kept_quad.KeptQuad.is_bit6.Goals as goal

pub returns-in_err-transfer-clause-stops : goal.returns-in_err-transfer-clause-stops
returns-in_err-transfer-clause-stops g c honest listed =
    on_err c.from_residual.result
    (read_stops refl (c.in_err-transfer.ensures.stops (fits_short (omega arith) (omega arith) honest)))

pub returns-in_err-transfer-2-clause-stops : goal.returns-in_err-transfer-2-clause-stops
returns-in_err-transfer-2-clause-stops g c honest listed =
    let three : length c.transfer.new.reply ≡ 3 = search rules in
    let missed : is_id_listed (rows_of c.args.self.now) c.transfer.new.reply ≡ false = search rules in
    absurd (not_missed (rows_of c.args.self.now) c.transfer.new.reply three (c.requires honest)
    (c.in_ok-transfer.ensures.carries (fits_short (omega arith) (omega arith) honest)).step listed missed)

pub returns-in_err-transfer-3-clause-stops : goal.returns-in_err-transfer-3-clause-stops
returns-in_err-transfer-3-clause-stops g c honest listed =
    let three : length c.transfer.new.reply ≡ 3 = search rules in
    let missed : is_id_listed (rows_of c.args.self.now) c.transfer.new.reply ≡ false = search rules in
    absurd (not_missed (rows_of c.args.self.now) c.transfer.new.reply three (c.requires honest)
    (c.in_ok-transfer.ensures.carries (fits_short (omega arith) (omega arith) honest)).step listed missed)

pub returns-in_err-transfer-4-clause-stops : goal.returns-in_err-transfer-4-clause-stops
returns-in_err-transfer-4-clause-stops g c honest listed =
    let three : length c.transfer.new.reply ≡ 3 = search rules in
    let missed : is_id_listed (rows_of c.args.self.now) c.transfer.new.reply ≡ false = search rules in
    absurd (not_missed (rows_of c.args.self.now) c.transfer.new.reply three (c.requires honest)
    (c.in_ok-transfer.ensures.carries (fits_short (omega arith) (omega arith) honest)).step listed missed)

pub returns-clause-row : goal.returns-clause-row
returns-clause-row g c honest listed =
    let three : length c.transfer.new.reply ≡ 3 = search rules in
    let missed : is_id_listed (rows_of c.args.self.now) c.transfer.new.reply ≡ false = search rules in
    absurd (not_missed (rows_of c.args.self.now) c.transfer.new.reply three (c.requires honest)
    (c.in_ok-transfer.ensures.carries (fits_short (omega arith) (omega arith) honest)).step listed missed)

pub returns-clause-keeps : goal.returns-clause-keeps
returns-clause-keeps g c honest listed =
    let three : length c.transfer.new.reply ≡ 3 = search rules in
    let missed : is_id_listed (rows_of c.args.self.now) c.transfer.new.reply ≡ false = search rules in
    absurd (not_missed (rows_of c.args.self.now) c.transfer.new.reply three (c.requires honest)
    (c.in_ok-transfer.ensures.carries (fits_short (omega arith) (omega arith) honest)).step listed missed)

pub returns-in_err-transfer-4-clause-passed : goal.returns-in_err-transfer-4-clause-passed
returns-in_err-transfer-4-clause-passed g c =
    quiet_passes _ _ _ refl c.transfer-4.ensures.records.passed
    ∙ quiet_passes _ _ _ refl c.transfer-3.ensures.records.passed
    ∙ quiet_passes _ _ _ refl c.transfer-2.ensures.records.passed
    ∙ quiet_passes _ _ _ refl c.transfer.ensures.records.passed

pub returns-clause-passed : goal.returns-clause-passed
returns-clause-passed g c =
    quiet_passes _ _ _ refl c.transfer-4.ensures.records.passed
    ∙ quiet_passes _ _ _ refl c.transfer-3.ensures.records.passed
    ∙ quiet_passes _ _ _ refl c.transfer-2.ensures.records.passed
    ∙ quiet_passes _ _ _ refl c.transfer.ensures.records.passed
