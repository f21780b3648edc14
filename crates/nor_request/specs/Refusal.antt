use Rattle.std.specs.Prelude.{ℕ}
use Rattle.nor_driver.specs.declared.waits.OperationError.{OperationError}
use Rattle.nor_driver.specs.declared.waits.OperationError.TheVariants as OperationFails
use Rattle.nor_probe.specs.declared.probes.ProbeFault.{ProbeFault}
use Rattle.nor_probe.specs.declared.probes.ProbeFault.TheVariants as Probes
use Rattle.nor_request.specs.declared.refusal.Refusal.{Refusal}
use Rattle.nor_request.specs.declared.refusal.Refusal.TheVariants.{NoChip, UnknownChip, OtherName, ImageSize, RegionOutside, NoProtection, UndefinedProtection, RangeNotOffered, StatusLocked, Protected, Vault, Stopped, Timeout, Mismatch, BadJournal, OtherChip, StatusDiffers, Memory, Output, OtherUnit}

abbrev pub refusal_number : Refusal → ℕ
refusal_number NoChip = 1
refusal_number (UnknownChip fault) = 2
refusal_number OtherName = 3
refusal_number (ImageSize chip image) = 4
refusal_number RegionOutside = 5
refusal_number NoProtection = 6
refusal_number UndefinedProtection = 7
refusal_number RangeNotOffered = 8
refusal_number StatusLocked = 9
refusal_number (Protected address) = 10
refusal_number Vault = 11
refusal_number Stopped = 12
refusal_number (Timeout address) = 13
refusal_number (Mismatch address) = 14
refusal_number (BadJournal fault) = 15
refusal_number OtherChip = 16
refusal_number StatusDiffers = 17
refusal_number Memory = 18
refusal_number (Output written) = 19
refusal_number OtherUnit = 20

abbrev pub of_probe : ProbeFault → Refusal
of_probe Probes.NoChip = NoChip
of_probe (Probes.UnknownChip fault) = UnknownChip fault
of_probe Probes.OtherName = OtherName
of_probe Probes.Stopped = Stopped
of_probe Probes.Timeout = Timeout 0

abbrev pub of_operation : OperationError → Refusal
of_operation OperationFails.Stopped = Stopped
of_operation (OperationFails.Timeout address) = Timeout address
