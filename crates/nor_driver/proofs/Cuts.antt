use Rattle.std.proofs.Common.{◌≡◌, arith}
use Rattle.nor_model.specs.declared.running.Running.{Running}
use Rattle.nor_model.specs.Chip.{Chip, IsSame, KeptBits}
use Rattle.nor_model.specs.Power.{KeptCut}
use Rattle.nor_model.specs.Bus.{BusState}
use Rattle.nor_driver.specs.OnlyReads.{Unchanged, KeepsChip}

pub kept_cut-stay : (running : Running) (old new : KeptBits) → new ≡ old → KeptCut running old new
kept_cut-stay running old new stay = grind arith

cut_again : (running : Running) (old mid new : KeptBits) → KeptCut running old mid → KeptCut running mid new
    → KeptCut running old new
cut_again running old mid new first second = grind arith

pub same_then : (old mid new : Chip) → IsSame old mid → IsSame mid new → IsSame old new
same_then old mid new first second = grind arith

pub unchanged_none : (bus : BusState) → Unchanged bus bus
unchanged_none bus = search arith

pub unchanged_then : (old mid new : BusState) → Unchanged old mid → Unchanged mid new → Unchanged old new
unchanged_then old mid new first second = grind arith

pub unchanged_stays : (old new : BusState) → Unchanged old new → KeepsChip old new
unchanged_stays old new unchanged =
    let same = unchanged.same in
    let kept = kept_cut-stay old.chip.running old.chip.kept new.chip.kept same.kept in
    search same.bytes

pub stays_then : (old mid new : BusState) → mid.steady ≡ old.steady → KeepsChip old mid → KeepsChip mid new → KeepsChip old new
stays_then old mid new steady first second =
    let cut = cut_again old.chip.running old.chip.kept mid.chip.kept new.chip.kept first.kept in
    let stay = kept_cut-stay old.chip.running mid.chip.kept new.chip.kept in
    grind (arith, first.steady_or_idle, second.steady_or_idle, first.bytes, second.bytes, first.worn, second.worn, cut, stay)

pub stays_after : (old mid new : BusState) → mid.steady ≡ old.steady → Unchanged old mid → KeepsChip mid new → KeepsChip old new
stays_after old mid new steady first second = stays_then old mid new steady (unchanged_stays old mid first) second
