-- A ready bus (`IsReady`) to the emulated chip is modelled, and an identification that succeeds on it finds that chip.
use Rattle.std.proofs.Common.{◌≡◌, ℕ, Option, None, Ok, arith, inr, is_none, sym, true}
use Rattle.nor_model.specs.Bus.{Allows, BusState}
use Rattle.nor_model.specs.Chip.{IsSame}
use Rattle.nor_driver.specs.OnlyReads.{IsSteadyOrIdle, OnlyReads}
use Rattle.nor_driver.proofs.ReadsInTurn.{only_reads_none as reads_nothing, only_reads_more}
use Rattle.nor_probe.specs.Known.{IsModelled, shown_as}
use Rattle.nor_probe.specs.Found.{Finds, IsWanted, ProbeErrors, part_in}
use Rattle.nor_probe.specs.declared.probes.Found.{Found}
use Rattle.nor_probe.specs.declared.probes.ProbeFault.{ProbeFault}
use Rattle.nor_probe.specs.declared.table.ChipName.{ChipName}
use Rattle.nor_probe.specs.declared.table.Part.{Part}
use Rattle.nor_request.specs.Refusal.{of_probe}
use Rattle.nor_args.specs.declared.programmer.Programmer.{Programmer}
use Rattle.flashnor.specs.Changes.{Passes}
use Rattle.flashnor.specs.Chips.{IsReady, HoldsFiles, OpensChip, allowance_of}
use Rattle.flashnor.specs.declared.chips.Content.{Content}
use Rattle.flashnor.specs.Found.{IsEmulatedFound, emulated_part}
use Rattle.flashnor.specs.Readings.{FindRefuses}
use Rattle.flashnor.proofs.Shown.{known_with, shown_with}

pub modelled_ready : (programmer : Programmer) (bus : BusState) → IsReady programmer bus → IsModelled bus
modelled_ready programmer bus ready = grind (arith, known_with)

pub steady_or_idle-ready : (programmer : Programmer) (bus : BusState) → IsReady programmer bus → IsSteadyOrIdle bus
steady_or_idle-ready programmer bus ready = inr ready.idle

shows : (programmer : Programmer) (bus : BusState) (part : Part) → IsReady programmer bus
    → shown_as bus.further bus.chip.config ≡ Ok part → emulated_part programmer.chip ≡ part
shows programmer bus part ready shown =
    let plain = rw ready.further at shown in
    cc (shown_with programmer.chip programmer.unique bus.chip.config ready.config)

pub finds_ready : (programmer : Programmer) (named : Option ChipName) (old new : BusState) (found : Found)
    → IsReady programmer old → IsWanted named found.name → Finds old new found
    → IsEmulatedFound named programmer.chip found
finds_ready programmer named old new found ready name finds =
    let part : emulated_part programmer.chip ≡ part_in found = shows programmer old _ ready finds.part in
    record { part = sym part; name = rw part name }

pub refuses_ready : (programmer : Programmer) (named : Option ChipName) (old new : BusState) (fault : ProbeFault)
    → IsReady programmer old → ProbeErrors named old new fault → FindRefuses programmer named (of_probe fault)
refuses_ready programmer named old new fault ready errors =
    let shown : shown_as old.further old.chip.config ≡ Ok (emulated_part programmer.chip) =
    rw ready.further (shown_with programmer.chip programmer.unique old.chip.config ready.config) in
    grind (arith, shows)

pub opens_held : (programmer : Programmer) (content : Content) (allowed : ℕ) (first last : BusState)
    → HoldsFiles programmer content first → allowed ≡ allowance_of programmer
    → Allows allowed (record first { steady = is_none programmer.power }) last → OpensChip programmer content last
opens_held programmer content allowed first last held allowance allows = grind arith

pub same_after_reads : (most : ℕ) (old new : BusState) → OnlyReads most old new → old.honest ≡ true → IsSteadyOrIdle old
    → IsSame old.chip new.chip
same_after_reads most old new only_reads honest steady_or_idle = grind arith

pub passes_probe : (named : Option ChipName) (old new : BusState) (found : Found)
    → IsModelled old → new.honest ≡ old.honest → new.further ≡ old.further → IsWanted named found.name
    → Finds old new found → Passes named old new
passes_probe named old new found modelled honest further name finds = grind arith

pub passes_none : (bus : BusState) → IsModelled bus → IsSteadyOrIdle bus → Passes None bus bus
passes_none bus modelled steady_or_idle = grind arith

pub only_reads_none : (most : ℕ) (bus : BusState) → OnlyReads most bus bus
only_reads_none most bus = only_reads_more 0 most bus bus (omega arith) (reads_nothing bus)
