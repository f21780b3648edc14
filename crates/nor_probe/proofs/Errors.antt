use Rattle.std.proofs.Common.{◌≡◌, ◌+◌, ◌<◌, ◌≤◌, ◌∙◌, ◌↔◌, ℕ, Bool, true, false, true≢false, None, Some, Option, refl, sym, arith}
use Rattle.std.specs.Prelude.{IsTrue, List, if◌then◌else◌}
use Rattle.nor_model.specs.declared.config.Config.{Config}
use Rattle.nor_model.specs.Bus.{BusState}
use Rattle.nor_driver.specs.OnlyReads.{Rested, Spent}
use Rattle.nor_driver.proofs.Readings.{rested_then}
use Rattle.nor_probe.specs.declared.table.ChipName.{ChipName}
use Rattle.nor_probe.specs.declared.probes.ProbeFault.{ProbeFault}
use Rattle.nor_probe.specs.declared.probes.ProbeFault.TheVariants.{NoChip, UnknownChip, OtherName, Stopped, Timeout}
use Rattle.nor_probe.specs.Known.{id_of, is_no_chip, shown_as}
use Rattle.nor_probe.specs.Table.{part_for}
use Rattle.nor_probe.specs.declared.table.Part.{Part}
use Rattle.nor_probe.specs.Found.{IsWanted, BlamesName, ProbeErrors, HasProbed, reads_by, reads_for, needed}
use Rattle.nor_probe.specs.Steps.{SpentAfterId, IdentityErrors, IsIdentityFault}

pub blames_other : (named : Option ChipName) (name : ChipName) (wanted : Bool) → (IsTrue wanted ↔ IsWanted named name)
    → wanted ≡ false → BlamesName named OtherName
blames_other None name wanted same other = absurd (true≢false (sym (same.1 tt) ∙ other))
blames_other (Some w) name wanted same other = tt

reads_by_few : (part : Option Part) → reads_by part ≤ 4
reads_by_few (Some part) = omega arith
reads_by_few None = omega arith

reads_few_if : (none : Bool) (n : ℕ) → n ≤ 4 → (if none then 1 else n) ≤ 4
reads_few_if true n few = omega arith
reads_few_if false n few = few

reads_few : (further : Bool) (of_id : List ℕ) → reads_for further of_id ≤ 4
reads_few further of_id = reads_few_if (is_no_chip of_id) _ (reads_by_few (part_for further of_id))

pub shows_same : {old new : Bool} {was is : Config} → new ≡ old → is ≡ was → shown_as old was ≡ shown_as new is
shows_same kept same = rw (kept, same) refl

-- A fault after the ID was read. `old` is the state before the probe, `mid` that after the read of the ID.
module _ (named : Option ChipName) (old mid : BusState) (rested : Rested old mid)
    (punctual : mid.punctual ≡ old.punctual) (kept : mid.further ≡ old.further) (count : Spent (old.chip.busy + 2) old mid)
    (busy : old.chip.busy < 65536) where
  same : mid.chip.config ≡ old.chip.config
  same = rested.unchanged.same.config

  reads : reads_for mid.further (id_of mid.chip.config) ≡ reads_for old.further (id_of old.chip.config)
  reads = rw (kept, same) refl

  shows : shown_as old.further old.chip.config ≡ shown_as mid.further mid.chip.config
  shows = shows_same kept same

  probed : (new : BusState) → SpentAfterId mid new → Rested mid new
      → HasProbed old new
  probed new sent rested' = record {
    rested = rested_then old mid new rested rested';
    count = λ is. omega (arith, count is, sent (punctual ∙ is), reads);
  }

  pub probe_errors : (new : BusState) (fault : ProbeFault) → IsIdentityFault fault → IdentityErrors mid new fault
      → ProbeErrors named old new fault
  probe_errors new NoChip possible errors = (shows ∙ errors.0, probed new errors.1 errors.2)
  probe_errors new (UnknownChip fault) possible errors =
      (shows ∙ errors.0, probed new errors.1 errors.2)
  probe_errors new OtherName possible errors = absurd possible
  probe_errors new Stopped possible errors =
      let few : old.punctual ≡ true → old.left < needed old.further old.chip =
      λ is. omega (arith, count is, (errors (punctual ∙ is)).1, reads) in (
        λ is. record { none_left = (errors (punctual ∙ is)).0; below = few is },
        λ is. record {
          none_left = (errors (punctual ∙ is)).0;
          below = omega (arith, few is, reads_few old.further (id_of old.chip.config), busy);
        },
      )
  probe_errors new Timeout possible errors = absurd possible
