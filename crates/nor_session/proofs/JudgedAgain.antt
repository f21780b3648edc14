use Rattle.std.proofs.Common.{◌≡◌, ◌≢◌, ◌<◌, ◌*◌, ◌⊎◌, ℕ, Bool, true, false, List, Option, None, Some, Result, Ok, Err, zero, suc, refl, arith, inl, inr}
use Rattle.std.specs.Prelude.{if◌then◌else◌}
use Rattle.std.proofs.lemmas.Bool.{cases_Bool, false_from_ne_true, and_parts}
use borrow.Author.Count.{below_more}
use Rattle.nor_model.specs.Chip.{Chip, is_locked}
use Rattle.nor_model.specs.Guard.{code_of, is_block_protected}
use Rattle.nor_plan.specs.Content.{is_touched}
use Rattle.nor_probe.specs.declared.table.ChipName.{ChipName}
use Rattle.nor_probe.specs.declared.table.Part.{Part}
use Rattle.nor_probe.specs.declared.sfdp.Geometry.{Geometry}
use Rattle.nor_probe.specs.declared.sfdp.SfdpFault.{SfdpFault}
use Rattle.nor_probe.specs.declared.probes.ProbeFault.{ProbeFault}
use Rattle.nor_probe.specs.declared.probes.ProbeFault.TheVariants as Probes
use Rattle.nor_probe.specs.Known.{is_no_chip, id_of, chip_says, part_by_sfdp, listed_or, shown_as}
use Rattle.nor_probe.specs.Table.{part_for}
use Rattle.nor_probe.specs.Found.{IsWanted}
use Rattle.nor_request.specs.declared.request.Request.{Request}
use Rattle.nor_request.specs.declared.request.What.{What}
use Rattle.nor_request.specs.declared.request.What.TheVariants.{WpRange}
use Rattle.nor_request.specs.declared.refusal.Refusal.TheVariants.{NoChip, UnknownChip, OtherName, StatusLocked, Protected}
use Rattle.nor_request.specs.Request.{is_data, IsWantedCode, wanted}
use Rattle.nor_scan.proofs.OneVerdict.{touched_data}
use Rattle.nor_scan.specs.Saving.{NeedsStatus, NoneProtected, SomeProtected, is_touched_protected}
use Rattle.nor_scan.specs.Verdict.{IsNamed, IsAccepted}

part_shown : (undriven : Bool) (listed : Option Part) (with_id : List ℕ) (says : Result Geometry SfdpFault)
    (shown : Result Part ProbeFault)
    → shown ≡ (if undriven then Err Probes.NoChip else listed_or (part_by_sfdp with_id says) listed)
    → shown ≢ Err Probes.NoChip → ((fault : SfdpFault) → shown ≢ Err (Probes.UnknownChip fault))
    → (part : Part) × (shown ≡ Ok part)
part_shown true listed with_id says shown is there known = absurd (there is)
part_shown false (Some part) with_id says shown is there known = (part, is)
part_shown false None with_id (Ok geometry) shown is there known = (_, is)
part_shown false None with_id (Err fault) shown is there known = absurd (known fault is)

wanted_or_other : (named : Option ChipName) (name : ChipName) → IsWanted named name ⊎ (¬ IsWanted named name)
wanted_or_other None name = inl tt
wanted_or_other (Some wanted) name = grind arith

pub accepted_named : (further : Bool) (request : Request) (image : List ℕ) (chip : Chip) → IsAccepted further request image chip
    → IsNamed further request.named chip.config
accepted_named further request image chip accepted =
    let shown = part_shown (is_no_chip (id_of chip.config)) (part_for further (id_of chip.config)) (id_of chip.config)
    (chip_says chip.config) (shown_as further chip.config) refl (accepted NoChip) (λ fault. accepted (UnknownChip fault)) in
    elim (wanted_or_other request.named shown.0.name) [
      | inl is ↦ record { part = shown.0; shown = shown.1; wanted = is }
      | inr other ↦ absurd (accepted OtherName (record { part = shown.0; shown = shown.1; other = other }))
    ]

none_least : (test : ℕ → Bool) → ((s : ℕ) → test s ≡ true → ((t : ℕ) → t < s → test t ≡ false) → ⊥)
    → (n s : ℕ) → s < n → test s ≡ false
none_least test never zero s below = absurd (omega arith)
none_least test never (suc n) s below =
    let before = none_least test never n in
    below_more (λ k. test k ≡ false) n before (false_from_ne_true (test n) (λ hit. never n hit before)) s (omega arith)

needs_lift : (what : What) (unlock : Bool) (touched : ℕ → Bool) (chip : Chip) → is_data what ≡ true → unlock ≡ true
    → SomeProtected touched chip
    → IsWantedCode what chip (code_of chip.kept) × NeedsStatus what unlock (code_of chip.kept) touched chip
needs_lift (WpRange start len) unlock touched chip is lifts some = absurd cc
needs_lift _ unlock touched chip is lifts some = (refl, (lifts, some))

pub accepted_free : (further : Bool) (request : Request) (image : List ℕ) (chip : Chip) → IsAccepted further request image chip
    → is_locked chip.kept ≡ true → NoneProtected (is_touched chip.bytes (wanted request image chip)) chip
accepted_free further request image chip accepted locked s =
    let touched = is_touched chip.bytes (wanted request image chip) in
    none_least (is_touched_protected touched chip) (λ n held least.
    elim (cases_Bool request.unlock) [
      | inr shut ↦ accepted (Protected (4096 * n)) (shut, n, refl, record { is = held; least = least })
      | inl lifts ↦
          let hit = (and_parts (touched n) (is_block_protected chip (4096 * n) 4096) held).0 in
          let needs = needs_lift request.what request.unlock touched chip (touched_data request image chip n hit) lifts
          (record { sector = n; held = held }) in
          accepted StatusLocked (locked, (code_of chip.kept, needs.0, needs.1))
    ]) (suc s) s (omega arith)
