-- If a journal can restore the original chip at the start of a restore on a modelled bus, it still can at every exit.
use Rattle.std.proofs.Common.{◌&&◌, ◌==◌, ◌≡◌, ◌<◌, ◌+◌, ◌-◌, ◌*◌, ◌/◌, ◌%◌, ◌∙◌, ◌⊎◌, ℕ, Bool, true, false, true≢false, List, ap, sym, refl, arith, inl, inr}
use Rattle.std.specs.Prelude.{not, ◌≢◌, Option, Some, None, IfSome, IsSomeAnd}
use Rattle.std.proofs.lemmas.Bool.{cases_Bool, cases_lt, false_from_ne_true, and_left, and_parts, and_from, or_left, or_cases, both_ways, eqb-true}
use Rattle.std.proofs.lemmas.Bool.Decides.{nat_tests}
use Rattle.std.proofs.Math.Bool.{and-false}
use Rattle.nor_model.specs.declared.config.Config.{Config}
use Rattle.nor_model.specs.declared.running.Running.{Running}
use Rattle.nor_model.specs.declared.running.Running.TheVariants.{StatusWrite, Unknown}
use Rattle.nor_model.specs.Chip.{Chip, IsSame, KeptBits, is_locked, kept_in}
use Rattle.nor_model.specs.Guard.{code_of, is_protected, is_block_protected}
use Rattle.nor_model.specs.Units.{LieAtAnEnd}
use Rattle.nor_model.specs.Power.{KeptCut, PowerLost}
use Rattle.nor_model.specs.Bus.{BusState}
use Rattle.nor_model.proofs.Sizes.{sized_bounds}
use Rattle.nor_model.proofs.ProtectedBlocks.{is_protected-end, is_protected-past, is_protected-no_scheme, is_protected-same}
use Rattle.nor_driver.specs.OnlyReads.{IsSteadyOrIdle, OnlyReadsHonest}
use Rattle.nor_driver.specs.Reads.{id_of}
use Rattle.nor_driver.specs.StatusWrites.{fixed_of}
use Rattle.nor_request.specs.Request.{wanted}
use Rattle.nor_plan.specs.Content.{is_touched}
use Rattle.nor_journal.specs.Text.{Content}
use Rattle.nor_journal.specs.Saved.{is_saved}
use Rattle.nor_journal.proofs.Saves.{saved_byte-is}
use Rattle.nor_probe.specs.declared.table.Part.{Part}
use Rattle.nor_probe.specs.Table.{part_for}
use Rattle.nor_probe.specs.Known.{IsGenuine, IsKnown}
use Rattle.nor_probe.proofs.Configs.{applied_has}
use Rattle.nor_apply.specs.Within.{is_writable, WorksIn, IsWithin, addresses_of}
use Rattle.nor_apply.specs.Change.{MayChange}
use Rattle.nor_apply.proofs.Kept.{locked_same}
use Rattle.nor_apply.proofs.Changing.{within_then, within_wider, narrower}
use Rattle.nor_request.specs.declared.refusal.Refusal.{Refusal}
use Rattle.nor_request.specs.declared.refusal.Refusal.TheVariants.{NoChip, UnknownChip, StatusLocked, Stopped, OtherChip, OtherUnit, StatusDiffers}
use Rattle.nor_scan.specs.Saving.{SomeProtected, is_touched_protected}
use Rattle.nor_session.specs.Headline.{SavesChip, open_addresses, CanRestore, CanBeRewritten}
use Rattle.nor_session.specs.Restore.{Choice, differing, every_saved, restored, FitsStatus, ErrorsBy, RestoreErrors}
use Rattle.nor_session.proofs.Rescanned.{restored_saved, restored_other}
use Rattle.nor_session.proofs.RestoredBytes.{touched_byte, touched_saved}

steady_or_idle_or_not : (state : BusState) → IsSteadyOrIdle state ⊎ ((state.steady ≡ false) × (state.chip.busy ≢ 0))
steady_or_idle_or_not state = grind arith

cut_kept : (p : ℕ → Bool) (first : Chip) (old new : KeptBits) (running : Running) → KeptCut running old new
    → WorksIn p first running → fixed_of old ≡ fixed_of first.kept
    → (fixed_of new ≡ fixed_of first.kept) × (is_writable first ≡ false → old ≡ first.kept → new ≡ first.kept)
cut_kept p first old new (StatusWrite one two) (inl stay) works fixed =
    (ap fixed_of stay ∙ fixed, λ shut before. stay ∙ before)
cut_kept p first old new (StatusWrite one two) (inr back) works fixed =
    let returned = works.status one two refl in
    (ap fixed_of back ∙ returned.1, λ shut before. absurd (true≢false (sym returned.0 ∙ shut)))
cut_kept p first old new Unknown kept works fixed = absurd (true≢false (sym works.known))
cut_kept p first old new _ stay works fixed = (ap fixed_of stay ∙ fixed, λ shut before. stay ∙ before)

pub within_after_reads : (p : ℕ → Bool) (first : Chip) (most : ℕ) (old new : BusState) → new.steady ≡ old.steady → OnlyReadsHonest most old new → IsWithin p first old → IsWithin p first new
within_after_reads p first most old new steady honest_reads within =
    let stays = honest_reads.stays in
    let less = stays.busy in
    let runs : new.steady ≡ false → new.chip.busy ≢ 0 → WorksIn p first new.chip.running = λ loses works.
    rw (stays.running works) (within.runs (sym steady ∙ loses) (λ idle. works (omega arith))) in
    elim (steady_or_idle_or_not old) [
      | inl steady_or_idle ↦
          let same = stays.steady_or_idle steady_or_idle in let fixed = ap fixed_of same.kept ∙ within.fixed in
          let kept = λ (shut : is_writable first ≡ false). same.kept ∙ within.kept shut in
          search arith
      | inr unsteady ↦
          let works = within.runs unsteady.0 unsteady.1 in
          let cut = cut_kept p first old.chip.kept new.chip.kept old.chip.running stays.kept works within.fixed in
          search (arith, narrower)
    ]

idle_or_works : (state : BusState) → (state.steady ≡ false) ⊎ (state.chip.busy ≡ 0)
    → (state.chip.busy ≡ 0) ⊎ ((state.steady ≡ false) × (state.chip.busy ≢ 0))
idle_or_works state known = grind (arith, nat_tests)

pub lost_within : (p : ℕ → Bool) (first : Chip) (old new : BusState) → (old.steady ≡ false) ⊎ (old.chip.busy ≡ 0)
    → PowerLost old.chip new.chip → IsWithin p first old → IsWithin p first new
lost_within p first old new known lost within =
    let runs : new.steady ≡ false → new.chip.busy ≢ 0 → WorksIn p first new.chip.running = λ loses works. absurd (works lost.busy) in
    elim (idle_or_works old known) [
      | inl idle ↦
          let same = lost.idle idle in let fixed = ap fixed_of same.kept ∙ within.fixed in
          let kept = λ (shut : is_writable first ≡ false). same.kept ∙ within.kept shut in
          search arith
      | inr unsteady ↦
          let works = within.runs unsteady.0 unsteady.1 in
          let cut = cut_kept p first old.chip.kept new.chip.kept old.chip.running lost.kept works within.fixed in
          search (arith, narrower)
    ]

scheme_size_at : (further : Bool) (config : Config) (row : Option Part) → part_for further (id_of config) ≡ row → IsGenuine further config → config.scheme ≡ true → config.size % 262144 ≡ 0
scheme_size_at further config (Some part) is genuine scheme =
    let size = (genuine.listed part is).0.size in
    let whole = applied_has (λ p. p.size % 262144 == 0) (id_of config) part refl refl further is in
    rw size (eqb-true (part.size % 262144) 0 whole.1)
scheme_size_at further config None is genuine scheme = absurd (both_ways config.scheme (genuine.unlisted is) scheme)

protected_within : {further : Bool} (chip : Chip) (a b : ℕ) → IsGenuine further chip.config → chip.config.scheme ≡ true → a / 4096 ≡ b / 4096 → a < chip.config.size → b < chip.config.size → is_protected chip a ≡ is_protected chip b
protected_within {further = further} chip a b genuine scheme sector below_a below_b =
    let ends : LieAtAnEnd chip.config.size (is_protected chip) = is_protected-end chip in
    let whole = ends.sectors (scheme_size_at further chip.config _ refl genuine scheme) in
    elim ends.side [
      | inl front ↦ let one = front a below_a in let other = front b below_b in grind (arith, nat_tests)
      | inr back ↦ let one = back a below_a in let other = back b below_b in grind (arith, nat_tests)
    ]

protected_same : {further : Bool} (chip : Chip) (a b : ℕ) → IsGenuine further chip.config → a / 4096 ≡ b / 4096 → is_protected chip a ≡ is_protected chip b
protected_same chip a b genuine sector =
    search (arith, cases_Bool, cases_lt, protected_within, is_protected-no_scheme, is_protected-past, sized_bounds)

pub touched_open : {further : Bool} (journal : Content) (first chip : Chip) (a : ℕ) → IsKnown further first.config → SavesChip journal first → ((b : ℕ) → open_addresses journal first b ≡ false → chip.bytes b ≡ first.bytes b)
    → is_touched chip.bytes (restored journal chip.bytes) (a / 4096) ≡ true → open_addresses journal first a ≡ true
touched_open journal first chip a known saves same touched =
    search (arith, protected_same, saved_byte-is, touched_byte, touched_saved)

chosen_open : (journal : Content) (first : Chip) (touched : ℕ → Bool) (old : BusState) (a : ℕ) → CanRestore journal first old
    → ((s : ℕ) → touched s ≡ true → is_saved journal s ≡ true)
    → (is_locked old.chip.kept ≡ true → ¬ SomeProtected touched old.chip) → touched (a / 4096) ≡ true
    → open_addresses journal first a ≡ true
chosen_open journal first touched old a can saved free hit =
    let shut : (is_locked first.kept && is_protected first a) ≡ false = false_from_ne_true _ (λ both.
    let (locked, protected) = and_parts _ _ both in
    let stay = can.within.kept (rw locked (and-false first.config.scheme)) in
    let there = is_protected-same first old.chip can.within.config stay a ∙ protected in
    let genuine : IsGenuine old.further old.chip.config = rw can.within.config can.known.genuine in
    let start = protected_same old.chip (4096 * (a / 4096)) a genuine (omega arith) ∙ there in
    free (rw stay locked) record {
      sector = a / 4096;
      held = and_from _ _ hit (or_left _ _ start);
    }) in
    and_from _ _ (saved (a / 4096) hit) (ap not shut)

pub change_within : (journal : Content) (first : Chip) (touched raised : ℕ → Bool) (wanted : ℕ → ℕ) (old mid new : BusState) → CanRestore journal first old → IsWithin (open_addresses journal first) first mid
    → ((s : ℕ) → touched s ≡ true → is_saved journal s ≡ true) → (is_locked old.chip.kept ≡ true → ¬ SomeProtected touched old.chip)
    → MayChange touched raised wanted mid new → IsWithin (open_addresses journal first) first new
change_within journal first touched raised wanted old mid new can within saved free change =
    within_then (open_addresses journal first) first mid new within
    (within_wider (addresses_of touched) (open_addresses journal first) mid.chip new
    (λ a hit. chosen_open journal first touched old a can saved free hit) change.within)

pub same_as_original : (journal : Content) (first old new : Chip) → SavesChip journal first → old.config ≡ first.config
    → ((a : ℕ) → open_addresses journal first a ≡ false → old.bytes a ≡ first.bytes a) → new.config ≡ old.config
    → ((a : ℕ) → new.bytes a ≡ restored journal old.bytes a) → new.kept ≡ kept_in journal.status → IsSame first new
same_as_original journal first old new saves config within config_now bytes kept =
    let same = kept ∙ sym saves.bits in
    search (arith, and_left, cases_Bool, restored_other, restored_saved, saved_byte-is)

fixed_fits : (journal : Content) (first chip : Chip) → first.kept ≡ kept_in journal.status → chip.config ≡ first.config
    → fixed_of chip.kept ≡ fixed_of first.kept → (is_writable first ≡ false → chip.kept ≡ first.kept) → FitsStatus journal chip
fixed_fits journal first chip bits config fixed kept =
    let returned = fixed ∙ ap fixed_of bits in let all = λ (shut : is_writable first ≡ false). kept shut ∙ bits in search arith

code_locked : (journal : Content) (first chip : Chip) → first.kept ≡ kept_in journal.status → chip.kept ≡ first.kept
    → code_of chip.kept ≡ code_of (kept_in journal.status)
code_locked journal first chip bits stay = ap code_of (stay ∙ bits)

free_held : {further : Bool} (journal : Content) (first chip : Chip) → IsKnown further first.config → SavesChip journal first → chip.config ≡ first.config → chip.kept ≡ first.kept → is_locked first.kept ≡ true
    → ((b : ℕ) → open_addresses journal first b ≡ false → chip.bytes b ≡ first.bytes b) → ¬ SomeProtected (is_touched chip.bytes (restored journal chip.bytes)) chip
free_held journal first chip known saves config stay locked same some =
    let s = some.sector in
    let (touched, held) = and_parts (is_touched chip.bytes (restored journal chip.bytes) s) (is_block_protected chip (4096 * s) 4096) some.held in
    let shut : (a : ℕ) → a / 4096 ≡ s → is_protected chip a ≡ true → ⊥ = λ a sector protected.
    let is_open = touched_open journal first chip a known saves same (rw sector touched) in
    let there = sym (is_protected-same first chip config stay a) ∙ protected in
    let (saved, free) = and_parts (is_saved journal (a / 4096)) (not (is_locked first.kept && is_protected first a)) is_open in
    true≢false (sym (rw (locked, there) at free)) in
    elim (or_cases (is_protected chip (4096 * s)) (is_protected chip (4096 * s + 4096 - 1)) held) [
      | inl front ↦ shut (4096 * s) (omega arith) front
      | inr back ↦ shut (4096 * s + 4096 - 1) (omega arith) back
    ]

unit_not : (unique : Option (List ℕ)) (of_first : List ℕ) → IfSome unique (λ u. u ≡ of_first) → IsSomeAnd unique (λ u. u ≢ of_first) → ⊥
unit_not (Some u) of_first same other = other same
unit_not None of_first same other = other

abbrev pub NeverHeld : Choice → Content → (first chip : Chip) → Type 0
NeverHeld choice journal first chip = is_locked first.kept ≡ true → chip.kept ≡ first.kept
    → ¬ SomeProtected (choice.touched journal chip.bytes) chip

only_stopped_by : (choice : Choice) (journal : Content) (first : Chip) (old new : BusState) (refusal : Refusal) → CanRestore journal first old
    → NeverHeld choice journal first old.chip → ErrorsBy choice journal old new refusal → refusal ≡ Stopped
only_stopped_by choice journal first old new Stopped can free errors = refl
only_stopped_by choice journal first old new NoChip can free errors = cc
only_stopped_by choice journal first old new (UnknownChip fault) can free errors = cc
only_stopped_by choice journal first old new OtherChip can free errors = search arith
only_stopped_by choice journal first old new OtherUnit can free errors = search (arith, unit_not)
only_stopped_by choice journal first old new StatusDiffers can free errors = search (arith, fixed_fits)
only_stopped_by choice journal first old new StatusLocked can free errors =
    let locked : is_locked first.kept ≡ true = sym (locked_same first.kept old.chip.kept can.within.fixed) ∙ errors.holds.0 in
    let stay = can.within.kept (rw locked (and-false first.config.scheme)) in
    absurd (elim errors.holds.1 [
      | inl differs ↦ differs (code_locked journal first old.chip can.saves.bits stay)
      | inr some ↦ free locked stay some
    ])
only_stopped_by choice journal first old new _ can free errors = absurd errors.holds

pub only_stopped : (journal : Content) (first : Chip) (old new : BusState) (refusal : Refusal) → CanRestore journal first old → RestoreErrors journal old new refusal → refusal ≡ Stopped
only_stopped journal first old new refusal can errors =
    only_stopped_by differing journal first old new refusal can
    (λ locked stay. free_held journal first old.chip can.known can.saves can.within.config stay locked can.within.bytes) errors

pub only_stopped_rewriting : (journal : Content) (first : Chip) (old new : BusState) (refusal : Refusal)
    → CanRestore journal first old → CanBeRewritten journal first → ErrorsBy every_saved journal old new refusal
    → refusal ≡ Stopped
only_stopped_rewriting journal first old new refusal can unprotected errors =
    only_stopped_by every_saved journal first old new refusal can
    (λ locked stay some.
    let s = some.sector in
    let same = is_protected-same first old.chip can.within.config stay in
    let held : is_touched_protected (is_saved journal) first s ≡ true =
    rw (same (4096 * s), same (4096 * s + 4096 - 1)) at some.held in
    both_ways _ (unprotected locked s) held) errors
