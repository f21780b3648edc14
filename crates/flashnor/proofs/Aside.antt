-- A file of the chip that is moved aside between two runs, and what a run reads of the files that are left.
use Rattle.std.proofs.Common.{◌≡◌, ◌+◌, ℕ, Option, None, Some}
use Rattle.std.proofs.Common.{◌⊎◌, IfSome, arith, inl, inr, length, option_map, refl, sym, take}
use Rattle.std.specs.Borrow.{Bor}
use Rattle.std.proofs.lemmas.List.{length-take, take_all}
use Rattle.nor_model.specs.Bus.{BusState}
use Rattle.nor_model.specs.Chip.{Chip}
use Rattle.nor_files.specs.Files.{AreAtRest, FilesState, Found, Name}
use Rattle.nor_journal.specs.Text.{Content as Journal}
use Rattle.nor_session.specs.Headline.{CanRestore}
use Rattle.nor_args.specs.Text.{Text}
use Rattle.nor_session.proofs.WrittenBack.{known_kept}
use Rattle.flashnor.specs.Left.{LeavesAsLong, MayFind}
use Rattle.nor_console.specs.Stored.{IsFileFound}
use Rattle.flashnor.specs.Undone.{NameOne}
use Rattle.flashnor.proofs.Stays.{known_at_rest}

whole_seen : (len : ℕ) (seen found : Found) → found ≡ option_map (take (len + 1)) seen
    → IfSome found (λ all. length all ≡ len) → found ≡ seen
whole_seen len seen found is whole = grind (arith, take_all, length-take)

pub left_seen : (files : FilesState) → AreAtRest files → ((name : Name) → files.may_leave name (files.view.seen name))
    → (name : Option (Bor Text)) (len : ℕ) (found : Found) → IsFileFound files.view name len found
    → IfSome found (λ all. length all ≡ len) → (was : Found) → MayFind name was found files
left_seen files rest may_stay None len found is whole was = is
left_seen files rest may_stay (Some name) len found is whole was =
    inl (rw (whole_seen len (files.view.seen name.now) found (is (known_at_rest rest name.now)) whole) (may_stay name.now))

aside_of : (other : Bor Text) (was found left : Found) (len : ℕ) (mid new : FilesState) → AreAtRest mid
    → ((name : Name) → new.may_leave name (new.view.seen name)) → IsFileFound mid.view (Some other) len found
    → IfSome found (λ all. length all ≡ len) → LeavesAsLong (Some other) mid new → (was ≡ None) × (left ≡ None)
    → (kept : Found) × MayFind (Some other) found kept new × IfSome kept (λ all. length all ≡ len)
    × ((left ≡ kept) ⊎ ((was ≡ None) × (left ≡ None)))
aside_of other was None left len mid new rest may_stay is whole long aside = (None, inr (refl, refl), tt, inr aside)
aside_of other was (Some all) left len mid new rest may_stay is whole long aside =
    let seen = whole_seen len (mid.view.seen other.now) (Some all) (is (known_at_rest rest other.now)) whole in
    let has = new.view.seen other.now in
    (has, inl (may_stay other.now), grind (arith, long all (sym seen) has (may_stay other.now)), inr aside)

pub pick : (one other : Option (Bor Text)) (was found left : Found) (len : ℕ) (mid new : FilesState) → NameOne one other
    → AreAtRest mid → ((name : Name) → new.may_leave name (new.view.seen name)) → IsFileFound mid.view other len found
    → IfSome found (λ all. length all ≡ len) → LeavesAsLong other mid new → MayFind one was left new
    → IfSome left (λ all. length all ≡ len)
    → (kept : Found) × MayFind other found kept new × IfSome kept (λ all. length all ≡ len)
    × ((left ≡ kept) ⊎ ((was ≡ None) × (left ≡ None)))
pick None None was found left len mid new same rest may_stay is whole long can fits = (left, can, fits, inl refl)
pick (Some one) (Some other) was found left len mid new same rest may_stay is whole long can fits = elim can [
  | inl may ↦ (left, inl (rw same may), fits, inl refl)
  | inr aside ↦ aside_of other was found left len mid new rest may_stay is whole long aside
]
pick _ _ was found left len mid new same rest may_stay is whole long can fits = absurd same

pub mixed_can_restore : (journal : Journal) (first : Chip) (state later : BusState) → CanRestore journal first state
    → later.further ≡ state.further → later.chip.config ≡ first.config
    → ((a : ℕ) → (later.chip.bytes a ≡ state.chip.bytes a) ⊎ (later.chip.bytes a ≡ first.bytes a))
    → (later.chip.kept ≡ state.chip.kept) ⊎ (later.chip.kept ≡ first.kept) → later.chip.busy ≡ 0
    → CanRestore journal first later
mixed_can_restore journal first state later can further config bytes kept idle =
    let known = known_kept first further can.known in grind arith
