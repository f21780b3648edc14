use Rattle.std.proofs.Common.{◌≡◌, ◌/◌, ◌∙◌, ◌⊎◌, ℕ, Bool, false, List, [], ap, sym, arith, inl, inr}
use Rattle.std.proofs.lemmas.Bool.{and_left, and_parts, both_ways}
use Rattle.nor_model.specs.Chip.{Chip, IsSame}
use Rattle.nor_model.specs.Bus.{BusState}
use Rattle.nor_journal.specs.Text.{Content}
use Rattle.nor_journal.specs.Saved.{is_saved}
use Rattle.nor_journal.proofs.Saves.{saved_byte-is, Saves-set}
use Rattle.nor_driver.specs.StatusWrites.{fixed_of}
use Rattle.nor_driver.proofs.ReadsInTurn.{same_then}
use Rattle.nor_apply.specs.Within.{is_writable, IsWithin}
use Rattle.nor_geometry.proofs.Counting.{count_below-none}
use Rattle.nor_plan.specs.Content.{is_touched, is_raised}
use Rattle.nor_request.specs.declared.report.Report.{Report}
use Rattle.nor_request.specs.declared.request.Request.{Request}
use Rattle.nor_scan.proofs.Planned.{untouched, unraised}
use Rattle.nor_session.specs.Headline.{SavesChip, open_addresses, CanRestore, CanBeRewritten}
use Rattle.nor_session.specs.Restore.{restored, NeedsStatusFrom, IsRestored}
use Rattle.nor_session.specs.InTurn.{LeavesJournal, LosesPower, MayLosePower, IsTakenUp, ChangesNothing}
use Rattle.nor_session.proofs.RestoredOriginal.{same_as_original, lost_within}
use Rattle.nor_request.specs.Request.{wanted}
use Rattle.nor_scan.specs.Saving.{header_of}
use Rattle.nor_session.proofs.JudgedAgain.{accepted_free}
use Rattle.nor_session.proofs.WrittenBack.{read_back, read_kept, session_over_within}

as_saved : (journal : Content) (first chip : Chip) (a : ℕ) → SavesChip journal first → IsSame first chip → restored journal chip.bytes a ≡ chip.bytes a
as_saved journal first chip a saves same = search (arith, saved_byte-is)

none_touched : (journal : Content) (first chip : Chip) (s : ℕ) → SavesChip journal first → IsSame first chip → is_touched chip.bytes (restored journal chip.bytes) s ≡ false
none_touched journal first chip s saves same = search (arith, as_saved, untouched)

none_raised : (journal : Content) (first chip : Chip) (s : ℕ) → SavesChip journal first → IsSame first chip → is_raised chip.bytes (restored journal chip.bytes) s ≡ false
none_raised journal first chip s saves same = search (arith, as_saved, unraised)

never_needed : (journal : Content) (first chip : Chip) → SavesChip journal first → IsSame first chip → ¬ NeedsStatusFrom journal chip
never_needed journal first chip saves same (inl differs) = search arith
never_needed journal first chip saves same (inr held) = search (arith, and_parts, both_ways, none_touched)

pub changes_nothing : (journal : Content) (first : Chip) (old new : BusState) (report : Report) → SavesChip journal first → IsSame first old.chip → IsRestored journal old new report
    → ChangesNothing journal old new report
changes_nothing journal first old new report saves same done =
    let untouched = λ (s : ℕ). none_touched journal first old.chip s saves same in
    let never = never_needed journal first old.chip saves same in
    let touched = done.reported.sectors ∙ count_below-none 4096 _ (λ s below. untouched s) in
    let least = done.reported.erases.least [] record {
      units = λ k any below. absurd (omega arith);
      union = λ s. sym (none_raised journal first old.chip s saves same);
    } in
    record {
      unsent = done.unsent touched never;
      touched = touched;
      erases = omega arith;
      programs = done.reported.programs
          ∙ count_below-none 65536 _
          (λ page below. and_left (is_touched old.chip.bytes (restored journal old.chip.bytes) (page / 16)) _ (untouched (page / 16)));
      spares = never;
    }

-- Holds if the journal saves the original chip `first`, and `chip` has the configuration of `first` and the same bytes
-- as `first` at all addresses that a restore can't write.
record CanRestoreChip (journal : Content) (first chip : Chip) : Type 0 where
  saves : SavesChip journal first
  config : chip.config ≡ first.config
  bytes : (a : ℕ) → open_addresses journal first a ≡ false → chip.bytes a ≡ first.bytes a

can_restore_chip : (journal : Content) (first : Chip) (state : BusState) → CanRestore journal first state → CanRestoreChip journal first state.chip
can_restore_chip journal first state can = record { saves = can.saves; config = can.within.config; bytes = can.within.bytes }

can_restore_same : (journal : Content) (first new taken : Chip) → CanRestoreChip journal first new → IsSame new taken → CanRestoreChip journal first taken
can_restore_same journal first new taken can same = search arith

pub lost_can_restore : (journal : Content) (first : Chip) (old new : BusState) → CanRestore journal first old → LosesPower old new → CanRestore journal first new
lost_can_restore journal first old new can loses = record {
  known = rw loses.further can.known;
  saves = can.saves;
  within = lost_within (open_addresses journal first) first old new loses.known loses.lost can.within;
}

can_restore_kept : (journal : Content) (first : Chip) (new taken : BusState) → CanRestore journal first new → MayLosePower new taken → CanRestoreChip journal first taken.chip
can_restore_kept journal first new taken can (inl same) = can_restore_same journal first new.chip taken.chip (can_restore_chip journal first new can) same
can_restore_kept journal first new taken can (inr loses) = can_restore_chip journal first taken (lost_can_restore journal first new taken can loses)

kept_chip : (journal : Content) (first : Chip) (new taken : BusState) → SavesChip journal first
    → IsWithin (open_addresses journal first) first new → MayLosePower new taken → CanRestoreChip journal first taken.chip
kept_chip journal first new taken saves within (inl same) =
    can_restore_same journal first new.chip taken.chip (record { saves = saves; config = within.config; bytes = within.bytes }) same
kept_chip journal first new taken saves within (inr loses) =
    let later = lost_within (open_addresses journal first) first new taken loses.known loses.lost within in
    record { saves = saves; config = later.config; bytes = later.bytes }

left_can_restore : (request : Request) (image : List ℕ) (old new : BusState) (journal : Content) → LeavesJournal request image old new journal → CanRestore journal old.chip new
left_can_restore request image old new journal left = search (arith, read_back)

pub left_rewritable : (request : Request) (image : List ℕ) (old new : BusState) (journal : Content)
    → LeavesJournal request image old new journal → CanBeRewritten journal old.chip
left_rewritable request image old new journal left = λ locked s.
    let touched = is_touched old.chip.bytes (wanted request image old.chip) in
    let read = read_kept (header_of old.chip) old.chip.bytes touched journal left.vault.bytes
    (left.undone.journal left.telling) left.whole left.same in
    let same : touched s ≡ is_saved journal s = Saves-set old.chip.bytes touched journal s read.1 in
    rw (← same) (accepted_free old.further request image old.chip left.undone.accepted locked s)

left_taken : (request : Request) (image : List ℕ) (old new taken : BusState) (journal : Content) → LeavesJournal request image old new journal → IsTakenUp old new taken
    → CanRestoreChip journal old.chip taken.chip
left_taken request image old new taken journal left (inl kept) =
    can_restore_kept journal old.chip new taken (left_can_restore request image old new journal left) kept
left_taken request image old new taken journal left (inr over) =
    let both = session_over_within request image old new taken left.vault journal left.modelled left.is left.telling left.undone left.whole left.same over in
    record { saves = both.0; config = both.1.config; bytes = both.1.bytes }

left_reached : (request : Request) (image : List ℕ) (old new taken : BusState) (journal : Content) → LeavesJournal request image old new journal
    → IsTakenUp old new taken ⊎ CanRestore journal old.chip taken → CanRestoreChip journal old.chip taken.chip
left_reached request image old new taken journal left (inl up) = left_taken request image old new taken journal left up
left_reached request image old new taken journal left (inr can) = can_restore_chip journal old.chip taken can

restored_same : (journal : Content) (first : Chip) (old new : BusState) (report : Report) → CanRestoreChip journal first old.chip → IsRestored journal old new report → IsSame first new.chip
restored_same journal first old new report can done = search (arith, same_as_original)

idle_again : (p : ℕ → Bool) (first : Chip) (old new : BusState) → IsWithin p first old → IsSame old.chip new.chip → new.chip.busy ≡ 0 → IsWithin p first new
idle_again p first old new within same idle =
    let fixed = ap fixed_of same.kept ∙ within.fixed in
    let kept = λ (shut : is_writable first ≡ false). same.kept ∙ within.kept shut in
    search arith

taken_within : (request : Request) (image : List ℕ) (old mid mid' back : BusState) (journal : Content) → LeavesJournal request image old mid journal → IsTakenUp old mid mid'
    → IsSame mid'.chip back.chip → back.chip.busy ≡ 0 → IsWithin (open_addresses journal old.chip) old.chip back
taken_within request image old mid mid' back journal left (inl (inl same)) again idle =
    idle_again _ old.chip mid back (left_can_restore request image old mid journal left).within (same_then _ _ _ same again) idle
taken_within request image old mid mid' back journal left (inl (inr loses)) again idle =
    idle_again _ old.chip mid' back (lost_can_restore journal old.chip mid mid' (left_can_restore request image old mid journal left) loses).within again idle
taken_within request image old mid mid' back journal left (inr over) again idle =
    idle_again _ old.chip mid' back
    (session_over_within request image old mid mid' left.vault journal left.modelled left.is left.telling left.undone left.whole left.same over).1 again idle

pub later_undone : (request later : Request) (image later_image : List ℕ) (old mid mid' new new' back : BusState) (journal other : Content) (report : Report)
    → LeavesJournal request image old mid journal → IsTakenUp old mid mid' → LeavesJournal later later_image mid' new other → IsTakenUp mid' new new' ⊎ CanRestore other mid'.chip new'
    → IsRestored other new' back report → back.further ≡ old.further → CanRestore journal old.chip back
later_undone request later image later_image old mid mid' new new' back journal other report first passed second gone undone kept =
    let can = left_can_restore request image old mid journal first in
    let same = restored_same other mid'.chip new' back report (left_reached later later_image mid' new new' other second gone) undone in
    record {
      known = rw (kept ∙ sym first.undone.further) can.known;
      saves = can.saves;
      within = taken_within request image old mid mid' back journal first passed same undone.made.idle;
    }

pub both_undone : (request later : Request) (image later_image : List ℕ) (old mid mid' new new' back back' end : BusState) (journal other : Content) (report last : Report)
    → LeavesJournal request image old mid journal → IsTakenUp old mid mid' → LeavesJournal later later_image mid' new other → IsTakenUp mid' new new' ⊎ CanRestore other mid'.chip new'
    → IsRestored other new' back report → MayLosePower back back' ⊎ CanRestore journal old.chip back' → IsRestored journal back' end last → IsSame old.chip end.chip
both_undone request later image later_image old mid mid' new new' back back' end journal other report last first passed second gone undone kept again =
    let can = left_can_restore request image old mid journal first in
    let again_same = restored_same other mid'.chip new' back report (left_reached later later_image mid' new new' other second gone) undone in
    let within = taken_within request image old mid mid' back journal first passed again_same undone.made.idle in
    restored_same journal old.chip back' end last
    (elim kept [
      | inl may ↦ kept_chip journal old.chip back back' can.saves within may
      | inr still_can ↦ can_restore_chip journal old.chip back' still_can
    ])
    again
