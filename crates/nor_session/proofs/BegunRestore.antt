-- No journal is a prefix of another, so a journal in an unsealed vault is the only one that the session can write.
use Rattle.std.proofs.Common.{◌≡◌, ◌∙◌, ℕ, List, sym, inl, inr}
use Rattle.nor_model.specs.Bus.{BusState}
use Rattle.nor_model.specs.Chip.{IsChip, IsSame}
use Rattle.nor_request.specs.Request.{wanted}
use Rattle.nor_plan.specs.Content.{is_touched}
use Rattle.nor_journal.specs.Text.{Content, IsContent, text}
use Rattle.nor_journal.proofs.WholeJournals.{never_empty, begins_all_of_it}
use Rattle.nor_apply.proofs.Changing.{same_within}
use Rattle.nor_request.specs.declared.request.Request.{Request}
use Rattle.nor_probe.specs.Known.{IsModelled}
use Rattle.nor_scan.specs.Saving.{header_of}
use Rattle.nor_session.specs.Headline.{CanRestore, open_addresses}
use Rattle.nor_session.specs.Session.{HoldsBegun}
use Rattle.nor_session.proofs.RestoresOriginal.{saves_chip}

pub begun_restores : (request : Request) (image : List ℕ) (old new : BusState) (bytes : List ℕ) (journal : Content) → IsModelled old → IsChip old.chip → HoldsBegun old.further request image old.chip bytes
    → IsContent journal → bytes ≡ text journal → IsSame old.chip new.chip → new.chip.busy ≡ 0 → new.further ≡ old.further → CanRestore journal old.chip new
begun_restores request image old new bytes journal modelled chip (inl none) is read same idle kept = absurd (never_empty journal (sym read ∙ none))
begun_restores request image old new bytes journal modelled chip (inr begun) is read same idle kept =
    let returned = begins_all_of_it (header_of old.chip) old.chip.bytes (is_touched old.chip.bytes (wanted request image old.chip)) bytes journal begun.1 is read in
    record {
      known = rw kept (record { genuine = modelled.genuine; shown = rw begun.0.shown });
      saves = saves_chip old.chip (is_touched old.chip.bytes (wanted request image old.chip)) journal chip.kept2 returned.0 returned.1;
      within = same_within (open_addresses journal old.chip) old.chip new same idle;
    }
