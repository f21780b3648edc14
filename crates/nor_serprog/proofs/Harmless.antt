-- Lemmas about harmless calls of a port (`IsHarmless`).
use Rattle.std.proofs.Common.{◌≡◌, ◌∙◌, ◌⊎◌, inl, inr, ℕ, List, [], ◌∷◌, refl, ap}
use Rattle.std.specs.Prelude.{Result, Ok, Err, OnOk, OnErr}
use Rattle.std.proofs.lemmas.List.Elements.{All-cons}
use Rattle.nor_serprog.specs.Asked.{AsksSync, nop_row}
use Rattle.nor_serprog.specs.Frame.{FitsFrame, frame_of}
use Rattle.nor_serprog.specs.Harmless.{IsHarmless, ModifiesNothing, StaysHarmless}
use Rattle.nor_serprog.specs.declared.command.Command.{Command}
use Rattle.nor_serprog.proofs.Framed.{first_nops, row_nops}

pub harmless_call : (old new : List (List ℕ)) (argument : List ℕ) → IsHarmless argument → new ≡ argument ∷ old
    → StaysHarmless old new
harmless_call old new argument is asks start h = record {
  later = argument ∷ h.later;
  since = asks ∙ ap (λ (calls : List (List ℕ)). argument ∷ calls) h.since;
  harmless = All-cons IsHarmless argument h.later is h.harmless;
}

pub harmless_same : (old new : List (List ℕ)) → new ≡ old → StaysHarmless old new
harmless_same old new same start h = record {
  later = h.later;
  since = same ∙ h.since;
  harmless = h.harmless;
}

pub harmless_sync : (old new : List (List ℕ)) → AsksSync old new → StaysHarmless old new
harmless_sync old new (inl same) = harmless_same old new same
harmless_sync old new (inr (inl once)) = harmless_call old new (0x00 ∷ []) (inl first_nops) once
harmless_sync old new (inr (inr twice)) = λ start h.
    harmless_call ((0x00 ∷ []) ∷ old) new nop_row (inl row_nops) twice start
    (harmless_call old ((0x00 ∷ []) ∷ old) (0x00 ∷ []) (inl first_nops) refl start h)

pub harmless_exchange : {L T E : Type 0} (asked : L → List (List ℕ)) (old new : L) (command : Command)
    (result : Result T E) → ModifiesNothing command → OnOk result (FitsFrame command)
    → OnErr result ((new ≡ old) ⊎ FitsFrame command) → OnOk result (asked new ≡ frame_of command ∷ asked old)
    → OnErr result ((new ≡ old) ⊎ (asked new ≡ frame_of command ∷ asked old)) → StaysHarmless (asked old) (asked new)
harmless_exchange asked old new command (Ok value) nothing fits refused sent failed =
    harmless_call (asked old) (asked new) (frame_of command) (inr (command, (nothing, (fits, refl)))) sent
harmless_exchange asked old new command (Err error) nothing fits (inl same) sent failed =
    harmless_same (asked old) (asked new) (ap asked same)
harmless_exchange asked old new command (Err error) nothing fits (inr fit) sent (inl same) =
    harmless_same (asked old) (asked new) (ap asked same)
harmless_exchange asked old new command (Err error) nothing fits (inr fit) sent (inr failed) =
    harmless_call (asked old) (asked new) (frame_of command) (inr (command, (nothing, (fit, refl)))) failed
