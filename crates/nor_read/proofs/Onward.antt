use Rattle.std.proofs.Common.{◌≡◌, ◌*◌, ◌∙◌, ◌∷◌, ◌++◌, ℕ, Bool, List, [], ap, refl, subst, sym}
use Rattle.std.specs.List.{All}
use Rattle.std.proofs.lemmas.List.{append_assoc}
use Rattle.std.proofs.lemmas.List.Elements.{All-append, All-head, All-tail}
use Rattle.nor_model.specs.Exchange.{Exchange}
use Rattle.nor_model.specs.History.{Continues, KeepsReplies, begins_with}
use Rattle.nor_model.specs.PolledReady.{is_poll}
use Rattle.nor_model.proofs.Histories.{continues_then, keeps_replies_none, keeps_replies_by, keeps_replies_then}
use Rattle.nor_driver.specs.ReadBack.{IsSectorRead, AddsSectorReads}
use Rattle.nor_probe.specs.declared.probes.Found.{Found}
use Rattle.nor_probe.specs.Replied.{IsFoundBy}
use Rattle.nor_probe.proofs.Replied.{names_begins, other_opcode, no_poll, found_later}
use Rattle.nor_read.specs.Verifying.{HasReadAt}

pub adds_is : {old mid new : List Exchange} (first : AddsSectorReads old mid) (second : AddsSectorReads mid new)
    → new ≡ (second.later ++ first.later) ++ old
adds_is {old} first second = second.is ∙ ap (λ (h : List Exchange). second.later ++ h) first.is
    ∙ sym (append_assoc second.later first.later old)

adds_then : {old mid new : List Exchange} → AddsSectorReads old mid → AddsSectorReads mid new → AddsSectorReads old new
adds_then first second = record {
  later = second.later ++ first.later;
  is = adds_is first second;
  each = All-append IsSectorRead second.later first.later second.each first.each;
}

pub read_after : {address : ℕ} {old mid new : List Exchange} → Continues old mid → HasReadAt address mid new
    → HasReadAt address old new
read_after first has =
    record { at = has.at; read = has.read; since = continues_then first has.since; later = has.later }

pub read_then : {address : ℕ} {old mid new : List Exchange} → HasReadAt address old mid → AddsSectorReads mid new
    → HasReadAt address old new
read_then has more = record { at = has.at; read = has.read; since = has.since; later = adds_then has.later more }

reads_keep : (later old : List Exchange) → All IsSectorRead later → KeepsReplies (begins_with 0x03) old (later ++ old)
reads_keep [] old each = keeps_replies_none old
reads_keep (exchange ∷ rest) old each =
    let read = All-head IsSectorRead exchange rest each in
    keeps_replies_then (reads_keep rest old (All-tail IsSectorRead exchange rest each))
    (keeps_replies_by refl (names_begins 0x03 (4096 * read.sector) exchange.out read.reads))

pub found_still : {further : Bool} {old new : List Exchange} {found : Found} → AddsSectorReads old new
    → IsFoundBy further old found → IsFoundBy further new found
found_still {old = old} adds was =
    let keeps = subst (KeepsReplies (begins_with 0x03) old) (sym adds.is) (reads_keep adds.later old adds.each) in
    found_later (record { later = adds.later; is = adds.is }) (keeps.same _ (other_opcode 0x03 0x9F refl))
    (keeps.same is_poll (no_poll 0x03 refl)) was
