use Rattle.std.proofs.Common.{◌≡◌, ◌∙◌, ◌==◌, ℕ, Bool, true, false, true≢false, arith, None, Ok, List, [], ◌∷◌, refl, sym}
use Rattle.std.proofs.lemmas.Bool.{eqb-true}
use Rattle.nor_model.specs.Exchange.{Exchange}
use Rattle.nor_model.specs.History.{Continues, KeepsReplies, Answered, last_reply, begins_with, names}
use Rattle.nor_model.specs.PolledReady.{is_poll}
use Rattle.nor_model.proofs.Histories.{answered_keeps, answered_last, keeps_replies_less, continues_refl, continues_then}
use Rattle.nor_probe.specs.declared.probes.Found.{Found}
use Rattle.nor_probe.specs.declared.sfdp.Geometry.{Geometry}
use Rattle.nor_probe.specs.Known.{part_in, sfdp_part}
use Rattle.nor_probe.specs.Sfdp.{sfdp_says}
use Rattle.nor_probe.specs.Table.{part_for}
use Rattle.nor_probe.specs.Replied.{RepliedSfdp, IsTypeBySfdp, IsFoundBy}

pub names_begins : (opcode address : ℕ) (out : List ℕ) → names opcode address out ≡ true → begins_with opcode out ≡ true
names_begins opcode address [] is = is
names_begins opcode address (first ∷ []) is = absurd (true≢false (sym is))
names_begins opcode address (first ∷ x ∷ []) is = absurd (true≢false (sym is))
names_begins opcode address (first ∷ x ∷ y ∷ []) is = absurd (true≢false (sym is))
names_begins opcode address (first ∷ x ∷ y ∷ z ∷ rest) is = grind arith

pub sfdp_keeps : (address : ℕ) {old new : List Exchange} {reply : List ℕ} → Answered (names 0x5A address) old new reply
    → KeepsReplies (begins_with 0x5A) old new
sfdp_keeps address answered = keeps_replies_less (answered_keeps answered) (names_begins 0x5A address)

pub type_by_sfdp : {history : List Exchange} {header first table : List ℕ} {geometry : Geometry}
    → RepliedSfdp history header first table → sfdp_says header first table ≡ Ok geometry
    → (with_id : List ℕ) → IsTypeBySfdp history (sfdp_part with_id geometry)
type_by_sfdp {history} replied says with_id = record {
  read = history;
  later = continues_refl history;
  header = _;
  first = _;
  table = _;
  replied = replied;
  geometry = _;
  says = says;
  is = refl;
}

pub other_opcode : (opcode other : ℕ) → (opcode == other) ≡ false → (out : List ℕ) → begins_with opcode out ≡ true
    → begins_with other out ≡ false
other_opcode opcode other differs [] is = refl
other_opcode opcode other differs (first ∷ rest) is = rw (eqb-true first opcode is) differs

pub no_poll : (opcode : ℕ) → (opcode == 0x05) ≡ false → (out : List ℕ) → begins_with opcode out ≡ true → is_poll out ≡ false
no_poll opcode differs [] is = refl
no_poll opcode differs (first ∷ []) is = rw (eqb-true first opcode is) differs
no_poll opcode differs (first ∷ x ∷ rest) is = refl

pub found_by : {further : Bool} {polled read new : List Exchange} (found : Found)
    → last_reply is_poll polled ≡ found.status1 ∷ []
    → Answered (begins_with 0x9F) polled read found.id → KeepsReplies (begins_with 0x5A) read new
    → (part_for further found.id ≡ None → IsTypeBySfdp new (part_in found)) → IsFoundBy further new found
found_by found status answered keeps by_sfdp = record {
  id = keeps.same (begins_with 0x9F) (other_opcode 0x5A 0x9F refl) ∙ answered_last answered;
  status1 = keeps.same is_poll (no_poll 0x5A refl)
      ∙ (answered_keeps answered).same is_poll (no_poll 0x9F refl) ∙ status;
  by_sfdp = by_sfdp;
}

pub found_later : {further : Bool} {old new : List Exchange} {found : Found} → Continues old new
    → last_reply (begins_with 0x9F) new ≡ last_reply (begins_with 0x9F) old → last_reply is_poll new ≡ last_reply is_poll old
    → IsFoundBy further old found → IsFoundBy further new found
found_later continues id status was = record {
  id = id ∙ was.id;
  status1 = status ∙ was.status1;
  by_sfdp = λ unlisted. let by = was.by_sfdp unlisted in record {
    read = by.read;
    later = continues_then by.later continues;
    header = by.header;
    first = by.first;
    table = by.table;
    replied = by.replied;
    geometry = by.geometry;
    says = by.says;
    is = by.is;
  };
}
