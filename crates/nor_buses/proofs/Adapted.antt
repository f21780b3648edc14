-- Lemmas: over a well-behaved bus, an `OtherMakers` changes no reply of a chip with an ID of `rows` and a unique ID.
use Rattle.std.proofs.Common.{◌≡◌, ◌∙◌, ◌&&◌, ℕ, Bool, true, false, List, [], ◌∷◌, length, refl, sym, ap, subst, arith}
use Rattle.std.specs.Prelude.{◌==◌, not, bytes_eq}
use Rattle.std.proofs.lemmas.Bool.{false≢true, and_parts, eqb-true}
use Rattle.nor_model.specs.declared.config.Config.{Config}
use Rattle.nor_model.specs.declared.command.Command.TheVariants.{ReadId, ReadUnique}
use Rattle.nor_model.specs.Chip.{Chip}
use Rattle.nor_model.specs.Step.{Step, Does}
use Rattle.nor_model.specs.Bus.{BusState, Carries}
use Rattle.nor_buses.specs.Keeps.{KeepsAll}
use Rattle.nor_buses.specs.Listed.{is_id_listed}
use Rattle.nor_buses.specs.Adapted.{chip_unique, has_no_row, is_missing, is_unique_read, keeps_replies, unanswered, IsIdOf}
use Rattle.nor_buses.specs.Twice.{begins_read}
use Rattle.nor_buses.proofs.SameReply.{read_of}
use Rattle.nor_buses.proofs.SomeChips.{id_if_idle}

three : {a b c x y z : ℕ} → a ≡ x → b ≡ y → c ≡ z → (a ∷ b ∷ c ∷ []) ≡ (x ∷ y ∷ z ∷ [])
three p q r = λ i. p i ∷ q i ∷ r i ∷ []

unanswered_by : (idle : Bool) {old new : Chip} {a b c : ℕ} → (idle ≡ true → ⊥)
    → Does (read_of idle ReadId) [] old (a ∷ b ∷ c ∷ []) new → (a ∷ b ∷ c ∷ []) ≡ unanswered
unanswered_by true busy does = absurd (busy refl)
unanswered_by false busy does =
    three (does.replies 0 (omega arith)) (does.replies 1 (omega arith)) (does.replies 2 (omega arith))

pub id_read : (id : List ℕ) (old new : BusState) → length id ≡ 3
    → (old.honest ≡ true → Carries (0x9F ∷ []) id old new) → IsIdOf id old
id_read [] old new len carries = absurd (omega (arith, len))
id_read (a ∷ []) old new len carries = absurd (omega (arith, len))
id_read (a ∷ b ∷ []) old new len carries = absurd (omega (arith, len))
id_read (a ∷ b ∷ c ∷ []) old new len carries = record {
  idle = λ honest idle. id_if_idle {old = old.chip} {new = new.chip} idle (carries honest).step;
  busy = λ honest busy.
      unanswered_by (old.chip.busy == 0) {old = old.chip} {new = new.chip}
      (λ idle. busy (eqb-true old.chip.busy 0 idle)) (carries honest).step;
}
id_read (a ∷ b ∷ c ∷ d ∷ rest) old new len carries = absurd (omega (arith, len))

eight : {a b c d e f g h s t u v w x y z : ℕ} → a ≡ s → b ≡ t → c ≡ u → d ≡ v → e ≡ w → f ≡ x → g ≡ y → h ≡ z
    → (a ∷ b ∷ c ∷ d ∷ e ∷ f ∷ g ∷ h ∷ []) ≡ (s ∷ t ∷ u ∷ v ∷ w ∷ x ∷ y ∷ z ∷ [])
eight p q r s t u v w = λ i. p i ∷ q i ∷ r i ∷ s i ∷ t i ∷ u i ∷ v i ∷ w i ∷ []

unique_by : {old new : Chip} (out raw : List ℕ) → length raw ≡ 8 → Does (read_of true ReadUnique) out old raw new
    → raw ≡ chip_unique old.config
unique_by out [] len does = absurd (omega (arith, len))
unique_by out (a ∷ []) len does = absurd (omega (arith, len))
unique_by out (a ∷ b ∷ []) len does = absurd (omega (arith, len))
unique_by out (a ∷ b ∷ c ∷ []) len does = absurd (omega (arith, len))
unique_by out (a ∷ b ∷ c ∷ d ∷ []) len does = absurd (omega (arith, len))
unique_by out (a ∷ b ∷ c ∷ d ∷ e ∷ []) len does = absurd (omega (arith, len))
unique_by out (a ∷ b ∷ c ∷ d ∷ e ∷ f ∷ []) len does = absurd (omega (arith, len))
unique_by out (a ∷ b ∷ c ∷ d ∷ e ∷ f ∷ g ∷ []) len does = absurd (omega (arith, len))
unique_by out (a ∷ b ∷ c ∷ d ∷ e ∷ f ∷ g ∷ h ∷ []) len does =
    eight (does.replies 0 (omega arith)) (does.replies 1 (omega arith)) (does.replies 2 (omega arith))
    (does.replies 3 (omega arith)) (does.replies 4 (omega arith)) (does.replies 5 (omega arith))
    (does.replies 6 (omega arith)) (does.replies 7 (omega arith))
unique_by out (a ∷ b ∷ c ∷ d ∷ e ∷ f ∷ g ∷ h ∷ i ∷ rest) len does = absurd (omega (arith, len))

missing_len : (raw : List ℕ) → is_missing raw ≡ true → length raw ≡ 8
missing_len raw missing = eqb-true (length raw) 8 (and_parts _ _ missing).0

unique_step : (opcode w x y z : ℕ) (raw : List ℕ) {old new : Chip} → opcode ≡ 0x4B → old.busy ≡ 0 → length raw ≡ 8
    → Step old (opcode ∷ w ∷ x ∷ y ∷ z ∷ []) raw new → raw ≡ chip_unique old.config
unique_step opcode w x y z raw {old} {new} is idle len step =
    let read : Step old (0x4B ∷ w ∷ x ∷ y ∷ z ∷ []) raw new =
    subst (λ (n : ℕ). Step old (n ∷ w ∷ x ∷ y ∷ z ∷ []) raw new) is step in
    unique_by (z ∷ []) raw len
    (subst (λ (is : Bool). Does (read_of is ReadUnique) (z ∷ []) old raw new)
    (ap (λ (n : ℕ). n == 0) idle) read)

-- If the chip has a unique ID, but a read of the unique ID returned eight bytes FFh or 00h (`raw`), the chip is busy.
pub unique_busy : (rows : List (List ℕ)) (out raw : List ℕ) (old new : Chip) → is_unique_read out ≡ true
    → is_missing raw ≡ true → keeps_replies rows old.config ≡ true → Step old out raw new → old.busy ≡ 0 → ⊥
unique_busy rows [] raw old new reads missing keeps step idle = false≢true reads
unique_busy rows (opcode ∷ []) raw old new reads missing keeps step idle = false≢true reads
unique_busy rows (opcode ∷ w ∷ []) raw old new reads missing keeps step idle = false≢true reads
unique_busy rows (opcode ∷ w ∷ x ∷ []) raw old new reads missing keeps step idle = false≢true reads
unique_busy rows (opcode ∷ w ∷ x ∷ y ∷ []) raw old new reads missing keeps step idle = false≢true reads
unique_busy rows (opcode ∷ w ∷ x ∷ y ∷ z ∷ []) raw old new reads missing keeps step idle =
    let same = unique_step opcode w x y z raw {old = old} {new = new} (eqb-true opcode 0x4B reads) idle
    (missing_len raw missing) step in
    let none : is_missing (chip_unique old.config) ≡ true =
    subst (λ (unique : List ℕ). is_missing unique ≡ true) same missing in
    false≢true (ap (λ (is : Bool). not is) (sym none) ∙ (and_parts _ _ keeps).1)
unique_busy rows (opcode ∷ w ∷ x ∷ y ∷ z ∷ more ∷ rest) raw old new reads missing keeps step idle = false≢true reads

pub unique_reads : (out : List ℕ) → is_unique_read out ≡ true → begins_read out ≡ true
unique_reads [] reads = absurd (false≢true reads)
unique_reads (opcode ∷ []) reads = absurd (false≢true reads)
unique_reads (opcode ∷ w ∷ []) reads = absurd (false≢true reads)
unique_reads (opcode ∷ w ∷ x ∷ []) reads = absurd (false≢true reads)
unique_reads (opcode ∷ w ∷ x ∷ y ∷ []) reads = absurd (false≢true reads)
unique_reads (opcode ∷ w ∷ x ∷ y ∷ z ∷ []) reads =
    ap (λ (n : ℕ). begins_read (n ∷ w ∷ x ∷ y ∷ z ∷ [])) (eqb-true opcode 0x4B reads)
unique_reads (opcode ∷ w ∷ x ∷ y ∷ z ∷ more ∷ rest) reads = absurd (false≢true reads)

and_not : (a b : Bool) → b ≡ true → (a && not b) ≡ false
and_not true true is = refl
and_not false b is = refl
and_not true false is = absurd (false≢true is)

no_row_if : (rows : List (List ℕ)) (id : List ℕ) → is_id_listed rows id ≡ true → has_no_row rows id ≡ false
no_row_if rows id listed = and_not (not (bytes_eq id unanswered)) (is_id_listed rows id) listed

row_by : (busy : Bool) (rows : List (List ℕ)) (id : List ℕ) (inside : BusState) → (inside.chip.busy == 0) ≡ busy
    → inside.honest ≡ true → keeps_replies rows inside.chip.config ≡ true → IsIdOf id inside
    → has_no_row rows id ≡ false
row_by true rows id inside idle honest keeps is =
    let same = is.idle honest (eqb-true inside.chip.busy 0 idle) in
    no_row_if rows id (ap (λ (one : List ℕ). is_id_listed rows one) same ∙ (and_parts _ _ keeps).0)
row_by false rows id inside busy honest keeps is =
    ap (λ (one : List ℕ). has_no_row rows one)
    (is.busy honest (λ idle. false≢true (sym busy ∙ ap (λ (n : ℕ). n == 0) idle)))

pub has_row : (rows : List (List ℕ)) (id : List ℕ) (inside : BusState) → inside.honest ≡ true
    → keeps_replies rows inside.chip.config ≡ true → IsIdOf id inside → has_no_row rows id ≡ false
has_row rows id inside honest keeps is = row_by (inside.chip.busy == 0) rows id inside refl honest keeps is

pub absurd_row : (rows : List (List ℕ)) (id : List ℕ) (inside : BusState) → inside.honest ≡ true
    → keeps_replies rows inside.chip.config ≡ true → IsIdOf id inside → has_no_row rows id ≡ true → ⊥
absurd_row rows id inside honest keeps is none = false≢true (sym (has_row rows id inside honest keeps is) ∙ none)

pub replies_same : {rows rows' : List (List ℕ)} {config config' : Config} → rows' ≡ rows → config' ≡ config
    → keeps_replies rows' config' ≡ keeps_replies rows config
replies_same rows config = λ i. keeps_replies (rows i) (config i)

pub still_busy : {old mid : BusState} → KeepsAll old mid → (old.chip.busy ≡ 0 → ⊥) → mid.chip.busy ≡ 0 → ⊥
still_busy keeps busy idle = busy (ap (λ (chip : Chip). chip.busy) (sym keeps.chip) ∙ idle)

pub answered_not : (id : List ℕ) → bytes_eq id unanswered ≡ false → id ≡ unanswered → ⊥
answered_not id differs same = false≢true (sym differs ∙ ap (λ (one : List ℕ). bytes_eq one unanswered) same)
