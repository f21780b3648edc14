-- While a write enable is held back, an idle chip's latch counts as set, so sending the write enable changes nothing.
use Rattle.std.proofs.Common.{◌≡◌, ◌∙◌, ◌⊎◌, ◌<◌, ℕ, zero, suc, Bool, true, false, List, [], ◌∷◌, length, take, drop, refl, sym, ap, subst, arith, inl, inr}
use Rattle.std.specs.Prelude.{◌==◌, ◌||◌, slice_index, if◌then◌else◌}
use Rattle.std.proofs.lemmas.Bool.{cases_Bool}
use Rattle.std.proofs.Math.Bool.{or-false}
use Rattle.std.proofs.Math.Path.{fun_ext}
use Rattle.std.proofs.Math.Seq.{take-nil}
use Rattle.nor_model.specs.declared.config.Config.{Config}
use Rattle.nor_model.specs.declared.command.Command.{Command}
use Rattle.nor_model.specs.declared.command.Command.TheVariants.{WriteEnable, Ignored}
use Rattle.nor_model.specs.declared.running.Running.{Running}
use Rattle.nor_model.specs.Chip.{Chip, KeptBits}
use Rattle.nor_model.specs.Step.{Does, Step, determined, done_of, is_carried_out, is_idle, wears}
use Rattle.nor_model.proofs.Steps.{determined_as}
use Rattle.nor_serprog.specs.Device.{Device, StepsOnce}
use Rattle.nor_serprog.specs.Enabled.{enabled, enabled_device, SameChipOf}

pub same_chip : (a b : Chip) → a.config ≡ b.config → ((x : ℕ) → a.bytes x ≡ b.bytes x) → a.kept ≡ b.kept
    → a.latch ≡ b.latch → a.busy ≡ b.busy → a.running ≡ b.running → a ≡ b
same_chip a b config bytes kept latch busy running =
    ap (λ (v : Config). record a { config = v }) config
    ∙ ap (λ (v : ℕ → ℕ). record a { config = b.config; bytes = v }) (fun_ext bytes)
    ∙ ap (λ (v : KeptBits). record a { config = b.config; bytes = b.bytes; kept = v }) kept
    ∙ ap (λ (v : Bool). record a { config = b.config; bytes = b.bytes; kept = b.kept; latch = v }) latch
    ∙ ap (λ (v : ℕ). record b { busy = v; running = a.running }) busy
    ∙ ap (λ (v : Running). record b { running = v }) running

ignored : (old new : Chip) (out answer : List ℕ) → Does Ignored out old answer new → new ≡ old
ignored old new out answer d = same_chip new old d.config d.bytes d.kept d.latch d.busy d.running

enables : (old new : Chip) (out answer : List ℕ) → is_idle old ≡ true → Does WriteEnable out old answer new
    → new ≡ enabled true old
enables old new out answer idle d =
    let set : new.latch ≡ (enabled true old).latch = d.latch ∙ sym (ap (λ (b : Bool). b || old.latch) idle) in
    same_chip new (enabled true old) d.config d.bytes d.kept set d.busy d.running

pub busy_same : (chip : Chip) → is_idle chip ≡ false → chip ≡ enabled true chip
busy_same chip busy =
    let kept : chip.latch ≡ (enabled true chip).latch = sym (ap (λ (b : Bool). b || chip.latch) busy) in
    same_chip chip (enabled true chip) refl (λ x. refl) refl kept refl refl

abbrev pub MayEnable : Chip → Command → Type 0
MayEnable chip command = (command ≡ Ignored) ⊎ ((command ≡ WriteEnable) × (is_idle chip ≡ true))

carried_if : (idle : Bool) → ((if idle then WriteEnable else Ignored) ≡ Ignored)
    ⊎ (((if idle then WriteEnable else Ignored) ≡ WriteEnable) × (idle ≡ true))
carried_if true = inr (refl, refl)
carried_if false = inl refl

done_enable : (chip : Chip) (replies : ℕ) → MayEnable chip (done_of chip (0x06 ∷ []) replies)
done_enable chip replies =
    let done : Bool → Command = λ b.
    let command : Command = if b then WriteEnable else Ignored in
    if is_carried_out chip command then command else Ignored in
    elim (replies == 0) as (λ b. MayEnable chip (done b)) [ true ↦ carried_if (is_idle chip) | false ↦ inl refl ]

pub done_first : (chip : Chip) (count replies : ℕ) → MayEnable chip (done_of chip (take count (0x06 ∷ [])) replies)
done_first chip zero replies = inl refl
done_first chip (suc n) replies =
    let all : take (suc n) (0x06 ∷ []) ≡ 0x06 ∷ [] = ap (λ (t : List ℕ). 0x06 ∷ t) (take-nil n) in
    subst (λ (o : List ℕ). MayEnable chip (done_of chip o replies)) (sym all) (done_enable chip replies)

pub reached_by : (out answer : List ℕ) (old new : Chip) → MayEnable old (done_of old out (length answer))
    → Step old out answer new → (new ≡ old) ⊎ (new ≡ enabled true old)
reached_by out answer old new (inl is) step =
    let reads = determined old.config out answer in
    inl (ignored old new (drop 4 out) reads (subst (λ (c : Command). Does c (drop 4 out) old reads new) is step))
reached_by out answer old new (inr (is, idle)) step =
    let reads = determined old.config out answer in
    inr (enables old new (drop 4 out) reads idle (subst (λ (c : Command). Does c (drop 4 out) old reads new) is step))

pub no_wear : (chip : Chip) (command : Command) (s : ℕ) → MayEnable chip command → wears command s ≡ false
no_wear chip command s (inl is) = ap (λ (c : Command). wears c s) is
no_wear chip command s (inr (is, idle)) = ap (λ (c : Command). wears c s) is

pub enable_carried : (answer : List ℕ) (old new : Device) → StepsOnce (0x06 ∷ []) answer old new → length answer ≡ 0
    → SameChipOf (enabled_device true old) new
enable_carried answer old new steps none =
    let done : done_of old.chip (0x06 ∷ []) (length answer) ≡ (if is_idle old.chip then WriteEnable else Ignored) =
    ap (λ (n : ℕ). done_of old.chip (0x06 ∷ []) n) none in
    let reads = determined old.chip.config (0x06 ∷ []) answer in
    let does : Bool → Type 0 = λ b. Does (if b then WriteEnable else Ignored) [] old.chip reads new.chip in
    let step : does (is_idle old.chip) =
    subst (λ (c : Command). Does c [] old.chip reads new.chip) done steps.step in
    record {
      chip = elim (cases_Bool (is_idle old.chip)) [
        | inl idle ↦ enables old.chip new.chip [] reads idle (subst does idle step)
        | inr busy ↦ ignored old.chip new.chip [] reads (subst does busy step) ∙ busy_same old.chip busy
      ];
      worn = λ s.
          steps.worn s
          ∙ ap (λ (b : Bool). old.worn s || b)
          (no_wear old.chip (done_of old.chip (0x06 ∷ []) (length answer)) s (done_enable old.chip (length answer)))
          ∙ or-false (old.worn s);
    }

enable_step : (chip : Chip) (reply : List ℕ) → length reply ≡ 0 → Step chip (0x06 ∷ []) reply (enabled true chip)
enable_step chip reply none =
    let done : done_of chip (0x06 ∷ []) (length reply) ≡ (if is_idle chip then WriteEnable else Ignored) =
    ap (λ (n : ℕ). done_of chip (0x06 ∷ []) n) none in
    let reads = determined chip.config (0x06 ∷ []) reply in
    let none_read : (i : ℕ) → i < length reads → slice_index reads i ≡ 255 =
    determined_as chip.config (0x06 ∷ []) reply (λ i. 255) (λ i within. absurd (omega (arith, none, within))) in
    let does : Bool → Type 0 = λ b. Does (if b then WriteEnable else Ignored) [] chip reads (enabled true chip) in
    let step : does (is_idle chip) = elim (cases_Bool (is_idle chip)) [
      | inl idle ↦ subst does (sym idle) (record {
        replies = none_read;
        config = refl;
        bytes = λ a. refl;
        kept = refl;
        busy = refl;
        latch = ap (λ (b : Bool). b || chip.latch) idle;
        running = refl;
      })
      | inr busy ↦ subst does (sym busy) (record {
        replies = none_read;
        config = refl;
        bytes = λ a. refl;
        kept = refl;
        busy = refl;
        latch = ap (λ (b : Bool). b || chip.latch) busy;
        running = refl;
      })
    ] in
    subst (λ (c : Command). Does c [] chip reads (enabled true chip)) (sym done) step

pub enable_waits : (reply : List ℕ) (old base : Device) → SameChipOf old base → length reply ≡ 0
    → StepsOnce (0x06 ∷ []) reply old (enabled_device true base)
enable_waits reply old base same none = record {
  step = subst (λ (c : Chip). Step old.chip (0x06 ∷ []) reply (enabled true c)) (sym same.chip)
      (enable_step old.chip reply none);
  worn = λ s.
      same.worn s ∙ sym (or-false (old.worn s))
      ∙ sym (ap (λ (b : Bool). old.worn s || b)
      (no_wear old.chip (done_of old.chip (0x06 ∷ []) (length reply)) s (done_enable old.chip (length reply))));
}

pub steps_from : (out answer : List ℕ) (base between new : Device) → SameChipOf base between
    → StepsOnce out answer between new → StepsOnce out answer base new
steps_from out answer base between new same steps = record {
  step = subst (λ (c : Chip). Step c out answer new.chip) same.chip steps.step;
  worn = λ s.
      steps.worn s
      ∙ ap (λ (w : Bool). w || wears (done_of between.chip out (length answer)) s) (same.worn s)
      ∙ ap (λ (c : Chip). base.worn s || wears (done_of c out (length answer)) s) same.chip;
}
