-- The effect of an exchange of an O_SPIOP over a well-behaved port, derived from the three calls of the port.
use Rattle.std.proofs.Common.{◌≡◌, ◌∙◌, ◌<◌, ◌≤◌, true, ◌++◌, ℕ, Bool, List, [], ◌∷◌, length, refl, sym, subst, ap, arith, length-append}
use Rattle.std.specs.Prelude.{slice_index, Result, Ok, Err, OnErr}
use Rattle.std.proofs.lemmas.List.{append-nil}
use Rattle.std.proofs.Math.Seq.{take-length}
use Rattle.nor_model.specs.Chip.{Chip}
use Rattle.nor_model.specs.Step.{Step}
use Rattle.nor_serprog.specs.Frame.{IsFrame, ReadsAs, out_in, replies_in}
use Rattle.nor_serprog.specs.declared.command.Command.{Command}
use Rattle.nor_serprog.specs.declared.command.Command.TheVariants.{Operate}
use Rattle.nor_serprog.specs.declared.link.Failure.{Failure}
use Rattle.nor_serprog.specs.declared.link.Failure.TheVariants.{Port, Refused, Strange, TooLong, OutOfStep, CutFrame, NoSync}
use Rattle.nor_serprog.specs.Replies.{IsNoRefusal, IsPortFailure}
use Rattle.nor_serprog.specs.Device.{Device, PortState, IsIdle, IfOperates, StepsOnce, IsCut, OperatesFrame, IsWithinLimits, CompletesOperation, AnswerBegins, IsSent, IsCutOff, TakesAnswer, MissesAnswer, Exchanged, Interrupted}

pub operated : (frame : List ℕ) (old sent : PortState) → IsIdle old.device → IsFrame frame
    → slice_index frame 0 ≡ 0x13 → IsSent frame old sent → OperatesFrame frame old.device sent.device
operated frame old sent idle whole opcode s =
    let e : frame ≡ old.device.begun ++ frame = sym (ap (λ (b : List ℕ). b ++ frame) idle.begun) in
    let P : List ℕ → Type 0 = λ b. IsFrame b in
    let Q : List ℕ → Type 0 = λ b. slice_index b 0 ≡ 0x13 in
    let R : List ℕ → Type 0 = λ b. OperatesFrame b old.device sent.device in
    subst R (sym e) (s.done (record { whole = subst P e whole; opcode = subst Q e opcode }))

pub none_rest : (answer reply rest : List ℕ) → answer ≡ reply ++ rest → length answer ≡ length reply → rest ≡ []
none_rest answer reply [] e len = refl
none_rest answer reply (x ∷ rest) e len =
    absurd (omega (arith, length-append reply (x ∷ rest), ap length e))

pub steps_then : (out answer : List ℕ) (old sent new : Device) → new.chip ≡ sent.chip → new.worn ≡ sent.worn
    → StepsOnce out answer old sent → StepsOnce out answer old new
steps_then out answer old sent new chip worn steps = record {
  step = subst (λ (c : Chip). Step old.chip out answer c) (sym chip) steps.step;
  worn = λ s. ap (λ (w : ℕ → Bool). w s) worn ∙ steps.worn s;
}

pub exchanged : (frame out : List ℕ) (replies : ℕ) (reply : List ℕ) (old sent new : PortState)
    → IsIdle old.device → IsFrame frame → slice_index frame 0 ≡ 0x13 → out_in frame ≡ out → replies_in frame ≡ replies
    → IsSent frame old sent → TakesAnswer reply sent new → length reply ≡ replies → Exchanged out reply old new
exchanged frame out replies reply old sent new idle whole opcode goes comes s t len =
    let o = operated frame old sent idle whole opcode s in
    let e : sent.device.pending ≡ 0x06 ∷ o.answer =
    o.pending ∙ ap (λ (p : List ℕ). p ++ 0x06 ∷ o.answer) idle.pending in
    let both : 0x06 ∷ o.answer ≡ 0x06 ∷ (reply ++ new.device.pending) = sym e ∙ t.pending in
    let f : o.answer ≡ reply ++ new.device.pending = cc in
    let rest : new.device.pending ≡ [] = none_rest o.answer reply new.device.pending f (o.len ∙ comes ∙ sym len) in
    let got : o.answer ≡ reply = f ∙ ap (λ (r : List ℕ). reply ++ r) rest ∙ append-nil reply in
    let P : List ℕ → Type 0 = λ b. StepsOnce b o.answer old.device sent.device in
    let Q : List ℕ → Type 0 = λ a. StepsOnce out a old.device sent.device in
    record {
      left = omega (arith, s.left, t.left);
      idle = record { begun = t.begun ∙ o.begun; pending = rest };
      firmware = t.firmware ∙ s.firmware;
      settings = t.settings ∙ o.settings;
      steps = steps_then out reply old.device sent.device new.device t.chip t.worn (subst Q got (subst P goes o.steps));
    }

pub begins_with_ack : (frame : List ℕ) (old sent : PortState) → IsIdle old.device
    → OperatesFrame frame old.device sent.device → AnswerBegins sent
begins_with_ack frame old sent idle o =
    let e : sent.device.pending ≡ 0x06 ∷ o.answer =
    o.pending ∙ ap (λ (p : List ℕ). p ++ 0x06 ∷ o.answer) idle.pending in
    let P : List ℕ → Type 0 = λ p. 0 < length p in
    let Q : List ℕ → Type 0 = λ p. slice_index p 0 ≡ 6 in
    record { some = subst P (sym e) (omega arith); ack = subst Q (sym e) refl }

pub cut_off : (frame out : List ℕ) (replies wanted : ℕ) (old new : PortState) → IsIdle old.device → IsFrame frame
    → slice_index frame 0 ≡ 0x13 → out_in frame ≡ out → replies_in frame ≡ replies → IsCutOff frame old new
    → Interrupted out replies wanted old new
cut_off frame out replies wanted old new idle whole opcode goes comes c =
    let e : frame ≡ old.device.begun ++ frame = sym (ap (λ (b : List ℕ). b ++ frame) idle.begun) in
    let P : List ℕ → Type 0 = λ b. IsFrame b in
    let Q : List ℕ → Type 0 = λ b. slice_index b 0 ≡ 0x13 in
    let R : List ℕ → Type 0 = λ b. IsCut (out_in b) old.device new.device in
    let S : List ℕ → Type 0 = λ b. IsCut b old.device new.device in
    let T : List ℕ → Type 0 = λ b. IsWithinLimits b old.device in
    let completes : CompletesOperation frame old.device = record { whole = subst P e whole; opcode = subst Q e opcode } in
    record {
      few_left = λ short few no_more.
          let limits : IsWithinLimits frame old.device = record {
            none_pending = idle.pending;
            sends = subst (λ (b : List ℕ). length b ≤ 260) (sym goes) short;
            reads = subst (λ n. n ≤ 4096) (sym comes) few;
          } in
          let none = c.none_left completes (subst T e limits) in omega (arith, none);
      few = omega (arith, c.left);
      cut = subst S goes (subst R (sym e) (c.cut completes));
    }

pub missed : (frame out : List ℕ) (replies wanted : ℕ) (old sent new : PortState) → IsIdle old.device → IsFrame frame
    → slice_index frame 0 ≡ 0x13 → out_in frame ≡ out → replies_in frame ≡ replies → IsSent frame old sent
    → MissesAnswer wanted sent new → Interrupted out replies wanted old new
missed frame out replies wanted old sent new idle whole opcode goes comes s m =
    let o = operated frame old sent idle whole opcode s in
    let P : List ℕ → Type 0 = λ b. StepsOnce b o.answer old.device sent.device in
    let pending : sent.device.pending ≡ 0x06 ∷ o.answer =
    o.pending ∙ ap (λ (p : List ℕ). p ++ 0x06 ∷ o.answer) idle.pending in
    record {
      few_left = λ short few no_more.
          let all : wanted < length sent.device.pending =
          omega (arith, ap length pending, o.len, comes, no_more) in
          omega (arith, s.left, m.few_left all);
      few = m.few;
      cut = record {
        count = length out;
        read = o.answer;
        reached = sent.device;
        steps = subst P (sym (take-length out)) (subst P goes o.steps);
        then = m.power;
      };
    }

pub exchanged_by : (command : Command) (frame reply : List ℕ) (len : ℕ) (old sent new : PortState)
    → IsIdle old.device → IsFrame frame → ReadsAs frame command → IsSent frame old sent → TakesAnswer reply sent new
    → length reply ≡ len → IfOperates command (λ out replies. len ≡ replies → Exchanged out reply old new)
exchanged_by (Operate out replies) frame reply len old sent new idle whole reads s t has =
    λ same. exchanged frame out.now replies reply old sent new idle whole reads.0 reads.1 reads.2 s t (has ∙ same)
exchanged_by _ frame reply len old sent new idle whole reads s t has = tt

pub cut_off_by : (command : Command) (frame : List ℕ) (wanted : ℕ) (old new : PortState) → IsIdle old.device
    → IsFrame frame → ReadsAs frame command → IsCutOff frame old new
    → IfOperates command (λ out replies. Interrupted out replies wanted old new)
cut_off_by (Operate out replies) frame wanted old new idle whole reads c =
    cut_off frame out.now replies wanted old new idle whole reads.0 reads.1 reads.2 c
cut_off_by _ frame wanted old new idle whole reads c = tt

pub missed_by : (command : Command) (frame : List ℕ) (wanted : ℕ) (old sent new : PortState) → IsIdle old.device
    → IsFrame frame → ReadsAs frame command → IsSent frame old sent
    → (AnswerBegins sent → MissesAnswer wanted sent new)
    → IfOperates command (λ out replies. Interrupted out replies wanted old new)
missed_by (Operate out replies) frame wanted old sent new idle whole reads s m =
    missed frame out.now replies wanted old sent new idle whole reads.0 reads.1 reads.2 s
    (m (begins_with_ack frame old sent idle (operated frame old sent idle whole reads.0 s)))
missed_by _ frame wanted old sent new idle whole reads s m = tt

pub no_refusal : {C : Type 0} (failure : Failure C) → IsPortFailure failure → IsNoRefusal failure
no_refusal (Refused opcode) failed = failed
no_refusal (Port cause) failed = tt
no_refusal (Strange byte) failed = tt
no_refusal TooLong failed = tt
no_refusal OutOfStep failed = tt
no_refusal CutFrame failed = tt
no_refusal NoSync failed = tt

pub unrefused_by : {C : Type 0} (command : Command) (frame : List ℕ) (failure : Failure C) (old sent : PortState)
    → IsIdle old.device → IsFrame frame → ReadsAs frame command → IsSent frame old sent
    → (AnswerBegins sent → IsPortFailure failure)
    → IfOperates command (λ out replies. IsNoRefusal failure)
unrefused_by (Operate out replies) frame failure old sent idle whole reads s fails =
    no_refusal failure (fails (begins_with_ack frame old sent idle (operated frame old sent idle whole reads.0 s)))
unrefused_by _ frame failure old sent idle whole reads s fails = tt

pub unrefused_at : {C : Type 0} (command : Command) (failure : Failure C) → IsPortFailure failure
    → IfOperates command (λ out replies. IsNoRefusal failure)
unrefused_at (Operate out replies) failure failed = no_refusal failure failed
unrefused_at _ failure failed = tt

pub on_err : {T E : Type 0} (result : Result T E) (P : Type 0) → P → OnErr result P
on_err (Ok x) P p = tt
on_err (Err e) P p = p

pub record UsesCalls (old new : PortState) : Type 0 where
  pub honest : new.honest ≡ old.honest
  pub fewer : old.honest ≡ true → new.left ≤ old.left
  pub asked : new.asked ≡ old.asked

pub uses_none : (state : PortState) → UsesCalls state state
uses_none state = record { honest = refl; fewer = λ honest. omega arith; asked = refl }

pub uses_then : {old mid new : PortState} → UsesCalls old mid → new.honest ≡ mid.honest
    → (mid.honest ≡ true → new.left ≤ mid.left) → new.asked ≡ mid.asked → UsesCalls old new
uses_then uses nature fewer unasked = record {
  honest = nature ∙ uses.honest;
  fewer = λ honest.
      let first = uses.fewer honest in let second = fewer (uses.honest ∙ honest) in omega arith;
  asked = unasked ∙ uses.asked;
}
