-- The effect of `exchange_batch` over a well-behaved port, derived from the effects of the calls of the port.
use Rattle.std.proofs.Common.{◌≡◌, ◌∙◌, ◌<◌, ◌++◌, ℕ, Bool, true, false, List, [], ◌∷◌, length, refl, sym, ap, subst, arith, inl, inr}
use Rattle.std.specs.Prelude.{slice_index}
use Rattle.std.proofs.lemmas.Bool.{false≢true}
use Rattle.std.proofs.lemmas.List.{append-nil}
use Rattle.std.proofs.Math.Seq.{take-length}
use Rattle.nor_serprog.specs.Asked.{acks, enable_frame}
use Rattle.nor_serprog.specs.Frame.{operation_frame}
use Rattle.nor_serprog.specs.Device.{Device, PortState, IsIdle, StepsOnce, CompletesBoth, AnswerBegins, IsSent, IsCutOff, TakesAnswer, MissesAnswer}
use Rattle.nor_serprog.specs.Enabled.{enabled_device, SendsBatch, TakesAcks, ExchangedBatch, InterruptedBatch}
use Rattle.nor_serprog.proofs.Enabled.{enable_cut, cut_from}
use Rattle.nor_serprog.proofs.Enabling.{enable_carried, steps_from}
use Rattle.nor_serprog.proofs.Exchanges.{operated, none_rest, steps_then, cut_off}

completes : (out : List ℕ) (replies : ℕ) (frames : List ℕ) (old : Device) → IsIdle old
    → SendsBatch true out replies frames old → CompletesBoth enable_frame (operation_frame out replies) frames old
completes out replies frames old idle sends = record {
  idle = idle;
  is = sends.is;
  whole = refl;
  opcode = refl;
  unanswered = refl;
  second_whole = sends.whole;
  second_opcode = refl;
  fits = sends.fits refl;
}

none_of : (answer : List ℕ) → length answer ≡ 0 → answer ≡ []
none_of [] none = refl
none_of (x ∷ rest) none = absurd (omega (arith, none))

pub record CarriedBatch (waits : Bool) (out : List ℕ) (replies : ℕ) (old sent : Device) : Type 0 where
  pub answer : List ℕ
  pub len : length answer ≡ replies
  pub steps : StepsOnce out answer (enabled_device waits old) sent
  pub begun : sent.begun ≡ []
  pub pending : sent.pending ≡ acks waits ++ 0x06 ∷ answer

pub carried : (waits : Bool) (out : List ℕ) (replies : ℕ) (frames : List ℕ) (old sent : PortState) → IsIdle old.device
    → SendsBatch waits out replies frames old.device → IsSent frames old sent
    → CarriedBatch waits out replies old.device sent.device
carried true out replies frames old sent idle sends s =
    let both = s.both enable_frame (operation_frame out replies) (completes out replies frames old.device idle sends) in
    let none : both.former.answer ≡ [] = none_of both.former.answer both.former.len in
    let same = enable_carried both.former.answer old.device both.between both.former.steps both.former.len in
    record {
      answer = both.latter.answer;
      len = both.latter.len ∙ sends.reads;
      steps = steps_from out both.latter.answer (enabled_device true old.device) both.between sent.device same
          both.latter.steps;
      begun = both.latter.begun;
      pending = both.latter.pending
          ∙ ap (λ (p : List ℕ). p ++ 0x06 ∷ both.latter.answer)
          (both.former.pending ∙ ap (λ (p : List ℕ). p ++ 0x06 ∷ both.former.answer) idle.pending
          ∙ ap (λ (a : List ℕ). 0x06 ∷ a) none);
    }
carried false out replies frames old sent idle sends s =
    let o = operated (operation_frame out replies) old sent idle sends.whole refl
    (subst (λ (f : List ℕ). IsSent f old sent) sends.is s) in
    record {
      answer = o.answer;
      len = o.len ∙ sends.reads;
      steps = o.steps;
      begun = o.begun;
      pending = o.pending ∙ ap (λ (p : List ℕ). p ++ 0x06 ∷ o.answer) idle.pending;
    }

after_acks : (waits : Bool) (sent mid answer : List ℕ) → sent ≡ acks waits ++ mid → sent ≡ acks waits ++ 0x06 ∷ answer
    → mid ≡ 0x06 ∷ answer
after_acks true sent mid answer taken pending =
    let both : 0x06 ∷ mid ≡ 0x06 ∷ 0x06 ∷ answer = sym taken ∙ pending in cc
after_acks false sent mid answer taken pending = sym taken ∙ pending

begins : (port : PortState) (answer : List ℕ) → port.device.pending ≡ 0x06 ∷ answer → AnswerBegins port
begins port answer is =
    let P : List ℕ → Type 0 = λ p. 0 < length p in
    let Q : List ℕ → Type 0 = λ p. slice_index p 0 ≡ 6 in
    record { some = subst P (sym is) (omega arith); ack = subst Q (sym is) refl }

pub acks_begin : (waits : Bool) (out : List ℕ) (replies : ℕ) (frames : List ℕ) (old sent : PortState)
    → IsIdle old.device → SendsBatch waits out replies frames old.device → IsSent frames old sent → waits ≡ true
    → AnswerBegins sent
acks_begin true out replies frames old sent idle sends s is =
    let c = carried true out replies frames old sent idle sends s in begins sent (0x06 ∷ c.answer) c.pending
acks_begin false out replies frames old sent idle sends s is = absurd (false≢true is)

pub answer_begins : (waits : Bool) (out : List ℕ) (replies : ℕ) (frames : List ℕ) (old sent mid : PortState)
    → IsIdle old.device → SendsBatch waits out replies frames old.device → IsSent frames old sent
    → TakesAcks waits sent mid → AnswerBegins mid
answer_begins waits out replies frames old sent mid idle sends s taken =
    let c = carried waits out replies frames old sent idle sends s in
    begins mid c.answer (after_acks waits sent.device.pending mid.device.pending c.answer taken.pending c.pending)

pub exchanged_batch : (waits : Bool) (out reply : List ℕ) (replies : ℕ) (frames : List ℕ)
    (old sent mid new : PortState) → IsIdle old.device → SendsBatch waits out replies frames old.device
    → IsSent frames old sent → TakesAcks waits sent mid → TakesAnswer reply mid new → length reply ≡ replies
    → ExchangedBatch waits out reply old new
exchanged_batch waits out reply replies frames old sent mid new idle sends s taken t len =
    let c = carried waits out replies frames old sent idle sends s in
    let rest = after_acks waits sent.device.pending mid.device.pending c.answer taken.pending c.pending in
    let both : 0x06 ∷ c.answer ≡ 0x06 ∷ (reply ++ new.device.pending) = sym rest ∙ t.pending in
    let same : c.answer ≡ reply ++ new.device.pending = cc in
    let none : new.device.pending ≡ [] = none_rest c.answer reply new.device.pending same (c.len ∙ sym len) in
    let got : c.answer ≡ reply = same ∙ ap (λ (r : List ℕ). reply ++ r) none ∙ append-nil reply in
    let P : List ℕ → Type 0 = λ a. StepsOnce out a (enabled_device waits old.device) sent.device in
    record {
      idle = record { begun = t.begun ∙ taken.begun ∙ c.begun; pending = none };
      firmware = t.firmware ∙ taken.firmware ∙ s.firmware;
      steps = steps_then out reply (enabled_device waits old.device) sent.device new.device (t.chip ∙ taken.chip)
          (t.worn ∙ taken.worn) (subst P got c.steps);
    }

pub interrupted_send : (waits : Bool) (out : List ℕ) (replies : ℕ) (frames : List ℕ) (old new : PortState)
    → IsIdle old.device → SendsBatch waits out replies frames old.device → IsCutOff frames old new
    → InterruptedBatch waits out old new
interrupted_send true out replies frames old new idle sends c = record {
  few = omega (arith, c.left);
  cut = elim (c.cut_both enable_frame (operation_frame out replies) (completes out replies frames old.device idle sends)) [
    | inl first ↦ enable_cut out old.device new.device first
    | inr second ↦
        cut_from out (enabled_device true old.device) second.between new.device
        (enable_carried second.former.answer old.device second.between second.former.steps second.former.len) second.cut
  ];
}
interrupted_send false out replies frames old new idle sends c =
    let i = cut_off (operation_frame out replies) out replies replies old new idle sends.whole refl refl sends.reads
    (subst (λ (f : List ℕ). IsCutOff f old new) sends.is c) in
    record { few = i.few; cut = i.cut }

pub interrupted_answer : (waits : Bool) (out : List ℕ) (replies wanted : ℕ) (frames : List ℕ)
    (old sent mid new : PortState) → IsIdle old.device → SendsBatch waits out replies frames old.device
    → IsSent frames old sent → mid.device.chip ≡ sent.device.chip → mid.device.worn ≡ sent.device.worn
    → MissesAnswer wanted mid new → InterruptedBatch waits out old new
interrupted_answer waits out replies wanted frames old sent mid new idle sends s chip worn m =
    let c = carried waits out replies frames old sent idle sends s in
    let P : List ℕ → Type 0 = λ o. StepsOnce o c.answer (enabled_device waits old.device) mid.device in
    record {
      few = m.few;
      cut = record {
        count = length out;
        read = c.answer;
        reached = mid.device;
        steps = subst P (sym (take-length out))
            (steps_then out c.answer (enabled_device waits old.device) sent.device mid.device chip worn c.steps);
        then = m.power;
      };
    }
