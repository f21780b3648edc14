-- Over a well-behaved port, `IsSettledBatch` stays true, and each transaction makes one step or is interrupted.
use Rattle.std.proofs.Common.{◌≡◌, ◌∙◌, ◌+◌, ◌≤◌, ◌++◌, ℕ, Bool, true, false, List, [], ◌∷◌, length, refl, sym, ap, subst, arith, inl, inr, length-append}
use Rattle.std.specs.Prelude.{Result, Ok, Err, OnOk, OnErr}
use Rattle.std.proofs.lemmas.Bool.{false≢true, cases_Bool}
use Rattle.std.proofs.lemmas.Result.{on_ok_weaker, on_err_weaker}
use Rattle.nor_serprog.specs.declared.batch.Batch.{Batch}
use Rattle.nor_serprog.specs.declared.link.Link.{Link}
use Rattle.nor_serprog.specs.declared.port.Port.{Ghosts}
use Rattle.nor_serprog.specs.Asked.{enable_frame}
use Rattle.nor_serprog.specs.Batch.{IsSettledFor}
use Rattle.nor_serprog.specs.Frame.{IsFrame, operation_frame, replies_in}
use Rattle.nor_serprog.specs.Firmware.{Firmware, buffer_at}
use Rattle.nor_serprog.specs.Link.{is_in_step}
use Rattle.nor_serprog.specs.Device.{Device, PortState, StepsOnce, IsCut}
use Rattle.nor_serprog.specs.Enabled.{enabled_device, SameChipOf, SendsBatch, ExchangedBatch, InterruptedBatch}
use Rattle.nor_serprog.proofs.Enabled.{enable_cut, cut_from}
use Rattle.nor_serprog.proofs.Enabling.{enable_carried, steps_from}

pub in_step_if : {P C : Type 0} {over : Ghosts P C} (batch : Batch P C over) → batch.waits ≡ true
    → is_in_step batch.link ≡ true
in_step_if batch waits = elim (cases_Bool (is_in_step batch.link)) [
  | inl in_step ↦ in_step
  | inr lost ↦ absurd (false≢true (sym (batch.spent lost) ∙ waits))
]

pub sends_enable : (device : Device) → SendsBatch false (0x06 ∷ []) 0 enable_frame device
sends_enable device = record {
  is = refl;
  whole = refl;
  reads = refl;
  fits = λ waits. absurd (false≢true waits);
}

pub sends_alone : (out : List ℕ) (replies : ℕ) (frame sent : List ℕ) (device : Device) → sent ≡ frame
    → frame ≡ operation_frame out replies → IsFrame frame → replies_in frame ≡ replies
    → SendsBatch false out replies sent device
sends_alone out replies frame sent device same exact whole reads = record {
  is = same ∙ exact;
  whole = subst (λ (f : List ℕ). IsFrame f) exact whole;
  reads = subst (λ (f : List ℕ). replies_in f ≡ replies) exact reads;
  fits = λ waits. absurd (false≢true waits);
}

pub sends_pair : (out : List ℕ) (replies : ℕ) (frame pair : List ℕ) (buffer : ℕ) (device : Device)
    → frame ≡ operation_frame out replies → IsFrame frame → replies_in frame ≡ replies → pair ≡ enable_frame ++ frame
    → 8 + length frame ≤ buffer → buffer ≤ buffer_at device.firmware → SendsBatch true out replies pair device
sends_pair out replies frame pair buffer device exact whole reads both fits holds = record {
  is = both ∙ ap (λ (f : List ℕ). enable_frame ++ f) exact;
  whole = subst (λ (f : List ℕ). IsFrame f) exact whole;
  reads = subst (λ (f : List ℕ). replies_in f ≡ replies) exact reads;
  fits = λ yes. omega (arith, ap length both, length-append enable_frame frame, fits, holds);
}

module _ {P C T E : Type 0} (least : ℕ) (port : P → PortState) (waits : Bool) (out reply : List ℕ)
    (old new : Link P C) where
  pub settled_after : (result : Result T E) → (port new.port).honest ≡ (port old.port).honest
      → ((port old.port).honest ≡ true → OnOk result (ExchangedBatch waits out reply (port old.port) (port new.port)))
      → ((port old.port).honest ≡ true → OnErr result (InterruptedBatch waits out (port old.port) (port new.port)))
      → OnOk result (is_in_step new ≡ true) → OnErr result (is_in_step new ≡ false)
      → ((port old.port).honest ≡ true → least ≤ buffer_at (port old.port).device.firmware)
      → IsSettledFor least port new
  settled_after (Ok value) nature exchanged interrupted ok err holds = record {
    settled = record {
      idle = λ honest in_step. (exchanged (sym nature ∙ honest)).idle;
      spent = λ honest lost. absurd (false≢true (sym lost ∙ ok));
    };
    buffer = λ honest in_step.
        subst (λ (f : Firmware). least ≤ buffer_at f) (sym (exchanged (sym nature ∙ honest)).firmware)
        (holds (sym nature ∙ honest));
  }
  settled_after (Err error) nature exchanged interrupted ok err holds = record {
    settled = record {
      idle = λ honest in_step. absurd (false≢true (sym err ∙ in_step));
      spent = λ honest lost. (interrupted (sym nature ∙ honest)).few;
    };
    buffer = λ honest in_step. absurd (false≢true (sym err ∙ in_step));
  }

flushed_once : (waits : Bool) (reply : List ℕ) (old new : PortState) → waits ≡ true → length reply ≡ 0
    → ExchangedBatch false (0x06 ∷ []) reply old new → SameChipOf (enabled_device waits old.device) new.device
flushed_once true reply old new waited none e = enable_carried reply old.device new.device e.steps none
flushed_once false reply old new waited none e = absurd (false≢true waited)

flush_cut_once : (waits : Bool) (old new : PortState) → waits ≡ true → InterruptedBatch false (0x06 ∷ []) old new
    → (out : List ℕ) → IsCut out (enabled_device waits old.device) new.device
flush_cut_once true old new waited i out = enable_cut out old.device new.device i.cut
flush_cut_once false old new waited i out = absurd (false≢true waited)

module _ {T E : Type 0} (result : Result T E) (waits : Bool) (old new : PortState) where
  pub flushed : (reply : List ℕ) → waits ≡ true → length reply ≡ 0
      → OnOk result (ExchangedBatch false (0x06 ∷ []) reply old new)
      → OnOk result (SameChipOf (enabled_device waits old.device) (enabled_device false new.device))
  flushed reply waited none ok = on_ok_weaker result (flushed_once waits reply old new waited none) ok

  pub flush_cut : waits ≡ true → OnErr result (InterruptedBatch false (0x06 ∷ []) old new)
      → OnErr result ((out : List ℕ) → IsCut out (enabled_device waits old.device) (enabled_device false new.device))
  flush_cut waited err = on_err_weaker result (flush_cut_once waits old new waited) err

carried_once : (waits : Bool) (out reply : List ℕ) (base : Device) (mid new : PortState) → waits ≡ false
    → SameChipOf base (enabled_device waits mid.device) → ExchangedBatch false out reply mid new
    → StepsOnce out reply base (enabled_device waits new.device)
carried_once false out reply base mid new none same e = steps_from out reply base mid.device new.device same e.steps
carried_once true out reply base mid new none same e = absurd (false≢true (sym none))

cut_once : (waits : Bool) (out : List ℕ) (base : Device) (mid new : PortState) → waits ≡ false
    → SameChipOf base (enabled_device waits mid.device) → InterruptedBatch false out mid new
    → IsCut out base (enabled_device waits new.device)
cut_once false out base mid new none same i = cut_from out base mid.device new.device same i.cut
cut_once true out base mid new none same i = absurd (false≢true (sym none))

module _ {T E : Type 0} (result : Result T E) (waits : Bool) (out : List ℕ) (base : Device) (mid new : PortState) where
  pub carried_later : (reply : List ℕ) → waits ≡ false → SameChipOf base (enabled_device waits mid.device)
      → OnOk result (ExchangedBatch false out reply mid new)
      → OnOk result (StepsOnce out reply base (enabled_device waits new.device))
  carried_later reply none same ok = on_ok_weaker result (carried_once waits out reply base mid new none same) ok

  pub cut_later : waits ≡ false → SameChipOf base (enabled_device waits mid.device)
      → OnErr result (InterruptedBatch false out mid new) → OnErr result (IsCut out base (enabled_device waits new.device))
  cut_later none same err = on_err_weaker result (cut_once waits out base mid new none same) err

paired_once : (waits : Bool) (out reply : List ℕ) (old new : PortState) → waits ≡ true
    → ExchangedBatch true out reply old new
    → StepsOnce out reply (enabled_device waits old.device) (enabled_device false new.device)
paired_once true out reply old new waited e = e.steps
paired_once false out reply old new waited e = absurd (false≢true waited)

pair_cut_once : (waits : Bool) (out : List ℕ) (old new : PortState) → waits ≡ true → InterruptedBatch true out old new
    → IsCut out (enabled_device waits old.device) (enabled_device false new.device)
pair_cut_once true out old new waited i = i.cut
pair_cut_once false out old new waited i = absurd (false≢true waited)

module _ {T E : Type 0} (result : Result T E) (waits : Bool) (out : List ℕ) (old new : PortState) where
  pub carried_paired : (reply : List ℕ) → waits ≡ true → OnOk result (ExchangedBatch true out reply old new)
      → OnOk result (StepsOnce out reply (enabled_device waits old.device) (enabled_device false new.device))
  carried_paired reply waited ok = on_ok_weaker result (paired_once waits out reply old new waited) ok

  pub cut_paired : waits ≡ true → OnErr result (InterruptedBatch true out old new)
      → OnErr result (IsCut out (enabled_device waits old.device) (enabled_device false new.device))
  cut_paired waited err = on_err_weaker result (pair_cut_once waits out old new waited) err
