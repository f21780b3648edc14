-- Lemmas: exchanges that send nothing but harmless transactions, and queries, only look at the chip (`EndsLooking`).
use Rattle.std.proofs.Common.{◌≡◌, ◌⊎◌, ◌∙◌, ℕ, true, List, ◌∷◌, length, refl, sym, ap, subst, arith, inl, inr}
use Rattle.std.proofs.lemmas.Bool.{false≢true}
use Rattle.std.specs.Prelude.{is_ok, Option, Result, Ok, Err, OnOk, OnErr, IsErrAnd}
use Rattle.nor_model.specs.Chip.{Chip}
use Rattle.nor_serprog.specs.declared.command.Command.{Command}
use Rattle.nor_serprog.specs.declared.command.Command.TheVariants.{Operate, QueryInterface}
use Rattle.nor_serprog.specs.declared.link.Failure.{Failure}
use Rattle.nor_serprog.specs.declared.link.Link.{Link}
use Rattle.nor_serprog.specs.declared.programmer.AnyProgrammer.{AnyProgrammer}
use Rattle.nor_serprog.specs.declared.programmer.HandshakeFault.{HandshakeFault}
use Rattle.nor_serprog.specs.Device.{Device, PortState, IsCut, IsIdle, IfOperates, Exchanged, Interrupted, MayLoseDevicePower}
use Rattle.nor_serprog.specs.Firmware.{Firmware, HasReply, reply_of, two_of}
use Rattle.nor_serprog.specs.Harmless.{begins_harmless}
use Rattle.nor_serprog.specs.Identify.{Concludes, IsAnyProgrammerOf, prepared_port}
use Rattle.nor_serprog.specs.Link.{is_in_step}
use Rattle.nor_serprog.specs.Replies.{AwaitsCommand, AsksUnlessFew, EndsExchange, OnlyAsks}
use Rattle.serprog_board.specs.Looking.{OnlyLooks, LooksAndAwaits, EndsLooking, IsLook}
use Rattle.serprog_board.proofs.StillRestorable.{IsLookedAt, looked_at, part_looked_at, looked_restorable, lost_restorable}

pub only_looks : (old new : Device) → IsLookedAt old.chip new.chip → OnlyLooks old new
only_looks old new looked = record {
  config = looked.config;
  same = λ idle. record { config = looked.config; bytes = looked.bytes; kept = looked.kept };
  restorable = λ further journal first. looked_restorable further journal first old.chip new.chip looked;
}

pub same_looks : (old new : Device) → new.chip ≡ old.chip → OnlyLooks old new
same_looks old new same = only_looks old new
    (subst (λ (c : Chip). IsLookedAt old.chip c) (sym same)
    (record { config = refl; bytes = λ a. refl; kept = refl; running = refl; busy = omega arith }))

pub power_looks : (old new : Device) → MayLoseDevicePower old new → OnlyLooks old new
power_looks old new may = elim may.chip [
  | inl same ↦ same_looks old new same
  | inr lost ↦ record {
    config = lost.config;
    same = lost.idle;
    restorable = λ further journal first. lost_restorable further journal first old.chip new.chip lost;
  }
]

pub looks_then : (old mid new : Device) → OnlyLooks old mid → (old.chip.busy ≡ 0 → mid.chip.busy ≡ 0)
    → OnlyLooks mid new → OnlyLooks old new
looks_then old mid new first idle second = record {
  config = second.config ∙ first.config;
  same = λ was.
      let one = first.same was in
      let two = second.same (idle was) in
      record {
        config = two.config ∙ one.config;
        bytes = λ a. two.bytes a ∙ one.bytes a;
        kept = two.kept ∙ one.kept;
      };
  restorable = λ further journal original can.
      second.restorable further journal original (first.restorable further journal original can);
}

pub cut_looks : (out : List ℕ) (old new : Device) → begins_harmless out ≡ true → IsCut out old new → OnlyLooks old new
cut_looks out old new harmless cut =
    let looked = part_looked_at cut.count out cut.read old.chip cut.reached.chip harmless cut.steps.step in
    let less = looked.busy in
    looks_then old cut.reached new (only_looks old cut.reached looked) (λ idle. omega (arith, less, idle))
    (power_looks cut.reached new cut.then)

pub operated_looks : {P C : Type 0} (port : P → PortState) (out reply : List ℕ) (replies count : ℕ)
    (result : Result Unit (Failure C)) (old new : Link P C) → begins_harmless out ≡ true → AwaitsCommand (port old.port)
    → (port new.port).honest ≡ (port old.port).honest → OnOk result (is_in_step new ≡ true)
    → OnOk result (Exchanged out reply (port old.port) (port new.port))
    → OnErr result ((new ≡ old) ⊎ Interrupted out replies count (port old.port) (port new.port))
    → EndsLooking port result old new
operated_looks port out reply replies count (Ok value) old new harmless awaits nature in_step done failed =
    let looked =
    looked_at out reply (port old.port).device.chip (port new.port).device.chip harmless done.steps.step in
    let less = looked.busy in
    record {
      looks = only_looks (port old.port).device (port new.port).device looked;
      done = record {
        awaits = record { honest = nature ∙ awaits.honest; idle = done.idle };
        in_step = in_step;
        firmware = done.firmware;
        idle = λ was. omega (arith, less, was);
      };
    }
operated_looks {P} {C} port out reply replies count (Err failure) old new harmless awaits nature ok done (inl same) =
    record {
      looks = same_looks (port old.port).device (port new.port).device
          (ap (λ (link : Link P C). (port link.port).device.chip) same);
      done = tt;
    }
operated_looks port out reply replies count (Err failure) old new harmless awaits nature ok done (inr cut) = record {
  looks = cut_looks out (port old.port).device (port new.port).device harmless cut.cut;
  done = tt;
}

pub asked_looks : {P C : Type 0} (port : P → PortState) (calls : ℕ) (old new : Link P C) → is_in_step new ≡ true
    → (asked : PortState) → asked.device.chip ≡ (port old.port).device.chip
    → asked.device.firmware ≡ (port old.port).device.firmware → OnlyAsks calls asked (port new.port)
    → LooksAndAwaits port old new
asked_looks port calls old new in_step asked chip firmware asks = record {
  awaits = asks.awaits;
  in_step = in_step;
  firmware = asks.firmware ∙ firmware;
  idle = λ was. ap (λ (c : Chip). c.busy) (asks.chip ∙ chip) ∙ was;
}

pub answered_looks : {P C : Type 0} (port : P → PortState) (command : Command) (bytes reply : List ℕ)
    (result : Result Unit (Failure C)) (old new : Link P C)
    → reply_of (port old.port).device.firmware command ≡ 0x06 ∷ bytes → OnOk result (is_in_step new ≡ true)
    → EndsExchange command (length bytes) reply result (port old.port) (port new.port) → EndsLooking port result old new
answered_looks port command bytes reply (Ok value) old new replies in_step ends =
    let asks = (ends.acked bytes replies refl).0.1 in
    record {
      looks = same_looks (port old.port).device (port new.port).device asks.chip;
      done = asked_looks port 3 old new in_step _ refl refl asks;
    }
answered_looks port command bytes reply (Err failure) old new replies in_step ends = record {
  looks = power_looks (port old.port).device (port new.port).device ends.power;
  done = tt;
}

pub exchange_looks : {P C : Type 0} (port : P → PortState) (command : Command) (count : ℕ) (reply : List ℕ)
    (result : Result Unit (Failure C)) (old new : Link P C) → AwaitsCommand (port old.port) → is_in_step old ≡ true
    → (AwaitsCommand (port old.port) → is_in_step old ≡ true → HasReply (port old.port).device.firmware command
    → EndsExchange command count reply result (port old.port) (port new.port))
    → (port new.port).honest ≡ (port old.port).honest → OnOk result (is_in_step new ≡ true)
    → ((port old.port).honest ≡ true → IsIdle (port old.port).device → OnOk result (IfOperates command
    (λ out replies. count ≡ replies → Exchanged out reply (port old.port) (port new.port))))
    → ((port old.port).honest ≡ true → IsIdle (port old.port).device → OnErr result ((new ≡ old) ⊎ IfOperates command
    (λ out replies. Interrupted out replies count (port old.port) (port new.port))))
    → IsLook command count → EndsLooking port result old new
exchange_looks port (Operate out replies) count reply (Ok value) old new awaits was answered nature ok done failed is =
    operated_looks port out.now reply replies count (Ok value) old new is.0 awaits nature ok
    (done awaits.honest awaits.idle is.1) tt
exchange_looks port (Operate out replies) count reply (Err error) old new awaits was answered nature ok done failed is =
    operated_looks port out.now reply replies count (Err error) old new is.0 awaits nature ok tt
    (failed awaits.honest awaits.idle)
exchange_looks port QueryInterface count reply result old new awaits was answered nature ok done failed is =
    answered_looks port QueryInterface (two_of (port old.port).device.firmware.version) reply result old new refl ok
    (subst (λ (n : ℕ). EndsExchange QueryInterface n reply result (port old.port) (port new.port)) is
    (answered awaits was tt))
exchange_looks port _ count reply result old new awaits was answered nature ok done failed is = absurd is

pub synchronized_looks : {P C : Type 0} (port : P → PortState) (calls : ℕ) (result : Result Unit (Failure C))
    (old new : Link P C) → OnOk result (is_in_step new ≡ true)
    → AsksUnlessFew calls result (port old.port) (port new.port) → EndsLooking port result old new
synchronized_looks port calls (Ok value) old new in_step ends = record {
  looks = same_looks (port old.port).device (port new.port).device ends.done.chip;
  done = asked_looks port calls old new in_step (port old.port) refl refl ends.done;
}
synchronized_looks port calls (Err failure) old new in_step ends = record {
  looks = power_looks (port old.port).device (port new.port).device ends.power;
  done = tt;
}

pub concluded_looks : {P C T C' : Type 0} (port : P → PortState) (calls : ℕ) (fault : Option (HandshakeFault C'))
    (IsValue : T → Type 0) (result : Result T (HandshakeFault C')) (old new : Link P C) (asked : PortState)
    → asked.device.chip ≡ (port old.port).device.chip → asked.device.firmware ≡ (port old.port).device.firmware
    → OnOk result (is_in_step new ≡ true) → Concludes calls fault IsValue result asked (port new.port)
    → EndsLooking port result old new
concluded_looks port calls fault IsValue (Ok value) old new asked chip firmware in_step ends = record {
  looks = same_looks (port old.port).device (port new.port).device (ends.asks.chip ∙ chip);
  done = asked_looks port calls old new in_step asked chip firmware ends.asks;
}
concluded_looks port calls fault IsValue (Err failure) old new asked chip firmware in_step ends =
    let looks = power_looks asked.device (port new.port).device ends.power in
    record {
      looks = looks_then (port old.port).device asked.device (port new.port).device
          (same_looks (port old.port).device asked.device chip)
          (λ was. ap (λ (c : Chip). c.busy) chip ∙ was) looks;
      done = tt;
    }

pub identified_looks : {P C T C' : Type 0} (port : P → PortState) (calls : ℕ) (fault : Option (HandshakeFault C'))
    (IsValue : T → Type 0) (result : Result T (HandshakeFault C')) (old new : Link P C)
    → OnOk result (is_in_step new ≡ true)
    → Concludes calls fault IsValue result (prepared_port (port old.port)) (port new.port)
    → EndsLooking port result old new
identified_looks port calls fault IsValue result old new in_step ends =
    concluded_looks port calls fault IsValue result old new (prepared_port (port old.port)) refl refl in_step ends

-- Holds if the calls from `old` to `new` only looked at the chip and succeeded.
abbrev pub HasLooked : {P C : Type 0} (port : P → PortState) → (old new : Link P C) → Type 0
HasLooked port old new = EndsLooking {T = Unit} {E = Unit} port (Ok tt) old new

pub looks_not : {P C : Type 0} {port : P → PortState} {link : Link P C} → AwaitsCommand (port link.port)
    → is_in_step link ≡ true → HasLooked port link link
looks_not {port = port} {link = link} awaits in_step = record {
  looks = same_looks (port link.port).device (port link.port).device refl;
  done = record { awaits = awaits; in_step = in_step; firmware = refl; idle = λ was. was };
}

-- If calls only looked at the chip and succeeded, and the next call only looks at the chip, then all of them only look
-- at the chip.
pub goes_on : {T E P C : Type 0} {port : P → PortState} {result : Result T E} {old mid new : Link P C}
    → HasLooked port old mid
    → (AwaitsCommand (port mid.port) → is_in_step mid ≡ true → EndsLooking port result mid new)
    → EndsLooking port result old new
goes_on {port = port} {result = Ok value} {old = old} {mid = mid} {new = new} first later =
    let second = later first.done.awaits first.done.in_step in
    record {
      looks = looks_then (port old.port).device (port mid.port).device (port new.port).device first.looks
          first.done.idle second.looks;
      done = record {
        awaits = second.done.awaits;
        in_step = second.done.in_step;
        firmware = second.done.firmware ∙ first.done.firmware;
        idle = λ was. second.done.idle (first.done.idle was);
      };
    }
goes_on {port = port} {result = Err failure} {old = old} {mid = mid} {new = new} first later =
    let second = later first.done.awaits first.done.in_step in
    record {
      looks = looks_then (port old.port).device (port mid.port).device (port new.port).device first.looks
          first.done.idle second.looks;
      done = tt;
    }

-- If calls only looked at the chip and succeeded, and the next call only looks at it if `programmer` has the values of
-- the firmware, then all of them only look at the chip.
pub goes_on_with : {T E P C : Type 0} {port : P → PortState} {result : Result T E} {old mid new : Link P C}
    {hertz : Option ℕ} {programmer : AnyProgrammer} → HasLooked port old mid
    → IsAnyProgrammerOf (port old.port).device.firmware hertz programmer
    → ((asked : Option ℕ) → AwaitsCommand (port mid.port) → is_in_step mid ≡ true
    → IsAnyProgrammerOf (port mid.port).device.firmware asked programmer → EndsLooking port result mid new)
    → EndsLooking port result old new
goes_on_with {hertz = hertz} {programmer = programmer} first reported later = goes_on first
    (λ awaits in_step. later hertz awaits in_step
    (subst (λ (firmware : Firmware). IsAnyProgrammerOf firmware hertz programmer) (sym first.done.firmware) reported))

pub looked : {T E P C : Type 0} {port : P → PortState} {value : T} {old new : Link P C}
    → EndsLooking {E = E} port (Ok value) old new → HasLooked port old new
looked ends = record { looks = ends.looks; done = ends.done }

-- After calls that only looked at the chip and succeeded, any result may be returned.
pub returns_any : {T E P C : Type 0} {port : P → PortState} {old new : Link P C} (result : Result T E)
    → HasLooked port old new → EndsLooking port result old new
returns_any (Ok value) ends = record { looks = ends.looks; done = ends.done }
returns_any (Err failure) ends = record { looks = ends.looks; done = tt }

pub fails : {T T' E E' P C : Type 0} {port : P → PortState} {ended : Result T E} {old new : Link P C}
    (result : Result T' E') (Is : E' → Type 0) → IsErrAnd result Is → EndsLooking port ended old new
    → EndsLooking port result old new
fails (Ok value) Is err ends = absurd err
fails (Err failure) Is err ends = record { looks = ends.looks; done = tt }

pub passed : {T E P C : Type 0} {port : P → PortState} {result : Result T E} {old new : Link P C} → true ≡ is_ok result
    → EndsLooking port result old new → HasLooked port old new
passed {result = Ok value} is ends = record { looks = ends.looks; done = ends.done }
passed {result = Err failure} is ends = absurd (false≢true (sym is))

pub mapped : {T T' E E' P C : Type 0} {port : P → PortState} {old new : Link P C} {result : Result T E}
    {result' : Result T' E'} → is_ok result' ≡ is_ok result → EndsLooking port result old new
    → EndsLooking port result' old new
mapped {result = Ok value} {result' = Ok value'} same ends = record { looks = ends.looks; done = ends.done }
mapped {result = Ok value} {result' = Err failure} same ends = record { looks = ends.looks; done = tt }
mapped {result = Err failure} {result' = Ok value} same ends = absurd (false≢true (sym same))
mapped {result = Err failure} {result' = Err failure'} same ends = record { looks = ends.looks; done = tt }
