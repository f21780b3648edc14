-- The effect of an exchange of a command other than O_SPIOP over a well-behaved port.
use Rattle.std.proofs.Common.{◌≡◌, ◌∙◌, ◌<◌, ◌≤◌, ◌⊎◌, true, ◌++◌, ℕ, Bool, true, false, List, [], ◌∷◌, length, refl, sym, subst, ap, arith, inl, inr, length-append}
use Rattle.std.specs.Prelude.{slice_index, if◌then◌else◌, Option, None, Some, Ok, Err}
use Rattle.std.proofs.lemmas.List.{append-nil}
use Rattle.nor_model.specs.Chip.{Chip}
use Rattle.nor_model.specs.Power.{PowerLost}
use Rattle.nor_serprog.specs.declared.command.Command.{Command}
use Rattle.nor_serprog.specs.declared.command.Command.TheVariants.{Nop, QueryInterface, QueryCommands, QueryName, QuerySerialBuffer, QueryBuses, QueryLongestWrite, SyncNop, QueryLongestRead, SetBuses, Operate, SetFrequency, SetPins, SelectChip}
use Rattle.nor_serprog.specs.declared.link.Failure.{Failure}
use Rattle.nor_serprog.specs.Frame.{frame_of}
use Rattle.nor_serprog.specs.Firmware.{Firmware, HasReply, reply_of, nak, clocked}
use Rattle.nor_serprog.specs.Device.{Device, PortState, IsIdle, AnswerBegins, IsSent, IsCutOff, AsksFor, AreWithinLimits, RepliesTo, TakesAnswer, MissesAnswer, MayLoseDevicePower}
use Rattle.nor_serprog.specs.Replies.{AwaitsCommand, EndsExchange, IsPortFailure, IsRefusal, IsRefused}
use Rattle.nor_serprog.proofs.Exchanges.{none_rest}

pub asks_one : (command : Command) (frame : List ℕ) (old : Device) → IsIdle old → frame ≡ frame_of command
    → HasReply old.firmware command → AsksFor (command ∷ []) frame old
asks_one command frame old idle exact has = record {
  begun = idle.begun;
  frames = exact ∙ sym (append-nil (frame_of command));
  replies = (has, tt);
}

pub pending_one : (command : Command) (old sent : Device) → IsIdle old → RepliesTo (command ∷ []) old sent
    → sent.pending ≡ reply_of old.firmware command
pending_one command old sent idle r =
    r.pending ∙ ap (λ (p : List ℕ). p ++ (reply_of old.firmware command ++ [])) idle.pending
    ∙ append-nil (reply_of old.firmware command)

pub power_then : (old sent new : Device) → sent.chip ≡ old.chip → sent.worn ≡ old.worn
    → MayLoseDevicePower sent new → MayLoseDevicePower old new
power_then old sent new chip worn m = record {
  chip = subst (λ (c : Chip). (new.chip ≡ c) ⊎ PowerLost c new.chip) chip m.chip;
  worn = λ s. m.worn s ∙ ap (λ (w : ℕ → Bool). w s) worn;
}

queried_short : (has : Bool) (bytes : List ℕ) → length bytes ≤ 32
    → length (if has then 0x06 ∷ bytes else nak) ≤ 33
queried_short true bytes short = omega arith
queried_short false bytes short = omega arith

clocked_short : (clock : Option ℕ) → length (clocked clock) ≤ 33
clocked_short (Some set) = omega arith
clocked_short None = omega arith

pub reply_short : (firmware : Firmware) (command : Command) → length (reply_of firmware command) ≤ 33
reply_short firmware Nop = omega arith
reply_short firmware QueryInterface = omega arith
reply_short firmware QueryCommands = omega (arith, firmware.commands_len)
reply_short firmware QueryName = queried_short _ firmware.name (omega (arith, firmware.name_len))
reply_short firmware QuerySerialBuffer = queried_short _ _ (omega arith)
reply_short firmware QueryBuses = queried_short _ _ (omega arith)
reply_short firmware QueryLongestWrite = queried_short _ _ (omega arith)
reply_short firmware SyncNop = omega arith
reply_short firmware QueryLongestRead = queried_short _ _ (omega arith)
reply_short firmware (SetBuses flags) = queried_short _ _ (omega arith)
reply_short firmware (SetFrequency hertz) = clocked_short (firmware.clock hertz)
reply_short firmware (SetPins enabled) = queried_short _ _ (omega arith)
reply_short firmware (SelectChip number) = queried_short _ _ (omega arith)
reply_short firmware (Operate out replies) = omega arith

frame_short : (firmware : Firmware) (command : Command) → HasReply firmware command → length (frame_of command) ≤ 5
frame_short firmware (Operate out replies) has = absurd has
frame_short firmware (SetBuses flags) has = omega arith
frame_short firmware (SetFrequency hertz) has = omega arith
frame_short firmware (SetPins enabled) has = omega arith
frame_short firmware (SelectChip number) has = omega arith
frame_short firmware _ has = omega arith

short_one : (command : Command) (old : Device) → IsIdle old → HasReply old.firmware command
    → AreWithinLimits (command ∷ []) old
short_one command old idle has = record {
  none_pending = idle.pending;
  sends = omega (arith, length-append (frame_of command) [], frame_short old.firmware command has);
  reads = omega (arith, length-append (reply_of old.firmware command) [], reply_short old.firmware command);
}

pub answered_ok : {C : Type 0} (command : Command) (frame : List ℕ) (count : ℕ) (reply : List ℕ)
    (old sent new : PortState) → AwaitsCommand old → frame ≡ frame_of command
    → HasReply old.device.firmware command → IsSent frame old sent → TakesAnswer reply sent new
    → sent.honest ≡ old.honest → new.honest ≡ sent.honest → length reply ≡ count
    → EndsExchange {C = C} command count reply (Ok tt) old new
answered_ok command frame count reply old sent new awaits exact has s t honest honest' len =
    let r = s.replies (command ∷ []) (asks_one command frame old.device awaits.idle exact has) in
    let p : sent.device.pending ≡ reply_of old.device.firmware command =
    pending_one command old.device sent.device awaits.idle r in
    record {
      acked = λ bytes acks same.
          let both : 0x06 ∷ bytes ≡ 0x06 ∷ (reply ++ new.device.pending) = sym acks ∙ sym p ∙ t.pending in
          let f : bytes ≡ reply ++ new.device.pending = cc in
          let rest : new.device.pending ≡ [] = none_rest bytes reply new.device.pending f (sym same ∙ sym len) in
          let got : reply ≡ bytes = sym (f ∙ ap (λ (r : List ℕ). reply ++ r) rest ∙ append-nil reply) in (
            (
              got,
              record {
                left = omega (arith, s.left, t.left);
                awaits = record {
                  honest = honest' ∙ honest ∙ awaits.honest;
                  idle = record { begun = t.begun ∙ r.begun; pending = rest };
                };
                chip = t.chip ∙ r.chip;
                worn = t.worn ∙ r.worn;
                firmware = t.firmware ∙ s.firmware;
                settings = t.settings ∙ r.settings;
              },
            ),
            tt,
          );
      refused = λ naks.
          let both : 0x15 ∷ [] ≡ 0x06 ∷ (reply ++ new.device.pending) = sym naks ∙ sym p ∙ t.pending in
          let never : ⊥ = cc in absurd never;
      power = tt;
    }

pub answered_cut_off : {C : Type 0} (command : Command) (frame : List ℕ) (count : ℕ) (reply : List ℕ)
    (failure : Failure C) (old new : PortState) → AwaitsCommand old → frame ≡ frame_of command
    → HasReply old.device.firmware command → IsCutOff frame old new → IsPortFailure failure
    → EndsExchange command count reply (Err failure) old new
answered_cut_off command frame count reply failure old new awaits exact has cut failed =
    let asks = asks_one command frame old.device awaits.idle exact has in
    let none = cut.none_left_for_commands (command ∷ []) asks (short_one command old.device awaits.idle has) in
    record {
      acked = λ bytes acks same. (tt, (failed, omega (arith, none)));
      refused = λ naks. (tt, inr (failed, omega (arith, none)));
      power = cut.power (command ∷ []) asks;
    }

refused_more : {C : Type 0} (opcode opcode' calls calls' left left' : ℕ) (failure : Failure C) → opcode ≡ opcode'
    → (left < calls → left' < calls') → IsRefused opcode calls left failure → IsRefused opcode' calls' left' failure
refused_more opcode opcode' calls calls' left left' failure same more (inl refusal) =
    inl (subst (λ (n : ℕ). IsRefusal n failure) same refusal)
refused_more opcode opcode' calls calls' left left' failure same more (inr failed) = inr (failed.0, more failed.1)

pub answered_missed : {C : Type 0} (command : Command) (frame : List ℕ) (count : ℕ) (reply : List ℕ) (opcode : ℕ)
    (failure : Failure C) (old sent new : PortState) → AwaitsCommand old → frame ≡ frame_of command
    → HasReply old.device.firmware command → IsSent frame old sent
    → (AnswerBegins sent → MissesAnswer count sent new) → (AnswerBegins sent → IsPortFailure failure)
    → (sent.device.pending ≡ nak → IsRefused opcode 1 sent.left failure) → opcode ≡ slice_index frame 0
    → MayLoseDevicePower sent.device new.device
    → EndsExchange command count reply (Err failure) old new
answered_missed command frame count reply opcode failure old sent new awaits exact has s misses fails refuses first power =
    let r = s.replies (command ∷ []) (asks_one command frame old.device awaits.idle exact has) in
    let p : sent.device.pending ≡ reply_of old.device.firmware command =
    pending_one command old.device sent.device awaits.idle r in
    record {
      acked = λ bytes acks same.
          let all : sent.device.pending ≡ 0x06 ∷ bytes = p ∙ acks in
          let begins : AnswerBegins sent = record {
            some = subst (λ (p : List ℕ). 0 < length p) (sym all) (omega arith);
            ack = subst (λ (p : List ℕ). slice_index p 0 ≡ 6) (sym all) refl;
          } in
          let m = misses begins in
          (tt, (fails begins, omega (arith, s.left, m.few_left (omega (arith, ap length all, same)))));
      refused = λ naks. (
        tt,
        refused_more opcode _ 1 2 sent.left old.left failure (first ∙ ap (λ (f : List ℕ). slice_index f 0) exact)
            (λ few. omega (arith, s.left, few)) (refuses (p ∙ naks)),
      );
      power = power_then old.device sent.device new.device r.chip r.worn power;
    }
