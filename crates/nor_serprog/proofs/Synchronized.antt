-- Lemmas for the synchronization of a link over a well-behaved port to an idle programmer.
use Rattle.std.proofs.Common.{◌≡◌, ◌≢◌, ◌∙◌, ◌+◌, ◌<◌, ◌≤◌, ◌++◌, ℕ, List, [], ◌∷◌, length, refl, ap, arith}
use Rattle.std.specs.Prelude.{slice_index, Ok, Err}
use Rattle.nor_serprog.specs.declared.command.Command.{Command}
use Rattle.nor_serprog.specs.declared.command.Command.TheVariants.{Nop, SyncNop}
use Rattle.nor_serprog.specs.Firmware.{Firmware, ProgrammerSettings, frames_of, replies_of, settings_after_all, HaveReplies}
use Rattle.nor_serprog.specs.Device.{PortState, IsSent, IsCutOff, AsksFor, AreWithinLimits}
use Rattle.nor_serprog.specs.declared.link.Failure.{Failure}
use Rattle.nor_serprog.specs.Replies.{IsPortFailure, AwaitsCommand, OnlyAsks, AsksUnlessFew, IsPending}
use Rattle.nor_serprog.proofs.Replied.{power_then}

abbrev pub row : List Command
row =
    Nop ∷ Nop ∷ Nop ∷ Nop ∷ Nop ∷ Nop ∷ Nop ∷ Nop ∷ Nop
    ∷ SyncNop ∷ SyncNop ∷ Nop ∷ SyncNop ∷ Nop ∷ Nop ∷ SyncNop ∷ SyncNop ∷ SyncNop ∷ Nop ∷ []

-- Holds if `bytes` (at most 260) are the frames of `commands`, which change no settings, and `answers` (1 to 25 bytes,
-- the first not 0) are the replies of any firmware to `commands`.
pub record IsRow (commands : List Command) (bytes answers : List ℕ) : Type 0 where
  pub frames : bytes ≡ frames_of commands
  pub has : (firmware : Firmware) → HaveReplies firmware commands
  pub answers_are : (firmware : Firmware) → replies_of firmware commands ≡ answers
  pub keeps : (firmware : Firmware) (settings : ProgrammerSettings) → settings_after_all firmware commands settings ≡ settings
  pub short : length (frames_of commands) ≤ 260
  pub some : 0 < length answers
  pub few : length answers ≤ 25
  pub first : slice_index answers 0 ≢ 0

pub first_row : IsRow (Nop ∷ []) (0x00 ∷ []) (0x06 ∷ [])
first_row = record {
  frames = refl;
  has = λ firmware. (tt, tt);
  answers_are = λ firmware. refl;
  keeps = λ firmware settings. refl;
  short = omega arith;
  some = omega arith;
  few = omega arith;
  first = λ zero. omega arith;
}

pub whole_row : IsRow row
    (0x00 ∷ 0x00 ∷ 0x00 ∷ 0x00 ∷ 0x00 ∷ 0x00 ∷ 0x00 ∷ 0x00 ∷ 0x00
    ∷ 0x10 ∷ 0x10 ∷ 0x00 ∷ 0x10 ∷ 0x00 ∷ 0x00 ∷ 0x10 ∷ 0x10 ∷ 0x10 ∷ 0x00 ∷ [])
    (0x06 ∷ 0x06 ∷ 0x06 ∷ 0x06 ∷ 0x06 ∷ 0x06 ∷ 0x06 ∷ 0x06 ∷ 0x06 ∷ 0x15 ∷ 0x06 ∷ 0x15 ∷ 0x06
    ∷ 0x06 ∷ 0x15 ∷ 0x06 ∷ 0x06 ∷ 0x06 ∷ 0x15 ∷ 0x06 ∷ 0x15 ∷ 0x06 ∷ 0x15 ∷ 0x06 ∷ 0x06 ∷ [])
whole_row = record {
  frames = refl;
  has = λ firmware.
      (tt, (tt, (tt, (tt, (tt, (tt, (tt, (tt, (tt, (tt, (tt, (tt, (tt, (tt, (tt, (tt, (tt, (tt, (tt, tt)))))))))))))))))));
  answers_are = λ firmware. refl;
  keeps = λ firmware settings. refl;
  short = omega arith;
  some = omega arith;
  few = omega arith;
  first = λ zero. omega arith;
}

asks_row : (commands : List Command) (bytes answers : List ℕ) (old : PortState) → IsRow commands bytes answers
    → AwaitsCommand old → AsksFor commands bytes old.device
asks_row commands bytes answers old is awaits = record {
  begun = awaits.idle.begun;
  frames = is.frames;
  replies = is.has old.device.firmware;
}

pending_row : (commands : List Command) (bytes answers : List ℕ) (old new : PortState)
    → IsRow commands bytes answers → AwaitsCommand old → new.honest ≡ old.honest → IsSent bytes old new
    → IsPending answers new
pending_row commands bytes answers old new is awaits nature s =
    let r = s.replies commands (asks_row commands bytes answers old is awaits) in
    record {
      honest = nature ∙ awaits.honest;
      begun = r.begun;
      pending = r.pending
          ∙ ap (λ (p : List ℕ). p ++ replies_of old.device.firmware commands) awaits.idle.pending
          ∙ is.answers_are old.device.firmware;
      some = is.some;
      few = is.few;
      first = is.first;
    }

pub row_done : {C : Type 0} (commands : List Command) (bytes answers : List ℕ) (calls : ℕ) (old sent new : PortState)
    → IsRow commands bytes answers → AwaitsCommand old → sent.honest ≡ old.honest → IsSent bytes old sent
    → (IsPending answers sent → AsksUnlessFew {C = C} calls (Ok tt) sent new) → OnlyAsks (calls + 1) old new
row_done commands bytes answers calls old sent new is awaits nature s skips =
    let r = s.replies commands (asks_row commands bytes answers old is awaits) in
    let asks = (skips (pending_row commands bytes answers old sent is awaits nature s)).done in
    record {
      left = omega (arith, s.left, asks.left);
      awaits = asks.awaits;
      chip = asks.chip ∙ r.chip;
      worn = asks.worn ∙ r.worn;
      firmware = asks.firmware ∙ s.firmware;
      settings = asks.settings ∙ r.settings ∙ is.keeps old.device.firmware old.device.settings;
    }

pub asks_then : (first second : ℕ) (old mid new : PortState) → OnlyAsks first old mid → OnlyAsks second mid new
    → OnlyAsks (first + second) old new
asks_then first second old mid new asks more = record {
  left = omega (arith, asks.left, more.left);
  awaits = more.awaits;
  chip = more.chip ∙ asks.chip;
  worn = more.worn ∙ asks.worn;
  firmware = more.firmware ∙ asks.firmware;
  settings = more.settings ∙ asks.settings;
}

pub row_cut : {C : Type 0} (commands : List Command) (bytes answers : List ℕ) (calls : ℕ) (failure : Failure C)
    (old new : PortState) → IsRow commands bytes answers → AwaitsCommand old → IsCutOff bytes old new
    → IsPortFailure failure → 0 < calls → AsksUnlessFew calls (Err failure) old new
row_cut commands bytes answers calls failure old new is awaits cut failed some =
    let asks = asks_row commands bytes answers old is awaits in
    let short : AreWithinLimits commands old.device = record {
      none_pending = awaits.idle.pending;
      sends = is.short;
      reads = omega (arith, ap length (is.answers_are old.device.firmware), is.few);
    } in
    record {
      done = tt;
      few_left = (failed, omega (arith, cut.none_left_for_commands commands asks short, some));
      power = cut.power commands asks;
    }

pub row_missed : {C : Type 0} (commands : List Command) (bytes answers : List ℕ) (calls : ℕ) (failure : Failure C)
    (old sent new : PortState) → IsRow commands bytes answers → AwaitsCommand old → sent.honest ≡ old.honest
    → IsSent bytes old sent → (IsPending answers sent → AsksUnlessFew calls (Err failure) sent new)
    → AsksUnlessFew (calls + 1) (Err failure) old new
row_missed commands bytes answers calls failure old sent new is awaits nature s misses =
    let r = s.replies commands (asks_row commands bytes answers old is awaits) in
    let missed = misses (pending_row commands bytes answers old sent is awaits nature s) in
    record {
      done = tt;
      few_left = (missed.few_left.0, omega (arith, s.left, missed.few_left.1));
      power = power_then old.device sent.device new.device r.chip r.worn missed.power;
    }

pub few_then : {C : Type 0} (first second : ℕ) (failure : Failure C) (old mid new : PortState) → OnlyAsks first old mid
    → AsksUnlessFew second (Err failure) mid new → AsksUnlessFew (first + second) (Err failure) old new
few_then first second failure old mid new asks few = record {
  done = tt;
  few_left = (few.few_left.0, omega (arith, asks.left, few.few_left.1));
  power = power_then old.device mid.device new.device asks.chip asks.worn few.power;
}

pub few_of_more : {C : Type 0} (calls more : ℕ) (failure : Failure C) (old new : PortState) → calls ≤ more
    → AsksUnlessFew calls (Err failure) old new → AsksUnlessFew more (Err failure) old new
few_of_more calls more failure old new within few = record {
  done = tt;
  few_left = (few.few_left.0, omega (arith, within, few.few_left.1));
  power = few.power;
}
