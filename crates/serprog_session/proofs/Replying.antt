-- Lemmas: the simulated programmer replies to frames one after another, as its firmware specifies.
use Rattle.std.proofs.Common.{◌≡◌, ◌∙◌, ◌+◌, ◌<◌, ◌≤◌, true, ◌++◌, ℕ, Bool, true, false, List, [], ◌∷◌, length, take, drop, refl, sym, ap, arith, append_assoc, length-append}
use Rattle.std.specs.Prelude.{◌==◌, ◌||◌, if◌then◌else◌, slice_index, Option, Some, unwrap_or, Result, Ok, Err, OnOk, IsOk}
use Rattle.std.specs.Result.{is_err}
use Rattle.std.specs.List.{IsSplitAt}
use Rattle.std.proofs.lemmas.Bool.{false≢true}
use Rattle.std.proofs.lemmas.List.{append-nil, take-append-le}
use Rattle.std.proofs.Math.Seq.{take-length, drop-append_seam}
use Rattle.nor_serprog.specs.declared.command.Command.{Command}
use Rattle.nor_serprog.specs.declared.command.Command.TheVariants.{SetBuses, Operate, SetFrequency, SetPins, SelectChip}
use Rattle.nor_serprog.specs.Frame.{frame_of, frame_len, long_len, argument_count}
use Rattle.nor_serprog.specs.Firmware.{ProgrammerSettings, HasReply, HaveReplies, reply_of, replies_of, settings_after, settings_after_all, frames_of}
use Rattle.serprog_session.specs.SimPort.{simulated_firmware, simulated_reply, simulated_settings, bus_type_after}

record IsAnswerable (command : Command) : Type 0 where
  reply : simulated_reply (slice_index (frame_of command) 0) ≡ reply_of simulated_firmware command
  selects : (bus_type : Option ℕ) → simulated_settings (bus_type_after (frame_of command) bus_type)
      ≡ settings_after simulated_firmware command (simulated_settings bus_type)
  len : (more : List ℕ) → frame_len (frame_of command ++ more) ≡ Some (length (frame_of command))
  some : 0 < length (frame_of command)
  first : (more : List ℕ) → slice_index (frame_of command ++ more) 0 ≡ 0x13 → ⊥

answerable : (command : Command) → HasReply simulated_firmware command → IsAnswerable command
answerable (Operate out replies) has = absurd has
answerable (SetFrequency hertz) has = absurd (false≢true has)
answerable (SetPins enabled) has = absurd (false≢true has)
answerable (SelectChip number) has = absurd (false≢true has)
answerable (SetBuses flags) has = record {
  reply = refl;
  selects = λ bus_type. refl;
  len = λ more. refl;
  some = omega arith;
  first = λ more first. omega (arith, first);
}
answerable _ has = record {
  reply = refl;
  selects = λ bus_type. refl;
  len = λ more. refl;
  some = omega arith;
  first = λ more first. omega (arith, first);
}

pub no_operation : (commands : List Command) (frames : List ℕ) → frames ≡ frames_of commands
    → HaveReplies simulated_firmware commands → slice_index frames 0 ≡ 0x13 → ⊥
no_operation [] frames same have first =
    let zero : slice_index frames 0 ≡ 0 = ap (λ (f : List ℕ). slice_index f 0) same in omega (arith, zero, first)
no_operation (command ∷ rest) frames same have first =
    (answerable command have.0).first (frames_of rest) (sym (ap (λ (f : List ℕ). slice_index f 0) same) ∙ first)

long_some : (rest : List ℕ) → 0 < unwrap_or (long_len rest) 18446744073709551615
long_some (a ∷ b ∷ c ∷ rest) = omega arith
long_some _ = omega arith

either_some : (test : Bool) (first second : Option ℕ) → 0 < unwrap_or first 18446744073709551615
    → 0 < unwrap_or second 18446744073709551615
    → 0 < unwrap_or (if test then first else second) 18446744073709551615
either_some true first second some some' = some
either_some false first second some some' = some'

pub len_some : (rest : List ℕ) → 0 < unwrap_or (frame_len rest) 18446744073709551615
len_some [] = omega arith
len_some (opcode ∷ rest) =
    either_some (opcode == 0x13 || opcode == 0x0D) (long_len rest) (Some (1 + argument_count opcode)) (long_some rest)
    (omega arith)

-- Holds while the programmer replies to the frames of `commands` one after another. `rest` has the frames of the
-- commands `later`, whose replies aren't in `now` yet.
pub record Remains (rest before now : List ℕ) (bus bus' : Option ℕ) (commands : List Command) : Type 0 where
  pub later : List Command
  pub frames : rest ≡ frames_of later
  pub have : HaveReplies simulated_firmware later
  pub replies : now ++ replies_of simulated_firmware later ≡ before ++ replies_of simulated_firmware commands
  pub settings : settings_after_all simulated_firmware later (simulated_settings bus')
      ≡ settings_after_all simulated_firmware commands (simulated_settings bus)

pub record Answers (frames rest before now : List ℕ) (bus bus' : Option ℕ) (done : ℕ) : Type 0 where
  pub shorter : length rest + done ≤ length frames
  pub remains : (commands : List Command) → frames ≡ frames_of commands
      → HaveReplies simulated_firmware commands → Remains rest before now bus bus' commands

pub answers_none : (frames before : List ℕ) (bus : Option ℕ) → Answers frames frames before before bus bus 0
answers_none frames before bus = record {
  shorter = omega arith;
  remains = λ commands same have. record { later = commands; frames = same; have = have; replies = refl; settings = refl };
}

pub record IsNext (rest frame rest' : List ℕ) (command : Command) (later : List Command) : Type 0 where
  pub frame_is : frame ≡ frame_of command
  pub rest_is : rest' ≡ frames_of later

next : (rest frame rest' : List ℕ) (len : ℕ) (command : Command) (later : List Command)
    → rest ≡ frames_of (command ∷ later) → HasReply simulated_firmware command
    → len ≡ unwrap_or (frame_len rest) 18446744073709551615 → IsSplitAt rest len frame rest'
    → IsNext rest frame rest' command later
next rest frame rest' len command later same has is split =
    let f = frame_of command in
    let known : frame_len rest ≡ Some (length f) = ap frame_len same ∙ (answerable command has).len (frames_of later) in
    let len_of : len ≡ length f = is ∙ ap (λ (o : Option ℕ). unwrap_or o 18446744073709551615) known in
    record {
      frame_is = split.1 ∙ ap (λ (n : ℕ). take n rest) len_of ∙ ap (λ (r : List ℕ). take (length f) r) same
          ∙ take-append-le (length f) f (frames_of later) (omega arith) ∙ take-length f;
      rest_is = split.2 ∙ ap (λ (n : ℕ). drop n rest) len_of ∙ ap (λ (r : List ℕ). drop (length f) r) same
          ∙ drop-append_seam f (frames_of later);
    }

nothing_left : (rest frame rest' : List ℕ) (len : ℕ) → rest ≡ []
    → len ≡ unwrap_or (frame_len rest) 18446744073709551615 → IsSplitAt rest len frame rest' → ⊥
nothing_left rest frame rest' len same is split =
    let huge : len ≡ 18446744073709551615 =
    is ∙ ap (λ (r : List ℕ). unwrap_or (frame_len r) 18446744073709551615) same in
    omega (arith, huge, split.0, ap length same)

pub remains_then : (rest frame rest' before now now' : List ℕ) (bus mid bus' : Option ℕ) (len : ℕ) (commands later : List Command)
    → len ≡ unwrap_or (frame_len rest) 18446744073709551615 → IsSplitAt rest len frame rest'
    → now' ≡ now ++ simulated_reply (slice_index frame 0) → bus' ≡ bus_type_after frame mid → rest ≡ frames_of later
    → HaveReplies simulated_firmware later
    → now ++ replies_of simulated_firmware later ≡ before ++ replies_of simulated_firmware commands
    → settings_after_all simulated_firmware later (simulated_settings mid)
    ≡ settings_after_all simulated_firmware commands (simulated_settings bus)
    → Remains rest' before now' bus bus' commands
remains_then rest frame rest' before now now' bus mid bus' len commands [] is split more selects frames have replies settings =
    absurd (nothing_left rest frame rest' len frames is split)
remains_then rest frame rest' before now now' bus mid bus' len commands (command ∷ later) is split more selects frames have replies settings =
    let n = next rest frame rest' len command later frames have.0 is split in
    let reply = reply_of simulated_firmware command in
    let same : simulated_reply (slice_index frame 0) ≡ reply =
    ap (λ (f : List ℕ). simulated_reply (slice_index f 0)) n.frame_is ∙ (answerable command have.0).reply in
    record {
      later = later;
      frames = n.rest_is;
      have = have.1;
      replies = ap (λ (l : List ℕ). l ++ replies_of simulated_firmware later) (more ∙ ap (λ (r : List ℕ). now ++ r) same)
          ∙ append_assoc now reply (replies_of simulated_firmware later) ∙ replies;
      settings = ap (λ (s : ProgrammerSettings). settings_after_all simulated_firmware later s)
          (ap simulated_settings (selects ∙ ap (λ (f : List ℕ). bus_type_after f mid) n.frame_is)
          ∙ (answerable command have.0).selects mid) ∙ settings;
    }

pub answers_then : (frames rest frame rest' before now now' : List ℕ) (bus mid bus' : Option ℕ) (len done : ℕ)
    → len ≡ unwrap_or (frame_len rest) 18446744073709551615 → IsSplitAt rest len frame rest'
    → now' ≡ now ++ simulated_reply (slice_index frame 0) → bus' ≡ bus_type_after frame mid
    → Answers frames rest before now bus mid done → Answers frames rest' before now' bus bus' (done + 1)
answers_then frames rest frame rest' before now now' bus mid bus' len done is split more selects a = record {
  shorter = omega (arith, a.shorter, split.4, len_some rest, is);
  remains = λ commands same have.
      let r = a.remains commands same have in
      remains_then rest frame rest' before now now' bus mid bus' len commands r.later is split more selects r.frames r.have
      r.replies r.settings;
}

ended : (rest : List ℕ) (later : List Command) → length rest ≤ 0 → rest ≡ frames_of later
    → HaveReplies simulated_firmware later → later ≡ []
ended rest [] none frames have = refl
ended rest (command ∷ later) none frames have =
    absurd (omega (
      arith,
      none,
      ap length frames,
      length-append (frame_of command) (frames_of later),
      (answerable command have.0).some,
    ))

no_frame : (rest : List ℕ) (len : ℕ) (later : List Command)
    → len ≡ unwrap_or (frame_len rest) 18446744073709551615 → length rest < len → rest ≡ frames_of later
    → HaveReplies simulated_firmware later → later ≡ []
no_frame rest len [] is short frames have = refl
no_frame rest len (command ∷ later) is short frames have =
    let known : frame_len rest ≡ Some (length (frame_of command)) =
    ap frame_len frames ∙ (answerable command have.0).len (frames_of later) in
    let len_of : len ≡ length (frame_of command) =
    is ∙ ap (λ (o : Option ℕ). unwrap_or o 18446744073709551615) known in
    absurd (omega (arith, short, len_of, ap length frames, length-append (frame_of command) (frames_of later)))

pub record AreAnswered (before now : List ℕ) (bus bus' : Option ℕ) (commands : List Command) : Type 0 where
  pub replies : now ≡ before ++ replies_of simulated_firmware commands
  pub settings : simulated_settings bus' ≡ settings_after_all simulated_firmware commands (simulated_settings bus)

are_answered : (rest before now : List ℕ) (bus bus' : Option ℕ) (commands : List Command)
    → (r : Remains rest before now bus bus' commands) → r.later ≡ [] → AreAnswered before now bus bus' commands
are_answered rest before now bus bus' commands r none = record {
  replies = sym (append-nil now)
      ∙ ap (λ (l : List Command). now ++ replies_of simulated_firmware l) (sym none) ∙ r.replies;
  settings = ap (λ (l : List Command). settings_after_all simulated_firmware l (simulated_settings bus')) (sym none)
      ∙ r.settings;
}

pub all_answered : (frames rest before now : List ℕ) (bus bus' : Option ℕ) (done : ℕ) (commands : List Command)
    → length frames ≤ done → Answers frames rest before now bus bus' done → frames ≡ frames_of commands
    → HaveReplies simulated_firmware commands → AreAnswered before now bus bus' commands
all_answered frames rest before now bus bus' done commands all a same have =
    let r = a.remains commands same have in
    are_answered rest before now bus bus' commands r (ended rest r.later (omega (arith, a.shorter, all)) r.frames r.have)

pub none_whole : (frames rest before now : List ℕ) (bus bus' : Option ℕ) (len done : ℕ) (commands : List Command)
    → len ≡ unwrap_or (frame_len rest) 18446744073709551615 → length rest < len
    → Answers frames rest before now bus bus' done → frames ≡ frames_of commands → HaveReplies simulated_firmware commands
    → AreAnswered before now bus bus' commands
none_whole frames rest before now bus bus' len done commands is short a same have =
    let r = a.remains commands same have in
    are_answered rest before now bus bus' commands r (no_frame rest len r.later is short r.frames r.have)

next_fits : (rest frame rest' before now : List ℕ) (len : ℕ) (commands later : List Command)
    → len ≡ unwrap_or (frame_len rest) 18446744073709551615 → IsSplitAt rest len frame rest'
    → length before + length (replies_of simulated_firmware commands) ≤ 4097 → rest ≡ frames_of later
    → HaveReplies simulated_firmware later
    → now ++ replies_of simulated_firmware later ≡ before ++ replies_of simulated_firmware commands
    → length now + length (simulated_reply (slice_index frame 0)) ≤ 4097
next_fits rest frame rest' before now len commands [] is split fits frames have replies =
    absurd (nothing_left rest frame rest' len frames is split)
next_fits rest frame rest' before now len commands (command ∷ later) is split fits frames have replies =
    let n = next rest frame rest' len command later frames have.0 is split in
    let reply = reply_of simulated_firmware command in
    let same : simulated_reply (slice_index frame 0) ≡ reply =
    ap (λ (f : List ℕ). simulated_reply (slice_index f 0)) n.frame_is ∙ (answerable command have.0).reply in
    let all = ap length replies in
    let left = length-append now (reply ++ replies_of simulated_firmware later) in
    let both = length-append reply (replies_of simulated_firmware later) in
    let right = length-append before (replies_of simulated_firmware commands) in
    omega (arith, ap length same, all, left, both, right, fits)

pub reply_fits : (frames rest frame rest' before now : List ℕ) (bus bus' : Option ℕ) (len done : ℕ) (commands : List Command)
    → len ≡ unwrap_or (frame_len rest) 18446744073709551615 → IsSplitAt rest len frame rest'
    → length before + length (replies_of simulated_firmware commands) ≤ 4097
    → Answers frames rest before now bus bus' done → frames ≡ frames_of commands → HaveReplies simulated_firmware commands
    → length now + length (simulated_reply (slice_index frame 0)) ≤ 4097
reply_fits frames rest frame rest' before now bus bus' len done commands is split fits a same have =
    let r = a.remains commands same have in
    next_fits rest frame rest' before now len commands r.later is split fits r.frames r.have r.replies

pub err_not_ok : {T E : Type 0} (result : Result T E) → IsOk result → true ≡ is_err result → ⊥
err_not_ok (Ok value) ok is = false≢true (sym is)
err_not_ok (Err error) ok is = false≢true ok

pub if_ok : {T E : Type 0} (result : Result T E) (P : Type 0) → OnOk result P → false ≡ is_err result → P
if_ok (Ok value) P ok is = ok
if_ok (Err error) P ok is = absurd (false≢true is)
