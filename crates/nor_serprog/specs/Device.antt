-- The states of a programmer with its chip and of a port, and the effects of the calls of a well-behaved port
-- (flashrom's Documentation/serprog-protocol.txt: "Command And Answer Sequence", and the note on O_SPIOP).
use Rattle.std.specs.Prelude.{◌≡◌, ◌<◌, ◌≤◌, ◌+◌, ◌++◌, ◌⊎◌, ◌||◌, ℕ, Bool, false, List, [], ◌∷◌, None, length, take, slice_index, ⊤}
use Rattle.nor_model.specs.Chip.{Chip}
use Rattle.nor_model.specs.Bus.{unknown_chip}
use Rattle.nor_model.specs.Power.{PowerLost}
use Rattle.nor_model.specs.Step.{Step, done_of, wears}
use Rattle.nor_serprog.specs.declared.command.Command.{Command}
use Rattle.nor_serprog.specs.declared.command.Command.TheVariants.{Operate}
use Rattle.nor_serprog.specs.Frame.{IsFrame, out_in, replies_in}
use Rattle.nor_serprog.specs.Firmware.{Firmware, ProgrammerSettings, HaveReplies, frames_of, replies_of, settings_after_all, buffer_at, unknown_firmware}

pub record Device : Type 0 where
  pub chip : Chip
  -- the sectors that the chip has erased
  pub worn : ℕ → Bool
  pub firmware : Firmware
  -- unknown after a failure of the port, or after bytes whose effect is not specified
  pub settings : ProgrammerSettings
  -- the bytes that the programmer received of a command that is not complete yet
  pub begun : List ℕ
  -- the bytes of replies that the host has not received yet
  pub pending : List ℕ

pub record IsIdle (device : Device) : Type 0 where
  pub begun : device.begun ≡ []
  pub pending : device.pending ≡ []

pub record PortState : Type 0 where
  pub device : Device
  -- for a well-behaved port, the greatest number of further calls that can succeed; code cannot read this number
  pub left : ℕ
  pub honest : Bool
  -- what each call of `send` was asked to send, the last call first; the port may have failed to send it
  pub asked : List (List ℕ)
  pub received : List ℕ

abbrev pub with_settings : ProgrammerSettings → PortState → PortState
with_settings settings port = record port { device = record port.device { settings = settings } }

-- Holds if the chip made one step: it received the bytes `out` and returned the bytes `answer`.
pub record StepsOnce (out answer : List ℕ) (old new : Device) : Type 0 where
  pub step : Step old.chip out answer new.chip
  pub worn : (s : ℕ) → new.worn s ≡ (old.worn s || wears (done_of old.chip out (length answer)) s)

pub record MayLoseDevicePower (old new : Device) : Type 0 where
  pub chip : (new.chip ≡ old.chip) ⊎ PowerLost old.chip new.chip
  pub worn : (s : ℕ) → new.worn s ≡ old.worn s

-- Holds if the transaction `out` may have been interrupted: the programmer sent the first `count` bytes of `out` (or
-- all, if there are fewer) to the chip and read the bytes `read`, and then the chip may have lost its power.
pub record IsCut (out : List ℕ) (old new : Device) : Type 0 where
  pub count : ℕ
  pub read : List ℕ
  pub reached : Device
  pub steps : StepsOnce (take count out) read old reached
  pub then : MayLoseDevicePower reached new

pub record OperatesFrame (frame : List ℕ) (old new : Device) : Type 0 where
  pub answer : List ℕ
  pub len : length answer ≡ replies_in frame
  pub steps : StepsOnce (out_in frame) answer old new
  pub begun : new.begun ≡ []
  pub pending : new.pending ≡ old.pending ++ 0x06 ∷ answer
  pub settings : new.settings ≡ old.settings

-- Holds if `bytes` complete a frame of O_SPIOP, whose first bytes the programmer may have received before.
pub record CompletesOperation (bytes : List ℕ) (old : Device) : Type 0 where
  pub whole : IsFrame (old.begun ++ bytes)
  pub opcode : slice_index (old.begun ++ bytes) 0 ≡ 0x13

-- Holds if `bytes` are two frames of O_SPIOP, the programmer is idle, and both frames fit into its serial buffer
-- together. The first frame requests no reply bytes.
pub record CompletesBoth (first second bytes : List ℕ) (old : Device) : Type 0 where
  pub idle : IsIdle old
  pub is : bytes ≡ first ++ second
  pub whole : IsFrame first
  pub opcode : slice_index first 0 ≡ 0x13
  pub unanswered : replies_in first ≡ 0
  pub second_whole : IsFrame second
  pub second_opcode : slice_index second 0 ≡ 0x13
  pub fits : length bytes ≤ buffer_at old.firmware

pub record OperatesBoth (first second : List ℕ) (old new : Device) : Type 0 where
  pub between : Device
  pub former : OperatesFrame first old between
  pub latter : OperatesFrame second between new

pub record CutsSecond (first second : List ℕ) (old new : Device) : Type 0 where
  pub between : Device
  pub former : OperatesFrame first old between
  pub cut : IsCut (out_in second) between new

-- Holds if no command is incomplete, and `bytes` are the frames of `commands`, which all satisfy `HasReply`.
pub record AsksFor (commands : List Command) (bytes : List ℕ) (old : Device) : Type 0 where
  pub begun : old.begun ≡ []
  pub frames : bytes ≡ frames_of commands
  pub replies : HaveReplies old.firmware commands

-- Holds if the programmer carried out `commands` and replied to each of them. The chip is unchanged.
pub record RepliesTo (commands : List Command) (old new : Device) : Type 0 where
  pub pending : new.pending ≡ old.pending ++ replies_of old.firmware commands
  pub begun : new.begun ≡ []
  pub settings : new.settings ≡ settings_after_all old.firmware commands old.settings
  pub chip : new.chip ≡ old.chip
  pub worn : new.worn ≡ old.worn

-- Holds if one call sent all of `bytes`. Their effect is specified only for a frame of O_SPIOP or the rest of one
-- (`done`), for whole frames of other commands (`replies`), and for two frames of O_SPIOP (`both`).
pub record IsSent (bytes : List ℕ) (old new : PortState) : Type 0 where
  pub left : old.left ≡ new.left + 1
  pub firmware : new.device.firmware ≡ old.device.firmware
  pub done : CompletesOperation bytes old.device → OperatesFrame (old.device.begun ++ bytes) old.device new.device
  pub replies : (commands : List Command) → AsksFor commands bytes old.device
      → RepliesTo commands old.device new.device
  -- This assumes that no byte of the second frame is lost while the programmer carries out the first frame
  pub both : (first second : List ℕ) → CompletesBoth first second bytes old.device
      → OperatesBoth first second old.device new.device

-- Holds if no reply is pending, and `frame`, a frame of O_SPIOP, sends at most 260 bytes and reads at most 4,096.
pub record IsWithinLimits (frame : List ℕ) (device : Device) : Type 0 where
  pub none_pending : device.pending ≡ []
  pub sends : length (out_in frame) ≤ 260
  pub reads : replies_in frame ≤ 4096

pub record AreWithinLimits (commands : List Command) (device : Device) : Type 0 where
  pub none_pending : device.pending ≡ []
  pub sends : length (frames_of commands) ≤ 260
  pub reads : length (replies_of device.firmware commands) ≤ 4096

-- Holds if the port failed while it sent `bytes`, after any number of them. If `bytes` would complete a frame of
-- O_SPIOP, its transaction may have been interrupted (`IsCut`), because a programmer may begin a transaction before the
-- frame is complete.
pub record IsCutOff (bytes : List ℕ) (old new : PortState) : Type 0 where
  pub firmware : new.device.firmware ≡ old.device.firmware
  pub none_left_for_commands : (commands : List Command) → AsksFor commands bytes old.device
      → AreWithinLimits commands old.device → old.left ≡ 0
  pub power : (commands : List Command) → AsksFor commands bytes old.device
      → MayLoseDevicePower old.device new.device
  pub none_left : CompletesOperation bytes old.device → IsWithinLimits (old.device.begun ++ bytes) old.device
      → old.left ≡ 0
  pub left : new.left ≡ 0
  pub cut : CompletesOperation bytes old.device → IsCut (out_in (old.device.begun ++ bytes)) old.device new.device
  pub cut_both : (first second : List ℕ) → CompletesBoth first second bytes old.device
      → IsCut (out_in first) old.device new.device ⊎ CutsSecond first second old.device new.device

pub record IsReceived (bytes : List ℕ) (old new : PortState) : Type 0 where
  pub left : old.left ≡ new.left + 1
  pub pending : old.device.pending ≡ bytes ++ new.device.pending
  pub begun : new.device.begun ≡ old.device.begun
  pub chip : new.device.chip ≡ old.device.chip
  pub worn : new.device.worn ≡ old.device.worn
  pub firmware : new.device.firmware ≡ old.device.firmware
  pub settings : new.device.settings ≡ old.device.settings

-- Holds if the port failed to receive `count` bytes. The chip may have lost its power.
pub record IsSilent (count : ℕ) (old new : PortState) : Type 0 where
  pub firmware : new.device.firmware ≡ old.device.firmware
  pub none_left : count ≤ length old.device.pending → old.left ≡ 0
  pub left : new.left ≡ 0
  pub power : MayLoseDevicePower old.device new.device

pub record TakesAnswer (reply : List ℕ) (old new : PortState) : Type 0 where
  pub left : old.left ≡ new.left + 2
  pub pending : old.device.pending ≡ 0x06 ∷ (reply ++ new.device.pending)
  pub begun : new.device.begun ≡ old.device.begun
  pub chip : new.device.chip ≡ old.device.chip
  pub worn : new.device.worn ≡ old.device.worn
  pub firmware : new.device.firmware ≡ old.device.firmware
  pub settings : new.device.settings ≡ old.device.settings

pub record AnswerBegins (port : PortState) : Type 0 where
  pub some : 0 < length port.device.pending
  pub ack : slice_index port.device.pending 0 ≡ 0x06

-- Holds if the port failed to receive ACK and `count` reply bytes. The chip may have lost its power.
pub record MissesAnswer (count : ℕ) (old new : PortState) : Type 0 where
  pub few_left : count < length old.device.pending → old.left < 2
  pub few : new.left < 3
  pub power : MayLoseDevicePower old.device new.device

-- Holds if three calls carried out `out`, with the reply `answer`, and the programmer is idle.
pub record Exchanged (out answer : List ℕ) (old new : PortState) : Type 0 where
  pub left : old.left ≡ new.left + 3
  pub idle : IsIdle new.device
  pub firmware : new.device.firmware ≡ old.device.firmware
  pub settings : new.device.settings ≡ old.device.settings
  pub steps : StepsOnce out answer old.device new.device

-- Holds if `out` may have been interrupted (`IsCut`), and fewer than 3 calls are left. For lengths within the limits
-- (`few_left`), fewer than 3 were left before. The frame requests `replies` bytes, and the caller `wanted` bytes.
pub record Interrupted (out : List ℕ) (replies wanted : ℕ) (old new : PortState) : Type 0 where
  pub few_left : length out ≤ 260 → replies ≤ 4096 → wanted ≤ replies → old.left < 3
  pub few : new.left < 3
  pub cut : IsCut out old.device new.device

abbrev pub IfOperates : Command → (List ℕ → ℕ → Type 0) → Type 0
IfOperates (Operate out replies) P = P out.now replies
IfOperates _ P = ⊤

-- The state of a port about which only `asked` and `received` are known. The device given here is arbitrary.
abbrev pub unknown_port : (asked : List (List ℕ)) → (received : List ℕ) → PortState
unknown_port asked received = record {
  device = record {
    chip = unknown_chip;
    worn = λ s. false;
    firmware = unknown_firmware;
    settings = record { bus_type = None; pins_on = false };
    begun = [];
    pending = [];
  };
  left = 0;
  honest = false;
  asked = asked;
  received = received;
}
