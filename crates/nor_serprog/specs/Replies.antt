-- The results of a link's exchanges of commands other than O_SPIOP, and of its synchronization.
use Rattle.std.specs.Prelude.{◌≡◌, ◌≢◌, ◌<◌, ◌≤◌, ◌+◌, ◌⊎◌, ℕ, true, List, [], ◌∷◌, length, slice_index, Result, OnOk, OnErr, IfErr, ⊤}
use Rattle.nor_serprog.specs.declared.command.Command.{Command}
use Rattle.nor_serprog.specs.declared.link.Failure.{Failure}
use Rattle.nor_serprog.specs.declared.link.Failure.TheVariants.{Port, Refused}
use Rattle.nor_serprog.specs.Frame.{frame_of}
use Rattle.nor_serprog.specs.Firmware.{reply_of, settings_after, nak}
use Rattle.nor_serprog.specs.Device.{PortState, IsIdle, MayLoseDevicePower, with_settings}

pub record AwaitsCommand (port : PortState) : Type 0 where
  pub honest : port.honest ≡ true
  pub idle : IsIdle port.device

-- Holds if after at most `calls` calls the programmer is idle, and chip, `worn`, firmware and settings are unchanged.
pub record OnlyAsks (calls : ℕ) (old new : PortState) : Type 0 where
  pub left : old.left ≤ new.left + calls
  pub awaits : AwaitsCommand new
  pub chip : new.device.chip ≡ old.device.chip
  pub worn : new.device.worn ≡ old.device.worn
  pub firmware : new.device.firmware ≡ old.device.firmware
  pub settings : new.device.settings ≡ old.device.settings

-- Holds if exactly `bytes` (1 to 25, the first not 0) are pending at a well-behaved port, and no command is incomplete.
pub record IsPending (bytes : List ℕ) (port : PortState) : Type 0 where
  pub honest : port.honest ≡ true
  pub begun : port.device.begun ≡ []
  pub pending : port.device.pending ≡ bytes
  pub some : 0 < length bytes
  pub few : length bytes ≤ 25
  pub first : slice_index bytes 0 ≢ 0

abbrev pub IsPortFailure : {C : Type 0} → Failure C → Type 0
IsPortFailure (Port cause) = ⊤
IsPortFailure _ = ⊥

-- Holds for the result of a call that fails only because fewer than `calls` calls of the port were left.
pub record AsksUnlessFew {C : Type 0} (calls : ℕ) (result : Result Unit (Failure C))
    (old new : PortState) : Type 0 where
  pub done : OnOk result (OnlyAsks calls old new)
  pub few_left : IfErr result (λ failure. IsPortFailure failure × (old.left < calls))
  pub power : OnErr result (MayLoseDevicePower old.device new.device)

abbrev pub IsRefusal : {C : Type 0} → (opcode : ℕ) → Failure C → Type 0
IsRefusal opcode (Refused refused) = refused ≡ opcode
IsRefusal opcode _ = ⊥

abbrev pub IsNoRefusal : {C : Type 0} → Failure C → Type 0
IsNoRefusal (Refused refused) = ⊥
IsNoRefusal _ = ⊤

abbrev pub IsRefused : {C : Type 0} → (opcode calls left : ℕ) → Failure C → Type 0
IsRefused opcode calls left failure = IsRefusal opcode failure ⊎ (IsPortFailure failure × (left < calls))

-- Holds for the result of an exchange of `command`, which requests `count` reply bytes, over a well-behaved port to an
-- idle programmer. For SYNCNOP and O_SPIOP, only the field `power` says something.
pub record EndsExchange {C : Type 0} (command : Command) (count : ℕ) (reply : List ℕ) (result : Result Unit (Failure C))
    (old new : PortState) : Type 0 where
  pub acked : (bytes : List ℕ) → reply_of old.device.firmware command ≡ 0x06 ∷ bytes → count ≡ length bytes
      → OnOk result ((reply ≡ bytes) × OnlyAsks 3
      (with_settings (settings_after old.device.firmware command old.device.settings) old) new)
      × IfErr result (λ failure. IsPortFailure failure × (old.left < 3))
  pub refused : reply_of old.device.firmware command ≡ nak
      → OnOk result ⊥ × IfErr result (IsRefused (slice_index (frame_of command) 0) 2 old.left)
  pub power : OnErr result (MayLoseDevicePower old.device new.device)
