-- What a port is asked to send for transactions with the chip and for synchronizations.
use Rattle.std.specs.Prelude.{◌≡◌, ◌<◌, ◌≤◌, ◌++◌, ◌⊎◌, ℕ, Bool, true, List, [], ◌∷◌, Some, None, All, length, slice_index, if◌then◌else◌}
use Rattle.nor_model.specs.Exchange.{Exchange}
use Rattle.nor_serprog.specs.Frame.{operation_frame}

-- The bytes of all calls in the list, joined in the order of time. The list begins with the last call.
abbrev pub bytes_of_calls : List (List ℕ) → List ℕ
bytes_of_calls [] = []
bytes_of_calls (last ∷ before) = bytes_of_calls before ++ last

abbrev pub enable_frame : List ℕ
enable_frame = operation_frame (0x06 ∷ []) 0

abbrev pub lead_frame : (waits : Bool) → List ℕ
lead_frame waits = if waits then enable_frame else []

abbrev pub acks : (is_led : Bool) → List ℕ
acks is_led = if is_led then 0x06 ∷ [] else []

abbrev pub AsksLead : (waits : Bool) → (old new : List (List ℕ)) → Type 0
AsksLead waits old new = new ≡ (if waits then enable_frame ∷ old else old)

-- Holds if this crate can encode an O_SPIOP that sends `out` and reads `replies` bytes.
abbrev pub FitsOperation : (out : List ℕ) → (replies : ℕ) → Type 0
FitsOperation out replies = (length out ≤ 260) × (replies < 16777216)

-- Holds if `out` is a page program (02h) with at least 32 data bytes.
abbrev pub IsLongProgram : (out : List ℕ) → Type 0
IsLongProgram out = (slice_index out 0 ≡ 0x02) × (36 ≤ length out)

-- Holds if the port was asked to send these frames, and nothing else: the frame of a write enable, if one was held back
-- (`waits`), and then the frame of the O_SPIOP that sends `out` and reads `replies` bytes. One call sent both frames
-- only if `out` is a long program. The lengths satisfy `FitsOperation`.
pub record AsksInOrder (waits : Bool) (out : List ℕ) (replies : ℕ) (old new : List (List ℕ)) : Type 0 where
  pub fits : FitsOperation out replies
  pub asks : ((new ≡ (lead_frame waits ++ operation_frame out replies) ∷ old) × (waits ≡ true → IsLongProgram out))
      ⊎ ((waits ≡ true) × (new ≡ operation_frame out replies ∷ enable_frame ∷ old))

abbrev pub AreNops : List ℕ → Type 0
AreNops bytes = All (λ (byte : ℕ). (byte ≡ 0x10) ⊎ (byte ≡ 0x00)) bytes

-- The sequence of NOP and SYNCNOP that a synchronization sends after the reply to its first NOP.
abbrev pub nop_row : List ℕ
nop_row =
    0x00 ∷ 0x00 ∷ 0x00 ∷ 0x00 ∷ 0x00 ∷ 0x00 ∷ 0x00 ∷ 0x00 ∷ 0x00
    ∷ 0x10 ∷ 0x10 ∷ 0x00 ∷ 0x10 ∷ 0x00 ∷ 0x00 ∷ 0x10 ∷ 0x10 ∷ 0x10 ∷ 0x00 ∷ []

abbrev pub AsksSync : (old new : List (List ℕ)) → Type 0
AsksSync old new =
    (new ≡ old) ⊎ ((new ≡ (0x00 ∷ []) ∷ old) ⊎ (new ≡ nop_row ∷ (0x00 ∷ []) ∷ old))

-- Holds if `argument` is one frame of O_SPIOP, or the frames of a write enable (06h) and of a long program after it.
pub record IsOneOperation (argument : List ℕ) : Type 0 where
  pub waits : Bool
  pub out : List ℕ
  pub replies : ℕ
  pub fits : FitsOperation out replies
  pub led : waits ≡ true → IsLongProgram out
  pub is : argument ≡ lead_frame waits ++ operation_frame out replies

-- Holds if `bytes` is the frame of the transaction `exchange`. For a transaction that stopped, `bytes` may also be
-- empty, or request any number of reply bytes.
abbrev pub MayFrame : Exchange → List ℕ → Type 0
MayFrame exchange bytes = elim exchange.reply [
  | Some reply ↦ FitsOperation exchange.out (length reply) × (bytes ≡ operation_frame exchange.out (length reply))
  | None ↦ (bytes ≡ [])
      ⊎ ((replies : ℕ) × (FitsOperation exchange.out replies × (bytes ≡ operation_frame exchange.out replies)))
]

pub record EndsFraming (exchange : Exchange) (Earlier : List ℕ → Type 0) (bytes : List ℕ) : Type 0 where
  pub before : List ℕ
  pub last : List ℕ
  pub syncs : List ℕ
  pub is : bytes ≡ before ++ (last ++ syncs)
  pub nops : AreNops syncs
  pub earlier : Earlier before
  pub frame : MayFrame exchange last

-- Holds if `bytes` are the frames of a history (`MayFrame`), in order, and NOPs and SYNCNOPs before or after any frame.
abbrev pub AreFrames : List Exchange → List ℕ → Type 0
AreFrames [] bytes = AreNops bytes
AreFrames (exchange ∷ earlier) bytes = EndsFraming exchange (AreFrames earlier) bytes

-- Holds if all bytes of the calls after `start`, and then a write enable if one is held back (`waits`), are the frames
-- of the history (`AreFrames`), and each call sends only NOPs and SYNCNOPs or satisfies `IsOneOperation`.
pub record IsFramed (start asked : List (List ℕ)) (waits : Bool) (history : List Exchange) : Type 0 where
  pub later : List (List ℕ)
  pub since : asked ≡ later ++ start
  pub frames : AreFrames history (bytes_of_calls later ++ lead_frame waits)
  pub whole : All (λ (argument : List ℕ). IsOneOperation argument ⊎ AreNops argument) later
