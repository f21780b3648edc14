-- Relations between a chip and its identification, and between a chip and touched sectors; the header of a journal.
use Rattle.std.specs.Prelude.{◌≡◌, ◌≢◌, ◌<◌, ◌*◌, ◌/◌, ◌&&◌, ℕ, Bool, true, false, Some, [], ◌∷◌, ◌%◌, List}
use Rattle.nor_model.specs.Chip.{Chip, IsSame}
use Rattle.nor_model.specs.Bus.{BusState}
use Rattle.nor_model.specs.Guard.{code_of, is_block_protected}
use Rattle.nor_model.specs.Offer.{IsNotOffered}
use Rattle.nor_driver.specs.Reads.{unique_of, id_of}
use Rattle.nor_journal.specs.Text.{Content, empty_content}
use Rattle.nor_probe.specs.Found.{IsConfigOf}
use Rattle.nor_scan.specs.declared.identity.Identity.{Identity}
use Rattle.nor_request.specs.declared.request.What.{What}
use Rattle.nor_request.specs.declared.request.What.TheVariants.{WpRange}

-- Holds if `chip` is genuine and can be identified on a bus with or without further types (`further`), and its ID,
-- size, erase types, block protection, non-volatile status bits and unique ID are those of `identity`.
pub record IsIdentityOf (further : Bool) (chip : Chip) (identity : Identity) : Type 0 where
  pub config : IsConfigOf further chip.config identity.found
  pub one : identity.found.status1 / 4 ≡ chip.kept.one
  pub two : identity.status2 ≡ chip.kept.two
  pub unique : identity.unique ≡ unique_of chip.config

pub record HasIdleChip (chip : Chip) (state : BusState) : Type 0 where
  pub honest : state.honest ≡ true
  pub idle : state.chip.busy ≡ 0
  pub same : IsSame chip state.chip

-- Holds if the request is for a protection range, and no defined protection bits protect exactly this range.
abbrev pub AsksForNone : What → Chip → Type 0
AsksForNone (WpRange start len) chip = IsNotOffered chip.config.size start len
AsksForNone _ chip = ⊥

abbrev pub is_touched_protected : (touched : ℕ → Bool) → Chip → (s : ℕ) → Bool
is_touched_protected touched chip s = touched s && is_block_protected chip (4096 * s) 4096

pub record IsLeastProtected (touched : ℕ → Bool) (chip : Chip) (s : ℕ) : Type 0 where
  pub is : is_touched_protected touched chip s ≡ true
  pub least : (t : ℕ) → t < s → is_touched_protected touched chip t ≡ false

abbrev pub NoneProtected : (touched : ℕ → Bool) → Chip → Type 0
NoneProtected touched chip = (s : ℕ) → is_touched_protected touched chip s ≡ false

pub record SomeProtected (touched : ℕ → Bool) (chip : Chip) : Type 0 where
  pub sector : ℕ
  pub held : is_touched_protected touched chip sector ≡ true

-- Holds if a status write is needed: for a protection range if the target bits `code` differ from the chip's, otherwise
-- if `unlock` is set and a touched sector is protected.
abbrev pub NeedsStatus : What → (unlock : Bool) → (code : ℕ) → (touched : ℕ → Bool) → Chip → Type 0
NeedsStatus (WpRange start len) unlock code touched chip = code ≢ code_of chip.kept
NeedsStatus _ unlock code touched chip = (unlock ≡ true) × SomeProtected touched chip

-- The non-volatile bits of the two status bytes that the identification read.
abbrev pub kept_read : Identity → List ℕ
kept_read identity = (identity.found.status1 / 4 * 4) ∷ (identity.status2 % 128) ∷ []

-- The header of the journal that is written after this identification.
abbrev pub header_found : Identity → Content
header_found identity =
    empty_content identity.found.id (Some identity.unique) (kept_read identity) identity.found.size

abbrev pub header_of : Chip → Content
header_of chip =
    empty_content (id_of chip.config) (Some (unique_of chip.config)) ((4 * chip.kept.one) ∷ chip.kept.two ∷ [])
    chip.config.size
