use Rattle.std.specs.Prelude.{◌≡◌, ◌-◌, ◌*◌, ◌++◌, ℕ, Bool, true, false, List, [], ◌∷◌, length, replicate}
use Rattle.nor_model.specs.declared.config.Config.{Config}
use Rattle.nor_model.specs.declared.config.Kinds.{Kinds}
use Rattle.nor_model.specs.Sfdp.{sfdp_of, sfdp_with}

abbrev pub all_kinds : Kinds
all_kinds = record { k32 = true; k64 = true }

pub record HasParts (with_id : List ℕ) (with_size : ℕ) (with_kinds : Kinds) (with_scheme : Bool)
    (with_sfdp : List ℕ) (config : Config) : Type 0 where
  pub id : config.id ≡ with_id
  pub size : config.size ≡ with_size
  pub kinds : config.kinds ≡ with_kinds
  pub scheme : config.scheme ≡ with_scheme
  pub unique : config.unique ≡ replicate 8 0
  pub sfdp : config.sfdp ≡ with_sfdp ++ replicate (256 - length with_sfdp) 255

-- Holds if the configuration has these properties and a unique ID of zeros. Its SFDP bytes describe the erase types
-- 20h, 52h and D8h, even if `with_kinds` lacks one.
abbrev pub IsEmulatedWith : (with_id : List ℕ) → (with_size : ℕ) → Kinds → (with_scheme : Bool) → Config → Type 0
IsEmulatedWith with_id with_size with_kinds with_scheme =
    HasParts with_id with_size with_kinds with_scheme (sfdp_with (8 * with_size - 1))

abbrev pub IsTiny64 : Config → Type 0
IsTiny64 = HasParts (0xFE ∷ 0x10 ∷ 0x10 ∷ []) 65536 all_kinds false (sfdp_of 0xFF 0xFF 0x07 0x00)

abbrev pub IsW25q64fv : Config → Type 0
IsW25q64fv = HasParts (0xEF ∷ 0x40 ∷ 0x17 ∷ []) 8388608 all_kinds true (sfdp_of 0xFF 0xFF 0xFF 0x03)

abbrev pub IsW25q128fv : Config → Type 0
IsW25q128fv = HasParts (0xEF ∷ 0x40 ∷ 0x18 ∷ []) 16777216 all_kinds true (sfdp_of 0xFF 0xFF 0xFF 0x07)
