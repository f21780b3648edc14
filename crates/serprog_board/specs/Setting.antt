-- The value of `-p` of flashnor-serprog.
use Rattle.std.specs.Prelude.{◌≡◌, ◌&&◌, ◌||◌, ◌++◌, ℕ, Bool, true, false, not, List, [], ◌∷◌, Option, None, Some, codes, drop, find, nat_eq, nat_le, option_and_then, if◌then◌else◌}
use Rattle.std.specs.List.{list_any, starts_with}
use Rattle.std.specs.Str.{bytes_eq}
use Rattle.nor_args.specs.Numbers.{clock_of, decimal_number}
use Rattle.nor_args.specs.Programmer.{has_key, is_alone_in, is_file, value_in}
use Rattle.nor_args.specs.Reasons.{flaw_by}
use Rattle.nor_args.specs.Text.{Text, key_of, pieces_of, reads, value_of}
use Rattle.serprog_board.specs.declared.setting.Setting.{Setting}
use Rattle.serprog_board.specs.declared.setting.WrongSetting.{WrongSetting}
use Rattle.serprog_board.specs.declared.setting.WrongSetting.TheVariants.{Network, BaudRate, Flawed, NoDevice, NoPrefix}

abbrev pub chip_select_of : Text → Option ℕ
chip_select_of text = option_and_then
    (λ number. if nat_le number 255 then Some number else None) (decimal_number text)

abbrev pub serprog_keys : List (Text × (Text → Bool))
serprog_keys =
    (codes "dev", is_file) ∷ (codes "spispeed", reads clock_of) ∷ (codes "cs", reads chip_select_of) ∷ []

abbrev pub is_serprog_setting : Text → Bool
is_serprog_setting setting =
    list_any (λ known. bytes_eq (key_of setting) known.0 && known.1 (value_of setting)) serprog_keys

abbrev pub has_serprog_key : Text → Bool
has_serprog_key setting = list_any (λ known. has_key known.0 setting) serprog_keys

abbrev pub serprog_settings : Text → List Text
serprog_settings text = pieces_of (drop 8 text)

abbrev pub names_serprog : Text → Bool
names_serprog text = starts_with nat_eq text (codes "serprog:")

unfoldable pub is_wrong : List Text → Text → Bool
is_wrong settings setting = not (is_serprog_setting setting) || not (is_alone_in settings setting)

abbrev pub first_wrong : List Text → Option Text
first_wrong settings = find (is_wrong settings) settings

-- True if the key of the setting is `ip`. (In flashrom this key names a programmer in the network.)
abbrev pub names_network : Text → Bool
names_network = has_key (codes "ip")

pub record HasRate (text device rate : Text) : Type 0 where
  pub parts : text ≡ device ++ 58 ∷ rate
  pub number : reads decimal_number rate ≡ true

abbrev pub HasNoRate : Text → Type 0
HasNoRate text = (device rate : Text) → ¬ HasRate text device rate

abbrev pub device_in : List Text → Option Text
device_in settings = value_in settings (codes "dev")

pub record IsDeviceOf (text device : Text) : Type 0 where
  pub begins : names_serprog text ≡ true
  pub named : device_in (serprog_settings text) ≡ Some device

-- Holds if `text` is a correct value of `-p` and contains these settings.
pub record IsSetting (text : Text) (setting : Setting) : Type 0 where
  pub device : IsDeviceOf text setting.device.now
  pub sound : first_wrong (serprog_settings text) ≡ None
  pub hertz : option_and_then clock_of (value_in (serprog_settings text) (codes "spispeed")) ≡ setting.hertz
  pub chip_select : option_and_then chip_select_of (value_in (serprog_settings text) (codes "cs"))
      ≡ setting.chip_select
  pub rateless : HasNoRate setting.device.now

pub record HasFirstWrong (text setting : Text) : Type 0 where
  pub begins : names_serprog text ≡ true
  pub first : first_wrong (serprog_settings text) ≡ Some setting

abbrev pub IsWrongBy : Text → WrongSetting → Type 0
IsWrongBy setting Network = names_network setting ≡ true
IsWrongBy setting (Flawed given flaw) = (names_network setting ≡ false) × (given.now ≡ setting)
    × (flaw ≡ flaw_by (has_serprog_key setting) (is_serprog_setting setting))
IsWrongBy setting _ = ⊥

-- Holds if this is the reason why `text`, the value of `-p`, describes no programmer.
abbrev pub IsWrongSetting : Text → WrongSetting → Type 0
IsWrongSetting text NoPrefix = names_serprog text ≡ false
IsWrongSetting text Network = (setting : Text) × HasFirstWrong text setting × IsWrongBy setting Network
IsWrongSetting text (Flawed setting flaw) =
    HasFirstWrong text setting.now × IsWrongBy setting.now (Flawed setting flaw)
IsWrongSetting text NoDevice =
    (first_wrong (serprog_settings text) ≡ None) × (device_in (serprog_settings text) ≡ None)
IsWrongSetting text (BaudRate device rate) = (value : Text) × IsDeviceOf text value
    × (first_wrong (serprog_settings text) ≡ None) × HasRate value device.now rate.now

abbrev pub EndsWithRate : Text → WrongSetting → Type 0
EndsWithRate text (BaudRate device rate) = HasRate text device.now rate.now
EndsWithRate text _ = ⊥
