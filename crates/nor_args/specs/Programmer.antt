-- The value of `-p` of flashnor: `dummy:` and settings.
use Rattle.std.specs.Prelude.{◌≡◌, ◌&&◌, Bool, true, List, [], ◌∷◌, Option, Some, length, drop, find, codes, is_some}
use Rattle.std.specs.Prelude.{nat_eq, nat_lt, nat_le, option_map, option_and_then}
use Rattle.std.specs.List.{count_by, list_all, list_any, starts_with}
use Rattle.std.specs.Str.{bytes_eq}
use Rattle.nor_model.specs.declared.config.Config.{Config}
use Rattle.nor_probe.specs.Table.{emulated_named, IsMadeOf}
use Rattle.nor_args.specs.declared.programmer.Emulated.{Emulated}
use Rattle.nor_args.specs.declared.programmer.Programmer.{Programmer}
use Rattle.nor_args.specs.Numbers.{byte_number, decimal_number, polls_of, unique_number}
use Rattle.nor_args.specs.Text.{Text, pieces_of, key_of, value_of, reads}

abbrev pub IsConfigOfEmulated : Emulated → Config → Type 0
IsConfigOfEmulated chip = IsMadeOf chip.part

abbrev pub is_file : Text → Bool
is_file name = nat_lt 0 (length name)

abbrev pub keys : List (Text × (Text → Bool))
keys =
    (codes "emulate", reads emulated_named)
    ∷ (codes "image", is_file)
    ∷ (codes "status", is_file)
    ∷ (codes "trace", is_file)
    ∷ (codes "stop", reads decimal_number)
    ∷ (codes "unique", reads unique_number)
    ∷ (codes "busy", reads polls_of)
    ∷ (codes "power", reads byte_number)
    ∷ []

abbrev pub has_key : (key setting : Text) → Bool
has_key key setting = bytes_eq (key_of setting) key

abbrev pub may_have : (key value : Text) → Bool
may_have key value = list_any (λ known. bytes_eq key known.0 && known.1 value) keys

abbrev pub is_setting : Text → Bool
is_setting setting = may_have (key_of setting) (value_of setting)

abbrev pub is_alone_in : List Text → Text → Bool
is_alone_in settings setting = nat_le (count_by (has_key (key_of setting)) settings) 1

abbrev pub are_settings : List Text → Bool
are_settings settings = list_all (λ setting. is_setting setting && is_alone_in settings setting) settings

abbrev pub settings_of : Text → List Text
settings_of text = pieces_of (drop 6 text)

abbrev pub value_in : List Text → Text → Option Text
value_in settings key = option_map value_of (find (has_key key) settings)

-- the value of the setting `key` in `text`, which is a value of `-p`
abbrev pub said : (text key : Text) → Option Text
said text = value_in (settings_of text)

-- True if the text is `dummy:` and correct settings with different keys, separated by commas, `emulate=` among them.
abbrev pub is_programmer_text : Text → Bool
is_programmer_text text = starts_with nat_eq text (codes "dummy:")
    && (are_settings (settings_of text) && is_some (option_and_then emulated_named (said text (codes "emulate"))))

abbrev pub has_stop : Text → Bool
has_stop text = is_programmer_text text && is_some (option_and_then decimal_number (said text (codes "stop")))

pub record IsProgrammer (text : Text) (programmer : Programmer) : Type 0 where
  pub sound : is_programmer_text text ≡ true
  pub chip : option_and_then emulated_named (said text (codes "emulate")) ≡ Some programmer.chip.part
  pub image : said text (codes "image") ≡ option_map (λ name. name.now) programmer.image
  pub status : said text (codes "status") ≡ option_map (λ name. name.now) programmer.status
  pub trace : said text (codes "trace") ≡ option_map (λ name. name.now) programmer.trace
  pub stop : option_and_then decimal_number (said text (codes "stop")) ≡ programmer.stop
  pub unique : option_and_then unique_number (said text (codes "unique")) ≡ programmer.unique
  pub busy : option_and_then polls_of (said text (codes "busy")) ≡ programmer.busy
  pub power : option_and_then byte_number (said text (codes "power")) ≡ programmer.power
