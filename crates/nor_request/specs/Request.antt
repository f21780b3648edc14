use Rattle.std.specs.Prelude.{◌≡◌, ◌&&◌, ℕ, Bool, true, false, nat_lt, List, None, slice_index, if◌then◌else◌}
use Rattle.nor_model.specs.Chip.{Chip}
use Rattle.nor_model.specs.Guard.{code_of}
use Rattle.nor_model.specs.Offer.{IsLeastCode}
use Rattle.nor_layout.specs.Sectors.{includes, sectors_included}
use Rattle.nor_request.specs.declared.request.Request.{Request}
use Rattle.nor_request.specs.declared.request.What.{What}
use Rattle.nor_request.specs.declared.request.What.TheVariants.{Write, WpRange}

abbrev pub plain : What → Request
plain wish = record { what = wish; named = None; included = None; unlock = false; verify = false }

abbrev pub is_data : What → Bool
is_data (WpRange start len) = false
is_data _ = true

abbrev pub target : What → (image : List ℕ) → (a : ℕ) → ℕ
target Write image a = slice_index image a
target _ image a = 255

abbrev pub is_requested : Request → (size a : ℕ) → Bool
is_requested request size a = is_data request.what && (nat_lt a size && includes request.included a)

abbrev pub wanted : Request → (image : List ℕ) → Chip → (a : ℕ) → ℕ
wanted request image chip a =
    if is_requested request chip.config.size a then target request.what image a else chip.bytes a

abbrev pub scanned_sectors : Request → (size : ℕ) → ℕ
scanned_sectors request size = if is_data request.what then sectors_included request.included size else 0

abbrev pub IsWantedCode : What → Chip → (code : ℕ) → Type 0
IsWantedCode (WpRange start len) chip code = IsLeastCode chip.config.size start len code
IsWantedCode _ chip code = code ≡ code_of chip.kept
