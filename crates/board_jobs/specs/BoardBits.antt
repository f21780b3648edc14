-- The board bits: QE, the reserved bit and LB1 to LB3, which a board may change and flashnor never changes. They are
-- bits 1 to 5 of status 2 (W25Q64FV datasheet, Status Registers).
use Rattle.std.specs.Prelude.{◌≡◌, ◌+◌, ◌*◌, ◌/◌, ◌%◌, ◌==◌, ◌&&◌, ◌⊎◌, ℕ, Bool, List, [], ◌∷◌, bit_and, slice_index}
use Rattle.nor_journal.specs.Text.{Content as Journal}
use Rattle.board_files.specs.Images.{with_unique_and_status}

-- The status bytes `saved`, with the board bits (bits 1 to 5 of status 2) of `found`.
abbrev pub fitted_status : (saved found : List ℕ) → List ℕ
fitted_status saved found = slice_index saved 0
    ∷ (slice_index saved 1 / 64 * 64 + slice_index found 1 % 64 / 2 * 2 + slice_index saved 1 % 2) ∷ []

abbrev pub fitted_to : (found : List ℕ) → Journal → Journal
fitted_to found journal = with_unique_and_status journal.unique (fitted_status journal.status found) journal

-- True if a restore may leave QE, the reserved bit and LB1 to LB3 as in `found`: SRP0 and SRP1 are the same in `saved`
-- and `found`, and each of LB1 to LB3 that is set in `saved` is set in `found`.
abbrev pub may_stay : (saved found : List ℕ) → Bool
may_stay saved found = slice_index saved 0 / 128 == slice_index found 0 / 128
    && slice_index saved 1 % 2 == slice_index found 1 % 2
    && bit_and (bit_and (slice_index saved 1) 0x38) (slice_index found 1) == bit_and (slice_index saved 1) 0x38

-- Holds if `fitted` is the journal, or the journal with the board bits of some status bytes `found` (`fitted_to`).
abbrev pub IsFitted : (journal fitted : Journal) → Type 0
IsFitted journal fitted = (fitted ≡ journal) ⊎ ((found : List ℕ) × (fitted ≡ fitted_to found journal))
