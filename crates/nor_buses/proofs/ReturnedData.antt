-- Lemmas: a read of data returns the data of the chip, or only FFh if the chip is busy, and does not change the data.
use Rattle.std.proofs.Common.{◌≡◌, ◌∙◌, ◌<◌, ◌≤◌, ◌+◌, ◌*◌, ◌/◌, ◌%◌, ℕ, Bool, true, false, List, [], ◌∷◌, length, sym, ap, subst, arith}
use Rattle.std.specs.Prelude.{◌==◌, if◌then◌else◌, slice_index}
use Rattle.std.proofs.Math.Nat.{mod-add-mod}
use Rattle.nor_model.specs.Chip.{Chip}
use Rattle.nor_model.specs.declared.config.Config.{Config}
use Rattle.nor_model.specs.declared.command.Command.TheVariants.{ReadData}
use Rattle.nor_model.specs.Step.{Step, Does}
use Rattle.nor_buses.specs.Again.{data_read, data_byte, HasData}
use Rattle.nor_buses.proofs.SameReply.{Still, read_of, still_after_reading, reading_or_none}

data_at : (idle : Bool) (at : ℕ) (old new : Chip) (answer : List ℕ)
    → Does (read_of idle (ReadData (at % old.config.size))) [] old answer new → (i : ℕ) → i < length answer
    → slice_index answer i ≡ (if idle then old.bytes ((at + i) % old.config.size) else 255)
data_at true at old new answer does i below =
    does.replies i below ∙ ap (λ (a : ℕ). old.bytes a) (mod-add-mod at old.config.size i)
data_at false at old new answer does i below = does.replies i below

pub data_returned : (x y z : ℕ) (old new : Chip) (answer : List ℕ) → Step old (0x03 ∷ x ∷ y ∷ z ∷ []) answer new
    → HasData old (65536 * x + 256 * y + z) answer
data_returned x y z old new answer step = record {
  same = λ i below. data_at (old.busy == 0) (65536 * x + 256 * y + z) old new answer step i below;
}

pub data_stays : (x y z : ℕ) (old new : Chip) (answer : List ℕ) → Step old (0x03 ∷ x ∷ y ∷ z ∷ []) answer new
    → Still old new
data_stays x y z old new answer step =
    let command = ReadData ((65536 * x + 256 * y + z) % old.config.size) in
    still_after_reading (read_of (old.busy == 0) command) [] old new answer
    (reading_or_none (old.busy == 0) command tt) step

byte_still : (a : ℕ) (old new : Chip) → Still old new → data_byte new a ≡ data_byte old a
byte_still a old new still =
    ap (λ (n : ℕ). if n == 0 then new.bytes (a % new.config.size) else 255) still.busy
    ∙ ap (λ (c : Config). if old.busy == 0 then new.bytes (a % c.size) else 255) still.config
    ∙ ap (λ (b : ℕ). if old.busy == 0 then b else 255) (still.bytes (a % old.config.size))

pub data_still : (at : ℕ) (bytes : List ℕ) (old new : Chip) → Still old new → HasData old at bytes
    → HasData new at bytes
data_still at bytes old new still has = record {
  same = λ i below. has.same i below ∙ sym (byte_still (at + i) old new still);
}

address_back : (a : ℕ) → a ≤ 16777215 → 65536 * (a / 65536 % 256) + 256 * (a / 256 % 256) + a % 256 ≡ a
address_back a below = omega (arith, below)

pub data_read_returned : (a : ℕ) (old new : Chip) (answer : List ℕ) → a ≤ 16777215 → Step old (data_read a) answer new
    → HasData old a answer
data_read_returned a old new answer below step =
    let P : ℕ → Type 0 = λ at. HasData old at answer in
    subst P (address_back a below)
    (data_returned (a / 65536 % 256) (a / 256 % 256) (a % 256) old new answer step)

pub data_read_stays : (a : ℕ) (old new : Chip) (answer : List ℕ) → Step old (data_read a) answer new → Still old new
data_read_stays a old new answer step =
    data_stays (a / 65536 % 256) (a / 256 % 256) (a % 256) old new answer step
