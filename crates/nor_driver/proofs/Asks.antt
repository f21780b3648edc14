-- Lemmas about the first bytes of an operation's command: a chip decodes them as the whole command or as `Ignored`.
use Rattle.std.proofs.Common.{◌≡◌, ◌<◌, ◌≤◌, ◌∙◌, ◌⊎◌, ℕ, zero, suc, true, false, List, length, [], ◌∷◌, take, refl, sym, arith, inl, inr}
use Rattle.std.proofs.Math.Seq.{take-nil}
use Rattle.std.proofs.lemmas.Bool.Decides.{nat_tests}
use Rattle.nor_model.specs.declared.config.Config.{Config}
use Rattle.nor_model.specs.declared.command.Command.TheVariants.{Program, Ignored}
use Rattle.nor_model.specs.Command.{address_of, command_of}
use Rattle.nor_model.specs.Sent.{is_unknown_to_model}
use Rattle.nor_driver.specs.declared.units.EraseBlock.{EraseBlock}
use Rattle.nor_driver.specs.declared.units.EraseBlock.TheVariants as Units
use Rattle.nor_driver.specs.Operations.{is_operation_or_none, IsCommandAt, AsksForOperation}
use Rattle.nor_driver.proofs.Erasing.{erase_bytes}

abbrev AsksAlike : Config → List ℕ → (count replies : ℕ) → Type 0
AsksAlike config out count replies = (command_of config (take count out) replies ≡ Ignored)
    ⊎ (command_of config (take count out) replies ≡ command_of config out 0)

programs : (config : Config) (x y z byte : ℕ) (rest : List ℕ)
    → command_of config (2 ∷ x ∷ y ∷ z ∷ byte ∷ rest) 0 ≡ Program (address_of config x y z)
programs config x y z byte [] = refl
programs config x y z byte (next ∷ rest) = refl

program_whole : (config : Config) (x y z : ℕ) (sent : List ℕ)
    → is_operation_or_none (command_of config (2 ∷ x ∷ y ∷ z ∷ sent) 0) ≡ true
program_whole config x y z [] = refl
program_whole config x y z (byte ∷ rest) = rw (programs config x y z byte rest) refl

unread : (config : Config) (x y z byte : ℕ) (rest : List ℕ) (replies : ℕ)
    → command_of config (2 ∷ x ∷ y ∷ z ∷ byte ∷ rest) (suc replies) ≡ Ignored
unread config x y z byte [] replies = grind (arith, nat_tests)
unread config x y z byte (next ∷ rest) replies = grind (arith, nat_tests)

program_begun : (config : Config) (x y z : ℕ) (sent : List ℕ) (count replies : ℕ)
    → AsksAlike config (2 ∷ x ∷ y ∷ z ∷ sent) count replies
program_begun config x y z sent zero replies = inl refl
program_begun config x y z sent (suc zero) replies = inl refl
program_begun config x y z sent (suc (suc zero)) replies = inl refl
program_begun config x y z sent (suc (suc (suc zero))) replies = inl refl
program_begun config x y z sent (suc (suc (suc (suc zero)))) replies = inl refl
program_begun config x y z [] (suc (suc (suc (suc (suc n))))) replies = inl refl
program_begun config x y z (byte ∷ rest) (suc (suc (suc (suc (suc n))))) zero =
    inr (programs config x y z byte (take n rest) ∙ sym (programs config x y z byte rest))
program_begun config x y z (byte ∷ rest) (suc (suc (suc (suc (suc n))))) (suc replies) =
    inl (unread config x y z byte (take n rest) replies)

program_known : (x y z : ℕ) (sent : List ℕ) → 0 < length sent → is_unknown_to_model (2 ∷ x ∷ y ∷ z ∷ sent) ≡ false
program_known x y z [] some = absurd (omega (arith, some))
program_known x y z (byte ∷ rest) some = refl

pub asks_program : (at : ℕ) (sent command : List ℕ) → 0 < length sent → length sent ≤ 256
    → IsCommandAt 2 at sent command → AsksForOperation command
asks_program at sent command some few sends = rw sends.4 record {
  known = program_known sends.0 sends.1 sends.2 sent some;
  whole = λ config. program_whole config sends.0 sends.1 sends.2 sent;
  begun = λ config count replies. program_begun config sends.0 sends.1 sends.2 sent count replies;
  short = omega (arith, few);
}

erase_whole : (unit : EraseBlock) (config : Config) (x y z : ℕ)
    → is_operation_or_none (command_of config (erase_bytes unit x y z) 0) ≡ true
erase_whole Units.Chip config x y z = refl
erase_whole _ config x y z = grind arith

erase_begun : (unit : EraseBlock) (config : Config) (x y z count replies : ℕ)
    → AsksAlike config (erase_bytes unit x y z) count replies
erase_begun Units.Chip config x y z zero replies = inl refl
erase_begun Units.Chip config x y z (suc n) zero = inr (rw (take-nil {A = ℕ} n) refl)
erase_begun Units.Chip config x y z (suc n) (suc replies) =
    inl (rw (take-nil {A = ℕ} n) (grind (arith, nat_tests)))
erase_begun _ config x y z zero replies = inl refl
erase_begun _ config x y z (suc zero) replies = inl (grind arith)
erase_begun _ config x y z (suc (suc zero)) replies = inl refl
erase_begun _ config x y z (suc (suc (suc zero))) replies = inl (grind arith)
erase_begun _ config x y z (suc (suc (suc (suc n)))) zero = inr (rw (take-nil {A = ℕ} n) refl)
erase_begun _ config x y z (suc (suc (suc (suc n)))) (suc replies) =
    inl (rw (take-nil {A = ℕ} n) (grind (arith, nat_tests)))

erase_short : (unit : EraseBlock) (x y z : ℕ) → length (erase_bytes unit x y z) ≤ 260
erase_short Units.Chip x y z = omega arith
erase_short _ x y z = omega arith

erase_known : (unit : EraseBlock) (x y z : ℕ) → is_unknown_to_model (erase_bytes unit x y z) ≡ false
erase_known Units.Chip x y z = refl
erase_known _ x y z = grind arith

pub asks_erase : (unit : EraseBlock) (x y z : ℕ) (command : List ℕ) → command ≡ erase_bytes unit x y z
    → AsksForOperation command
asks_erase unit x y z command is = rw is record {
  known = erase_known unit x y z;
  whole = λ config. erase_whole unit config x y z;
  begun = λ config count replies. erase_begun unit config x y z count replies;
  short = erase_short unit x y z;
}

status_begun : (config : Config) (one two count replies : ℕ) → AsksAlike config (1 ∷ one ∷ two ∷ []) count replies
status_begun config one two zero replies = inl refl
status_begun config one two (suc zero) replies = inl refl
status_begun config one two (suc (suc zero)) replies = inl refl
status_begun config one two (suc (suc (suc n))) zero = inr (rw (take-nil {A = ℕ} n) refl)
status_begun config one two (suc (suc (suc n))) (suc replies) =
    inl (rw (take-nil {A = ℕ} n) (grind (arith, nat_tests)))

pub asks_status : (one two : ℕ) → AsksForOperation (1 ∷ one ∷ two ∷ [])
asks_status one two = record {
  known = refl;
  whole = λ config. refl;
  begun = λ config count replies. status_begun config one two count replies;
  short = omega arith;
}
