use Rattle.std.proofs.Common.{◌≡◌, ◌<◌, ◌+◌, ◌*◌, ◌/◌, ◌&&◌, ◌∙◌, ℕ, Bool, true, false, true≢false, not, cond, nat_lt, nat_le, List, [], ◌∷◌, drop, ap, sym, refl, arith}
use Rattle.std.specs.Prelude.{if◌then◌else◌}
use Rattle.std.proofs.lemmas.Bool.{eqb-true}
use Rattle.std.proofs.lemmas.Bool.Decides.{nat_tests}
use Rattle.std.proofs.Math.Bool.{and-false}
use Rattle.nor_model.specs.declared.config.Config.{Config}
use Rattle.nor_model.specs.declared.command.Command.{Command}
use Rattle.nor_model.specs.declared.command.Command.TheVariants as Commands
use Rattle.nor_model.specs.Chip.{Chip}
use Rattle.nor_model.specs.Guard.{is_block_protected}
use Rattle.nor_model.specs.Command.{address_of, begins_quiet}
use Rattle.nor_model.specs.Step.{is_idle, is_carried_out}
use Rattle.nor_model.specs.Sent.{Sent, with_sent, targets, programs_at, is_byte, writes_status, begins_erase, begins_program, begins_status_write}
use Rattle.nor_model.specs.Bus.{BusState}
use Rattle.nor_model.proofs.Sizes.{sized_bounds}
use Rattle.nor_driver.specs.declared.units.Erase.{Erase}
use Rattle.nor_driver.specs.declared.units.EraseBlock.{EraseBlock}
use Rattle.nor_driver.specs.declared.units.EraseBlock.TheVariants as Units
use Rattle.nor_driver.specs.Units.{opcode_of, sectors_in, has_block}
use Rattle.nor_driver.specs.Operations.{operation_of, MayOperate, HasOperated, LeavesOperation, Operates, command_operation}
use Rattle.nor_driver.specs.Erases.{sectors_of, block_length, IsOnChip, takes_erase, is_sector_in_block, is_address_in_block, is_sector_named, MayErase, HasErased, SendsErase, block_erase}
use Rattle.nor_driver.proofs.Programming.{same_address}
use Rattle.nor_driver.proofs.Taken.{IsFor, asked_at, leaves_as, does_as}

abbrev pub erase_bytes : EraseBlock → ℕ → ℕ → ℕ → List ℕ
erase_bytes Units.Chip x y z = 0xC7 ∷ []
erase_bytes unit x y z = opcode_of unit ∷ x ∷ y ∷ z ∷ []

plain : (unit : EraseBlock) (x y z : ℕ) → drop 4 (erase_bytes unit x y z) ≡ []
plain Units.Chip x y z = refl
plain _ x y z = refl

one_erase : (unit : EraseBlock) (x y z : ℕ)
    → (begins_erase (erase_bytes unit x y z) ≡ true) × (begins_program (erase_bytes unit x y z) ≡ false)
    × (begins_status_write (erase_bytes unit x y z) ≡ false)
one_erase Units.Chip x y z = (refl, refl, refl)
one_erase Units.Sector x y z = (refl, refl, refl)
one_erase Units.Block32 x y z = (refl, refl, refl)
one_erase Units.Block64 x y z = (refl, refl, refl)

no_status_in : (unit : EraseBlock) (x y z one two : ℕ) → writes_status (erase_bytes unit x y z) one two ≡ false
no_status_in Units.Chip x y z one two = refl
no_status_in _ x y z one two = refl

no_byte_in : (unit : EraseBlock) (x y z a byte : ℕ) → is_byte (programs_at (erase_bytes unit x y z) a) byte ≡ false
no_byte_in Units.Chip x y z a byte = refl
no_byte_in Units.Sector x y z a byte = refl
no_byte_in Units.Block32 x y z a byte = refl
no_byte_in Units.Block64 x y z a byte = refl

pub chip_bytes : (unit : EraseBlock) (opcode x y z : ℕ) → opcode ≡ opcode_of unit → unit ≡ Units.Chip
    → opcode ∷ [] ≡ erase_bytes unit x y z
chip_bytes unit opcode x y z same is = cc

pub other_bytes : (unit : EraseBlock) (opcode x y z : ℕ) → opcode ≡ opcode_of unit → (unit ≡ Units.Chip → ⊥)
    → opcode ∷ x ∷ y ∷ z ∷ [] ≡ erase_bytes unit x y z
other_bytes unit opcode x y z same other = grind arith

named : (unit : EraseBlock) (sector x y z : ℕ) → 65536 * x + 256 * y + z ≡ 4096 * sector → sector < 4096
    → (s : ℕ) → targets (erase_bytes unit x y z) s ≡ true
    → is_sector_named (record { unit = unit; sector = sector }) s ≡ true
named unit sector x y z names below s is =
    let same : (65536 * x + 256 * y + z) / 4096 ≡ sector = omega (arith, names) in
    let first : 0 ≡ sector / 4096 * 4096 = omega (arith, below) in
    grind (arith, nat_tests)

targeted : (unit : EraseBlock) (sector x y z : ℕ) → 65536 * x + 256 * y + z ≡ 4096 * sector → sector < 4096
    → (s : ℕ) → is_sector_named (record { unit = unit; sector = sector }) s ≡ true
    → targets (erase_bytes unit x y z) s ≡ true
targeted unit sector x y z names below s is =
    let same : (65536 * x + 256 * y + z) / 4096 ≡ sector = omega (arith, names) in
    let first : 0 ≡ sector / 4096 * 4096 = omega (arith, below) in
    grind (arith, nat_tests)

loud : (unit : EraseBlock) (x y z : ℕ) → begins_quiet (erase_bytes unit x y z) ≡ false
loud Units.Chip x y z = refl
loud Units.Sector x y z = refl
loud Units.Block32 x y z = refl
loud Units.Block64 x y z = refl

erased_where : (chip : Chip) (has : Bool) (start start' len len' : ℕ) → start ≡ start' → len ≡ len'
    → (let command = cond has (Commands.Erase start len) Commands.Ignored in
    cond (is_carried_out (record chip { latch = true }) command) command Commands.Ignored)
    ≡ cond (is_idle chip && has && not (is_block_protected chip start' len')) (Commands.Erase start' len') Commands.Ignored
erased_where chip has start start' len len' same long = grind (arith, and-false)

unit_start : (config : Config) (x y z sector len : ℕ) → 65536 * x + 256 * y + z ≡ 4096 * sector
    → 4096 * sector < config.size → 4096 * sector / len * len ≡ 4096 * sector
    → address_of config x y z / len * len ≡ 4096 * sector
unit_start config x y z sector len names below aligned =
    rw (same_address config x y z (4096 * sector) names below) aligned

erase_command : (chip : Chip) (unit : EraseBlock) (sector x y z : ℕ) → 65536 * x + 256 * y + z ≡ 4096 * sector
    → (let erase : Erase = record { unit = unit; sector = sector } in IsOnChip erase chip
    → operation_of chip (erase_bytes unit x y z)
    ≡ cond (takes_erase chip erase) (Commands.Erase (4096 * sector) (block_length chip erase)) Commands.Ignored)
erase_command chip Units.Chip sector x y z names on =
    let first : sector ≡ 0 = eqb-true sector 0 on.aligned in let blocks = (sized_bounds chip.config).blocks in
    erased_where chip true 0 (4096 * sector) chip.config.size (4096 * (chip.config.size / 4096))
    (omega arith) (omega arith)
erase_command chip unit sector x y z names on =
    let within = on.within in let aligned = on.aligned in let len = 4096 * sectors_in (sectors_of chip) unit in
    erased_where chip (has_block chip.config unit) _ (4096 * sector) len len
    (unit_start chip.config x y z sector len names (omega arith) (omega (arith, eqb-true))) refl

in_unit : (sector n a : ℕ) → (nat_le (4096 * sector) a && nat_lt a (4096 * sector + 4096 * n))
    ≡ (nat_le sector (a / 4096) && nat_lt (a / 4096) (sector + n))
in_unit sector n a = grind (arith, nat_tests)

module _ (erase : Erase) (old new : BusState) where
  abbrev does : Command
  does = Commands.Erase (4096 * erase.sector) (block_length old.chip erase)

  place : (a : ℕ) → (nat_le (4096 * erase.sector) a && nat_lt a (4096 * erase.sector + block_length old.chip erase))
      ≡ is_address_in_block erase old.chip a
  place a = in_unit erase.sector (sectors_in (sectors_of old.chip) erase.unit) a

  sector : (s : ℕ) → (nat_le (4096 * erase.sector) (4096 * s)
      && nat_lt (4096 * s) (4096 * erase.sector + block_length old.chip erase)) ≡ is_sector_in_block erase old.chip s
  sector s = place (4096 * s) ∙ ap (is_sector_in_block erase old.chip) (omega arith)

  may_erase : MayOperate does [] old new → MayErase erase old new
  may_erase may = grind (arith, place, sector)

  has_erased : HasOperated does [] old new → HasErased erase old new
  has_erased has = grind (arith, place, sector)

module _ (erase : Erase) (x y z : ℕ) (names : 65536 * x + 256 * y + z ≡ 4096 * erase.sector)
    (below : erase.sector < 4096) (old new : BusState) (out : List ℕ) (sent : out ≡ erase_bytes erase.unit x y z) where
  asked : IsOnChip erase old.chip
      → operation_of old.chip out ≡ cond (takes_erase old.chip erase) (does erase old new) Commands.Ignored
  asked on = rw sent (erase_command old.chip erase.unit erase.sector x y z names on)

  bare : drop 4 out ≡ []
  bare = rw sent (plain erase.unit x y z)

  erase_asked : IsFor out [] (does erase old new) (block_erase erase) old.chip
  erase_asked =
      let one = one_erase erase.unit x y z in
      record {
        sectors = rw sent (named erase.unit erase.sector x y z names below);
        programmed = λ a byte is. absurd (true≢false (sym (rw sent at is) ∙ no_byte_in erase.unit x y z a byte));
        status = λ a b is. sym (no_status_in erase.unit x y z a b) ∙ rw sent at is;
        numbers = rw (sent, one.0, one.1, one.2) (refl, refl, refl);
        bytes = bare;
        operates = refl;
        takes = λ can.
            let takes : takes_erase old.chip erase ≡ true = rw (can.idle, can.offered, can.free) refl in
            asked_at _ true _ (asked can.on_chip) takes;
        refuses = λ ignores. asked_at _ false _ (asked ignores.0) ignores.1;
      }

  pub leaves_erase : LeavesOperation (command_operation out) old new → LeavesOperation (block_erase erase) old new
  leaves_erase leaves = leaves_as erase_asked (λ may can. may_erase erase old new may) leaves

  pub does_erase : (count : ℕ) → Operates (command_operation out) old new count
      → Operates (block_erase erase) old new count
  does_erase count does = does_as erase_asked (λ has can. has_erased erase old new has) count does

  pub sends_erase : new.sent ≡ with_sent out ((0x06 ∷ []) ∷ old.sent) → SendsErase erase old new
  sends_erase added = record {
    out = out;
    added =
        let quiet : begins_quiet out ≡ false = rw sent (loud erase.unit x y z) in
        let write : Sent = (0x06 ∷ []) ∷ old.sent in
        added ∙ ap (λ (b : Bool). if b then write else out ∷ write) quiet;
    erases = rw sent (one_erase erase.unit x y z).0;
    named = rw sent (targeted erase.unit erase.sector x y z names below);
  }
