use Rattle.std.proofs.Common.{◌≡◌, ◌<◌, ◌∙◌, ◌++◌, ℕ, List, None, Ok, Option, ap, arith, drop, length, refl, slice_index, take, true}
use Rattle.std.proofs.Math.Seq.{take-append_seam}
use Rattle.nor_journal.specs.Vault.{VaultState, new_vault}
use Rattle.nor_layout.specs.Ranges.{contains}
use Rattle.nor_layout.specs.Sectors.{merged_byte}
use Rattle.nor_layout.specs.declared.ranges.Span.{Span}
use Rattle.nor_model.specs.Bus.{BusState}
use Rattle.nor_probe.specs.declared.table.ChipName.{ChipName}
use Rattle.nor_read.specs.Reading.{Grows}
use Rattle.nor_request.specs.declared.report.Report.{Report}
use Rattle.board_jobs.specs.Following.{HasReadToMemory, IsMerged}

pub whole_again : (written items : List ℕ) (len : ℕ) → len ≡ length written
    → take len (written ++ drop (length written) items) ≡ written
whole_again written items len is = rw is (take-append_seam written (drop (length written) items))

grown_length : (size : ℕ) (filled : VaultState) → Grows size (new_vault true) filled → length filled.bytes ≡ size
grown_length size filled grows = ap length grows.grown ∙ grows.long

read_length : {named : Option ChipName} {old new : BusState} {chip : List ℕ} {report : Report}
    → HasReadToMemory named None old new chip (Ok report) → length chip ≡ report.found.size
read_length {report = report} read =
    ap length read.holds ∙ grown_length report.found.size read.filled (read.always.whole.grows refl)

module _ {named : Option ChipName} {spans : List Span} {image chip target : List ℕ} {old new : BusState}
    {report : Report} where
  pub merged : HasReadToMemory named None old new chip (Ok report) → length image ≡ report.found.size
      → length target ≡ length image
      → ((a : ℕ) → a < length chip
      → slice_index target a ≡ merged_byte (contains spans) (slice_index image) (slice_index chip) a)
      → IsMerged named spans image old new target
  merged read fits long bytes =
      let whole : length image ≡ length chip = grind (arith, fits, read_length read) in
      record {
        chip = chip;
        report = report;
        read = read;
        whole = whole;
        long = long ∙ whole;
        bytes = bytes;
      }
