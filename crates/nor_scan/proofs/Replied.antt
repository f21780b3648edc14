use Rattle.std.proofs.Common.{◌≡◌, ◌≢◌, ◌<◌, ◌+◌, ◌*◌, ◌/◌, ◌%◌, ◌∙◌, ℕ, Bool, List, length, slice_index, refl, sym, ap, arith}
use Rattle.nor_model.specs.Exchange.{Exchange}
use Rattle.nor_model.specs.History.{Continues, KeepsReplies, Answered, begins_with, names}
use Rattle.nor_model.specs.PolledReady.{is_poll}
use Rattle.nor_model.specs.Bus.{BusState}
use Rattle.nor_model.proofs.Histories.{answered_keeps, answered_last, keeps_replies_less, continues_by, continues_then}
use Rattle.nor_journal.specs.Saved.{IsWholeSector}
use Rattle.nor_probe.specs.declared.probes.Probed.{Probed}
use Rattle.nor_probe.specs.Replied.{IsFoundBy}
use Rattle.nor_probe.proofs.Replied.{names_begins, other_opcode, no_poll, found_later}
use Rattle.nor_scan.specs.declared.identity.Identity.{Identity}
use Rattle.nor_scan.specs.Identity.{ReadsRest}
use Rattle.nor_driver.specs.ReadBack.{bytes_read}
use Rattle.nor_driver.proofs.ReadBack.{names_other}
use Rattle.nor_scan.specs.Replied.{IsIdentifiedBy}

module _ (n : ℕ) {old new : List Exchange} {bytes : List ℕ}
    (answered : Answered (names 0x03 (4096 * n)) old new bytes) where
  pub read_others : (s i : ℕ) → s ≢ n → i < 4096 → bytes_read new (4096 * s + i) ≡ bytes_read old (4096 * s + i)
  read_others s i other below =
      let here : (4096 * s + i) / 4096 ≡ s = omega (arith, below) in
      ap (λ (reply : List ℕ). slice_index reply ((4096 * s + i) % 4096))
      ((answered_keeps answered).same (names 0x03 (4096 * ((4096 * s + i) / 4096)))
      (names_other 0x03 (4096 * n) (4096 * ((4096 * s + i) / 4096)) (λ same. other (omega (arith, same, here)))))

  pub read_whole : length bytes ≡ 4096 → IsWholeSector (bytes_read new) n bytes
  read_whole long = record {
    whole = long;
    same = λ i below.
        let here : (4096 * n + i) / 4096 ≡ n = omega (arith, below) in
        let at : (4096 * n + i) % 4096 ≡ i = omega (arith, below) in
        rw (here, at) (ap (λ (reply : List ℕ). slice_index reply i) (sym (answered_last answered)));
  }

  pub read_keeps : KeepsReplies (begins_with 0x03) old new
  read_keeps = keeps_replies_less (answered_keeps answered) (names_begins 0x03 (4096 * n))

pub identified_by : {further : Bool} {probed : Probed} {old new : BusState} {identity : Identity}
    → IsFoundBy further old.history probed.found → ReadsRest probed old new identity
    → IsIdentifiedBy further new.history identity
identified_by found rest =
    let first = answered_keeps rest.read_status2 in
    let second = answered_keeps rest.read_unique in record {
      found = rw rest.found (found_later
          (continues_then (continues_by rest.read_status2.history) (continues_by rest.read_unique.history))
          (second.same _ (other_opcode 0x4B 0x9F refl) ∙ first.same _ (other_opcode 0x35 0x9F refl))
          (second.same is_poll (no_poll 0x4B refl) ∙ first.same is_poll (no_poll 0x35 refl)) found);
      status2 = second.same _ (other_opcode 0x4B 0x35 refl) ∙ answered_last rest.read_status2;
      unique = answered_last rest.read_unique;
    }

pub identified_later : {further : Bool} {old new : List Exchange} {identity : Identity} → Continues old new
    → KeepsReplies (begins_with 0x03) old new → IsIdentifiedBy further old identity
    → IsIdentifiedBy further new identity
identified_later continues keeps was = record {
  found = found_later continues (keeps.same _ (other_opcode 0x03 0x9F refl)) (keeps.same is_poll (no_poll 0x03 refl))
      was.found;
  status2 = keeps.same _ (other_opcode 0x03 0x35 refl) ∙ was.status2;
  unique = keeps.same _ (other_opcode 0x03 0x4B refl) ∙ was.unique;
}
