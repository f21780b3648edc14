-- Lemmas about one sector of the copy of a chip: its bytes are those of the last reply to a read of the sector.
use Rattle.std.proofs.Common.{◌≡◌, ◌<◌, ◌+◌, ◌*◌, ◌/◌, ◌%◌, ◌∙◌, ℕ, Bool, true, false, List, [], ◌∷◌}
use Rattle.std.proofs.Common.{Option, length, slice_index, refl, ap, sym, arith}
use Rattle.std.specs.Prelude.{MatchBool, if◌then◌else◌}
use Rattle.std.proofs.lemmas.List.Elements.{All-nil, All-cons}
use Rattle.nor_model.specs.Exchange.{Exchange}
use Rattle.nor_model.specs.History.{replied}
use Rattle.nor_model.specs.Bus.{BusState}
use Rattle.nor_driver.specs.OnlyReads.{OnlyReads}
use Rattle.nor_driver.specs.Reads.{ReadsSector}
use Rattle.nor_driver.specs.ReadBack.{sector_read, bytes_read, IsSectorRead}
use Rattle.nor_driver.proofs.ReadBack.{read_other, read_here}
use Rattle.nor_driver.proofs.RestsInTurn.{has_only_read-none, has_only_read-one}
use Rattle.nor_layout.specs.declared.ranges.Span.{Span}
use Rattle.nor_layout.specs.Sectors.{includes, has_in_sector, AreOfSector, SomeInSector, NoneInSector}
use Rattle.nor_read.specs.Reading.{copied, CopiesFrom, ReadsPart}

pub copied_same : (included : Option (List Span)) (one two : List Exchange) (a : ℕ)
    → sector_read two a ≡ sector_read one a → copied included (bytes_read one) a ≡ copied included (bytes_read two) a
copied_same included one two a same =
    ap (λ (reply : List ℕ). if includes included a then slice_index reply (a % 4096) else 255) (sym same)

pub copy_skipped : (included : Option (List Span)) (sector : ℕ) (returned : Bool) (bytes : List ℕ) (state : BusState)
    → returned ≡ false → returned ≡ has_in_sector (includes included) sector
    → MatchBool returned (SomeInSector (includes included) sector) (NoneInSector (includes included) sector)
    → ((i : ℕ) → i < 4096 → slice_index bytes i ≡ 255) → ReadsPart included sector bytes state state 0
copy_skipped included sector true bytes state out test cases filled = absurd (cc)
copy_skipped included sector false bytes state out test none filled =
    let blank : (content : ℕ → ℕ) → AreOfSector (copied included content) sector bytes = λ content i small.
    filled i small ∙ sym (ap (λ (b : Bool). if b then content (4096 * sector + i) else 255) (none i small)) in
    record {
      counted = rw (← test);
      honest_reads = has_only_read-none state;
      only_sectors = record { later = []; is = refl; each = All-nil IsSectorRead };
      replied = λ earlier. record {
        below = λ a low. refl;
        whole = λ a from to inside.
            let at : 4096 * sector + a % 4096 ≡ a = omega (arith, from, to) in
            let outside : includes included a ≡ false = rw at at (none (a % 4096) (omega arith)) in absurd (cc);
        right = blank (bytes_read earlier);
      };
      right = λ honest idle fits. blank state.chip.bytes;
    }

module _ (included : Option (List Span)) (bytes : List ℕ) {read : List ℕ} {sector : ℕ} {old new : BusState}
    (only_reads : OnlyReads 1 old new) (reads : ReadsSector sector old new read)
    (blanked : (i : ℕ) → i < 4096
    → slice_index bytes i ≡ (if includes included (4096 * sector + i) then slice_index read i else 255)) where
  sector_copied : (content : ℕ → ℕ) → AreOfSector content sector read
      → AreOfSector (copied included content) sector bytes
  sector_copied content is i small = blanked i small
      ∙ ap (λ (byte : ℕ). if includes included (4096 * sector + i) then byte else 255) (is i small)

  part_replied : length read ≡ 4096 → (earlier : List Exchange)
      → CopiesFrom included (4096 * sector) 4096 bytes earlier (replied reads.answered.out read ∷ earlier)
  part_replied long earlier = record {
    below = λ a low. read_other reads.answered.out read reads.answered.asks earlier a
        (λ same. omega (arith, low, same));
    whole = λ a from to inside.
        let here : a / 4096 ≡ sector = omega (arith, from, to) in
        rw (read_here reads.answered.out read reads.answered.asks earlier a here) long;
    right = sector_copied (bytes_read (replied reads.answered.out read ∷ earlier)) (λ i small.
        let here : (4096 * sector + i) / 4096 ≡ sector = omega (arith, small) in
        let at : (4096 * sector + i) % 4096 ≡ i = omega (arith, small) in
        sym (ap (λ (reply : List ℕ). slice_index reply ((4096 * sector + i) % 4096))
        (read_here reads.answered.out read reads.answered.asks earlier (4096 * sector + i) here)
        ∙ ap (slice_index read) at));
  }

  pub copy_read : length read ≡ 4096 → new.polled_ready ≡ old.polled_ready
      → has_in_sector (includes included) sector ≡ true → ReadsPart included sector bytes old new 1
  copy_read long same test = record {
    counted = rw test;
    honest_reads = has_only_read-one only_reads reads.read (λ ready. same ∙ ready);
    only_sectors = record {
      later = replied reads.answered.out read ∷ [];
      is = reads.answered.history;
      each = All-cons IsSectorRead (replied reads.answered.out read) []
          (record { sector = sector; bytes = read; reads = reads.answered.asks; replied = refl })
          (All-nil IsSectorRead);
    };
    replied = part_replied long;
    right = λ honest idle inside. sector_copied old.chip.bytes (reads.replied honest idle inside).byte;
  }
