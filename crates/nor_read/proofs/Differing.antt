-- Lemmas about the first difference between a chip and an image, which `verify` finds sector by sector.
use Rattle.std.proofs.Common.{◌≡◌, ◌≤◌, ◌<◌, ◌+◌, ◌-◌, ◌*◌, ◌/◌, ◌%◌, ◌++◌, ◌∙◌, ◌≢◌, ℕ, Bool, true, false, List, length, slice_index}
use Rattle.std.proofs.Common.{Option, Some, None, [], ◌∷◌, refl, ap, subst, sym, arith, inl, inr}
use Rattle.std.proofs.lemmas.Bool.{cases_eq}
use Rattle.std.proofs.lemmas.List.{append_assoc}
use Rattle.std.specs.Prelude.{MatchBool, if◌then◌else◌}
use Rattle.std.specs.Option.{option_or}
use Rattle.std.proofs.lemmas.List.Elements.{All-nil, All-cons, All-append}
use Rattle.nor_model.specs.Exchange.{Exchange}
use Rattle.nor_model.specs.History.{Continues, replied}
use Rattle.nor_model.specs.Bus.{BusState}
use Rattle.nor_model.proofs.Histories.{continues_refl}
use Rattle.nor_driver.specs.OnlyReads.{OnlyReads}
use Rattle.nor_driver.specs.Reads.{ReadsSector}
use Rattle.nor_layout.specs.declared.ranges.Span.{Span}
use Rattle.nor_layout.specs.Sectors.{includes, has_in_sector, AreOfSector, SomeInSector, NoneInSector}
use Rattle.nor_geometry.proofs.Below.{count_below-zero, count_below-more}
use Rattle.nor_plan.specs.Bytes.{AllAgree, IsFirstDifference}
use Rattle.nor_driver.proofs.RestsInTurn.{has_only_read-none, has_only_read-one, has_only_read-then, open_later, same_bytes}
use Rattle.nor_read.specs.declared.verifying.Compared.{Compared}
use Rattle.nor_driver.specs.ReadBack.{bytes_read, IsSectorRead, AddsSectorReads}
use Rattle.nor_driver.proofs.ReadBack.{adds_none, read_other, read_here}
use Rattle.nor_read.specs.Verifying.{AgreeIn, IsFirstOther, FindsFirst}
use Rattle.nor_read.specs.Verifying.{ReadsDifference, ComparesReply, ComparesPart, ComparesBelow}
use Rattle.nor_read.proofs.Onward.{read_after, read_then}

in_sector : (Holds : ℕ → Type 0) (sector : ℕ) → ((i : ℕ) → i < 4096 → Holds (4096 * sector + i)) → (a : ℕ)
    → 4096 * sector ≤ a → a < 4096 * (sector + 1) → Holds a
in_sector Holds sector each a above below =
    let i = a - 4096 * sector in
    let at : 4096 * sector + i ≡ a = omega arith in
    subst Holds at (each i (omega arith))

-- Lemmas about the bytes that are compared: at included addresses those that were read, at all others the image's.
module _ (included : Option (List Span)) (image : List ℕ) (sector : ℕ) (bytes filled part : List ℕ)
    (long : length filled ≡ 4096)
    (cut : (i : ℕ) → i < 4096 → slice_index part i ≡ slice_index image (4096 * sector + i))
    (fills : (i : ℕ) → i < 4096 → slice_index filled i
    ≡ (if includes included (4096 * sector + i) then slice_index bytes i else slice_index part i))
    (content : ℕ → ℕ) (read : AreOfSector content sector bytes) where
  filled_in : (i : ℕ) → i < 4096 → includes included (4096 * sector + i) ≡ true
      → slice_index filled i ≡ content (4096 * sector + i)
  filled_in i small inside = rw inside at (fills i small) ∙ read i small

  agree_to : (most : ℕ) → ((i : ℕ) → i < 4096 → i < most → slice_index filled i ≡ slice_index part i) → (a : ℕ)
      → 4096 * sector ≤ a → a < 4096 * (sector + 1) → a < 4096 * sector + most → includes included a ≡ true
      → slice_index image a ≡ content a
  agree_to most agree = in_sector
      (λ a. a < 4096 * sector + most → includes included a ≡ true → slice_index image a ≡ content a) sector
      (λ i small below inside. sym (cut i small) ∙ sym (agree i small (omega arith)) ∙ filled_in i small inside)

  pub part_agrees : AllAgree filled part → AgreeIn included image content (4096 * sector) (4096 * (sector + 1))
  part_agrees agree a above below =
      agree_to 4096 (λ i small low. agree i (omega arith)) a above below (omega arith)

  pub part_differs : (first : ℕ) → IsFirstDifference filled part first
      → IsFirstOther included image content (4096 * sector) (4096 * (sector + 1)) (4096 * sector + first)
  part_differs first difference =
      let small : first < 4096 = omega (arith, difference.within) in
      let inside : includes included (4096 * sector + first) ≡ true
      = let filling = fills first small in grind (arith, difference.differs) in
      record {
        above = omega arith;
        below = omega arith;
        is_included = inside;
        differs = λ same. difference.differs (filled_in first small inside ∙ sym same ∙ sym (cut first small));
        before = λ a above below.
            agree_to first (λ i low before. difference.before i before) a above (omega arith) below;
      }

none_differs : (included : Option (List Span)) (image : List ℕ) (content : ℕ → ℕ) (sector : ℕ)
    → NoneInSector (includes included) sector → AgreeIn included image content (4096 * sector) (4096 * (sector + 1))
none_differs included image content sector none =
    in_sector (λ a. includes included a ≡ true → slice_index image a ≡ content a) sector
    (λ i small inside. let outside = none i small in absurd (cc))

pub part_skipped : (included : Option (List Span)) (image : List ℕ) (sector : ℕ) (returned : Bool) (state : BusState)
    → returned ≡ false → returned ≡ has_in_sector (includes included) sector
    → MatchBool returned (SomeInSector (includes included) sector) (NoneInSector (includes included) sector)
    → ComparesPart included image sector state state (record { first = None; reads = 0 })
part_skipped included image sector true state out test cases = absurd (cc)
part_skipped included image sector false state out test none = record {
  counted = rw (← test);
  only_sectors = record { later = []; is = refl; each = All-nil IsSectorRead };
  compares = λ earlier. record {
    others = λ a other. refl;
    whole = λ a here inside.
        let at : 4096 * sector + a % 4096 ≡ a = omega arith in
        let outside : includes included a ≡ false = rw at at (none (a % 4096) (omega arith)) in absurd (cc);
    finds = none_differs included image (bytes_read earlier) sector none;
  };
  replied = tt;
  honest_reads = has_only_read-none state;
  errors = λ honest idle inside. none_differs included image state.chip.bytes sector none;
}

module _ (included : Option (List Span)) (image : List ℕ) {bytes : List ℕ} {sector : ℕ} {old new : BusState}
    (only_reads : OnlyReads 1 old new) (reads : ReadsSector sector old new bytes) where
  read_at : (first : Option ℕ) → ((content : ℕ → ℕ) → AreOfSector content sector bytes
      → FindsFirst included image content (4096 * sector) (4096 * (sector + 1)) first)
      → ReadsDifference old.history new.history first
  read_at None finds = tt
  read_at (Some address) finds =
      let content : ℕ → ℕ = λ a. slice_index bytes (a - 4096 * sector) in
      let other = finds content
      (λ i small. let at : 4096 * sector + i - 4096 * sector ≡ i = omega arith in rw (at) refl) in
      let above = other.above in
      let below = other.below in
      let start : 4096 * sector ≡ address / 4096 * 4096 = omega arith in
      let read = reads.answered in
      record {
        at = new.history;
        read = record {
          earlier = old.history;
          bytes = bytes;
          read = record { out = read.out; asks = rw start at read.asks; history = read.history };
        };
        since = continues_refl old.history;
        later = adds_none new.history;
      }

  part_replied : (first : Option ℕ) → length bytes ≡ 4096 → ((content : ℕ → ℕ) → AreOfSector content sector bytes
      → FindsFirst included image content (4096 * sector) (4096 * (sector + 1)) first) → (earlier : List Exchange)
      → ComparesReply included image sector (replied reads.answered.out bytes ∷ []) earlier first
  part_replied first long finds earlier = record {
    others = λ a other. read_other reads.answered.out bytes reads.answered.asks earlier a other;
    whole = λ a here inside. rw (read_here reads.answered.out bytes reads.answered.asks earlier a here) long;
    finds = finds (bytes_read (replied reads.answered.out bytes ∷ earlier)) (λ i small.
        let here : (4096 * sector + i) / 4096 ≡ sector = omega (arith, small) in
        let at : (4096 * sector + i) % 4096 ≡ i = omega (arith, small) in
        sym (ap (λ (reply : List ℕ). slice_index reply ((4096 * sector + i) % 4096))
        (read_here reads.answered.out bytes reads.answered.asks earlier (4096 * sector + i) here) ∙ ap (slice_index bytes) at));
  }

  pub part_read : (first : Option ℕ) → length bytes ≡ 4096 → new.polled_ready ≡ old.polled_ready
      → has_in_sector (includes included) sector ≡ true → ((content : ℕ → ℕ) → AreOfSector content sector bytes
      → FindsFirst included image content (4096 * sector) (4096 * (sector + 1)) first)
      → ComparesPart included image sector old new (record { first = first; reads = 1 })
  part_read first long same test finds = record {
    counted = rw test;
    only_sectors = record {
      later = replied reads.answered.out bytes ∷ [];
      is = reads.answered.history;
      each = All-cons IsSectorRead (replied reads.answered.out bytes) []
          (record { sector = sector; bytes = bytes; reads = reads.answered.asks; replied = refl })
          (All-nil IsSectorRead);
    };
    compares = part_replied first long finds;
    replied = read_at first finds;
    honest_reads = has_only_read-one only_reads reads.read (λ ready. same ∙ ready);
    errors = λ honest idle inside. finds old.chip.bytes (reads.replied honest idle inside).byte;
  }

module _ (included : Option (List Span)) (image : List ℕ) (content : ℕ → ℕ) (from mid : ℕ) where
  agree_more : (to : ℕ) → AgreeIn included image content from mid → AgreeIn included image content mid to
      → AgreeIn included image content from to
  agree_more to low high a above below inside = grind (arith, low, high)

  finds_first_more : (to : ℕ) (first second : Option ℕ) → from ≤ mid → mid ≤ to
      → FindsFirst included image content from mid first → FindsFirst included image content mid to second
      → FindsFirst included image content from to (option_or first second)
  finds_first_more to None None low high agree more = agree_more to agree more
  finds_first_more to None (Some address) low high agree other =
      let before = agree_more address agree other.before in search arith
  finds_first_more to (Some address) second low high other more = search arith

finds_first_same : (included : Option (List Span)) (image : List ℕ) (to : ℕ) (one two : ℕ → ℕ)
    → ((a : ℕ) → a < to → one a ≡ two a) → (first : Option ℕ) → FindsFirst included image one 0 to first
    → FindsFirst included image two 0 to first
finds_first_same included image to one two same None agree = λ a above below inside.
    agree a above below inside ∙ same a below
finds_first_same included image to one two same (Some address) other = record {
  above = other.above;
  below = other.below;
  is_included = other.is_included;
  differs = λ equal. other.differs (equal ∙ sym (same address other.below));
  before = λ a above below inside. let within = other.below in
      other.before a above below inside ∙ same a (omega (arith, within, below));
}

others_more : {old mid new : List Exchange} (first second : Option ℕ) → Continues old mid → AddsSectorReads mid new
    → ReadsDifference old mid first → ReadsDifference mid new second → ReadsDifference old new (option_or first second)
others_more None None low high has more = tt
others_more None (Some address) low high has more = read_after low more
others_more (Some address) second low high has more = read_then has high

pub compared_none : (included : Option (List Span)) (image : List ℕ) (size : ℕ) (state : BusState)
    → ComparesBelow included image size 0 state state (record { first = None; reads = 0 })
compared_none included image size state = record {
  counted = sym (count_below-zero (has_in_sector (includes included)));
  most = omega arith;
  honest_reads = has_only_read-none state;
  replied = tt;
  reads_all = record { later = []; is = refl; each = All-nil IsSectorRead };
  whole = λ a below inside. absurd (omega (arith, below));
  finds = λ a above below inside. absurd (omega (arith, below));
  errors = λ is_open a above below inside. absurd (omega (arith, below));
}

module _ {included : Option (List Span)} {image : List ℕ} {size n : ℕ} {old mid new : BusState}
    {before part : Compared} where
  pub compared_more : n < size / 4096 → ComparesBelow included image size n old mid before
      → ComparesPart included image n mid new part
      → ComparesBelow included image size (n + 1) old new
      (record { first = option_or before.first part.first; reads = before.reads + part.reads })
  compared_more below has compares = record {
    most = grind arith;
    counted = let next = count_below-more n (has_in_sector (includes included)) in grind arith;
    honest_reads = has_only_read-then has.honest_reads compares.honest_reads;
    replied = others_more before.first part.first has.honest_reads.nature.history compares.only_sectors has.replied
        compares.replied;
    reads_all = record {
      later = compares.only_sectors.later ++ has.reads_all.later;
      is = compares.only_sectors.is ∙ ap (λ (h : List Exchange). compares.only_sectors.later ++ h) has.reads_all.is
          ∙ sym (append_assoc compares.only_sectors.later has.reads_all.later old.history);
      each = All-append IsSectorRead compares.only_sectors.later has.reads_all.later compares.only_sectors.each
          has.reads_all.each;
    };
    whole = λ a low inside.
        let here = compares.compares has.reads_all.later in
        elim (cases_eq (a / 4096) n) [
          | inl at ↦ here.whole a at inside
          | inr other ↦ ap (λ (l : List ℕ). length l) (here.others a other) ∙ has.whole a (omega arith) inside
        ];
    finds =
        let here = compares.compares has.reads_all.later in
        let reads = compares.only_sectors.later ++ has.reads_all.later in
        let same : (a : ℕ) → a < 4096 * n → bytes_read has.reads_all.later a ≡ bytes_read reads a = λ a low.
        let other : a / 4096 ≢ n = λ same. omega arith in
        sym (ap (λ (reply : List ℕ). slice_index reply (a % 4096)) (here.others a other)) in
        finds_first_more included image (bytes_read reads) 0 (4096 * n) (4096 * (n + 1)) before.first part.first
        (omega arith) (omega arith) (finds_first_same included image (4096 * n) (bytes_read has.reads_all.later)
        (bytes_read reads) same before.first has.finds) here.finds;
    errors = λ is_open.
        let now = open_later has.honest_reads is_open in
        let same = now.same in
        finds_first_more included image old.chip.bytes 0 (4096 * n) (4096 * (n + 1)) before.first part.first
        (omega arith) (omega arith) (has.errors is_open) (rw (same_bytes (has.honest_reads.rested is_open.honest))
        at (compares.errors now.honest now.idle (omega arith)));
  }
