use Rattle.std.proofs.Common.{◌≡◌, ◌<◌, ◌≤◌, ◌+◌, ◌-◌, ◌*◌, ◌/◌, ◌⊎◌, inl, inr, ◌∙◌, ℕ, Bool, true, false, List, [], ◌∷◌, ◌++◌, Some, None, length, take, drop, slice_index, refl, ap, sym, true≢false, arith, length-take, length-drop, ◌||◌, zero, suc}
use Rattle.std.specs.Prelude.{◌&&◌, ◌||◌, nat_le, nat_lt, bit_and, if◌then◌else◌, ◌==◌, not, min, count_by}
use Rattle.std.specs.Int.Bits.{and_self}
use Rattle.std.proofs.lemmas.Nat.{and_comm}
use Rattle.std.proofs.lemmas.List.{get_or-take, get_or-drop}
use Rattle.std.proofs.lemmas.List.Folds.{list_any-append}
use Rattle.std.proofs.lemmas.Bool.Decides.{nat_tests}
use Rattle.std.proofs.lemmas.Bool.{cases_Bool, and_parts, leb-true, ltb-true}
use Rattle.std.proofs.Math.Bool.{or-false, and-or_distrib_right}
use Rattle.nor_model.specs.Sent.{byte_from, is_byte}
use Rattle.nor_model.specs.Bus.{BusState}
use Rattle.nor_driver.specs.Programs.{CanProgram, MayProgram, HasProgrammed, programmed, is_in_page, is_sector_of, page_program}
use Rattle.nor_driver.specs.Reads.{IsSectorOf}
use Rattle.nor_driver.specs.StatusWrites.{fixed_of}
use Rattle.nor_plan.specs.declared.page.PageSpan.{PageSpan}
use Rattle.nor_plan.specs.SpanFacts.{IsSpan, AreSpans, is_within_span, spanned_by}
use Rattle.nor_plan.specs.SectorSet.{none}
use Rattle.nor_apply.specs.Change.{MayChange, HasMade, HasChanged, only, byte_of, is_target_byte}
use Rattle.nor_apply.specs.Programming.{CanProgramSpans, LeavesSector, DoesSector, most_pages}
use Rattle.nor_apply.proofs.Alone.{only-here, only-is, old_byte}
use Rattle.nor_apply.proofs.Changing.{can_after, change_then, either_byte, made_may, made_then, changed_may}
use Rattle.std.specs.List.{list_any, range_with_len}
use Rattle.nor_geometry.specs.Below.{any_below, count_below}
use Rattle.nor_geometry.proofs.Counting.{any_below-same, count_below-most, count_below-same}
use Rattle.nor_driver.specs.declared.waits.OperationError.{OperationError}
use Rattle.nor_driver.specs.Waits.{OperationFails, NamesTimeout}
use Rattle.nor_driver.specs.Limits.{programming}
use Rattle.nor_driver.specs.Operations.{most_operation, LeavesOperation, Operates}
use Rattle.nor_plan.specs.Content.{is_other, is_page_other}
use Rattle.nor_plan.specs.Span.{page_differs, pages_changed, page_count, spans_of}
use Rattle.nor_apply.specs.declared.tally.Tally.{Tally}
use Rattle.nor_apply.specs.Spending.{NamesTimeoutIn}
use Rattle.nor_apply.proofs.InTurn.{ran_leaves, honest_now, Listed, listed_after, listed_fails, listed_more, listed_all, listed_next, listed_fewer}
use Rattle.nor_apply.proofs.Targeting.{named_in}

abbrev pub in_spans : ℕ → List PageSpan → ℕ → Bool
in_spans sector spans a = spanned_by spans (a - 4096 * sector) && only sector (a / 4096)

abbrev pub HasFilled : ℕ → List ℕ → List PageSpan → (old new : BusState) → Type 0
HasFilled sector wanted spans old new = HasMade (in_spans sector spans) (byte_of sector wanted) none old new

abbrev part : List ℕ → PageSpan → List ℕ
part wanted span = take (span.last + 1 - span.first) (drop span.first wanted)

fallen : {now old wanted : ℕ} → (now ≡ old) ⊎ (now ≡ wanted) → bit_and wanted old ≡ wanted → bit_and now wanted ≡ wanted
fallen {old} {wanted} (inl same) falls = rw (same, and_comm old wanted) falls
fallen {wanted} (inr made) falls = rw made (and_self wanted)

page_inside : (sector first a : ℕ) → first < 4096 → is_in_page (4096 * sector + first) a ≡ true
    → only sector (a / 4096) ≡ true
page_inside sector first a below page = grind (arith, nat_tests)

span_change : (sector at : ℕ) (sent : List ℕ) (wanted : ℕ → ℕ) (now new : BusState)
    → ((a : ℕ) → is_in_page at a ≡ true → only sector (a / 4096) ≡ true)
    → ((a : ℕ) → (programmed at sent now.chip.bytes a ≡ now.chip.bytes a)
    ⊎ (programmed at sent now.chip.bytes a ≡ wanted a))
    → MayProgram at sent now new → MayChange (only sector) none wanted now new
span_change sector at sent wanted now new inside either may =
    grind (arith, inside, either, may.bytes, may.runs, may.worn, ap fixed_of may.kept)

byte_parts : (b : Bool) (is byte : ℕ) → is_byte (if b then Some is else None) byte ≡ true
    → (b ≡ true) × ((byte == is) ≡ true)
byte_parts true is byte same = (refl, same)
byte_parts false is byte same = absurd (true≢false (sym same))

record Spanned (sector : ℕ) (old wanted : List ℕ) (span : PageSpan) : Type 0 where
  pub whole : length old ≡ 4096
  pub wanted_whole : length wanted ≡ 4096
  pub is : IsSpan old wanted span

module _ {sector : ℕ} {old wanted : List ℕ} {span : PageSpan} (spanned : Spanned sector old wanted span) where
  below_end : span.last < 4096
  below_end = omega (arith, spanned.is.last.0, spanned.whole)

  length-part : length (part wanted span) ≡ span.last + 1 - span.first
  length-part = omega (arith, length-take {A = ℕ}, length-drop {A = ℕ}, below_end)

  sent_addresses : (a : ℕ) → (nat_le (4096 * sector + span.first) a
      && nat_lt a (4096 * sector + span.first + length (part wanted span))) ≡ in_spans sector (span ∷ []) a
  sent_addresses a =
      let order = spanned.is.order in
      let last = below_end in
      rw length-part (grind (arith, nat_tests))

  span_byte : (a : ℕ) → in_spans sector (span ∷ []) a ≡ true
      → slice_index (part wanted span) (a - (4096 * sector + span.first)) ≡ byte_of sector wanted a
  span_byte a in_span =
      let parts = and_parts _ _ (sent_addresses a ∙ in_span) in
      let low : 4096 * sector + span.first ≤ a = leb-true _ _ parts.0 in
      let high : a < 4096 * sector + span.first + length (part wanted span) = ltb-true _ _ parts.1 in
      let last = below_end in
      let long = length-part in
      let k : ℕ = a - (4096 * sector + span.first) in
      let place : span.first + k ≡ a - 4096 * sector = omega arith in
      get_or-take (span.last + 1 - span.first) (drop span.first wanted) k 0 (omega arith)
      ∙ get_or-drop span.first wanted k 0 ∙ ap (λ (i : ℕ). slice_index wanted i) place

  span_sends : (a byte : ℕ) → is_byte (byte_from (4096 * sector + span.first) (part wanted span) a) byte ≡ true
      → is_target_byte (only sector) (byte_of sector wanted) a byte ≡ true
  span_sends a byte sent =
      let parts = byte_parts _ _ byte sent in
      let in_span : in_spans sector (span ∷ []) a ≡ true = sym (sent_addresses a) ∙ parts.0 in
      let here = and_parts (spanned_by (span ∷ []) (a - 4096 * sector)) (only sector (a / 4096)) in_span in
      rw (here.1, ← span_byte a in_span) parts.1

  module _ (spans : List PageSpan) {first now : BusState} (can : CanProgramSpans sector old wanted first.chip)
      (filled : HasFilled sector wanted spans first now) where
    can_span : CanProgram (4096 * sector + span.first) (length (part wanted span)) now.chip
    can_span =
        let able = can_after now.chip (λ s is. is) can.can filled.config filled.kept filled.idle in
        let inside = able.inside sector (only-here refl) in
        let free = able.free (4096 * sector + span.first) in
        let last = below_end in
        let long = length-part in
        grind (arith, spanned.is.order, nat_tests)

    span_falls : (a : ℕ) → in_spans sector (span ∷ []) a ≡ true
        → bit_and (now.chip.bytes a) (slice_index (part wanted span) (a - (4096 * sector + span.first)))
        ≡ byte_of sector wanted a
    span_falls a in_span =
        let sent = span_byte a in_span in
        let parts = and_parts (spanned_by (span ∷ []) (a - 4096 * sector)) (only sector (a / 4096)) in_span in
        let here : a / 4096 ≡ sector = only-is parts.1 in
        let falls : bit_and (byte_of sector wanted a) (first.chip.bytes a) ≡ byte_of sector wanted a =
        rw (old_byte sector old first.chip.bytes a (omega arith) can.shown)
        (can.falls (a - 4096 * sector) (omega arith)) in
        rw sent (fallen (either_byte (in_spans sector spans a) (filled.bytes a)) falls)

    span_bytes : (a : ℕ) → programmed (4096 * sector + span.first) (part wanted span) now.chip.bytes a
        ≡ (if in_spans sector (span ∷ []) a then byte_of sector wanted a else now.chip.bytes a)
    span_bytes a = rw (sent_addresses a) (elim (cases_Bool (in_spans sector (span ∷ []) a)) [
      | inl is ↦ rw is (span_falls a is)
      | inr out ↦ rw out refl
    ])

    module _ {new : BusState} where
      span_filled : HasProgrammed (4096 * sector + span.first) (part wanted span) now new → new.chip.busy ≡ 0
          → HasFilled sector wanted (spans ++ span ∷ []) first new
      span_filled programs idle =
          let made : HasFilled sector wanted (span ∷ []) now new =
          grind (arith, programs.bytes, span_bytes, programs.worn, or-false) in
          let joined : (a : ℕ) → in_spans sector (spans ++ span ∷ []) a
          ≡ (in_spans sector spans a || in_spans sector (span ∷ []) a) = λ a.
          ap (λ (b : Bool). b && only sector (a / 4096))
          (list_any-append (is_within_span (a - 4096 * sector)) spans (span ∷ []))
          ∙ and-or_distrib_right (spanned_by spans (a - 4096 * sector)) _ _ in
          made_then joined (λ s. refl) (λ a is. refl) filled made

      span_may : now.steady ≡ first.steady → MayProgram (4096 * sector + span.first) (part wanted span) now new
          → MayChange (only sector) none (byte_of sector wanted) first new
      span_may steadily may =
          change_then steadily (made_may (λ a is. (and_parts _ _ is).1) (λ s no. no) filled)
          (span_change sector (4096 * sector + span.first) (part wanted span) (byte_of sector wanted) now new
          (λ a. page_inside sector span.first a (omega (arith, below_end, spanned.is.order)))
          (λ a. either_byte (in_spans sector (span ∷ []) a) (span_bytes a)) may)

filled_all : {sector : ℕ} {old wanted : List ℕ} {spans : List PageSpan} {first new : BusState} → length old ≡ 4096
    → AreSpans old wanted spans → CanProgramSpans sector old wanted first.chip → HasFilled sector wanted spans first new
    → HasChanged (only sector) (byte_of sector wanted) none first new
filled_all {sector} {old} {wanted} {spans} {first} {new} whole are can filled =
    let bytes : (a : ℕ) → new.chip.bytes a
    ≡ (if only sector (a / 4096) then byte_of sector wanted a else first.chip.bytes a) = λ a.
    filled.bytes a ∙ elim (cases_Bool (spanned_by spans (a - 4096 * sector))) [
      | inl made ↦ rw made refl
      | inr other ↦ rw other (elim (cases_Bool (only sector (a / 4096))) [
        | inl is ↦
            let here = only-is is in
            rw is (old_byte sector old first.chip.bytes a here can.shown
            ∙ are.others (a - 4096 * sector) (omega arith) other)
        | inr out ↦ rw out refl
      ])
    ] in
    assumption

any_of_range : (test : ℕ → Bool) (from m n at : ℕ) → at ≡ from + m
    → list_any test (range_with_len at n) ≡ list_any (λ i. test (from + i)) (range_with_len m n)
any_of_range test from m zero at place = refl
any_of_range test from m (suc n) at place = rw (place, any_of_range test from (m + 1) n (from + m + 1) (omega arith)) refl

page_same : (content : ℕ → ℕ) (sector : ℕ) (old wanted : List ℕ) → length old ≡ 4096 → IsSectorOf content sector old
    → (page : ℕ) → page < 16 → page_differs old wanted page
    ≡ is_page_other content (byte_of sector wanted) (16 * sector + page)
unfolding is_page_other any_below
page_same content sector old wanted whole shown page small =
    let test : ℕ → Bool = λ k. not (slice_index old k == slice_index wanted k) in
    let long : min 256 (length old - page * 256) ≡ 256 = omega arith in
    ap (λ (n : ℕ). list_any test (range_with_len (page * 256) n)) long
    ∙ any_of_range test (page * 256) 0 256 (page * 256) (omega arith)
    ∙ any_below-same 256 (λ i. test (page * 256 + i))
    (λ i. is_other (content (256 * (16 * sector + page) + i)) (byte_of sector wanted (256 * (16 * sector + page) + i)))
    (λ i below.
    let place : 4096 * sector + (page * 256 + i) ≡ 256 * (16 * sector + page) + i = omega arith in
    let offset : page * 256 + i ≡ 256 * (16 * sector + page) + i - 4096 * sector = omega arith in
    rw (shown.byte (page * 256 + i) (omega arith), place, ← offset) refl)

pages_counted : (old wanted : List ℕ) → length old ≡ 4096 → pages_changed old wanted
    ≡ count_below 16 (page_differs old wanted)
unfolding count_below
pages_counted old wanted whole =
    let pages : page_count old ≡ 16 = omega arith in
    ap (λ (n : ℕ). count_by (page_differs old wanted) (range_with_len 0 n)) pages

pages_most : (old wanted : List ℕ) → length old ≡ 4096 → pages_changed old wanted ≤ 16
pages_most old wanted whole =
    omega (arith, pages_counted old wanted whole, count_below-most 16 (page_differs old wanted))

pages_other : (content : ℕ → ℕ) (sector : ℕ) (old wanted : List ℕ) → length old ≡ 4096
    → IsSectorOf content sector old
    → pages_changed old wanted ≡ count_below 16 (λ page. is_page_other content (byte_of sector wanted)
    (16 * sector + page))
pages_other content sector old wanted whole shown =
    pages_counted old wanted whole
    ∙ count_below-same 16 (page_differs old wanted)
    (λ page. is_page_other content (byte_of sector wanted) (16 * sector + page))
    (page_same content sector old wanted whole shown)

-- Holds after the spans `spans` of a sector were programmed. The spans in `left` aren't programmed yet.
pub record SpansSoFar (sector : ℕ) (old wanted : List ℕ) (spans left : List PageSpan) (first now : BusState)
    (tally : Tally) : Type 0 where
  pub whole : length old ≡ 4096
  pub wanted_whole : length wanted ≡ 4096
  pub are : AreSpans old wanted (spans_of old wanted)
  pub listed : Listed (spans_of old wanted) spans left
      (programming (only sector) (is_target_byte (only sector) (byte_of sector wanted))) first now tally
  pub done : first.honest ≡ true → CanProgramSpans sector old wanted first.chip
      → HasFilled sector wanted spans first now

module _ {sector : ℕ} {old wanted : List ℕ} {spans left : List PageSpan} {first now : BusState} {tally : Tally}
    (so : SpansSoFar sector old wanted spans left first now tally) where
  module _ (none : left ≡ []) where
    pub does_ended : DoesSector 0 (CanProgramSpans sector old wanted) sector wanted first now tally
    does_ended =
        let all = listed_all so.listed none in
        let counted : tally.count ≡ pages_changed old wanted = so.listed.count ∙ ap length all ∙ so.are.count in
        record {
          fewer = omega (arith, pages_most old wanted so.whole);
          exactly = so.listed.ran.exactly;
          tallies = so.listed.ran.tallies;
          done = λ honest can. filled_all so.whole (rw all so.are) can (so.done honest can);
          counted = λ honest can. counted ∙ pages_other first.chip.bytes sector old wanted so.whole can.shown;
        }

    pub leaves_ended : LeavesSector most_pages (CanProgramSpans sector old wanted) sector wanted first now
    leaves_ended =
        ran_leaves so.listed.ran (grind (arith, does_ended.fewer)) (omega (arith, does_ended.fewer))
        (λ honest can. changed_may (does_ended.done honest can))

  module _ {span : PageSpan} {rest : List PageSpan} (next : left ≡ span ∷ rest) where
    spanned : Spanned sector old wanted span
    spanned = record {
      whole = so.whole;
      wanted_whole = so.wanted_whole;
      is = listed_next so.listed next (IsSpan old wanted) so.are.each;
    }

    pub few_spans : (tally.count ≤ 15) × (tally.transactions ≤ 983070)
    few_spans = omega (arith, listed_fewer so.listed next, so.are.count, pages_most old wanted so.whole)

    targets_next : (s : ℕ) → is_sector_of (4096 * sector + span.first) s ≡ true → only sector s ≡ true
    targets_next s named =
        let last = below_end spanned in
        let order = spanned.is.order in
        let at = named_in 1 ((4096 * sector + span.first) / 4096) s (omega arith) (omega arith) named in
        only-here (omega arith)

    bytes_next : (a byte : ℕ) → is_byte (byte_from (4096 * sector + span.first) (part wanted span) a) byte ≡ true
        → is_target_byte (only sector) (byte_of sector wanted) a byte ≡ true
    bytes_next = span_sends spanned

    names_address : (error : OperationError) → NamesTimeout (4096 * sector + span.first) error → NamesTimeoutIn (only sector) error
    names_address error returned =
        let last = below_end spanned in
        let order = spanned.is.order in
        grind (arith, nat_tests)

    module _ {new : BusState}
        (leaves : LeavesOperation (page_program (4096 * sector + span.first) (part wanted span)) now new) where
      pub spans_failed : {error : OperationError} → OperationFails most_operation now new error
          → NamesTimeout (4096 * sector + span.first) error
          → LeavesSector most_pages (CanProgramSpans sector old wanted) sector wanted first new × OperationFails most_pages first new error
          × NamesTimeoutIn (only sector) error
      spans_failed {error} fails names =
          let few = pages_most old wanted so.whole in
          let most : most_operation * length (spans_of old wanted) ≤ most_pages = omega (arith, so.are.count, few) in (
            listed_after so.listed next leaves.leaves
                (grind (arith, targets_next, bytes_next, few_spans.0)) most
                (λ honest can.
                let filled = so.done honest can in
                (can_span spanned spans can filled, span_may spanned spans can filled so.listed.ran.nature.steady)),
            listed_fails so.listed next fails most,
            names_address error names,
          )

      pub spans_more : {more : Tally} {sent : ℕ}
          → Operates (page_program (4096 * sector + span.first) (part wanted span)) now new sent
          → more.count ≡ tally.count + 1 → more.transactions ≡ tally.transactions + sent
          → SpansSoFar sector old wanted (spans ++ span ∷ []) rest first new more
      spans_more programs count transactions = record {
        whole = so.whole;
        wanted_whole = so.wanted_whole;
        are = so.are;
        listed = listed_more so.listed next leaves.leaves (grind (arith, targets_next, bytes_next, count))
            programs.sends
            programs.ends count transactions;
        done = λ honest can.
            let filled = so.done honest can in
            let now_honest = honest_now so.listed.ran honest in
            span_filled spanned spans can filled (programs.done now_honest (can_span spanned spans can filled))
            (programs.ends.idle now_honest);
      }
