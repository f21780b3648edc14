use Rattle.std.proofs.Common.{◌≡◌, ◌≢◌, ◌<◌, ◌≤◌, ◌+◌, ◌*◌, ◌/◌, ◌∙◌, ◌++◌, ◌∷◌, [], ℕ, List, ap, arith, false, inl, inr, length, refl}
use Rattle.std.proofs.Common.{replicate, slice_index, subst, sym, true}
use Rattle.std.specs.List.{All}
use Rattle.std.proofs.lemmas.Bool.{cases_lt, false≢true}
use Rattle.std.proofs.lemmas.Bool.Decides.{nat_tests}
use Rattle.std.proofs.lemmas.List.{get_or-replicate}
use Rattle.std.proofs.lemmas.List.Elements.{All-cons, All-nil}
use borrow.Rule.Slice.PartMut.{put_mid}
use Rattle.nor_model.specs.Bus.{BusState}
use Rattle.nor_model.specs.Exchange.{Exchange}
use Rattle.nor_model.specs.History.{Answered, last_reply, names, replied}
use Rattle.nor_model.proofs.Histories.{answered_keeps, answered_last}
use Rattle.nor_driver.specs.OnlyReads.{HasStopped, OnlyReads}
use Rattle.nor_driver.specs.Reads.{ReadsSector}
use Rattle.nor_driver.specs.Ready.{StaysReady}
use Rattle.nor_driver.proofs.ReadsInTurn.{only_reads_none}
use Rattle.nor_driver.proofs.RestsInTurn.{HasOnlyRead, has_only_read-none, has_only_read-one, has_only_read-then, only_reads_after, runs_out}
use Rattle.nor_journal.specs.Saved.{IsWholeSector, is_saved}
use Rattle.nor_journal.specs.Text.{Content as Journal}
use Rattle.nor_plan.proofs.Parts.{HasPart, put_back}
use Rattle.board_jobs.specs.UnsavedSectors.{HasReadRest, HasStoppedInRest, IsRestRead}

names_other : (opcode at other : ℕ) → at ≢ other → (out : List ℕ) → names opcode at out ≡ true
    → names opcode other out ≡ false
names_other opcode at other differs [] is = refl
names_other opcode at other differs (first ∷ []) is = refl
names_other opcode at other differs (first ∷ x ∷ []) is = refl
names_other opcode at other differs (first ∷ x ∷ y ∷ []) is = refl
names_other opcode at other differs (first ∷ x ∷ y ∷ z ∷ rest) is = grind (arith, nat_tests)

pub record HasReadUp (journal : Journal) (to : ℕ) (bytes : List ℕ) (old new : BusState) : Type 0 where
  pub reads : ℕ
  pub few : reads ≤ to
  pub honest_reads : HasOnlyRead reads old new
  pub later : List Exchange
  pub is : new.history ≡ later ++ old.history
  pub only : All (IsRestRead journal) later
  pub replied : (s : ℕ) → s < to → is_saved journal s ≡ false
      → IsWholeSector (slice_index bytes) s (last_reply (names 0x03 (4096 * s)) later)
  pub saved : (a : ℕ) → a < journal.size → is_saved journal (a / 4096) ≡ true → slice_index bytes a ≡ 255

pub up_none : (journal : Journal) (bytes : List ℕ) (state : BusState)
    → bytes ≡ replicate journal.size 255 → HasReadUp journal 0 bytes state state
up_none journal bytes state blank = record {
  reads = 0;
  few = omega arith;
  honest_reads = has_only_read-none state;
  later = [];
  is = refl;
  only = All-nil (IsRestRead journal);
  replied = λ s below out. absurd (omega (arith, below));
  saved = λ a below is. rw blank (get_or-replicate journal.size a 255 0 below);
}

pub up_skip : {journal : Journal} {n : ℕ} {bytes : List ℕ} {old new : BusState}
    → is_saved journal n ≡ true → HasReadUp journal n bytes old new → HasReadUp journal (n + 1) bytes old new
up_skip {journal} {n} {bytes} {old} {new} saved has = record {
  reads = has.reads;
  few = let few = has.few in omega (arith, few);
  honest_reads = has.honest_reads;
  later = has.later;
  is = has.is;
  only = has.only;
  replied = λ s below out. elim (cases_lt s n) [
    | inl lower ↦ has.replied s lower out
    | inr higher ↦
        let same : s ≡ n = omega (arith, below, higher) in
        absurd (false≢true (sym out ∙ ap (is_saved journal) same ∙ saved))
  ];
  saved = has.saved;
}

module _ {journal : Journal} {n width : ℕ} {bytes part : List ℕ} {old mid new : BusState}
    (exact : width ≡ 4096) (below : n < journal.size / 4096)
    (size : length bytes ≡ journal.size) (long : length part ≡ 4096) (out : is_saved journal n ≡ false)
    (has : HasReadUp journal n bytes old mid) (does : ReadsSector n mid new part) where
  abbrev last_read : Exchange
  last_read = replied does.answered.out part

  one_more : Answered (names 0x03 (4096 * n)) has.later (last_read ∷ has.later) part
  one_more = record { out = does.answered.out; asks = does.answered.asks; history = refl }

  put : HasPart n part bytes (put_mid (4096 * n) width bytes part)
  put = put_back n width bytes part exact long (omega (arith, size, below))

  here : IsWholeSector (slice_index (put_mid (4096 * n) width bytes part)) n
      (last_reply (names 0x03 (4096 * n)) (last_read ∷ has.later))
  here = subst (λ (bytes' : List ℕ). IsWholeSector (slice_index (put_mid (4096 * n) width bytes part)) n bytes')
      (sym (answered_last one_more)) (record { whole = long; same = λ i small. sym (put.inside i small) })

  earlier : (s : ℕ) → s < n → is_saved journal s ≡ false
      → IsWholeSector (slice_index (put_mid (4096 * n) width bytes part)) s
      (last_reply (names 0x03 (4096 * s)) (last_read ∷ has.later))
  earlier s lower unsaved =
      let was = has.replied s lower unsaved in
      let kept = (answered_keeps one_more).same (names 0x03 (4096 * s))
      (names_other 0x03 (4096 * n) (4096 * s) (λ same. omega (arith, same, lower))) in
      subst (λ (bytes' : List ℕ). IsWholeSector (slice_index (put_mid (4096 * n) width bytes part)) s bytes')
      (sym kept) (record {
        whole = was.whole;
        same = λ i small. was.same i small ∙ sym (put.outside (4096 * s + i) (λ same. omega (arith, same, lower, small)));
      })

  pub up_more : OnlyReads 1 mid new → StaysReady mid new
      → HasReadUp journal (n + 1) (put_mid (4096 * n) width bytes part) old new
  up_more only_reads ready = record {
    reads = has.reads + 1;
    few = let few = has.few in omega (arith, few);
    honest_reads = has_only_read-then has.honest_reads (has_only_read-one only_reads does.read ready);
    later = last_read ∷ has.later;
    is = does.answered.history ∙ ap (λ (h : List Exchange). last_read ∷ h) has.is;
    only = All-cons (IsRestRead journal) last_read has.later
        (record { sector = n; bytes = part; unsaved = out; reads = does.answered.asks; replied = refl }) has.only;
    replied = λ s inside unsaved. elim (cases_lt s n) [
      | inl lower ↦ earlier s lower unsaved
      | inr higher ↦
          let same : n ≡ s = omega (arith, inside, higher) in
          subst (λ (k : ℕ). IsWholeSector (slice_index (put_mid (4096 * n) width bytes part)) k
          (last_reply (names 0x03 (4096 * k)) (last_read ∷ has.later))) same here
    ];
    saved = λ a inside is. put.outside a (λ same. absurd (false≢true (sym out ∙ ap (is_saved journal) (sym same) ∙ is)))
        ∙ has.saved a inside is;
  }

pub up_all : {journal : Journal} {to : ℕ} {bytes : List ℕ} {old new : BusState} → to ≡ journal.size / 4096
    → length bytes ≡ journal.size → HasReadUp journal to bytes old new → HasReadRest journal bytes old new
up_all {journal} {to} {bytes} {old} {new} all long has = record {
  only_reads = only_reads_after has.reads 0 _ old new new (let few = has.few in omega (arith, few, all)) has.honest_reads
      (only_reads_none new);
  later = has.later;
  is = has.is;
  only = has.only;
  replied = λ s below out. has.replied s (omega (arith, all, below)) out;
  unsaved = record { long = long; saved = has.saved };
}

pub up_stops : {journal : Journal} {n : ℕ} {bytes : List ℕ} {old mid new : BusState} → n < journal.size / 4096
    → HasReadUp journal n bytes old mid → OnlyReads 1 mid new → HasStopped 1 mid new
    → HasStoppedInRest journal old new
up_stops {old = old} {mid = mid} {new = new} more has only_reads stopped = let few = has.few in record {
  only_reads = only_reads_after has.reads 1 _ old mid new (omega (arith, few, more)) has.honest_reads only_reads;
  stopped = runs_out has.reads _ old mid new (omega (arith, few, more)) has.honest_reads stopped;
}
