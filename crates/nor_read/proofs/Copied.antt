-- Lemmas about copying a chip, piece by piece (65,536 bytes), until the copy is complete or the vault refuses a piece.
use Rattle.std.proofs.Common.{◌≡◌, ◌<◌, ◌≤◌, ◌+◌, ◌-◌, ◌*◌, ◌++◌, ◌∙◌, ℕ, true, List, [], length, slice_index, take}
use Rattle.std.proofs.Common.{Option, refl, ap, sym, arith, inl, inr, append_assoc, append-nil, length-append}
use Rattle.std.specs.Prelude.{◌/◌, ⊤}
use Rattle.std.proofs.lemmas.Bool.{cases_lt}
use Rattle.std.proofs.lemmas.List.{get_or_append_left, get_or-append_right, get_or-take, length-take-le}
use Rattle.std.proofs.lemmas.List.Elements.{All-append, All-nil}
use Rattle.nor_model.specs.Bus.{BusState}
use Rattle.nor_driver.specs.ReadBack.{bytes_read, IsSectorRead}
use Rattle.nor_model.specs.Exchange.{Exchange}
use Rattle.nor_model.specs.History.{Continues}
use Rattle.nor_driver.specs.OnlyReads.{OnlyReads, RanOut, HasStopped, IsOpen}
use Rattle.nor_journal.specs.Vault.{VaultState, Took}
use Rattle.nor_layout.specs.declared.ranges.Span.{Span}
use Rattle.nor_layout.specs.Sectors.{includes, has_in_sector}
use Rattle.nor_geometry.proofs.Below.{count_below-zero}
use Rattle.nor_driver.proofs.RestsInTurn.{HasOnlyRead, has_only_read-none, has_only_read-then, open_later, same_bytes}
use Rattle.nor_request.specs.declared.refusal.Refusal.{Refusal}
use Rattle.nor_request.specs.declared.refusal.Refusal.TheVariants.{Output, Stopped}
use Rattle.nor_read.specs.Reading.{copied, Copies, CopiesBegun, CopiesIf, CopiesReplies}
use Rattle.nor_read.specs.Reading.{ReadsPiece, ReadsPieces, CopyErrors, PutErrors}
use Rattle.nor_read.proofs.Copying.{copied_same}
use Rattle.nor_read.proofs.Onward.{adds_is}

pub copies_if : {known : Type 0} {included : Option (List Span)} {content : ℕ → ℕ} {count : ℕ} {old new : VaultState}
    → CopiesIf known included content count old new → known → Copies included content count old new
copies_if has is = let right = has.right is in search right

none_copied : (included : Option (List Span)) (history : List Exchange) (vault : VaultState)
    → CopiesReplies included 0 history history vault vault
none_copied included history vault = record {
  reads = record { later = []; is = refl; each = All-nil IsSectorRead };
  whole = λ a below inside. absurd (omega (arith, below));
  copy = λ telling. record {
    bytes = [];
    long = refl;
    grown = sym (append-nil vault.bytes);
    right = λ a below. absurd (omega (arith, below));
  };
}

pub none_begun : {included : Option (List Span)} {old new : List Exchange} {vault : VaultState} → Continues old new
    → CopiesBegun included old new vault vault
none_begun {included} {old} {new} {vault} first = (0, old, first, none_copied included old vault)

pub copied_none : (included : Option (List Span)) (size : ℕ) (state : BusState) (vault : VaultState)
    → ReadsPieces included size 0 state state vault vault 0
copied_none included size state vault = record {
  most = omega arith;
  counted = sym (count_below-zero (has_in_sector (includes included)));
  honest_reads = has_only_read-none state;
  accepted = assumption;
  replied = none_copied included state.history vault;
  copy = λ telling. record {
    grows = record { bytes = []; long = refl; grown = sym (append-nil vault.bytes) };
    right = λ known a below. absurd (omega arith);
  };
}

module _ {known : Type 0} {included : Option (List Span)} {content : ℕ → ℕ} {m : ℕ} {vault mid new : VaultState} where
  copies_more : (k count : ℕ) (part : List ℕ) → m + k ≡ count → CopiesIf known included content m vault mid
      → length part ≡ k → new.bytes ≡ mid.bytes ++ part
      → (known → (i : ℕ) → i < k → slice_index part i ≡ copied included content (m + i))
      → CopiesIf known included content count vault new
  copies_more k count part all has long grown right =
      let before = has.grows in
      let whole = before.long in
      record {
        grows = record {
          bytes = before.bytes ++ part;
          long = length-append before.bytes part ∙ (omega arith);
          grown = grown ∙ ap (λ (xs : List ℕ). xs ++ part) before.grown ∙ append_assoc vault.bytes before.bytes part;
        };
        right = λ is a below. elim (cases_lt a m) [
          | inl low ↦ get_or_append_left before.bytes part 0 a (omega arith) ∙ has.right is a low
          | inr later ↦
              let at : m + (a - m) ≡ a = omega arith in
              get_or-append_right before.bytes part m a 0 whole later ∙ rw at at (right is (a - m) (omega arith))
        ];
      }

module _ {included : Option (List Span)} {size n reads : ℕ} {old mid new : BusState} {vault now : VaultState} where
  pub copy_stops : n < size / 65536 → ReadsPieces included size n old mid vault now reads → OnlyReads 16 mid new
      → HasStopped 16 mid new → CopyErrors included size old new vault now Stopped
  copy_stops below has only_reads out =
      let nature = has.honest_reads.nature in
      let ran_out : old.honest ≡ true → RanOut (size / 4096) old new = λ honest punctual.
      let ran = out.ran_out (nature.honest ∙ honest) (nature.punctual ∙ punctual) in
      let sent = has.honest_reads.sent honest punctual in
      let most = has.most in
      record { none_left = ran.none_left; below = omega (arith, ran.below, sent, most, below) } in (
        record { last = out.last; ran_out = ran_out },
        has.accepted,
        (65536 * n, mid.history, only_reads.nature.history, has.replied),
      )

module _ {included : Option (List Span)} {size n reads more : ℕ} {bytes : List ℕ} {old mid new : BusState}
    {vault now : VaultState} (below : n < size / 65536) (long : length bytes ≡ 65536)
    (has : ReadsPieces included size n old mid vault now reads)
    (piece : ReadsPiece included n 16 bytes mid new more) where
  has_only_read-all : HasOnlyRead (reads + more) old new
  has_only_read-all = has_only_read-then has.honest_reads piece.honest_reads

  piece_right : IsOpen size old → (i : ℕ) → i < 65536
      → slice_index bytes i ≡ copied included old.chip.bytes (65536 * n + i)
  piece_right is_open i small =
      let now = open_later has.honest_reads is_open in
      let same = now.same in
      rw (same_bytes (has.honest_reads.rested is_open.honest)) at (piece.right now.honest now.idle (omega arith) i small)

  replies_more : {later : VaultState} (k count : ℕ) (part : List ℕ) → 65536 * n + k ≡ count → k ≤ 65536
      → length part ≡ k → ((i : ℕ) → i < k → slice_index part i ≡ slice_index bytes i)
      → (vault.telling ≡ true → later.bytes ≡ now.bytes ++ part)
      → CopiesReplies included count old.history new.history vault later
  replies_more k count part all fits whole same grown =
      let before = has.replied.reads.later in
      let after = piece.only_sectors.later ++ before in
      let next = piece.replied before in
      record {
        reads = record {
          later = after;
          is = adds_is has.replied.reads piece.only_sectors;
          each = All-append IsSectorRead piece.only_sectors.later before piece.only_sectors.each has.replied.reads.each;
        };
        whole = λ a low inside. elim (cases_lt a (65536 * n)) [
          | inl lower ↦ ap (λ (l : List ℕ). length l) (next.below a lower) ∙ has.replied.whole a lower inside
          | inr higher ↦ next.whole a higher (omega (arith, low, all, fits)) inside
        ];
        copy = λ telling.
            let was = has.replied.copy telling in
            copies_if (copies_more {known = ⊤} {content = bytes_read after} {mid = now} k count part all (record {
              grows = record { bytes = was.bytes; long = was.long; grown = was.grown };
              right = λ known a low. was.right a low ∙ copied_same included before after a (next.below a low);
            }) whole (grown telling)
            (λ known i small. same i small ∙ next.right i (omega (arith, small, fits)))) tt;
      }

  pub copied_more : {later : VaultState} → Took now bytes later
      → ReadsPieces included size (n + 1) old new vault later (reads + more)
  copied_more took = record {
    most = grind arith;
    counted = grind arith;
    honest_reads = has_only_read-all;
    accepted = grind arith;
    replied = replies_more 65536 (65536 * (n + 1)) bytes (omega arith) (omega arith) long (λ i small. refl)
        (λ telling. took.bytes (has.accepted.telling ∙ telling));
    copy = λ telling. copies_more 65536 (65536 * (n + 1)) bytes (omega arith) (has.copy telling) long
        (took.bytes (has.accepted.telling ∙ telling)) piece_right;
  }

  pub copy_fails : (later : VaultState) (refusal : Refusal) → PutErrors n bytes now later refusal
      → CopyErrors included size old new vault later refusal
  copy_fails later (Output written) errors =
      let kept = errors.0 in let put = errors.2 in
      let within = put.within in
      let refused = put.refused in
      let so_far : vault.telling ≡ true → CopiesIf (IsOpen size old) included old.chip.bytes written vault later
      = λ telling. copies_more kept written (take kept bytes) (sym errors.1) (has.copy telling)
      (length-take-le kept bytes within) (put.bytes (has.accepted.telling ∙ telling))
      (λ is_open i small. get_or-take kept bytes i 0 small ∙ piece_right is_open i (omega arith)) in
      record {
        rested = has_only_read-all.rested;
        within = omega arith;
        took = record {
          refused = let was = has.accepted in grind arith;
          grows = λ telling. (so_far telling).grows;
        };
        replied = replies_more kept written (take kept bytes) (sym errors.1) (omega (arith, within, long))
            (length-take-le kept bytes within) (λ i small. get_or-take kept bytes i 0 small)
            (λ telling. put.bytes (has.accepted.telling ∙ telling));
        copy = λ is_open telling. copies_if (so_far telling) is_open;
      }
  copy_fails later _ put = absurd put
