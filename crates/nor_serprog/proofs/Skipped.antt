-- If exactly the bytes `wanted` are pending (`IsPending`), `skip_past` receives all of them or the port fails.
use Rattle.std.proofs.Common.{◌≡◌, ◌≢◌, ◌∙◌, ◌+◌, ◌-◌, ◌<◌, ◌≤◌, inl, inr, true, ◌++◌, ℕ, suc, Bool, eqb, List, [], ◌∷◌, length, get_or, take, drop, refl, sym, ap, arith, append_assoc, length-append, length-drop, length-take-le}
use Rattle.std.specs.Prelude.{slice_index, replicate}
use Rattle.std.specs.Cmp.Lexicographic.{pointwise}
use Rattle.std.proofs.lemmas.Slice.Eq.{ends_is}
use Rattle.std.proofs.lemmas.Bool.{cases_eq}
use Rattle.std.proofs.lemmas.Bool.Decides.{Decides-eqb}
use Rattle.std.proofs.lemmas.List.{drop-drop, drop-append-le, get_or-drop, get_or_append_left, get_or-append_right, get_or-replicate}
use Rattle.std.proofs.Math.Seq.{take-suc, drop-cons, take-length, drop-length}
use Rattle.nor_serprog.specs.Device.{PortState, IsReceived, IsSilent}
use Rattle.std.specs.Prelude.{Err}
use Rattle.nor_serprog.specs.declared.link.Failure.{Failure}
use Rattle.nor_serprog.proofs.Replied.{power_then}
use Rattle.nor_serprog.specs.Replies.{AsksUnlessFew, IsPortFailure, OnlyAsks, IsPending}
use Rattle.nor_serprog.proofs.Exchanges.{UsesCalls, uses_none}

-- The last 25 of the bytes `received`, with zeros before them if there are fewer than 25.
abbrev pub window : (received : List ℕ) → List ℕ
window received = drop (length received) (replicate 25 0 ++ received)

pub record HasSkipped (wanted last : List ℕ) (count : ℕ) (old now : PortState) : Type 0 where
  pub shows : last ≡ window (take count wanted)
  pub pending : now.device.pending ≡ drop count wanted
  pub left : old.left ≡ now.left + count
  pub honest : now.honest ≡ true
  pub begun : now.device.begun ≡ []
  pub chip : now.device.chip ≡ old.device.chip
  pub worn : now.device.worn ≡ old.device.worn
  pub firmware : now.device.firmware ≡ old.device.firmware
  pub settings : now.device.settings ≡ old.device.settings

pub record Skips (wanted last : List ℕ) (count : ℕ) (old now : PortState) : Type 0 where
  pub uses : UsesCalls old now
  pub skips : IsPending wanted old → (count < length wanted) × HasSkipped wanted last count old now

pub skips_none : (wanted : List ℕ) (state : PortState) → Skips wanted (replicate 25 0) 0 state state
skips_none wanted state = record {
  uses = uses_none state;
  skips = λ p. (
    p.some,
    record {
      shows = refl;
      pending = p.pending;
      left = omega arith;
      honest = p.honest;
      begun = p.begun;
      chip = refl;
      worn = refl;
      firmware = refl;
      settings = refl;
    },
  );
}

more : (zeros received : List ℕ) (byte : ℕ) → 0 < length zeros
    → drop 1 (drop (length received) (zeros ++ received)) ++ byte ∷ []
    ≡ drop (length (received ++ byte ∷ [])) (zeros ++ (received ++ byte ∷ []))
more zeros received byte some =
    ap (λ (l : List ℕ). l ++ byte ∷ []) (drop-drop 1 (length received) (zeros ++ received))
    ∙ sym (drop-append-le (length received + 1) (zeros ++ received) (byte ∷ [])
    (omega (arith, length-append zeros received)))
    ∙ ap (λ (l : List ℕ). drop (length received + 1) l) (simp append_assoc)
    ∙ ap (λ (n : ℕ). drop n (zeros ++ (received ++ byte ∷ []))) (sym (length-append received (byte ∷ [])))

too_early : (zeros received wanted front : List ℕ) → ((i : ℕ) → i < length zeros → get_or zeros i 0 ≡ 0)
    → length received < length wanted → length wanted ≤ length zeros → slice_index wanted 0 ≢ 0
    → drop (length received) (zeros ++ received) ≡ front ++ wanted → ⊥
too_early zeros received wanted front are_zero some_left few first ends =
    let len : length front + length wanted ≡ length zeros =
    omega (
      arith,
      ap length ends,
      length-append front wanted,
      length-append zeros received,
      length-drop (length received) (zeros ++ received),
    ) in
    let at : get_or (drop (length received) (zeros ++ received)) (length front) 0 ≡ 0 =
    get_or-drop (length received) (zeros ++ received) (length front) 0
    ∙ get_or_append_left zeros received 0 (length received + length front) (omega (arith, len))
    ∙ are_zero (length received + length front) (omega (arith, len)) in
    let there : get_or (front ++ wanted) (length front) 0 ≡ get_or wanted 0 0 =
    get_or-append_right front wanted (length front) (length front) 0 refl (omega arith)
    ∙ ap (λ (n : ℕ). get_or wanted n 0) (omega arith) in
    first (sym there ∙ sym (ap (λ (l : List ℕ). get_or l (length front) 0) ends) ∙ at)

pub received_more : (wanted last last' : List ℕ) (count byte : ℕ) (old now new : PortState)
    → count < length wanted → HasSkipped wanted last count old now → IsReceived (byte ∷ []) now new
    → new.honest ≡ now.honest → last' ≡ drop 1 last ++ byte ∷ [] → HasSkipped wanted last' (count + 1) old new
received_more wanted last last' count byte old now new some_left s r honest shifted =
    let e : byte ∷ new.device.pending ≡ get_or wanted count 0 ∷ drop (suc count) wanted =
    sym r.pending ∙ s.pending ∙ drop-cons wanted count 0 some_left in
    let same : byte ≡ get_or wanted count 0 = cc in
    let rest : new.device.pending ≡ drop (suc count) wanted = cc in
    let step : suc count ≡ count + 1 = omega arith in
    let taken : take count wanted ++ byte ∷ [] ≡ take (count + 1) wanted =
    ap (λ (b : ℕ). take count wanted ++ b ∷ []) same ∙ sym (take-suc wanted count 0 some_left)
    ∙ ap (λ (n : ℕ). take n wanted) step in
    record {
      shows = shifted ∙ ap (λ (l : List ℕ). drop 1 l ++ byte ∷ []) s.shows
          ∙ more (replicate 25 0) (take count wanted) byte (omega arith) ∙ ap window taken;
      pending = rest ∙ ap (λ (n : ℕ). drop n wanted) step;
      left = omega (arith, s.left, r.left);
      honest = honest ∙ s.honest;
      begun = r.begun ∙ s.begun;
      chip = r.chip ∙ s.chip;
      worn = r.worn ∙ s.worn;
      firmware = r.firmware ∙ s.firmware;
      settings = r.settings ∙ s.settings;
    }

zeros_are_zero : (i : ℕ) → i < length (replicate {A = ℕ} 25 0) → get_or (replicate {A = ℕ} 25 0) i 0 ≡ 0
zeros_are_zero i within = get_or-replicate 25 i 0 0 (omega arith)

pub all_received : (wanted last : List ℕ) (count : ℕ) (old now : PortState) (ends : Bool) → IsPending wanted old
    → count ≤ length wanted → HasSkipped wanted last count old now
    → ends ≡ pointwise eqb wanted (drop (length last - length wanted) last) → ends ≡ true → count ≡ length wanted
all_received wanted last count old now ends p within s value is_true =
    elim (cases_eq count (length wanted)) [
      | inl same ↦ same
      | inr differ ↦
          let less : count < length wanted = omega (arith, within, differ) in
          let front = (ends_is Decides-eqb last wanted ends value).0 is_true in
          let len : length (take count wanted) ≡ count = length-take-le count wanted within in
          absurd (too_early (replicate 25 0) (take count wanted) wanted _ zeros_are_zero (omega (arith, len, less))
          (omega (arith, p.few)) p.first (sym s.shows ∙ front))
    ]

pub ends_if_all : (wanted last : List ℕ) (count : ℕ) (old now : PortState) (ends : Bool) → IsPending wanted old
    → HasSkipped wanted last count old now → count ≡ length wanted
    → ends ≡ pointwise eqb wanted (drop (length last - length wanted) last) → ends ≡ true
ends_if_all wanted last count old now ends p s all value =
    (ends_is Decides-eqb last wanted ends value).1 (drop (length wanted) (replicate 25 0))
    (s.shows ∙ ap window (ap (λ (n : ℕ). take n wanted) all ∙ take-length wanted)
    ∙ drop-append-le (length wanted) (replicate 25 0) wanted (omega (arith, p.few)))

pub skipped : (wanted last : List ℕ) (count : ℕ) (old now : PortState)
    → HasSkipped wanted last count old now → count ≡ length wanted → OnlyAsks (length wanted) old now
skipped wanted last count old now s all = record {
  left = omega (arith, s.left, all);
  awaits = record {
    honest = s.honest;
    idle = record {
      begun = s.begun;
      pending = s.pending ∙ ap (λ (n : ℕ). drop n wanted) all ∙ drop-length wanted;
    };
  };
  chip = s.chip;
  worn = s.worn;
  firmware = s.firmware;
  settings = s.settings;
}

pub skips_err : {C : Type 0} (wanted last : List ℕ) (count : ℕ) (failure : Failure C) (old now new : PortState)
    → count < length wanted → HasSkipped wanted last count old now → IsSilent 1 now new → IsPortFailure failure
    → AsksUnlessFew (length wanted) (Err failure) old new
skips_err wanted last count failure old now new some_left s silent failed =
    let some : 1 ≤ length now.device.pending =
    omega (arith, ap length s.pending, length-drop count wanted, some_left) in
    record {
      done = tt;
      few_left = (failed, omega (arith, s.left, silent.none_left some, some_left));
      power = power_then old.device now.device new.device s.chip s.worn silent.power;
    }
