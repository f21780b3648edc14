-- Lemmas on two frames of O_SPIOP in one call of the port.
use Rattle.std.proofs.Common.{◌≡◌, ◌∙◌, ◌++◌, ◌⊎◌, ◌≤◌, ◌<◌, ℕ, List, Option, [], ◌∷◌, length, take, drop, refl, sym, ap, subst, arith, length-append}
use Rattle.std.specs.Prelude.{Some, None, slice_index, unwrap_or}
use Rattle.std.specs.List.{IsSplitAt}
use Rattle.std.proofs.lemmas.List.{take-append-drop}
use Rattle.std.proofs.Math.Seq.{take-append_seam, drop-append_seam}
use Rattle.std.proofs.lemmas.Option.{none-some}
use Rattle.nor_serprog.specs.Device.{Device, CompletesBoth, CompletesOperation, OperatesBoth, CutsSecond, IsCut, StepsOnce}
use Rattle.nor_serprog.specs.Firmware.{Firmware, buffer_at}
use Rattle.nor_serprog.specs.Frame.{IsFrame, frame_len, long_len, out_in}
use Rattle.serprog_session.specs.SimPort.{simulated_firmware, IsOneFrame, AreOperations, ArePair}

short_frame : (opcode : ℕ) (rest : List ℕ) → long_len rest ≡ None → IsOneFrame (opcode ∷ rest) → ⊥
short_frame opcode rest none is =
    let P : ℕ → Type 0 = λ o. frame_len (o ∷ rest) ≡ Some (length (opcode ∷ rest)) in
    none-some _ (sym none ∙ subst P is.1 is.0)

pub len_before : (first second : List ℕ) → IsOneFrame first → frame_len (first ++ second) ≡ Some (length first)
len_before [] second is = absurd (let zero : ⊥ = omega (arith, is.1) in zero)
len_before (opcode ∷ []) second is = absurd (short_frame opcode [] refl is)
len_before (opcode ∷ a ∷ []) second is = absurd (short_frame opcode (a ∷ []) refl is)
len_before (opcode ∷ a ∷ b ∷ []) second is = absurd (short_frame opcode (a ∷ b ∷ []) refl is)
len_before (opcode ∷ a ∷ b ∷ c ∷ rest) second is = is.0

unwrapped : (n m : ℕ) → Some n ≡ Some m → n ≡ m
unwrapped n m same = ap (λ (o : Option ℕ). unwrap_or o 0) same

some_bytes : (frame : List ℕ) → IsOneFrame frame → 0 < length frame
some_bytes [] is = omega (arith, is.1)
some_bytes (opcode ∷ rest) is = omega arith

pub not_one : (first second bytes : List ℕ) → bytes ≡ first ++ second → IsOneFrame first → IsOneFrame second
    → IsFrame bytes → ⊥
not_one first second bytes is former latter whole =
    let same = unwrapped _ _ (sym whole ∙ ap frame_len is ∙ len_before first second former) in
    omega (arith, same, ap length is, length-append first second, some_bytes second latter)

first_opcode : (first second : List ℕ) → IsOneFrame first → slice_index (first ++ second) 0 ≡ 0x13
first_opcode [] second is = omega (arith, is.1)
first_opcode (opcode ∷ rest) second is = is.1

pub pair_opcode : (first second bytes : List ℕ) → ArePair first second bytes → slice_index bytes 0 ≡ 0x13
pair_opcode first second bytes pair =
    ap (λ (b : List ℕ). slice_index b 0) pair.is ∙ first_opcode first second pair.operations.former

pub pair_not_one : (first second bytes : List ℕ) (device : Device) → ArePair first second bytes
    → device.begun ≡ [] → CompletesOperation bytes device → ⊥
pair_not_one first second bytes device pair none whole =
    let P : List ℕ → Type 0 = λ b. IsFrame (b ++ bytes) in
    not_one first second bytes pair.is pair.operations.former pair.operations.latter (subst P none whole.whole)

pub both_not_one : (first second bytes : List ℕ) (device : Device) → CompletesBoth first second bytes device
    → IsFrame bytes → ⊥
both_not_one first second bytes device both whole =
    not_one first second bytes both.is (both.whole, both.opcode) (both.second_whole, both.second_opcode) whole

pub is_pair : (first second bytes : List ℕ) (device : Device) → device.firmware ≡ simulated_firmware
    → CompletesBoth first second bytes device → ArePair first second bytes
is_pair first second bytes device known both = record {
  is = both.is;
  operations = record {
    former = (both.whole, both.opcode);
    unanswered = both.unanswered;
    latter = (both.second_whole, both.second_opcode);
  };
  fits = omega (arith, both.fits, ap (λ (f : Firmware). buffer_at f) known);
}

pub never_both : (bytes : List ℕ) (device : Device) → device.firmware ≡ simulated_firmware
    → ((first second : List ℕ) → ArePair first second bytes → ⊥) → (first second : List ℕ)
    → CompletesBoth first second bytes device → ⊥
never_both bytes device known none first second both = none first second (is_pair first second bytes device known both)

lens_same : (first second bytes front back : List ℕ) → ArePair first second bytes → ArePair front back bytes
    → length first ≡ length front
lens_same first second bytes front back pair other =
    unwrapped _ _
    (sym (len_before first second pair.operations.former) ∙ ap frame_len (sym pair.is ∙ other.is)
    ∙ len_before front back other.operations.former)

first_same : (first second bytes front back : List ℕ) → ArePair first second bytes → ArePair front back bytes
    → first ≡ front
first_same first second bytes front back pair other =
    sym (take-append_seam first second) ∙ ap (λ (n : ℕ). take n (first ++ second)) (lens_same _ _ _ _ _ pair other)
    ∙ ap (λ (b : List ℕ). take (length front) b) (sym pair.is ∙ other.is) ∙ take-append_seam front back

second_same : (first second bytes front back : List ℕ) → ArePair first second bytes → ArePair front back bytes
    → second ≡ back
second_same first second bytes front back pair other =
    sym (drop-append_seam first second) ∙ ap (λ (n : ℕ). drop n (first ++ second)) (lens_same _ _ _ _ _ pair other)
    ∙ ap (λ (b : List ℕ). drop (length front) b) (sym pair.is ∙ other.is) ∙ drop-append_seam front back

-- If `P` holds for a pair of frames (`ArePair`), it holds for any pair of frames with the same bytes.
for_both : (P : (first second : List ℕ) → Type 0) (first second bytes front back : List ℕ)
    → ArePair first second bytes → ArePair front back bytes → P first second → P front back
for_both P first second bytes front back pair other holds =
    let one : P front second = subst (λ (f : List ℕ). P f second) (first_same _ _ _ _ _ pair other) holds in
    subst (λ (s : List ℕ). P front s) (second_same _ _ _ _ _ pair other) one

pub both_operated : (first second bytes front back : List ℕ) (old new : Device) → ArePair first second bytes
    → ArePair front back bytes → OperatesBoth first second old new → OperatesBoth front back old new
both_operated first second bytes front back old new =
    for_both (λ f s. OperatesBoth f s old new) first second bytes front back

pub both_cut : (first second bytes front back : List ℕ) (old new : Device) → ArePair first second bytes
    → ArePair front back bytes → IsCut (out_in first) old new ⊎ CutsSecond first second old new
    → IsCut (out_in front) old new ⊎ CutsSecond front back old new
both_cut first second bytes front back old new =
    for_both (λ f s. IsCut (out_in f) old new ⊎ CutsSecond f s old new) first second bytes front back

pub stepped : (out sent answer : List ℕ) (old new : Device) → out ≡ sent → StepsOnce out answer old new
    → StepsOnce sent answer old new
stepped out sent answer old new same steps = subst (λ (o : List ℕ). StepsOnce o answer old new) same steps

pub was_cut : (out sent : List ℕ) (old new : Device) → out ≡ sent → IsCut out old new → IsCut sent old new
was_cut out sent old new same cut = subst (λ (o : List ℕ). IsCut o old new) same cut

split_len : (first second bytes : List ℕ) (len : ℕ) → len ≡ unwrap_or (frame_len bytes) 18446744073709551615
    → ArePair first second bytes → len ≡ length first
split_len first second bytes len is pair =
    is ∙ ap (λ (o : Option ℕ). unwrap_or o 18446744073709551615)
    (ap frame_len pair.is ∙ len_before first second pair.operations.former)

pub no_pair : (bytes : List ℕ) (len : ℕ) → len ≡ unwrap_or (frame_len bytes) 18446744073709551615
    → length bytes < len → (first second : List ℕ) → ArePair first second bytes → ⊥
no_pair bytes len is short first second pair =
    omega (arith, split_len _ _ _ _ is pair, short, ap length pair.is, length-append first second)

pub other_split : (bytes front back : List ℕ) (len : ℕ) → len ≡ unwrap_or (frame_len bytes) 18446744073709551615
    → IsSplitAt bytes len front back → (AreOperations front back → ⊥) → (first second : List ℕ)
    → ArePair first second bytes → ⊥
other_split bytes front back len is split not first second pair =
    let same = split_len _ _ _ _ is pair in
    let front_is : first ≡ front =
    sym (split.1 ∙ ap (λ (n : ℕ). take n bytes) same ∙ ap (λ (b : List ℕ). take (length first) b) pair.is
    ∙ take-append_seam first second) in
    let back_is : second ≡ back =
    sym (split.2 ∙ ap (λ (n : ℕ). drop n bytes) same ∙ ap (λ (b : List ℕ). drop (length first) b) pair.is
    ∙ drop-append_seam first second) in
    let one : AreOperations front second = subst (λ (f : List ℕ). AreOperations f second) front_is pair.operations in
    not (subst (λ (s : List ℕ). AreOperations front s) back_is one)

pub split_pair : (bytes front back : List ℕ) (len : ℕ) → IsSplitAt bytes len front back → AreOperations front back
    → length bytes ≤ 512 → ArePair front back bytes
split_pair bytes front back len split are fits = record {
  is = sym (ap (λ (f : List ℕ). f ++ back) split.1 ∙ ap (λ (b : List ℕ). take len bytes ++ b) split.2
      ∙ take-append-drop len bytes);
  operations = are;
  fits = fits;
}

pub two_replies : (none reply : List ℕ) → length none ≡ 0 → 0x06 ∷ 0x06 ∷ reply ≡ (0x06 ∷ none) ++ 0x06 ∷ reply
two_replies [] reply is = refl
two_replies (x ∷ rest) reply is = absurd (let none : ⊥ = omega (arith, is) in none)
