use Rattle.std.proofs.Common.{ℕ, ◌≡◌, ◌<◌, ◌≤◌, ◌+◌, ◌-◌, Bool, true, length, refl, sym, ap, ◌∙◌, arith}
use Rattle.std.specs.List.{range_with_len}
use Rattle.std.proofs.lemmas.Bool.{both_ways, false_from_ne_true}
use Rattle.std.proofs.lemmas.List.Sums.{length-filter}
use Rattle.nor_plan.specs.declared.set.SectorSet.{SectorSet}
use Rattle.nor_plan.specs.SectorSet.{has, members_from, member_count, LiesBelow}
use Rattle.nor_geometry.specs.Below.{count_below}
use Rattle.nor_geometry.proofs.Counting.{count_below-add, count_below-none}
use Rattle.nor_plan.proofs.Words.{none_past}

pub has-small : (set : SectorSet) → length set.words ≡ 64 → LiesBelow set 4096
has-small set long s member =
    let small : ¬ (4096 ≤ s) = λ past. both_ways _ (none_past set long s past) member in omega arith

count_past : (test : ℕ → Bool) (end more : ℕ) → ((s : ℕ) → test s ≡ true → s < end)
    → count_below (end + more) test ≡ count_below end test
count_past test end more below =
    let none = count_below-none more (λ i. test (end + i)) (λ i _. false_from_ne_true _ (λ passes.
    let inside = below (end + i) passes in omega arith)) in
    omega (arith, count_below-add end more test, none)

length-members-counted : (set : SectorSet) → length set.words ≡ 64 → (from most end : ℕ) → from ≡ 0 → most ≡ 4096
    → LiesBelow set end → length (members_from set from) ≡ count_below end (has set)
unfolding members_from count_below
length-members-counted set long from most end start all below =
    let places : 4096 - from ≡ most = omega arith in
    let swap : most + end ≡ end + most = omega arith in
    length-filter (has set) (range_with_len from (4096 - from))
    ∙ rw (places, start) (sym (count_past (has set) most end (rw all (has-small set long))))
    ∙ ap (λ n. count_below n (has set)) swap ∙ count_past (has set) end most below

pub member_count-is : (set : SectorSet) → length set.words ≡ 64 → (end : ℕ) → LiesBelow set end
    → member_count set ≡ count_below end (has set)
member_count-is set long end below = length-members-counted set long 0 4096 end refl refl below
