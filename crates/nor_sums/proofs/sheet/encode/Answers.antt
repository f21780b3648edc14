use Rattle.std.proofs.Common.{◌≡◌, ◌++◌, ◌∙◌, List, Option, Result, Ok, Err, OnOk, ap, arith, codes, rules, take_all, ℕ}
use Rattle.std.specs.Bool.{if◌then◌else◌}
use Rattle.std.specs.List.{flat_map}
use Rattle.std.specs.Result.{is_ok}
use Rattle.sha2.specs.Sha256.{sha256}
use Rattle.nor_sums.specs.Sums.{sums_body, entry_text, sums_text}
use Rattle.nor_sums.proofs.sheet.encode.Goals as goal

appended : {T E : Type 0} (r : Result T E) (new old more wanted : List ℕ)
    → new ≡ (if is_ok r then old ++ more else old) → old ++ more ≡ wanted → OnOk r (new ≡ wanted)
appended (Ok done) new old more wanted is same = is ∙ same
appended (Err error) new old more wanted is same = tt

pub returns : goal.returns
unfolding sums_text sums_body
returns c =
    let all = take_all c.loop-sector.sector c.args.sums.now.entries.items (omega arith) in
    let whole = c.loop-sector.invariant
    ∙ ap (λ (xs : List (Option (List ℕ))). codes "NORSUMS1" ++ c.args.id ++ c.args.unique ++ flat_map entry_text xs) all in
    let digest : c.digest-digest.result ≡ sha256 c.loop-sector.out.items = search rules in
    appended c.extend_from_slice-4.result _ c.loop-sector.out.items c.digest-digest.result _
    c.extend_from_slice-4.ensures.items
    (ap (λ (d : List ℕ). c.loop-sector.out.items ++ d) digest ∙ ap (λ (b : List ℕ). b ++ sha256 b) whole)
