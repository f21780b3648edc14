use Rattle.std.proofs.Common.{◌≡◌, ◌∙◌, ◌-◌, ◌≤◌, ℕ, ap, drop, length, refl, subst, sym, rules, arith, false}
use Rattle.std.proofs.lemmas.List.{take_rest}
use Rattle.nor_geometry.specs.Size.{is_chip_size}
use Rattle.nor_journal.specs.Number.{number_at}
use Rattle.nor_journal.proofs.Heads.{splits, unique_read}
use Rattle.nor_journal.proofs.head.read_form.Goals as goal

pub returns-clause-found : goal.returns-clause-found
returns-clause-found c =
    let unique = rw (← c.ok.ensures.value) at (unique_read _ c.try_from.result c.try_from.ensures.1) in
    let split = splits c.requires.0 c.args.len c.args.bytes.now c.ok.result (λ i. omega (arith, c.type_inv.bytes i)) c.requires.1 c.requires.2 c.if-bytes-len.false unique in
    let number = take_rest c.args.bytes.now (c.args.len - 4) in
    (record { id = refl; unique = split.0; status = refl; size = search rules }, rw (take_rest c.args.bytes.now c.args.len, c.number_of-size.ensures, number) split.1)

pub returns-then-not-is_chip_size-clause-fault : goal.returns-then-not-is_chip_size-clause-fault
returns-then-not-is_chip_size-clause-fault c =
    let number : c.number_of-size.result ≡ number_at (drop (c.args.len - 4) c.args.bytes.now) =
    c.number_of-size.ensures ∙ ap number_at (take_rest c.args.bytes.now (c.args.len - 4)) in
    let wrong : is_chip_size c.number_of-size.result ≡ false =
    sym c.is_chip_size.ensures ∙ c.if-not-is_chip_size.true in
    let whole = subst (λ (n : ℕ). n ≤ length c.args.bytes.now) c.requires.2 c.if-bytes-len.false in
    (c.requires.0, c.requires.1, whole, rw (← c.requires.2, ← number) wrong)
