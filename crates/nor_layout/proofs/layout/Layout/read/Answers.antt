use Rattle.std.proofs.Common.{◌≡◌, ◌+◌, Ok, Err, eqb, length, refl, sym, rules, tests, arith, ◌∙◌, ap, [], ◌∷◌, ◌++◌}
use Rattle.std.proofs.Common.{drop, map, suc, List, Option, Some}
use Rattle.std.proofs.lemmas.Iterator.Consumers.{YieldsList-at, YieldsList-turn, YieldsList-end, YieldsList-so_far}
use Rattle.std.proofs.lemmas.Iterator.Splits.{YieldsList-from_slice_split}
use Rattle.std.proofs.lemmas.List.{length_push, length-append, length-map, map-append}
use Rattle.std.proofs.lemmas.Result.{err_from_is_err_and}
use Rattle.std.proofs.Math.Seq.{split_at}
use Rattle.std.specs.Iterator.{Yields}
use Rattle.std.proofs.lemmas.Iterator.{YieldsList}
use Rattle.nor_layout.specs.Text.{lines_of}
use Rattle.nor_layout.proofs.Texts.{with_line-keeps, layout_says-found, reads_taken, length-lines_of, no_regions}
use Rattle.nor_layout.proofs.Texts.{define_all, define_more, reads_fault}
use Rattle.nor_layout.proofs.layout.Layout.read.Goals as goal
use Rattle.nor_layout.proofs.layout.Layout.read.Goals.{In-Some}

all_are : {S A B : Type 0} {steps : S → Option A → S → Type 0} {v : A → B} {s : S} {all : List B}
    → YieldsList steps v s all → (xs : List A) (t : S) → Yields steps s xs t → (r : Option A) (u : S) (x : A)
    → r ≡ Some x → steps t r u → all ≡ map v xs ++ v x ∷ drop (suc (length xs)) all
all_are {v} {all} yields xs t so_far r u x is step =
    let here = YieldsList-turn yields xs t so_far r u x is step in
    rw (← here.1, ← YieldsList-so_far yields xs t so_far) at (split_at all (length xs) (v x) here.0)

lines_are : (c : In-Some) → lines_of c.args.text.now ≡ map (λ line. line.now) c.loop-line.yielded
    ++ c.in-Some.line.now ∷ drop (suc (length c.loop-line.yielded)) (lines_of c.args.text.now)
lines_are c =
    let split = c.split-line-items.ensures in
    all_are (YieldsList-at c.into_iter-line-iterator.ensures.into_iter_gives
    (YieldsList-from_slice_split _ (λ b. eqb b 10) c.args.text.now split.rest split.done split.closure
    (λ x b q k. search (rules, tests))))
    c.loop-line.yielded _ c.loop-line.yielded_by _ _ c.in-Some.line c.in-Some.is c.next.ensures.steps

pub overflow_add-number : goal.overflow_add-number
overflow_add-number c =
    let are = simp (length-append, length-map) at (ap length (lines_are (goal.at.overflow_add-number c).In-Some)) in
    let most = length-lines_of c.args.text.now in
    omega arith

pub loop-line-init : goal.loop-line-init
loop-line-init c =
    rw c.new-regions.ensures.items (record { counted = refl; kept = no_regions; read = λ after. refl })

pub loop-line-preserved : goal.loop-line-preserved
loop-line-preserved c =
    let now = c.loop-line in
    let regions = now.regions.items in
    let more = c.add_line.new.regions.items in
    let line = c.in-Some.line.now in
    let added = c.in_ok-add_line.ensures in
    record {
      counted = rw now.invariant.counted (sym (length_push now.yielded c.in-Some.line));
      kept = with_line-keeps regions more (now.number + 1) line now.invariant.kept added;
      read = rw (map-append (λ line. line.now) now.yielded (c.in-Some.line ∷ []))
          (define_more _ now.number line regions now.invariant.read more added);
    }

pub returns-in_err-add_line : goal.returns-in_err-add_line
returns-in_err-add_line c =
    let now = c.loop-line in
    let same = err_from_is_err_and c.from_residual.result c.from_residual.ensures.1 in
    let fault = c.in_err-add_line.field-0.0 in
    let reads = reads_fault _ now.number c.in-Some.line.now now.regions.items now.invariant.read c.args.text.now _
    (lines_are (goal.at.returns-in_err-add_line c).In-Some)
    (length-map now.yielded (λ line. line.now) ∙ sym now.invariant.counted)
    c.add_line.new.regions.items fault now.invariant.kept c.in_err-add_line.ensures in
    rw (same.1, same.2) (record {
      exact = reads.0;
      asks = reads.1;
      found = tt;
      taken = reads_taken c.args.text.now (Err fault) reads.0;
    })

pub returns : goal.returns
returns c =
    let split = c.split-line-items.ensures in
    let end = YieldsList-end (YieldsList-at c.into_iter-line-iterator.ensures.into_iter_gives
    (YieldsList-from_slice_split _ (λ b. eqb b 10) c.args.text.now split.rest split.done split.closure
    (λ x b q k. search (rules, tests))))
    c.loop-line.yielded _ c.loop-line.yielded_by _ _ c.in-None.is c.next.ensures.steps in
    let regions = c.loop-line.regions.items in
    let exact = define_all c.args.text.now _ c.loop-line.number regions end.0 c.loop-line.invariant.read in
    record { exact = exact; asks = tt; found = layout_says-found c.args.text.now regions exact; taken = reads_taken c.args.text.now (Ok regions) exact }
