use Rattle.std.proofs.Common.{◌≡◌, ◌∙◌, ◌<◌, ℕ, suc, false, List, [], ◌∷◌, ◌++◌, Option, refl, ap, inl, inr, arith}
use Rattle.std.proofs.Common.{drop, get_or, is_some, length, take}
use Rattle.std.proofs.lemmas.List.{take_at}
use Rattle.nor_files.specs.Files.{AreAtRest, Found, IsDurable, Name}
use Rattle.nor_files.specs.Memory.{files_state}
use Rattle.nor_files.specs.Named.{file_named, are_same_names, is_named}
use Rattle.nor_files.specs.Stored.{File, FileLoses, MayBe, MayLeave, file_in, content_found}
use Rattle.nor_files.specs.declared.stored.Step.{Step}
use Rattle.nor_files.specs.declared.stored.Stored.{Stored}

oldest_may_be : (later : List Step) (oldest : Step) (seen : Found)
    → MayBe (later ++ oldest ∷ []) seen (content_found oldest.before)
oldest_may_be [] oldest seen = inr (inl refl)
oldest_may_be (step ∷ later) oldest seen = inr (inl (oldest_may_be later oldest (content_found step.before)))

pub oldest_allowed : (old : Stored) (later : List Step) (oldest : Step)
    → old.unplaced ≡ false → old.steps.items ≡ later ++ oldest ∷ [] → is_some oldest.before ≡ is_some old.content
    → MayLeave (file_in old) (content_found oldest.before)
oldest_allowed old later oldest placed steps there =
    let may : MayBe old.steps.items (content_found old.content) (content_found oldest.before) =
    rw steps (oldest_may_be later oldest (content_found old.content)) in
    grind arith

record IsLost (was now : File) : Type 0 where
  allowed : MayLeave was now.seen
  file : now ≡ record { seen = now.seen; steps = []; unplaced = false; out = false }

all_lost : (old new : List Stored) (name : Name) → length new ≡ length old
    → ((k : ℕ) (d : Stored) → k < length old → FileLoses (get_or old k d) (get_or new k d))
    → IsLost (file_named old name) (file_named new name)
all_lost [] [] name many each = record { allowed = (refl, refl); file = refl }
all_lost [] (now ∷ new) name many each = absurd (omega (arith, many))
all_lost (was ∷ old) [] name many each = absurd (omega (arith, many))
all_lost (was ∷ old) (now ∷ new) name many each =
    let first : FileLoses was now = each 0 was (omega arith) in
    let names : is_named name now ≡ is_named name was = ap (λ its. are_same_names its.items name) first.name in
    let later = all_lost old new name (omega (arith, many)) (λ k d within. each (suc k) d (omega (arith, within))) in
    grind arith

-- Holds if `new` is what an interruption may leave of the files `old`, and a later host crash can't change `new`.
pub record AreLeft (old new : List Stored) (left : ℕ) (borrowed : Option Name) : Type 0 where
  pub at_rest : AreAtRest (files_state new left borrowed)
  pub allowed : (name : Name) → MayLeave (file_named old name) (file_named new name).seen
  pub durable : (name : Name) → IsDurable name (file_named new name).seen (files_state new left borrowed)

pub are_left : (old now : List Stored) {len left : ℕ} {borrowed : Option Name} → length now ≡ len → len ≡ length old
    → ((k : ℕ) (d : Stored) → k < length old → FileLoses (get_or old k d) (get_or now k d))
    → AreLeft old (take len (now ++ drop (length now) old)) left borrowed
are_left old now {len} whole kept each =
    let lost : (name : Name) → IsLost (file_named old name) (file_named now name) =
    λ name. all_lost old now name (whole ∙ kept) each in
    rw (take_at now (drop (length now) old) len whole) (record {
      at_rest = record { lawful = refl; in_store = λ name. ap (λ its. its.out) (lost name).file };
      allowed = λ name. (lost name).allowed;
      durable = λ name. let file = (lost name).file in grind arith;
    })
