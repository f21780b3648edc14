use Rattle.std.proofs.Common.{◌≡◌, ◌∙◌, ◌≤◌, ◌⊎◌, ℕ, List, Some, Result, Ok, refl, sym, ap, subst, arith, length, take}
use Rattle.std.proofs.Common.{option_map}
use Rattle.std.proofs.lemmas.List.{take_all}
use Rattle.std.proofs.lemmas.Grind.{common_steps}
use Rattle.nor_files.specs.Files.{Found}
use Rattle.nor_files.specs.Calls.{IsMixed, with_length, written_over}
use Rattle.nor_files.specs.Stored.{Becomes, FileSets, FileWrites, IsChanged, IsMixOf, MayBe, MayLeave, bytes_in}
use Rattle.nor_files.specs.Stored.{file_in, content_found, seen_may_be}
use Rattle.nor_files.specs.declared.stored.Change.{Change}
use Rattle.nor_files.specs.declared.stored.Change.TheVariants.{Cut}
use Rattle.nor_files.specs.declared.stored.Content.{Content}
use Rattle.nor_files.specs.declared.stored.Stored.{Stored}

becomes_more : (change : Change) (May Might : Found → Type 0) (left : Found)
    → ((bytes : List ℕ) → May (Some bytes) → Might (Some bytes)) → Becomes change May left → Becomes change Might left
becomes_more change May Might left more becomes = grind arith

file_leaves : (content : Content) (change : Change) (had : List ℕ) (old new : Stored)
    → IsChanged content change old new → content_found old.content ≡ Some had
    → Becomes change (MayBe old.steps.items (content_found old.content)) (Some (bytes_in content))
    → (left : Found) → MayLeave (file_in new) left
    → MayLeave (file_in old) left ⊎ Becomes change (MayLeave (file_in old)) left
file_leaves content change had old new is was becomes left may =
    let more = becomes_more change (MayBe old.steps.items (content_found old.content)) (MayLeave (file_in old)) left
    (λ bytes before. grind arith) in
    grind arith

pub mixed_over : (had bytes : List ℕ) (most : ℕ) → most ≤ length bytes → IsMixed had bytes (written_over (take most bytes) had)
mixed_over had bytes most within = grind (arith, common_steps)

pub file_writes : {T E : Type 0} {bytes had : List ℕ} {result : Result T E} {content : Content} {change : Change}
    {old new : Stored} (most : ℕ) → IsChanged content change old new → Some had ≡ content_found old.content
    → most ≤ length bytes → Becomes change ≡ IsMixOf bytes → bytes_in content ≡ written_over (take most bytes) had
    → ((any : T) → result ≡ Ok any → length bytes ≤ most)
    → FileWrites bytes result old new
file_writes {bytes} {had} {result} {content} {change} {old} {new} most is was within mixes has whole = record {
  name = is.name;
  out = ap (λ file. file.out) is.file;
  seen = λ any ok. ap (λ file. file.seen) is.file ∙ ap Some (rw (take_all most bytes (whole any ok)) at has)
      ∙ ap (option_map (written_over bytes)) was;
  leaves = λ left may.
      let mixed : IsMixed had bytes (bytes_in content) = rw has (mixed_over had bytes most within) in
      let before : MayBe old.steps.items (content_found old.content) (Some had) =
      rw was (seen_may_be old.steps.items (content_found old.content)) in
      let becomes = subst (λ (Of : (Found → Type 0) → Found → Type 0). Of (MayBe old.steps.items (content_found old.content))
      (Some (bytes_in content))) (sym mixes) (had, before, (bytes_in content, refl, mixed)) in
      subst (λ (Of : (Found → Type 0) → Found → Type 0). MayLeave (file_in old) left ⊎ Of (MayLeave (file_in old)) left)
      mixes (file_leaves content change had old new is (sym was) becomes left may);
}

pub file_sets : {T E : Type 0} {len : ℕ} {result : Result T E} {content : Content} {had : List ℕ} {old new : Stored}
    → IsChanged content (Cut len) old new → Some had ≡ content_found old.content → bytes_in content ≡ with_length len had
    → FileSets len result old new
file_sets {len} {content} {had} {old} {new} is was has =
    let before : MayBe old.steps.items (content_found old.content) (Some had) =
    rw was (seen_may_be old.steps.items (content_found old.content)) in
    let leaves = file_leaves content (Cut len) had old new is (sym was) (had, before, ap Some has) in
    grind arith
