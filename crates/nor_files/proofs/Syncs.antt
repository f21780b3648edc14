use Rattle.std.proofs.Common.{◌≡◌, ◌∙◌, [], Bool, true, false, List, ap, inl, inr, not, refl, sym}
use Rattle.std.specs.Cmp.Lexicographic.{same_text}
use Rattle.std.proofs.lemmas.Bool.{cases_Bool, false_from_ne_true, false≢true}
use Rattle.std.proofs.lemmas.Cmp.{nat_list_eq_equiv}
use Rattle.nor_files.specs.Files.{AreApart, Found, Name}
use Rattle.nor_files.specs.Memory.{memory_nature}
use Rattle.nor_files.specs.Named.{file_named, are_same_names}
use Rattle.nor_files.specs.Stored.{File, FilePlaces, FileSyncs, MayBe, MayLeave, OrMissing, file_in, seen_may_be}
use Rattle.nor_files.specs.declared.stored.Stored.{Stored}
use Rattle.nor_files.proofs.Places.{IsUpdated}

pub record FileStays (old new : File) : Type 0 where
  pub out : new.out ≡ old.out
  pub seen : new.seen ≡ old.seen
  pub leaves : (left : Found) → MayLeave new left → MayLeave old left

file_same : (file : File) → FileStays file file
file_same file = record { out = refl; seen = refl; leaves = λ left can. can }

or_missing : (unplaced : Bool) (May Might : Type 0) (seen left : Found) → (May → Might)
    → OrMissing unplaced May seen left → OrMissing unplaced Might seen left
or_missing true May Might seen left more (inl gone) = inl gone
or_missing true May Might seen left more (inr may) = inr (more may)
or_missing false May Might seen left more (there, may) = (there, more may)

placed_or : (unplaced : Bool) (May : Type 0) (seen left : Found) → OrMissing false May seen left
    → OrMissing unplaced May seen left
placed_or true May seen left (there, may) = inr may
placed_or false May seen left can = can

synced_stays : (old : File) → FileStays old (record old { steps = [] })
synced_stays old = record {
  out = refl;
  seen = refl;
  leaves = λ left can.
      or_missing old.unplaced (left ≡ old.seen) (MayBe old.steps old.seen left) old.seen left
      (λ is. rw is (seen_may_be old.steps old.seen)) can;
}

placed_stays : (old : File) → FileStays old (record old { unplaced = false })
placed_stays old = record {
  out = refl;
  seen = refl;
  leaves = λ left can. placed_or old.unplaced (MayBe old.steps old.seen left) old.seen left can;
}

apart_of : (name any : Name) → are_same_names name any ≡ false → AreApart memory_nature name any
apart_of name any differ = (
  ap not differ,
  ap not (false_from_ne_true (are_same_names any name) (λ is.
      let same : are_same_names name any ≡ true = rw (same_text any name (sym is)) (nat_list_eq_equiv.refl name) in
      false≢true (sym differ ∙ same))),
)

all_stay : {name : Name} {old new : List Stored} {was now : Stored} → IsUpdated name old new was now
    → FileStays (file_in was) (file_in now) → (any : Name) → FileStays (file_named old any) (file_named new any)
all_stay {name} {old} {new} is stays any = elim (cases_Bool (are_same_names name any)) [
  | inl same ↦ rw (← same_text name any (sym same), is.before, is.after) stays
  | inr differ ↦ rw (is.others any (apart_of name any differ)) (file_same (file_named old any))
]

module _ {name : Name} {old new : List Stored} {was now : Stored} (is : IsUpdated name old new was now) where
  pub all_synced : FileSyncs was now → (any : Name) → FileStays (file_named old any) (file_named new any)
  all_synced synced = all_stay is (rw synced.file (synced_stays (file_in was)))

  pub all_placed : FilePlaces was now → (any : Name) → FileStays (file_named old any) (file_named new any)
  all_placed placed = all_stay is (rw placed.file (placed_stays (file_in was)))
