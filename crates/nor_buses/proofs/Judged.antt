-- Lemmas: once a read of the ID over a well-behaved bus returned another value than FFFFFFh, a `KnownStatus2` knows the
-- chip if the chip's ID is one of `ids` or is `before`.
use Rattle.std.proofs.Common.{◌≡◌, ◌∙◌, ◌||◌, ◌&&◌, ℕ, Bool, true, false, Option, List, [], ◌∷◌, length, refl, sym, ap, subst, inl, inr, arith}
use Rattle.std.proofs.lemmas.Bool.{false≢true, and_parts, eqb-true}
use Rattle.nor_model.specs.declared.config.Config.{Config}
use Rattle.nor_model.specs.Chip.{Chip}
use Rattle.nor_model.specs.Step.{Step}
use Rattle.nor_model.specs.Bus.{BusState, SameNature, IsHonestFor, Carries}
use Rattle.nor_buses.specs.SomeChips.{chip_id}
use Rattle.nor_buses.specs.Listed.{is_listed_chip, shows_id, shows_known, IsKnownOnceRead, RepliesId}
use Rattle.nor_buses.proofs.Polls.{fits_short}
use Rattle.nor_buses.proofs.SomeChips.{id_replied}

pub judged_still : (ids : List (List ℕ)) (before : Option (List ℕ)) (has_id is_known is_known' : Bool)
    (old new : BusState) → IsKnownOnceRead ids before has_id is_known old → SameNature old new
    → (is_known ≡ true → is_known' ≡ true) → IsKnownOnceRead ids before has_id is_known' new
judged_still ids before has_id is_known is_known' old new judged nature keeps = record {
  known = λ has honest listed.
      let was : old.honest ≡ true = sym nature.honest ∙ honest in
      keeps (judged.known has was
      (subst (λ (config : Config). is_listed_chip ids before config ≡ true) (nature.config was) listed));
}

or_right : (a b : Bool) → b ≡ true → (a || b) ≡ true
or_right true b is = refl
or_right false b is = is

or_left : (a b : Bool) → a ≡ true → (a || b) ≡ true
or_left true b is = refl
or_left false b is = absurd (false≢true is)

or_parts : (a b : Bool) (P : Type 0) → (a || b) ≡ true → (a ≡ true → P) → (b ≡ true → P) → P
or_parts true b P is left right = left refl
or_parts false b P is left right = right is

known_by_id : (ids : List (List ℕ)) (before : Option (List ℕ)) (out reply : List ℕ) (config : Config)
    → shows_id out reply ≡ true → reply ≡ chip_id config → is_listed_chip ids before config ≡ true
    → shows_known ids before out reply ≡ true
known_by_id ids before [] reply config shows same listed = absurd (false≢true shows)
known_by_id ids before (opcode ∷ []) [] config shows same listed = absurd (false≢true shows)
known_by_id ids before (opcode ∷ []) (a ∷ []) config shows same listed = absurd (false≢true shows)
known_by_id ids before (opcode ∷ []) (a ∷ b ∷ []) config shows same listed = absurd (false≢true shows)
known_by_id ids before (opcode ∷ []) (a ∷ b ∷ c ∷ []) config shows same listed =
    ap (λ (is : Bool). is && shows_known ids before (0x9F ∷ []) (a ∷ b ∷ c ∷ [])) (and_parts _ _ shows).0
    ∙ ap (λ (id : List ℕ). shows_known ids before (0x9F ∷ []) id) same ∙ listed
known_by_id ids before (opcode ∷ []) (a ∷ b ∷ c ∷ d ∷ rest) config shows same listed = absurd (false≢true shows)
known_by_id ids before (opcode ∷ x ∷ rest) reply config shows same listed = absurd (false≢true shows)

pub judged_by : (ids : List (List ℕ)) (before : Option (List ℕ)) (has_id is_known : Bool) (out reply : List ℕ)
    (inside : BusState) → IsKnownOnceRead ids before has_id is_known inside → RepliesId out reply inside
    → IsKnownOnceRead ids before (has_id || shows_id out reply) (is_known || shows_known ids before out reply) inside
judged_by ids before has_id is_known out reply inside judged replies = record {
  known = λ has honest listed. or_parts has_id (shows_id out reply) _ has
      (λ had. or_left is_known _ (judged.known had honest listed))
      (λ shows. or_right is_known _
      (known_by_id ids before out reply inside.chip.config shows (replies.id honest shows) listed));
}

id_shown : (out reply : List ℕ) (old new : Chip) → shows_id out reply ≡ true → Step old out reply new
    → reply ≡ chip_id old.config
id_shown [] reply old new shows step = absurd (false≢true shows)
id_shown (opcode ∷ []) [] old new shows step = absurd (false≢true shows)
id_shown (opcode ∷ []) (a ∷ []) old new shows step = absurd (false≢true shows)
id_shown (opcode ∷ []) (a ∷ b ∷ []) old new shows step = absurd (false≢true shows)
id_shown (opcode ∷ []) (a ∷ b ∷ c ∷ []) old new shows step =
    let parts = and_parts _ _ shows in
    elim (id_replied (subst (λ (n : ℕ). Step old (n ∷ []) (a ∷ b ∷ c ∷ []) new) (eqb-true opcode 0x9F parts.0) step)) [
      | inl is ↦ is
      | inr is ↦ absurd (false≢true
          (ap (λ (id : List ℕ). shows_id (0x9F ∷ []) id) (sym is) ∙ parts.1))
    ]
id_shown (opcode ∷ []) (a ∷ b ∷ c ∷ d ∷ rest) old new shows step = absurd (false≢true shows)
id_shown (opcode ∷ x ∷ rest) reply old new shows step = absurd (false≢true shows)

shown_short : (out reply : List ℕ) → shows_id out reply ≡ true → (length out ≡ 1) × (length reply ≡ 3)
shown_short [] reply shows = absurd (false≢true shows)
shown_short (opcode ∷ []) [] shows = absurd (false≢true shows)
shown_short (opcode ∷ []) (a ∷ []) shows = absurd (false≢true shows)
shown_short (opcode ∷ []) (a ∷ b ∷ []) shows = absurd (false≢true shows)
shown_short (opcode ∷ []) (a ∷ b ∷ c ∷ []) shows = (refl, refl)
shown_short (opcode ∷ []) (a ∷ b ∷ c ∷ d ∷ rest) shows = absurd (false≢true shows)
shown_short (opcode ∷ x ∷ rest) reply shows = absurd (false≢true shows)

pub replies_id : (out reply : List ℕ) (n : ℕ) (old new : BusState) → n ≡ length reply → SameNature old new
    → (IsHonestFor out n old → Carries out reply old new) → RepliesId out reply new
replies_id out reply n old new same nature carries = record {
  id = λ honest shows.
      let was : old.honest ≡ true = sym nature.honest ∙ honest in
      let short = shown_short out reply shows in
      let fits = fits_short (omega (arith, short.0)) (omega (arith, short.1, same)) was in
      id_shown out reply old.chip new.chip shows (carries fits).step
      ∙ ap chip_id (sym (nature.config was));
}

pub listed_same : {ids ids' : List (List ℕ)} {before before' : Option (List ℕ)} {config config' : Config} → ids' ≡ ids
    → before' ≡ before → config' ≡ config → is_listed_chip ids' before' config' ≡ is_listed_chip ids before config
listed_same ids before config = λ i. is_listed_chip (ids i) (before i) (config i)
