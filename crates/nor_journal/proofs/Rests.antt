-- Lemmas for the handwritten proofs of `into_result`, `start` and `sector`: the result of a function determines the
-- final state of a vault that the function borrows. Rattle doesn't prove this if the vault's type is a parameter.
use mathlib.Core.Path.{◌≡◌, refl}
use mathlib.Core.Logic.{inl, inr}
use mathlib.Core.Option.{Option, some, none}
use mathlib.Core.List.{List, [], ◌∷◌}
use seplogic.Ra.Ura.{Ura}
use mir.Syntax.{Body, seq}
use mir.Val.{Val, vcons, vnil}
use base.Logic.{ent, emp}
use base.Fml.{GName, fres}
use types.Logic.{Logic, sem}
use types.Kit.{‵, ◌$◌, ◌∵◌, !, qed, move, use0, fjoin, feq_i, fpick, fpack, done}
use types.Match.{live}
use denote.RattleType.{RattleType, Valss, owns}
use denote.Follow.{follows, follows_by, follows_so, such_by}
use denote.Steps.{nothing}
use denote.Struct.Field.{Field, rows, row_field}
use denote.Enum.Row.{tagged_with}
use denote.Enum.Enum.{form_of, in_a_row, payload}
use denote.Enum.Declared.{Declared, rowss, shape}
use borrow.Follows.Kept.{follows_itself}
use Rattle.nor_journal.specs.declared.writer.Attempt.{Attempt}
use Rattle.nor_journal.specs.declared.writer.Attempt.TheVariants as attempt
use Rattle.nor_journal.specs.Writer.{vault_of, lent_by, outcome_of}
use Rattle.std.specs.contracts.result.Result as result
use Rattle.std.specs.Prelude.{Result, Ok, Err, OnErr, IfOk}

module _ {M : Type 1} {𝓤 : Ura M} (𝓛 : Logic 𝓤) (R : RattleType) (γ : GName) (v : R.Denot)
    (P : R.Denot → R.Denot → Type 0) (Q : R.Denot → Type 0) (q : Q v) where
  -- How the final value of a borrowed reference depends on the result. If the result holds a reference with the last
  -- value w, the final value is `s.0 w`; otherwise it is `s.1`.
  abbrev How : Type 0
  How = (s : (R.Denot → R.Denot) × R.Denot) × ((w : R.Denot) → P w (s.0 w)) × Q s.1

  pub rests_held : ((w : R.Denot) → P w w) → ent 𝓤 (emp 𝓤) (sem 𝓛 (follows_so R R γ (some γ) P Q))
  unfolding such_by follows_by
  rests_held p =
      qed 𝓛 [] ∵ use0 𝓛 (‵ (follows R R γ γ (λ w. w))) (follows_itself 𝓛 R γ) $
      fpack ! How (λ s. follows_by R.Denot R.Denot R.coded.code R.coded.code γ (some γ) s.0.0 s.0.1)
      (((λ w. w), v), p, q) $ done !

  pub rests_said : ((w : R.Denot) → P w v)
      → ent 𝓤 (sem 𝓛 (fres γ (R.coded.code v))) (sem 𝓛 (follows_so R R γ none P Q))
  unfolding such_by follows_by
  rests_said p =
      qed 𝓛 (‵ (fres γ (R.coded.code v)) ∷ []) ∵
      fpack ! How (λ s. follows_by R.Denot R.Denot R.coded.code R.coded.code γ none s.0.0 s.0.1)
      (((λ _. v), v), p, q) $ done !

module _ {M : Type 1} {𝓤 : Ura M} (𝓛 : Logic 𝓤) (R : RattleType) (γ : GName) (m : Option GName)
    (P : R.Denot → R.Denot → Type 0) (Q Q' : R.Denot → Type 0) where
  pub rests_more : ((n : R.Denot) → Q n → Q' n)
      → ent 𝓤 (sem 𝓛 (follows_so R R γ m P Q)) (sem 𝓛 (follows_so R R γ m P Q'))
  unfolding such_by
  rests_more more =
      qed 𝓛 (‵ (follows_so R R γ m P Q) ∷ []) ∵ fpick ! (λ how.
      fpack ! ((s : (R.Denot → R.Denot) × R.Denot) × ((w : R.Denot) → P w (s.0 w)) × Q' s.1)
      (λ s. follows_by R.Denot R.Denot R.coded.code R.coded.code γ m s.0.0 s.0.1)
      (how.0, how.1, more how.0.1 how.2) $ done !)

module _ {M : Type 1} {𝓤 : Ura M} (𝓛 : Logic 𝓤) (A E : RattleType) (w : Val) where
  abbrev N : Declared
  N = result.the_type A E

  abbrev fields : RattleType → List Field
  fields R = row_field R ∷ []

  pub ok_owns : (x : A.Denot) → ent 𝓤 (sem 𝓛 (A.own_val x (w ∷ []))) (sem 𝓛 ((result.the_row A E).own_val (Ok x) (live 0 (vcons w vnil) ∷ [])))
  ok_owns x =
      qed 𝓛 (‵ (A.own_val x (w ∷ [])) ∷ []) ∵ nothing ! $ move ! (1 ∷ 0 ∷ []) $ fjoin ! $
      feq_i ! (List Val) (w ∷ []) (w ∷ []) refl $ fjoin ! $
      fpack ! (Valss (rows (fields A))) (in_a_row (rows (fields A)) (owns (rows (fields A)) (x, tt)) (w ∷ [])) ((w ∷ []), tt) $
      feq_i ! (List Val) (live 0 (vcons w vnil) ∷ []) (live 0 (vcons w vnil) ∷ []) refl $ fjoin ! $
      fpack ! (List Val) (tagged_with (form_of (shape N)) (payload (rowss N.parts)) (inl (x, tt)) (live 0 (vcons w vnil) ∷ [])) (w ∷ []) $ done !

  pub err_owns : (x : E.Denot) → ent 𝓤 (sem 𝓛 (E.own_val x (w ∷ []))) (sem 𝓛 ((result.the_row A E).own_val (Err x) (live 1 (vcons w vnil) ∷ [])))
  err_owns x =
      qed 𝓛 (‵ (E.own_val x (w ∷ [])) ∷ []) ∵ nothing ! $ move ! (1 ∷ 0 ∷ []) $ fjoin ! $
      feq_i ! (List Val) (w ∷ []) (w ∷ []) refl $ fjoin ! $
      fpack ! (Valss (rows (fields E))) (in_a_row (rows (fields E)) (owns (rows (fields E)) (x, tt)) (w ∷ [])) ((w ∷ []), tt) $
      feq_i ! (List Val) (live 1 (vcons w vnil) ∷ []) (live 1 (vcons w vnil) ∷ []) refl $ fjoin ! $
      fpack ! (List Val) (tagged_with (form_of (shape N)) (payload (rowss N.parts)) (inr (inl (x, tt))) (live 1 (vcons w vnil) ∷ [])) (w ∷ []) $ done !

abbrev pub tail : Body → Body
tail (seq first rest) = rest
tail body = body

pub err_both : {T E A B C : Type 0} (r : Result T E) → (A → B → C) → OnErr r A → OnErr r B → OnErr r C
err_both (Ok x) f a b = tt
err_both (Err e) f a b = f a b

pub outcome_same : {V : Type 0} (a : Attempt V) (γ : GName) → (lent_by a).ghost_name ≡ γ
    → IfOk (outcome_of a) (λ writer. (vault_of writer).ghost_name ≡ γ)
outcome_same (attempt.Accepted writer) γ same = same
outcome_same (attempt.Refused vault fault) γ same = tt
