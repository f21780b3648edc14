-- Proves the contract of `into_result` by hand. In the case `Accepted`, the result holds the reference to the vault. In
-- the case `Refused`, the borrow ends, so the vault's final state is known.
use mathlib.Core.Path.{◌≡◌, refl, sym}
use native.Mathlib.Nat.{suc-ne-zero}
use mathlib.Core.Logic.{inl, inr}
use mathlib.Core.List.{List, [], ◌∷◌, ◌++◌}
use seplogic.Ra.Ura.{Ura}
use mir.Syntax.{Args, Fn, Dict, a_type, dcons, dnil}
use mir.Val.{Val, vcons, vnil}
use mir.MapTy.{inst_fn}
use base.Logic.{SProp, ent, sep, emp}
use base.Fml.{Fml, ftrue}
use prog.Memory.{Memory}
use prog.Routine.{Routine}
use prog.Wp.{Calls, Loops, WpFn, Env}
use types.Logic.{Logic}
use types.Kit.{updating, now, ‵, raw, given, ◌⊛◌, at_ret, ◌$◌, ◌∵◌, !, qed, move, keep, use0, use1, split, join, learn, fsplit, fsplit3, fjoin, suffices, done}
use types.Run.{stop, fld, of_opd, lit, and_then, no_more, first, exec, returns, enter}
use types.Part.{whole, agg}
use types.Match.{live, vrt, in_variant, by_variants}
use types.ByLocal.{alloc_all, pass_all, free_all, look_at, get, get_in, get_tag, sets, sets_last, env}
use types.Tokens.{name_done}
use contract.Monad.{Fun, fact, fact_i}
use contract.Lifetimes.{Lfts, Shares, AllOutlive}
use contract.Running.{tables}
use denote.Exit.{no, rest}
use denote.RattleType.{RattleType, owns}
use denote.Laws.{Is}
use denote.Param.{bounded, param}
use denote.Param.Laws.{Laws, param_laws}
use denote.Signature.{plain, named_lft, types_at}
use denote.Enum.Laws as enum
use denote.Enum.Rest.{live_own, own_open}
use denote.Triple.Clauses.{Clauses, Ended}
use denote.Triple.Entry.{alive, on_entry}
use denote.Triple.Walked.{Stays, stay_dropped, Goes, walk_of, ends_at}
use denote.Steps.{nothing}
use Rattle.std.proofs.raw_atomic.Walks.{proved}
use Rattle.nor_journal.proofs.Rests.{rests_held, rests_said, ok_owns, err_owns, tail}
use Rattle.nor_journal.specs.declared.vault.Vault.{Ghosts}
use Rattle.nor_journal.specs.declared.writer.Attempt.TheVariants.{Accepted, Refused}
use Rattle.nor_journal.specs.contracts.writer.Attempt as attempt
use Rattle.nor_journal.specs.contracts.writer.Writer as writer
use Rattle.nor_journal.proofs.writer.Writer.TheLaws as writer_laws
use Rattle.nor_journal.specs.contracts.vault.VaultFault as fault_type
use Rattle.std.specs.contracts.result.Result as result
use Rattle.std.specs.Prelude.{Ok, Err}
use Rattle.std.specs.Borrow.{RestsIfErr}
use Rattle.nor_journal.specs.Writer.{lent_by, vault_of, outcome_of}
use Rattle.nor_journal.proofs.writer.Attempt.TheLaws as attempt_laws
use Rattle.nor_journal.specs.contracts.writer.Writer.into_result as F
use Rattle.nor_journal.specs.contracts.writer.Writer.into_result.Key.{name as #self}
use Rattle.nor_journal.proofs.writer.Writer.into_result.Statement.{statement}
use Rattle.nor_journal.proofs.writer.Writer.into_result.Code as code

module _ (V : RattleType) (L : Laws V) (g : Ghosts V.Denot) (d : Dict) where
  abbrev P : RattleType
  P = param 0 V

  abbrev inst : Args
  inst = bounded (a_type ∷ []) (V, tt) (dcons d dnil)

  abbrev fn : Fn
  fn = inst_fn inst code.function

  abbrev En : Ended
  En = F.ended V g d

  abbrev B : Lfts 2 → RattleType
  B κs = attempt.the_row (named_lft 2 0 tt κs) P

  abbrev hs : Stays En.signature.params En.kept
  hs = (stay_dropped (plain B) no, tt)

  abbrev La : (κs : Lfts 2) → enum.Laws (attempt.the_type (named_lft 2 0 tt κs) P)
  La κs = attempt_laws.the_laws (named_lft 2 0 tt κs) P (param_laws 0 V L)

  abbrev vals : (κs : Lfts 2) → (B κs).Denot → List Val
  vals κs = enum.vals (attempt.the_type (named_lft 2 0 tt κs) P) (La κs)

  module _ {M : Type 1} {𝓤 : Ura M} (𝓛 : Logic 𝓤) (at_mem : Memory → SProp 𝓤) (run : Routine → Fun 𝓤)
      (C : Calls 𝓤 𝓛.H) (Λ : Loops 𝓤 𝓛.H) (κs : Lfts 2) (qs : Shares 2) (bounds : AllOutlive 2 En.signature.outlives κs) where
    abbrev c : Clauses 𝓤 En
    c = F.clauses V g d 𝓛 at_mem run

    abbrev W : Lfts 2 → RattleType
    W κs' = writer.the_row (named_lft 2 0 tt κs') P

    abbrev R : Lfts 2 → RattleType
    R κs' = result.the_row (W κs') fault_type.the_row

    abbrev Star : (κs' : Lfts 2) → (B κs').Denot → (R κs').Denot → Fml
    Star κs' x r = RestsIfErr P (lent_by x) (λ (w : (W κs').Denot). (vault_of w).ghost_name) r (λ last. last ≡ (lent_by x).now)

    abbrev Told : (κs' : Lfts 2) → (B κs').Denot → (R κs').Denot → Type 0
    Told κs' x r = r ≡ outcome_of x

    abbrev y : (B κs).Denot → (walk_of 𝓛 En hs c).Ghost
    y x = ((κs, qs, bounds, (x, tt), (vals κs x, tt)), tt)

    walks : (x : (B κs).Denot) → Is (B κs) x (vals κs x)
        → ent 𝓤 (sep 𝓤 (on_entry 𝓛 En.signature κs qs (x, tt) (vals κs x, tt)) ((c κs (x, tt)).requires tt))
        (WpFn 𝓤 𝓛.H C Λ fn (vals κs x ++ []) ((walk_of 𝓛 En hs c).post (y x)))
    walks (Accepted h) is =
        let t = (enum.lawful (attempt.the_type (named_lft 2 0 tt κs) P) (La κs) 𝓛 tt).typed (Accepted h) (vals κs (Accepted h)) is in
        let v : Val = enum.val (attempt.the_type (named_lft 2 0 tt κs) P) (La κs) (Accepted h) in
        let hv : Val = (La κs).0.0.val ((writer.the_field (named_lft 2 0 tt κs) P).into h) in
        let Own : Fml = live_own (attempt.the_parts (named_lft 2 0 tt κs) P) (La κs) (inl (h, tt)) in
        let Post = (walk_of 𝓛 En hs c).post (y (Accepted h)) in
        let tw = (((writer_laws.the_row_laws (named_lft 2 0 tt κs) P (param_laws 0 V L)).lawful 𝓛).typed h (hv ∷ []) (enum.owed (attempt.the_type (named_lft 2 0 tt κs) P) (La κs) (Accepted h) (vals κs (Accepted h)) is).0).0 in
        qed 𝓛 ((raw (alive 𝓛 En.signature κs qs) ⊛ ‵ (owns (types_at En.signature.params κs) (Accepted h, tt) (vals κs (Accepted h), tt))) ∷ raw ((c κs (Accepted h, tt)).requires tt) ∷ []) ∵
        split ! $ move ! (1 ∷ []) $ fsplit ! $
        use1 𝓛 (given (v ∷ [] ≡ vals κs (Accepted h)) (‵ Own)) (own_open 𝓛 (attempt.the_type (named_lft 2 0 tt κs) P) (La κs) (inl (h, tt)) v) $ learn ! (λ _. fsplit ! $
        keep ! (0 ∷ 3 ∷ []) $
        enter ! C Λ fn (vals κs (Accepted h)) _ $ alloc_all ! (λ l. pass_all ! refl (t.0, tt) $
        let Ev : Env 𝓤 𝓛.H = env fn.locals l in
        first ! $ by_variants ! 10 (whole !) (get_tag ! (vrt ! refl (fld ! refl (stop !))) (whole !)) tt (
          (λ _. sets ! (of_opd ! (get_in ! (vrt ! refl (fld ! refl (stop !))) (in_variant ! 0 0 refl refl (whole !)))) refl tw $
              sets ! (of_opd ! (get ! refl)) refl tw $
              sets_last ! (agg ! (and_then ! (lit ! tt) (and_then ! (get ! refl) (no_more !)))) refl (t.0.0, (t.0.1.0, (tw.1, tt))) $
              exec ! C Λ Ev (tail fn.body) (at_ret Ev Post) $
              sets ! (of_opd ! (get ! refl)) refl (t.0.0, (t.0.1.0, (tw.1, tt))) $
              returns ! (look_at ! 0 refl) $ free_all ! refl $
              use1 𝓛 (‵ ((R κs).own_val (Ok h) (live 0 (vcons hv vnil) ∷ []))) (ok_owns 𝓛 (W κs) fault_type.the_row hv h) $
              use0 𝓛 (‵ (Star κs (Accepted h) (Ok h))) (rests_held 𝓛 P h.vault.ghost_name h.vault.now _ _ tt (λ w. refl)) $
              use0 𝓛 (raw (fact 𝓤 (Told κs (Accepted h) (Ok h)))) (fact_i 𝓤 (Told κs (Accepted h) (Ok h)) (emp 𝓤) refl) $ move ! (1 ∷ 0 ∷ []) $ join ! $
              nothing ! $ nothing ! $ fjoin ! $
              suffices ! _ (ends_at 𝓛 En hs c (y (Accepted h)) (live 0 (vcons hv vnil)) (Ok h) (rest ((B κs).exit no) (Accepted h), tt) (tt, tt)) $
              move ! (0 ∷ 2 ∷ []) $ join ! $ move ! (2 ∷ 0 ∷ []) $ join ! $ done !),
          ((λ e. absurd (suc-ne-zero 0 (sym e))), tt),
        )))
    walks (Refused r fault) is =
        let t = (enum.lawful (attempt.the_type (named_lft 2 0 tt κs) P) (La κs) 𝓛 tt).typed (Refused r fault) (vals κs (Refused r fault)) is in
        let v : Val = enum.val (attempt.the_type (named_lft 2 0 tt κs) P) (La κs) (Refused r fault) in
        let fv : Val = (La κs).1.0.1.0.val (fault_type.the_field.into fault) in
        let Own : Fml = live_own (attempt.the_parts (named_lft 2 0 tt κs) P) (La κs) (inr (inl (r, (fault, tt)))) in
        let Post = (walk_of 𝓛 En hs c).post (y (Refused r fault)) in
        qed 𝓛 ((raw (alive 𝓛 En.signature κs qs) ⊛ ‵ (owns (types_at En.signature.params κs) (Refused r fault, tt) (vals κs (Refused r fault), tt))) ∷ raw ((c κs (Refused r fault, tt)).requires tt) ∷ []) ∵
        split ! $ move ! (1 ∷ []) $ fsplit ! $
        use1 𝓛 (given (v ∷ [] ≡ vals κs (Refused r fault)) (‵ Own)) (own_open 𝓛 (attempt.the_type (named_lft 2 0 tt κs) P) (La κs) (inr (inl (r, (fault, tt)))) v) $ learn ! (λ _. fsplit ! $
        fsplit3 ! $ keep ! (1 ∷ 3 ∷ 5 ∷ []) $ move ! (1 ∷ []) $ fsplit ! $ keep ! (0 ∷ 2 ∷ 3 ∷ []) $
        enter ! C Λ fn (vals κs (Refused r fault)) _ $ alloc_all ! (λ l. pass_all ! refl (t.0, tt) $
        let Ev : Env 𝓤 𝓛.H = env fn.locals l in
        first ! $ by_variants ! 11 (whole !) (get_tag ! (vrt ! refl (fld ! refl (stop !))) (whole !)) tt (
          (λ e. absurd (suc-ne-zero 0 e)),
          (
            (λ _. sets ! (of_opd ! (get_in ! (vrt ! refl (fld ! refl (stop !))) (in_variant ! 1 1 refl refl (whole !)))) refl (tt, t.0.1.1.1.0) $
                sets_last ! (agg ! (and_then ! (lit ! tt) (and_then ! (get ! refl) (no_more !)))) refl (tt, (t.0.1.0, (t.0.1.1.1.0, tt))) $
                exec ! C Λ Ev (tail fn.body) (at_ret Ev Post) $
                sets ! (of_opd ! (get ! refl)) refl (tt, (t.0.1.0, (t.0.1.1.1.0, tt))) $
                move ! (1 ∷ []) $ name_done ! tt $
                returns ! (look_at ! 0 refl) $ free_all ! refl $
                use1 𝓛 (‵ (Star κs (Refused r fault) (Err fault))) (rests_said 𝓛 P r.ghost_name r.now _ _ refl (λ w. tt)) $
                use0 𝓛 (raw (fact 𝓤 (Told κs (Refused r fault) (Err fault)))) (fact_i 𝓤 (Told κs (Refused r fault) (Err fault)) (emp 𝓤) refl) $ move ! (1 ∷ 0 ∷ []) $ join ! $ move ! (1 ∷ []) $
                use1 𝓛 (‵ ((R κs).own_val (Err fault) (live 1 (vcons fv vnil) ∷ []))) (err_owns 𝓛 (W κs) fault_type.the_row fv fault) $
                nothing ! $ nothing ! $ fjoin ! $
                suffices ! _ (ends_at 𝓛 En hs c (y (Refused r fault)) (live 1 (vcons fv vnil)) (Err fault) (rest ((B κs).exit no) (Refused r fault), tt) (tt, tt)) $
                move ! (0 ∷ 1 ∷ []) $ join ! $ move ! (2 ∷ 0 ∷ []) $ join ! $ done !),
            tt,
          ),
        )))

goes : (V : RattleType) {M : Type 1} {𝓤 : Ura M} (𝓛 : Logic 𝓤) → Goes 𝓛 2 (plain (λ κs. attempt.the_row (named_lft 2 0 tt κs) (param 0 V))) no
    (stay_dropped (plain (λ κs. attempt.the_row (named_lft 2 0 tt κs) (param 0 V))) no)
goes V 𝓛 κs (Accepted h) f vs fit =
    qed 𝓛 (‵ ftrue ∷ []) ∵ updating ! $ now ! $ nothing ! $ fjoin ! $ nothing ! $ move ! (1 ∷ 0 ∷ []) $ fjoin ! $ done !
goes V 𝓛 κs (Refused r fault) f vs fit =
    qed 𝓛 (‵ ftrue ∷ []) ∵ updating ! $ now ! $ nothing ! $ fjoin ! $ done !

pub into_result_spec : {M : Type 1} → statement M
into_result_spec 𝓤 𝓛 𝓜 𝓡 wired V L g d _ =
    let 𝓣 = tables 𝓤 𝓛.H 𝓜 𝓡 𝓡.env in let c = F.clauses V g d 𝓛 𝓜.mem 𝓡.returns in
    proved 𝓛 (En V L g d) (hs V L g d) c 𝓜 𝓡 (goes V 𝓛, tt)
    (#self (inst V L g d)) (fn V L g d) (code.unfolded 𝓤 𝓛.H 𝓜 𝓡 wired (V, tt) d)
    (λ κs. (vals V L g d κs, tt)) (λ κs. (enum.tells (attempt.the_type (named_lft 2 0 tt κs) (param 0 V)) (La V L g d κs), tt))
    (λ κs qs bounds a gh are. walks V L g d 𝓛 𝓜.mem 𝓡.returns 𝓣.C 𝓣.Λ κs qs bounds a.0 are.0)
