-- Proves the contract of `start` by hand, from the contracts of `try_start` and `into_result`.
use mathlib.Core.Path.{◌≡◌, refl, sym, subst}
use mathlib.Core.List.{[], ◌∷◌}
use Prim.Native.Nat.{ℕ}
use mir.Syntax.{Args, Fn, a_type, dcons, dnil, named, w32}
use mir.Val.{vint, vptr}
use mir.MapTy.{inst_fn}
use base.Logic.{sep, emp, id⊢}
use base.Fml.{Fml, GName}
use types.Kit.{‵, raw, some, later, ◌⊛◌, ◌$◌, ◌∵◌, !, qed, move, drop, use0, use1, split, split3, join, pick, await, rewrite, fjoin, suffices, done}
use types.Run.{stop, addr, and_then, no_more, returns, enter}
use types.ByLocal.{alloc_all, pass_all, free_all, look_at, get, through, sets, lands_as}
use contract.Monad.{fact, fact_i}
use contract.BorrowLft.{◌⊑◌}
use contract.Running.{tables}
use denote.Exit.{no, yes}
use denote.RattleType.{RattleType, Valss}
use denote.Laws.{Is, shows}
use denote.Builtin.{u8, u32, ArrayOf}
use denote.Param.{bounded, param}
use denote.Param.Laws.{param_laws}
use denote.Struct.Field.{array_field, u8-field}
use denote.Struct.Laws.{FLaws, array_laws, u8-laws}
use denote.Plain.{uint_vals, uint_Tells}
use denote.Ref.{mut_vals, mut_Tells}
use denote.Signature.{Slot, plain, named_lft, types_at}
use denote.Steps.{nothing, heard, peeks}
use denote.Triple.Call.{calls_at}
use denote.Triple.Clauses.{Lasts, lasts}
use denote.Triple.Entry.{alive, on_entry}
use denote.Triple.Spec.{triple_of}
use denote.Triple.Table.{framed}
use denote.Triple.Walked.{Stays, stay_dropped, Goes-dropped, Goes-spent_ref, ends_at}
use Rattle.std.proofs.raw_atomic.Walks.{proved}
use Rattle.std.proofs.result.Result.TheLaws as result_laws
use Rattle.std.specs.contracts.result.Result as result
use Rattle.std.specs.Prelude.{Some, IsTrue, IfOk, OnOk, OnErr}
use Rattle.std.specs.Borrow.{name_if_ok}
use denote.Follow.{follows_so}
use Rattle.nor_geometry.specs.Size.{is_chip_size}
use Rattle.nor_journal.specs.Vault as vault_spec
use Rattle.nor_journal.specs.Vault.{Accepted, HoldsPrefix, IsFresh}
use Rattle.nor_journal.specs.Text.{Content, empty_content, front}
use Rattle.nor_journal.specs.Writer.{vault_of, vault_seen, HasWritten, lent_by, outcome_of}
use Rattle.nor_journal.proofs.Rests.{rests_more, err_both, outcome_same}
use Rattle.nor_journal.specs.contracts.writer.Attempt as attempt
use Rattle.nor_journal.proofs.writer.Attempt.TheLaws as attempt_laws
use Rattle.nor_journal.specs.contracts.writer.Writer as writer
use Rattle.nor_journal.proofs.writer.Writer.TheLaws as writer_laws
use Rattle.nor_journal.specs.contracts.vault.VaultFault as fault
use Rattle.nor_journal.proofs.vault.VaultFault.TheLaws as fault_laws
use Rattle.nor_journal.specs.contracts.writer.Writer.try_start as begins
use Rattle.nor_journal.proofs.writer.Writer.try_start.Met as begins_met
use Rattle.nor_journal.specs.contracts.writer.Writer.into_result as settles
use Rattle.nor_journal.proofs.writer.Writer.into_result.Met as settles_met
use Rattle.nor_journal.specs.contracts.writer.Writer.start as F
use Rattle.nor_journal.specs.contracts.writer.Writer.start.Key.{name as #self}
use Rattle.nor_journal.proofs.writer.Writer.start.Statement.{statement}
use Rattle.nor_journal.proofs.writer.Writer.start.Code as code

pub start_spec : {M : Type 1} → statement M
start_spec 𝓤 𝓛 𝓜 𝓡 wired V L g d bound =
    let 𝓣 = tables 𝓤 𝓛.H 𝓜 𝓡 𝓡.env in let c = F.clauses V g d 𝓛 𝓜.mem 𝓡.returns in let En = F.ended V g d in
    let P : RattleType = param 0 V in let inst : Args = bounded (a_type ∷ []) (V, tt) (dcons d dnil) in
    let fn : Fn = inst_fn inst code.function in
    let hs : Stays En.signature.params En.kept = (stay_dropped _ no, (stay_dropped _ yes, (stay_dropped _ yes, (stay_dropped _ yes, (stay_dropped _ yes, tt))))) in
    let Bytes : ℕ → Slot 2 = λ n. ArrayOf (plain (λ _. u8)) (λ _. tt) n in
    let fm = framed 𝓤 𝓛.H 𝓜 𝓣 in
    let k1 = triple_of 𝓛 (begins.signature V) (begins.spec V g d 𝓛 𝓜.mem 𝓡.returns) in
    let k2 = triple_of 𝓛 (settles.signature V) (settles.spec V g d 𝓛 𝓜.mem 𝓡.returns) in
    let A : (n : ℕ) → FLaws (array_field u8-field n) = array_laws u8-field u8-laws in
    proved 𝓛 En hs c 𝓜 𝓡 (Goes-spent_ref 𝓛 2 (0 ∷ []) tt (plain (λ _. P)), (Goes-dropped 𝓛 2 (Bytes 3) yes (λ κs x f. refl), (Goes-dropped 𝓛 2 (Bytes 8) yes (λ κs x f. refl), (Goes-dropped 𝓛 2 (Bytes 2) yes (λ κs x f. refl), (Goes-dropped 𝓛 2 (plain (λ _. u32)) yes (λ κs x f. refl), tt)))))
    (#self inst) fn (code.unfolded 𝓤 𝓛.H 𝓜 𝓡 wired (V, tt) d)
    (λ κs. (mut_vals, ((λ x. (A 3).val x ∷ []), ((λ x. (A 8).val x ∷ []), ((λ x. (A 2).val x ∷ []), (uint_vals w32, tt))))))
    (λ κs. (mut_Tells (named 0) κs.0 P, ((A 3).tells, ((A 8).tells, ((A 2).tells, (uint_Tells w32, tt))))))
    (λ κs qs bounds a gh are.
    let r = a.0 in let vss : Valss (types_at En.signature.params κs) = (mut_vals r, ((A 3).val a.1.0 ∷ [], ((A 8).val a.1.1.0 ∷ [], ((A 2).val a.1.1.1.0 ∷ [], (uint_vals w32 a.1.1.1.1.0, tt))))) in
    let lt = named_lft 2 0 tt κs in let LP = param_laws 0 V L in
    let B : RattleType = attempt.the_row lt P in let W : RattleType = writer.the_row lt P in
    let R : RattleType = result.the_row W fault.the_row in
    let Lr = result_laws.the_row_laws W fault.the_row (writer_laws.the_row_laws lt P LP) fault_laws.the_row_laws in
    let le : Type 0 = κs.1.0 ⊑ V.lives in let toks = alive 𝓛 En.signature κs qs in
    let content : Content = empty_content a.1.0 (Some a.1.1.0) a.1.1.1.0 a.1.1.1.1.0 in
    let End : V.Denot → Type 0 = λ n. vault_spec.Refused (g.state r.now) (g.state n) × HoldsPrefix (g.state n) (front content) in
    let Vault : W.Denot → Type 0 = λ w. Accepted (g.state r.now) (vault_seen g.state w) in
    let Written : W.Denot → Type 0 = λ w. HasWritten g.state w content in
    let Asked = sep 𝓤 (fact 𝓤 (IsFresh (g.state r.now))) (fact 𝓤 (IsTrue (is_chip_size a.1.1.1.1.0))) in
    let Same : B.Denot → Type 0 = λ b. (lent_by b).ghost_name ≡ r.ghost_name in
    let Bad : B.Denot → Type 0 = λ b. OnErr (outcome_of b) (End (lent_by b).now) in
    let Rested : GName → R.Denot → (V.Denot → Type 0) → Fml = λ γ x Q. follows_so P P γ (name_if_ok (λ (w : W.Denot). (vault_of w).ghost_name) x) (λ w n. OnOk x (n ≡ w)) (λ n. OnErr x (Q n)) in
    let y1 : k1.Ghost = ((κs, qs, bounds, a, vss), tt) in
    qed 𝓛 (raw (on_entry 𝓛 En.signature κs qs a vss) ∷ raw ((c κs a).requires gh) ∷ []) ∵
    move ! (1 ∷ []) $ use1 𝓛 (raw (fact 𝓤 le) ⊛ raw Asked) (id⊢ 𝓤 _) $ split ! $ heard ! le (λ within.
    use0 𝓛 (raw (fact 𝓤 le)) (fact_i 𝓤 le (emp 𝓤) within) $ move ! (0 ∷ 1 ∷ []) $ join ! $ move ! (1 ∷ 0 ∷ []) $
    join ! $
    use1 𝓛 (raw (k1.pre y1)) (id⊢ 𝓤 _) $
    enter ! 𝓣.C 𝓣.Λ fn (vptr r.ref_ptr.0 r.ref_ptr.1 ∷ (A 3).val a.1.0 ∷ (A 8).val a.1.1.0 ∷ (A 2).val a.1.1.1.0 ∷ vint w32 a.1.1.1.1.0 ∷ []) _ $ alloc_all ! (λ l.
    pass_all ! refl ((tt, tt), ((((A 3).lawful 𝓛).typed a.1.0 _ are.1.0).0, ((((A 8).lawful 𝓛).typed a.1.1.0 _ are.1.1.0).0, ((((A 2).lawful 𝓛).typed a.1.1.1.0 _ are.1.1.1.0).0, ((tt, record { fits = are.1.1.1.1.0.1 }), tt))))) $
    sets ! (addr ! (through ! refl (stop !))) refl (tt, tt) $
    calls_at ! fm k1 (begins_met.met 𝓤 𝓛 𝓜 𝓡 (code.calls-nor_journal::writer::Writer::try_start 𝓡.env wired) V L g d bound) y1
    (and_then ! (get ! refl) (and_then ! (get ! refl) (and_then ! (get ! refl) (and_then ! (get ! refl) (and_then ! (get ! refl) (no_more !)))))) (λ v.
    use1 𝓛 (later (some (λ (b : B.Denot). (raw toks ⊛ ‵ (B.own_val b (v ∷ []))) ⊛ some (λ (ls : Lasts (begins.ended V g d) κs a).
    ‵ (lasts (begins.ended V g d) κs a ls) ⊛ (raw (fact 𝓤 (Same b)) ⊛ raw (fact 𝓤 (Bad b)) ⊛ raw (fact 𝓤 (IfOk (outcome_of b) Vault)) ⊛ raw (fact 𝓤 (IfOk (outcome_of b) Written))))))) (id⊢ 𝓤 (k1.post y1 v)) $
    await ! tt $ pick ! (λ b. split ! $ split ! $ move ! (2 ∷ []) $ pick ! (λ ls. split ! $ drop ! $ split3 ! $
    move ! (2 ∷ []) $ split ! $
    heard ! (IfOk (outcome_of b) Vault) (λ vault-b. heard ! (IfOk (outcome_of b) Written) (λ written-b. heard ! (Same b) (λ same. heard ! (Bad b) (λ bad.
    move ! (1 ∷ []) $ peeks ! B (Is B) (shows 𝓛 B) b (v ∷ []) (λ is-b.
    lands_as ! refl refl (((attempt_laws.the_row_laws lt P LP).lawful 𝓛).typed b (v ∷ []) is-b).0 $
    nothing ! $ move ! (1 ∷ 0 ∷ []) $ fjoin ! $ move ! (1 ∷ 0 ∷ []) $ join ! $
    use0 𝓛 (raw (fact 𝓤 le)) (fact_i 𝓤 le (emp 𝓤) within) $ nothing ! $ move ! (1 ∷ 0 ∷ []) $ join ! $
    move ! (1 ∷ 0 ∷ []) $ join ! $
    let y2 : k2.Ghost = ((κs, qs, bounds, (b, tt), ((v ∷ []), tt)), tt) in
    use1 𝓛 (raw (k2.pre y2)) (id⊢ 𝓤 _) $
    calls_at ! fm k2 (settles_met.met 𝓤 𝓛 𝓜 𝓡 (code.calls-nor_journal::writer::Writer::into_result 𝓡.env wired) V L g d bound) y2
    (and_then ! (get ! refl) (no_more !)) (λ u.
    use1 𝓛 (later (some (λ (x : R.Denot). (raw toks ⊛ ‵ (R.own_val x (u ∷ []))) ⊛ some (λ (ls' : Lasts (settles.ended V g d) κs (b, tt)).
    ‵ (lasts (settles.ended V g d) κs (b, tt) ls') ⊛ (‵ (Rested (lent_by b).ghost_name x (λ n. n ≡ (lent_by b).now)) ⊛ raw (fact 𝓤 (x ≡ outcome_of b))))))) (id⊢ 𝓤 (k2.post y2 u)) $
    await ! tt $ pick ! (λ x. split ! $ split ! $ move ! (2 ∷ []) $ pick ! (λ ls'. split ! $ drop ! $ split ! $
    move ! (1 ∷ []) $
    heard ! (x ≡ outcome_of b) (λ is.
    move ! (2 ∷ []) $ peeks ! R (Is R) (shows 𝓛 R) x (u ∷ []) (λ is-x.
    lands_as ! refl refl ((Lr.lawful 𝓛).typed x (u ∷ []) is-x).0 $
    returns ! (look_at ! 0 refl) $ free_all ! refl $
    let bad-x : OnErr x (End (lent_by b).now) = subst (λ o. OnErr o (End (lent_by b).now)) (sym is) bad in
    let Fsame : Type 0 = IfOk x (λ w. (vault_of w).ghost_name ≡ r.ghost_name) in
    move ! (1 ∷ []) $ rewrite ! 0 (λ (γ : GName). ‵ (Rested γ x (λ n. n ≡ (lent_by b).now))) same refl $
    use1 𝓛 (‵ (Rested r.ghost_name x End)) (rests_more 𝓛 P r.ghost_name (name_if_ok (λ (w : W.Denot). (vault_of w).ghost_name) x) (λ w n. OnOk x (n ≡ w))
    (λ n. OnErr x (n ≡ (lent_by b).now)) (λ n. OnErr x (End n)) (λ n held. err_both x (λ e f. subst End (sym e) f) held bad-x)) $
    use0 𝓛 (raw (fact 𝓤 (IfOk x Written))) (fact_i 𝓤 (IfOk x Written) (emp 𝓤) (subst (λ o. IfOk o Written) (sym is) written-b)) $
    use0 𝓛 (raw (fact 𝓤 (IfOk x Vault))) (fact_i 𝓤 (IfOk x Vault) (emp 𝓤) (subst (λ o. IfOk o Vault) (sym is) vault-b)) $ join ! $
    use0 𝓛 (raw (fact 𝓤 Fsame)) (fact_i 𝓤 Fsame (emp 𝓤) (subst (λ o. IfOk o (λ w. (vault_of w).ghost_name ≡ r.ghost_name)) (sym is) (outcome_same b r.ghost_name same))) $ join ! $
    move ! (1 ∷ 0 ∷ []) $ join ! $
    nothing ! $ nothing ! $ fjoin ! $ nothing ! $ fjoin ! $ nothing ! $ fjoin ! $ nothing ! $ fjoin ! $ nothing ! $
    fjoin ! $
    suffices ! _ (ends_at 𝓛 En hs c ((κs, qs, bounds, a, vss), gh) u x (tt, (tt, (tt, (tt, (tt, tt))))) (tt, (tt, (tt, (tt, (tt, tt)))))) $
    move ! (0 ∷ 2 ∷ []) $ join ! $ move ! (2 ∷ 0 ∷ []) $ join ! $ done !))))))))))))))))
