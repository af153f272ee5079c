-- The walk of `into_unboxed`: the pointer is null, or it is that of a box.
use Rattle.boxplace.proofs.Steps.{◌≡◌, List, [], ◌∷◌, ◌++◌, refl, sym, ap, ◌∙◌, subst, a_type, Val, vptr, inst_fn, SProp, ent, emp, id⊢, WpFn, ‵, raw, ◌⊛◌, at_ret, ◌$◌, ◌∵◌, !, qed, by, move, keep, drop, split, fsplit, fjoin, use0, use1, rewrite, suffices, stop, fld, of_opd, no_more, and_then, first, exec, returns, enter, alloc_all, pass_all, free_all, look_at, get, get_in, sets, sets_last, env, agg, sub, whole, tables, fact, fact_i, yes, no, RattleType, owns, types_at, plain, Ptr, block_ptr, null_ptr, nothing, param, layout, layouts, Stays, stay_dropped, walk_of, Goes-dropped, after, proved_at, leaves}
use Rattle.std.proofs.Common.{lit<, Some, None, T}
use mir.Val.{vcons, vnil, has_ty, WT}
use types.Run.{lit, bin, branches}
use types.Match.{live}
use denote.RawPtr.{tests_null}
use denote.Signature.{type_at}
use denote.Triple.Entry.{alive}
use Rattle.core.proofs.atomic.Steps.{Ptr-Good}
use Rattle.core.proofs.option.Made.{Some-of, none_of}
use Rattle.std.specs.contracts.alloc.Global as global
use Rattle.std.proofs.alloc.Global.TheLaws.{the_row_laws}
use Rattle.std.specs.contracts.impls.GlobalAllocator.TheImpl.{ghosts}
use Rattle.std.proofs.Handle.{heap_val, heap_Tells}
use Rattle.std_alloc.proofs.ResultValues.{and_tt}
use Rattle.boxplace.specs.contracts.loose.Loose as loose
use Rattle.boxplace.proofs.UnboxedFields.{pair, unboxed_in, Row as Unboxed}
use Rattle.boxplace.proofs.LooseFields.{word, word_good, data_is, either_loose}
use Rattle.boxplace.specs.contracts.loose.Loose.into_unboxed.{ended, clauses}
use Rattle.boxplace.specs.contracts.loose.Loose.into_unboxed.Key.{name as #self}
use Rattle.boxplace.proofs.loose.Loose.into_unboxed.Statement.{statement}
use Rattle.boxplace.proofs.loose.Loose.into_unboxed.Code as code

pub into_unboxed_spec : {M : Type 1} → statement M
into_unboxed_spec 𝓤 𝓛 𝓜 𝓡 wired X L =
    let H = 𝓛.H in let 𝓣 = tables 𝓤 H 𝓜 𝓡 𝓡.env in let R : RattleType = param 0 X in let En = ended X in let c = clauses X 𝓛 𝓜.mem 𝓡.returns in
    let inst = layouts (a_type ∷ []) (X, tt) in let fn = inst_fn inst code.function in let Z : RattleType = global.the_row in let U : RattleType = Unboxed R Z the_row_laws ghosts in let Row : RattleType = loose.the_row R in
    let stays : Stays En.signature.params En.kept = (stay_dropped (plain (λ _. Row)) no, (stay_dropped (plain (λ _. Z)) yes, tt)) in
    proved_at 𝓛 En stays c 𝓜 𝓡 (Goes-dropped 𝓛 1 (plain (λ _. Row)) no (λ κs x f. refl), (Goes-dropped 𝓛 1 (plain (λ _. Z)) yes (λ κs x f. refl), tt)) (#self inst) fn (code.unfolded 𝓤 H 𝓜 𝓡 wired (X, tt)) (λ z are.
    let e : Row.Denot = z.0.3.0 in let g : Z.Denot = z.0.3.1.0 in let Out : RattleType = type_at En.signature.result z.0.0 in
    let Post : Val → SProp 𝓤 = (walk_of 𝓛 En stays c).post z in let Run : List Val → SProp 𝓤 = λ ws. WpFn 𝓤 H 𝓣.C 𝓣.Λ fn ws Post in
    let told = data_is R e.at z.0.4.0 are.0.0 in let handle_is : z.0.4.1.0 ≡ heap_val ∷ [] = heap_Tells g z.0.4.1.0 are.1.0 in
    qed 𝓛 ((raw (alive 𝓛 En.signature z.0.0 z.0.1) ⊛ ‵ (owns (types_at En.signature.params z.0.0) z.0.3 z.0.4)) ∷ raw ((c z.0.0 z.0.3).requires z.1) ∷ []) ∵ split ! $ move ! (1 ∷ []) $ fsplit ! $ fsplit ! $ drop ! $
    -- [what it owns; the handle and nothing; the tokens; what is asked]
    either_loose R ! e.at e.item
    (λ is none. let us : List Val = word null_ptr ∷ heap_val ∷ [] in let pointer : z.0.4.0 ≡ word null_ptr ∷ [] = told ∙ ap (λ (r : Ptr). word r ∷ []) is in let v : Val = live 0 vnil in let Told : Type 0 = e.item ≡ None in
    keep ! (1 ∷ []) $ suffices ! (Run us) (subst (λ (vs : List Val). ent 𝓤 (Run us) (Run vs)) (sym (λ i. pointer i ++ (handle_is i ++ []))) (id⊢ 𝓤 (Run us))) $
    enter ! 𝓣.C 𝓣.Λ fn us Post $ alloc_all ! (λ l. pass_all ! refl (word_good null_ptr, ((tt, ((tt, tt), tt)), tt)) $ let Ev = env fn.locals l in
    sets ! (of_opd ! (get_in ! (fld ! refl (stop !)) (sub ! 0 refl (whole !)))) refl (Ptr-Good null_ptr) $ sets ! (bin ! (get ! refl) (lit ! tt) tt) refl (tt, tt) $ first ! $ branches ! (get ! refl)
    (λ _. sets_last ! (agg ! (and_then ! (lit ! tt) (no_more !))) refl (tt, (record { fits = lit< tt }, tt)) $ exec ! 𝓣.C 𝓣.Λ Ev (after 3 fn.body) (at_ret Ev Post) $ sets ! (of_opd ! (get ! refl)) refl (tt, (record { fits = lit< tt }, tt)) $
    use0 𝓛 (‵ (Out.own_val None (v ∷ []))) (none_of 𝓛 U) $ use0 𝓛 (raw (fact 𝓤 Told)) (fact_i 𝓤 Told (emp 𝓤) none) $ nothing ! $ nothing ! $ fjoin ! $ nothing ! $ fjoin ! $
    returns ! (look_at ! 0 refl) $ free_all ! refl $ keep ! (3 ∷ 0 ∷ 2 ∷ 1 ∷ []) $ by ! (leaves 𝓛 En stays c z v None (tt, (tt, tt)) (tt, (tt, tt)))) (λ wrong. absurd wrong)))
    (λ b o x at some tests. let p : Ptr = block_ptr b o in let us : List Val = word p ∷ heap_val ∷ [] in let pointer : z.0.4.0 ≡ word p ∷ [] = told ∙ ap (λ (r : Ptr). word r ∷ []) at in
    let w : Val = pair (vptr b o) heap_val in let v : Val = live 1 (vcons w vnil) in let d : U.Denot = record { at = p; alloc = g; object = x } in let Told : Type 0 = e.item ≡ Some x in
    let typed : T (has_ty (layout U) w) × WT w = (tt, (tt, (((tt, tt), tt), tt))) in let good : T (has_ty (layout Out) v) × WT v = (and_tt (has_ty (layout U) w) typed.0, (record { fits = lit< tt }, (typed.1, tt))) in
    move ! (1 ∷ []) $ fsplit ! $ rewrite ! 0 (λ (vs : List Val). ‵ (Z.own_val g vs)) handle_is refl $ keep ! (0 ∷ 2 ∷ 3 ∷ []) $
    -- [the handle; the box; the tokens]
    suffices ! (Run us) (subst (λ (vs : List Val). ent 𝓤 (Run us) (Run vs)) (sym (λ i. pointer i ++ (handle_is i ++ []))) (id⊢ 𝓤 (Run us))) $
    enter ! 𝓣.C 𝓣.Λ fn us Post $ alloc_all ! (λ l. pass_all ! refl (word_good p, ((tt, ((tt, tt), tt)), tt)) $ let Ev = env fn.locals l in
    sets ! (of_opd ! (get_in ! (fld ! refl (stop !)) (sub ! 0 refl (whole !)))) refl (tt, tt) $ sets ! (bin ! (get ! refl) (lit ! tt) (tests_null p tests)) refl (tt, tt) $ first ! $ branches ! (get ! refl) (λ wrong. absurd wrong)
    (λ _. sets ! (agg ! (and_then ! (get ! refl) (and_then ! (get ! refl) (no_more !)))) refl typed $ sets_last ! (agg ! (and_then ! (lit ! tt) (and_then ! (get ! refl) (no_more !)))) refl good $
    exec ! 𝓣.C 𝓣.Λ Ev (after 3 fn.body) (at_ret Ev Post) $ sets ! (of_opd ! (get ! refl)) refl good $ move ! (1 ∷ 0 ∷ []) $ unboxed_in R Z the_row_laws ghosts ! b o heap_val g x $
    use1 𝓛 (‵ (Out.own_val (Some d) (v ∷ []))) (Some-of 𝓛 U d w) $ use0 𝓛 (raw (fact 𝓤 Told)) (fact_i 𝓤 Told (emp 𝓤) some) $ nothing ! $ nothing ! $ fjoin ! $ nothing ! $ fjoin ! $
    returns ! (look_at ! 0 refl) $ free_all ! refl $ keep ! (3 ∷ 0 ∷ 2 ∷ 1 ∷ []) $ by ! (leaves 𝓛 En stays c z v (Some d) (tt, (tt, tt)) (tt, (tt, tt)))))))
