-- `recover` ends the loan by all of its parts, and has the box back.
use Rattle.slotcell.proofs.Steps.{◌≡◌, Bool, true, ℕ, ◌^◌, List, [], ◌∷◌, ◌++◌, refl, sym, ap, ◌∙◌, subst, a_type, Val, vptr, inst_fn, SProp, ent, emp, id⊢, guard_i, ftrue, flft, WpFn, sem, ‵, raw, ◌⊛◌, given, later, ◌$◌, ◌∵◌, !, qed, by, move, keep, drop, split, join, fsplit, fsplit3, fjoin, learn, use0, use1, await, rewrite, suffices, stop, fld, of_opd, no_more, and_then, returns, enter, alloc_all, pass_all, free_all, look_at, get, get_in, sets, agg, sub, whole, tables, fact, fact_i, fact_use, ◌⊑◌, yes, no, RattleType, owns, types_at, plain, Ptr, InBlock, block_ptr, block_of, count_of, at_block, nothing, heard, param, layouts, param_laws, Stays, stay_dropped, walk_of, Goes-dropped, proved_at, leaves}
use Rattle.std.specs.contracts.alloc.Global as global
use Rattle.std.proofs.alloc.Global.TheLaws.{the_row_laws}
use Rattle.std.specs.contracts.impls.GlobalAllocator.TheImpl.{ghosts}
use Rattle.std.proofs.Handle.{heap_val, heap_Tells}
use Rattle.slotcell.specs.Portion.{boxed, portion_owns}
use Rattle.slotcell.specs.contracts.portion.Portion as portion
use Rattle.slotcell.proofs.UnboxedFields.{pair, unboxed_in, Row as Unboxed}
use Rattle.slotcell.proofs.PortionFields.{word, Data, data_is}
use Rattle.slotcell.proofs.PortionSteps.{portion_lies, cell_ended}
use Rattle.slotcell.specs.contracts.portion.Portion.recover.{ended, clauses}
use Rattle.slotcell.specs.contracts.portion.Portion.recover.Key.{name as #self}
use Rattle.slotcell.proofs.portion.Portion.recover.Statement.{statement}
use Rattle.slotcell.proofs.portion.Portion.recover.Code as code

pub recover_spec : {M : Type 1} → statement M
recover_spec 𝓤 𝓛 𝓜 𝓡 wired X L =
    let H = 𝓛.H in let 𝓣 = tables 𝓤 H 𝓜 𝓡 𝓡.env in let R : RattleType = param 0 X in let LR = param_laws 0 X L in let En = ended X in
    let inst = layouts (a_type ∷ []) (X, tt) in let fn = inst_fn inst code.function in let c = clauses X 𝓛 𝓜.mem 𝓡.returns in
    let Z : RattleType = global.the_row in let U : RattleType = Unboxed R Z the_row_laws ghosts in let Row : RattleType = portion.the_row R in let D : RattleType = Data R in
    let stays : Stays En.signature.params En.kept = (stay_dropped (plain (λ _. Row)) no, (stay_dropped (plain (λ _. Z)) yes, tt)) in
    proved_at 𝓛 En stays c 𝓜 𝓡 (Goes-dropped 𝓛 1 (plain (λ _. Row)) no (λ κs x f. refl), (Goes-dropped 𝓛 1 (plain (λ _. Z)) yes (λ κs x f. refl), tt)) (#self inst) fn (code.unfolded 𝓤 H 𝓜 𝓡 wired (X, tt)) (λ z are.
    let κs = z.0.0 in let qs = z.0.1 in let e : Row.Denot = z.0.3.0 in let g : Z.Denot = z.0.3.1.0 in let x : X.Denot = e.object in let a : ℕ = e.lifetime in let n : ℕ = e.cell in
    let Post : Val → SProp 𝓤 = (walk_of 𝓛 En stays c).post z in let Run : List Val → SProp 𝓤 = λ ws. WpFn 𝓤 H 𝓣.C 𝓣.Λ fn ws Post in
    let tokens = ‵ (flft κs.0 qs.0) ⊛ ‵ ftrue in let lives = κs.0 ⊑ X.lives in let Asked : Type 0 = (e.parts ≡ 2 ^ 63) × (e.owner ≡ true) in
    let b : ℕ = block_of e.at in let o : ℕ = count_of e.at in let p : Ptr = block_ptr b o in
    qed 𝓛 ((tokens ⊛ ‵ (owns (types_at En.signature.params κs) z.0.3 z.0.4)) ∷ raw (fact 𝓤 lives) ∷ raw (fact 𝓤 Asked) ∷ []) ∵
    move ! (1 ∷ 2 ∷ []) $ heard ! lives (λ long. heard ! Asked (λ asked. split ! $ split ! $ move ! (2 ∷ []) $ fsplit3 ! $ fsplit ! $ drop ! $
    use1 𝓛 (given (InBlock e.at) (‵ (portion_owns R e.at x a n e.parts e.owner)))
    (fact_use 𝓤 _ (portion_lies 𝓛 R e.at x a n e.parts e.owner) (guard_i 𝓤 (InBlock e.at) (sem 𝓛 (portion_owns R e.at x a n e.parts e.owner)))) $ learn ! (λ inside.
    let at : e.at ≡ p = at_block e.at inside in
    rewrite ! 0 (λ (m : Ptr × ℕ × Bool). ‵ (portion_owns R m.0 x a n m.1 m.2)) (λ i. (at i, asked.0 i, asked.1 i)) refl $
    use1 𝓛 (later (‵ (boxed R p x a))) (cell_ended 𝓛 R LR p x a n) $
    -- [the box; the handle; nothing; the token; nothing]
    let pointer : z.0.4.0 ≡ word p ∷ [] = data_is R e.at z.0.4.0 are.0.0 ∙ ap (λ (r : Ptr). word r ∷ []) at in let handle : z.0.4.1.0 ≡ heap_val ∷ [] = heap_Tells g z.0.4.1.0 are.1.0 in
    let us : List Val = word p ∷ heap_val ∷ [] in let w : Val = pair (vptr b o) heap_val in let d : U.Denot = record { at = p; alloc = g; object = x } in let Told : Type 0 = x ≡ x in
    move ! (1 ∷ []) $ rewrite ! 0 (λ (vs : List Val). ‵ (Z.own_val g vs)) handle refl $
    suffices ! (Run us) (subst (λ (vs : List Val). ent 𝓤 (Run us) (Run vs)) (sym (λ i. pointer i ++ (handle i ++ []))) (id⊢ 𝓤 (Run us))) $
    enter ! 𝓣.C 𝓣.Λ fn us Post $ alloc_all ! (λ l. pass_all ! refl ((tt, (tt, tt)), ((tt, ((tt, tt), tt)), tt)) $ move ! (1 ∷ []) $ await ! tt $
    sets ! (of_opd ! (get_in ! (fld ! refl (stop !)) (sub ! 0 refl (whole !)))) refl (tt, tt) $
    sets ! (agg ! (and_then ! (get ! refl) (and_then ! (get ! refl) (no_more !)))) refl (tt, (tt, (((tt, tt), tt), tt))) $
    unboxed_in R Z the_row_laws ghosts ! b o heap_val g x $ use0 𝓛 (raw (fact 𝓤 Told)) (fact_i 𝓤 Told (emp 𝓤) refl) $
    -- [what is told; the box; nothing; the token; nothing]
    nothing ! $ nothing ! $ fjoin ! $ nothing ! $ fjoin ! $ nothing ! $ move ! (5 ∷ 0 ∷ []) $ join ! $
    returns ! (look_at ! 0 refl) $ free_all ! refl $ keep ! (0 ∷ 1 ∷ 3 ∷ 2 ∷ []) $ by ! (leaves 𝓛 En stays c z w d (tt, (tt, tt)) (tt, (tt, tt))))))))
