-- `lend` keeps the pointer, and lends the box.
use Rattle.slotcell.proofs.Steps.{◌≡◌, true, ℕ, ◌^◌, List, [], ◌∷◌, ◌++◌, refl, sym, subst, a_type, w64, Val, vint, vptr, inst_fn, SProp, ent, emp, id⊢, ftrue, fex, flft, WpFn, ‵, raw, ◌⊛◌, later, ◌$◌, ◌∵◌, !, qed, by, move, keep, split, join, fsplit, fjoin, fpick, use0, use2, await, suffices, stop, fld, of_opd, no_more, and_then, returns, enter, alloc_all, pass_all, free_all, look_at, get, get_in, sets, agg, sub, whole, tables, fact, fact_i, ◌⊑◌, yes, no, RattleType, owns, types_at, plain, usize, Ptr, block_ptr, nothing, heard, param, layouts, param_laws, Stays, stay_dropped, walk_of, Goes-dropped, proved_at, leaves}
use Rattle.std.specs.contracts.alloc.Global as global
use Rattle.std.proofs.alloc.Global.TheLaws.{the_row_laws}
use Rattle.std.specs.contracts.impls.GlobalAllocator.TheImpl.{ghosts}
use Rattle.slotcell.specs.Portion.{portion_owns}
use Rattle.slotcell.specs.contracts.portion.Portion as portion
use Rattle.slotcell.proofs.UnboxedFields.{pair, pair_good, unboxed_out, Row as Unboxed}
use Rattle.slotcell.proofs.PortionFields.{word, Data, data_made}
use Rattle.slotcell.proofs.PortionSteps.{cell_lent}
use Rattle.slotcell.specs.contracts.portion.Portion.lend.{ended, clauses}
use Rattle.slotcell.specs.contracts.portion.Portion.lend.Key.{name as #self}
use Rattle.slotcell.proofs.portion.Portion.lend.Statement.{statement}
use Rattle.slotcell.proofs.portion.Portion.lend.Code as code

pub lend_spec : {M : Type 1} → statement M
lend_spec 𝓤 𝓛 𝓜 𝓡 wired X L =
    let H = 𝓛.H in let 𝓣 = tables 𝓤 H 𝓜 𝓡 𝓡.env in let R : RattleType = param 0 X in let LR = param_laws 0 X L in let En = ended X in
    let inst = layouts (a_type ∷ []) (X, tt) in let fn = inst_fn inst code.function in let c = clauses X 𝓛 𝓜.mem 𝓡.returns in
    let Z : RattleType = global.the_row in let U : RattleType = Unboxed R Z the_row_laws ghosts in let Row : RattleType = portion.the_row R in let D : RattleType = Data R in
    let stays : Stays En.signature.params En.kept = (stay_dropped (plain (λ _. U)) no, (stay_dropped (plain (λ _. usize)) yes, tt)) in
    proved_at 𝓛 En stays c 𝓜 𝓡 (Goes-dropped 𝓛 1 (plain (λ _. U)) no (λ κs x f. refl), (Goes-dropped 𝓛 1 (plain (λ _. usize)) yes (λ κs x f. refl), tt)) (#self inst) fn (code.unfolded 𝓤 H 𝓜 𝓡 wired (X, tt)) (λ z are.
    let κs = z.0.0 in let qs = z.0.1 in let v : U.Denot = z.0.3.0 in let n : ℕ = z.0.3.1.0 in let x : X.Denot = v.object in
    let Post : Val → SProp 𝓤 = (walk_of 𝓛 En stays c).post z in let Run : List Val → SProp 𝓤 = λ ws. WpFn 𝓤 H 𝓣.C 𝓣.Λ fn ws Post in
    let tokens = ‵ (flft κs.0 qs.0) ⊛ ‵ ftrue in let lives = κs.0 ⊑ X.lives in
    qed 𝓛 ((tokens ⊛ ‵ (owns (types_at En.signature.params κs) z.0.3 z.0.4)) ∷ raw (fact 𝓤 lives) ∷ ‵ ftrue ∷ []) ∵ move ! (1 ∷ []) $ heard ! lives (λ long. split ! $ split ! $ move ! (2 ∷ []) $ fsplit ! $
    unboxed_out R Z the_row_laws ghosts ! v z.0.4.0 (λ b o h e laid fits.
    -- [the box; the handle; the number; the token; nothing]
    let p : Ptr = block_ptr b o in let w : Val = pair (vptr b o) h in let us : List Val = w ∷ vint w64 n ∷ [] in let number = are.1.0 in
    move ! (0 ∷ 3 ∷ []) $ use2 𝓛 (later (‵ (fex (ℕ × ℕ) (λ c. portion_owns R p x c.0 c.1 (2 ^ 63) true)) ⊛ ‵ (flft κs.0 qs.0))) (cell_lent 𝓛 R LR p x κs.0 qs.0 long) $
    suffices ! (Run us) (subst (λ (vs : List Val). ent 𝓤 (Run us) (Run vs)) (sym (λ i. laid i ++ (number.0 i ++ []))) (id⊢ 𝓤 (Run us))) $
    enter ! 𝓣.C 𝓣.Λ fn us Post $ alloc_all ! (λ l. pass_all ! refl (pair_good R Z the_row_laws ghosts b o h fits, ((tt, record { fits = number.1 }), tt)) $ await ! tt $ split ! $ fpick ! (λ name.
    let d : Row.Denot = record { at = p; object = x; cell = name.1; lifetime = name.0; parts = 2 ^ 63; owner = true; number = 0; of = n } in
    let Told : Type 0 = (x ≡ x) × (d.parts ≡ 2 ^ 63) × (d.owner ≡ true) × (d.number ≡ 0) × (n ≡ n) in
    sets ! (of_opd ! (get_in ! (fld ! refl (stop !)) (sub ! 0 refl (whole !)))) refl (tt, tt) $ sets ! (agg ! (and_then ! (get ! refl) (no_more !))) refl (tt, (tt, tt)) $
    use0 𝓛 (‵ (D.own_val (p, tt) (word p ∷ []))) (data_made R 𝓛 p) $ fjoin ! $ use0 𝓛 (raw (fact 𝓤 Told)) (fact_i 𝓤 Told (emp 𝓤) (refl, refl, refl, refl, refl)) $
    -- [what is told; the portion; the token; ..]
    nothing ! $ nothing ! $ fjoin ! $ nothing ! $ fjoin ! $ nothing ! $ move ! (4 ∷ 0 ∷ []) $ join ! $
    returns ! (look_at ! 0 refl) $ free_all ! refl $ keep ! (0 ∷ 1 ∷ 3 ∷ 2 ∷ []) $ by ! (leaves 𝓛 En stays c z (word p) d (tt, (tt, tt)) (tt, (tt, tt))))))))
