-- `cut` copies the pointer, and cuts one part off.
use Rattle.slotcell.proofs.Steps.{◌≡◌, ℕ, ◌+◌, ◌-◌, ◌^◌, ◌<◌, ◌≤◌, false, List, [], ◌∷◌, sym, refl, full_share, a_type, named, Val, vptr, inst_fn, SProp, emp, guard_i, Lft, Fml, ftrue, fsep, flft, sem, ‵, raw, ◌⊛◌, given, ◌$◌, ◌∵◌, !, qed, by, move, keep, split, join, fsplit, fsplit3, fjoin, fjoin3, learn, use0, use1, rewrite, feq_i, stop, fld, load, of_opd, no_more, and_then, returns, enter, alloc_all, pass_all, free_all, look_at, get, through, sets, agg, sub, whole, look_in, tables, fact, fact_i, fact_use, RattleType, owns, types_at, plain, Ptr, InBlock, nothing, peeks, heard, opens, closes, Is, shows, cell_at, param, layouts, param_laws, mut_vals, mut_Tells, Stays, stay_ref, walk_of, Goes-ref, proved, leaves}
use Rattle.slotcell.specs.Portion.{portion_owns}
use Rattle.slotcell.specs.contracts.portion.Portion as portion
use Rattle.slotcell.proofs.PortionFields.{word, pointer_good, word_good, Data, data_is, data_made}
use Rattle.slotcell.proofs.PortionSteps.{portion_lies, portion_cut}
use Rattle.slotcell.specs.contracts.portion.Portion.cut.{ended, clauses}
use Rattle.slotcell.specs.contracts.portion.Portion.cut.Key.{name as #self}
use Rattle.slotcell.proofs.portion.Portion.cut.Statement.{statement}
use Rattle.slotcell.proofs.portion.Portion.cut.Code as code

pub cut_spec : {M : Type 1} → statement M
cut_spec 𝓤 𝓛 𝓜 𝓡 wired X L =
    let H = 𝓛.H in let 𝓣 = tables 𝓤 H 𝓜 𝓡 𝓡.env in let R : RattleType = param 0 X in let LR = param_laws 0 X L in let En = ended X in
    let inst = layouts (a_type ∷ []) (X, tt) in let fn = inst_fn inst code.function in let c = clauses X 𝓛 𝓜.mem 𝓡.returns in
    let Row : RattleType = portion.the_row R in let D : RattleType = Data R in
    let self = plain (λ _. Row) in let stays : Stays En.signature.params En.kept = (stay_ref (0 ∷ []) tt self, tt) in
    proved 𝓛 En stays c 𝓜 𝓡 (Goes-ref 𝓛 2 0 tt self, tt) (#self inst) fn (code.unfolded 𝓤 H 𝓜 𝓡 wired (X, tt))
    (λ κs. (mut_vals, tt)) (λ κs. (mut_Tells (named 0) κs.0 Row, tt)) (λ κs qs bounds args ghost are.
    let b : ℕ = args.0.ref_ptr.0 in let o : ℕ = args.0.ref_ptr.1 in let κ : Lft = κs.0 in let other : Fml = fsep (flft κs.1.0 qs.1.0) ftrue in
    let d : Row.Denot = args.0.now in let p : Ptr = d.at in let k : ℕ = d.parts in let Whole : Fml = portion_owns R p d.object d.lifetime d.cell k d.owner in
    let left : Row.Denot = record d { parts = k - 1; number = d.number + 1 } in let off : Row.Denot = record d { parts = 1; owner = false } in
    let Asked : Type 0 = (1 < k) × (k ≤ 2 ^ 63) in let Told : Type 0 = (left ≡ left) × (off ≡ off) in
    let y : (walk_of 𝓛 En stays c).Ghost = ((κs, qs, bounds, args, (vptr b o ∷ [], tt)), ghost) in let Post : Val → SProp 𝓤 = (walk_of 𝓛 En stays c).post y in
    qed 𝓛 (((‵ (flft κ qs.0) ⊛ ‵ other) ⊛ ‵ (owns (types_at En.signature.params κs) args y.0.4)) ∷ raw (fact 𝓤 _) ∷ raw (fact 𝓤 Asked) ∷ []) ∵
    keep ! (2 ∷ 0 ∷ []) $ heard ! Asked (λ asked. split ! $ split ! $ move ! (2 ∷ []) $ fsplit ! $ fsplit3 ! $ keep ! (1 ∷ 2 ∷ 4 ∷ 5 ∷ []) $
    enter ! 𝓣.C 𝓣.Λ fn (vptr b o ∷ []) Post $ alloc_all ! (λ l. pass_all ! refl ((tt, tt), tt) $
    opens ! tt Row b o (λ vs. move ! (1 ∷ []) $ fsplit ! $ peeks ! D (Is D) (shows 𝓛 D) (p, tt) vs (λ is. let laid : vs ≡ word p ∷ [] = data_is R p vs is in
    move ! (1 ∷ []) $ use1 𝓛 (given (InBlock p) (‵ Whole)) (fact_use 𝓤 _ (portion_lies 𝓛 R p d.object d.lifetime d.cell k d.owner) (guard_i 𝓤 (InBlock p) (sem 𝓛 Whole))) $ learn ! (λ inside.
    use1 𝓛 (‵ (portion_owns R p d.object d.lifetime d.cell (k - 1) d.owner) ⊛ ‵ (portion_owns R p d.object d.lifetime d.cell 1 false))
    (portion_cut 𝓛 R LR p d.object d.lifetime d.cell k d.owner asked.0 asked.1) $ split ! $
    -- [what stays; what is cut off; the field; the cell; the open borrow]
    rewrite ! 3 (λ (ws : List Val). ‵ (cell_at full_share Row.mir ws b o)) laid refl $
    sets ! (of_opd ! (load ! (through ! refl (fld ! refl (stop !))) (look_in ! 3 (sub ! 0 refl (whole !))))) refl (pointer_good p inside) $
    sets ! (agg ! (and_then ! (get ! refl) (no_more !))) refl (word_good p inside) $
    rewrite ! 3 (λ (ws : List Val). ‵ (cell_at full_share Row.mir ws b o)) (sym laid) refl $
    move ! (2 ∷ 0 ∷ []) $ fjoin ! $ move ! (2 ∷ 0 ∷ 3 ∷ 4 ∷ 5 ∷ []) $ closes ! tt Row left vs b o $
    feq_i ! (List Val) (vptr b o ∷ []) (vptr b o ∷ []) refl $ fjoin3 ! $ nothing ! $ move ! (1 ∷ 0 ∷ []) $ fjoin ! $ move ! (1 ∷ 3 ∷ []) $ join ! $
    -- [the tokens; `self`; what is cut off]
    move ! (2 ∷ []) $ use0 𝓛 (‵ (D.own_val (p, tt) (word p ∷ []))) (data_made R 𝓛 p) $ fjoin ! $ use0 𝓛 (raw (fact 𝓤 Told)) (fact_i 𝓤 Told (emp 𝓤) (refl, refl)) $
    returns ! (look_at ! 0 refl) $ free_all ! refl $ keep ! (2 ∷ 3 ∷ 1 ∷ 0 ∷ []) $ by ! (leaves 𝓛 En stays c y (word p) off (left, tt) (tt, tt))))))))
