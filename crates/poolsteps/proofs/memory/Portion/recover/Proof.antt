-- `recover` ends the loan by all of its parts, and has the memory back.
use Rattle.poolsteps.proofs.raw.Steps.{◌≡◌, Bool, rewrite, use1, true, ℕ, ◌^◌, [], ◌∷◌, refl, a_type, Val, inst_fn, SProp, emp, ftrue, flft, ‵, raw, ◌⊛◌, later, ◌$◌, ◌∵◌, !, qed, by, move, keep, split, join, fsplit, fjoin, use0, await, no_more, and_then, returns, enter, alloc_all, pass_all, free_all, look_at, get, sets, agg, tables, fact, fact_i, no, RattleType, owns, types_at, plain, Ptr, nothing, heard, param, layouts, param_laws, Stays, stay_dropped, walk_of, Goes-dropped, proved, leaves}
use types.Kit.{flt_l, flt_i}
use Rattle.std.proofs.Common.{suc, ◌*◌}
use Rattle.std.specs.Mem.{type_size}
use Rattle.std.specs.Ptr.{ptr_add}
use Rattle.poolsteps.specs.Portion.{portion_owns, standing}
use Rattle.poolsteps.specs.contracts.memory.Loose as loose
use Rattle.poolsteps.specs.contracts.memory.Portion as portion
use Rattle.poolsteps.proofs.raw.Fields.{mark, LooseData, loose_made, data_is}
use Rattle.poolsteps.proofs.raw.PortionSteps.{cell_ended}
use Rattle.poolsteps.specs.contracts.memory.Portion.recover.{ended, clauses}
use Rattle.poolsteps.specs.contracts.memory.Portion.recover.Key.{name as #self}
use Rattle.poolsteps.proofs.memory.Portion.recover.Statement.{statement}
use Rattle.poolsteps.proofs.memory.Portion.recover.Code as code

pub recover_spec : {M : Type 1} → statement M
recover_spec 𝓤 𝓛 𝓜 𝓡 wired X L =
    let H = 𝓛.H in let 𝓣 = tables 𝓤 H 𝓜 𝓡 𝓡.env in let R : RattleType = param 0 X in let LR = param_laws 0 X L in let En = ended X in
    let inst = layouts (a_type ∷ []) (X, tt) in let fn = inst_fn inst code.function in let c = clauses X 𝓛 𝓜.mem 𝓡.returns in
    let From : RattleType = portion.the_row R in let Row : RattleType = loose.the_row R in let D : RattleType = LooseData R in
    let stays : Stays En.signature.params En.kept = (stay_dropped (plain (λ _. From)) no, tt) in
    proved 𝓛 En stays c 𝓜 𝓡 (Goes-dropped 𝓛 1 (plain (λ _. From)) no (λ κs x f. refl), tt) (#self inst) fn (code.unfolded 𝓤 H 𝓜 𝓡 wired (X, tt))
    (λ κs. ((λ e. mark ∷ []), tt)) (λ κs. ((λ e vs is. data_is R vs is.0), tt)) (λ κs qs bounds args ghost are.
    let e : From.Denot = args.0 in let x : X.Denot = e.object in let p : Ptr = ptr_add R e.index e.base in let a : ℕ = e.lifetime in let n : ℕ = e.cell in
    let y : (walk_of 𝓛 En stays c).Ghost = ((κs, qs, bounds, args, (mark ∷ [], tt)), ghost) in let Post : Val → SProp 𝓤 = (walk_of 𝓛 En stays c).post y in
    let tokens = ‵ (flft κs.0 qs.0) ⊛ ‵ ftrue in let Asked : Type 0 = (e.parts ≡ 2 ^ 63) × (e.owner ≡ true) in
    qed 𝓛 ((tokens ⊛ ‵ (owns (types_at En.signature.params κs) args y.0.4)) ∷ raw (fact 𝓤 _) ∷ raw (fact 𝓤 Asked) ∷ []) ∵ keep ! (2 ∷ 0 ∷ []) $ heard ! Asked (λ asked. split ! $ split ! $ move ! (2 ∷ []) $ fsplit ! $ fsplit ! $ keep ! (1 ∷ 3 ∷ []) $ fsplit ! $ flt_l ! (λ small.
    -- [the portion; the token]
    rewrite ! 0 (λ (m : ℕ × Bool). ‵ (portion_owns R p x a n m.0 m.1)) (λ i. (asked.0 i, asked.1 i)) refl $
    use1 𝓛 (later (‵ (standing R p x a))) (cell_ended 𝓛 R LR p x a n) $
    enter ! 𝓣.C 𝓣.Λ fn (mark ∷ []) Post $ alloc_all ! (λ l. pass_all ! refl ((tt, (tt, tt)), tt) $ await ! tt $
    let d : Row.Denot = record { mark = record {}; base = e.base; index = e.index; object = x } in let Told : Type 0 = (e.base ≡ e.base) × (e.index ≡ e.index) × (x ≡ x) in
    sets ! (agg ! (no_more !)) refl (tt, tt) $ sets ! (agg ! (and_then ! (get ! refl) (no_more !))) refl (tt, (tt, tt)) $
    flt_i ! (suc e.index * type_size R) (2 ^ 63) small $ fjoin ! $ use0 𝓛 (‵ (D.own_val (tt, tt) (mark ∷ []))) (loose_made R 𝓛) $ fjoin ! $ use0 𝓛 (raw (fact 𝓤 Told)) (fact_i 𝓤 Told (emp 𝓤) (refl, refl, refl)) $
    nothing ! $ nothing ! $ fjoin ! $ nothing ! $ move ! (4 ∷ 0 ∷ []) $ join ! $
    -- [the tokens; nothing; what is told; the result]
    returns ! (look_at ! 0 refl) $ free_all ! refl $ keep ! (0 ∷ 1 ∷ 3 ∷ 2 ∷ []) $ by ! (leaves 𝓛 En stays c y mark d (tt, tt) (tt, tt))))))
