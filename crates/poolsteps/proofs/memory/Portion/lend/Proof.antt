-- `lend` lends the memory.
use Rattle.poolsteps.proofs.raw.Steps.{◌≡◌, true, ℕ, ◌^◌, [], ◌∷◌, refl, a_type, w64, Val, vint, inst_fn, SProp, emp, ftrue, fex, flft, ‵, raw, ◌⊛◌, later, ◌$◌, ◌∵◌, !, qed, by, move, keep, split, join, fsplit, fjoin, fpick, use0, use2, await, no_more, and_then, returns, enter, alloc_all, pass_all, free_all, look_at, get, sets, agg, tables, fact, fact_i, ◌⊑◌, yes, no, RattleType, owns, types_at, plain, usize, Ptr, nothing, heard, param, layouts, param_laws, uint_vals, uint_Tells, Stays, stay_dropped, walk_of, Goes-dropped, proved, leaves}
use types.Kit.{flt_l, flt_i}
use Rattle.std.proofs.Common.{suc, ◌*◌}
use Rattle.std.specs.Mem.{type_size}
use Rattle.std.specs.Ptr.{ptr_add}
use Rattle.poolsteps.specs.Portion.{portion_owns}
use Rattle.poolsteps.specs.contracts.memory.Loose as loose
use Rattle.poolsteps.specs.contracts.memory.Portion as portion
use Rattle.poolsteps.proofs.raw.Fields.{mark, Data, data_made, loose_is}
use Rattle.poolsteps.proofs.raw.PortionSteps.{cell_lent}
use Rattle.poolsteps.specs.contracts.memory.Portion.lend.{ended, clauses}
use Rattle.poolsteps.specs.contracts.memory.Portion.lend.Key.{name as #self}
use Rattle.poolsteps.proofs.memory.Portion.lend.Statement.{statement}
use Rattle.poolsteps.proofs.memory.Portion.lend.Code as code

pub lend_spec : {M : Type 1} → statement M
lend_spec 𝓤 𝓛 𝓜 𝓡 wired X L =
    let H = 𝓛.H in let 𝓣 = tables 𝓤 H 𝓜 𝓡 𝓡.env in let R : RattleType = param 0 X in let LR = param_laws 0 X L in let En = ended X in
    let inst = layouts (a_type ∷ []) (X, tt) in let fn = inst_fn inst code.function in let c = clauses X 𝓛 𝓜.mem 𝓡.returns in
    let From : RattleType = loose.the_row R in let Row : RattleType = portion.the_row R in let D : RattleType = Data R in
    let stays : Stays En.signature.params En.kept = (stay_dropped (plain (λ _. From)) no, (stay_dropped (plain (λ _. usize)) yes, tt)) in
    proved 𝓛 En stays c 𝓜 𝓡 (Goes-dropped 𝓛 1 (plain (λ _. From)) no (λ κs x f. refl), (Goes-dropped 𝓛 1 (plain (λ _. usize)) yes (λ κs x f. refl), tt)) (#self inst) fn (code.unfolded 𝓤 H 𝓜 𝓡 wired (X, tt))
    (λ κs. ((λ e. mark ∷ []), (uint_vals w64, tt))) (λ κs. ((λ e vs is. loose_is R vs is.0), (uint_Tells w64, tt))) (λ κs qs bounds args ghost are.
    let v : From.Denot = args.0 in let n : ℕ = args.1.0 in let x : X.Denot = v.object in let p : Ptr = ptr_add R v.index v.base in
    let y : (walk_of 𝓛 En stays c).Ghost = ((κs, qs, bounds, args, (mark ∷ [], (vint w64 n ∷ [], tt))), ghost) in let Post : Val → SProp 𝓤 = (walk_of 𝓛 En stays c).post y in
    let tokens = ‵ (flft κs.0 qs.0) ⊛ ‵ ftrue in let lives = κs.0 ⊑ X.lives in
    qed 𝓛 ((tokens ⊛ ‵ (owns (types_at En.signature.params κs) args y.0.4)) ∷ raw (fact 𝓤 lives) ∷ ‵ ftrue ∷ []) ∵ move ! (1 ∷ []) $ heard ! lives (λ long. split ! $ split ! $ move ! (2 ∷ []) $ fsplit ! $ fsplit ! $ keep ! (1 ∷ 3 ∷ []) $ fsplit ! $ flt_l ! (λ small.
    -- [the memory; the token]
    use2 𝓛 (later (‵ (fex (ℕ × ℕ) (λ c. portion_owns R p x c.0 c.1 (2 ^ 63) true)) ⊛ ‵ (flft κs.0 qs.0))) (cell_lent 𝓛 R LR p x κs.0 qs.0 long) $
    enter ! 𝓣.C 𝓣.Λ fn (mark ∷ vint w64 n ∷ []) Post $ alloc_all ! (λ l. pass_all ! refl ((tt, (tt, tt)), ((tt, record { fits = are.1.0.1 }), tt)) $ await ! tt $ split ! $ fpick ! (λ name.
    let d : Row.Denot = record { mark = record {}; base = v.base; index = v.index; object = x; cell = name.1; lifetime = name.0; parts = 2 ^ 63; owner = true; number = 0; of = n } in
    let Told : Type 0 = (v.base ≡ v.base) × (v.index ≡ v.index) × (x ≡ x) × (d.parts ≡ 2 ^ 63) × (d.owner ≡ true) × (d.number ≡ 0) × (n ≡ n) in
    sets ! (agg ! (no_more !)) refl (tt, tt) $ sets ! (agg ! (and_then ! (get ! refl) (no_more !))) refl (tt, (tt, tt)) $
    flt_i ! (suc v.index * type_size R) (2 ^ 63) small $ fjoin ! $ use0 𝓛 (‵ (D.own_val (tt, tt) (mark ∷ []))) (data_made R 𝓛) $ fjoin ! $ use0 𝓛 (raw (fact 𝓤 Told)) (fact_i 𝓤 Told (emp 𝓤) (refl, refl, refl, refl, refl, refl, refl)) $
    nothing ! $ nothing ! $ fjoin ! $ nothing ! $ fjoin ! $ nothing ! $ move ! (4 ∷ 0 ∷ []) $ join ! $
    -- [the tokens; nothing; what is told; the result]
    returns ! (look_at ! 0 refl) $ free_all ! refl $ keep ! (0 ∷ 1 ∷ 3 ∷ 2 ∷ []) $ by ! (leaves 𝓛 En stays c y mark d (tt, (tt, tt)) (tt, (tt, tt))))))))
