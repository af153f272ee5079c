-- `cut` cuts parts off.
use Rattle.poolsteps.proofs.raw.Steps.{◌≡◌, w64, vint, usize, yes, stay_dropped, Goes-dropped, uint_vals, uint_Tells, ℕ, ◌+◌, ◌-◌, ◌^◌, ◌<◌, ◌≤◌, false, List, [], ◌∷◌, refl, a_type, named, Val, vptr, inst_fn, SProp, emp, Lft, Fml, ftrue, fsep, flft, ‵, raw, ◌⊛◌, ◌$◌, ◌∵◌, !, qed, by, move, keep, split, join, fsplit, fsplit3, fjoin, fjoin3, use0, use1, feq_i, no_more, and_then, returns, enter, alloc_all, pass_all, free_all, look_at, get, sets, agg, tables, fact, fact_i, RattleType, owns, types_at, plain, Ptr, nothing, heard, opens, closes, param, layouts, param_laws, mut_vals, mut_Tells, Stays, stay_ref, walk_of, Goes-ref, proved, leaves}
use types.Kit.{flt_l, flt_i}
use Rattle.std.proofs.Common.{suc, ◌*◌}
use Rattle.std.specs.Mem.{type_size}
use Rattle.std.specs.Ptr.{ptr_add}
use Rattle.poolsteps.specs.Portion.{portion_owns}
use Rattle.poolsteps.specs.contracts.memory.Portion as portion
use Rattle.poolsteps.proofs.raw.Fields.{mark, Data, data_made}
use Rattle.poolsteps.proofs.raw.PortionSteps.{portion_cut}
use Rattle.poolsteps.specs.contracts.memory.Portion.cut.{ended, clauses}
use Rattle.poolsteps.specs.contracts.memory.Portion.cut.Key.{name as #self}
use Rattle.poolsteps.proofs.memory.Portion.cut.Statement.{statement}
use Rattle.poolsteps.proofs.memory.Portion.cut.Code as code

pub cut_spec : {M : Type 1} → statement M
cut_spec 𝓤 𝓛 𝓜 𝓡 wired X L =
    let H = 𝓛.H in let 𝓣 = tables 𝓤 H 𝓜 𝓡 𝓡.env in let R : RattleType = param 0 X in let LR = param_laws 0 X L in let En = ended X in
    let inst = layouts (a_type ∷ []) (X, tt) in let fn = inst_fn inst code.function in let c = clauses X 𝓛 𝓜.mem 𝓡.returns in
    let Row : RattleType = portion.the_row R in let D : RattleType = Data R in
    let self = plain (λ _. Row) in let stays : Stays En.signature.params En.kept = (stay_ref (0 ∷ []) tt self, (stay_dropped (plain (λ _. usize)) yes, tt)) in
    proved 𝓛 En stays c 𝓜 𝓡 (Goes-ref 𝓛 2 0 tt self, (Goes-dropped 𝓛 2 (plain (λ _. usize)) yes (λ κs x f. refl), tt)) (#self inst) fn (code.unfolded 𝓤 H 𝓜 𝓡 wired (X, tt))
    (λ κs. (mut_vals, (uint_vals w64, tt))) (λ κs. (mut_Tells (named 0) κs.0 Row, (uint_Tells w64, tt))) (λ κs qs bounds args ghost are.
    let b : ℕ = args.0.ref_ptr.0 in let o : ℕ = args.0.ref_ptr.1 in let κ : Lft = κs.0 in let other : Fml = fsep (flft κs.1.0 qs.1.0) ftrue in
    let d : Row.Denot = args.0.now in let p : Ptr = ptr_add R d.index d.base in let k : ℕ = d.parts in let j : ℕ = args.1.0 in let Whole : Fml = portion_owns R p d.object d.lifetime d.cell k d.owner in
    let left : Row.Denot = record d { parts = k - j; number = d.number + 1 } in let off : Row.Denot = record d { parts = j; owner = false } in
    let Asked : Type 0 = (0 < j) × (j < k) × (k ≤ 2 ^ 63) in let Told : Type 0 = (left ≡ left) × (off ≡ off) in
    let y : (walk_of 𝓛 En stays c).Ghost = ((κs, qs, bounds, args, (vptr b o ∷ [], (vint w64 j ∷ [], tt))), ghost) in let Post : Val → SProp 𝓤 = (walk_of 𝓛 En stays c).post y in
    qed 𝓛 (((‵ (flft κ qs.0) ⊛ ‵ other) ⊛ ‵ (owns (types_at En.signature.params κs) args y.0.4)) ∷ raw (fact 𝓤 _) ∷ raw (fact 𝓤 Asked) ∷ []) ∵
    keep ! (2 ∷ 0 ∷ []) $ heard ! Asked (λ asked. split ! $ split ! $ move ! (2 ∷ []) $ fsplit ! $ fsplit3 ! $ keep ! (1 ∷ 2 ∷ 4 ∷ 5 ∷ []) $
    enter ! 𝓣.C 𝓣.Λ fn (vptr b o ∷ vint w64 j ∷ []) Post $ alloc_all ! (λ l. pass_all ! refl ((tt, tt), ((tt, record { fits = are.1.0.1 }), tt)) $
    opens ! tt Row b o (λ vs. move ! (1 ∷ []) $ fsplit ! $ move ! (1 ∷ []) $ fsplit ! $ flt_l ! (λ small.
    use1 𝓛 (‵ (portion_owns R p d.object d.lifetime d.cell (k - j) d.owner) ⊛ ‵ (portion_owns R p d.object d.lifetime d.cell j false))
    (portion_cut 𝓛 R LR p d.object d.lifetime d.cell k j d.owner asked.0 asked.1 asked.2) $ split ! $
    -- [what stays; what is cut off; the field; the cell; the open borrow]
    sets ! (agg ! (no_more !)) refl (tt, tt) $ sets ! (agg ! (and_then ! (get ! refl) (no_more !))) refl (tt, (tt, tt)) $
    flt_i ! (suc d.index * type_size R) (2 ^ 63) small $ fjoin ! $ move ! (2 ∷ 0 ∷ []) $ fjoin ! $ move ! (2 ∷ 0 ∷ 3 ∷ 4 ∷ 5 ∷ []) $ closes ! tt Row left vs b o $
    feq_i ! (List Val) (vptr b o ∷ []) (vptr b o ∷ []) refl $ fjoin3 ! $ nothing ! $ nothing ! $ fjoin ! $ move ! (1 ∷ 0 ∷ []) $ fjoin ! $ move ! (1 ∷ 3 ∷ []) $ join ! $
    -- [the tokens; `self`; what is cut off]
    move ! (2 ∷ []) $ flt_i ! (suc d.index * type_size R) (2 ^ 63) small $ fjoin ! $ use0 𝓛 (‵ (D.own_val (tt, tt) (mark ∷ []))) (data_made R 𝓛) $ fjoin ! $ use0 𝓛 (raw (fact 𝓤 Told)) (fact_i 𝓤 Told (emp 𝓤) (refl, refl)) $
    returns ! (look_at ! 0 refl) $ free_all ! refl $ keep ! (2 ∷ 3 ∷ 1 ∷ 0 ∷ []) $ by ! (leaves 𝓛 En stays c y mark off (left, (tt, tt)) (tt, (tt, tt))))))))
