-- `merge` lets the other pointer go, and takes its parts in.
use Rattle.poolsteps.proofs.raw.Steps.{◌≡◌, ◌||◌, ℕ, ◌+◌, ◌^◌, ◌<◌, ◌≤◌, List, [], ◌∷◌, refl, sym, ap, a_type, named, Val, vunit, vptr, inst_fn, SProp, emp, guard_i, Lft, Fml, ftrue, fsep, flft, ‵, raw, ◌⊛◌, given, ◌$◌, ◌∵◌, !, qed, by, move, keep, drop, split, join, fsplit, fsplit3, fjoin, fjoin3, learn, use0, use1, use2, rewrite, feq_i, unit_lit, of_opd, returns, enter, alloc_all, pass_all, free_all, look_at, sets, tables, fact, fact_i, fact_use, no, RattleType, owns, types_at, plain, nothing, heard, opens, closes, param, layouts, mut_vals, mut_Tells, Stays, stay_dropped, stay_ref, walk_of, Goes-dropped, Goes-ref, proved, leaves}
use types.Kit.{flt_l, flt_i}
use Rattle.std.proofs.Common.{suc, ◌*◌}
use Rattle.std.specs.Mem.{type_size}
use Rattle.std.specs.Ptr.{ptr_add}
use Rattle.poolsteps.specs.Portion.{portion_owns}
use Rattle.poolsteps.specs.contracts.memory.Portion as portion
use Rattle.poolsteps.proofs.raw.Fields.{mark, data_is}
use Rattle.poolsteps.proofs.raw.PortionSteps.{Cell, portions_agree, portions_merge}
use Rattle.poolsteps.specs.contracts.memory.Portion.merge.{ended, clauses}
use Rattle.poolsteps.specs.contracts.memory.Portion.merge.Key.{name as #self}
use Rattle.poolsteps.proofs.memory.Portion.merge.Statement.{statement}
use Rattle.poolsteps.proofs.memory.Portion.merge.Code as code
use denote.Param.Laws.{param_laws}

pub merge_spec : {M : Type 1} → statement M
merge_spec 𝓤 𝓛 𝓜 𝓡 wired X L =
    let H = 𝓛.H in let 𝓣 = tables 𝓤 H 𝓜 𝓡 𝓡.env in let R : RattleType = param 0 X in let LR = param_laws 0 X L in let En = ended X in
    let inst = layouts (a_type ∷ []) (X, tt) in let fn = inst_fn inst code.function in let c = clauses X 𝓛 𝓜.mem 𝓡.returns in
    let Row : RattleType = portion.the_row R in
    let self = plain (λ _. Row) in let stays : Stays En.signature.params En.kept = (stay_ref (0 ∷ []) tt self, (stay_dropped self no, tt)) in
    proved 𝓛 En stays c 𝓜 𝓡 (Goes-ref 𝓛 2 0 tt self, (Goes-dropped 𝓛 2 self no (λ κs x f. refl), tt)) (#self inst) fn (code.unfolded 𝓤 H 𝓜 𝓡 wired (X, tt))
    (λ κs. (mut_vals, ((λ e. mark ∷ []), tt))) (λ κs. (mut_Tells (named 0) κs.0 Row, ((λ e vs is. data_is R vs is.0), tt))) (λ κs qs bounds args ghost are.
    let b : ℕ = args.0.ref_ptr.0 in let o : ℕ = args.0.ref_ptr.1 in let κ : Lft = κs.0 in let other : Fml = fsep (flft κs.1.0 qs.1.0) ftrue in
    let d : Row.Denot = args.0.now in let e : Row.Denot = args.1.0 in let k : ℕ = d.parts in let j : ℕ = e.parts in
    let Mine : Fml = portion_owns R (ptr_add R d.index d.base) d.object d.lifetime d.cell k d.owner in let Theirs : Fml = portion_owns R (ptr_add R e.index e.base) e.object e.lifetime e.cell j e.owner in
    let mine : Cell 𝓛 R = (d.lifetime, ((ptr_add R d.index d.base), d.object)) in let theirs : Cell 𝓛 R = (e.lifetime, ((ptr_add R e.index e.base), e.object)) in
    let both : Row.Denot = record d { parts = k + j; owner = d.owner || e.owner } in
    let Asked : Type 0 = (e.cell ≡ d.cell) × (0 < k) × (k + j ≤ 2 ^ 63) in let Told : Type 0 = (e.object ≡ d.object) × (both ≡ both) in
    let y : (walk_of 𝓛 En stays c).Ghost = ((κs, qs, bounds, args, (vptr b o ∷ [], (mark ∷ [], tt))), ghost) in let Post : Val → SProp 𝓤 = (walk_of 𝓛 En stays c).post y in
    qed 𝓛 (((‵ (flft κ qs.0) ⊛ ‵ other) ⊛ ‵ (owns (types_at En.signature.params κs) args y.0.4)) ∷ raw (fact 𝓤 _) ∷ raw (fact 𝓤 Asked) ∷ []) ∵
    keep ! (2 ∷ 0 ∷ []) $ heard ! Asked (λ asked. split ! $ split ! $ move ! (2 ∷ []) $ fsplit3 ! $ move ! (1 ∷ []) $ fsplit ! $ drop ! $ fsplit ! $ drop ! $
    -- [their parts; `self`; nothing; the tokens]
    rewrite ! 0 (λ (n : ℕ). ‵ (portion_owns R (ptr_add R e.index e.base) e.object e.lifetime n j e.owner)) asked.0 refl $ move ! (1 ∷ []) $ fsplit3 ! $ keep ! (1 ∷ 2 ∷ 5 ∷ 6 ∷ 3 ∷ []) $
    enter ! 𝓣.C 𝓣.Λ fn (vptr b o ∷ mark ∷ []) Post $ alloc_all ! (λ l. pass_all ! refl ((tt, tt), ((tt, (tt, tt)), tt)) $
    opens ! tt Row b o (λ vs. move ! (1 ∷ []) $ fsplit ! $ move ! (1 ∷ []) $ fsplit ! $ flt_l ! (λ small. move ! (0 ∷ 7 ∷ []) $ join ! $
    -- [both; the field; the cell; the open borrow]
    use1 𝓛 (given (mine ≡ theirs) (‵ Mine ⊛ ‵ (portion_owns R (ptr_add R e.index e.base) e.object e.lifetime d.cell j e.owner)))
    (fact_use 𝓤 _ (portions_agree 𝓛 R mine theirs d.cell k j d.owner e.owner) (guard_i 𝓤 (mine ≡ theirs) _)) $ learn ! (λ same. split ! $
    rewrite ! 1 (λ (m : Cell 𝓛 R). ‵ (portion_owns R m.1.0 m.1.1 m.0 d.cell j e.owner)) (sym same) refl $
    use2 𝓛 (‵ (portion_owns R (ptr_add R d.index d.base) d.object d.lifetime d.cell (k + j) (d.owner || e.owner))) (portions_merge 𝓛 R LR (ptr_add R d.index d.base) d.object d.lifetime d.cell k j d.owner e.owner asked.1 asked.2) $
    flt_i ! (suc d.index * type_size R) (2 ^ 63) small $ fjoin ! $ move ! (1 ∷ 0 ∷ []) $ fjoin ! $ move ! (1 ∷ 0 ∷ []) $ closes ! tt Row both vs b o $ feq_i ! (List Val) (vptr b o ∷ []) (vptr b o ∷ []) refl $ fjoin3 ! $
    nothing ! $ nothing ! $ fjoin ! $ move ! (1 ∷ 0 ∷ []) $ fjoin ! $ move ! (1 ∷ 2 ∷ []) $ join ! $
    sets ! (of_opd ! (unit_lit !)) refl (tt, tt) $ use0 𝓛 (raw (fact 𝓤 Told)) (fact_i 𝓤 Told (emp 𝓤) (ap (λ (m : Cell 𝓛 R). m.1.1) (sym same), refl)) $
    feq_i ! (List Val) (vunit ∷ []) (vunit ∷ []) refl $ returns ! (look_at ! 0 refl) $ free_all ! refl $
    keep ! (2 ∷ 3 ∷ 0 ∷ 1 ∷ []) $ by ! (leaves 𝓛 En stays c y vunit tt (both, (tt, tt)) (tt, (tt, tt)))))))))
