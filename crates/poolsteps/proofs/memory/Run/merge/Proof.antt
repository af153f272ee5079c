-- `merge` puts a value in front.
use Rattle.poolsteps.proofs.raw.Steps.{◌≡◌, no, drop, vunit, of_opd, unit_lit, Ptr, stay_dropped, Goes-dropped, ℕ, ◌+◌, List, [], ◌∷◌, refl, a_type, named, Val, vptr, inst_fn, SProp, emp, Lft, Fml, ftrue, fsep, flft, ‵, raw, ◌⊛◌, ◌$◌, ◌∵◌, !, qed, by, move, keep, split, join, fsplit, fsplit3, fjoin, fjoin3, use0, rewrite, feq_i, returns, enter, alloc_all, pass_all, free_all, look_at, sets, tables, fact, fact_i, RattleType, owns, types_at, plain, nothing, heard, opens, closes, param, layouts, mut_vals, mut_Tells, Stays, stay_ref, walk_of, Goes-ref, proved, leaves}
use Rattle.std.proofs.Common.{suc, arith}
use Rattle.poolsteps.specs.Portion.{loose_owns}
use Rattle.poolsteps.specs.Run.{run_owns}
use Rattle.poolsteps.specs.contracts.memory.Run as run
use Rattle.poolsteps.specs.contracts.memory.Loose as loose
use Rattle.poolsteps.proofs.raw.Fields.{mark, loose_is}
use Rattle.poolsteps.specs.contracts.memory.Run.merge.{ended, clauses}
use Rattle.poolsteps.specs.contracts.memory.Run.merge.Key.{name as #self}
use Rattle.poolsteps.proofs.memory.Run.merge.Statement.{statement}
use Rattle.poolsteps.proofs.memory.Run.merge.Code as code

pub merge_spec : {M : Type 1} → statement M
merge_spec 𝓤 𝓛 𝓜 𝓡 wired X L =
    let H = 𝓛.H in let 𝓣 = tables 𝓤 H 𝓜 𝓡 𝓡.env in let R : RattleType = param 0 X in let En = ended X in
    let inst = layouts (a_type ∷ []) (X, tt) in let fn = inst_fn inst code.function in let c = clauses X 𝓛 𝓜.mem 𝓡.returns in
    let Row : RattleType = run.the_row R in let Off : RattleType = loose.the_row R in
    let self = plain (λ _. Row) in let other_one = plain (λ _. Off) in let stays : Stays En.signature.params En.kept = (stay_ref (0 ∷ []) tt self, (stay_dropped other_one no, tt)) in
    proved 𝓛 En stays c 𝓜 𝓡 (Goes-ref 𝓛 2 0 tt self, (Goes-dropped 𝓛 2 other_one no (λ κs x f. refl), tt)) (#self inst) fn (code.unfolded 𝓤 H 𝓜 𝓡 wired (X, tt))
    (λ κs. (mut_vals, ((λ e. mark ∷ []), tt))) (λ κs. (mut_Tells (named 0) κs.0 Row, ((λ e vs is. loose_is R vs is.0), tt))) (λ κs qs bounds args ghost are.
    let b : ℕ = args.0.ref_ptr.0 in let o : ℕ = args.0.ref_ptr.1 in let κ : Lft = κs.0 in let other : Fml = fsep (flft κs.1.0 qs.1.0) ftrue in
    let d : Row.Denot = args.0.now in let e : Off.Denot = args.1.0 in let Asked : Type 0 = (e.base ≡ d.ptr) × (e.index + 1 ≡ d.first) in
    let both : Row.Denot = record d { first = e.index; items = e.object ∷ d.items } in let Told : Type 0 = both ≡ both in
    let y : (walk_of 𝓛 En stays c).Ghost = ((κs, qs, bounds, args, (vptr b o ∷ [], (mark ∷ [], tt))), ghost) in let Post : Val → SProp 𝓤 = (walk_of 𝓛 En stays c).post y in
    qed 𝓛 (((‵ (flft κ qs.0) ⊛ ‵ other) ⊛ ‵ (owns (types_at En.signature.params κs) args y.0.4)) ∷ raw (fact 𝓤 _) ∷ raw (fact 𝓤 Asked) ∷ []) ∵
    keep ! (2 ∷ 0 ∷ []) $ heard ! Asked (λ asked.
    split ! $ split ! $ move ! (2 ∷ []) $ fsplit3 ! $ move ! (1 ∷ []) $ fsplit ! $ drop ! $ rewrite ! 0 (λ (q : Ptr). ‵ (loose_owns R q e.index e.object)) asked.0 refl $
    -- [the value; `self`; nothing; the tokens]
    move ! (1 ∷ []) $ fsplit3 ! $ keep ! (1 ∷ 2 ∷ 5 ∷ 6 ∷ 3 ∷ []) $
    enter ! 𝓣.C 𝓣.Λ fn (vptr b o ∷ mark ∷ []) Post $ alloc_all ! (λ l. pass_all ! refl ((tt, tt), ((tt, (tt, tt)), tt)) $
    opens ! tt Row b o (λ vs. move ! (1 ∷ []) $ fsplit ! $ move ! (1 ∷ []) $ fsplit ! $ move ! (1 ∷ []) $
    -- [the values; the bound; the field; the cell; the open borrow, in four; the tokens; the value]
    let below : e.index + 1 ≡ d.first = asked.1 in let up : d.first ≡ suc e.index = omega arith in rewrite ! 0 (λ (n : ℕ). ‵ (run_owns R d.ptr n d.items)) up refl $ move ! (8 ∷ 0 ∷ []) $ fjoin ! $ move ! (1 ∷ 0 ∷ []) $ fjoin ! $ move ! (1 ∷ 0 ∷ []) $ fjoin ! $
    move ! (1 ∷ 0 ∷ []) $ closes ! tt Row both vs b o $ feq_i ! (List Val) (vptr b o ∷ []) (vptr b o ∷ []) refl $ fjoin3 ! $
    nothing ! $ nothing ! $ fjoin ! $ move ! (1 ∷ 0 ∷ []) $ fjoin ! $ move ! (1 ∷ 2 ∷ []) $ join ! $
    sets ! (of_opd ! (unit_lit !)) refl (tt, tt) $ use0 𝓛 (raw (fact 𝓤 Told)) (fact_i 𝓤 Told (emp 𝓤) refl) $
    feq_i ! (List Val) (vunit ∷ []) (vunit ∷ []) refl $ returns ! (look_at ! 0 refl) $ free_all ! refl $
    keep ! (2 ∷ 3 ∷ 0 ∷ 1 ∷ []) $ by ! (leaves 𝓛 En stays c y vunit tt (both, (tt, tt)) (tt, (tt, tt)))))))
