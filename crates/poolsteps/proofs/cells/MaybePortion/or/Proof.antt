-- `or` keeps the portion of the first that has one.
use Rattle.poolsteps.proofs.raw.Steps.{◌≡◌, [], ◌∷◌, refl, a_type, Val, inst_fn, SProp, ent, emp, ftrue, flft, ‵, raw, ◌⊛◌, ◌$◌, ◌∵◌, !, qed, by, move, keep, drop, split, join, fsplit, fjoin, use0, use2, no_more, and_then, returns, enter, alloc_all, pass_all, free_all, look_at, get, sets, agg, tables, fact, fact_i, no, RattleType, owns, types_at, plain, nothing, param, layouts, param_laws, Stays, stay_dropped, walk_of, Goes-dropped, proved, leaves, sem}
use types.Kit.{done}
use base.Logic.{sep}
use types.Logic.{Logic}
use seplogic.Ra.Ura.{Ura}
use Rattle.poolsteps.specs.contracts.cells.MaybePortion as maybe
use Rattle.poolsteps.specs.Held.{Held, held_owns, first_of}
use Rattle.std.specs.Prelude.{Option, Some, None}
use Rattle.poolsteps.proofs.raw.Fields.{mark}
use Rattle.poolsteps.proofs.raw.Maybes.{MaybeData, maybe_made, maybe_is}
use Rattle.poolsteps.specs.contracts.cells.MaybePortion.or.{ended, clauses}
use Rattle.poolsteps.specs.contracts.cells.MaybePortion.or.Key.{name as #self}
use Rattle.poolsteps.proofs.cells.MaybePortion.or.Statement.{statement}
use Rattle.poolsteps.proofs.cells.MaybePortion.or.Code as code

-- what either of two owns
first_owns : {M : Type 1} {𝓤 : Ura M} (𝓛 : Logic 𝓤) (R : RattleType) (x y : Option (Held R.Denot)) → ent 𝓤 (sep 𝓤 (sem 𝓛 (held_owns R x)) (sem 𝓛 (held_owns R y))) (sem 𝓛 (held_owns R (first_of x y)))
first_owns 𝓛 R (Some x) y = qed 𝓛 (‵ (held_owns R (Some x)) ∷ ‵ (held_owns R y) ∷ []) ∵ keep ! (0 ∷ []) $ done !
first_owns 𝓛 R None y = qed 𝓛 (‵ (held_owns R None) ∷ ‵ (held_owns R y) ∷ []) ∵ drop ! $ done !

pub or_spec : {M : Type 1} → statement M
or_spec 𝓤 𝓛 𝓜 𝓡 wired X L =
    let H = 𝓛.H in let 𝓣 = tables 𝓤 H 𝓜 𝓡 𝓡.env in let R : RattleType = param 0 X in let LR = param_laws 0 X L in let En = ended X in
    let inst = layouts (a_type ∷ []) (X, tt) in let fn = inst_fn inst code.function in let c = clauses X 𝓛 𝓜.mem 𝓡.returns in
    let Row : RattleType = maybe.the_row R in let D : RattleType = MaybeData R in
    let stays : Stays En.signature.params En.kept = (stay_dropped (plain (λ _. Row)) no, (stay_dropped (plain (λ _. Row)) no, tt)) in
    let goes = Goes-dropped 𝓛 1 (plain (λ _. Row)) no (λ κs x f. refl) in
    proved 𝓛 En stays c 𝓜 𝓡 (goes, (goes, tt)) (#self inst) fn (code.unfolded 𝓤 H 𝓜 𝓡 wired (X, tt))
    (λ κs. ((λ e. mark ∷ []), ((λ e. mark ∷ []), tt))) (λ κs. ((λ e vs is. maybe_is R vs is.0), ((λ e vs is. maybe_is R vs is.0), tt))) (λ κs qs bounds args ghost are.
    let e : Row.Denot = args.0 in let f : Row.Denot = args.1.0 in
    let d : Row.Denot = record { mark = record {}; held = first_of e.held f.held } in let Told : Type 0 = d.held ≡ first_of e.held f.held in
    let y : (walk_of 𝓛 En stays c).Ghost = ((κs, qs, bounds, args, (mark ∷ [], (mark ∷ [], tt))), ghost) in let Post : Val → SProp 𝓤 = (walk_of 𝓛 En stays c).post y in
    let tokens = ‵ (flft κs.0 qs.0) ⊛ ‵ ftrue in
    qed 𝓛 ((tokens ⊛ ‵ (owns (types_at En.signature.params κs) args y.0.4)) ∷ raw ((c κs args).requires ghost) ∷ []) ∵ split ! $ split ! $ move ! (2 ∷ []) $ fsplit ! $ move ! (1 ∷ []) $ fsplit ! $
    keep ! (2 ∷ 0 ∷ 3 ∷ []) $ fsplit ! $ drop ! $ move ! (1 ∷ []) $ fsplit ! $ drop ! $ move ! (1 ∷ 0 ∷ []) $ use2 𝓛 (‵ (held_owns R d.held)) (first_owns 𝓛 R e.held f.held) $
    -- [what either has; the token]
    enter ! 𝓣.C 𝓣.Λ fn (mark ∷ mark ∷ []) Post $ alloc_all ! (λ l. pass_all ! refl ((tt, (tt, tt)), ((tt, (tt, tt)), tt)) $
    sets ! (agg ! (no_more !)) refl (tt, tt) $ sets ! (agg ! (and_then ! (get ! refl) (no_more !))) refl (tt, (tt, tt)) $
    use0 𝓛 (‵ (D.own_val (tt, tt) (mark ∷ []))) (maybe_made R 𝓛) $ fjoin ! $ use0 𝓛 (raw (fact 𝓤 Told)) (fact_i 𝓤 Told (emp 𝓤) refl) $
    nothing ! $ nothing ! $ fjoin ! $ nothing ! $ fjoin ! $ nothing ! $ move ! (4 ∷ 0 ∷ []) $ join ! $
    -- [the tokens; nothing; what is told; the result]
    returns ! (look_at ! 0 refl) $ free_all ! refl $ keep ! (0 ∷ 1 ∷ 3 ∷ 2 ∷ []) $ by ! (leaves 𝓛 En stays c y mark d (tt, (tt, tt)) (tt, (tt, tt)))))
