-- `some` keeps the portion.
use Rattle.poolsteps.proofs.raw.Steps.{◌≡◌, [], ◌∷◌, refl, a_type, Val, inst_fn, SProp, emp, ftrue, flft, ‵, raw, ◌⊛◌, ◌$◌, ◌∵◌, !, qed, by, move, keep, split, join, fsplit, fjoin, use0, no_more, and_then, returns, enter, alloc_all, pass_all, free_all, look_at, get, sets, agg, tables, fact, fact_i, no, RattleType, owns, types_at, plain, nothing, param, layouts, param_laws, Stays, stay_dropped, walk_of, Goes-dropped, proved, leaves}
use Rattle.poolsteps.specs.contracts.cells.MaybePortion as maybe
use Rattle.poolsteps.specs.Held.{held_of}
use Rattle.std.specs.Prelude.{Some}
use Rattle.poolsteps.specs.contracts.memory.Portion as portion
use Rattle.poolsteps.proofs.raw.Fields.{mark, data_is}
use Rattle.poolsteps.proofs.raw.Maybes.{MaybeData, maybe_made}
use Rattle.poolsteps.specs.contracts.cells.MaybePortion.some.{ended, clauses}
use Rattle.poolsteps.specs.contracts.cells.MaybePortion.some.Key.{name as #self}
use Rattle.poolsteps.proofs.cells.MaybePortion.some.Statement.{statement}
use Rattle.poolsteps.proofs.cells.MaybePortion.some.Code as code

pub some_spec : {M : Type 1} → statement M
some_spec 𝓤 𝓛 𝓜 𝓡 wired X L =
    let H = 𝓛.H in let 𝓣 = tables 𝓤 H 𝓜 𝓡 𝓡.env in let R : RattleType = param 0 X in let LR = param_laws 0 X L in let En = ended X in
    let inst = layouts (a_type ∷ []) (X, tt) in let fn = inst_fn inst code.function in let c = clauses X 𝓛 𝓜.mem 𝓡.returns in
    let From : RattleType = portion.the_row R in let Row : RattleType = maybe.the_row R in let D : RattleType = MaybeData R in
    let stays : Stays En.signature.params En.kept = (stay_dropped (plain (λ _. From)) no, tt) in
    proved 𝓛 En stays c 𝓜 𝓡 (Goes-dropped 𝓛 1 (plain (λ _. From)) no (λ κs x f. refl), tt) (#self inst) fn (code.unfolded 𝓤 H 𝓜 𝓡 wired (X, tt))
    (λ κs. ((λ e. mark ∷ []), tt)) (λ κs. ((λ e vs is. data_is R vs is.0), tt)) (λ κs qs bounds args ghost are.
    let e : From.Denot = args.0 in let d : Row.Denot = record { mark = record {}; held = Some (held_of e) } in let Told : Type 0 = d.held ≡ Some (held_of e) in
    let y : (walk_of 𝓛 En stays c).Ghost = ((κs, qs, bounds, args, (mark ∷ [], tt)), ghost) in let Post : Val → SProp 𝓤 = (walk_of 𝓛 En stays c).post y in
    let tokens = ‵ (flft κs.0 qs.0) ⊛ ‵ ftrue in
    qed 𝓛 ((tokens ⊛ ‵ (owns (types_at En.signature.params κs) args y.0.4)) ∷ raw ((c κs args).requires ghost) ∷ []) ∵ split ! $ split ! $ move ! (2 ∷ []) $ fsplit ! $ fsplit ! $ keep ! (1 ∷ 3 ∷ []) $
    -- [the portion; the token]
    enter ! 𝓣.C 𝓣.Λ fn (mark ∷ []) Post $ alloc_all ! (λ l. pass_all ! refl ((tt, (tt, tt)), tt) $
    sets ! (agg ! (no_more !)) refl (tt, tt) $ sets ! (agg ! (and_then ! (get ! refl) (no_more !))) refl (tt, (tt, tt)) $
    use0 𝓛 (‵ (D.own_val (tt, tt) (mark ∷ []))) (maybe_made R 𝓛) $ fjoin ! $ use0 𝓛 (raw (fact 𝓤 Told)) (fact_i 𝓤 Told (emp 𝓤) refl) $
    nothing ! $ nothing ! $ fjoin ! $ nothing ! $ move ! (4 ∷ 0 ∷ []) $ join ! $
    -- [the tokens; nothing; what is told; the result]
    returns ! (look_at ! 0 refl) $ free_all ! refl $ keep ! (0 ∷ 1 ∷ 3 ∷ 2 ∷ []) $ by ! (leaves 𝓛 En stays c y mark d (tt, tt) (tt, tt))))
