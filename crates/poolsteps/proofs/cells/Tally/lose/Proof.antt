-- `lose` counts one reference less.
use Rattle.poolsteps.proofs.raw.Steps.{◌≡◌, ◌-◌, [], ◌∷◌, refl, Val, SProp, emp, ftrue, ‵, raw, ◌⊛◌, ◌$◌, ◌∵◌, !, qed, by, keep, split, fjoin, use0, no_more, and_then, returns, enter, alloc_all, pass_all, free_all, look_at, get, sets, agg, tables, fact, fact_i, yes, RattleType, owns, types_at, plain, nothing, Stays, stay_dropped, walk_of, Goes-dropped, proved, leaves}
use Rattle.poolsteps.specs.contracts.cells.Tally as tally
use Rattle.poolsteps.proofs.raw.Fields.{mark}
use Rattle.poolsteps.proofs.raw.Tallies.{TallyData, tally_made, tally_is}
use Rattle.poolsteps.specs.contracts.cells.Tally.lose.{ended, clauses}
use Rattle.poolsteps.specs.contracts.cells.Tally.lose.Key.{name as #self}
use Rattle.poolsteps.proofs.cells.Tally.lose.Statement.{statement}
use Rattle.poolsteps.proofs.cells.Tally.lose.Code as code

pub lose_spec : {M : Type 1} → statement M
lose_spec 𝓤 𝓛 𝓜 𝓡 wired =
    let H = 𝓛.H in let 𝓣 = tables 𝓤 H 𝓜 𝓡 𝓡.env in let En = ended in
    let fn = code.function in let c = clauses 𝓛 𝓜.mem 𝓡.returns in
    let Row : RattleType = tally.the_row in let D : RattleType = TallyData in
    let stays : Stays En.signature.params En.kept = (stay_dropped (plain (λ _. Row)) yes, tt) in
    proved 𝓛 En stays c 𝓜 𝓡 (Goes-dropped 𝓛 0 (plain (λ _. Row)) yes (λ κs x f. refl), tt) #self fn (code.unfolded 𝓤 H 𝓜 𝓡 wired)
    (λ κs. ((λ e. mark ∷ []), tt)) (λ κs. ((λ e vs is. tally_is vs is.0), tt)) (λ κs qs bounds args ghost are.
    let e : Row.Denot = args.0 in let d : Row.Denot = record e { count = e.count - 1 } in let Told : Type 0 = (d.generation ≡ e.generation) × (d.count ≡ e.count - 1) in
    let y : (walk_of 𝓛 En stays c).Ghost = ((κs, qs, bounds, args, (mark ∷ [], tt)), ghost) in let Post : Val → SProp 𝓤 = (walk_of 𝓛 En stays c).post y in
    qed 𝓛 ((‵ ftrue ⊛ ‵ (owns (types_at En.signature.params κs) args y.0.4)) ∷ raw ((c κs args).requires ghost) ∷ []) ∵ split ! $ keep ! (0 ∷ []) $
    -- [the tokens]
    enter ! 𝓣.C 𝓣.Λ fn (mark ∷ []) Post $ alloc_all ! (λ l. pass_all ! refl ((tt, (tt, tt)), tt) $
    sets ! (agg ! (no_more !)) refl (tt, tt) $ sets ! (agg ! (and_then ! (get ! refl) (no_more !))) refl (tt, (tt, tt)) $
    nothing ! $ use0 𝓛 (‵ (D.own_val (tt, tt) (mark ∷ []))) (tally_made 𝓛) $ fjoin ! $ use0 𝓛 (raw (fact 𝓤 Told)) (fact_i 𝓤 Told (emp 𝓤) (refl, refl)) $
    nothing ! $ nothing ! $ fjoin ! $
    -- [nothing; what is told; the result; the tokens]
    returns ! (look_at ! 0 refl) $ free_all ! refl $ keep ! (3 ∷ 0 ∷ 2 ∷ 1 ∷ []) $ by ! (leaves 𝓛 En stays c y mark d (tt, tt) (tt, tt))))
