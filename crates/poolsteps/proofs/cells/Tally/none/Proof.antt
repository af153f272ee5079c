-- `none` counts none.
use Rattle.poolsteps.proofs.raw.Steps.{◌≡◌, [], ◌∷◌, refl, Val, SProp, emp, ftrue, ‵, raw, ◌⊛◌, ◌$◌, ◌∵◌, !, qed, by, keep, split, fjoin, use0, no_more, and_then, returns, enter, alloc_all, pass_all, free_all, look_at, get, sets, agg, tables, fact, fact_i, RattleType, nothing, walk_of, proved, leaves}
use Rattle.poolsteps.specs.contracts.cells.Tally as tally
use Rattle.poolsteps.proofs.raw.Fields.{mark}
use Rattle.poolsteps.proofs.raw.Tallies.{TallyData, tally_made}
use Rattle.poolsteps.specs.contracts.cells.Tally.none.{ended, clauses}
use Rattle.poolsteps.specs.contracts.cells.Tally.none.Key.{name as #self}
use Rattle.poolsteps.proofs.cells.Tally.none.Statement.{statement}
use Rattle.poolsteps.proofs.cells.Tally.none.Code as code

pub none_spec : {M : Type 1} → statement M
none_spec 𝓤 𝓛 𝓜 𝓡 wired =
    let H = 𝓛.H in let 𝓣 = tables 𝓤 H 𝓜 𝓡 𝓡.env in let En = ended in
    let fn = code.function in let c = clauses 𝓛 𝓜.mem 𝓡.returns in
    let Row : RattleType = tally.the_row in let D : RattleType = TallyData in
    let d : Row.Denot = record { mark = record {}; generation = 0; count = 0 } in let Told : Type 0 = (d.generation ≡ 0) × (d.count ≡ 0) in
    proved 𝓛 En tt c 𝓜 𝓡 tt #self fn (code.unfolded 𝓤 H 𝓜 𝓡 wired) (λ κs. tt) (λ κs. tt) (λ κs qs bounds args ghost are.
    let y : (walk_of 𝓛 En tt c).Ghost = ((κs, qs, bounds, args, tt), ghost) in let Post : Val → SProp 𝓤 = (walk_of 𝓛 En tt c).post y in
    qed 𝓛 ((raw (denote.Triple.Entry.alive 𝓛 En.signature κs qs) ⊛ ‵ ftrue) ∷ raw ((c κs args).requires ghost) ∷ []) ∵ split ! $ keep ! (0 ∷ []) $
    enter ! 𝓣.C 𝓣.Λ fn [] Post $ alloc_all ! (λ l. pass_all ! refl tt $
    sets ! (agg ! (no_more !)) refl (tt, tt) $ sets ! (agg ! (and_then ! (get ! refl) (no_more !))) refl (tt, (tt, tt)) $
    nothing ! $ use0 𝓛 (‵ (D.own_val (tt, tt) (mark ∷ []))) (tally_made 𝓛) $ fjoin ! $ use0 𝓛 (raw (fact 𝓤 Told)) (fact_i 𝓤 Told (emp 𝓤) (refl, refl)) $ nothing ! $
    -- [nothing; what is told; the result; the tokens]
    returns ! (look_at ! 0 refl) $ free_all ! refl $ keep ! (3 ∷ 0 ∷ 2 ∷ 1 ∷ []) $ by ! (leaves 𝓛 En tt c y mark d tt tt)))
