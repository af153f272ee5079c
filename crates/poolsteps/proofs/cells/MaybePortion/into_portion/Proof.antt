-- `into_portion` gives the portion.
use Rattle.poolsteps.proofs.raw.Steps.{◌≡◌, rewrite, [], ◌∷◌, refl, a_type, Val, inst_fn, SProp, emp, ftrue, flft, ‵, raw, ◌⊛◌, ◌$◌, ◌∵◌, !, qed, by, move, keep, split, join, fsplit, fjoin, use0, no_more, and_then, returns, enter, alloc_all, pass_all, free_all, look_at, get, sets, agg, tables, fact, fact_i, no, RattleType, owns, types_at, plain, nothing, heard, param, layouts, param_laws, Stays, stay_dropped, walk_of, Goes-dropped, proved, leaves}
use Rattle.poolsteps.specs.contracts.cells.MaybePortion as maybe
use Rattle.poolsteps.specs.Held.{Held, held_of, held_owns, portion_of}
use Rattle.std.specs.Prelude.{Option, Some, IsSome}
use Rattle.poolsteps.specs.contracts.memory.Portion as portion
use Rattle.poolsteps.proofs.raw.Fields.{mark, Data, data_made}
use Rattle.poolsteps.proofs.raw.Maybes.{maybe_is, value_of}
use Rattle.poolsteps.specs.contracts.cells.MaybePortion.into_portion.{ended, clauses}
use Rattle.poolsteps.specs.contracts.cells.MaybePortion.into_portion.Key.{name as #self}
use Rattle.poolsteps.proofs.cells.MaybePortion.into_portion.Statement.{statement}
use Rattle.poolsteps.proofs.cells.MaybePortion.into_portion.Code as code

pub into_portion_spec : {M : Type 1} → statement M
into_portion_spec 𝓤 𝓛 𝓜 𝓡 wired X L =
    let H = 𝓛.H in let 𝓣 = tables 𝓤 H 𝓜 𝓡 𝓡.env in let R : RattleType = param 0 X in let LR = param_laws 0 X L in let En = ended X in
    let inst = layouts (a_type ∷ []) (X, tt) in let fn = inst_fn inst code.function in let c = clauses X 𝓛 𝓜.mem 𝓡.returns in
    let From : RattleType = maybe.the_row R in let Row : RattleType = portion.the_row R in let D : RattleType = Data R in
    let stays : Stays En.signature.params En.kept = (stay_dropped (plain (λ _. From)) no, tt) in
    proved 𝓛 En stays c 𝓜 𝓡 (Goes-dropped 𝓛 1 (plain (λ _. From)) no (λ κs x f. refl), tt) (#self inst) fn (code.unfolded 𝓤 H 𝓜 𝓡 wired (X, tt))
    (λ κs. ((λ e. mark ∷ []), tt)) (λ κs. ((λ e vs is. maybe_is R vs is.0), tt)) (λ κs qs bounds args ghost are.
    let e : From.Denot = args.0 in let Asked : Type 0 = IsSome e.held in
    let y : (walk_of 𝓛 En stays c).Ghost = ((κs, qs, bounds, args, (mark ∷ [], tt)), ghost) in let Post : Val → SProp 𝓤 = (walk_of 𝓛 En stays c).post y in
    let tokens = ‵ (flft κs.0 qs.0) ⊛ ‵ ftrue in
    qed 𝓛 ((tokens ⊛ ‵ (owns (types_at En.signature.params κs) args y.0.4)) ∷ raw (fact 𝓤 _) ∷ raw (fact 𝓤 Asked) ∷ []) ∵ keep ! (2 ∷ 0 ∷ []) $ heard ! Asked (λ asked.
    let h : Held X.Denot = (value_of e.held asked).0 in let is : e.held ≡ Some h = (value_of e.held asked).1 in let d : Row.Denot = portion_of h in let Told : Type 0 = e.held ≡ Some (held_of d) in
    split ! $ split ! $ move ! (2 ∷ []) $ fsplit ! $ fsplit ! $ keep ! (1 ∷ 3 ∷ []) $ rewrite ! 0 (λ (o : Option (Held X.Denot)). ‵ (held_owns R o)) is refl $
    -- [the portion; the token]
    enter ! 𝓣.C 𝓣.Λ fn (mark ∷ []) Post $ alloc_all ! (λ l. pass_all ! refl ((tt, (tt, tt)), tt) $
    sets ! (agg ! (no_more !)) refl (tt, tt) $ sets ! (agg ! (and_then ! (get ! refl) (no_more !))) refl (tt, (tt, tt)) $
    use0 𝓛 (‵ (D.own_val (tt, tt) (mark ∷ []))) (data_made R 𝓛) $ fjoin ! $ use0 𝓛 (raw (fact 𝓤 Told)) (fact_i 𝓤 Told (emp 𝓤) is) $
    nothing ! $ nothing ! $ fjoin ! $ nothing ! $ move ! (4 ∷ 0 ∷ []) $ join ! $
    -- [the tokens; nothing; what is told; the result]
    returns ! (look_at ! 0 refl) $ free_all ! refl $ keep ! (0 ∷ 1 ∷ 3 ∷ 2 ∷ []) $ by ! (leaves 𝓛 En stays c y mark d (tt, tt) (tt, tt)))))
