-- `deal` hands the portion to one of two, by what the tally has.
use Rattle.poolsteps.proofs.raw.Steps.{◌≡◌, [], ◌∷◌, refl, a_type, named, Val, vptr, inst_fn, SProp, ent, emp, Fml, ftrue, fsep, flft, ‵, raw, ◌⊛◌, ◌$◌, ◌∵◌, !, qed, by, move, keep, split, join, fsplit, fjoin, use0, use1, use2, no_more, and_then, returns, enter, alloc_all, pass_all, free_all, look_at, get, sets, agg, tables, fact, fact_i, no, yes, RattleType, RefOf, owns, types_at, plain, nothing, param, layout, layouts, shr_vals, shr_Tells, Stays, stay_dropped, walk_of, Goes-dropped, proved, leaves, sem}
use types.Kit.{done}
use base.Logic.{sep}
use types.Logic.{Logic}
use seplogic.Ra.Ura.{Ura}
use denote.Struct.Tuple.{Tuple}
use Rattle.std_alloc.proofs.Pairs.{pair_val, pair_Typed, pair_of}
use Rattle.poolsteps.specs.contracts.cells.MaybePortion as maybe
use Rattle.poolsteps.specs.contracts.cells.Tally as tally_type
use Rattle.poolsteps.specs.Held.{Held, held_owns, if_chosen, unless_chosen}
use Rattle.std.specs.Prelude.{ℕ, Option, Bool, true, false, ◌==◌}
use Rattle.poolsteps.proofs.raw.Fields.{mark}
use Rattle.poolsteps.proofs.raw.Maybes.{MaybeData, maybe_made, maybe_is}
use Rattle.poolsteps.specs.contracts.cells.MaybePortion.deal.{ended, clauses}
use Rattle.poolsteps.specs.contracts.cells.MaybePortion.deal.Key.{name as #self}
use Rattle.poolsteps.proofs.cells.MaybePortion.deal.Statement.{statement}
use Rattle.poolsteps.proofs.cells.MaybePortion.deal.Code as code

-- what one has and the other has not
dealt_owns : {M : Type 1} {𝓤 : Ura M} (𝓛 : Logic 𝓤) (R : RattleType) (b : Bool) (x : Option (Held R.Denot))
    → ent 𝓤 (sem 𝓛 (held_owns R x)) (sep 𝓤 (sem 𝓛 (held_owns R (if_chosen b x))) (sem 𝓛 (held_owns R (unless_chosen b x))))
dealt_owns 𝓛 R true x = qed 𝓛 (‵ (held_owns R x) ∷ []) ∵ nothing ! $ move ! (1 ∷ []) $ done !
dealt_owns 𝓛 R false x = qed 𝓛 (‵ (held_owns R x) ∷ []) ∵ nothing ! $ done !

pub deal_spec : {M : Type 1} → statement M
deal_spec 𝓤 𝓛 𝓜 𝓡 wired X L =
    let H = 𝓛.H in let 𝓣 = tables 𝓤 H 𝓜 𝓡 𝓡.env in let R : RattleType = param 0 X in let En = ended X in
    let inst = layouts (a_type ∷ []) (X, tt) in let fn = inst_fn inst code.function in let c = clauses X 𝓛 𝓜.mem 𝓡.returns in
    let Row : RattleType = maybe.the_row R in let D : RattleType = MaybeData R in
    let other = RefOf (0 ∷ []) tt (plain (λ _. tally_type.the_row)) (λ _. tt) in
    let stays : Stays En.signature.params En.kept = (stay_dropped (plain (λ _. Row)) no, (stay_dropped other yes, tt)) in
    proved 𝓛 En stays c 𝓜 𝓡 (Goes-dropped 𝓛 2 (plain (λ _. Row)) no (λ κs x f. refl), (Goes-dropped 𝓛 2 other yes (λ κs x f. refl), tt)) (#self inst) fn (code.unfolded 𝓤 H 𝓜 𝓡 wired (X, tt))
    (λ κs. ((λ e. mark ∷ []), (shr_vals, tt))) (λ κs. ((λ e vs is. maybe_is R vs is.0), (shr_Tells (named 0) κs.0 tally_type.the_row, tt))) (λ κs qs bounds args ghost are.
    let b : ℕ = args.1.0.ref_ptr.0 in let o : ℕ = args.1.0.ref_ptr.1 in let others : Fml = fsep (flft κs.1.0 qs.1.0) ftrue in
    let e : Row.Denot = args.0 in let one : Bool = args.1.0.now.count == 1 in
    let first : Row.Denot = record { mark = record {}; held = if_chosen one e.held } in let second : Row.Denot = record { mark = record {}; held = unless_chosen one e.held } in
    let Told : Type 0 = (first.held ≡ if_chosen one e.held) × (second.held ≡ unless_chosen one e.held) in
    let y : (walk_of 𝓛 En stays c).Ghost = ((κs, qs, bounds, args, (mark ∷ [], (vptr b o ∷ [], tt))), ghost) in let Post : Val → SProp 𝓤 = (walk_of 𝓛 En stays c).post y in
    let tokens = ‵ (flft κs.0 qs.0) ⊛ ‵ others in
    qed 𝓛 ((tokens ⊛ ‵ (owns (types_at En.signature.params κs) args y.0.4)) ∷ raw ((c κs args).requires ghost) ∷ []) ∵ split ! $ split ! $ move ! (2 ∷ []) $ fsplit ! $ fsplit ! $ keep ! (1 ∷ 3 ∷ 4 ∷ []) $
    -- [the portion; the tokens, in two entries]
    use1 𝓛 (‵ (held_owns R first.held) ⊛ ‵ (held_owns R second.held)) (dealt_owns 𝓛 R one e.held) $ split ! $
    enter ! 𝓣.C 𝓣.Λ fn (mark ∷ vptr b o ∷ []) Post $ alloc_all ! (λ l. pass_all ! refl ((tt, (tt, tt)), ((tt, tt), tt)) $
    sets ! (agg ! (no_more !)) refl (tt, tt) $ sets ! (agg ! (and_then ! (get ! refl) (no_more !))) refl (tt, (tt, tt)) $
    sets ! (agg ! (no_more !)) refl (tt, tt) $ sets ! (agg ! (and_then ! (get ! refl) (no_more !))) refl (tt, (tt, tt)) $
    sets ! (agg ! (and_then ! (get ! refl) (and_then ! (get ! refl) (no_more !)))) refl (pair_Typed (layout Row) (layout Row) mark mark (tt, (tt, tt)) (tt, (tt, tt))) $
    use0 𝓛 (‵ (D.own_val (tt, tt) (mark ∷ []))) (maybe_made R 𝓛) $ fjoin ! $ move ! (1 ∷ []) $ use0 𝓛 (‵ (D.own_val (tt, tt) (mark ∷ []))) (maybe_made R 𝓛) $ fjoin ! $ move ! (1 ∷ 0 ∷ []) $
    use2 𝓛 (‵ ((Tuple (Row ∷ Row ∷ [])).own_val (first, second) (pair_val mark mark ∷ []))) (pair_of 𝓛 Row Row first second mark mark) $ use0 𝓛 (raw (fact 𝓤 Told)) (fact_i 𝓤 Told (emp 𝓤) (refl, refl)) $
    nothing ! $ nothing ! $ fjoin ! $ nothing ! $ fjoin ! $
    -- [nothing; what is told; the result; the tokens, in two entries]
    returns ! (look_at ! 0 refl) $ free_all ! refl $ keep ! (3 ∷ 4 ∷ 0 ∷ 2 ∷ 1 ∷ []) $ join ! $ by ! (leaves 𝓛 En stays c y (pair_val mark mark) (first, second) (tt, (tt, tt)) (tt, (tt, tt)))))
