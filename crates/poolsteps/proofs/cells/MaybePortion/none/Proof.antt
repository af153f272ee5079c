-- `none` has nothing.
use Rattle.poolsteps.proofs.raw.Steps.{◌≡◌, [], ◌∷◌, refl, a_type, Val, inst_fn, SProp, emp, ftrue, ‵, raw, ◌⊛◌, ◌$◌, ◌∵◌, !, qed, by, keep, split, fjoin, use0, no_more, and_then, returns, enter, alloc_all, pass_all, free_all, look_at, get, sets, agg, tables, fact, fact_i, RattleType, nothing, param, layouts, walk_of, proved, leaves}
use Rattle.poolsteps.specs.contracts.cells.MaybePortion as maybe
use Rattle.std.specs.Prelude.{None}
use Rattle.poolsteps.proofs.raw.Fields.{mark}
use Rattle.poolsteps.proofs.raw.Maybes.{MaybeData, maybe_made}
use Rattle.poolsteps.specs.contracts.cells.MaybePortion.none.{ended, clauses}
use Rattle.poolsteps.specs.contracts.cells.MaybePortion.none.Key.{name as #self}
use Rattle.poolsteps.proofs.cells.MaybePortion.none.Statement.{statement}
use Rattle.poolsteps.proofs.cells.MaybePortion.none.Code as code

pub none_spec : {M : Type 1} → statement M
none_spec 𝓤 𝓛 𝓜 𝓡 wired X L =
    let H = 𝓛.H in let 𝓣 = tables 𝓤 H 𝓜 𝓡 𝓡.env in let R : RattleType = param 0 X in let En = ended X in
    let inst = layouts (a_type ∷ []) (X, tt) in let fn = inst_fn inst code.function in let c = clauses X 𝓛 𝓜.mem 𝓡.returns in
    let Row : RattleType = maybe.the_row R in let D : RattleType = MaybeData R in
    let d : Row.Denot = record { mark = record {}; held = None } in let Told : Type 0 = d.held ≡ None in
    proved 𝓛 En tt c 𝓜 𝓡 tt (#self inst) fn (code.unfolded 𝓤 H 𝓜 𝓡 wired (X, tt)) (λ κs. tt) (λ κs. tt) (λ κs qs bounds args ghost are.
    let y : (walk_of 𝓛 En tt c).Ghost = ((κs, qs, bounds, args, tt), ghost) in let Post : Val → SProp 𝓤 = (walk_of 𝓛 En tt c).post y in
    qed 𝓛 ((raw (denote.Triple.Entry.alive 𝓛 En.signature κs qs) ⊛ ‵ ftrue) ∷ raw ((c κs args).requires ghost) ∷ []) ∵ split ! $ keep ! (0 ∷ []) $
    enter ! 𝓣.C 𝓣.Λ fn [] Post $ alloc_all ! (λ l. pass_all ! refl tt $
    sets ! (agg ! (no_more !)) refl (tt, tt) $ sets ! (agg ! (and_then ! (get ! refl) (no_more !))) refl (tt, (tt, tt)) $
    nothing ! $ use0 𝓛 (‵ (D.own_val (tt, tt) (mark ∷ []))) (maybe_made R 𝓛) $ fjoin ! $ use0 𝓛 (raw (fact 𝓤 Told)) (fact_i 𝓤 Told (emp 𝓤) refl) $ nothing ! $
    -- [nothing; what is told; the result; the tokens]
    returns ! (look_at ! 0 refl) $ free_all ! refl $ keep ! (3 ∷ 0 ∷ 2 ∷ 1 ∷ []) $ by ! (leaves 𝓛 En tt c y mark d tt tt)))
