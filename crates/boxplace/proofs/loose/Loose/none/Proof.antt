-- The walk of `none`.
use Rattle.boxplace.proofs.Steps.{◌≡◌, [], ◌∷◌, refl, a_type, Val, inst_fn, SProp, emp, ftrue, ‵, raw, ◌⊛◌, ◌$◌, ◌∵◌, !, qed, by, keep, split, fjoin, use0, no_more, and_then, returns, enter, alloc_all, pass_all, free_all, look_at, sets, agg, tables, fact, fact_i, RattleType, null_ptr, nothing, param, layouts, walk_of, proved, leaves}
use Rattle.std.proofs.Common.{lit<, None}
use types.Kit.{fpack}
use types.Run.{lit}
use denote.Triple.Entry.{alive}
use Rattle.boxplace.specs.contracts.loose.Loose as loose
use Rattle.boxplace.proofs.LooseFields.{word, Data, data_made}
use Rattle.boxplace.specs.contracts.loose.Loose.none.{ended, clauses}
use Rattle.boxplace.specs.contracts.loose.Loose.none.Key.{name as #self}
use Rattle.boxplace.proofs.loose.Loose.none.Statement.{statement}
use Rattle.boxplace.proofs.loose.Loose.none.Code as code

pub none_spec : {M : Type 1} → statement M
none_spec 𝓤 𝓛 𝓜 𝓡 wired X L =
    let H = 𝓛.H in let 𝓣 = tables 𝓤 H 𝓜 𝓡 𝓡.env in let R : RattleType = param 0 X in let En = ended X in let c = clauses X 𝓛 𝓜.mem 𝓡.returns in
    let inst = layouts (a_type ∷ []) (X, tt) in let fn = inst_fn inst code.function in let Row : RattleType = loose.the_row R in
    proved 𝓛 En tt c 𝓜 𝓡 tt (#self inst) fn (code.unfolded 𝓤 H 𝓜 𝓡 wired (X, tt)) (λ κs. tt) (λ κs. tt) (λ κs qs bounds a gh are.
    let y : (walk_of 𝓛 En tt c).Ghost = ((κs, qs, bounds, a, tt), gh) in let Post : Val → SProp 𝓤 = (walk_of 𝓛 En tt c).post y in
    let d : Row.Denot = record { at = null_ptr; item = None } in let Told : Type 0 = d.item ≡ None in
    qed 𝓛 ((raw (alive 𝓛 En.signature κs qs) ⊛ ‵ ftrue) ∷ raw ((c κs a).requires gh) ∷ []) ∵ split ! $ keep ! (0 ∷ []) $
    enter ! 𝓣.C 𝓣.Λ fn [] Post $ alloc_all ! (λ l. pass_all ! refl tt $
    sets ! (agg ! (and_then ! (lit ! tt) (no_more !))) refl (tt, (record { fits = lit< tt }, tt)) $
    nothing ! $ fpack ! (null_ptr ≡ null_ptr) (λ _. ftrue) refl $ use0 𝓛 (‵ ((Data R).own_val (null_ptr, tt) (word null_ptr ∷ []))) (data_made R 𝓛 null_ptr) $ fjoin ! $
    use0 𝓛 (raw (fact 𝓤 Told)) (fact_i 𝓤 Told (emp 𝓤) refl) $ nothing ! $
    -- [nothing; what is told; no box; the tokens]
    returns ! (look_at ! 0 refl) $ free_all ! refl $ keep ! (3 ∷ 0 ∷ 2 ∷ 1 ∷ []) $ by ! (leaves 𝓛 En tt c y (word null_ptr) d tt tt)))
