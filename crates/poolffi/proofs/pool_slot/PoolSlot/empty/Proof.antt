-- The walk of `empty`.
use Rattle.poolhandle.proofs.Steps.{◌≡◌, [], ◌∷◌, refl, Val, SProp, emp, ftrue, ‵, raw, ◌⊛◌, ◌$◌, ◌∵◌, !, qed, by, keep, split, fjoin, use0, no_more, and_then, returns, enter, alloc_all, pass_all, free_all, look_at, sets, agg, tables, fact, fact_i, RattleType, null_ptr, nothing, walk_of, proved, leaves}
use Rattle.std.proofs.Common.{lit<}
use types.Run.{lit}
use denote.Triple.Entry.{alive}
use Rattle.poolffi.specs.contracts.pool_slot.PoolSlot as slot
use Rattle.poolhandle.proofs.SlotFields.{sized_val, sized_own, sized_made}
use Rattle.poolffi.specs.contracts.pool_slot.PoolSlot.empty.{ended, clauses}
use Rattle.poolffi.specs.contracts.pool_slot.PoolSlot.empty.Key.{name as #self}
use Rattle.poolffi.proofs.pool_slot.PoolSlot.empty.Statement.{statement}
use Rattle.poolffi.proofs.pool_slot.PoolSlot.empty.Code as code

pub empty_spec : {M : Type 1} → statement M
empty_spec 𝓤 𝓛 𝓜 𝓡 wired =
    let H = 𝓛.H in let 𝓣 = tables 𝓤 H 𝓜 𝓡 𝓡.env in let Row : RattleType = slot.the_row in let En = ended in let c = clauses 𝓛 𝓜.mem 𝓡.returns in let fn = code.function in
    proved 𝓛 En tt c 𝓜 𝓡 tt #self fn (code.unfolded 𝓤 H 𝓜 𝓡 wired) (λ κs. tt) (λ κs. tt) (λ κs qs bounds a gh are.
    let y : (walk_of 𝓛 En tt c).Ghost = ((κs, qs, bounds, a, tt), gh) in let Post : Val → SProp 𝓤 = (walk_of 𝓛 En tt c).post y in
    let d : Row.Denot = record { at = null_ptr; full = 0; items = []; counted = refl } in let Told : Type 0 = (d.full ≡ 0) × (d.items ≡ []) in
    qed 𝓛 ((raw (alive 𝓛 En.signature κs qs) ⊛ ‵ ftrue) ∷ raw ((c κs a).requires gh) ∷ []) ∵ split ! $ keep ! (0 ∷ []) $
    enter ! 𝓣.C 𝓣.Λ fn [] Post $ alloc_all ! (λ l. pass_all ! refl tt $
    sets ! (agg ! (and_then ! (lit ! tt) (and_then ! (lit ! tt) (no_more !)))) refl (tt, (record { fits = lit< tt }, (record { fits = lit< tt }, tt))) $
    nothing ! $ use0 𝓛 (‵ (sized_own null_ptr 0 (sized_val null_ptr 0 ∷ []))) (sized_made 𝓛 null_ptr 0 (lit< tt)) $ fjoin ! $
    use0 𝓛 (raw (fact 𝓤 Told)) (fact_i 𝓤 Told (emp 𝓤) (refl, refl)) $ nothing ! $
    -- [nothing; what is told; the slot; the token]
    returns ! (look_at ! 0 refl) $ free_all ! refl $ keep ! (3 ∷ 0 ∷ 2 ∷ 1 ∷ []) $ by ! (leaves 𝓛 En tt c y (sized_val null_ptr 0) d tt tt)))
