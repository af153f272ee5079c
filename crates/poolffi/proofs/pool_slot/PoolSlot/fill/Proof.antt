-- The walk of `fill`.
use Rattle.poolhandle.proofs.Steps.{◌≡◌, List, [], ◌∷◌, ◌++◌, refl, sym, subst, Val, vptr, SProp, ent, emp, id⊢, WpFn, ‵, raw, ◌⊛◌, ◌$◌, ◌∵◌, !, qed, by, move, keep, split, fsplit, fjoin, use0, suffices, stop, fld, of_opd, no_more, and_then, returns, enter, alloc_all, pass_all, free_all, look_at, get, get_in, sets, agg, sub, whole, tables, fact, fact_i, RattleType, owns, types_at, plain, Ptr, block_ptr, nothing, Stays, stay_dropped, walk_of, Goes-dropped, proved_at, leaves}
use Rattle.std.proofs.Common.{lit<}
use types.Run.{lit}
use denote.Triple.Entry.{alive}
use Rattle.std.specs.contracts.alloc.Global as global
use Rattle.std.proofs.alloc.Global.TheLaws.{the_row_laws}
use Rattle.std.specs.contracts.impls.GlobalAllocator.TheImpl.{ghosts}
use Rattle.poolffi.specs.contracts.pool_slot.PoolSlot as slot
use Rattle.poolffi.specs.contracts.caller.Caller as caller
use Rattle.boxplace.proofs.UnboxedFields.{pair, pair_good, unboxed_out, Row as Unboxed}
use Rattle.poolhandle.proofs.SlotFields.{sized_val, sized_own, sized_made, sized_typed}
use Rattle.poolffi.specs.contracts.pool_slot.PoolSlot.fill.{ended, clauses}
use Rattle.poolffi.specs.contracts.pool_slot.PoolSlot.fill.Key.{name as #self}
use Rattle.poolffi.proofs.pool_slot.PoolSlot.fill.Statement.{statement}
use Rattle.poolffi.proofs.pool_slot.PoolSlot.fill.Code as code

pub fill_spec : {M : Type 1} → statement M
fill_spec 𝓤 𝓛 𝓜 𝓡 wired =
    let H = 𝓛.H in let 𝓣 = tables 𝓤 H 𝓜 𝓡 𝓡.env in let R : RattleType = caller.the_row in let En = ended in let c = clauses 𝓛 𝓜.mem 𝓡.returns in let fn = code.function in
    let Z : RattleType = global.the_row in let U : RattleType = Unboxed R Z the_row_laws ghosts in let Row : RattleType = slot.the_row in
    let stays : Stays En.signature.params En.kept = (stay_dropped (plain (λ _. U)) En.kept.0, tt) in
    proved_at 𝓛 En stays c 𝓜 𝓡 (Goes-dropped 𝓛 0 (plain (λ _. U)) En.kept.0 (λ κs x f. refl), tt) #self fn (code.unfolded 𝓤 H 𝓜 𝓡 wired) (λ z are.
    let v : U.Denot = z.0.3.0 in let x = v.object in
    let Post : Val → SProp 𝓤 = (walk_of 𝓛 En stays c).post z in let Run : List Val → SProp 𝓤 = λ ws. WpFn 𝓤 H 𝓣.C 𝓣.Λ fn ws Post in
    qed 𝓛 ((raw (alive 𝓛 En.signature z.0.0 z.0.1) ⊛ ‵ (owns (types_at En.signature.params z.0.0) z.0.3 z.0.4)) ∷ raw ((c z.0.0 z.0.3).requires z.1) ∷ []) ∵ split ! $ move ! (1 ∷ []) $ fsplit ! $
    unboxed_out R Z the_row_laws ghosts ! v z.0.4.0 (λ b o h e laid fits.
    -- [the box; the handle; nothing; alive; what is asked]
    let p : Ptr = block_ptr b o in let w : Val = pair (vptr b o) h in
    let d : Row.Denot = record { at = p; full = 1; items = x ∷ []; counted = refl } in let Told : Type 0 = (d.full ≡ 1) × (d.items ≡ x ∷ []) in
    keep ! (0 ∷ 3 ∷ []) $ suffices ! (Run (w ∷ [])) (subst (λ (vs : List Val). ent 𝓤 (Run (w ∷ [])) (Run vs)) (sym (λ i. laid i ++ [])) (id⊢ 𝓤 (Run (w ∷ [])))) $
    enter ! 𝓣.C 𝓣.Λ fn (w ∷ []) Post $ alloc_all ! (λ l. pass_all ! refl (pair_good R Z the_row_laws ghosts b o h fits, tt) $
    sets ! (of_opd ! (get_in ! (fld ! refl (stop !)) (sub ! 0 refl (whole !)))) refl (tt, tt) $
    sets ! (of_opd ! (get ! refl)) refl (tt, tt) $
    sets ! (agg ! (and_then ! (get ! refl) (and_then ! (lit ! tt) (no_more !)))) refl (sized_typed p 1 (lit< tt)) $
    use0 𝓛 (‵ (sized_own p 1 (sized_val p 1 ∷ []))) (sized_made 𝓛 p 1 (lit< tt)) $ fjoin ! $
    use0 𝓛 (raw (fact 𝓤 Told)) (fact_i 𝓤 Told (emp 𝓤) (refl, refl)) $ nothing ! $ nothing ! $ fjoin ! $
    -- [nothing; what is told; the slot; alive]
    returns ! (look_at ! 0 refl) $ free_all ! refl $ keep ! (3 ∷ 0 ∷ 2 ∷ 1 ∷ []) $ by ! (leaves 𝓛 En stays c z (sized_val p 1) d (tt, tt) (tt, tt)))))
