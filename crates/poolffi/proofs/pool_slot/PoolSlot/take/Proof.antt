-- The walk of `take`.
use Rattle.poolhandle.proofs.Steps.{◌≡◌, List, [], ◌∷◌, ◌++◌, refl, sym, ap, ◌∙◌, subst, Val, vptr, SProp, ent, emp, id⊢, WpFn, ‵, raw, ◌⊛◌, ◌$◌, ◌∵◌, !, qed, by, move, keep, drop, split, fsplit, fjoin, use0, rewrite, suffices, stop, fld, of_opd, no_more, and_then, returns, enter, alloc_all, pass_all, free_all, look_at, get, get_in, sets, agg, sub, whole, tables, fact, fact_i, RattleType, owns, types_at, plain, Ptr, block_ptr, in_a_block, nothing, heard, Stays, stay_dropped, walk_of, Goes-dropped, proved_at, leaves}
use denote.Triple.Entry.{alive}
use Rattle.std.specs.contracts.alloc.Global as global
use Rattle.std.proofs.alloc.Global.TheLaws.{the_row_laws}
use Rattle.std.specs.contracts.impls.GlobalAllocator.TheImpl.{ghosts}
use Rattle.std.proofs.Handle.{heap_val, heap_Tells}
use Rattle.std_alloc.specs.Box.Ownership.{box_owns}
use Rattle.poolhandle.specs.Slot.{heap_handle, slot_owns}
use Rattle.poolffi.specs.contracts.pool_slot.PoolSlot as slot
use Rattle.poolffi.specs.contracts.caller.Caller as caller
use Rattle.boxplace.proofs.UnboxedFields.{pair, unboxed_in, never_null, Row as Unboxed}
use Rattle.poolhandle.proofs.SlotFields.{sized_val, sized_told, sized_typed, one_of}
use Rattle.poolffi.specs.contracts.pool_slot.PoolSlot.take.{ended, clauses}
use Rattle.poolffi.specs.contracts.pool_slot.PoolSlot.take.Key.{name as #self}
use Rattle.poolffi.proofs.pool_slot.PoolSlot.take.Statement.{statement}
use Rattle.poolffi.proofs.pool_slot.PoolSlot.take.Code as code

pub take_spec : {M : Type 1} → statement M
take_spec 𝓤 𝓛 𝓜 𝓡 wired =
    let H = 𝓛.H in let 𝓣 = tables 𝓤 H 𝓜 𝓡 𝓡.env in let R : RattleType = caller.the_row in let En = ended in let c = clauses 𝓛 𝓜.mem 𝓡.returns in let fn = code.function in
    let Z : RattleType = global.the_row in let U : RattleType = Unboxed R Z the_row_laws ghosts in let Row : RattleType = slot.the_row in
    let stays : Stays En.signature.params En.kept = (stay_dropped (plain (λ _. Row)) En.kept.0, (stay_dropped (plain (λ _. Z)) En.kept.1.0, tt)) in
    proved_at 𝓛 En stays c 𝓜 𝓡 (Goes-dropped 𝓛 0 (plain (λ _. Row)) En.kept.0 (λ κs x f. refl), (Goes-dropped 𝓛 0 (plain (λ _. Z)) En.kept.1.0 (λ κs x f. refl), tt)) #self fn (code.unfolded 𝓤 H 𝓜 𝓡 wired) (λ z are.
    let e : Row.Denot = z.0.3.0 in let g : Z.Denot = z.0.3.1.0 in let Asked : Type 0 = e.full ≡ 1 in
    let Post : Val → SProp 𝓤 = (walk_of 𝓛 En stays c).post z in let Run : List Val → SProp 𝓤 = λ ws. WpFn 𝓤 H 𝓣.C 𝓣.Λ fn ws Post in
    qed 𝓛 ((raw (alive 𝓛 En.signature z.0.0 z.0.1) ⊛ ‵ (owns (types_at En.signature.params z.0.0) z.0.3 z.0.4)) ∷ raw (fact 𝓤 Asked) ∷ []) ∵
    move ! (1 ∷ []) $ heard ! Asked (λ asked. split ! $ move ! (1 ∷ []) $ fsplit ! $ fsplit ! $ drop ! $
    -- [what the slot owns; the handle and nothing; alive]
    let one = one_of e.items e.full e.counted asked in let x = one.0 in
    rewrite ! 0 (λ (xs : List R.Denot). ‵ (slot_owns R e.at xs)) one.1 refl $
    in_a_block ! e.at (λ p. box_owns (ghosts.dealloc_token heap_handle) R p x) (never_null R Z the_row_laws ghosts 𝓛 heap_handle x) (λ b o at.
    let p : Ptr = block_ptr b o in let told = sized_told e.at e.full z.0.4.0 are.0.0 in
    let pointer : z.0.4.0 ≡ sized_val p e.full ∷ [] = told.0 ∙ ap (λ (r : Ptr). sized_val r e.full ∷ []) at in let handle_is : z.0.4.1.0 ≡ heap_val ∷ [] = heap_Tells g z.0.4.1.0 are.1.0 in
    let us : List Val = sized_val p e.full ∷ heap_val ∷ [] in let w : Val = pair (vptr b o) heap_val in let d : U.Denot = record { at = p; alloc = g; object = x } in let Told : Type 0 = e.items ≡ x ∷ [] in
    move ! (1 ∷ []) $ fsplit ! $ rewrite ! 0 (λ (vs : List Val). ‵ (Z.own_val g vs)) handle_is refl $
    -- [the handle; nothing; the box; alive]
    suffices ! (Run us) (subst (λ (vs : List Val). ent 𝓤 (Run us) (Run vs)) (sym (λ i. pointer i ++ (handle_is i ++ []))) (id⊢ 𝓤 (Run us))) $
    enter ! 𝓣.C 𝓣.Λ fn us Post $ alloc_all ! (λ l. pass_all ! refl (sized_typed p e.full told.1, ((tt, ((tt, tt), tt)), tt)) $
    sets ! (of_opd ! (get_in ! (fld ! refl (stop !)) (sub ! 0 refl (whole !)))) refl (tt, tt) $
    sets ! (of_opd ! (get ! refl)) refl (tt, tt) $
    sets ! (agg ! (and_then ! (get ! refl) (and_then ! (get ! refl) (no_more !)))) refl (tt, (tt, (((tt, tt), tt), tt))) $
    move ! (2 ∷ 0 ∷ 3 ∷ []) $ unboxed_in R Z the_row_laws ghosts ! b o heap_val g x $ use0 𝓛 (raw (fact 𝓤 Told)) (fact_i 𝓤 Told (emp 𝓤) one.1) $
    nothing ! $ nothing ! $ fjoin ! $ nothing ! $ fjoin ! $
    -- [nothing; what is told; the box; alive; ..]
    returns ! (look_at ! 0 refl) $ free_all ! refl $ keep ! (3 ∷ 0 ∷ 2 ∷ 1 ∷ []) $ by ! (leaves 𝓛 En stays c z w d (tt, (tt, tt)) (tt, (tt, tt)))))))
