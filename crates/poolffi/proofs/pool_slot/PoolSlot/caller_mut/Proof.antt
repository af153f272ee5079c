-- `caller_mut` lends the handle, and the slot follows it.
use Rattle.poolhandle.proofs.Steps.{◌≡◌, ℕ, List, [], ◌∷◌, refl, sym, ap, ◌∙◌, full_share, named, Val, vptr, SProp, ent, Lft, Fml, ftrue, fsep, flft, sem, ‵, raw, ◌⊛◌, some, later, at_ret, ◌$◌, ◌∵◌, !, qed, move, keep, drop, split, split3, join, fsplit, fsplit3, fjoin, pick, use1, await, rewrite, suffices, stop, fld, load, addr, of_opd, first, blocks, exec, returns, enter, alloc_all, pass_all, free_all, look_at, look_in, get, through, sets, sets_last, env, sub, whole, tables, fact, no, RattleType, plain, Ptr, block_ptr, in_a_block, nothing, heard, opens, peeks, shows, mut_vals, mut_Tells, cell_at, Stays, stay_dropped, walk_of, after, proved}
use seplogic.Ra.Ura.{Ura}
use mir.Raw.{raw as bare}
use base.Logic.{sep}
use base.Fml.{GName}
use types.Logic.{Logic}
use types.Kit.{group, frame, done, fpack}
use denote.Memory.{mem, part_at, part_of, lone}
use denote.RawPtr.{lies_at}
use denote.Ref.{MutRef}
use denote.Signature.{mut_ref_to}
use denote.Follow.{follows, lends_Part}
use denote.Triple.Walked.{says, ends_at, Goes-spent_ref}
use Rattle.std.specs.contracts.alloc.Global as global
use Rattle.std.proofs.alloc.Global.TheLaws.{the_row_laws}
use Rattle.std.specs.contracts.impls.GlobalAllocator.TheImpl.{ghosts}
use Rattle.std_alloc.specs.Box.Ownership.{box_owns}
use Rattle.poolhandle.specs.Slot.{heap_handle, slot_owns}
use Rattle.poolffi.specs.PoolSlots.{with_caller}
use Rattle.poolffi.specs.contracts.pool_slot.PoolSlot as slot
use Rattle.poolffi.specs.contracts.caller.Caller as caller
use Rattle.boxplace.proofs.UnboxedFields.{never_null}
use Rattle.poolhandle.proofs.SlotFields.{sized_val, sized_own, sized_told, one_of}
use Rattle.poolffi.specs.contracts.pool_slot.PoolSlot.caller_mut.{ended, clauses}
use Rattle.poolffi.specs.contracts.pool_slot.PoolSlot.caller_mut.Key.{name as #self}
use Rattle.poolffi.proofs.pool_slot.PoolSlot.caller_mut.Statement.{statement}
use Rattle.poolffi.proofs.pool_slot.PoolSlot.caller_mut.Code as code

abbrev R : RattleType
R = caller.the_row

abbrev Row : RattleType
Row = slot.the_row

-- the right to free the handle's block
abbrev token : Ptr → Fml
token p = ghosts.dealloc_token heap_handle (bare (lone R.mir)) p

module _ {M : Type 1} {𝓤 : Ura M} (𝓛 : Logic 𝓤) (b o : ℕ) (d : Row.Denot) (vs : List Val) (there at : ℕ) where
  -- all of the slot but the handle
  abbrev Rest : Fml
  Rest = fsep (fsep (sized_own d.at 1 vs) (token d.at)) (cell_at full_share Row.mir vs b o)

  back : d.at ≡ block_ptr there at → (w : R.Denot) → ent 𝓤 (sep 𝓤 (sem 𝓛 ((mem R).own_at w there at)) (sem 𝓛 Rest)) (sem 𝓛 ((mem Row).own_at (with_caller d w) b o))
  unfolding part_of
  back e w = qed 𝓛 (‵ (part_at R full_share w there at) ∷ ‵ Rest ∷ []) ∵ rewrite ! 0 (λ (p : Ptr). ‵ (lies_at R full_share p w)) (sym e) refl $
      move ! (1 ∷ []) $ fsplit ! $ fsplit ! $
      -- [the fields; the right to free; the cell; the handle]
      move ! (3 ∷ 1 ∷ []) $ fjoin ! $ move ! (1 ∷ 0 ∷ []) $ fjoin ! $ move ! (1 ∷ 0 ∷ []) $ fjoin ! $
      fpack ! (List Val) (λ us. fsep (cell_at full_share Row.mir us b o) (Row.own_val (with_caller d w) us)) vs $ done !

pub caller_mut_spec : {M : Type 1} → statement M
caller_mut_spec 𝓤 𝓛 𝓜 𝓡 wired =
    let H = 𝓛.H in let 𝓣 = tables 𝓤 H 𝓜 𝓡 𝓡.env in let En = ended in let c = clauses 𝓛 𝓜.mem 𝓡.returns in let fn = code.function in
    let stays : Stays En.signature.params En.kept = (stay_dropped (mut_ref_to (0 ∷ []) tt (plain (λ _. Row))) no, tt) in
    proved 𝓛 En stays c 𝓜 𝓡 (Goes-spent_ref 𝓛 1 (0 ∷ []) tt (plain (λ _. Row)), tt) #self fn (code.unfolded 𝓤 H 𝓜 𝓡 wired)
    (λ κs. (mut_vals, tt)) (λ κs. (mut_Tells (named 0) κs.0 Row, tt)) (λ κs qs bounds args ghost are.
    let b : ℕ = args.0.ref_ptr.0 in let o : ℕ = args.0.ref_ptr.1 in let γ : GName = args.0.ghost_name in let κ : Lft = κs.0 in let d : Row.Denot = args.0.now in
    let Asked : Type 0 = d.full ≡ 1 in let Cell = λ (us : List Val). ‵ (cell_at full_share Row.mir us b o) in
    let y : (walk_of 𝓛 En stays c).Ghost = ((κs, qs, bounds, args, (vptr b o ∷ [], tt)), ghost) in let Post : Val → SProp 𝓤 = (walk_of 𝓛 En stays c).post y in
    qed 𝓛 (((‵ (flft κ qs.0) ⊛ ‵ ftrue) ⊛ ‵ ((MutRef (named 0) κ Row).own_val args.0 (vptr b o ∷ [])) ⊛ ‵ ftrue) ∷ raw (fact 𝓤 Asked) ∷ []) ∵
    move ! (1 ∷ []) $ heard ! Asked (λ asked. split ! $ split ! $ move ! (2 ∷ []) $ split ! $ keep ! (0 ∷ 2 ∷ []) $ fsplit3 ! $ drop ! $
    enter ! 𝓣.C 𝓣.Λ fn (vptr b o ∷ []) Post $ alloc_all ! (λ l. pass_all ! refl ((tt, tt), tt) $ let Ev = env fn.locals l in
    opens ! tt Row b o (λ us. move ! (1 ∷ []) $ peeks ! Row _ (shows 𝓛 Row) d us (λ is. fsplit ! $ move ! (1 ∷ []) $
    let one = one_of d.items d.full d.counted asked in let x : R.Denot = one.0 in
    rewrite ! 0 (λ (xs : List R.Denot). ‵ (slot_owns R d.at xs)) one.1 refl $
    in_a_block ! d.at (λ p. box_owns (ghosts.dealloc_token heap_handle) R p x) (never_null R global.the_row the_row_laws ghosts 𝓛 heap_handle x) (λ there at e. fsplit ! $
    -- [the handle; the right to free it; the fields; the cell; the open borrow, in three]
    let word : us ≡ sized_val (block_ptr there at) d.full ∷ [] = (sized_told d.at d.full us is.0).0 ∙ ap (λ (p : Ptr). sized_val p d.full ∷ []) e in
    rewrite ! 3 Cell word refl $ first ! $ blocks ! $
    sets ! (of_opd ! (load ! (through ! refl (fld ! refl (stop !))) (look_in ! 3 (sub ! 0 refl (whole !))))) refl (tt, tt) $
    sets ! (of_opd ! (get ! refl)) refl (tt, tt) $ sets_last ! (addr ! (through ! refl (stop !))) refl (tt, tt) $
    exec ! 𝓣.C 𝓣.Λ Ev (after 1 fn.body) (at_ret Ev Post) $ sets ! (of_opd ! (get ! refl)) refl (tt, tt) $
    rewrite ! 3 Cell (sym word) refl $ rewrite ! 1 (λ (p : Ptr). ‵ (token p)) (sym e) refl $ rewrite ! 2 (λ (n : ℕ). ‵ (sized_own d.at n us)) asked refl $
    move ! (2 ∷ 1 ∷ []) $ fjoin ! $ move ! (0 ∷ 2 ∷ []) $ fjoin ! $ move ! (2 ∷ 3 ∷ 4 ∷ 1 ∷ 0 ∷ []) $ group ! 5 $
    use1 𝓛 (later (some (λ (γ' : GName). ‵ ((MutRef (named 0) κ R).own_val (record { ref_ptr = (there, at); ghost_name = γ'; now = x }) (vptr there at ∷ [])) ⊛ ‵ (flft κ qs.0) ⊛ ‵ (follows Row R γ γ' (with_caller d)))))
    (lends_Part 𝓛 Row R (with_caller d) (named 0) κ qs.0 b o there at γ (sem 𝓛 (Rest 𝓛 b o d us there at)) (back 𝓛 b o d us there at e) (Row.coded.code d) (Row.coded.code d) x) $
    await ! tt $ pick ! (λ γ'. split3 ! $ returns ! (look_at ! 0 refl) $ free_all ! refl $
    suffices ! _ (ends_at 𝓛 En stays c y (vptr there at) (record { ref_ptr = (there, at); ghost_name = γ'; now = x }) (tt, tt) (tt, tt)) $
    nothing ! $ nothing ! $ fjoin ! $ join ! $ nothing ! $ move ! (2 ∷ 0 ∷ []) $ join ! $ join ! $ frame ! $ says ! one.1 $ done !)))))))
