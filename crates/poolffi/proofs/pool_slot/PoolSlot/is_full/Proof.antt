-- The walk of `is_full`.
use Rattle.poolhandle.proofs.Steps.{ℕ, List, [], ◌∷◌, refl, sym, named, Val, ftrue, flft, ‵, ◌⊛◌, ◌$◌, ◌∵◌, !, qed, move, keep, split, join, fsplit3, rewrite, suffices, feq_i, stop, fld, load, of_opd, returns, enter, alloc_all, pass_all, free_all, look_at, get, through, sets, sub, whole, look_in, tables, full_share, RattleType, plain, mut_vals, mut_Tells, cell_at, nothing, opens, closes, peeks, shows, Stays, stay_ref, walk_of, Goes-ref, proved}
use mir.Val.{vbool}
use types.Kit.{done, frame, group}
use types.Run.{bin, lit}
use denote.Ref.{MutRef}
use denote.Triple.Walked.{says, ends_at}
use Rattle.std.proofs.Common.{Bool, ◌==◌}
use Rattle.poolffi.specs.contracts.pool_slot.PoolSlot as slot
use Rattle.poolhandle.proofs.SlotFields.{sized_told}
use Rattle.poolffi.specs.contracts.pool_slot.PoolSlot.is_full.{ended, clauses}
use Rattle.poolffi.specs.contracts.pool_slot.PoolSlot.is_full.Key.{name as #self}
use Rattle.poolffi.proofs.pool_slot.PoolSlot.is_full.Statement.{statement}
use Rattle.poolffi.proofs.pool_slot.PoolSlot.is_full.Code as code

pub is_full_spec : {M : Type 1} → statement M
is_full_spec 𝓤 𝓛 𝓜 𝓡 wired =
    let 𝓣 = tables 𝓤 𝓛.H 𝓜 𝓡 𝓡.env in let En = ended in let c = clauses 𝓛 𝓜.mem 𝓡.returns in let fn = code.function in let Row : RattleType = slot.the_row in
    let stays : Stays En.signature.params En.kept = (stay_ref (0 ∷ []) tt (plain (λ _. Row)), tt) in
    proved 𝓛 En stays c 𝓜 𝓡 (Goes-ref 𝓛 1 0 tt (plain (λ _. Row)), tt) #self fn (code.unfolded 𝓤 𝓛.H 𝓜 𝓡 wired)
    (λ κs. (mut_vals, tt)) (λ κs. (mut_Tells (named 0) κs.0 Row, tt)) (λ κs qs bounds args ghost are.
    let b : ℕ = args.0.ref_ptr.0 in let o : ℕ = args.0.ref_ptr.1 in let s : Row.Denot = args.0.now in let vs : List Val = mut_vals args.0 in
    let y : (walk_of 𝓛 En stays c).Ghost = ((κs, qs, bounds, args, (vs, tt)), ghost) in
    let Cell = λ (us : List Val). ‵ (cell_at full_share Row.mir us b o) in
    qed 𝓛 (((‵ (flft κs.0 qs.0) ⊛ ‵ ftrue) ⊛ ‵ ((MutRef (named 0) κs.0 Row).own_val args.0 vs) ⊛ ‵ ftrue) ∷ ‵ ftrue ∷ []) ∵
    split ! $ split ! $ move ! (2 ∷ []) $ split ! $ keep ! (0 ∷ 2 ∷ []) $
    enter ! _ _ _ _ _ $ alloc_all ! (λ l. pass_all ! refl ((tt, tt), tt) $
    fsplit3 ! $ move ! (1 ∷ 2 ∷ 3 ∷ []) $ opens ! tt Row b o (λ us. move ! (1 ∷ []) $ peeks ! Row _ (shows 𝓛 Row) s us (λ is.
    let told = sized_told s.at s.full us is.0 in let full : Bool = s.full == 1 in
    -- [what it owns; its cell; the open borrow, in three]
    rewrite ! 1 Cell told.0 refl $
    sets ! (of_opd ! (load ! (through ! refl (fld ! refl (stop !))) (look_in ! 1 (sub ! 1 refl (whole !))))) refl (tt, record { fits = told.1 }) $
    sets ! (bin ! (get ! refl) (lit ! tt) tt) refl (tt, tt) $
    rewrite ! 1 Cell (sym told.0) refl $ move ! (1 ∷ []) $ closes ! tt Row s us b o $
    returns ! (look_at ! 0 refl) $ free_all ! refl $ move ! (3 ∷ []) $
    suffices ! _ (ends_at 𝓛 En stays c y (vbool full) full (s, tt) (tt, tt)) $ says ! (refl, refl) $
    group ! 3 $ nothing ! $ move ! (1 ∷ 0 ∷ []) $ join ! $ nothing ! $ move ! (2 ∷ 0 ∷ []) $ join ! $ frame ! $ frame ! $
    feq_i ! (List Val) (vbool full ∷ []) (vbool full ∷ []) refl $ done !))))
