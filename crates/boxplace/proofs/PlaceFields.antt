-- The fields of a `Place`: a pointer, as the steps on it ask for it, and the heap's one handle. Assumes `Logic`.
use Rattle.std.proofs.Common.{◌≡◌, ℕ, T, List, [], ◌∷◌, ◌++◌, refl, ap, ◌∙◌, arith}
use seplogic.Ra.Ura.{Ura}
use mir.Syntax.{ty_ptr, ty_struct, tcons, tnil}
use mir.Val.{Val, vstruct, vcons, vnil, of_list, has_ty, WT}
use base.Fraction.{full_share}
use base.Logic.{ent}
use base.Fml.{fat}
use types.Logic.{Logic, sem}
use types.Kit.{Item, Goal, Seq, Step, step, ‵, ◌$◌, ◌∵◌, !, qed, move, keep, drop, fsplit, fjoin, fpick, fpack, rewrite, feq_i, feq_l, done}
use denote.Builtin.{RawPtr}
use denote.Laws.{shows}
use denote.Memory.{part_at}
use denote.RattleType.{RattleType, Valss}
use denote.RawPtr.{Ptr, block_ptr, null_ptr, ptr_val, rawptr_Lawful}
use denote.Steps.{nothing, only, peeks}
use denote.Struct.Struct.{within}
use Rattle.core.specs.Sync.RawAtomic.Pointer.{cell}
use Rattle.core.proofs.cell.Inside.{spread, gather}
use Rattle.core.proofs.atomic.Pointer.{pointer}
use Rattle.std.specs.contracts.alloc.Global as global
use Rattle.std.proofs.Handle.{heap_val, heap_Tells}
use Rattle.boxplace.specs.Places.{heap_handle}
use Rattle.boxplace.specs.declared.place.Fits.{Ghosts}
use Rattle.boxplace.specs.contracts.place.Place.TheInside as inside
use Rattle.boxplace.proofs.UnboxedFields.{pair}

module _ {M : Type 1} {𝓤 : Ura M} (𝓛 : Logic 𝓤) (b o : ℕ) (p : Ptr) where
  pub cell_out : ent 𝓤 (sem 𝓛 (part_at RawPtr full_share p b o)) (sem 𝓛 (cell b o p))
  cell_out = qed 𝓛 (‵ (part_at RawPtr full_share p b o) ∷ []) ∵ spread pointer ! (rawptr_Lawful 𝓛) p b o (λ v g. move ! (1 ∷ []) $ feq_l ! (λ e.
      rewrite ! 0 (λ (u : Val). ‵ (fat full_share ty_ptr b o u)) (ap only e) refl $ keep ! (0 ∷ []) $ done !))

  pub cell_in : ent 𝓤 (sem 𝓛 (cell b o p)) (sem 𝓛 (part_at RawPtr full_share p b o))
  cell_in = qed 𝓛 (‵ (cell b o p) ∷ []) ∵ feq_i ! (List Val) (ptr_val p ∷ []) (ptr_val p ∷ []) refl $ move ! (1 ∷ 0 ∷ []) $ gather pointer ! p (ptr_val p) b o $ done !

-- a pointer in a struct of its own, beside the handle
pub parts_good : (p : Ptr) → T (has_ty (ty_struct [] (tcons (ty_struct [] (tcons ty_ptr tnil)) (tcons (denote.Param.layout global.the_row) tnil))) (pair (vstruct (vcons (ptr_val p) vnil)) heap_val))
    × WT (pair (vstruct (vcons (ptr_val p) vnil)) heap_val)
parts_good (block_ptr b o) = (tt, ((tt, tt), (((tt, tt), tt), tt)))
parts_good null_ptr = (tt, ((record { fits = omega arith }, tt), (((tt, tt), tt), tt)))

-- the machine value of a place
abbrev pub place_val : Ptr → Val
place_val p = pair (ptr_val p) heap_val

module _ (R G : RattleType) (g : Ghosts R.Denot G.Denot) where
  abbrev pub Fields : RattleType
  Fields = inside.the_row R G g

  pub place_good : (p : Ptr) → T (has_ty (denote.Param.layout Fields) (place_val p)) × WT (place_val p)
  place_good (block_ptr b o) = (tt, (tt, (((tt, tt), tt), tt)))
  place_good null_ptr = (tt, (record { fits = omega arith }, (((tt, tt), tt), tt)))

  module _ {M : Type 1} {𝓤 : Ura M} {𝓛 : Logic 𝓤} {K : Type 0} {Γ : List (Item 𝓤)} {C : Goal 𝓤 𝓛.H} where
    pub fields_in : K → (p : Ptr)
        → Step K 𝓛 (‵ (Fields.own_val (record { at = p; alloc = heap_handle }) (place_val p ∷ [])) ∷ Γ) C (‵ (global.the_row.own_val heap_handle (heap_val ∷ [])) ∷ Γ) C
    fields_in t p = step (λ s. let v : Val = place_val p in
        feq_i t (List Val) (ptr_val p ∷ []) (ptr_val p ∷ []) refl $ nothing t $ move t (1 ∷ 2 ∷ 0 ∷ []) $ types.Kit.fjoin3 t $ feq_i t (List Val) (v ∷ []) (v ∷ []) refl $ fjoin t $
        fpack t (Valss (RawPtr ∷ global.the_row ∷ [])) (within (denote.Struct.Declared.shape (inside.the_type R G g)) (p, (((tt, tt), tt), tt)) (v ∷ [])) (ptr_val p ∷ [], (heap_val ∷ [], tt)) $ s)

    pub fields_out : K → (p : Ptr) (vs : List Val) → (vs ≡ place_val p ∷ [] → Seq K 𝓛 (‵ (global.the_row.own_val heap_handle (heap_val ∷ [])) ∷ Γ) C)
        → Seq K 𝓛 (‵ (Fields.own_val (record { at = p; alloc = heap_handle }) vs) ∷ Γ) C
    fields_out t p vs k = fpick t (λ vss. fsplit t $ feq_l t (λ both. types.Kit.fsplit3 t $ feq_l t (λ pointer. peeks t global.the_row _ (shows 𝓛 global.the_row) heap_handle vss.1.0 (λ is. let handle = heap_Tells heap_handle vss.1.0 is in
        rewrite t 0 (λ (us : List Val). ‵ (global.the_row.own_val heap_handle us)) handle refl $ move t (1 ∷ []) $ drop t $
        k (both ∙ (λ i. vstruct (of_list (pointer i ++ (handle i ++ []))) ∷ []))))))
