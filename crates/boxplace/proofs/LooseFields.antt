-- The data field of a `Loose`, a pointer, and what it owns in each case. Assumes `Logic`.
use Rattle.std.proofs.Common.{◌≡◌, ℕ, T, List, [], ◌∷◌, ◌++◌, refl, ap, ◌∙◌, arith, Option, Some, None}
use seplogic.Ra.Ura.{Ura}
use mir.Syntax.{ty_ptr, ty_struct, tcons, tnil}
use mir.Raw.{raw as bare}
use mir.Val.{Val, vstruct, vcons, vnil, of_list, has_ty, WT}
use base.Fraction.{full_share}
use base.Logic.{ent, emp, via, snd∗, guard, guard_i}
use types.Logic.{Logic, sem}
use types.Kit.{Item, Goal, Seq, ‵, given, ◌$◌, drop, fpick, learn, use1}
use contract.Monad.{fact_use}
use denote.RattleType.{RattleType}
use denote.Laws.{Is}
use denote.Memory.{lone}
use denote.RawPtr.{Ptr, block_ptr, null_ptr, ptr_val, lies_at, in_a_block, Testable}
use denote.Shadow.{makes_shadow}
use denote.Struct.Struct.{Struct}
use denote.Struct.Owning.{shape}
use Rattle.std.specs.contracts.alloc.Global as global
use Rattle.std.proofs.alloc.Global.TheLaws.{the_row_laws}
use Rattle.std.proofs.GlobalToken.{dealloc_token-Testable}
use Rattle.std.specs.contracts.impls.GlobalAllocator.TheImpl.{ghosts}
use Rattle.std_alloc.specs.Box.Ownership.{box_owns}
use Rattle.boxplace.specs.Places.{heap_handle, loose_owns}
use Rattle.boxplace.specs.contracts.loose.Loose as loose
use Rattle.boxplace.proofs.UnboxedFields.{never_null}

-- the machine value of a struct of one pointer
abbrev pub word : Ptr → Val
word p = vstruct (vcons (ptr_val p) vnil)

pub word_good : (p : Ptr) → T (has_ty (ty_struct [] (tcons ty_ptr tnil)) (word p)) × WT (word p)
word_good (block_ptr b o) = (tt, (tt, tt))
word_good null_ptr = (tt, (record { fits = omega arith }, tt))

module _ (R : RattleType) where
  abbrev pub Data : RattleType
  Data = Struct (shape (loose.the_type R))

  pub data_is : (p : Ptr) (vs : List Val) → Is Data (p, tt) vs → vs ≡ word p ∷ []
  data_is p vs is = is.1.0 ∙ ap (λ (ws : List Val). vstruct (of_list (ws ++ [])) ∷ []) is.1.1.0

  -- the box of the heap at p
  abbrev pub boxed : Ptr → R.Denot → base.Fml.Fml
  boxed = box_owns (ghosts.dealloc_token heap_handle) R

  module _ {M : Type 1} {𝓤 : Ura M} (𝓛 : Logic 𝓤) where
    pub data_made : (p : Ptr) → ent 𝓤 (emp 𝓤) (sem 𝓛 (Data.own_val (p, tt) (word p ∷ [])))
    data_made p = makes_shadow 𝓛 (Data.own_val (p, tt) (word p ∷ [])) (λ vss. (tt, (tt, tt))) ((ptr_val p ∷ [], tt), (refl, (refl, tt)))

    -- a box of the heap begins its block, so that its pointer may be compared with null
    pub tested : (p : Ptr) (x : R.Denot) → ent 𝓤 (sem 𝓛 (boxed p x)) (guard 𝓤 (Testable p) (sem 𝓛 (boxed p x)))
    tested p x = fact_use 𝓤 (Testable p)
        (via 𝓤 _ (snd∗ 𝓤 (sem 𝓛 (lies_at R full_share p x)) (sem 𝓛 (ghosts.dealloc_token heap_handle (bare (lone R.mir)) p))) (dealloc_token-Testable 𝓛 heap_handle (bare (lone R.mir)) p))
        (guard_i 𝓤 (Testable p) (sem 𝓛 (boxed p x)))

  module _ {M : Type 1} {𝓤 : Ura M} {𝓛 : Logic 𝓤} {K : Type 0} {Γ : List (Item 𝓤)} {G : Goal 𝓤 𝓛.H} where
    -- it is null and no box, or a block and its box
    pub either_loose : K → (p : Ptr) (item : Option R.Denot) → (p ≡ null_ptr → item ≡ None → Seq K 𝓛 Γ G)
        → ((b o : ℕ) (x : R.Denot) → p ≡ block_ptr b o → item ≡ Some x → Testable (block_ptr b o) → Seq K 𝓛 (‵ (boxed (block_ptr b o) x) ∷ Γ) G) → Seq K 𝓛 (‵ (loose_owns R p item) ∷ Γ) G
    either_loose t p None none one = fpick t (λ e. drop t $ none e refl)
    either_loose t p (Some x) none one = in_a_block t p (λ r. boxed r x) (never_null R global.the_row the_row_laws ghosts 𝓛 heap_handle x) (λ b o e.
        use1 𝓛 (given (Testable (block_ptr b o)) (‵ (boxed (block_ptr b o) x))) (tested 𝓛 (block_ptr b o) x) $ learn t (λ te. one b o x e refl te))
