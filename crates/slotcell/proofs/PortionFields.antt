-- The data field of a `Portion`: how its pointer lies in the machine. Assumes `Logic`.
use Rattle.std.proofs.Common.{◌≡◌, T, List, [], ◌∷◌, ◌++◌, refl, ap, ◌∙◌}
use seplogic.Ra.Ura.{Ura}
use mir.Syntax.{ty_ptr, ty_struct, tcons, tnil}
use mir.Val.{Val, vstruct, vcons, vnil, of_list, has_ty, WT}
use base.Logic.{ent, emp}
use types.Logic.{Logic, sem}
use denote.RattleType.{RattleType}
use denote.Laws.{Is}
use denote.Opens.{Opens}
use denote.Copied.{Struct-Copied}
use denote.RawPtr.{Ptr, InBlock, block_ptr, null_ptr, ptr_val}
use denote.Shadow.{makes_shadow}
use denote.Struct.Laws.{RawPtr-copy}
use denote.Struct.Struct.{Struct}
use denote.Struct.Owning.{shape}
use Rattle.slotcell.specs.contracts.portion.Portion as portion

abbrev pub word : Ptr → Val
word p = vstruct (vcons (ptr_val p) vnil)

pub pointer_good : (p : Ptr) → InBlock p → T (has_ty ty_ptr (ptr_val p)) × WT (ptr_val p)
pointer_good (block_ptr b o) inside = (tt, tt)
pointer_good null_ptr inside = absurd inside

pub word_good : (p : Ptr) → InBlock p → T (has_ty (ty_struct [] (tcons ty_ptr tnil)) (word p)) × WT (word p)
word_good (block_ptr b o) inside = (tt, (tt, tt))
word_good null_ptr inside = absurd inside

module _ (R : RattleType) where
  abbrev pub Data : RattleType
  Data = Struct (shape (portion.the_type R))

  pub data_is : (p : Ptr) (vs : List Val) → Is Data (p, tt) vs → vs ≡ word p ∷ []
  data_is p vs is = is.1.0 ∙ ap (λ (ws : List Val). vstruct (of_list (ws ++ [])) ∷ []) is.1.1.0

  module _ {M : Type 1} {𝓤 : Ura M} (𝓛 : Logic 𝓤) where
    pub data_made : (p : Ptr) → ent 𝓤 (emp 𝓤) (sem 𝓛 (Data.own_val (p, tt) (word p ∷ [])))
    data_made p = makes_shadow 𝓛 (Data.own_val (p, tt) (word p ∷ [])) (λ vss. (tt, (tt, tt))) ((ptr_val p ∷ [], tt), (refl, (refl, tt)))

    pub data_opens : Opens 𝓛 Data
    data_opens = (Struct-Copied 𝓛 (shape (portion.the_type R)) (refl, tt) (RawPtr-copy.copied M 𝓤 𝓛, tt)).opens
