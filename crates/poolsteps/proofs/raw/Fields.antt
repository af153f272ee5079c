-- How the data fields of this crate's types lie in the machine. Assumes `Logic`.
use native.Mathlib.Nat.{suc-mul}
use Rattle.std.proofs.Common.{◌≡◌, ℕ, suc, ◌*◌, ◌^◌, ◌<◌, sym, subst, T, List, [], ◌∷◌, ◌++◌, refl, ap, ◌∙◌, arith}
use seplogic.Ra.Ura.{Ura}
use mir.Syntax.{ty_ptr, ty_struct, tcons, tnil}
use mir.Val.{Val, vstruct, vcons, vnil, of_list, has_ty, WT}
use base.Logic.{ent, emp}
use types.Logic.{Logic, sem}
use denote.RattleType.{RattleType}
use denote.Laws.{Is}
use denote.RawPtr.{Ptr, InBlock, block_ptr, null_ptr, block_of, count_of, at_block, ptr_val}
use Rattle.std.specs.Mem.{type_size}
use Rattle.std.specs.Ptr.{ptr_add}
use denote.Shadow.{makes_shadow}
use denote.Struct.Struct.{Struct}
use denote.Struct.Owning.{shape}
use Rattle.poolsteps.specs.contracts.cells.Base as base_type
use Rattle.poolsteps.specs.contracts.memory.Loose as loose
use Rattle.poolsteps.specs.contracts.memory.Portion as portion

-- a value of one pointer
abbrev pub word : Ptr → Val
word p = vstruct (vcons (ptr_val p) vnil)

pub word_good : (p : Ptr) → T (has_ty (ty_struct [] (tcons ty_ptr tnil)) (word p)) × WT (word p)
word_good (block_ptr b o) = (tt, (tt, tt))
word_good null_ptr = (tt, (record { fits = omega arith }, tt))

pub ptr_good : (p : Ptr) → T (has_ty ty_ptr (ptr_val p)) × WT (ptr_val p)
ptr_good (block_ptr b o) = (tt, tt)
ptr_good null_ptr = (tt, record { fits = omega arith })

-- a value of no bytes
abbrev pub mark : Val
mark = vstruct (vcons (vstruct vnil) vnil)

module _ (R : RattleType) where
  abbrev pub Base : RattleType
  Base = base_type.the_row R

  pub base_told : (x : Base.Denot) (vs : List Val) → Is Base x vs → vs ≡ word x.ptr ∷ []
  base_told x vs is = is.1.0 ∙ ap (λ (ws : List Val). vstruct (of_list (ws ++ [])) ∷ []) is.1.1.0

  abbrev pub Data : RattleType
  Data = Struct (shape (portion.the_type R))

  abbrev pub LooseData : RattleType
  LooseData = Struct (shape (loose.the_type R))

  pub data_is : (vs : List Val) → Is Data (tt, tt) vs → vs ≡ mark ∷ []
  data_is vs is = is.1.0 ∙ ap (λ (ws : List Val). vstruct (of_list (ws ++ [])) ∷ []) is.1.1.0.1.0

  pub loose_is : (vs : List Val) → Is LooseData (tt, tt) vs → vs ≡ mark ∷ []
  loose_is vs is = is.1.0 ∙ ap (λ (ws : List Val). vstruct (of_list (ws ++ [])) ∷ []) is.1.1.0.1.0

  module _ {M : Type 1} {𝓤 : Ura M} (𝓛 : Logic 𝓤) where
    pub base_made : (x : Base.Denot) → ent 𝓤 (emp 𝓤) (sem 𝓛 (Base.own_val x (word x.ptr ∷ [])))
    base_made x = makes_shadow 𝓛 (Base.own_val x (word x.ptr ∷ [])) (λ vss. (tt, (tt, tt))) ((ptr_val x.ptr ∷ [], tt), (refl, (refl, tt)))

    pub data_made : ent 𝓤 (emp 𝓤) (sem 𝓛 (Data.own_val (tt, tt) (mark ∷ [])))
    data_made = makes_shadow 𝓛 (Data.own_val (tt, tt) (mark ∷ [])) (λ vss. (tt, ((λ uss. (tt, tt)), tt))) ((vstruct vnil ∷ [], tt), (refl, ((tt, (refl, tt)), tt)))

    pub loose_made : ent 𝓤 (emp 𝓤) (sem 𝓛 (LooseData.own_val (tt, tt) (mark ∷ [])))
    loose_made = makes_shadow 𝓛 (LooseData.own_val (tt, tt) (mark ∷ [])) (λ vss. (tt, ((λ uss. (tt, tt)), tt))) ((vstruct vnil ∷ [], tt), (refl, ((tt, (refl, tt)), tt)))

-- where the i-th value of a row at e stands, which is the j-th of one at base
module _ (R : RattleType) (e base : Ptr) (i j : ℕ) (asked : (e ≡ base) × (i ≡ j)) where
  pub far : suc j * type_size R < 2 ^ 63 → i * type_size R < 2 ^ 64
  far small = let s = type_size R in let small' : suc i * s < 2 ^ 63 = subst (λ (n : ℕ). suc n * s < 2 ^ 63) (sym asked.1) small in omega (arith, suc-mul i s)

  pub tiny : suc j * type_size R < 2 ^ 63 → type_size R < 2 ^ 64
  tiny small = let s = type_size R in omega (arith, suc-mul j s)

  base_in : (p : Ptr) → InBlock (ptr_add R j p) → InBlock p
  base_in (block_ptr b o) inside = inside
  base_in null_ptr inside = inside

  pub here : InBlock (ptr_add R j base) → e ≡ block_ptr (block_of e) (count_of e)
  here inside = at_block e (subst InBlock (sym asked.0) (base_in base inside))

  pub stands : InBlock (ptr_add R j base) → ptr_add R j base ≡ ptr_add R i (block_ptr (block_of e) (count_of e))
  stands inside = (λ k. ptr_add R (sym asked.1 k) (sym asked.0 k)) ∙ ap (ptr_add R i) (here inside)
