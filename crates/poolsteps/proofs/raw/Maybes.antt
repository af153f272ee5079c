-- The data of what may be a portion. Assumes `Logic`.
use Rattle.std.proofs.Common.{◌≡◌, List, [], ◌∷◌, ◌++◌, refl, ap, ◌∙◌}
use Rattle.std.specs.Prelude.{Option, Some, None, IsSome}
use seplogic.Ra.Ura.{Ura}
use mir.Val.{Val, vstruct, vnil, of_list}
use base.Logic.{ent, emp}
use types.Logic.{Logic, sem}
use denote.RattleType.{RattleType}
use denote.Laws.{Is}
use denote.Shadow.{makes_shadow}
use denote.Struct.Struct.{Struct}
use denote.Struct.Owning.{shape}
use Rattle.poolsteps.specs.contracts.cells.MaybePortion as maybe
use Rattle.poolsteps.proofs.raw.Fields.{mark}

pub value_of : {A : Type 0} (o : Option A) → IsSome o → (x : A) × (o ≡ Some x)
value_of (Some x) is = (x, refl)
value_of None is = absurd (cc is)

module _ (R : RattleType) where
  abbrev pub MaybeData : RattleType
  MaybeData = Struct (shape (maybe.the_type R))

  pub maybe_is : (vs : List Val) → Is MaybeData (tt, tt) vs → vs ≡ mark ∷ []
  maybe_is vs is = is.1.0 ∙ ap (λ (ws : List Val). vstruct (of_list (ws ++ [])) ∷ []) is.1.1.0.1.0

  pub maybe_made : {M : Type 1} {𝓤 : Ura M} (𝓛 : Logic 𝓤) → ent 𝓤 (emp 𝓤) (sem 𝓛 (MaybeData.own_val (tt, tt) (mark ∷ [])))
  maybe_made 𝓛 = makes_shadow 𝓛 (MaybeData.own_val (tt, tt) (mark ∷ [])) (λ vss. (tt, ((λ uss. (tt, tt)), tt))) ((vstruct vnil ∷ [], tt), (refl, ((tt, (refl, tt)), tt)))
