-- The data of a tally, which has no bytes. Assumes `Logic`.
use Rattle.std.proofs.Common.{◌≡◌, List, [], ◌∷◌, ◌++◌, refl, ap, ◌∙◌}
use seplogic.Ra.Ura.{Ura}
use mir.Val.{Val, vstruct, vnil, of_list}
use base.Logic.{ent, emp}
use types.Logic.{Logic, sem}
use denote.RattleType.{RattleType}
use denote.Laws.{Is}
use denote.Shadow.{makes_shadow}
use denote.Struct.Struct.{Struct}
use denote.Struct.Owning.{shape}
use Rattle.poolsteps.specs.contracts.cells.Tally as tally
use Rattle.poolsteps.proofs.raw.Fields.{mark}

abbrev pub TallyData : RattleType
TallyData = Struct (shape tally.the_type)

pub tally_is : (vs : List Val) → Is TallyData (tt, tt) vs → vs ≡ mark ∷ []
tally_is vs is = is.1.0 ∙ ap (λ (ws : List Val). vstruct (of_list (ws ++ [])) ∷ []) is.1.1.0.1.0

pub tally_made : {M : Type 1} {𝓤 : Ura M} (𝓛 : Logic 𝓤) → ent 𝓤 (emp 𝓤) (sem 𝓛 (TallyData.own_val (tt, tt) (mark ∷ [])))
tally_made 𝓛 = makes_shadow 𝓛 (TallyData.own_val (tt, tt) (mark ∷ [])) (λ vss. (tt, ((λ uss. (tt, tt)), tt))) ((vstruct vnil ∷ [], tt), (refl, ((tt, (refl, tt)), tt)))
