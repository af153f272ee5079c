-- A `&` to a portion has a share of its parts, and its name. Assumes `Logic`.
use denote.RattleType.{RattleType}
use denote.Param.Laws.{Laws}
use denote.Param.Shared.{copy_shared}
use denote.Struct.Field.{RawPtr-field}
use denote.Struct.Laws.{RawPtr-copy}
use denote.Struct.Lending.{of_Lends}
use Rattle.slotcell.specs.contracts.portion.Portion as C
use Rattle.slotcell.proofs.portion.Portion.TheLaw.Statement.{statement}
use Rattle.slotcell.proofs.PortionSteps.{shares_laws, portion_lends}

pub shares : (T : RattleType) (L : Laws T) → statement T L
shares T L = of_Lends (C.struct T) (C.the_codes T.Denot T.coded) (C.the_heap T) (C.the_lent T)
    (λ d p. shares_laws T L d.at d.object d.lifetime d.cell) (copy_shared RawPtr-field RawPtr-copy, tt)
    (λ M 𝓤 𝓛 d p. portion_lends T L d.at d.object d.lifetime 𝓛 d.cell d.parts d.owner (C.the_row T).lives)
