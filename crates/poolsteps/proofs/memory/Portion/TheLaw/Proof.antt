-- A `&` to a portion has a share of its parts, and its name. Assumes `Logic`.
use denote.RattleType.{RattleType}
use denote.RawPtr.{Ptr, RawPtr}
use denote.Sharing.{said}
use denote.SharingLaws.{beside_shr_laws, said_shr_laws}
use Rattle.std.specs.Ptr.{ptr_add}
use Rattle.poolsteps.specs.Portion.{reaches, portion_owns, portion_shares}
use denote.Param.Laws.{Laws}
use denote.Param.Shared.{copy_shared}
use denote.Struct.Laws.{field_copy}
use denote.Struct.Lending.{of_Lends, Lends-both, Lends-said}
use Rattle.core.specs.contracts.marker.PhantomData as marker
use Rattle.poolsteps.specs.contracts.memory.Portion as C
use Rattle.poolsteps.proofs.memory.Portion.TheLaw.Statement.{statement}
use Rattle.poolsteps.proofs.raw.PortionSteps.{shares_laws, portion_lends}

pub shares : (T : RattleType) (L : Laws T) → statement T L
shares T L = of_Lends (C.struct T) (C.the_codes T.Denot T.coded (marker.the_row RawPtr).coded) (C.the_heap T) (C.the_lent T)
    (λ d p. beside_shr_laws _ _ (said_shr_laws (reaches T d.index) tt) (shares_laws T L (ptr_add T d.index d.base) d.object d.lifetime d.cell)) (copy_shared (marker.the_field RawPtr) (field_copy (marker.the_type RawPtr) tt), tt)
    (λ M 𝓤 𝓛 d p. let l = (C.the_row T).lives in let q : Ptr = ptr_add T d.index d.base in
    Lends-both 𝓛 (reaches T d.index) (portion_owns T q d.object d.lifetime d.cell d.parts d.owner) (said (reaches T d.index)) (portion_shares T q d.object d.lifetime d.cell) l
    (Lends-said 𝓛 (reaches T d.index) tt l) (portion_lends T L q d.object d.lifetime 𝓛 d.cell d.parts d.owner l))
