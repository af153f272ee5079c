-- What a lane knows of its references, by what it saw, holds of the whole history: other lanes don't change them.
use Rattle.std.proofs.Common.{◌≡◌, ℕ, List, ap, ◌∙◌, subst}
use Rattle.keybits.specs.declared.shape.Shape.{Shape}
use Rattle.seqpool.specs.declared.act.Act.{Act}
use Rattle.seqpool.specs.Pool.{references, pool_after, IsLegal}
use Rattle.steplaws.specs.Facts.{Words, moment, Rule}
use Rattle.steplaws.proofs.Stays.{own-law}
use Rattle.poolsteps.specs.declared.view.View.{View}
use Rattle.poolsteps.specs.Rule.{World}
use Rattle.poolsteps.specs.Views.{the_lane}
use Rattle.poolsteps.specs.Told.{references_seen}
use Rattle.poolsteps.proofs.SeatLemmas.{IsAt}

pub references-known : (z : Shape) (words : Words) (w : World) (v : View) → Rule z (moment words w.history w.lanes) → IsAt z w v → (key : ℕ)
    → references z (pool_after z w.history) (the_lane v).lane key ≡ references_seen z v key
references-known z words w v rule at key =
    let lane : ℕ = (the_lane v).lane in
    let stay = own-law z v.seen at.between lane (subst (IsLegal z) at.seen rule.legal) at.others in
    ap (λ (history : List Act). references z (pool_after z history) lane key) at.seen ∙ stay.1 key
