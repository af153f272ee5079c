-- A pool of one lane.
use Rattle.std.proofs.Common.{◌≡◌, ℕ, ◌<◌, Bool, true, cond, List, [], ◌∷◌, refl, sym, ap, ◌∙◌, subst, arith, eq-eqb}
use Rattle.keybits.specs.Shapes.{callers}
use Rattle.keybits.specs.declared.shape.Shape.{Shape}
use Rattle.seqpool.specs.declared.act.Act.{Act}
use Rattle.seqpool.specs.Pool.{Pool, lane_of, references_in, is_marked, pool_after, after, fresh, LegalFrom, IsLegal}
use Rattle.seqpool.specs.Histories.{acts_of}
use Rattle.steplaws.specs.Facts.{Words, Lanes, moment, Rule}
use Rattle.steplaws.specs.declared.pending.Pending.TheVariants.{Nothing}
use Rattle.steplaws.proofs.Counts.{quiet-law}
use Rattle.poolsteps.specs.declared.view.LaneRecord.{LaneRecord}
use Rattle.poolsteps.specs.Told.{Quiet}

-- in its histories all acts are of the lane
only-lane-from : (z : Shape) → (callers z) ≡ 1 → (pool : Pool) (history : List Act) → LegalFrom z pool history → acts_of 0 history ≡ history
only-lane-from z one pool [] legal = refl
only-lane-from z one pool (act ∷ more) legal =
    let first : lane_of act ≡ 0 = omega (arith, one, legal.0) in
    ap (λ (b : Bool). cond b (act ∷ acts_of 0 more) (acts_of 0 more)) (eq-eqb (lane_of act) 0 first)
    ∙ ap (λ (xs : List Act). act ∷ xs) (only-lane-from z one (after z act pool) more legal.2)

pub only-lane : (z : Shape) (lane : ℕ) (history : List Act) → (callers z) ≡ 1 → lane < (callers z) → IsLegal z history → acts_of lane history ≡ history
only-lane z lane history one below legal =
    let first : lane ≡ 0 = omega (arith, one, below) in
    ap (λ (l : ℕ). acts_of l history) first ∙ only-lane-from z one fresh history legal

-- whose lane, where it has nothing under way, has a reference to each marked key that it saw, as it saw all
pub quiet-now : (z : Shape) (words : Words) (history : List Act) (lanes : Lanes) (r : LaneRecord) (seen : List Act) (rooms : List ℕ) (steps looks : ℕ)
    → Rule z (moment words history lanes) → r.lane < (callers z) → r.under ≡ lanes.under r.lane → ((callers z) ≡ 1 → seen ≡ history)
    → Quiet z (record { lanes = r ∷ []; seen = seen; rooms = rooms; told = []; steps = steps; looks = looks })
quiet-now z words history lanes r seen rooms steps looks rule below under all one idle place is marked =
    let same : seen ≡ history = all one in
    let nothing : (lane : ℕ) → lane < (callers z) → lanes.under lane ≡ Nothing = λ lane inside.
    let here : r.lane ≡ lane = omega (arith, one, below, inside) in
    subst (λ (l : ℕ). lanes.under l ≡ Nothing) here (sym under ∙ idle) in
    let held = quiet-law z (moment words history lanes) rule nothing place is (subst (λ (h : List Act). is_marked (pool_after z h place).phase ≡ true) same marked) in
    let here : held.0 ≡ r.lane = omega (arith, one, below, held.1) in
    subst (λ (h : List Act). 0 < references_in (pool_after z h place).phase r.lane) (sym same)
    (subst (λ (l : ℕ). 0 < references_in (pool_after z history place).phase l) here held.2)
