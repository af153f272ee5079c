-- A home place stands on the stack of another lane.
use Rattle.std.proofs.Common.{◌≡◌, ◌≢◌, ℕ, ◌<◌, Bool, true, cond, eqb, List, ap, subst, arith, eq-eqb, ne_eqb}
use Rattle.keybits.specs.declared.shape.Shape.{Shape}
use Rattle.keybits.specs.Counts.{times}
use Rattle.keybits.specs.Links.{Leads}
use Rattle.keybits.specs.Homes.{times_stacked, AreHomeBy}
use Rattle.keybits.proofs.CountLemmas.{count_if, sum-some}
use Rattle.seqpool.specs.declared.act.Act.{Act}
use Rattle.steplaws.specs.Facts.{Words, Lanes, lane_home, Home}
use Rattle.keybits.proofs.ShapeLemmas.{is_place-parts}
use Rattle.steplaws.proofs.HomePlaces.{home-parts, lane-part}

-- a place on a stack of a shard: the lane whose stack it is, and the places on it
pub record Stacked (z : Shape) (w : Words) (shard place : ℕ) : Type 0 where
  pub lane : ℕ
  pub below : lane < z.lanes
  pub apart : lane ≢ shard
  pub thread : List ℕ
  pub leads : Leads w.link shard (w.stack shard lane) thread
  pub among : 0 < times place thread

stacked-by : (threads : ℕ → List ℕ) (z : Shape) (w : Words) (shard place : ℕ) (homes : ℕ → Bool) → AreHomeBy threads z shard w.link (w.stack shard) homes
    → homes place ≡ true → Stacked z w shard place
stacked-by threads z w shard place homes a is =
    let once : times_stacked z.lanes shard threads place ≡ count_if (homes place) = a.each_once place in
    let one : count_if (homes place) ≡ 1 = ap count_if is in
    let k = sum-some z.lanes (λ (lane : ℕ). cond (eqb lane shard) 0 (times place (threads lane))) (omega arith) in
    let some : 0 < cond (eqb k.0 shard) 0 (times place (threads k.0)) = k.2 in
    let apart : k.0 ≢ shard = λ e. let none : cond (eqb k.0 shard) 0 (times place (threads k.0)) ≡ 0 = ap (λ (b : Bool). cond b 0 (times place (threads k.0))) (eq-eqb k.0 shard e) in absurd (omega arith) in
    let here : cond (eqb k.0 shard) 0 (times place (threads k.0)) ≡ times place (threads k.0) = ap (λ (b : Bool). cond b 0 (times place (threads k.0))) (ne_eqb k.0 shard apart) in
    record {
      lane = k.0;
      below = k.1;
      apart = apart;
      thread = threads k.0;
      leads = a.leads k.0 k.1 apart;
      among = omega arith;
    }

pub stacked : (z : Shape) (w : Words) (h : List Act) (r : Lanes) → Home z w h r → (shard place : ℕ) → lane_home z h shard place ≡ true → Stacked z w shard place
stacked z w h r t shard place is =
    let p = home-parts z h shard place (lane-part z h shard place is).0 in
    let below : shard < z.lanes = subst (λ (n : ℕ). n < z.lanes) p.own (is_place-parts z place p.inside).0 in
    let a = t.stacks shard below in
    stacked-by a.0 z w shard place (lane_home z h shard) a.1 is
