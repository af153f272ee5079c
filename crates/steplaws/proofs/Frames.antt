-- What Home says of a lane stays where a step changes nothing of it.
use Rattle.std.proofs.Common.{◌≡◌, ◌≢◌, ℕ, ◌<◌, true, List, Option, Some, None, ◌∙◌, subst}
use Rattle.keybits.specs.declared.shape.Shape.{Shape}
use Rattle.keybits.specs.Places.{shard_of}
use Rattle.keybits.specs.Shapes.{is_place}
use Rattle.keybits.specs.Counts.{times}
use Rattle.keybits.specs.Links.{Leads}
use Rattle.keybits.specs.Homes.{AreHome}
use Rattle.keybits.proofs.LeadLemmas.{leads-same, leads-one}
use Rattle.keybits.proofs.HomeLemmas.{home_on}
use Rattle.seqpool.specs.declared.act.Act.{Act}
use Rattle.seqpool.specs.Pool.{with, pool_after}
use Rattle.steplaws.specs.declared.pending.Pending.{Pending}
use Rattle.steplaws.specs.declared.pending.Pending.TheVariants.{Nothing, Undo, Owes, Returns}
use Rattle.steplaws.proofs.HomePlaces.{lane-part}
use Rattle.steplaws.specs.Facts.{Words, home_in, lane_home, returner, IsLinked, IsReturning, IsChain}

linked-same : (n m : ℕ) (linked : Option ℕ) → m ≡ n → IsLinked n linked → IsLinked m linked
linked-same n m None e l = tt
linked-same n m (Some top) e l = e ∙ l

-- from the words w and the history h to v and k
module _ (z : Shape) (w v : Words) (h k : List Act) where
  -- a place to return
  pub returning-same : (lane : ℕ) (u : Pending)
      → ((q : ℕ) → is_place z q ≡ true → shard_of q ≢ lane → (pool_after z h q).phase ≡ with lane
      → ((pool_after z k q).phase ≡ with lane) × (v.link q ≡ w.link q) × (w.stack (shard_of q) lane ≡ 0 → v.stack (shard_of q) lane ≡ 0))
      → IsReturning z w h lane u → IsReturning z v k lane u
  returning-same lane Nothing same r = tt
  returning-same lane (Undo key hit) same r = tt
  returning-same lane (Owes place generation) same r = tt
  returning-same lane (Returns q linked failed) same r = let s = same q r.inside r.apart r.with_lane in record {
    inside = r.inside;
    apart = r.apart;
    with_lane = s.0;
    link = linked-same (w.link q) (v.link q) linked s.1 r.link;
    emptied = λ f. s.2 (r.emptied f);
  }

  -- a taken chain
  pub chain-same : (lane : ℕ) (places : List ℕ)
      → ((q : ℕ) → is_place z q ≡ true → shard_of q ≡ lane → (pool_after z h q).phase ≡ with lane → 0 < times q places
      → ((pool_after z k q).phase ≡ with lane) × (v.link q ≡ w.link q))
      → IsChain z w h lane places → IsChain z v k lane places
  chain-same lane places same c = record {
    first = c.first;
    leads = leads-same w.link v.link lane c.first places (λ q some. let e = c.each q some in (same q e.inside e.own e.with_lane some).1) c.leads;
    each = λ q some. let e = c.each q some in record { once = e.once; inside = e.inside; own = e.own; with_lane = (same q e.inside e.own e.with_lane some).0 };
  }

  -- who returned the places on a stack
  pub returned-same : (shard lane : ℕ) → lane < z.lanes → lane ≢ shard → AreHome z shard w.link (w.stack shard) (lane_home z h shard)
      → ((thread : List ℕ) → Leads w.link shard (w.stack shard lane) thread → (place : ℕ) → 0 < times place thread → returner h place ≡ lane)
      → ((q : ℕ) → home_in z h shard q ≡ true → (v.link q ≡ w.link q) × (returner k q ≡ returner h q)) → v.stack shard lane ≡ w.stack shard lane
      → (thread : List ℕ) → Leads v.link shard (v.stack shard lane) thread → (place : ℕ) → 0 < times place thread → returner k place ≡ lane
  returned-same shard lane below apart (threads, a) by same still thread leads place some =
      let is_home : (q : ℕ) → 0 < times q (threads lane) → home_in z h shard q ≡ true =
      λ q more. (lane-part z h shard q (home_on threads z shard w.link (w.stack shard) (lane_home z h shard) a lane q below apart more)).0 in
      let old : Leads w.link shard (w.stack shard lane) (threads lane) = a.leads lane below apart in
      let new : Leads v.link shard (w.stack shard lane) (threads lane) = leads-same w.link v.link shard (w.stack shard lane) (threads lane) (λ q more. (same q (is_home q more)).0) old in
      let one : thread ≡ threads lane = leads-one v.link shard (w.stack shard lane) thread (threads lane) (subst (λ n. Leads v.link shard n thread) still leads) new in
      let there : 0 < times place (threads lane) = subst (λ (t : List ℕ). 0 < times place t) one some in
      (same place (is_home place there)).1 ∙ by (threads lane) old place there
