-- The places of taken chains: each is one of the shape, and a word leads to the first.
use Rattle.std.proofs.Common.{◌≡◌, ℕ, ◌<◌, ◌≤◌, true, List, [], ◌∷◌, sym, subst, refl, arith}
use Rattle.keybits.specs.declared.shape.Shape.{Shape}
use Rattle.keybits.specs.Shapes.{is_place}
use Rattle.keybits.specs.Counts.{times}
use Rattle.keybits.specs.Links.{Leads}
use Rattle.keybits.proofs.CountLemmas.{one_at}
use Rattle.steplaws.specs.Facts.{Moment, Rule}
use Rattle.poolsteps.specs.Returned.{LeadsTo}

-- each place of a taken chain is one of the shape
pub chain-inside : (z : Shape) (m : Moment) (lane : ℕ) (places : List ℕ) → Rule z m → lane < z.lanes → m.lanes.chain lane ≡ places
    → (place : ℕ) → 0 < times place places → is_place z place ≡ true
chain-inside z m lane places s below is place among =
    let chain = s.home.chained lane below in
    let chained = chain.each place (subst (λ (others : List ℕ). 0 < times place others) (sym is) among) in chained.inside

-- a link or stack word that leads through these places leads to the first
pub leads-first : (z : Shape) (links : ℕ → ℕ) (shard word : ℕ) (places : List ℕ) → Leads links shard word places → word ≤ 65536
    → ((place : ℕ) → 0 < times place places → is_place z place ≡ true) → LeadsTo z shard word places
leads-first z links shard word [] leads small inside = leads
leads-first z links shard word (place ∷ more) leads small inside =
    let here = one_at place place refl in (leads.0, small, leads.1, inside place (omega arith))
