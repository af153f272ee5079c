-- The row of the key's place has one reference more.
use Rattle.std.proofs.Common.{◌≡◌, ◌≤◌, ℕ, true, refl, sym, ap, ◌∙◌, subst}
use Rattle.keybits.specs.declared.shape.Shape.{Shape}
use Rattle.keybits.specs.Keys.{is_key, place_of}
use Rattle.poolsteps.specs.Layout.{slot_start}
use Rattle.shardpool.specs.Lanes.{holds}
use Rattle.shardpool.specs.AfterCalls.{HoldsOneMore}
use Rattle.poolhandle.proofs.References.{row-low, after-gain}
use Rattle.poolhandle.proofs.counting_lane.CountingLane.downgrade.Given.{Over}
use Rattle.poolhandle.proofs.counting_lane.CountingLane.downgrade.Goals.{After-generation_of}
use Rattle.poolhandle.proofs.counting_lane.CountingLane.downgrade.Goals as goal

module _ (g : Over) (c : After-generation_of g) where
  inside : is_key c.self.inside.lane.shape c.key-key.result ≡ true
  inside = subst (λ (z : Shape). is_key z c.key-key.result ≡ true) c.downgrade-reference.ensures.same.1 (c.in-Some.ensures.some.0 refl)

  here : c.in-Some.start ≡ slot_start c.self.inside.lane.shape (place_of c.key-key.result)
  here = c.in-Some.ensures.at ∙ ap (λ (z : Shape). slot_start z (place_of c.key-key.result)) c.downgrade-reference.ensures.same.1

pub gain-requires-clause-start : goal.gain-requires-clause-start
gain-requires-clause-start g c = row-low c.key-key.result c.in-Some.start c.self.invariant (inside g (goal.at.gain-requires-clause-start g c).After-generation_of) (here g (goal.at.gain-requires-clause-start g c).After-generation_of)

pub invariant_of-self : goal.invariant_of-self
invariant_of-self g c =
    let old = c.self.inside.lane in let new = c.downgrade-reference.new.lane in let did = c.downgrade-reference.ensures in
    let is : c.args.filling.key ≡ c.key-key.result = sym (c.key-key.ensures ∙ did.key.0) in
    after-gain old new c.self.inside.counts.items c.gain.new.counts.items did.same.1 c.self.invariant c.key-key.result c.in-Some.start
    (inside g (goal.at.invariant_of-self g c).After-generation_of) (here g (goal.at.invariant_of-self g c).After-generation_of) c.generation_of.result c.generation_of.ensures c.gain.ensures
    (subst (λ (key : ℕ). HoldsOneMore key old new) is did.one_more) (subst (λ (key : ℕ). 1 ≤ holds new key) is did.key.1)
