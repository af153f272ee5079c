-- The row of the key's place has one reference more.
use Rattle.std.proofs.Common.{◌≡◌, ◌≤◌, true, refl, sym, ap, ◌∙◌, subst, arith}
use Rattle.keybits.specs.declared.shape.Shape.{Shape}
use Rattle.keybits.specs.Keys.{is_key, place_of}
use Rattle.poolsteps.specs.Layout.{slot_start}
use Rattle.shardpool.specs.Tokens.{LaneOf}
use Rattle.shardpool.specs.Lanes.{holds, refs}
use Rattle.poolhandle.proofs.References.{held-key, row-low, row-is, after-gain}
use Rattle.poolhandle.proofs.counting_lane.CountingLane.get_at.Given.{Over}
use Rattle.poolhandle.proofs.counting_lane.CountingLane.get_at.Goals.{After-generation_of}
use Rattle.poolhandle.proofs.counting_lane.CountingLane.get_at.Goals as goal

module _ (g : Over) (c : After-generation_of g) where
  some : 1 ≤ holds c.get_at.new.lane c.args.key
  some = c.in_ok-start.ensures.got.held.1

  inside : is_key c.self.inside.lane.shape c.args.key ≡ true
  inside = subst (λ (z : Shape). is_key z c.args.key ≡ true) c.in_ok-start.ensures.got.same.1 (held-key c.get_at.new.lane c.args.key some)

  here : c.in_ok-start.start ≡ slot_start c.self.inside.lane.shape (place_of c.args.key)
  here = c.in_ok-start.ensures.stands ∙ ap (λ (z : Shape). slot_start z (place_of c.args.key)) (sym (ap (λ (l : LaneOf). l.shape) c.self.view_is ∙ c.requires.owns.1))

pub gain-requires-clause-start : goal.gain-requires-clause-start
gain-requires-clause-start g c = row-low c.args.key c.in_ok-start.start c.self.invariant (inside g (goal.at.gain-requires-clause-start g c).After-generation_of) (here g (goal.at.gain-requires-clause-start g c).After-generation_of)

pub gain-requires-clause-room : goal.gain-requires-clause-room
gain-requires-clause-room g c row stands same =
    let at = (goal.at.gain-requires-clause-room g c).After-generation_of in
    let is = row-is c.args.key c.in_ok-start.start c.generation_of.result c.self.invariant (inside g at) (here g at) c.generation_of.ensures row stands same in
    let most = c.places_law.ensures.held c.args.key in let few = c.requires.room in let lane = ap refs c.self.view_is in omega (arith, is, most, few, lane)

pub invariant_of-self-2 : goal.invariant_of-self-2
invariant_of-self-2 g c =
    let at = (goal.at.invariant_of-self-2 g c).After-generation_of in
    after-gain c.self.inside.lane c.get_at.new.lane c.self.inside.counts.items c.gain.new.counts.items c.in_ok-start.ensures.got.same.1 c.self.invariant c.args.key c.in_ok-start.start
    (inside g at) (here g at) c.generation_of.result c.generation_of.ensures c.gain.ensures (c.in_ok-start.ensures.got.one_more refl) (some g at)
