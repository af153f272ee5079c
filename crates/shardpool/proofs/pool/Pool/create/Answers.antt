-- A create gives the first place of the own list, or what is given apart.
use Rattle.std.proofs.Common.{◌∙◌, refl, sym, ap, subst}
use Rattle.keybits.specs.declared.shape.Shape.{Shape}
use Rattle.poolsteps.specs.Grids.{IsSpot}
use Rattle.shardpool.specs.Tokens.{LaneOf}
use Rattle.shardpool.specs.Lanes.{Owns}
use Rattle.shardpool.specs.AfterCalls.{AfterCreate}
use Rattle.shardpool.proofs.calls.Creates.{IsSound, sound-fits, list-gives}
use Rattle.shardpool.proofs.calls.AfterCalls.{create-gave}
use Rattle.shardpool.proofs.pool.Pool.create.Goals as goal

-- ---- the place comes from the own list

pub fill-requires-clause-owns : goal.fill-requires-clause-owns
fill-requires-clause-owns g c = subst (Owns c.args.self.now) (sym c.in-Some.ensures.some.3) c.requires.owns

pub fill-requires-clause-loose : goal.fill-requires-clause-loose
fill-requires-clause-loose g c = c.in-Some.ensures.some.4

pub fill-requires-clause-spot : goal.fill-requires-clause-spot
fill-requires-clause-spot g c = subst (λ (z : Shape). IsSpot z c.in-Some.spot c.in-Some.spot.place) c.requires.owns.1 c.in-Some.ensures.spot

pub returns-in-Some : goal.returns-in-Some
returns-in-Some g c =
    let sound : IsSound c.args.lane.now
    = subst IsSound c.lane.view_is (sound-fits g.T.Clear.content g.T.Clear.room c.lane.inside.hand.table_id c.lane.inside.hand.me.0 c.lane.inside.state c.lane.invariant.1) in
    create-gave {pool = c.args.self.now} c.requires.owns (λ filling was. c.fill.ensures.fillings filling (c.pop.ensures.fillings filling was))
    (list-gives g.T.Clear.content g.T.Clear.room c.args.lane.now c.pop.new.lane c.fill.new.lane sound c.in-Some.ensures.some c.fill.ensures.fills)

-- ---- it is given apart, and the lane that was popped is as before

pub create_apart-requires-clause-owns : goal.create_apart-requires-clause-owns
create_apart-requires-clause-owns g c = subst (Owns c.args.self.now) (sym (c.in_default.ensures.none refl).0) c.requires.owns

pub create_apart-requires-clause-own : goal.create_apart-requires-clause-own
create_apart-requires-clause-own g c = let none = c.in_default.ensures.none refl in ap (λ (lane : LaneOf). lane.free.own) none.0 ∙ none.1

pub returns : goal.returns
returns g c =
    subst (λ (lane : LaneOf). AfterCreate g.T.Clear.content g.T.Clear.room c.args.self.now lane c.create_apart.new.lane c.create_apart.result) (c.in_default.ensures.none refl).0
    c.create_apart.ensures
