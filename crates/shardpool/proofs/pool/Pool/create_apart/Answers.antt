-- A create gives what its parts make together.
use Rattle.std.proofs.Common.{◌≡◌, ◌∙◌, refl, sym, ap, subst, arith}
use Rattle.keybits.specs.declared.shape.Shape.{Shape}
use Rattle.poolsteps.specs.Grids.{IsSpot}
use Rattle.poolsteps.specs.Views.{the_lane}
use Rattle.std.proofs.lemmas.Result.{err_from_is_err_and}
use Rattle.shardpool.specs.Tokens.{LaneOf}
use Rattle.shardpool.specs.Lanes.{Owns}
use Rattle.shardpool.specs.Creates.{OpensPage, GivesNone}
use Rattle.shardpool.proofs.calls.Creates.{IsSound, sound-fits, taken-gives, none-gives, page-gives, none-hangs, opened-some}
use Rattle.shardpool.proofs.calls.AfterCalls.{create-gave, create-refused}
use Rattle.shardpool.proofs.pool.Pool.create_apart.Goals as goal

-- ---- the calls are those of the lane's pool

pub take_returned-requires-clause-owns : goal.take_returned-requires-clause-owns
take_returned-requires-clause-owns g c = c.requires.owns

pub take_returned-requires-clause-own : goal.take_returned-requires-clause-own
take_returned-requires-clause-own g c = c.requires.own

pub follow-requires : goal.follow-requires
follow-requires g c = let same = c.take_returned.ensures.takes.same in record { owns = (same.0 ∙ c.requires.owns.0, same.1 ∙ c.requires.owns.1, same.3 ∙ c.requires.owns.2) }

pub fill-requires-clause-owns : goal.fill-requires-clause-owns
fill-requires-clause-owns g c =
    let taken = c.take_returned.ensures.takes.same in
    let same = c.in-Some.ensures.some.same in
    (same.0 ∙ (taken.0 ∙ c.requires.owns.0), same.1 ∙ (taken.1 ∙ c.requires.owns.1), same.3 ∙ (taken.3 ∙ c.requires.owns.2))

pub fill-requires-clause-spot : goal.fill-requires-clause-spot
fill-requires-clause-spot g c = c.in-Some.ensures.spot

pub fill-requires-clause-loose : goal.fill-requires-clause-loose
fill-requires-clause-loose g c = c.in-Some.ensures.some.loose

pub open_page-requires-clause-own : goal.open_page-requires-clause-own
open_page-requires-clause-own g c =
    ap (λ (lane : LaneOf). lane.free.own) (c.in_default.ensures.none refl).0 ∙ (c.take_returned.ensures.takes.list ∙ c.requires.own)

pub open_page-requires-clause-chain : goal.open_page-requires-clause-chain
open_page-requires-clause-chain g c =
    let none = c.in_default.ensures.none refl in ap (λ (lane : LaneOf). (the_lane lane.book).chain) none.0 ∙ none.1

pub fill-requires-in-Some-pop-clause-owns : goal.fill-requires-in-Some-pop-clause-owns
fill-requires-in-Some-pop-clause-owns g c =
    let taken = c.take_returned.ensures.takes.same in
    subst (Owns c.args.self.now) (sym c.in-Some-pop.ensures.some.3) (subst (Owns c.args.self.now) (sym (c.in_ok-open_page.ensures.opens refl).1)
    (subst (Owns c.args.self.now) (sym (c.in_default.ensures.none refl).0) (taken.0 ∙ c.requires.owns.0, taken.1 ∙ c.requires.owns.1, taken.3 ∙ c.requires.owns.2)))

pub fill-requires-in-Some-pop-clause-spot : goal.fill-requires-in-Some-pop-clause-spot
fill-requires-in-Some-pop-clause-spot g c =
    let shape : c.open_page.new.lane.shape ≡ c.args.self.now.shape
    = ap (λ (lane : LaneOf). lane.shape) (c.in_ok-open_page.ensures.opens refl).1 ∙ (ap (λ (lane : LaneOf). lane.shape) (c.in_default.ensures.none refl).0 ∙ (c.take_returned.ensures.takes.same.1 ∙ c.requires.owns.1)) in
    subst (λ (z : Shape). IsSpot z c.in-Some-pop.spot c.in-Some-pop.spot.place) shape c.in-Some-pop.ensures.spot

pub fill-requires-in-Some-pop-clause-loose : goal.fill-requires-in-Some-pop-clause-loose
fill-requires-in-Some-pop-clause-loose g c = c.in-Some-pop.ensures.some.4

-- ---- the place comes from the chain

pub returns-in-Some : goal.returns-in-Some
returns-in-Some g c =
    let sound : IsSound c.args.lane.now
    = subst IsSound c.lane.view_is (sound-fits g.T.Clear.content g.T.Clear.room c.lane.inside.hand.table_id c.lane.inside.hand.me.0 c.lane.inside.state c.lane.invariant.1) in
    create-gave {pool = c.args.self.now} c.requires.owns
    (λ filling was. c.fill.ensures.fillings filling (c.follow.ensures.fillings filling (c.take_returned.ensures.fillings filling was)))
    (taken-gives g.T.Clear.content g.T.Clear.room c.args.lane.now c.take_returned.new.lane c.follow.new.lane c.fill.new.lane sound c.requires.own c.take_returned.ensures.takes
    c.in-Some.ensures.some c.fill.ensures.fills)

-- ---- nothing was free, and no page could be opened

pub returns-in_err-open_page : goal.returns-in_err-open_page
returns-in_err-open_page g c =
    let sound : IsSound c.args.lane.now
    = subst IsSound c.lane.view_is (sound-fits g.T.Clear.content g.T.Clear.room c.lane.inside.hand.table_id c.lane.inside.hand.me.0 c.lane.inside.state c.lane.invariant.1) in
    let takes = c.take_returned.ensures.takes in
    let unfollowed = c.in_default.ensures.none refl in
    let left = err_from_is_err_and c.from_residual.result c.from_residual.ensures.1 in
    let from = left.2 in
    let opened : c.follow.new.lane.pages.opened ≡ c.args.lane.now.pages.opened = ap (λ (lane : LaneOf). lane.pages.opened) unfollowed.0 ∙ ap (λ pages. pages.opened) takes.pages in
    let shape : c.follow.new.lane.shape.pages ≡ c.args.lane.now.shape.pages = ap (λ (lane : LaneOf). lane.shape.pages) unfollowed.0 ∙ ap (λ (z : Shape). z.pages) takes.same.1 in
    let none = subst (GivesNone c.args.lane.now) (sym (c.in_err-open_page.ensures.none refl ∙ unfollowed.0))
    (none-gives c.args.lane.now c.take_returned.new.lane sound takes unfollowed.1 c.requires.own) in
    rw left.1
    (create-refused {pool = c.args.self.now} c.requires.owns
    (λ filling was. c.open_page.ensures.fillings filling (c.follow.ensures.fillings filling (c.take_returned.ensures.fillings filling was)))
    left.0 none
    (λ is. sym opened ∙ (c.in_err-open_page.ensures.full (cc (is, from)) ∙ shape))
    (λ is. let low = c.in_err-open_page.ensures.memory (cc (is, from)) in omega (arith, low, opened, shape))
    (none-hangs c.args.lane.now c.take_returned.new.lane sound takes unfollowed.1))

-- ---- the place comes from the next page, which has one

pub unreachable-requires : goal.unreachable-requires
unreachable-requires g c =
    let sound : IsSound c.args.lane.now
    = subst IsSound c.lane.view_is (sound-fits g.T.Clear.content g.T.Clear.room c.lane.inside.hand.table_id c.lane.inside.hand.me.0 c.lane.inside.state c.lane.invariant.1) in
    let unfollowed = c.in_default.ensures.none refl in
    let opens : OpensPage c.take_returned.new.lane c.open_page.new.lane
    = subst (λ (lane : LaneOf). OpensPage lane c.open_page.new.lane) unfollowed.0 (c.in_ok-open_page.ensures.opens refl) in
    opened-some c.args.lane.now c.take_returned.new.lane c.open_page.new.lane sound c.take_returned.ensures.takes opens (c.in-None.ensures.none refl).1

pub returns : goal.returns
returns g c =
    let sound : IsSound c.args.lane.now
    = subst IsSound c.lane.view_is (sound-fits g.T.Clear.content g.T.Clear.room c.lane.inside.hand.table_id c.lane.inside.hand.me.0 c.lane.inside.state c.lane.invariant.1) in
    let unfollowed = c.in_default.ensures.none refl in
    let opens : OpensPage c.take_returned.new.lane c.open_page.new.lane
    = subst (λ (lane : LaneOf). OpensPage lane c.open_page.new.lane) unfollowed.0 (c.in_ok-open_page.ensures.opens refl) in
    create-gave {pool = c.args.self.now} c.requires.owns
    (λ filling was. c.fill-in-Some-pop.ensures.fillings filling (c.pop.ensures.fillings filling
    (c.open_page.ensures.fillings filling (c.follow.ensures.fillings filling (c.take_returned.ensures.fillings filling was)))))
    (page-gives g.T.Clear.content g.T.Clear.room c.args.lane.now c.take_returned.new.lane c.open_page.new.lane c.pop.new.lane c.fill-in-Some-pop.new.lane sound c.requires.own
    c.take_returned.ensures.takes unfollowed.1 opens c.in-Some-pop.ensures.some c.fill-in-Some-pop.ensures.fills)
