-- What the downgrade leaves the guard has.
use Rattle.std.proofs.Common.{◌≡◌, ℕ, ◌≤◌, true, [], ◌∷◌, sym, ap, ◌∙◌, subst}
use mathlib.Core.List.{IsPrefix}
use Rattle.keybits.specs.Keys.{place_of}
use Rattle.seqpool.specs.declared.act.Act.TheVariants as acts
use Rattle.poolsteps.specs.Shares.{room_of}
use Rattle.steplaws.specs.Calls.Call.{Publishing}
use Rattle.shardpool.specs.Tokens.{LaneOf, RefOf}
use Rattle.shardpool.specs.Lanes.{Made, Calls, Did, holds, refs}
use Rattle.shardpool.specs.Seen.{PublishedSince}
use Rattle.guards.proofs.Guarding.{guard-holds}
use Rattle.guards.proofs.filling.FillGuard+T.downgrade.Goals as goal

pub downgrade-reference-requires-clause-owns : goal.downgrade-reference-requires-clause-owns
downgrade-reference-requires-clause-owns g c = c.requires.may.0

pub downgrade-reference-requires-clause-made : goal.downgrade-reference-requires-clause-made
downgrade-reference-requires-clause-made g c = c.requires.may.1

pub downgrade-reference-requires-clause-room : goal.downgrade-reference-requires-clause-room
downgrade-reference-requires-clause-room g c = c.requires.room

pub returns-clause-same_reference : goal.returns-clause-same_reference
returns-clause-same_reference g c = c.of.ensures.same_reference

pub returns-clause-pool : goal.returns-clause-pool
returns-clause-pool g c = c.of.ensures.parts.1

pub returns-clause-key : goal.returns-clause-key
returns-clause-key g c = ap (λ (r : RefOf). r.key) c.of.ensures.parts.2 ∙ c.downgrade-reference.ensures.key.0

pub returns-clause-may : goal.returns-clause-may
returns-clause-may g c =
    let of = c.of.ensures.parts in
    let key = c.downgrade-reference.ensures.key in
    let held = subst (λ (k : ℕ). 1 ≤ holds c.downgrade-reference.new.lane k) (sym key.0) key.1 in
    guard-holds of.0 of.1 of.2 c.downgrade-reference.ensures.owns held

pub returns-clause-called : goal.returns-clause-called
returns-clause-called g c =
    let filling = c.args.self.filling in
    subst (λ (lane : LaneOf). Calls c.args.self.pool.now.shape (Publishing filling.key (g.T.Clear.content filling.object) true) c.args.self.lane.now.book lane.book) (sym c.of.ensures.parts.0)
    c.downgrade-reference.ensures.called

pub returns-clause-publishes : goal.returns-clause-publishes
returns-clause-publishes g c =
    let old = c.args.self.lane.now in
    let filling = c.args.self.filling in
    subst (λ (lane : LaneOf). Did (acts.Publish old.number filling.key (g.T.Clear.content filling.object) true ∷ []) old lane) (sym c.of.ensures.parts.0)
    c.downgrade-reference.ensures.publishes

pub returns-clause-published : goal.returns-clause-published
returns-clause-published g c =
    let filling = c.args.self.filling in
    subst (λ (lane : LaneOf). PublishedSince filling.key (g.T.Clear.content filling.object) true c.args.self.lane.now lane) (sym c.of.ensures.parts.0)
    c.downgrade-reference.ensures.published

pub returns-clause-seen : goal.returns-clause-seen
returns-clause-seen g c =
    subst (λ (lane : LaneOf). IsPrefix c.args.self.lane.now.book.seen lane.book.seen) (sym c.of.ensures.parts.0) c.downgrade-reference.ensures.seen

pub returns-clause-same : goal.returns-clause-same
returns-clause-same g c = (returns-clause-publishes g c).same

pub returns-clause-refs : goal.returns-clause-refs
returns-clause-refs g c = ap refs c.of.ensures.parts.0 ∙ c.downgrade-reference.ensures.refs

pub returns-clause-holds : goal.returns-clause-holds
returns-clause-holds g c other = ap (λ (lane : LaneOf). holds lane other) c.of.ensures.parts.0 ∙ c.downgrade-reference.ensures.one_more other

pub returns-clause-room : goal.returns-clause-room
returns-clause-room g c =
    let filling = c.args.self.filling in
    subst (λ (lane : LaneOf). room_of lane.book.seen lane.book.rooms (place_of filling.key) ≡ g.T.Clear.room filling.object) (sym c.of.ensures.parts.0)
    c.downgrade-reference.ensures.room

pub returns-clause-fillings : goal.returns-clause-fillings
returns-clause-fillings g c other differs made =
    subst (λ (lane : LaneOf). Made lane other) (sym c.of.ensures.parts.0) (c.downgrade-reference.ensures.fillings other differs made)
