use Rattle.std.proofs.Common.{◌≡◌, ◌<◌, ℕ, Option, IfSome, sym, ap, ◌∙◌, subst, arith, length}
use Rattle.poolsteps.specs.Share.{Share}
use Rattle.shardpool.specs.HeldKeys.{HeldKey}
use Rattle.keybits.specs.Keys.{place_of}
use Rattle.keybits.proofs.KeyLemmas.{key_parts}
use Rattle.seqpool.specs.Pool.{pool_after}
use Rattle.poolsteps.specs.Layout.{slot_start}
use Rattle.poolsteps.specs.Views.{the_lane}
use Rattle.poolsteps.specs.Told.{references_seen}
use Rattle.shardpool.proofs.references.Rows.{row-of-refs}
use Rattle.shardpool.proofs.references.RowChanges.{rows-low, rows-stand, rows-read, row-shows, key-now}
use Rattle.shardpool.proofs.pool.Lane.read_at.Goals as goal

pub index-requires : goal.index-requires
index-requires g c =
    let s = c.self.inside.state in let z = s.shape in let v = c.self.inside.hand.me.0 in let key = c.args.key in
    let some : 0 < references_seen z v key = rw (← c.self.view_is) at c.requires.held in
    let inside = (key-now z (pool_after z v.seen) (the_lane v).lane key some).0 in
    let here : c.args.start ≡ slot_start z (place_of key) = rw (← c.self.view_is) at c.requires.start in
    let low = subst (λ (n : ℕ). n < length s.rows.items) (sym here) (rows-low (place_of key) c.self.invariant.1.rows (key_parts z key inside).place) in
    omega (arith, low)

pub read-requires : goal.read-requires
read-requires g c =
    let s = c.self.inside.state in let z = s.shape in let v = c.self.inside.hand.me.0 in let key = c.args.key in
    let some : 0 < references_seen z v key = rw (← c.self.view_is) at c.requires.held in
    let inside = (key-now z (pool_after z v.seen) (the_lane v).lane key some).0 in
    let here : c.args.start ≡ slot_start z (place_of key) = rw (← c.self.view_is) at c.requires.start in
    let fits = c.self.invariant.1 in
    let fit = rows-read (place_of key) c.args.start c.index.result.now fits.rows (key_parts z key inside).place here c.index.ensures in
    let held = fit.held (row-of-refs key fit some).2 in
    let stands = rows-stand (place_of key) c.args.start c.index.result.now fits.rows (key_parts z key inside).place here c.index.ensures in
    let spot = fits.standing (slot_start z (place_of key)) c.index.result.now held.0 stands held.1 in
    (held.0, ap (λ (h : HeldKey g.row.T.Denot). h.share) c.behind-self.view_is ∙ held.1, (ap (λ x. x.directory) spot ∙ sym c.base.ensures, ap (λ x. x.index) spot ∙ sym here))

pub returns : goal.returns
returns g c =
    let s = c.self.inside.state in let z = s.shape in let v = c.self.inside.hand.me.0 in let key = c.args.key in
    let some : 0 < references_seen z v key = rw (← c.self.view_is) at c.requires.held in
    let inside = (key-now z (pool_after z v.seen) (the_lane v).lane key some).0 in
    let here : c.args.start ≡ slot_start z (place_of key) = rw (← c.self.view_is) at c.requires.start in
    let fit = rows-read (place_of key) c.args.start c.index.result.now c.self.invariant.1.rows (key_parts z key inside).place here c.index.ensures in
    let shown = subst (λ (o : Option (Share g.row.T.Denot)). IfSome o (λ share. c.read.result.now ≡ share.object)) (ap (λ (h : HeldKey g.row.T.Denot). h.share) c.behind-self.view_is) c.read.ensures in
    rw (← c.self.view_is) (row-shows key c.index.result.now c.read.result.now fit some shown)
