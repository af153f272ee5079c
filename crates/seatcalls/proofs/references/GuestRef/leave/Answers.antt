use Rattle.std.proofs.Common.{◌≡◌, ◌∷◌, [], ℕ, Option, sym, ap, ◌∙◌, subst, arith}
use Rattle.atomic_table.specs.declared.shared.Seat.{Seat}
use Rattle.keybits.specs.declared.shape.Shape.{Shape}
use Rattle.poolsteps.specs.Share.{Share}
use Rattle.poolsteps.specs.declared.view.View.{View}
use Rattle.keybits.specs.Keys.{place_of}
use Rattle.seqpool.specs.declared.act.Act.TheVariants as acts
use Rattle.seatcalls.specs.Visitors.{GuestOf, GuestRefOf, IsReferring, Visits}
use Rattle.seatcalls.proofs.parts.Moves.{carries-back}
use Rattle.seatcalls.proofs.parts.Referring.{visits-as, may-release, released-did, released-fits, released-bare}
use Rattle.seatcalls.proofs.references.GuestRef.leave.Goals as goal

pub leave-left-requires-clause-may : goal.leave-left-requires-clause-may
leave-left-requires-clause-may g c =
    let z : Shape = c.args.grid.now.shape in
    let same : c.self.inside.shape.value ≡ z = ap (λ (x : GuestRefOf). x.guest.shape) c.self.view_is ∙ c.requires.of.1 in
    let refer = subst (λ (y : Shape). IsReferring g.T.Clear.content g.T.Clear.room (record { table = c.into_hand-hand.result.table_id; shape = y; number = c.self.inside.number; book = c.into_hand-hand.result.me.0 })
    c.self.inside.directory.ptr c.self.inside.key c.self.inside.start c.self.invariant.1) same
    (subst (λ (h : Seat (Option (Share g.row.T.Denot)) View). IsReferring g.T.Clear.content g.T.Clear.room (record { table = h.table_id; shape = c.self.inside.shape.value; number = c.self.inside.number; book = h.me.0 })
    c.self.inside.directory.ptr c.self.inside.key c.self.inside.start c.self.invariant.1) (sym c.into_hand-hand.ensures) c.self.invariant.3) in
    may-release c.self.inside.key refer.fits refer.idle refer.one c.place_of.ensures.place (c.settle.ensures.settles.back c.self.invariant.1 c.self.invariant.2)

pub returns-clause-fits : goal.returns-clause-fits
returns-clause-fits g c =
    let z : Shape = c.args.grid.now.shape in
    let same : c.self.inside.shape.value ≡ z = ap (λ (x : GuestRefOf). x.guest.shape) c.self.view_is ∙ c.requires.of.1 in
    let refer = subst (λ (y : Shape). IsReferring g.T.Clear.content g.T.Clear.room (record { table = c.into_hand-hand.result.table_id; shape = y; number = c.self.inside.number; book = c.into_hand-hand.result.me.0 })
    c.self.inside.directory.ptr c.self.inside.key c.self.inside.start c.self.invariant.1) same
    (subst (λ (h : Seat (Option (Share g.row.T.Denot)) View). IsReferring g.T.Clear.content g.T.Clear.room (record { table = h.table_id; shape = c.self.inside.shape.value; number = c.self.inside.number; book = h.me.0 })
    c.self.inside.directory.ptr c.self.inside.key c.self.inside.start c.self.invariant.1) (sym c.into_hand-hand.ensures) c.self.invariant.3) in
    let backs = c.settle.ensures.settles.back c.self.invariant.1 c.self.invariant.2 in
    let leaves = c.leave-left.ensures.leaves.0 ((carries-back backs).elsewhere.under ∙ refer.idle) in
    released-fits c.self.inside.key refer.fits refer.idle refer.one c.place_of.ensures.place backs leaves

pub returns-clause-bare : goal.returns-clause-bare
returns-clause-bare g c =
    let z : Shape = c.args.grid.now.shape in
    let same : c.self.inside.shape.value ≡ z = ap (λ (x : GuestRefOf). x.guest.shape) c.self.view_is ∙ c.requires.of.1 in
    let refer = subst (λ (y : Shape). IsReferring g.T.Clear.content g.T.Clear.room (record { table = c.into_hand-hand.result.table_id; shape = y; number = c.self.inside.number; book = c.into_hand-hand.result.me.0 })
    c.self.inside.directory.ptr c.self.inside.key c.self.inside.start c.self.invariant.1) same
    (subst (λ (h : Seat (Option (Share g.row.T.Denot)) View). IsReferring g.T.Clear.content g.T.Clear.room (record { table = h.table_id; shape = c.self.inside.shape.value; number = c.self.inside.number; book = h.me.0 })
    c.self.inside.directory.ptr c.self.inside.key c.self.inside.start c.self.invariant.1) (sym c.into_hand-hand.ensures) c.self.invariant.3) in
    let backs = c.settle.ensures.settles.back c.self.invariant.1 c.self.invariant.2 in
    let leaves = c.leave-left.ensures.leaves.0 ((carries-back backs).elsewhere.under ∙ refer.idle) in
    released-bare c.self.inside.key refer.fits refer.idle refer.one c.place_of.ensures.place backs leaves

pub returns-clause-made : goal.returns-clause-made
returns-clause-made g c =
    let z : Shape = c.args.grid.now.shape in
    let same : c.self.inside.shape.value ≡ z = ap (λ (x : GuestRefOf). x.guest.shape) c.self.view_is ∙ c.requires.of.1 in
    let refer = subst (λ (y : Shape). IsReferring g.T.Clear.content g.T.Clear.room (record { table = c.into_hand-hand.result.table_id; shape = y; number = c.self.inside.number; book = c.into_hand-hand.result.me.0 })
    c.self.inside.directory.ptr c.self.inside.key c.self.inside.start c.self.invariant.1) same
    (subst (λ (h : Seat (Option (Share g.row.T.Denot)) View). IsReferring g.T.Clear.content g.T.Clear.room (record { table = h.table_id; shape = c.self.inside.shape.value; number = c.self.inside.number; book = h.me.0 })
    c.self.inside.directory.ptr c.self.inside.key c.self.inside.start c.self.invariant.1) (sym c.into_hand-hand.ensures) c.self.invariant.3) in
    let backs = c.settle.ensures.settles.back c.self.invariant.1 c.self.invariant.2 in
    let leaves = c.leave-left.ensures.leaves.0 ((carries-back backs).elsewhere.under ∙ refer.idle) in
    let did = released-did c.self.inside.key refer.fits refer.idle refer.one c.place_of.ensures.place backs leaves in
    let number : c.self.inside.number ≡ c.args.self.guest.number = ap (λ (x : GuestRefOf). x.guest.number) c.self.view_is in
    let key : c.self.inside.key ≡ c.args.self.key = ap (λ (x : GuestRefOf). x.key) c.self.view_is in
    let of : Seat (Option (Share g.row.T.Denot)) View → GuestOf = λ h. record { table = h.table_id; shape = c.self.inside.shape.value; number = c.self.inside.number; book = h.me.0 } in
    let mid : Shape → GuestOf = λ y. record { table = c.leave-left.new.hand.table_id; shape = y; number = c.self.inside.number; book = c.leave-left.new.hand.me.0 } in
    subst (λ (y : Shape). Visits (acts.Release c.args.self.guest.number c.args.self.key ∷ []) 1 2 c.args.self.guest (mid y)) same
    (subst (λ (n : ℕ). Visits (acts.Release n c.args.self.key ∷ []) 1 2 c.args.self.guest (mid c.self.inside.shape.value)) number
    (subst (λ (k : ℕ). Visits (acts.Release c.self.inside.number k ∷ []) 1 2 c.args.self.guest (mid c.self.inside.shape.value)) key
    (visits-as did (ap of c.into_hand-hand.ensures ∙ ap (λ (x : GuestRefOf). x.guest) c.self.view_is) same (c.leave-left.ensures.hand.0 ∙ c.settle.ensures.hand.0) (omega arith) (omega arith))))
