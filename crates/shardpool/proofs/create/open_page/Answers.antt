-- The lane's fillings are of pages that were opened before.
use Rattle.std.proofs.Common.{◌≡◌, ℕ, [], List, Option, Some, None, refl, sym, ap, ◌∙◌, subst, arith}
use Rattle.std.proofs.lemmas.Bool.{false≢true}
use Rattle.keybits.specs.declared.shape.Shape.{Shape}
use Rattle.keybits.specs.declared.place.Place.{Place}
use Rattle.poolsteps.specs.Views.{the_lane}
use Rattle.shardpool.specs.LaneStates.{IsFirst}
use Rattle.shardpool.specs.Tokens.{LaneOf}
use Rattle.shardpool.specs.Lanes.{Made}
use Rattle.shardpool.proofs.free.OwnLists.{opened-fillings, opened-fits}
use Rattle.shardpool.proofs.create.open_page.Goals as goal

-- no chain hangs where it is empty
unchained : (first : Option Place) (chain : List ℕ) → chain ≡ [] → IsFirst first chain → first ≡ None
unchained None chain empty first = refl
unchained (Some place) chain empty first = absurd (cc (sym empty ∙ first))

-- ---- all pages are opened

pub returns-then-page-lane-clause-full : goal.returns-then-page-lane-clause-full
returns-then-page-lane-clause-full g c = λ full.
    ap (λ (lane : LaneOf). lane.pages.opened) (sym c.lane.view_is)
    ∙ (sym c.opened-page.ensures.opened ∙ (c.if-page-lane.true ∙ ap (λ (lane : LaneOf). lane.shape.pages) c.lane.view_is))

pub returns-then-page-lane-clause-none : goal.returns-then-page-lane-clause-none
returns-then-page-lane-clause-none g c = λ err. refl

pub returns-then-page-lane-clause-opens : goal.returns-then-page-lane-clause-opens
returns-then-page-lane-clause-opens g c = λ ok. absurd (false≢true ok)

pub returns-then-page-lane-clause-fillings : goal.returns-then-page-lane-clause-fillings
returns-then-page-lane-clause-fillings g c = λ filling made. made

-- ---- memory was refused

pub returns-in_default-clause-none : goal.returns-in_default-clause-none
returns-in_default-clause-none g c = λ err. refl

pub returns-in_default-clause-opens : goal.returns-in_default-clause-opens
returns-in_default-clause-opens g c = λ ok. absurd (false≢true ok)

pub returns-in_default-clause-fillings : goal.returns-in_default-clause-fillings
returns-in_default-clause-fillings g c = λ filling made. made

-- ---- the lane is sound

pub page_size-size-requires-clause-shape : goal.page_size-size-requires-clause-shape
page_size-size-requires-clause-shape g c = c.lane.invariant.1.seat.shape

pub open_next-requires-clause-shape : goal.open_next-requires-clause-shape
open_next-requires-clause-shape g c = c.lane.invariant.1.seat.shape

pub open_next-requires-clause-lane : goal.open_next-requires-clause-lane
open_next-requires-clause-lane g c = c.lane.invariant.1.seat.below

pub open_next-requires-clause-lists : goal.open_next-requires-clause-lists
open_next-requires-clause-lists g c = let fits = c.lane.invariant.1 in (fits.stores.lists.0 ∙ sym fits.seat.number_is, fits.stores.lists.1)

pub open_next-requires-clause-paged : goal.open_next-requires-clause-paged
open_next-requires-clause-paged g c = c.lane.invariant.1.stores.paged.1

pub open_next-requires-clause-placed : goal.open_next-requires-clause-placed
open_next-requires-clause-placed g c = c.lane.invariant.1.placed

pub open_next-requires-clause-begins : goal.open_next-requires-clause-begins
open_next-requires-clause-begins g c = c.lane.invariant.1.rights.first_is

pub open_next-requires-clause-narrow : goal.open_next-requires-clause-narrow
open_next-requires-clause-narrow g c = c.lane.invariant.1.stores.narrow

pub open_next-requires-clause-own : goal.open_next-requires-clause-own
open_next-requires-clause-own g c = ap (λ (lane : LaneOf). lane.free.own) c.lane.view_is ∙ c.requires.own

pub open_next-requires-clause-chain : goal.open_next-requires-clause-chain
open_next-requires-clause-chain g c =
    unchained c.lane.inside.state.free.chain (the_lane c.lane.inside.hand.me.0).chain (ap (λ (lane : LaneOf). (the_lane lane.book).chain) c.lane.view_is ∙ c.requires.chain)
    c.lane.invariant.1.stores.first

pub page_size-size-requires-clause-page : goal.page_size-size-requires-clause-page
page_size-size-requires-clause-page g c =
    let opened = c.opened-page.ensures.opened in
    let within = c.opened-page.ensures.within in
    let isnt = c.if-page-lane.false in
    let paged = ap (λ (z : Shape). z.pages) c.lane.invariant.1.stores.paged.1 in
    omega (arith, opened, within, isnt, paged)

pub open_next-requires-clause-unopened : goal.open_next-requires-clause-unopened
open_next-requires-clause-unopened g c =
    let opened = c.opened-page.ensures.opened in
    let within = c.opened-page.ensures.within in
    let isnt = c.if-page-lane.false in
    let paged = ap (λ (z : Shape). z.pages) c.lane.invariant.1.stores.paged.1 in
    omega (arith, opened, within, isnt, paged)

-- ---- the next page is opened

pub returns-clause-fillings : goal.returns-clause-fillings
returns-clause-fillings g c = λ filling made.
    let opened = c.opened-page.ensures.opened in
    let within = c.opened-page.ensures.within in
    let isnt = c.if-page-lane.false in
    let paged = ap (λ (z : Shape). z.pages) c.lane.invariant.1.stores.paged.1 in
    opened-fillings c.lane.invariant.1 c.lane.inside.hand.table_id (omega (arith, opened, within, isnt, paged)) c.open_next.ensures filling (subst (λ (lane : LaneOf). Made lane filling) (sym c.lane.view_is) made)

pub open_next-requires-clause-rights : goal.open_next-requires-clause-rights
open_next-requires-clause-rights g c place inside own page = c.lane.invariant.1.rights.has_right place inside own (let at = page in omega (arith, at))

-- the lane has the rights to the new places already
pub invariant_of-lane : goal.invariant_of-lane
invariant_of-lane g c =
    let fits = c.lane.invariant.1 in
    let opens = c.open_next.ensures in
    (c.lane.invariant.0, opened-fits fits opens)
