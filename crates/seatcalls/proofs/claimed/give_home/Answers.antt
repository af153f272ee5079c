use Rattle.std.proofs.Common.{◌≡◌, ◌≤◌, ◌∷◌, [], List, ℕ, Bool, false, cond, length, None, sym, ap, ◌∙◌, subst, arith, ne_eqb}
use Rattle.keybits.specs.declared.shape.Shape.{Shape}
use Rattle.keybits.proofs.ShapeLemmas.{is_place-parts}
use Rattle.seqpool.specs.declared.act.Act.{Act}
use Rattle.seqpool.specs.declared.act.Act.TheVariants as acts
use Rattle.steplaws.specs.declared.pending.Pending.TheVariants.{Returns}
use Rattle.poolsteps.specs.Views.{the_lane}
use Rattle.seatcalls.specs.Called.{Did}
use Rattle.seatcalls.specs.Guests.{given_acts}
use Rattle.seatcalls.proofs.parts.Standing.{returns-away}
use Rattle.seatcalls.proofs.parts.Doing.{did-carries, did-more}
use Rattle.seatcalls.proofs.parts.Ending.{room-still}
use Rattle.seatcalls.proofs.parts.GivingBits.{given-did, given-home}
use Rattle.seatcalls.proofs.claimed.give_home.Given.{Over}
use Rattle.seatcalls.proofs.claimed.give_home.Goals as goal
use Rattle.seatcalls.proofs.claimed.give_home.Goals.{After-give_bit}

pub give_bit-requires-clause-rests : goal.give_bit-requires-clause-rests
give_bit-requires-clause-rests g c =
    let law = c.shares_law.ensures.stays in
    let place : ℕ = c.args.spot.place in
    let rests = c.rest_cell.ensures in
    let still = room-still rests.moves.carries law place c.requires.claimed.has in
    record {
      slots = rests.slots;
      empty = sym rests.cell.0 ∙ c.requires.empty;
      room = omega (arith, still, c.requires.room, rests.cell.1);
    }

-- what is under way before the RETURN
under-way : (g : Over) (c : After-give_bit g) → (the_lane c.rest_cell.new.hand.me.0).under ≡ Returns c.args.spot.place None false
under-way g c =
    let act = c.requires.act in
    let guest = act.guest in
    let low = (is_place-parts c.args.grid.now.shape c.args.spot.place act.spot.inside).0 in
    c.rest_cell.ensures.moves.carries.elsewhere.under ∙ (c.requires.claimed.under
    ∙ returns-away c.args.grid.now.shape c.args.number c.args.spot.place c.args.generation c.if-generation-grid.false (λ own. absurd (omega (arith, own, low, guest))))

pub returns-clause-home : goal.returns-clause-home
returns-clause-home g c below =
    let act = c.requires.act in
    let guest = act.guest in
    let lane = act.lane in
    let same = c.rest_cell.ensures.moves.carries.elsewhere.lane in
    given-home (under-way g (goal.at.returns-clause-home g c).After-give_bit) c.give_bit.ensures.gives.0 c.give_bit.ensures.gives.1 act.spot.inside (omega (arith, guest, lane, same))

pub returns-clause-did : goal.returns-clause-did
returns-clause-did g c =
    let z : Shape = c.args.grid.now.shape in
    let act = c.requires.act in
    let place : ℕ = c.args.spot.place in
    let rests = c.rest_cell.ensures.moves.carries in
    let few : 2 ≤ 2 = omega arith in
    let under = under-way g (goal.at.returns-clause-did g c).After-give_bit in
    let made : given_acts z c.args.number place c.args.generation ≡ acts.Home (the_lane c.rest_cell.new.hand.me.0).lane place ∷ [] =
    ap (λ (b : Bool). cond b [] (acts.Home c.args.number place ∷ [])) (ne_eqb c.args.generation z.last_generation c.if-generation-grid.false)
    ∙ ap (λ (n : ℕ). acts.Home n place ∷ []) (act.lane ∙ sym rests.elsewhere.lane) in
    subst (λ (done : List Act). Did z place done (length done) 2 c.args.hand.now.me c.give_bit.new.hand.me) (sym made)
    (did-more (did-carries rests few) (given-did under c.give_bit.ensures.gives.0 c.give_bit.ensures.gives.1))
