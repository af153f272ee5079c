use Rattle.std.proofs.Common.{◌<◌, ◌∷◌, [], List, ℕ, Some, refl, sym, ap, ◌∙◌, subst, arith}
use Rattle.keybits.specs.declared.shape.Shape.{Shape}
use Rattle.keybits.specs.Keys.{key_number}
use Rattle.keybits.proofs.KeyLemmas.{place_of-key_number, generation_of-key_number}
use Rattle.keybits.proofs.ShapeLemmas.{place_bounds}
use Rattle.seqpool.proofs.Misses.{later-law}
use Rattle.steplaws.specs.StepLaws.{reclaim}
use Rattle.poolsteps.specs.Views.{the_lane}
use Rattle.poolsteps.specs.Told.{WasPublished, claimed_under}
use Rattle.seatcalls.specs.Called.{Did}
use Rattle.seatcalls.specs.Visitors.{GuestOf, FitsGuest, HasNoReference, Visits}
use Rattle.seatcalls.proofs.parts.Doing.{did-step, cell-next}
use Rattle.seatcalls.proofs.parts.Ending.{owes-some}
use Rattle.seatcalls.proofs.parts.Standing.{has-claimed}
use Rattle.seatcalls.proofs.parts.Visiting.{life-did, life-under, life-fits, still-bare, claims-place, visits-did, visits-more}
use Rattle.seatcalls.proofs.ended.end.Goals as goal

pub invariant_of-result-then-word-claimable : goal.invariant_of-result-then-word-claimable
invariant_of-result-then-word-claimable g c =
    let z : Shape = c.args.grid.now.shape in
    let act = c.requires.act in
    let lost = c.claim-word.ensures.claims.1 (λ same. c.if-word-claimable.true (same ∙ sym c.claimable.ensures)) in
    let did = life-did lost c.args.spot.place in
    let fits = c.requires.fits in
    let same = sym c.requires.shape in (
      did.held ∙ act.bare,
      record {
        fits = subst (λ (y : Shape). FitsGuest y c.claim-word.new.hand.me.0 c.args.number) same
            (life-fits lost c.args.spot.place act.spot.inside (λ p. (refl, λ was. refl)) fits);
        idle = life-under lost;
        bare = subst (λ (y : Shape). HasNoReference y c.claim-word.new.hand.me.0) same (still-bare fits.seat did.acted (λ key n. refl) c.requires.bare);
      },
    )

pub returns-then-word-claimable : goal.returns-then-word-claimable
returns-then-word-claimable g c =
    let lost = c.claim-word.ensures.claims.1 (λ same. c.if-word-claimable.true (same ∙ sym c.claimable.ensures)) in
    visits-did (life-did lost c.args.spot.place) c.claim-word.ensures.hand.0 c.requires.shape refl (omega arith) (omega arith)

pub keep-requires-clause-claimed : goal.keep-requires-clause-claimed
keep-requires-clause-claimed g c =
    let z : Shape = c.args.grid.now.shape in
    let act = c.requires.act in
    let place : ℕ = c.args.spot.place in
    let generation : ℕ = c.in-Some.generation in
    let won = c.if-word-claimable.false ∙ c.claimable.ensures in
    let told = c.claim-word.ensures.claims.0 won in
    let claimed = has-claimed c.claim-word.ensures.claims won in
    let lane = (the_lane c.args.hand.me.0).lane in
    let did : Did z place (reclaim z c.args.number place generation ∷ []) 1 0 c.args.hand.me c.claim-word.new.hand.me
    = subst (λ (n : ℕ). Did z place (reclaim z n place generation ∷ []) 1 0 c.args.hand.me c.claim-word.new.hand.me) (sym act.lane)
    (did-step told.4 (cell-next (the_lane c.args.hand.me.0) place (Some (reclaim z lane place generation)) (claimed_under z lane place generation) told.0)) in
    let low = (place_bounds z c.args.grid.now.checked place act.spot.inside).number in
    let owed = owes-some c.args.found c.owed_by.ensures c.in-Some.generation c.in-Some.is in
    let few : generation < 4294967296 = (let fits = c.ranges.found.fits in let is = owed.1 in omega (arith, fits, is)) in
    claims-place c.requires.fits c.requires.bare did (place_of-key_number z.tag place generation low) (generation_of-key_number z.tag place generation low few)
    (claimed.under ∙ ap (λ (n : ℕ). claimed_under z n place generation) (sym act.lane)) claimed.place_has.0

pub returns : goal.returns
returns g c =
    let z : Shape = c.args.grid.now.shape in
    let act = c.requires.act in
    let place : ℕ = c.args.spot.place in
    let generation : ℕ = c.in-Some.generation in
    let won = c.if-word-claimable.false ∙ c.claimable.ensures in
    let told = c.claim-word.ensures.claims.0 won in
    let claimed = has-claimed c.claim-word.ensures.claims won in
    let lane = (the_lane c.args.hand.me.0).lane in
    let kept = c.keep.ensures in
    let did : Did z place (reclaim z c.args.number place generation ∷ []) 1 0 c.args.hand.me c.claim-word.new.hand.me
    = subst (λ (n : ℕ). Did z place (reclaim z n place generation ∷ []) 1 0 c.args.hand.me c.claim-word.new.hand.me) (sym act.lane)
    (did-step told.4 (cell-next (the_lane c.args.hand.me.0) place (Some (reclaim z lane place generation)) (claimed_under z lane place generation) told.0)) in
    let old : GuestOf = record { table = c.args.hand.table_id; shape = z; number = c.args.number; book = c.args.hand.me.0 } in
    let published = claimed.published in
    let later = (later-law c.claim-word.new.hand.me.0.seen c.keep.result.guest.book.seen kept.made.acted.seen).0 published.0 (key_number z.tag place generation) _ published.1 in
    let room = kept.room in
    let first = claimed.room in
    let last = kept.object.1 in
    record {
      at = (kept.at.0, kept.at.1);
      made = subst (λ (n : ℕ). Visits (reclaim z c.args.number place n ∷ []) 1 2 old c.keep.result.guest) (sym kept.at.2)
          (visits-more (visits-did {steps = 1} {looks = 0} did c.claim-word.ensures.hand.0 refl refl (omega arith) (omega arith)) kept.made (omega arith) (omega arith));
      object = subst (λ (n : ℕ). WasPublished c.keep.result.guest.book.seen (key_number z.tag place n) (g.T.Clear.content c.keep.result.object)) (sym kept.at.2)
          (subst (λ (xs : List ℕ). WasPublished c.keep.result.guest.book.seen (key_number z.tag place generation) xs) (sym kept.object.0) (published.0, later));
      room_is = omega (arith, room, first, last);
    }
