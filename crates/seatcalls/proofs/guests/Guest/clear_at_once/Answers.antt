use Rattle.std.proofs.Common.{◌≡◌, inl, inr, ◌∷◌, [], List, ℕ, true, false, sym, ap, ◌∙◌, subst, arith}
use Rattle.keybits.specs.declared.shape.Shape.{Shape}
use Rattle.keybits.specs.Keys.{place_of, generation_of, key_number}
use Rattle.seqpool.specs.declared.act.Act.{Act}
use Rattle.seqpool.specs.declared.act.Act.TheVariants as acts
use Rattle.seqpool.proofs.Misses.{later-law}
use Rattle.steplaws.specs.StepLaws.{reclaim}
use Rattle.poolsteps.specs.AtOnce.{unreferred}
use Rattle.poolsteps.specs.Told.{LeftAlone, WasPublished}
use Rattle.poolsteps.specs.Views.{the_lane}
use Rattle.seatcalls.specs.Endings.{Keeps}
use Rattle.seatcalls.specs.Visitors.{GuestOf, IsFree, FitsGuest, HasNoReference, HasClaimedPlace, Visits}
use Rattle.seatcalls.proofs.parts.Doing.{did-more}
use Rattle.seatcalls.proofs.parts.SweptWords.{owes-low}
use Rattle.seatcalls.proofs.parts.Sweeping.{goes-sees, goes-more, idle-sees, missed-goes, missed-idle, struck-goes, struck-idle, swept-goes, swept-claimed, swept-claim, swept-has}
use Rattle.seatcalls.proofs.parts.Visiting.{visits-more}
use Rattle.seatcalls.proofs.parts.Referring.{visits-as}
use Rattle.seatcalls.proofs.guests.Guest.clear_at_once.Goals as goal

pub keep-claimed-requires-clause-claimed : goal.keep-claimed-requires-clause-claimed
keep-claimed-requires-clause-claimed g c =
    let z : Shape = c.args.grid.now.shape in
    let key : ℕ = c.args.key in
    let same : c.self.inside.shape.value ≡ z = ap (λ (x : GuestOf). x.shape) c.self.view_is ∙ c.requires.of.1 in
    let free = subst (λ (y : Shape). IsFree (record { table = c.self.inside.hand.table_id; shape = y; number = c.self.inside.number; book = c.self.inside.hand.me.0 })) same c.self.invariant.1 in
    let spot = c.requires.spot in
    let first = c.unreferred.ensures ∙ ap unreferred c.generation_of-generation.ensures in
    let sweeps = c.sweep-found.ensures.sweeps.0 (c.if-found-unreferred.true ∙ first) in
    subst (λ (p : ℕ). HasClaimedPlace z c.sweep-found.new.hand.me.0 c.self.inside.number p c.generation_of-generation.result) (sym spot.place_is)
    (subst (λ (n : ℕ). HasClaimedPlace z c.sweep-found.new.hand.me.0 c.self.inside.number (place_of key) n) (sym c.generation_of-generation.ensures)
    (swept-has spot.inside free.fits free.bare sweeps c.args.grid.now.checked))

pub keep-claimed-requires-clause-left : goal.keep-claimed-requires-clause-left
keep-claimed-requires-clause-left g c =
    let z : Shape = c.args.grid.now.shape in
    let key : ℕ = c.args.key in
    let same : c.self.inside.shape.value ≡ z = ap (λ (x : GuestOf). x.shape) c.self.view_is ∙ c.requires.of.1 in
    let free = subst (λ (y : Shape). IsFree (record { table = c.self.inside.hand.table_id; shape = y; number = c.self.inside.number; book = c.self.inside.hand.me.0 })) same c.self.invariant.1 in
    let spot = c.requires.spot in
    let first = c.unreferred.ensures ∙ ap unreferred c.generation_of-generation.ensures in
    let sweeps = c.sweep-found.ensures.sweeps.0 (c.if-found-unreferred.true ∙ first) in
    subst (λ (p : ℕ). LeftAlone z (the_lane c.sweep-found.new.hand.me.0) p) (sym spot.place_is) (swept-claimed spot.inside free.fits free.bare sweeps).place_has.1

pub returns-then-found-unreferred-clause-clears : goal.returns-then-found-unreferred-clause-clears
returns-then-found-unreferred-clause-clears g c =
    let z : Shape = c.args.grid.now.shape in
    let key : ℕ = c.args.key in
    let same : c.self.inside.shape.value ≡ z = ap (λ (x : GuestOf). x.shape) c.self.view_is ∙ c.requires.of.1 in
    let free = subst (λ (y : Shape). IsFree (record { table = c.self.inside.hand.table_id; shape = y; number = c.self.inside.number; book = c.self.inside.hand.me.0 })) same c.self.invariant.1 in
    let spot = c.requires.spot in
    let first = c.unreferred.ensures ∙ ap unreferred c.generation_of-generation.ensures in
    let sweeps = c.sweep-found.ensures.sweeps.0 (c.if-found-unreferred.true ∙ first) in
    let number : c.self.inside.number ≡ c.args.self.number = ap (λ (x : GuestOf). x.number) c.self.view_is in
    let kept = c.keep-claimed.ensures in
    let claimed = swept-claimed spot.inside free.fits free.bare sweeps in
    let did = did-more (swept-goes spot.inside free.fits free.bare sweeps).did (swept-claim spot.inside free.fits free.bare sweeps) in
    let generation : ℕ = generation_of key in
    let mid : GuestOf = record { table = c.sweep-found.new.hand.table_id; shape = c.self.inside.shape.value; number = c.self.inside.number; book = c.sweep-found.new.hand.me.0 } in
    let made : Shape → ℕ → ℕ → List Act = λ x n g. acts.Clear n key true ∷ reclaim x n (place_of key) g ∷ [] in
    let front = visits-as {steps = 4} {looks = 0} did c.self.view_is same c.sweep-found.ensures.hand.0 (omega arith) (omega arith) in
    let back = subst (λ (y : Shape). Visits [] 0 2 (record { table = c.sweep-found.new.hand.table_id; shape = y; number = c.self.inside.number; book = c.sweep-found.new.hand.me.0 }) c.keep-claimed.result.guest) (sym same) kept.made in
    let all : Visits (made z c.self.inside.number generation) 4 4 c.args.self c.keep-claimed.result.guest = visits-more front back (omega arith) (omega arith) in
    let shape : z ≡ c.args.self.shape = sym c.requires.of.1 in
    let at : c.keep-claimed.result.generation ≡ generation = kept.at.2 ∙ c.generation_of-generation.ensures in
    let published = claimed.published in
    let later = (later-law c.sweep-found.new.hand.me.0.seen c.keep-claimed.result.guest.book.seen kept.made.acted.seen).0 published.0 (key_number z.tag (place_of key) generation) _ published.1 in
    let room = kept.room in
    let known = claimed.room in
    let last = kept.object.1 in
    let keeps : Keeps g.T.Clear.content g.T.Clear.room c.args.grid.now.objects.ptr (place_of key) (acts.Clear c.args.self.number key true ∷ []) 4 4 c.args.self c.keep-claimed.result = record {
      at = (kept.at.0, kept.at.1 ∙ spot.place_is);
      made = subst (λ (n : ℕ). Visits (made c.args.self.shape c.args.self.number n) 4 4 c.args.self c.keep-claimed.result.guest) (sym at)
          (subst (λ (y : Shape). Visits (made y c.args.self.number generation) 4 4 c.args.self c.keep-claimed.result.guest) shape
          (subst (λ (n : ℕ). Visits (made z n generation) 4 4 c.args.self c.keep-claimed.result.guest) number all));
      object = subst (λ (n : ℕ). WasPublished c.keep-claimed.result.guest.book.seen (key_number c.args.self.shape.tag (place_of key) n) (g.T.Clear.content c.keep-claimed.result.object)) (sym at)
          (subst (λ (y : Shape). WasPublished c.keep-claimed.result.guest.book.seen (key_number y.tag (place_of key) generation) (g.T.Clear.content c.keep-claimed.result.object)) shape
          (subst (λ (xs : List ℕ). WasPublished c.keep-claimed.result.guest.book.seen (key_number z.tag (place_of key) generation) xs) (sym (rw spot.place_is at kept.object.0)) (published.0, later)));
      room_is = (let there = rw spot.place_is at room in let same_room = rw spot.place_is at last in omega (arith, there, known, same_room));
    } in keeps

pub invariant_of-guest : goal.invariant_of-guest
invariant_of-guest g c =
    let z : Shape = c.args.grid.now.shape in
    let key : ℕ = c.args.key in
    let same : c.self.inside.shape.value ≡ z = ap (λ (x : GuestOf). x.shape) c.self.view_is ∙ c.requires.of.1 in
    let free = subst (λ (y : Shape). IsFree (record { table = c.self.inside.hand.table_id; shape = y; number = c.self.inside.number; book = c.self.inside.hand.me.0 })) same c.self.invariant.1 in
    let spot = c.requires.spot in
    let first = c.unreferred.ensures ∙ ap unreferred c.generation_of-generation.ensures in
    let other = λ (found : c.sweep-found.result ≡ unreferred (generation_of key)). c.if-found-unreferred.false (found ∙ sym first) in
    let hit = sym c.is_hit.ensures ∙ c.if-is_hit.true in
    let looked = c.sweep-found.ensures.sweeps.2 other (inl hit) in
    let seen = goes-sees (place_of key) spot.inside free.fits free.bare looked in
    let strikes = c.strike-struck.ensures.strikes.0 c.if-struck-found.true in
    let goes = goes-more seen (struck-goes spot.inside seen.fits seen.bare c.sweep-found.result hit strikes) in (
      goes.did.held ∙ c.self.invariant.0,
      record {
        fits = subst (λ (y : Shape). FitsGuest y c.strike-struck.new.hand.me.0 c.self.inside.number) (sym same) goes.fits;
        idle = struck-idle spot.inside seen.fits seen.bare c.sweep-found.result hit strikes other;
        bare = subst (λ (y : Shape). HasNoReference y c.strike-struck.new.hand.me.0) (sym same) goes.bare;
      },
    )

pub returns-then-struck-found-clause-clears : goal.returns-then-struck-found-clause-clears
returns-then-struck-found-clause-clears g c =
    let z : Shape = c.args.grid.now.shape in
    let key : ℕ = c.args.key in
    let same : c.self.inside.shape.value ≡ z = ap (λ (x : GuestOf). x.shape) c.self.view_is ∙ c.requires.of.1 in
    let free = subst (λ (y : Shape). IsFree (record { table = c.self.inside.hand.table_id; shape = y; number = c.self.inside.number; book = c.self.inside.hand.me.0 })) same c.self.invariant.1 in
    let spot = c.requires.spot in
    let first = c.unreferred.ensures ∙ ap unreferred c.generation_of-generation.ensures in
    let other = λ (found : c.sweep-found.result ≡ unreferred (generation_of key)). c.if-found-unreferred.false (found ∙ sym first) in
    let hit = sym c.is_hit.ensures ∙ c.if-is_hit.true in
    let looked = c.sweep-found.ensures.sweeps.2 other (inl hit) in
    let seen = goes-sees (place_of key) spot.inside free.fits free.bare looked in
    let strikes = c.strike-struck.ensures.strikes.0 c.if-struck-found.true in
    let number : c.self.inside.number ≡ c.args.self.number = ap (λ (x : GuestOf). x.number) c.self.view_is in
    let goes = goes-more seen (struck-goes spot.inside seen.fits seen.bare c.sweep-found.result hit strikes) in
    let last : GuestOf = record { table = c.strike-struck.new.hand.table_id; shape = c.self.inside.shape.value; number = c.self.inside.number; book = c.strike-struck.new.hand.me.0 } in
    subst (λ (n : ℕ). Visits (acts.Clear n key true ∷ []) 4 4 c.args.self last) number
    (visits-as goes.did c.self.view_is same (c.strike-struck.ensures.hand.0 ∙ c.sweep-found.ensures.hand.0) (omega arith) (omega arith))

-- ---- step by step

pub invariant_of-result : goal.invariant_of-result
invariant_of-result g c =
    let z : Shape = c.args.grid.now.shape in
    let key : ℕ = c.args.key in
    let same : c.self.inside.shape.value ≡ z = ap (λ (x : GuestOf). x.shape) c.self.view_is ∙ c.requires.of.1 in
    let free = subst (λ (y : Shape). IsFree (record { table = c.self.inside.hand.table_id; shape = y; number = c.self.inside.number; book = c.self.inside.hand.me.0 })) same c.self.invariant.1 in
    let spot = c.requires.spot in
    let first = c.unreferred.ensures ∙ ap unreferred c.generation_of-generation.ensures in
    let other = λ (found : c.sweep-found.result ≡ unreferred (generation_of key)). c.if-found-unreferred.false (found ∙ sym first) in
    let hit = sym c.is_hit.ensures ∙ c.if-is_hit.true in
    let looked = c.sweep-found.ensures.sweeps.2 other (inl hit) in
    let seen = goes-sees (place_of key) spot.inside free.fits free.bare looked in
    let sees = c.strike-struck.ensures.strikes.1 c.if-struck-found.false in
    let goes = goes-more seen (goes-sees (place_of key) spot.inside seen.fits seen.bare sees) in (
      goes.did.held ∙ c.self.invariant.0,
      record {
        fits = subst (λ (y : Shape). FitsGuest y c.strike-struck.new.hand.me.0 c.self.inside.number) (sym same) goes.fits;
        idle = idle-sees sees (idle-sees looked free.idle);
        bare = subst (λ (y : Shape). HasNoReference y c.strike-struck.new.hand.me.0) (sym same) goes.bare;
      },
    )

pub returns-then-is_hit-clause-late : goal.returns-then-is_hit-clause-late
returns-then-is_hit-clause-late g c =
    let z : Shape = c.args.grid.now.shape in
    let key : ℕ = c.args.key in
    let same : c.self.inside.shape.value ≡ z = ap (λ (x : GuestOf). x.shape) c.self.view_is ∙ c.requires.of.1 in
    let free = subst (λ (y : Shape). IsFree (record { table = c.self.inside.hand.table_id; shape = y; number = c.self.inside.number; book = c.self.inside.hand.me.0 })) same c.self.invariant.1 in
    let spot = c.requires.spot in
    let first = c.unreferred.ensures ∙ ap unreferred c.generation_of-generation.ensures in
    let other = λ (found : c.sweep-found.result ≡ unreferred (generation_of key)). c.if-found-unreferred.false (found ∙ sym first) in
    let hit = sym c.is_hit.ensures ∙ c.if-is_hit.true in
    let looked = c.sweep-found.ensures.sweeps.2 other (inl hit) in
    let seen = goes-sees (place_of key) spot.inside free.fits free.bare looked in
    let sees = c.strike-struck.ensures.strikes.1 c.if-struck-found.false in
    let goes = goes-more seen (goes-sees (place_of key) spot.inside seen.fits seen.bare sees) in
    visits-as {steps = 0} {looks = 2} goes.did c.self.view_is same (c.strike-struck.ensures.hand.0 ∙ c.sweep-found.ensures.hand.0) (omega arith) (omega arith)

pub invariant_of-result-then-owes_claim : goal.invariant_of-result-then-owes_claim
invariant_of-result-then-owes_claim g c =
    let z : Shape = c.args.grid.now.shape in
    let key : ℕ = c.args.key in
    let same : c.self.inside.shape.value ≡ z = ap (λ (x : GuestOf). x.shape) c.self.view_is ∙ c.requires.of.1 in
    let free = subst (λ (y : Shape). IsFree (record { table = c.self.inside.hand.table_id; shape = y; number = c.self.inside.number; book = c.self.inside.hand.me.0 })) same c.self.invariant.1 in
    let spot = c.requires.spot in
    let first = c.unreferred.ensures ∙ ap unreferred c.generation_of-generation.ensures in
    let other = λ (found : c.sweep-found.result ≡ unreferred (generation_of key)). c.if-found-unreferred.false (found ∙ sym first) in
    let owed = sym (owes-low c.sweep-found.result) ∙ (sym c.owes_claim.ensures ∙ c.if-owes_claim.true) in
    let looked = c.sweep-found.ensures.sweeps.2 other (inr owed) in
    let goes = goes-sees (place_of key) spot.inside free.fits free.bare looked in (
      goes.did.held ∙ c.self.invariant.0,
      record {
        fits = subst (λ (y : Shape). FitsGuest y c.sweep-found.new.hand.me.0 c.self.inside.number) (sym same) goes.fits;
        idle = idle-sees looked free.idle;
        bare = subst (λ (y : Shape). HasNoReference y c.sweep-found.new.hand.me.0) (sym same) goes.bare;
      },
    )

pub returns-then-owes_claim-clause-late : goal.returns-then-owes_claim-clause-late
returns-then-owes_claim-clause-late g c =
    let z : Shape = c.args.grid.now.shape in
    let key : ℕ = c.args.key in
    let same : c.self.inside.shape.value ≡ z = ap (λ (x : GuestOf). x.shape) c.self.view_is ∙ c.requires.of.1 in
    let free = subst (λ (y : Shape). IsFree (record { table = c.self.inside.hand.table_id; shape = y; number = c.self.inside.number; book = c.self.inside.hand.me.0 })) same c.self.invariant.1 in
    let spot = c.requires.spot in
    let first = c.unreferred.ensures ∙ ap unreferred c.generation_of-generation.ensures in
    let other = λ (found : c.sweep-found.result ≡ unreferred (generation_of key)). c.if-found-unreferred.false (found ∙ sym first) in
    let owed = sym (owes-low c.sweep-found.result) ∙ (sym c.owes_claim.ensures ∙ c.if-owes_claim.true) in
    let looked = c.sweep-found.ensures.sweeps.2 other (inr owed) in
    let goes = goes-sees (place_of key) spot.inside free.fits free.bare looked in
    visits-as {steps = 0} {looks = 2} goes.did c.self.view_is same c.sweep-found.ensures.hand.0 (omega arith) (omega arith)

-- ---- a miss

pub invariant_of-guest-2 : goal.invariant_of-guest-2
invariant_of-guest-2 g c =
    let z : Shape = c.args.grid.now.shape in
    let key : ℕ = c.args.key in
    let same : c.self.inside.shape.value ≡ z = ap (λ (x : GuestOf). x.shape) c.self.view_is ∙ c.requires.of.1 in
    let free = subst (λ (y : Shape). IsFree (record { table = c.self.inside.hand.table_id; shape = y; number = c.self.inside.number; book = c.self.inside.hand.me.0 })) same c.self.invariant.1 in
    let spot = c.requires.spot in
    let first = c.unreferred.ensures ∙ ap unreferred c.generation_of-generation.ensures in
    let miss = sym c.is_hit.ensures ∙ c.if-is_hit.false in
    let none = sym (owes-low c.sweep-found.result) ∙ (sym c.owes_claim.ensures ∙ c.if-owes_claim.false) in
    let misses = c.sweep-found.ensures.sweeps.1 miss none in
    let goes = missed-goes spot.inside free.fits free.bare c.sweep-found.result miss misses in (
      goes.did.held ∙ c.self.invariant.0,
      record {
        fits = subst (λ (y : Shape). FitsGuest y c.sweep-found.new.hand.me.0 c.self.inside.number) (sym same) goes.fits;
        idle = missed-idle spot.inside free.fits free.bare c.sweep-found.result miss misses none;
        bare = subst (λ (y : Shape). HasNoReference y c.sweep-found.new.hand.me.0) (sym same) goes.bare;
      },
    )

pub returns-clause-clears : goal.returns-clause-clears
returns-clause-clears g c =
    let z : Shape = c.args.grid.now.shape in
    let key : ℕ = c.args.key in
    let same : c.self.inside.shape.value ≡ z = ap (λ (x : GuestOf). x.shape) c.self.view_is ∙ c.requires.of.1 in
    let free = subst (λ (y : Shape). IsFree (record { table = c.self.inside.hand.table_id; shape = y; number = c.self.inside.number; book = c.self.inside.hand.me.0 })) same c.self.invariant.1 in
    let spot = c.requires.spot in
    let first = c.unreferred.ensures ∙ ap unreferred c.generation_of-generation.ensures in
    let miss = sym c.is_hit.ensures ∙ c.if-is_hit.false in
    let none = sym (owes-low c.sweep-found.result) ∙ (sym c.owes_claim.ensures ∙ c.if-owes_claim.false) in
    let misses = c.sweep-found.ensures.sweeps.1 miss none in
    let goes = missed-goes spot.inside free.fits free.bare c.sweep-found.result miss misses in
    let number : c.self.inside.number ≡ c.args.self.number = ap (λ (x : GuestOf). x.number) c.self.view_is in
    let last : GuestOf = record { table = c.sweep-found.new.hand.table_id; shape = c.self.inside.shape.value; number = c.self.inside.number; book = c.sweep-found.new.hand.me.0 } in
    subst (λ (n : ℕ). Visits (acts.Clear n key false ∷ []) 4 4 c.args.self last) number
    (visits-as goes.did c.self.view_is same c.sweep-found.ensures.hand.0 (omega arith) (omega arith))
