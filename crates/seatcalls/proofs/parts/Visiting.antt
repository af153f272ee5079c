-- What a guest's acts leave of what holds of it.
use Rattle.std.proofs.Common.{◌≡◌, ◌≢◌, ℕ, ◌+◌, ◌≤◌, Bool, true, false, cond, eqb, List, [], ◌∷◌, ◌++◌, length, Option, refl, sym, ap, ◌∙◌, subst, arith, append_assoc, length-append, eq-eqb, ne_eqb}
use mathlib.Core.Logic.{dite}
use native.Mathlib.Decide.{ℕ_discrete}
use Rattle.atomic_table.specs.Table.{Me}
use Rattle.keybits.specs.declared.shape.Shape.{Shape}
use Rattle.keybits.specs.Places.{shard_of}
use Rattle.keybits.specs.Shapes.{is_place}
use Rattle.keybits.specs.Keys.{place_of, generation_of, key_number}
use Rattle.keybits.proofs.ShapeLemmas.{is_place-parts}
use Rattle.seqpool.specs.declared.act.Act.{Act}
use Rattle.seqpool.specs.declared.act.Act.TheVariants as acts
use Rattle.steplaws.specs.StepLaws.{reclaim}
use Rattle.poolsteps.specs.declared.view.View.{View}
use Rattle.poolsteps.specs.declared.view.LaneRecord.{LaneRecord}
use Rattle.poolsteps.specs.Views.{head_record, the_lane, status_of, acts_in}
use Rattle.keybits.specs.declared.step.Kind.{Kind}
use Rattle.steplaws.specs.declared.pending.Pending.{Pending}
use Rattle.atomic_table.specs.Seated.{TableId}
use Rattle.poolsteps.specs.Told.{HasPlace, LifeSteps, Sees, claimed_under, references_seen}
use Rattle.poolsteps.specs.ViewLaws.{references_made}
use Rattle.poolsteps.proofs.Holding.{acts-law}
use Rattle.seatcalls.specs.Acted.{Acted}
use Rattle.seatcalls.specs.Called.{Did}
use Rattle.seatcalls.specs.Carried.{Carries, AreAtRest}
use Rattle.seatcalls.specs.Guests.{given_acts}
use Rattle.seatcalls.specs.Left.{left_with, has_retired}
use Rattle.seatcalls.specs.Visitors.{GuestOf, IsSeated, FitsGuest, IsFree, HasNoReference, HasClaimedPlace, Visits}
use Rattle.seatcalls.proofs.parts.Going.{all-acts, acted-more}
use Rattle.seatcalls.proofs.parts.Standing.{lawful}
use Rattle.seatcalls.proofs.parts.Doing.{did-carries, did-sees, did-step, life-next}
use Rattle.seatcalls.proofs.parts.OtherShards.{left-append, abroad-retired, abroad-returned}
use Rattle.seatcalls.proofs.parts.RetiredPlaces.{retired-append}

-- ---- its seat and its references

pub seated : {z : Shape} {made : List Act} {v w : View} {number : ℕ} → IsSeated z v number → Acted z made v w → IsSeated z w number
seated {v = v} {w = w} seat acted =
    let more = acted.rooms.0 in
    let long : length w.rooms ≡ length v.rooms + length more = ap length acted.rooms.1 ∙ length-append v.rooms more in
    let grown = acted.rooms.2 in
    let paired = seat.paired in record {
      one = acted.one;
      number_is = seat.number_is ∙ sym acted.lane;
      guest = seat.guest;
      below = seat.below;
      seen = lawful acted;
      paired = omega (arith, long, grown, paired);
    }

pub guest-refs : {z : Shape} {made : List Act} {v w : View} {number : ℕ} → IsSeated z v number → Acted z made v w → (key : ℕ)
    → references_seen z w key ≡ references_made made key (references_seen z v key)
guest-refs {z = z} {made = made} {v = v} {w = w} seat acted key = acts-law z v w made acted.seen acted.legal acted.lane (all-acts acted seat.seen.1) key

-- acts that change no reference leave it without one
pub still-bare : {z : Shape} {made : List Act} {v w : View} {number : ℕ} → IsSeated z v number → Acted z made v w
    → ((key n : ℕ) → references_made made key n ≡ n) → HasNoReference z v → HasNoReference z w
still-bare {z = z} {v = v} seat acted same bare key = guest-refs seat acted key ∙ (same key (references_seen z v key) ∙ bare key)

-- ---- the places that its acts leave with it, and those that it retired

-- acts that leave no place with who makes them, and retire none
abbrev pub LeavesNone : Shape → List Act → Type 0
LeavesNone z made = (p : ℕ) → (left_with z p made false ≡ false) × ((was : Bool) → has_retired z p made was ≡ was)

module _ {S : Type 0} {z : Shape} {place steps looks number : ℕ} {made : List Act} {a b : Me S View} (fits : FitsGuest z a.0 number) (did : Did z place made steps looks a b) where
  -- after such acts what holds of it still does, where the place is at rest, if it had retired it
  pub fits-still : LeavesNone z made → (has_retired z place (the_lane a.0).mine false ≡ true → AreAtRest z (the_lane b.0) place) → FitsGuest z b.0 number
  fits-still none here = record {
    seat = seated fits.seat did.acted;
    left = λ p inside. ap (λ (mine : List Act). left_with z p mine false) did.acted.mine
        ∙ (left-append z p (the_lane a.0).mine made false ∙ (ap (left_with z p made) (fits.left p inside) ∙ (none p).0));
    retires = λ p inside is.
        let was : has_retired z p (the_lane a.0).mine false ≡ true
        = sym ((none p).1 (has_retired z p (the_lane a.0).mine false))
        ∙ (sym (retired-append z p (the_lane a.0).mine made false) ∙ (sym (ap (λ (mine : List Act). has_retired z p mine false) did.acted.mine) ∙ is)) in
        dite (ℕ_discrete p place)
        (λ (at : p ≡ place). subst (λ (q : ℕ). AreAtRest z (the_lane b.0) q) (sym at)
        (here (subst (λ (q : ℕ). has_retired z q (the_lane a.0).mine false ≡ true) at was)))
        (λ (other : p ≢ place). λ n below. did.deeds p n other ∙ fits.retires p inside was n below);
  }

  -- where it moved nothing at the place either, it is so
  pub fits-unmoved : LeavesNone z made → ((n : ℕ) → status_of (the_lane b.0) place n ≡ status_of (the_lane a.0) place n)
      → (is_place z place ≡ true) → FitsGuest z b.0 number
  fits-unmoved none deeds inside = fits-still none (λ was. λ n below. deeds n ∙ fits.retires place inside was n below)

-- ---- a place that it claimed

-- a return retires no other place
given-else : (b : Bool) (z : Shape) (lane place p : ℕ) (was : Bool) → p ≢ place → has_retired z p (cond b [] (acts.Home lane place ∷ [])) was ≡ was
given-else true z lane place p was other = refl
given-else false z lane place p was other = ap (λ (at : Bool). cond at false was) (ne_eqb p place other)

-- a claim and what follows it leave no place
claim-leaves : (z : Shape) (number lane place generation key p : ℕ) → z.lanes ≤ number → place_of key ≡ place → generation_of key ≡ generation → is_place z p ≡ true
    → left_with z p (acts.Reclaim lane key ∷ given_acts z number place generation) false ≡ false
claim-leaves z number lane place generation key p guest at of inside =
    let low = (is_place-parts z p inside).0 in
    let other : shard_of p ≢ number = λ same. omega (arith, same, low, guest) in
    dite (ℕ_discrete generation z.last_generation)
    (λ (last : generation ≡ z.last_generation).
    ap (λ (b : Bool). left_with z p (acts.Reclaim lane key ∷ cond b [] (acts.Home number place ∷ [])) false) (eq-eqb generation z.last_generation last)
    ∙ abroad-retired z number lane key (of ∙ last) p inside other)
    (λ (below : generation ≢ z.last_generation).
    ap (λ (b : Bool). left_with z p (acts.Reclaim lane key ∷ cond b [] (acts.Home number place ∷ [])) false) (ne_eqb generation z.last_generation below)
    ∙ abroad-returned z number lane place key at p inside other)

-- a place that is returned isn't retired
given-last : (z : Shape) (number place generation : ℕ) (was : Bool) → has_retired z place (given_acts z number place generation) was ≡ true → generation ≡ z.last_generation
given-last z number place generation was is = dite (ℕ_discrete generation z.last_generation)
    (λ (last : generation ≡ z.last_generation). last)
    (λ (below : generation ≢ z.last_generation).
    let none : has_retired z place (given_acts z number place generation) was ≡ false
    = ap (λ (b : Bool). has_retired z place (cond b [] (acts.Home number place ∷ [])) was) (ne_eqb generation z.last_generation below)
    ∙ ap (λ (b : Bool). cond b false was) (eq-eqb place place refl) in
    let bad : true ≡ false = sym is ∙ none in absurd (cc bad))

-- acts of a return change no reference
given-refs : (b : Bool) (lane at key n : ℕ) → references_made (cond b [] (acts.Home lane at ∷ [])) key n ≡ n
given-refs true lane at key n = refl
given-refs false lane at key n = refl

-- it stays claimed over moves of its shares
pub claimed-moved : {S : Type 0} {z : Shape} {number place generation looks : ℕ} {a b : Me S View} → HasClaimedPlace z a.0 number place generation → Carries z place looks a b → HasPlace z b.0 place → HasClaimedPlace z b.0 number place generation
claimed-moved {z = z} {number = number} {place = place} {generation = generation} {looks = looks} claimed carries has =
    let did = did-carries {looks = looks} carries (omega arith) in
    let same = carries.elsewhere in record {
      seat = seated claimed.seat did.acted;
      bare = still-bare claimed.seat did.acted (λ k n. refl) claimed.bare;
      under = same.under ∙ claimed.under;
      has = has;
      left = λ p inside. ap (λ (xs : List Act). left_with z p (xs ++ given_acts z number place generation) false) same.mine ∙ claimed.left p inside;
      retires = λ p inside other is. λ n below. same.deeds p n other
          ∙ claimed.retires p inside other (sym (ap (λ (xs : List Act). has_retired z p xs false) same.mine) ∙ is) n below;
      retired = λ is. claimed.retired (sym (ap (λ (xs : List Act). has_retired z place (xs ++ given_acts z number place generation) false) same.mine) ∙ is);
    }

module _ {S : Type 0} {z : Shape} {number place generation steps looks : ℕ} {a b : Me S View} where
  -- the claim of a guest without a reference
  pub claims-place : FitsGuest z a.0 number → HasNoReference z a.0 → Did z place (reclaim z number place generation ∷ []) steps looks a b
      → place_of (key_number z.tag place generation) ≡ place → generation_of (key_number z.tag place generation) ≡ generation
      → (the_lane b.0).under ≡ claimed_under z number place generation → HasPlace z b.0 place → HasClaimedPlace z b.0 number place generation
  claims-place fits bare did at of under has =
      let key : ℕ = key_number z.tag place generation in
      let mine : List Act = (the_lane a.0).mine in
      let given : List Act = given_acts z number place generation in
      let now : (the_lane b.0).mine ++ given ≡ mine ++ (acts.Reclaim number key ∷ given)
      = ap (λ (xs : List Act). xs ++ given) did.acted.mine ∙ append_assoc mine (acts.Reclaim number key ∷ []) given in record {
        seat = seated fits.seat did.acted;
        bare = still-bare fits.seat did.acted (λ k n. refl) bare;
        under = under;
        has = has;
        left = λ p inside. ap (λ (xs : List Act). left_with z p xs false) now
            ∙ (left-append z p mine (acts.Reclaim number key ∷ given) false
            ∙ (ap (left_with z p (acts.Reclaim number key ∷ given)) (fits.left p inside)
            ∙ claim-leaves z number number place generation key p fits.seat.guest at of inside));
        retires = λ p inside other is.
            let was : has_retired z p mine false ≡ true
            = sym (ap (λ (b : Bool). cond b (eqb (generation_of key) z.last_generation) (has_retired z p mine false)) (ne_eqb p (place_of key) (λ same. other (same ∙ at))))
            ∙ (sym (retired-append z p mine (acts.Reclaim number key ∷ []) false) ∙ (sym (ap (λ (xs : List Act). has_retired z p xs false) did.acted.mine) ∙ is)) in
            λ n below. did.deeds p n other ∙ fits.retires p inside was n below;
        retired = λ is. given-last z number place generation (has_retired z place (the_lane b.0).mine false)
            (sym (retired-append z place (the_lane b.0).mine given false) ∙ is);
      }

  -- and with its return the guest is one between two calls
  pub fits-home : HasClaimedPlace z a.0 number place generation → Did z place (given_acts z number place generation) steps looks a b
      → (generation ≡ z.last_generation → AreAtRest z (the_lane b.0) place) → FitsGuest z b.0 number
  fits-home claimed did rests =
      let mine : List Act = (the_lane a.0).mine in
      let given : List Act = given_acts z number place generation in record {
        seat = seated claimed.seat did.acted;
        left = λ p inside. ap (λ (xs : List Act). left_with z p xs false) did.acted.mine ∙ claimed.left p inside;
        retires = λ p inside is.
            let now : has_retired z p (mine ++ given) false ≡ true = sym (ap (λ (xs : List Act). has_retired z p xs false) did.acted.mine) ∙ is in
            dite (ℕ_discrete p place)
            (λ (at : p ≡ place). subst (λ (q : ℕ). AreAtRest z (the_lane b.0) q) (sym at)
            (rests (claimed.retired (subst (λ (q : ℕ). has_retired z q (mine ++ given) false ≡ true) at now))))
            (λ (other : p ≢ place). λ n below.
            let was : has_retired z p mine false ≡ true
            = sym (given-else (eqb generation z.last_generation) z number place p (has_retired z p mine false) other) ∙ (sym (retired-append z p mine given false) ∙ now) in
            did.deeds p n other ∙ claimed.retires p inside other was n below);
      }

  pub bare-home : HasClaimedPlace z a.0 number place generation → Did z place (given_acts z number place generation) steps looks a b → HasNoReference z b.0
  bare-home claimed did = still-bare claimed.seat did.acted (λ k n. given-refs (eqb generation z.last_generation) number place k n) claimed.bare

-- ---- steps of lifecycle words

-- such a step, after which it has this under way
module _ {S : Type 0} {z : Shape} {kind : Kind} {found after : ℕ} {act : Option Act} {under : Pending} {a b : Me S View} (steps : LifeSteps z kind found after a b act under) where
  pub life-did : (place : ℕ) → Did z place (acts_in act) 1 0 a b
  life-did place = did-step steps (life-next (the_lane a.0) place act under)

  pub life-under : (the_lane b.0).under ≡ under
  life-under = ap (λ (lanes : List LaneRecord). (head_record lanes).under) steps.goes.lanes

  life-deeds : (place n : ℕ) → status_of (the_lane b.0) place n ≡ status_of (the_lane a.0) place n
  life-deeds place n = ap (λ (lanes : List LaneRecord). status_of (head_record lanes) place n) steps.goes.lanes

  pub life-fits : {number : ℕ} (place : ℕ) → is_place z place ≡ true → LeavesNone z (acts_in act) → FitsGuest z a.0 number → FitsGuest z b.0 number
  life-fits place inside none fits = fits-unmoved fits (life-did place) none (life-deeds place) inside

-- ---- what a guest did, as contracts see it

pub visits-did : {S : Type 0} {z shape : Shape} {place made_steps made_looks steps looks number one : ℕ} {made : List Act} {a b : Me S View} {table now : TableId}
    → Did z place made made_steps made_looks a b → now ≡ table → shape ≡ z → one ≡ number → made_steps ≤ steps → made_looks ≤ looks
    → Visits made steps looks (record { table = table; shape = z; number = number; book = a.0 }) (record { table = now; shape = shape; number = one; book = b.0 })
visits-did did table shape number few_steps few_looks = record {
  same = (table, shape, number);
  acted = did.acted;
  stepped = let is = did.stepped in omega (arith, is, few_steps);
  looked = let is = did.looked in omega (arith, is, few_looks);
}

-- one after another
pub visits-more : {made more : List Act} {steps looks s l most_steps most_looks : ℕ} {old mid new : GuestOf} → Visits made steps looks old mid → Visits more s l mid new
    → steps + s ≤ most_steps → looks + l ≤ most_looks → Visits (made ++ more) most_steps most_looks old new
visits-more {more = more} {mid = mid} {new = new} first second few_steps few_looks = record {
  same = (second.same.0 ∙ first.same.0, second.same.1 ∙ first.same.1, second.same.2 ∙ first.same.2);
  acted = acted-more first.acted (subst (λ (z : Shape). Acted z more mid.book new.book) first.same.1 second.acted);
  stepped = let one = first.stepped in let two = second.stepped in omega (arith, one, two, few_steps);
  looked = let one = first.looked in let two = second.looked in omega (arith, one, two, few_looks);
}

-- ---- looks

-- over a look that moves nothing a guest is one between two calls still
pub free-sees : {S : Type 0} {z : Shape} {a b : Me S View} {number : ℕ} (table now : TableId) → Sees z a b → IsFree (record { table = table; shape = z; number = number; book = a.0 })
    → IsFree (record { table = now; shape = z; number = number; book = b.0 })
free-sees {z = z} {a = a} {b = b} table now sees free =
    let same : the_lane b.0 ≡ the_lane a.0 = ap head_record sees.goes.lanes in
    let fits = free.fits in
    let acted = (did-sees {place = 0} sees).acted in record {
      fits = record {
        seat = seated fits.seat acted;
        left = λ p inside. ap (λ (r : LaneRecord). left_with z p r.mine false) same ∙ fits.left p inside;
        retires = λ p inside is. λ n below. ap (λ (r : LaneRecord). status_of r p n) same
            ∙ fits.retires p inside (sym (ap (λ (r : LaneRecord). has_retired z p r.mine false) same) ∙ is) n below;
      };
      idle = ap (λ (r : LaneRecord). r.under) same ∙ free.idle;
      bare = still-bare fits.seat acted (λ k n. refl) free.bare;
    }
