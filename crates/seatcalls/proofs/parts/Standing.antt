-- What a seat is after steps and moves of its lane, as the next step of its call asks.
use mathlib.Core.Logic.{dite}
use native.Mathlib.Decide.{ℕ_discrete}
use Rattle.std.proofs.Common.{◌≡◌, ◌≢◌, ◌==◌, inl, inr, ⊎_elim, ℕ, Bool, true, false, cond, List, [], ◌∷◌, ◌++◌, Option, Some, None, refl, sym, ap, ◌∙◌, subst, eq-eqb, ne_eqb}
use Rattle.atomic_table.specs.Table.{Me}
use denote.RawPtr.{Ptr}
use Rattle.poolsteps.specs.Spot.{Spot as CellSpot, IsAt as IsIn}
use Rattle.keybits.specs.declared.shape.Shape.{Shape}
use Rattle.keybits.specs.declared.step.Kind.TheVariants as kinds
use Rattle.keybits.specs.Keys.{place_of, key_number}
use Rattle.keybits.specs.Places.{shard_of}
use Rattle.keybits.specs.Links.{link_to}
use Rattle.keybits.specs.Words.{generation_in, owes_claim, claimable}
use Rattle.keybits.specs.declared.step.Kind.{Kind}
use Rattle.seqpool.specs.declared.act.Act.{Act}
use Rattle.seqpool.specs.declared.act.Act.TheVariants as acts
use Rattle.seqpool.specs.Pool.{Phase}
use Rattle.poolsteps.specs.declared.view.Stored.{Stored}
use Rattle.poolsteps.specs.declared.view.Status.TheVariants.{Emptied, Whole}
use Rattle.poolsteps.specs.Shares.{room_of, at_rest, reclaimer, HasAll}
use Rattle.steplaws.specs.declared.pending.Pending.TheVariants.{Nothing, Owes, Returns}
use Rattle.steplaws.specs.StepLaws.{owed_after, reclaim}
use Rattle.poolsteps.specs.declared.grid.Spot.{Spot}
use Rattle.poolsteps.specs.declared.view.LaneRecord.{LaneRecord}
use Rattle.poolsteps.specs.declared.view.View.{View}
use Rattle.poolsteps.specs.Views.{head_record, the_lane, pushed_in, status_of, known_of, acts_in}
use Rattle.poolsteps.specs.Grids.{IsSpot}
use Rattle.poolsteps.specs.Layout.{spots_at}
use Rattle.poolsteps.specs.Returned.{Links, Pushes, IsToReturn, AimsAt, with_return, failed_under}
use Rattle.poolsteps.specs.Told.{Steps, LifeSteps, Leaves, Claims, Publishes, MayLeave, MayPublish, HasPlace, WasPublished, LeftAlone, claimed_under}
use Rattle.seatcalls.specs.declared.at.At.{At}
use Rattle.seatcalls.specs.AtPlace.{IsAt}
use Rattle.seatcalls.specs.Acted.{Acted}
use Rattle.seatcalls.specs.Called.{IsLawful, MadeHome}
use Rattle.seatcalls.specs.Carried.{AreEmptied, AreAtRest}
use Rattle.seatcalls.proofs.parts.Moves.{Moves, moves-here, moves-beside}
use Rattle.seatcalls.proofs.parts.Doing.{did-step, life-next, cell-next}
use Rattle.seatcalls.proofs.parts.Returning.{link-steps, home-steps, fail-steps, did-return, under-return}
use Rattle.seatcalls.proofs.parts.Calling.{life-under}

-- ---- where a call acts

-- a spot is that of the place that it names
pub spot-own : {z : Shape} {spot : Spot} {place : ℕ} → IsSpot z spot place → IsSpot z spot spot.place
spot-own {z = z} {spot = spot} is = subst (λ (p : ℕ). IsSpot z spot p) (sym is.place_is) is

pub at-own : {z : Shape} {v : View} {place : ℕ} {at : At} → IsAt z v place at → IsAt z v at.spot.place at
at-own {z = z} {v = v} {at = at} is = subst (λ (p : ℕ). IsAt z v p at) (sym is.spot.place_is) is

-- what stands where the spot's place does stands at the spot's start
pub stands-in : {z : Shape} {spot : Spot} {place : ℕ} {p : Ptr} {cell : CellSpot} → IsSpot z spot place → cell ≡ spots_at p z place → IsIn cell p spot.start
stands-in is same = (ap (λ (s : CellSpot). s.directory) same, ap (λ (s : CellSpot). s.index) same ∙ sym is.start)

-- it stays so while the lane pushes nothing
pub at-same : {z : Shape} {v w : View} {place : ℕ} {at : At} → (the_lane w).lane ≡ (the_lane v).lane → (the_lane w).pushed ≡ (the_lane v).pushed → IsAt z v place at
    → IsAt z w place at
at-same {place = place} lane pushed is = record {
  spot = is.spot;
  lane = is.lane ∙ sym lane;
  below = is.below;
  shard = is.shard;
  top = is.top ∙ ap (λ (pushes : List (ℕ × ℕ)). pushed_in pushes (shard_of place)) (sym pushed);
}

-- ---- after a LEAVE

-- what the lane saw after its acts is lawful
pub lawful : {z : Shape} {made : List Act} {v w : View} → Acted z made v w → IsLawful z w
lawful acted = (acted.legal, acted.own, acted.quiet, acted.owners)

-- the lane left a key's place: it pushed nothing, and owes what the word says that it found
pub record HasLeft {S : Type 0} (z : Shape) (key found : ℕ) (a b : Me S View) : Type 0 where
  pub made : List Act
  pub acted : Acted z made a.0 b.0
  pub pushed : (the_lane b.0).pushed ≡ (the_lane a.0).pushed
  pub held : b.1 ≡ a.1
  pub owes : (the_lane b.0).under ≡ owed_after (place_of key) found

life-left : {S : Type 0} {z : Shape} {key found left : ℕ} {act : Option Act} {a b : Me S View}
    → LifeSteps z kinds.Leave found left a b act (owed_after (place_of key) found) → HasLeft z key found a b
life-left {key = key} {found = found} {act = act} {a = a} steps = record {
  made = acts_in act;
  acted = (did-step steps (life-next (the_lane a.0) (place_of key) act (owed_after (place_of key) found))).acted;
  pushed = ap (λ (lanes : List LaneRecord). (head_record lanes).pushed) steps.goes.lanes;
  held = steps.held;
  owes = life-under steps;
}

pub has-left : {S : Type 0} {z : Shape} {key found : ℕ} {a b : Me S View} → MayLeave z a.0 key → Leaves z key a found b → HasLeft z key found a b
has-left {key = key} may leaves = ⊎_elim (λ give. life-left {key = key} (leaves.0 give.0)) (λ undo. life-left {key = key} (leaves.1 undo.0 undo.1)) may

module _ {S : Type 0} {z : Shape} {key found : ℕ} {a b : Me S View} {at : At} (left : HasLeft z key found a b) (is : IsAt z a.0 (place_of key) at) where
  pub left-at : IsAt z b.0 at.spot.place at
  left-at = at-own (at-same left.acted.lane left.pushed is)

  pub left-owes : (the_lane b.0).under ≡ owed_after at.spot.place found
  left-owes = left.owes ∙ ap (λ (p : ℕ). owed_after p found) (sym is.spot.place_is)

-- the claim that it owes
pub owes-now : (v : View) (place found generation : ℕ) → (the_lane v).under ≡ owed_after place found → owes_claim found ≡ true → generation ≡ generation_in found
    → (the_lane v).under ≡ Owes place generation
owes-now v place found generation under owes is =
    under ∙ (ap (λ (b : Bool). cond b (Owes place (generation_in found)) Nothing) owes ∙ ap (λ (n : ℕ). Owes place n) (sym is))

-- ---- after a CLAIM that succeeded

-- the lane has the place, in slots that it left alone, and knows its cell
pub record HasClaimed {S : Type 0} (z : Shape) (place generation : ℕ) (a b : Me S View) : Type 0 where
  pub made : List Act
  pub acted : Acted z made a.0 b.0
  pub pushed : (the_lane b.0).pushed ≡ (the_lane a.0).pushed
  pub held : b.1 ≡ a.1
  pub under : (the_lane b.0).under ≡ claimed_under z (the_lane a.0).lane place generation
  pub place_has : HasPlace z b.0 place × LeftAlone z (the_lane b.0) place
  pub room : (known_of (the_lane b.0) place).room ≡ room_of b.0.seen b.0.rooms place
  pub published : WasPublished b.0.seen (key_number z.tag place generation) (known_of (the_lane b.0) place).content

pub has-claimed : {S : Type 0} {z : Shape} {place generation word : ℕ} {a b : Me S View} → Claims z place generation a word b → word ≡ claimable generation
    → HasClaimed z place generation a b
has-claimed {z = z} {place = place} {generation = generation} {a = a} {b = b} claims same =
    let told = claims.0 same in
    let steps = told.4 in
    let r : LaneRecord = the_lane a.0 in
    let act : Option Act = Some (reclaim z r.lane place generation) in
    let now = ap head_record steps.goes.lanes in
    record {
      made = acts_in act;
      acted = (did-step steps (cell-next r place act (claimed_under z r.lane place generation) told.0)).acted;
      pushed = ap (λ (x : LaneRecord). x.pushed) now;
      held = steps.held;
      under = ap (λ (x : LaneRecord). x.under) now;
      place_has = (told.1, λ number below. ap (λ (x : LaneRecord). status_of x place number) now ∙ told.3 number below);
      room = ap (λ (x : LaneRecord). (known_of x place).room) now
          ∙ (ap (λ (here : Bool). (cond here told.0 (known_of r place)).room) (eq-eqb place place refl) ∙ told.2);
      published = subst (λ (c : Stored). WasPublished b.0.seen (key_number z.tag place generation) c.content)
          (sym (ap (λ (x : LaneRecord). known_of x place) now ∙ ap (λ (here : Bool). cond here told.0 (known_of r place)) (eq-eqb place place refl))) told.5;
    }

-- a place of another shard, below the last generation, is to be returned
pub returns-away : (z : Shape) (lane place generation : ℕ) → generation ≢ z.last_generation → shard_of place ≢ lane
    → claimed_under z lane place generation ≡ Returns place None false
returns-away z lane place generation later away =
    ap (λ (b : Bool). cond b Nothing (cond (shard_of place == lane) Nothing (Returns place None false))) (ne_eqb generation z.last_generation later)
    ∙ ap (λ (b : Bool). cond b Nothing (Returns place None false)) (ne_eqb (shard_of place) lane away)

-- ---- on the way home

-- the place is still to be returned: what was linked, and whether a PUSH of it failed
pub record IsReturning {S : Type 0} (place : ℕ) (linked : Option ℕ) (failed : Bool) (a b : Me S View) : Type 0 where
  pub one : b.0.lanes ≡ the_lane b.0 ∷ []
  pub lane : (the_lane b.0).lane ≡ (the_lane a.0).lane
  pub mine : (the_lane b.0).mine ≡ (the_lane a.0).mine
  pub pushed : (the_lane b.0).pushed ≡ (the_lane a.0).pushed
  pub under : (the_lane b.0).under ≡ Returns place linked failed

returning : {S : Type 0} {z : Shape} {kind : Kind} {found left place : ℕ} {linked : Option ℕ} {failed : Bool} {a b : Me S View}
    → Steps z kind found left a b None (with_return (the_lane a.0) place linked failed) → IsReturning place linked failed a b
returning steps = record {
  one = (did-return steps).acted.one;
  lane = (did-return steps).acted.lane;
  mine = ap (λ (lanes : List LaneRecord). (head_record lanes).mine) steps.goes.lanes;
  pushed = ap (λ (lanes : List LaneRecord). (head_record lanes).pushed) steps.goes.lanes;
  under = under-return steps;
}

-- with what follows
pub then-returning : {S : Type 0} {place : ℕ} {linked then : Option ℕ} {failed fails : Bool} {a b c : Me S View} → IsReturning place linked failed a b
    → IsReturning place then fails b c → IsReturning place then fails a c
then-returning first second =
    record { one = second.one; lane = second.lane ∙ first.lane; mine = second.mine ∙ first.mine; pushed = second.pushed ∙ first.pushed; under = second.under }

module _ {S : Type 0} {z : Shape} {place top : ℕ} {linked : Option ℕ} {failed : Bool} {a b : Me S View} (under : (the_lane a.0).under ≡ Returns place linked failed) where
  -- after a LINK, and after a PUSH that failed
  pub linked-returning : Links z top a b → IsReturning place (Some top) failed a b
  linked-returning links = returning (link-steps under links)

  pub failed-returning : {found : ℕ} → Pushes z top a found b → found ≢ top → IsReturning place None true a b
  failed-returning pushes other = returning (fail-steps under pushes other).1

-- so it is to return
pub first-return : (v : View) (place : ℕ) → (the_lane v).under ≡ Returns place None false → IsToReturn v place None
first-return v place under = under ∙ ap (λ (fails : Bool). Returns place None fails) (sym (ap failed_under under))

pub to-return : {S : Type 0} {place : ℕ} {linked : Option ℕ} {failed : Bool} {a b : Me S View} → IsReturning place linked failed a b → IsToReturn b.0 place linked
to-return {place = place} {linked = linked} is = is.under ∙ ap (λ (fails : Bool). Returns place linked fails) (sym (ap failed_under is.under))

-- the first PUSH expects the word that was last pushed, and the second 0
pub aims-first : {S : Type 0} {place top : ℕ} {linked : Option ℕ} {a b : Me S View} → top ≡ pushed_in (the_lane a.0).pushed (shard_of place) → IsReturning place linked false a b
    → AimsAt (the_lane b.0) place top
aims-first {place = place} at is = inl (ap failed_under is.under, at ∙ ap (λ (pushes : List (ℕ × ℕ)). pushed_in pushes (shard_of place)) (sym is.pushed))

pub aims-again : {S : Type 0} {place : ℕ} {linked : Option ℕ} {a b : Me S View} → IsReturning place linked true a b → AimsAt (the_lane b.0) place 0
aims-again is = inr (ap failed_under is.under, refl)

-- it finds that
pub again-finds : {S : Type 0} {z : Shape} {place found : ℕ} {linked : Option ℕ} {a b : Me S View} → (the_lane a.0).under ≡ Returns place linked true → Pushes z 0 a found b
    → found ≡ 0
again-finds {found = found} under pushes = dite (ℕ_discrete found 0) (λ none. none) (λ some. let bad = (fail-steps under pushes some).0 in absurd (cc bad))

-- a PUSH that succeeds makes it home
pub made-home : {S : Type 0} {z : Shape} {place top found : ℕ} {linked : Option ℕ} {failed : Bool} {a b c : Me S View} → IsReturning place linked failed a b
    → Pushes z top b found c → found ≡ top → MadeHome place a.0 c.0
made-home {place = place} is pushes hit =
    let now = ap head_record (home-steps is.under pushes hit).goes.lanes in (
      ap (λ (x : LaneRecord). x.mine) now ∙ (λ i. is.mine i ++ acts.Home (is.lane i) place ∷ []),
      ap (λ (x : LaneRecord). x.pushed) now ∙ ap (λ (pushes : List (ℕ × ℕ)). (shard_of place, link_to place) ∷ pushes) is.pushed,
    )

-- ---- a place at rest

-- the slot of the place's shard has the whole cell, and every other slot none
pub rests-own : (place : ℕ) → at_rest place (shard_of place) ≡ Whole
rests-own place = ap (λ (b : Bool). cond b Whole Emptied) (eq-eqb (shard_of place) (shard_of place) refl)

rests-else : (place number : ℕ) → number ≢ shard_of place → at_rest place number ≡ Emptied
rests-else place number other = ap (λ (b : Bool). cond b Whole Emptied) (ne_eqb number (shard_of place) other)

module _ {S : Type 0} {z : Shape} {place : ℕ} {c : Stored} {a b : Me S View} where
  -- it is at rest once the cell is put into that slot, and its slots are emptied once the cell is taken out
  pub now-rests : Moves z place (shard_of place) Whole c a b → AreEmptied z (the_lane a.0) place → AreAtRest z (the_lane b.0) place
  now-rests moves slots number below = dite (ℕ_discrete number (shard_of place))
      (λ (own : number ≡ shard_of place). subst (λ (n : ℕ). status_of (the_lane b.0) place n ≡ at_rest place n) (sym own) (moves-here moves ∙ sym (rests-own place)))
      (λ (other : number ≢ shard_of place). moves-beside moves number other ∙ (slots number below ∙ sym (rests-else place number other)))

  pub rests-no-more : Moves z place (shard_of place) Emptied c a b → AreAtRest z (the_lane a.0) place → AreEmptied z (the_lane b.0) place
  rests-no-more moves slots number below = dite (ℕ_discrete number (shard_of place))
      (λ (own : number ≡ shard_of place). subst (λ (n : ℕ). status_of (the_lane b.0) place n ≡ Emptied) (sym own) (moves-here moves))
      (λ (other : number ≢ shard_of place). moves-beside moves number other ∙ (slots number below ∙ rests-else place number other))

-- ---- a publish

-- the place of a key that may be published is with the lane
pub publish-place : (z : Shape) (v : View) (key place : ℕ) → place ≡ place_of key → MayPublish z v key → HasPlace z v place
publish-place z v key place at may = subst (λ (p : ℕ). HasPlace z v p) (sym at)
    (subst (λ (phase : Phase). HasAll (reclaimer v.seen (place_of key)) (the_lane v).lane phase) (sym may.with_lane) refl)

-- by it the lane leaves the slots as they were, and knows the cell
pub publish-left : {S : Type 0} {z : Shape} {key found : ℕ} {c : Stored} {with_ref : Bool} {b d : Me S View} → Publishes z key c with_ref b found d
    → (place number : ℕ) → status_of (the_lane d.0) place number ≡ status_of (the_lane b.0) place number
publish-left publishes place number = ap (λ (lanes : List LaneRecord). status_of (head_record lanes) place number) publishes.goes.lanes

pub publish-known : {S : Type 0} {z : Shape} {key found : ℕ} {c : Stored} {with_ref : Bool} {b d : Me S View} → Publishes z key c with_ref b found d
    → known_of (the_lane d.0) (place_of key) ≡ c
publish-known {key = key} {c = c} {b = b} publishes = ap (λ (lanes : List LaneRecord). known_of (head_record lanes) (place_of key)) publishes.goes.lanes
    ∙ ap (λ (here : Bool). cond here c (known_of (the_lane b.0) (place_of key))) (eq-eqb (place_of key) (place_of key) refl)
