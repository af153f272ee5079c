-- How the parts of a create make the whole.
use Rattle.std.proofs.Common.{◌≡◌, ◌≢◌, ◌⊎◌, inl, inr, ⊎_elim, ℕ, zero, suc, ◌+◌, ◌^◌, ◌<◌, ◌≤◌, ◌==◌, ◌&&◌, Bool, true, false, cond, eqb, nat_lt, List, [], ◌∷◌, ◌++◌, map, length, Option, Some, None, refl, sym, ap, ◌∙◌, subst, arith, eq-eqb, ne_eqb, eqb-true, append-nil, length-append, Ok, Err, is_err}
use Rattle.std.specs.List.{Contains}
use Rattle.std.specs.Prelude.{IsSome}
use Rattle.std.proofs.lemmas.Bool.{cases_Bool, false≢true}
use Rattle.std.proofs.lemmas.List.Elements.{All-nil, All-cons, All-head, All-contains_itself}
use mathlib.Core.Logic.{dite}
use mathlib.Core.List.{IsPrefix}
use native.Mathlib.Decide.{ℕ_discrete}
use Rattle.keybits.specs.declared.shape.Shape.{Shape}
use Rattle.keybits.specs.declared.place.Place.{Place}
use Rattle.keybits.specs.declared.step.Step.{Step}
use Rattle.keybits.specs.declared.step.Kind.{Kind}
use Rattle.keybits.specs.declared.step.Kind.TheVariants as kinds
use Rattle.keybits.specs.declared.step.Word.{Word}
use Rattle.keybits.specs.declared.step.Word.TheVariants.{Link, Stack}
use Rattle.keybits.specs.Places.{shard_of, page_of, number_of}
use Rattle.keybits.specs.Keys.{place_of}
use Rattle.keybits.specs.Shapes.{IsShape, page_size, is_place}
use Rattle.keybits.specs.Links.{linked_place}
use Rattle.keybits.proofs.ShapeLemmas.{shape_bounds}
use Rattle.keybits.proofs.PlaceLemmas.{page_of-place_at}
use Rattle.std.proofs.lemmas.Nat.{mul-le, pow_pos}
use Rattle.freelists.specs.Shards.{ShardPages}
use Rattle.seqpool.specs.declared.act.Act.{Act}
use Rattle.seqpool.specs.declared.act.Act.TheVariants as acts
use Rattle.seqpool.specs.Pool.{with, has, Phase, pool_after}
use Rattle.poolsteps.specs.Shares.{room_of}
use Rattle.steplaws.specs.Facts.{home_in, is_home}
use Rattle.steplaws.specs.Calls.{Call, Caller, Aim, aim, next_lane, first_lane, follow_next, take_next, next_step, AreSteps}
use Rattle.steplaws.specs.Calls.Call.{Creating}
use Rattle.poolsteps.specs.PlaceLaws.{gives_away, brings}
use Rattle.poolsteps.specs.declared.view.LaneRecord.{LaneRecord}
use Rattle.poolsteps.specs.declared.view.View.{View}
use Rattle.poolsteps.specs.Views.{the_lane}
use Rattle.poolsteps.specs.Told.{Sees, references_seen}
use Rattle.poolsteps.specs.ViewLaws.{references_made}
use Rattle.poolsteps.proofs.ViewLemmas.{prefix-self, prefix-trans}
use Rattle.poolsteps.specs.Returned.{LeadsTo}
use Rattle.steplaws.proofs.HomePlaces.{lane-off}
use Rattle.seatcalls.specs.Bounds.{most_takes, most_create_steps}
use Rattle.seatcalls.specs.Called.{caller_of, Make}
use Rattle.seatcalls.proofs.parts.Doing.{make-one, make-more}
use Rattle.seatcalls.proofs.parts.Calling.{no-links, steps-more}
use Rattle.seatcalls.specs.Taken.{Went, Collects, FollowsOut, NoneHome}
use Rattle.seatcalls.proofs.parts.Going.{acted-goes, none-went, went-goes, went-more}
use Rattle.shardpool.specs.Tokens.{LaneOf, FillingOf}
use Rattle.shardpool.specs.Lanes.{IsFilling, Made, SameLane, holds}
use Rattle.shardpool.specs.Places.{IsBlank}
use Rattle.shardpool.specs.LaneStates.{Fits, FitsSeat, IsFirst}
use Rattle.shardpool.specs.declared.pool.LaneState.{LaneState}
use Rattle.atomic_table.specs.Seated.{TableId}
use Rattle.shardpool.proofs.frame.Standing.{sees-on}
use Rattle.shardpool.proofs.frame.LaneFrames.{acted-refs}
use Rattle.shardpool.proofs.frame.KeptPlaces.{none-brings}
use Rattle.shardpool.specs.Creates.{creating, Created, HandsOut, GivesNone, IsLoose, Gives, Pops, TakesReturned, FollowsChain, OpensPage, Fills, page_slots}

-- what is given is no fault
pub given-isnt : {A E : Type 0} {given : A} {fault : E} → Ok given ≡ Err fault → ⊥
given-isnt is = false≢true (ap is_err is)

-- what a create needs of its lane: the seat is sound, the places of unopened pages are with the lane, and the first place of its chain is known
pub record IsSound (lane : LaneOf) : Type 0 where
  pub seat : FitsSeat lane.shape lane.book lane.number
  pub unopened : (place : ℕ) → is_place lane.shape place ≡ true → shard_of place ≡ (the_lane lane.book).lane → lane.pages.opened ≤ page_of place
      → IsBlank lane.shape lane.book place 0
  pub first : IsFirst lane.free.chain (the_lane lane.book).chain

-- so is a lane that fits what it keeps
pub sound-fits : {T : Type 0} (content : T → List ℕ) (room : T → ℕ) (table : TableId) (v : View) (s : LaneState T) → Fits content room s.shape v s
    → IsSound (record { table = table; directory = s.objects.directory; shape = s.shape; number = s.number; book = v; free = s.free; pages = s.pages })
sound-fits content room table v s fits = record { seat = fits.seat; unopened = fits.stores.unopened; first = fits.stores.first }

-- ---- the steps so far

-- from one view to another a call made these steps and acts, in at most so many looks
pub record Part (z : Shape) (call : Call) (steps : List Step) (made : List Act) (looks : ℕ) (v w : View) : Type 0 where
  pub are : AreSteps (caller_of z v) call [] steps
  pub make : Make z (caller_of z v) call steps made
  pub went : Went z made v w
  pub stepped : w.steps ≡ v.steps + length steps
  pub looked : w.looks ≤ v.looks + looks

-- none yet
none-yet : (z : Shape) (call : Call) (v : View) {number : ℕ} → FitsSeat z v number → Part z call [] [] 0 v v
none-yet z call v seat = record {
  are = tt;
  make = refl;
  went = none-went z v seat.one (seat.legal, seat.own, seat.quiet, seat.owners);
  stepped = omega arith;
  looked = omega arith;
}

-- TAKEs
part-collects : {z : Shape} {opened found : ℕ} {v w : View} (collects : Collects {S = Unit {0}} z opened found (v, []) (w, []))
    → Part z (Creating [] [] opened) collects.steps collects.made 0 v w
part-collects collects = record {
  are = collects.are;
  make = collects.make;
  went = collects.went;
  stepped = collects.stepped;
  looked = let same = collects.looked in omega arith;
}

-- the FOLLOW of a place, which found this word
abbrev follow_step : ℕ → ℕ → Step
follow_step place found = record { kind = kinds.Follow; word = Link place; before = found; after = found }

module _ {z : Shape} {call : Call} {steps : List Step} {made : List Act} {looks : ℕ} {u v w : View} (part : Part z call steps made looks u v) where
  -- with a FOLLOW behind
  part-follows : {place found : ℕ} → next_step (caller_of z u) call steps ≡ Some (aim kinds.Follow (Link place))
      → FollowsOut {S = Unit {0}} z place found (v, []) (w, []) → Part z call (steps ++ follow_step place found ∷ []) made (looks + 2) u w
  part-follows {place = place} {found = found} next follows =
      let step : Step = follow_step place found in
      let count = length-append steps (step ∷ []) in
      subst (λ (xs : List Act). Part z call (steps ++ step ∷ []) xs (looks + 2) u w) (append-nil made) (record {
        are = steps-more (caller_of z u) call [] steps (step ∷ []) part.are (next, tt);
        make = make-more z (caller_of z u) call steps (step ∷ []) made [] part.make (make-one z (caller_of z u) call step None no-links follows.changes refl);
        went = went-more part.went follows.went;
        stepped = let one = part.stepped in let more = follows.stepped in omega arith;
        looked = let one = part.looked in let more = follows.looked in omega arith;
      })

  -- with a look behind
  part-sees : Sees {S = Unit {0}} z (v, []) (w, []) → Part z call steps made (looks + 1) u w
  part-sees sees =
      subst (λ (xs : List Act). Part z call steps xs (looks + 1) u w) (append-nil made) (record {
        are = part.are;
        make = subst (Make z (caller_of z u) call steps) (sym (append-nil made)) part.make;
        went = went-more part.went (went-goes sees.goes refl refl (sym (append-nil (the_lane v).mine)) refl refl);
        stepped = let one = part.stepped in let more = sees.steps in omega arith;
        looked = let one = part.looked in let more = sees.looks in omega arith;
      })

-- ---- a whole create

-- these acts leave the lane's references as they are
abbrev KeepsReferences : List Act → Type 0
KeepsReferences made = (key n : ℕ) → references_made made key n ≡ n

same-then : (u v w : LaneOf) → SameLane u v → SameLane v w → SameLane u w
same-then u v w first second = (second.0 ∙ first.0, second.1 ∙ first.1, second.2 ∙ first.2, second.3 ∙ first.3)

module _ (old new : LaneOf) (seat : FitsSeat old.shape old.book old.number) {call : Call} {steps : List Step} {made : List Act} {looks : ℕ} where
  created : call ≡ creating old → Part old.shape call steps made looks old.book new.book → next_step (caller_of old.shape old.book) call steps ≡ None
      → SameLane old new → KeepsReferences made → length steps ≤ most_create_steps old.shape → looks ≤ 64 → Created made old new
  created is part all same keeps few least =
      let c : Caller = caller_of old.shape old.book in
      let went = part.went in record {
        steps = steps;
        are = subst (λ (x : Call). AreSteps c x [] steps) is part.are;
        all = subst (λ (x : Call). next_step c x steps ≡ None) is all;
        make = subst (λ (x : Call). Make old.shape c x steps made) is part.make;
        same = same;
        mine = went.acted.mine;
        goes = sees-on old.shape old new same.1 went.acted seat.own;
        held = λ key. ap (λ (z : Shape). references_seen z new.book key) same.1
            ∙ (acted-refs went.acted seat.own key ∙ keeps key (holds old key));
        idle = went.under ∙ seat.idle;
        stepped = part.stepped;
        few = few;
        looked = let looked = part.looked in omega arith;
      }

-- its key is no other filling's of the lane
pub gives-apart : {T : Type 0} {content : T → List ℕ} {room : T → ℕ} {old new : LaneOf} {filling : FillingOf T} → Gives content room old new filling
    → (other : FillingOf T) → Made old other → other.key ≢ filling.key
gives-apart {old = old} gives other made same = gives.unfilled (subst (λ (key : ℕ). IsFilling old (place_of key)) same made.place)

-- ---- TAKEs

-- a list is empty, or has a first
empty-or : (xs : List ℕ) → (xs ≡ []) ⊎ ((x : ℕ) × (rest : List ℕ) × (xs ≡ x ∷ rest))
empty-or [] = inl refl
empty-or (x ∷ rest) = inr (x, rest, refl)

-- the kind that is aimed at; TAKE where nothing is
kind_or_take : Option Aim → Kind
kind_or_take None = kinds.Take
kind_or_take (Some to) = to.kind

-- a TAKE is no FOLLOW
not-follow : (b : Bool) (stack word : Word) → cond b (Some (aim kinds.Take stack)) None ≡ Some (aim kinds.Follow word) → ⊥
unfolding kind_or_take
not-follow true stack word e = let bad : kinds.Take ≡ kinds.Follow = ap kind_or_take e in cc bad
not-follow false stack word e = cc e

-- behind a FOLLOW nothing comes
follow-ends : (lane found : ℕ) (steps : List Step) (step : Step) (word : Word) → follow_next lane found steps ≡ Some (aim kinds.Follow word)
    → follow_next lane found (steps ++ step ∷ []) ≡ None
follow-ends lane found [] step word is = refl
follow-ends lane found (x ∷ steps) step word is = absurd (cc is)

-- what comes behind a TAKE, by what it found
take-then : (c : Caller) (lane : ℕ) (take : Step) (b : Bool) → eqb take.before 0 ≡ b → (more : List Step)
    → take_next c lane (take ∷ more) ≡ cond b (take_next c (next_lane c.lane lane) more) (follow_next c.lane take.before more)
take-then c lane take b e more = ap (λ (x : Bool). cond x (take_next c (next_lane c.lane lane) more) (follow_next c.lane take.before more)) e

-- where a FOLLOW comes after TAKEs, it is the last step
follow-last : (c : Caller) (lane : ℕ) (steps : List Step) (step : Step) (word : Word) → take_next c lane steps ≡ Some (aim kinds.Follow word)
    → take_next c lane (steps ++ step ∷ []) ≡ None
follow-last c lane [] step word is = absurd (not-follow (nat_lt lane c.shape.lanes) (Stack c.lane lane) word is)
follow-last c lane (take ∷ more) step word is = ⊎_elim
    (λ (empty : eqb take.before 0 ≡ true).
    let then = take-then c lane take true empty in
    then (more ++ step ∷ []) ∙ follow-last c (next_lane c.lane lane) more step word (sym (then more) ∙ is))
    (λ (some : eqb take.before 0 ≡ false).
    let then = take-then c lane take false some in
    then (more ++ step ∷ []) ∙ follow-ends c.lane take.before more step word (sym (then more) ∙ is))
    (cases_Bool (eqb take.before 0))

taken-last : (c : Caller) (opened : ℕ) (steps : List Step) (step : Step) (word : Word) → 0 < opened
    → next_step c (Creating [] [] opened) steps ≡ Some (aim kinds.Follow word) → next_step c (Creating [] [] opened) (steps ++ step ∷ []) ≡ None
taken-last c opened steps step word some is =
    let isnt : eqb opened 0 ≡ false = ne_eqb opened 0 (λ e. absurd (omega arith)) in
    let on : (xs : List Step) → next_step c (Creating [] [] opened) xs ≡ take_next c (first_lane c.lane) xs
    = λ xs. ap (λ (b : Bool). cond b None (take_next c (first_lane c.lane) xs)) isnt in
    on (steps ++ step ∷ []) ∙ follow-last c (first_lane c.lane) steps step word (sym (on steps) ∙ is)

-- a place that the lane then collects was not with it
was-away : (z : Shape) (v w : View) {number : ℕ} (places : List ℕ) (place : ℕ) → FitsSeat z v number
    → Went z (acts.Collect (the_lane v).lane places ∷ []) v w → has places place ≡ true → (pool_after z v.seen place).phase ≡ with number → ⊥
was-away z v w {number = number} places place seat went on is =
    let act : Act = acts.Collect (the_lane v).lane places in
    let off : has places place ≡ false
    = All-head (λ a. brings a place ≡ false) act [] (none-brings went.acted seat.paired seat.own place (is ∙ ap with seat.number_is)
    (All-cons (λ a. gives_away a place ≡ false) act [] refl (All-nil (λ a. gives_away a place ≡ false)))) in
    let bad : true ≡ false = sym on ∙ off in cc bad

module _ {T : Type 0} (content : T → List ℕ) (room : T → ℕ) where
  -- with a look at the generation of a place that nobody has, a create gives it
  gives : (old mid new : LaneOf) {place looks : ℕ} {object : T} {filling : FillingOf T} {call : Call} {steps : List Step} {made : List Act} → FitsSeat old.shape old.book old.number
      → call ≡ creating old → Part old.shape call steps made looks old.book mid.book → next_step (caller_of old.shape old.book) call steps ≡ None
      → SameLane old mid → KeepsReferences made → length steps ≤ most_create_steps old.shape → looks < 64 → IsLoose content room mid place object → Fills mid new place object filling
      → HandsOut place made old new → (IsFilling old place → ⊥) → Gives content room old new filling
  gives old mid new {place = place} {object = object} {filling = filling} {made = made} seat is part all same keeps few least loose fills hands unfilled =
      let sees : Sees {S = Unit {0}} old.shape (mid.book, []) (new.book, [])
      = subst (λ (z : Shape). Sees {S = Unit {0}} z (mid.book, []) (new.book, [])) same.1 fills.sees in record {
        acts_made = made;
        created = created old new seat is (part-sees part sees) all (same-then old mid new same fills.same) keeps few (omega arith);
        hands_out = subst (λ (p : ℕ). HandsOut p made old new) (sym fills.place_is) hands;
        unfilled = λ filled. unfilled (subst (IsFilling old) fills.place_is filled);
        made = fills.made;
        empty = ap content fills.object_is ∙ loose.empty;
        roomy = let at = ap (room_of new.book.seen new.book.rooms) fills.place_is in
            let as_was = fills.room in
            let least = loose.blank.room in
            let same_room = ap room fills.object_is in omega arith;
      }

  -- ---- from the own list

  abbrev no-refs : KeepsReferences []
  no-refs key n = refl

  pub list-gives : (old mid new : LaneOf) {place : ℕ} {object : T} {filling : FillingOf T} → IsSound old → Pops content room old mid place object
      → Fills mid new place object filling → Gives content room old new filling
  list-gives old mid new {place = place} sound pops fills =
      let first : Place = pops.0 in
      let same_book : mid.book ≡ old.book = ap (λ (lane : LaneOf). lane.book) pops.3 in
      let same_pages = ap (λ (lane : LaneOf). lane.pages) pops.3 in
      let listed : old.free.own ≡ first ∷ new.free.own = pops.2 ∙ ap (λ free. first ∷ free.own) (sym fills.free_same.0) in
      let c : Caller = caller_of old.shape old.book in
      gives old mid new sound.seat refl (subst (λ (v : View). Part old.shape (creating old) [] [] 0 old.book v) (sym same_book) (none-yet old.shape (creating old) old.book sound.seat))
      (ap (λ own. next_step c (Creating (map number_of own) (the_lane old.book).chain old.pages.opened) []) pops.2)
      (ap (λ (lane : LaneOf). lane.table) pops.3, ap (λ (lane : LaneOf). lane.shape) pops.3, ap (λ (lane : LaneOf). lane.number) pops.3, ap (λ (lane : LaneOf). lane.directory) pops.3)
      no-refs (omega arith) (omega arith) pops.4 fills
      (inl (record {
        first = first;
        listed = listed;
        is = pops.1;
        none = refl;
        chain = fills.free_same.1 ∙ ap (λ (v : View). (the_lane v).chain) same_book;
        pages = fills.free_same.2 ∙ same_pages;
      }))
      (λ filled. filled.unlisted first
      (subst (λ own. Contains own first) (sym listed) (All-head (Contains (first ∷ new.free.own)) first new.free.own (All-contains_itself (first ∷ new.free.own)))) (sym pops.1))

  -- ---- from the chain

  pub chain-gives : (old mid new : LaneOf) {place : ℕ} {object : T} {filling : FillingOf T} → IsSound old → old.free.own ≡ [] → FollowsChain content room old mid place object
      → Fills mid new place object filling → Gives content room old new filling
  chain-gives old mid new {place = place} sound listed follows fills =
      let chain : List ℕ = (the_lane mid.book).chain in
      let is : Creating [] (place ∷ chain) old.pages.opened ≡ creating old = sym (λ i. Creating (map number_of (listed i)) (follows.chain i) old.pages.opened) in
      gives old mid new sound.seat is (part-follows (none-yet old.shape (Creating [] (place ∷ chain) old.pages.opened) old.book sound.seat) refl follows.follows.1)
      refl follows.same no-refs (omega arith) (omega arith) follows.loose fills
      (inr (inl (record {
        listed = (listed, ap (λ free. free.own) fills.free_same.0 ∙ (follows.list ∙ listed));
        chained = follows.chain ∙ ap (λ (xs : List ℕ). place ∷ xs) (sym fills.free_same.1);
        none = refl;
        pages = fills.free_same.2 ∙ follows.pages;
      })))
      (λ filled.
      let on : has (the_lane old.book).chain place ≡ true = ap (λ (xs : List ℕ). has xs place) follows.chain ∙ ap (λ (b : Bool). cond b true (has chain place)) (eq-eqb place place refl) in
      let bad : true ≡ false = sym on ∙ filled.unchained in cc bad)

  -- ---- from the stacks

  module _ (old mid next new : LaneOf) {place found : ℕ} {object : T} {filling : FillingOf T} (sound : IsSound old) (listed : old.free.own ≡ [])
      (chained : (the_lane old.book).chain ≡ []) (opened : 0 < old.pages.opened) (takes : TakesReturned old mid)
      (collects : Collects {S = Unit {0}} old.shape old.pages.opened found (old.book, []) (mid.book, []))
      (follows : FollowsChain content room mid next place object) (fills : Fills next new place object filling) where
    stack-is : Creating [] [] old.pages.opened ≡ creating old
    stack-is = sym (λ i. Creating (map number_of (listed i)) (chained i) old.pages.opened)

    stack-found : found ≢ 0
    stack-found none =
        let same : (the_lane mid.book).chain ≡ [] = ap (λ (r : LaneRecord). r.chain) (collects.none none).1 ∙ chained in
        let bad : place ∷ (the_lane next.book).chain ≡ [] = sym follows.chain ∙ same in cc bad

    pub stack-gives : Gives content room old new filling
    stack-gives =
        let lane : ℕ = (the_lane old.book).lane in
        let c : Caller = caller_of old.shape old.book in
        let call : Call = Creating [] [] old.pages.opened in
        let some = collects.some stack-found in
        let places : List ℕ = some.0 in
        let rest : List ℕ = (the_lane next.book).chain in
        let same : places ≡ place ∷ rest = sym (ap (λ (r : LaneRecord). r.chain) some.7) ∙ follows.chain in
        let leads = subst (LeadsTo old.shape lane found) same some.5 in
        let coming : next_step c call collects.steps ≡ Some (aim kinds.Follow (Link place))
        = collects.next ∙ (ap (λ (b : Bool). cond b None (Some (aim kinds.Follow (Link (linked_place lane found))))) (ne_eqb found 0 stack-found)
        ∙ ap (λ (p : ℕ). Some (aim kinds.Follow (Link p))) (sym leads.2)) in
        let link : ℕ = follows.follows.0 in
        let out : FollowsOut {S = Unit {0}} old.shape place link (mid.book, []) (next.book, [])
        = subst (λ (z : Shape). FollowsOut {S = Unit {0}} z place link (mid.book, []) (next.book, [])) takes.same.1 follows.follows.1 in
        let step : Step = follow_step place link in
        let count = length-append collects.steps (step ∷ []) in
        let few = collects.few in
        let number : lane ≡ old.number = sym sound.seat.number_is in
        gives old next new sound.seat stack-is (part-follows (part-collects collects) coming out)
        (taken-last c old.pages.opened collects.steps step (Link place) opened coming)
        (same-then old mid next takes.same follows.same) (subst KeepsReferences (sym some.2) (λ key n. refl)) (omega (arith, count, few)) (omega arith) follows.loose fills
        (inr (inr (inl (record {
          listed = (listed, ap (λ free. free.own) fills.free_same.0 ∙ (follows.list ∙ (takes.list ∙ listed)));
          chained = chained;
          taken = some.2 ∙ ((λ i. acts.Collect (number i) (same i) ∷ []) ∙ ap (λ (xs : List ℕ). acts.Collect old.number (place ∷ xs) ∷ []) (sym fills.free_same.1));
          pages = fills.free_same.2 ∙ (follows.pages ∙ takes.pages);
        }))))
        (λ filled. was-away old.shape old.book mid.book places place sound.seat (subst (λ (xs : List Act). Went old.shape xs old.book mid.book) some.2 collects.went)
        (ap (λ (xs : List ℕ). has xs place) same ∙ ap (λ (b : Bool). cond b true (has rest place)) (eq-eqb place place refl)) filled.with_lane)

  -- from the chain as it was, or as it then was taken
  pub taken-gives : (old mid next new : LaneOf) {place : ℕ} {object : T} {filling : FillingOf T} → IsSound old → old.free.own ≡ [] → TakesReturned old mid
      → FollowsChain content room mid next place object → Fills next new place object filling → Gives content room old new filling
  taken-gives old mid next new {place = place} {object = object} sound listed takes follows fills = ⊎_elim
      (λ (chained : (the_lane old.book).chain ≡ []). dite (ℕ_discrete old.pages.opened 0)
      (λ none.
      let same : (the_lane mid.book).chain ≡ [] = ap (λ (lane : LaneOf). (the_lane lane.book).chain) (takes.none (inr none)) ∙ chained in
      let bad : place ∷ (the_lane next.book).chain ≡ [] = sym follows.chain ∙ same in absurd (cc bad))
      (λ some.
      let opened : 0 < old.pages.opened = omega arith in
      stack-gives old mid next new sound listed chained opened takes (takes.some chained opened).1 follows fills))
      (λ hangs.
      let isnt : (the_lane old.book).chain ≢ [] = λ e. let bad = sym hangs.2 ∙ e in cc bad in
      chain-gives old next new sound listed (subst (λ (lane : LaneOf). FollowsChain content room lane next place object) (takes.none (inl isnt)) follows) fills)
      (empty-or (the_lane old.book).chain)

-- ---- nothing free

-- nothing was free with the lane, and nothing was returned to it
pub record NoneTaken (old mid : LaneOf) : Type 0 where
  pub steps : List Step
  pub part : Part old.shape (Creating [] [] old.pages.opened) steps [] 0 old.book mid.book
  pub all : next_step (caller_of old.shape old.book) (Creating [] [] old.pages.opened) steps ≡ None
  pub few : length steps ≤ most_takes old.shape
  pub chained : (the_lane old.book).chain ≡ []
  pub free : mid.free ≡ old.free
  pub home : NoneHome old.shape old.number old.book mid.book

-- what was home nowhere before is so before what is seen later
home-later : (z : Shape) (shard : ℕ) (u v w : View) → NoneHome z shard u v → IsPrefix v.seen w.seen → NoneHome z shard u w
home-later z shard u v w none on = (none.0, none.1, prefix-trans none.0 v.seen w.seen none.2 on, none.3)

-- where the one is there the other isn't
never-both : (a b : Bool) → (a ≡ true → b ≡ false) → a && b ≡ false
never-both true b then = then refl
never-both false b then = refl

-- where no page is opened each place of the shard is with the lane
unopened-away : (old : LaneOf) → IsSound old → old.pages.opened ≡ 0 → (place : ℕ) → home_in old.shape old.book.seen old.number place ≡ false
unopened-away old sound none place =
    let z : Shape = old.shape in
    let phase : Phase = (pool_after z old.book.seen place).phase in
    never-both (is_place z place) ((shard_of place == old.number) && is_home phase) (λ inside.
    never-both (shard_of place == old.number) (is_home phase) (λ own.
    let blank = sound.unopened place inside (eqb-true (shard_of place) old.number own ∙ sound.seat.number_is) (omega arith) in
    ap is_home blank.with_lane))

module _ (old mid : LaneOf) (sound : IsSound old) (takes : TakesReturned old mid) (chain : (the_lane mid.book).chain ≡ []) where
  unhung : (the_lane old.book).chain ≡ []
  unhung = ⊎_elim
      (λ (none : (the_lane old.book).chain ≡ []). none)
      (λ hangs.
      let isnt : (the_lane old.book).chain ≢ [] = λ e. let bad = sym hangs.2 ∙ e in cc bad in
      ap (λ (lane : LaneOf). (the_lane lane.book).chain) (sym (takes.none (inl isnt))) ∙ chain)
      (empty-or (the_lane old.book).chain)

  pub none-taken : NoneTaken old mid
  none-taken = dite (ℕ_discrete old.pages.opened 0)
      (λ (zero : old.pages.opened ≡ 0).
      let same : mid ≡ old = takes.none (inr zero) in
      subst (NoneTaken old) (sym same) (record {
        steps = [];
        part = none-yet old.shape (Creating [] [] old.pages.opened) old.book sound.seat;
        all = ap (λ (b : Bool). cond b None (take_next (caller_of old.shape old.book) (first_lane (the_lane old.book).lane) [])) (eq-eqb old.pages.opened 0 zero);
        few = omega arith;
        chained = unhung;
        free = refl;
        home = (old.book.seen, prefix-self old.book.seen, prefix-self old.book.seen, λ place. lane-off old.shape old.book.seen old.number place (unopened-away old sound zero place));
      }))
      (λ (isnt : old.pages.opened ≢ 0).
      let told = takes.some unhung (omega arith) in
      let found : ℕ = told.0 in
      let collects = told.1 in
      let zero : found ≡ 0 = dite (ℕ_discrete found 0) (λ is. is) (λ some.
      let taken = collects.some some in
      let empty : taken.0 ≡ [] = sym (ap (λ (r : LaneRecord). r.chain) taken.7) ∙ chain in
      let long = ap length empty in
      let more = taken.3 in absurd (omega arith)) in
      let none = collects.none zero in record {
        steps = collects.steps;
        part = subst (λ (xs : List Act). Part old.shape (Creating [] [] old.pages.opened) collects.steps xs 0 old.book mid.book) none.0 (part-collects collects);
        all = collects.next ∙ ap (λ (b : Bool). cond b None (Some (aim kinds.Follow (Link (linked_place (the_lane old.book).lane found))))) (eq-eqb found 0 zero);
        few = collects.few;
        chained = unhung;
        free = told.2 zero;
        home = subst (λ (lane : ℕ). NoneHome old.shape lane old.book mid.book) (sym sound.seat.number_is) none.2;
      })

  -- so a create that opens no page gives none
  pub none-gives : old.free.own ≡ [] → GivesNone old mid
  none-gives listed =
      let none = none-taken in
      let few = none.few in
      let is : Creating [] [] old.pages.opened ≡ creating old = sym (λ i. Creating (map number_of (listed i)) (none.chained i) old.pages.opened) in record {
        created = created old mid sound.seat is none.part none.all takes.same (λ key n. refl) (omega arith) (omega arith);
        nothing = (listed, none.chained, none.home);
        same = (none.free, chain ∙ sym none.chained, takes.pages);
      }

-- ---- from the next page

-- each page has a place
page-some : (z : Shape) → IsShape z → (page : ℕ) → 0 < page_size z page
page-some z shape page = let some = mul-le 1 1 z.first_page (2 ^ page) (shape_bounds z shape).first_page.0 (pow_pos page) in omega (arith, some)

-- the first of a page's slots
first-slot : (shard page count : ℕ) (first : Place) (rest : List Place) → 0 < count → page_slots shard page 0 count ≡ first ∷ rest
    → first ≡ record { shard = shard; page = page; slot = 0 }
first-slot shard page zero first rest some is = absurd (omega arith)
first-slot shard page (suc more) first rest some is = cc is

no-slots : (shard page count : ℕ) → 0 < count → page_slots shard page 0 count ≡ [] → ⊥
no-slots shard page zero some is = absurd (omega arith)
no-slots shard page (suc more) some is = cc is

module _ {T : Type 0} (content : T → List ℕ) (room : T → ℕ) (old mid wider popped new : LaneOf) {place : ℕ} {object : T} {filling : FillingOf T} (sound : IsSound old)
    (listed : old.free.own ≡ []) (takes : TakesReturned old mid) (chain : (the_lane mid.book).chain ≡ []) (opens : OpensPage mid wider)
    (pops : Pops content room wider popped place object) (fills : Fills popped new place object filling) where
  page-book : popped.book ≡ mid.book
  page-book = ap (λ (lane : LaneOf). lane.book) pops.3 ∙ ap (λ (lane : LaneOf). lane.book) opens.1

  page-same : SameLane mid popped
  page-same = (
    ap (λ (lane : LaneOf). lane.table) pops.3 ∙ ap (λ (lane : LaneOf). lane.table) opens.1,
    ap (λ (lane : LaneOf). lane.shape) pops.3 ∙ ap (λ (lane : LaneOf). lane.shape) opens.1,
    ap (λ (lane : LaneOf). lane.number) pops.3 ∙ ap (λ (lane : LaneOf). lane.number) opens.1,
    ap (λ (lane : LaneOf). lane.directory) pops.3 ∙ ap (λ (lane : LaneOf). lane.directory) opens.1,
  )

  -- its slots
  page-listed : pops.0 ∷ new.free.own ≡ page_slots old.number old.pages.opened 0 (page_size old.shape old.pages.opened)
  page-listed =
      ap (λ free. pops.0 ∷ free.own) fills.free_same.0 ∙ (sym pops.2 ∙ (ap (λ (lane : LaneOf). lane.free.own) opens.1
      ∙ (λ i. page_slots (takes.same.2 i) (takes.pages i).opened 0 (page_size (takes.same.1 i) (takes.pages i).opened))))

  page-pages : new.pages ≡ record old.pages { opened = old.pages.opened + 1 }
  page-pages =
      fills.free_same.2 ∙ (ap (λ (lane : LaneOf). lane.pages) pops.3 ∙ (ap (λ (lane : LaneOf). lane.pages) opens.1
      ∙ ap {A = ShardPages} (λ (pages : ShardPages). record pages { opened = pages.opened + 1 }) takes.pages))

  page-unopened : old.pages.opened < old.shape.pages
  page-unopened = let shapes = ap (λ (z : Shape). z.pages) takes.same.1 in let pages = ap (λ pages. pages.opened) takes.pages in let below = opens.0 in omega arith

  -- its first place is on the page that was unopened
  page-of : page_of place ≡ old.pages.opened
  page-of =
      let first = first-slot old.number old.pages.opened (page_size old.shape old.pages.opened) pops.0 new.free.own
      (page-some old.shape sound.seat.shape old.pages.opened) (sym page-listed) in
      let few = (shape_bounds old.shape sound.seat.shape).pages in
      ap page_of (pops.1 ∙ ap number_of first) ∙ page_of-place_at old.number old.pages.opened 0 (let below = page-unopened in omega arith) (omega arith)

  -- what the lane saw goes on
  page-on : IsPrefix mid.book.seen new.book.seen
  page-on = subst (λ (v : View). IsPrefix v.seen new.book.seen) page-book (acted-goes fills.sees.goes refl refl (sym (append-nil (the_lane popped.book).mine))).seen

  pub page-gives : Gives content room old new filling
  page-gives =
      let none = none-taken old mid sound takes chain in
      let few = none.few in
      let is : Creating [] [] old.pages.opened ≡ creating old = sym (λ i. Creating (map number_of (listed i)) (none.chained i) old.pages.opened) in
      gives content room old popped new sound.seat is
      (subst (λ (v : View). Part old.shape (Creating [] [] old.pages.opened) none.steps [] 0 old.book v) (sym page-book) none.part)
      none.all (same-then old mid popped takes.same page-same) (λ key n. refl) (omega arith) (omega arith) pops.4 fills
      (inr (inr (inr (record {
        nothing = (listed, none.chained, home-later old.shape old.number old.book mid.book new.book none.home page-on);
        chained = fills.free_same.1 ∙ (ap (λ (v : View). (the_lane v).chain) page-book ∙ chain);
        none = refl;
        unopened = page-unopened;
        opened = page-pages;
        slots = (pops.0, pops.1, page-listed);
      }))))
      (λ filled. let below = filled.opened in let at = page-of in absurd (omega arith))

-- ---- what else a create promises

-- where a place of the chain is still to be followed, the chain isn't empty
hangs : (first : Option Place) (chain : List ℕ) → IsFirst first chain → IsSome first → chain ≢ []
hangs None chain is some empty = cc some
hangs (Some place) chain is some empty = let bad = sym is ∙ empty in cc bad

-- a create that finds nothing had nothing
pub none-hangs : (old mid : LaneOf) → IsSound old → TakesReturned old mid → (the_lane mid.book).chain ≡ [] → IsSome old.free.chain → ⊥
none-hangs old mid sound takes chain some = hangs old.free.chain (the_lane old.book).chain sound.first some (unhung old mid sound takes chain)

-- the own list isn't empty once a page is opened
pub opened-some : (old mid wider : LaneOf) → IsSound old → TakesReturned old mid → OpensPage mid wider → wider.free.own ≢ []
opened-some old mid wider sound takes opens none =
    no-slots mid.number mid.pages.opened (page_size mid.shape mid.pages.opened)
    (page-some mid.shape (subst IsShape (sym takes.same.1) sound.seat.shape) mid.pages.opened)
    (sym (ap (λ (lane : LaneOf). lane.free.own) opens.1) ∙ none)
