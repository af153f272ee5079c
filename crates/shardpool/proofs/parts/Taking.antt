-- The TAKEs of a create, and the FOLLOW behind them, up to so many steps.
use Rattle.std.proofs.Common.{◌≡◌, ◌≢◌, ◌⊎◌, inl, inr, ℕ, ◌+◌, ◌<◌, ◌≤◌, Bool, List, [], ◌∷◌, ◌++◌, length, None, refl, sym, ap, ◌∙◌, subst, arith, ne_eqb, append_assoc, append-nil, length-append, if◌then◌else◌}
use Rattle.atomic_table.specs.Table.{Me}
use Rattle.keybits.specs.declared.shape.Shape.{Shape}
use Rattle.keybits.specs.declared.step.Kind.TheVariants as kinds
use Rattle.keybits.specs.declared.step.Step.{Step}
use Rattle.keybits.specs.declared.step.Word.TheVariants.{Link}
use Rattle.keybits.specs.Links.{linked_place}
use Rattle.seqpool.specs.declared.act.Act.{Act}
use Rattle.seqpool.specs.declared.act.Act.TheVariants as acts
use Rattle.steplaws.specs.Calls.{Call, Caller, next_lane, take_next, follow_next, next_step, AreSteps}
use Rattle.steplaws.specs.Calls.Call.{Creating}
use Rattle.poolsteps.specs.declared.view.LaneRecord.{LaneRecord}
use Rattle.poolsteps.specs.declared.view.View.{View}
use Rattle.poolsteps.specs.Views.{the_lane}
use Rattle.poolsteps.specs.Returned.{rest_of, LeadsTo, Follows, Takes}
use Rattle.seatcalls.specs.Called.{caller_of, Make, IsLawful}
use Rattle.seatcalls.proofs.parts.Doing.{make-one, make-more}
use Rattle.seatcalls.proofs.parts.Calling.{no-links, steps-more}
use Rattle.seatcalls.specs.Taken.{Went}
use Rattle.seatcalls.proofs.parts.Going.{went-step, went-more}
use Rattle.shardpool.proofs.parts.Chaining.{links_of}
use Rattle.shardpool.proofs.parts.Collecting.{Tried, TakesSome, take_step, taken-some, none-collects, next-after, take-are, take-make, take-went, take-stepped, steps-some, some-leads, record-after}
use Rattle.shardpool.specs.Halted.{CalledWithin, FollowsWithin}
use Rattle.shardpool.proofs.parts.Within.{at-end}

-- a call whose lane went on by these steps
called-went : {S : Type 0} {z : Shape} {call : Call} {limit : ℕ} {a b : Me S View} (steps : List Step) (made : List Act) → AreSteps (caller_of z a.0) call [] steps
    → Make z (caller_of z a.0) call steps made → Went z made a.0 b.0 → b.1 ≡ a.1 → b.0.steps ≡ a.0.steps + length steps
    → (length steps ≡ limit) ⊎ ((length steps < limit) × (next_step (caller_of z a.0) call steps ≡ None)) → CalledWithin z call limit a b
called-went steps made are make went held stepped ends = record {
  steps = steps;
  made = made;
  are = are;
  ends = ends;
  make = make;
  acted = went.acted;
  held = held;
  stepped = stepped;
}

-- ---- the FOLLOW

-- of the place's link word, which held this word
abbrev follow-step : ℕ → ℕ → Step
follow-step place link = record { kind = kinds.Follow; word = Link place; before = link; after = link }

module _ {S : Type 0} {z : Shape} {link : ℕ} {a b : Me S View} (follows : Follows z a link b) where
  follow-went : Went z [] a.0 b.0
  follow-went = went-step follows.1 refl (sym (append-nil (the_lane a.0).mine)) refl refl

  follow-make : (c : Caller) (call : Call) (place : ℕ) → Make z c call (follow-step place link ∷ []) []
  follow-make c call place = make-one z c call (follow-step place link) None no-links follows.1.changes refl

  -- the first step of a create that has a chain, and its last
  follow-first : (place : ℕ) (more : List ℕ) (opened limit : ℕ) → 0 < limit → CalledWithin z (Creating [] (place ∷ more) opened) limit a b
  follow-first place more opened limit some =
      let call : Call = Creating [] (place ∷ more) opened in
      called-went (follow-step place link ∷ []) [] (refl, tt) (follow-make (caller_of z a.0) call place) follow-went follows.1.held follows.1.steps
      (at-end 1 limit _ (omega (arith, some)) refl)

  pub follow-called : {place : ℕ} → (the_lane a.0).chain ≡ place ∷ rest_of (the_lane a.0).chain → (opened limit : ℕ) → 0 < limit
      → CalledWithin z (Creating [] (the_lane a.0).chain opened) limit a b
  follow-called {place = place} chain opened limit some = subst (λ (places : List ℕ). CalledWithin z (Creating [] places opened) limit a b) (sym chain)
      (follow-first place (rest_of (the_lane a.0).chain) opened limit some)

-- ---- the TAKEs

-- a word that leads to places leads to the first of them
first-led : (z : Shape) (shard word : ℕ) (places : List ℕ) → LeadsTo z shard word places → 0 < length places
    → places ≡ linked_place shard word ∷ rest_of places
first-led z shard word [] leads some = absurd (omega (arith, some))
first-led z shard word (place ∷ more) leads some = ap (λ (p : ℕ). p ∷ more) leads.2

-- a TAKE is one step
pub empty-stepped : {S : Type 0} {z : Shape} {from found : ℕ} {b c : Me S View} → Takes z from b found c → found ≡ 0 → c.0.steps ≡ b.0.steps + 1
empty-stepped takes none = (takes.0 none).1.steps

module _ {S : Type 0} {z : Shape} {opened from : ℕ} {a b : Me S View} (tried : Tried z opened from a b) {left limit : ℕ} (sum : b.0.steps + left ≡ a.0.steps + limit) where
  -- no step is left
  pub called-tried : left ≡ 0 → CalledWithin z (Creating [] [] opened) limit a b
  called-tried none = called-went tried.steps [] tried.are tried.make tried.went tried.held tried.stepped
      (inl (let stepped = tried.stepped in omega (arith, stepped, sum, none)))

-- each stack was found empty
pub called-empty : {S : Type 0} {z : Shape} {opened : ℕ} {a b : Me S View} → Tried z opened z.lanes a b → IsLawful z a.0
    → (the_lane a.0).lane < z.lanes → (left limit : ℕ) → b.0.steps + left ≡ a.0.steps + limit → CalledWithin z (Creating [] [] opened) limit a b
called-empty tried seen inside left limit sum =
    let collects = none-collects tried seen inside in
    let stepped = collects.stepped in
    called-went collects.steps collects.made collects.are collects.make collects.went collects.held stepped
    (at-end (length collects.steps) limit _ (omega (arith, stepped, sum)) collects.next)

-- a stack has places
module _ {S : Type 0} {z : Shape} {opened from found : ℕ} {a b c : Me S View} (tried : Tried z opened from a b) (takes : Takes z from b found c) (some : found ≢ 0) where
  taken : TakesSome z (the_lane a.0) found b c
  taken = taken-some tried takes some

  -- to the first of which its word leads
  pub first-taken : (place : ℕ) → place ≡ linked_place (the_lane a.0).lane found → (the_lane c.0).chain ≡ place ∷ rest_of (the_lane c.0).chain
  first-taken place is =
      let chain : (the_lane c.0).chain ≡ taken.0 = ap (λ (r : LaneRecord). r.chain) (record-after tried some taken) in
      subst (λ (places : List ℕ). places ≡ place ∷ rest_of places) (sym chain)
      (first-led z (the_lane a.0).lane found taken.0 taken.3 taken.2 ∙ ap (λ (p : ℕ). p ∷ rest_of taken.0) (sym is))

  pub taken-stepped : c.0.steps ≡ b.0.steps + 1
  taken-stepped = taken.5.steps

  module _ (isnt : from ≢ (the_lane a.0).lane) (below : from < z.lanes) where
    abbrev caller : Caller
    caller = caller_of z a.0

    abbrev call : Call
    call = Creating [] [] opened

    abbrev act : Act
    act = acts.Collect (the_lane a.0).lane taken.0

    abbrev front : List Step
    front = tried.steps ++ take_step (the_lane a.0).lane from found ∷ []

    abbrev place : ℕ
    place = linked_place (the_lane a.0).lane found

    front-are : AreSteps caller call [] front
    front-are = take-are tried (steps-some tried some taken) isnt below

    front-make : Make z caller call front (act ∷ [])
    front-make = take-make tried (steps-some tried some taken) (links_of taken.0) (some-leads tried some taken)

    front-went : Went z (act ∷ []) a.0 c.0
    front-went = take-went tried (steps-some tried some taken) refl refl refl refl

    front-stepped : c.0.steps ≡ a.0.steps + length front
    front-stepped = take-stepped tried (steps-some tried some taken)

    -- what comes after the TAKE, and after the FOLLOW
    behind : (more : List Step) → next_step caller call (tried.steps ++ take_step (the_lane a.0).lane from found ∷ more) ≡ follow_next (the_lane a.0).lane found more
    behind more = next-after tried found isnt more
        ∙ ap (λ (b : Bool). if b then take_next caller (next_lane (the_lane a.0).lane from) more else follow_next (the_lane a.0).lane found more) (ne_eqb found 0 some)

    follow-behind : {link limit : ℕ} {d : Me S View} → Follows z c link d → length front + 1 ≤ limit → CalledWithin z call limit a d
    follow-behind {link = link} {limit = limit} {d = d} follows few =
        let follow : Step = follow-step place link in
        let all = length-append front (follow ∷ []) in
        let first = front-stepped in
        let last = follows.1.steps in
        called-went (front ++ follow ∷ []) (act ∷ []) (steps-more caller call [] front (follow ∷ []) front-are (behind [], tt))
        (make-more z caller call front (follow ∷ []) (act ∷ []) [] front-make (follow-make follows caller call place)) (went-more front-went (follow-went follows))
        (follows.1.held ∙ (taken.5.held ∙ tried.held)) (omega (arith, all, first, last))
        (at-end (length (front ++ follow ∷ [])) limit _ (omega (arith, all, few))
        (ap (next_step caller call) (append_assoc tried.steps (take_step (the_lane a.0).lane from found ∷ []) (follow ∷ [])) ∙ behind (follow ∷ [])))

    -- the FOLLOW comes next, where a step is left
    pub called-taken : {left limit : ℕ} {d : Me S View} → c.0.steps + left ≡ a.0.steps + limit → FollowsWithin z left c d → CalledWithin z call limit a d
    called-taken {limit = limit} sum follows =
        let stepped = front-stepped in
        elim follows [
          | inl none ↦
              let zero = none.0 in
              subst (λ (last : Me S View). CalledWithin z call limit a last) (sym none.1)
              (called-went front (act ∷ []) front-are front-make front-went (taken.5.held ∙ tried.held) stepped (inl (omega (arith, stepped, sum, zero))))
          | inr told ↦ let more = told.1 in follow-behind told.2 (omega (arith, stepped, sum, more))
        ]
