-- A guest's clear whose steps are one operation.
use Rattle.std.proofs.Common.{◌≡◌, ◌≢◌, ℕ, ◌+◌, Bool, true, false, cond, eqb, List, [], ◌∷◌, ◌++◌, Option, Some, refl, sym, ap, ◌∙◌, subst}
use Rattle.atomic_table.specs.Table.{Me}
use Rattle.keybits.specs.declared.shape.Shape.{Shape}
use Rattle.keybits.specs.declared.step.Kind.{Kind}
use Rattle.keybits.specs.Shapes.{IsShape, is_place}
use Rattle.keybits.specs.Keys.{place_of, generation_of}
use Rattle.keybits.specs.Words.{state_in, generation_in}
use Rattle.keybits.proofs.KeyLemmas.{place_of-key_number, generation_of-key_number, generation_of-lt}
use Rattle.keybits.proofs.ShapeLemmas.{place_bounds}
use Rattle.seqpool.specs.declared.act.Act.{Act}
use Rattle.seqpool.specs.declared.act.Act.TheVariants as acts
use Rattle.steplaws.specs.Calls.{is_hit, owes_claim}
use Rattle.steplaws.specs.StepLaws.{reclaim}
use Rattle.steplaws.specs.declared.pending.Pending.{Pending}
use Rattle.steplaws.specs.declared.pending.Pending.TheVariants.{Nothing, Owes}
use Rattle.poolsteps.specs.AtOnce.{unreferred, MakesSweep, MakesStrike, MakesMiss}
use Rattle.poolsteps.specs.declared.view.LaneRecord.{LaneRecord}
use Rattle.poolsteps.specs.declared.view.View.{View}
use Rattle.poolsteps.specs.Told.{IsIdle, LifeSteps, Sees, claimed_under}
use Rattle.poolsteps.specs.ViewLaws.{references_made}
use Rattle.poolsteps.specs.Views.{head_record, the_lane, status_of, acts_in}
use Rattle.seatcalls.specs.Called.{Did}
use Rattle.seatcalls.specs.Visitors.{FitsGuest, HasNoReference, HasClaimedPlace}
use Rattle.seatcalls.proofs.parts.Doing.{did-more, did-step, did-sees, cell-next}
use Rattle.seatcalls.proofs.parts.Standing.{HasClaimed, has-claimed}
use Rattle.seatcalls.proofs.parts.SweptWords.{hit, won, present, referred-so, marks-present, owes-nothing}
use Rattle.seatcalls.proofs.parts.Visiting.{LeavesNone, still-bare, fits-unmoved, life-did, life-under, life-fits, claims-place}

-- what a guest without a reference did, which then fits still and has none
pub record Goes {S : Type 0} (z : Shape) (number place : ℕ) (made : List Act) (steps looks : ℕ) (a b : Me S View) : Type 0 where
  pub did : Did z place made steps looks a b
  pub fits : FitsGuest z b.0 number
  pub bare : HasNoReference z b.0

pub goes-more : {S : Type 0} {z : Shape} {number place s l t k : ℕ} {made more : List Act} {a b d : Me S View} → Goes z number place made s l a b → Goes z number place more t k b d
    → Goes z number place (made ++ more) (s + t) (l + k) a d
goes-more first second = record { did = did-more first.did second.did; fits = second.fits; bare = second.bare }

module _ {S : Type 0} {z : Shape} {number : ℕ} {a b : Me S View} (place : ℕ) (inside : is_place z place ≡ true) (fits : FitsGuest z a.0 number) (bare : HasNoReference z a.0) where
  -- a step of a lifecycle word
  pub goes-life : {kind : Kind} {found after : ℕ} {act : Option Act} {under : Pending} → LifeSteps z kind found after a b act under → LeavesNone z (acts_in act)
      → ((k n : ℕ) → references_made (acts_in act) k n ≡ n) → Goes z number place (acts_in act) 1 0 a b
  goes-life steps none same = record {
    did = life-did steps place;
    fits = life-fits steps place inside none fits;
    bare = still-bare fits.seat (life-did steps place).acted same bare;
  }

  -- a look
  pub goes-sees : Sees z a b → Goes z number place [] 0 1 a b
  goes-sees sees = let did = did-sees {place = place} sees in record {
    did = did;
    fits = fits-unmoved fits did (λ p. (refl, λ was. refl)) (λ n. ap (λ (lanes : List LaneRecord). status_of (head_record lanes) place n) sees.goes.lanes) inside;
    bare = still-bare fits.seat did.acted (λ k n. refl) bare;
  }

pub idle-sees : {S : Type 0} {z : Shape} {a b : Me S View} → Sees z a b → IsIdle a.0 → IsIdle b.0
idle-sees sees idle = ap (λ (lanes : List LaneRecord). (head_record lanes).under) sees.goes.lanes ∙ idle

none-owed : (place word : ℕ) → owes_claim word ≡ false → cond (owes_claim word) (Owes place (generation_in word)) Nothing ≡ Nothing
none-owed place word none = ap (λ (b : Bool). cond b (Owes place (generation_in word)) Nothing) none

module _ {S : Type 0} {z : Shape} {key number : ℕ} {a b : Me S View} (inside : is_place z (place_of key) ≡ true) (fits : FitsGuest z a.0 number) (bare : HasNoReference z a.0) where
  -- ---- a miss

  module _ (word : ℕ) (miss : is_hit key word ≡ false) (misses : MakesMiss z key word a b) where
    missed-lane : Goes z number (place_of key) (acts.Clear (the_lane a.0).lane key false ∷ []) 2 0 a b
    missed-lane =
        let enters = misses.1.1 miss in
        let first = goes-life (place_of key) inside fits bare enters (λ p. (refl, λ was. refl)) (λ k n. refl) in
        goes-more first (goes-life (place_of key) inside first.fits first.bare (misses.2.1 false (life-under enters)) (λ p. (refl, λ was. refl)) (λ k n. refl))

    pub missed-goes : Goes z number (place_of key) (acts.Clear number key false ∷ []) 2 0 a b
    missed-goes = subst (λ (n : ℕ). Goes z number (place_of key) (acts.Clear n key false ∷ []) 2 0 a b) (sym fits.seat.number_is) missed-lane

    pub missed-idle : owes_claim (word + 4) ≡ false → IsIdle b.0
    missed-idle none = life-under (misses.2.1 false (life-under (misses.1.1 miss))) ∙ none-owed (place_of key) (word + 4) none

  -- ---- a clear of a key that someone refers to

  module _ (word : ℕ) (hits : is_hit key word ≡ true) (strikes : MakesStrike z key word a b) where
    struck-lane : Goes z number (place_of key) (acts.Clear (the_lane strikes.0.0).lane key (eqb (state_in (word + 4)) 1) ∷ []) 3 0 a b
    struck-lane =
        let enters = strikes.1.0 hits in
        let first = goes-life (place_of key) inside fits bare enters (λ p. (refl, λ was. refl)) (λ k n. refl) in
        let marks = strikes.2.1 in
        let second = goes-more first (goes-life (place_of key) inside first.fits first.bare marks (λ p. (refl, λ was. refl)) (λ k n. refl)) in
        goes-more second (goes-life (place_of key) inside second.fits second.bare (strikes.2.2.1 true (life-under marks)) (λ p. (refl, λ was. refl)) (λ k n. refl))

    pub struck-goes : Goes z number (place_of key) (acts.Clear number key true ∷ []) 3 0 a b
    struck-goes =
        let lane : (the_lane strikes.0.0).lane ≡ number = (life-did (strikes.1.0 hits) (place_of key)).acted.lane ∙ sym fits.seat.number_is in
        subst (λ (n : ℕ). Goes z number (place_of key) (acts.Clear n key true ∷ []) 3 0 a b) lane
        (subst (λ (r : Bool). Goes z number (place_of key) (acts.Clear (the_lane strikes.0.0).lane key r ∷ []) 3 0 a b) (marks-present key word hits) struck-lane)

    pub struck-idle : word ≢ unreferred (generation_of key) → IsIdle b.0
    struck-idle other = life-under (strikes.2.2.1 true (life-under strikes.2.1))
        ∙ none-owed (place_of key) (word + 6) (owes-nothing key word hits (referred-so key word hits other))

  -- ---- a clear of a key that nobody refers to

  module _ (sweeps : MakesSweep z key a b) where
    abbrev left : Me S View
    left = sweeps.2.2.0

    swept-lane : Goes z number (place_of key) (acts.Clear (the_lane sweeps.0.0).lane key (eqb (state_in (unreferred (generation_of key) + 4)) 1) ∷ []) 3 0 a left
    swept-lane =
        let enters = sweeps.1.0 (hit key) in
        let first = goes-life (place_of key) inside fits bare enters (λ p. (refl, λ was. refl)) (λ k n. refl) in
        let marks = sweeps.2.1 in
        let second = goes-more first (goes-life (place_of key) inside first.fits first.bare marks (λ p. (refl, λ was. refl)) (λ k n. refl)) in
        goes-more second (goes-life (place_of key) inside second.fits second.bare (sweeps.2.2.1.1 true (life-under marks)) (λ p. (refl, λ was. refl)) (λ k n. refl))

    -- up to the claim
    pub swept-goes : Goes z number (place_of key) (acts.Clear number key true ∷ []) 3 0 a left
    swept-goes =
        let lane : (the_lane sweeps.0.0).lane ≡ number = (life-did (sweeps.1.0 (hit key)) (place_of key)).acted.lane ∙ sym fits.seat.number_is in
        subst (λ (n : ℕ). Goes z number (place_of key) (acts.Clear n key true ∷ []) 3 0 a left) lane
        (subst (λ (r : Bool). Goes z number (place_of key) (acts.Clear (the_lane sweeps.0.0).lane key r ∷ []) 3 0 a left) (present key) swept-lane)

    pub swept-claimed : HasClaimed z (place_of key) (generation_of key) left b
    swept-claimed = has-claimed sweeps.2.2.2 (won key)

    pub swept-claim : Did z (place_of key) (reclaim z number (place_of key) (generation_of key) ∷ []) 1 0 left b
    swept-claim =
        let told = sweeps.2.2.2.0 (won key) in
        let r : LaneRecord = the_lane left.0 in
        subst (λ (n : ℕ). Did z (place_of key) (reclaim z n (place_of key) (generation_of key) ∷ []) 1 0 left b) (sym swept-goes.fits.seat.number_is)
        (did-step told.4 (cell-next r (place_of key) (Some (reclaim z r.lane (place_of key) (generation_of key))) (claimed_under z r.lane (place_of key) (generation_of key)) told.0))

    -- it has the place
    pub swept-has : IsShape z → HasClaimedPlace z b.0 number (place_of key) (generation_of key)
    swept-has checked =
        let low = (place_bounds z checked (place_of key) inside).number in
        claims-place swept-goes.fits swept-goes.bare swept-claim (place_of-key_number z.tag (place_of key) (generation_of key) low)
        (generation_of-key_number z.tag (place_of key) (generation_of key) low (generation_of-lt key))
        (swept-claimed.under ∙ ap (λ (n : ℕ). claimed_under z n (place_of key) (generation_of key)) (sym swept-goes.fits.seat.number_is)) swept-claimed.place_has.0
