-- What is common to all that a lane does, of its calls, its steps and its moves; and what that leaves of its references.
use Rattle.std.proofs.Common.{◌≡◌, ◌≢◌, ⊎_elim, ℕ, ◌+◌, ◌-◌, Bool, true, false, cond, ◌==◌, List, [], ◌∷◌, ◌++◌, length, Option, Some, None, refl, sym, ap, ◌∙◌, subst, arith, ne_eqb, append-nil}
use Rattle.std.specs.List.{All}
use Rattle.std.proofs.lemmas.Bool.{cases_Bool, eqb-false}
use Rattle.std.proofs.lemmas.List.Elements.{All-nil, All-cons, All-head, All-tail, All-append, All-weaker}
use mathlib.Core.Logic.{dite}
use native.Mathlib.Decide.{ℕ_discrete}
use Rattle.atomic_table.specs.Table.{Me}
use Rattle.poolsteps.specs.Share.{Share}
use Rattle.poolsteps.specs.Spot.{Spot as CellSpot}
use Rattle.keybits.specs.declared.shape.Shape.{Shape}
use Rattle.keybits.specs.Keys.{key_number, place_of}
use Rattle.keybits.specs.Shapes.{IsShape, is_place}
use Rattle.keybits.proofs.KeyLemmas.{place_of-key_number}
use Rattle.keybits.proofs.ShapeLemmas.{place_bounds}
use Rattle.seqpool.specs.declared.act.Act.{Act}
use Rattle.seqpool.specs.declared.act.Act.TheVariants as acts
use Rattle.seqpool.specs.Pool.{touches}
use Rattle.seqpool.specs.Histories.{acts_of}
use Rattle.poolsteps.specs.declared.view.Status.{Status}
use Rattle.steplaws.specs.StepLaws.{reclaim}
use Rattle.poolsteps.specs.PlaceLaws.{gives_away}
use Rattle.poolsteps.specs.declared.view.LaneRecord.{LaneRecord}
use Rattle.poolsteps.specs.declared.view.View.{View}
use Rattle.poolsteps.specs.Views.{head_record, the_lane, status_of, known_of}
use Rattle.poolsteps.specs.Told.{GoesOn, Sees, references_seen}
use Rattle.poolsteps.specs.Moved.{Outs, Backs}
use Rattle.poolsteps.specs.ViewLaws.{references_with, references_made}
use Rattle.poolsteps.proofs.Holding.{acts-law}
use Rattle.seatcalls.specs.Acted.{Acted}
use Rattle.seatcalls.specs.Carried.{Carries}
use Rattle.seatcalls.proofs.parts.Going.{acted-goes, acted-more, all-acts}
use Rattle.seatcalls.proofs.parts.Moves.{carries-out, carries-back}
use Rattle.seatcalls.specs.declared.at.Reclaimed.{Reclaimed}
use Rattle.seatcalls.specs.declared.at.Reclaimed.TheVariants.{Own, Returned, Retired}
use Rattle.seatcalls.specs.Called.{IsUnmoved, Did, end_acts}
use Rattle.seatcalls.proofs.parts.Doing.{did-carries}
use Rattle.seatcalls.proofs.parts.Frames.{Passes, OnlyAt}

-- ---- from what the lane did to what is common

-- the lane goes on with acts of its own, and its record has changed no more than this
pub passes-goes : {z : Shape} {at : ℕ → Bool} {v w : View} {made : List Act} {rooms : List ℕ} {r : LaneRecord} → GoesOn z v w made rooms r → length rooms ≡ length made
    → r.lane ≡ (the_lane v).lane → r.mine ≡ (the_lane v).mine ++ made
    → ((p number : ℕ) → at p ≡ false → status_of r p number ≡ status_of (the_lane v) p number)
    → ((p : ℕ) → at p ≡ false → known_of r p ≡ known_of (the_lane v) p) → Passes z at made v w
passes-goes {w = w} {r = r} goes even lane mine deeds cells =
    let now : the_lane w ≡ r = ap head_record goes.lanes in record {
      acted = acted-goes goes even lane mine;
      deeds = λ p number off. ap (λ (x : LaneRecord). status_of x p number) now ∙ deeds p number off;
      cells = λ p off. ap (λ (x : LaneRecord). known_of x p) now ∙ cells p off;
    }

-- a look that moves nothing
pub passes-sees : {S : Type 0} {z : Shape} {a b : Me S View} → Sees z a b → Passes z (λ p. false) [] a.0 b.0
passes-sees {a = a} sees = passes-goes sees.goes refl refl (sym (append-nil (the_lane a.0).mine)) (λ p number off. refl) (λ p off. refl)

-- calls and parts of calls at a place
pub passes-did : {S : Type 0} {z : Shape} {place steps looks : ℕ} {made : List Act} {a b : Me S View} → Did z place made steps looks a b
    → Passes z (λ p. p == place) made a.0 b.0
passes-did {place = place} did = record {
  acted = did.acted;
  deeds = λ p number off. did.deeds p number (eqb-false p place off);
  cells = λ p off. did.cells p (eqb-false p place off);
}

-- and those that moved nothing there
pub passes-still : {S : Type 0} {z : Shape} {place steps looks : ℕ} {made : List Act} {a b : Me S View} → Did z place made steps looks a b
    → IsUnmoved place (the_lane a.0) (the_lane b.0) → Passes z (λ p. false) made a.0 b.0
passes-still {place = place} {a = a} {b = b} did still = record {
  acted = did.acted;
  deeds = λ p number off. dite (ℕ_discrete p place)
      (λ here. subst (λ (x : ℕ). status_of (the_lane b.0) x number ≡ status_of (the_lane a.0) x number) (sym here) (still.deeds number))
      (λ other. did.deeds p number other);
  cells = λ p off. dite (ℕ_discrete p place)
      (λ here. subst (λ (x : ℕ). known_of (the_lane b.0) x ≡ known_of (the_lane a.0) x) (sym here) still.cell)
      (λ other. did.cells p other);
}

-- moves of the place's shares
pub passes-carries : {S : Type 0} {z : Shape} {place n : ℕ} {a b : Me S View} → Carries z place n a b → Passes z (λ p. p == place) [] a.0 b.0
passes-carries {n = n} carries = passes-did (did-carries {looks = n} carries (omega arith))

module _ {T : Type 0} {content : T → List ℕ} {room : T → ℕ} {spots : ℕ → CellSpot} {z : Shape} {place number : ℕ} {status : Status} {share : Share T} {a b : Me (Option (Share T)) View} where
  pub passes-outs : Outs content room spots z place number status a share b → Passes z (λ p. p == place) [] a.0 b.0
  passes-outs outs = passes-carries (carries-out outs)

  pub passes-backs : Backs content room spots z place number status a share b → Passes z (λ p. p == place) [] a.0 b.0
  passes-backs backs = passes-carries (carries-back backs)

-- ---- more places, and one after another

-- the lane may have touched more places
pub passes-wider : {z : Shape} {at more : ℕ → Bool} {made : List Act} {v w : View} → ((p : ℕ) → at p ≡ true → more p ≡ true)
    → Passes z at made v w → Passes z more made v w
passes-wider {at = at} {more = more} wider passes =
    let off : (p : ℕ) → more p ≡ false → at p ≡ false = λ p none. ⊎_elim
    (λ (is : at p ≡ true). let bad : true ≡ false = sym (wider p is) ∙ none in absurd (cc bad))
    (λ (isnt : at p ≡ false). isnt) (cases_Bool (at p)) in record {
      acted = passes.acted;
      deeds = λ p number none. passes.deeds p number (off p none);
      cells = λ p none. passes.cells p (off p none);
    }

-- what it does next is between the first view and the last
pub passes-more : {z : Shape} {at : ℕ → Bool} {made more : List Act} {v w u : View} → Passes z at made v w → Passes z at more w u → Passes z at (made ++ more) v u
passes-more first second = record {
  acted = acted-more first.acted second.acted;
  deeds = λ p number off. second.deeds p number off ∙ first.deeds p number off;
  cells = λ p off. second.cells p off ∙ first.cells p off;
}

-- ---- references

-- the lane has the references that its acts leave it
pub acted-refs : {z : Shape} {made : List Act} {v w : View} → Acted z made v w → (the_lane v).mine ≡ acts_of (the_lane v).lane v.seen
    → (key : ℕ) → references_seen z w key ≡ references_made made key (references_seen z v key)
acted-refs {z = z} {made = made} {v = v} {w = w} acted own key = acts-law z v w made acted.seen acted.legal acted.lane (all-acts acted own) key

pub passes-refs : {z : Shape} {at : ℕ → Bool} {made : List Act} {v w : View} → Passes z at made v w → (the_lane v).mine ≡ acts_of (the_lane v).lane v.seen
    → (key : ℕ) → references_seen z w key ≡ references_made made key (references_seen z v key)
passes-refs passes = acted-refs passes.acted

-- keys of two places are two
other-key : (k key : ℕ) → place_of key == place_of k ≡ false → k == key ≡ false
other-key k key off = ne_eqb k key (λ same. eqb-false (place_of key) (place_of k) off (ap place_of (sym same)))

-- an act of another place changes no reference to the key
act-elsewhere : (act : Act) (key n : ℕ) → touches act (place_of key) ≡ false → references_with act key n ≡ n
act-elsewhere (acts.Publish lane k content with_ref) key n off = ap (λ (b : Bool). cond b (cond with_ref 1 0) n) (other-key k key off)
act-elsewhere (acts.Get lane k None) key n off = refl
act-elsewhere (acts.Get lane k (Some content)) key n off = ap (λ (b : Bool). cond b (n + 1) n) (other-key k key off)
act-elsewhere (acts.Release lane k) key n off = ap (λ (b : Bool). cond b (n - 1) n) (other-key k key off)
act-elsewhere (acts.Clear lane k reply) key n off = refl
act-elsewhere (acts.Reclaim lane k) key n off = refl
act-elsewhere (acts.Home lane place) key n off = refl
act-elsewhere (acts.Collect lane places) key n off = refl

-- acts of a place change no reference to a key of another one
pub refs-elsewhere : (place key : ℕ) (made : List Act) → OnlyAt place made → place_of key ≢ place → (n : ℕ) → references_made made key n ≡ n
refs-elsewhere place key [] only other n = refl
refs-elsewhere place key (act ∷ made) only other n =
    let here = All-head (λ a. (p : ℕ) → p ≢ place → touches a p ≡ false) act made only in
    let rest = All-tail (λ a. (p : ℕ) → p ≢ place → touches a p ≡ false) act made only in
    ap (references_made made key) (act-elsewhere act key n (here (place_of key) other)) ∙ refs-elsewhere place key made rest other n

-- ---- acts of one place

-- an act gives no place away that it isn't of
act-away : (act : Act) (p : ℕ) → touches act p ≡ false → gives_away act p ≡ false
act-away (acts.Publish lane key content with_ref) p off = off
act-away (acts.Get lane key reply) p off = refl
act-away (acts.Release lane key) p off = refl
act-away (acts.Clear lane key reply) p off = refl
act-away (acts.Reclaim lane key) p off = refl
act-away (acts.Home lane at) p off = off
act-away (acts.Collect lane places) p off = refl

-- acts of one place give no other away
pub away-elsewhere : (place p : ℕ) (made : List Act) → OnlyAt place made → p ≢ place → All (λ act. gives_away act p ≡ false) made
away-elsewhere place p made only other =
    All-weaker (λ act. (q : ℕ) → q ≢ place → touches act q ≡ false) (λ act. gives_away act p ≡ false) (λ act off. act-away act p (off p other)) made only

module _ (place : ℕ) where
  abbrev Off : Act → Type 0
  Off act = (p : ℕ) → p ≢ place → touches act p ≡ false

  pub onlyat-none : OnlyAt place []
  onlyat-none = All-nil Off

  pub onlyat-append : (made more : List Act) → OnlyAt place made → OnlyAt place more → OnlyAt place (made ++ more)
  onlyat-append made more first second = All-append Off made more first second

  one-at : (act : Act) → Off act → OnlyAt place (act ∷ [])
  one-at act off = All-cons Off act [] off onlyat-none

  pub onlyat-home : (lane : ℕ) → OnlyAt place (acts.Home lane place ∷ [])
  onlyat-home lane = one-at (acts.Home lane place) (λ p other. ne_eqb p place other)

module _ (lane key : ℕ) where
  pub onlyat-publish : (content : List ℕ) (with_ref : Bool) → OnlyAt (place_of key) (acts.Publish lane key content with_ref ∷ [])
  onlyat-publish content with_ref = one-at (place_of key) (acts.Publish lane key content with_ref) (λ p other. ne_eqb p (place_of key) other)

  pub onlyat-get : (reply : Option (List ℕ)) → OnlyAt (place_of key) (acts.Get lane key reply ∷ [])
  onlyat-get reply = one-at (place_of key) (acts.Get lane key reply) (λ p other. ne_eqb p (place_of key) other)

  pub onlyat-release : OnlyAt (place_of key) (acts.Release lane key ∷ [])
  onlyat-release = one-at (place_of key) (acts.Release lane key) (λ p other. ne_eqb p (place_of key) other)

  pub onlyat-clear : (reply : Bool) → OnlyAt (place_of key) (acts.Clear lane key reply ∷ [])
  onlyat-clear reply = one-at (place_of key) (acts.Clear lane key reply) (λ p other. ne_eqb p (place_of key) other)

  pub onlyat-reclaim : OnlyAt (place_of key) (acts.Reclaim lane key ∷ [])
  onlyat-reclaim = one-at (place_of key) (acts.Reclaim lane key) (λ p other. ne_eqb p (place_of key) other)

module _ (z : Shape) (lane place generation : ℕ) where
  reclaims-at : (p : ℕ) → place_of (key_number z.tag place generation) ≡ p → OnlyAt p (reclaim z lane place generation ∷ [])
  reclaims-at p same = subst (λ (q : ℕ). OnlyAt q (reclaim z lane place generation ∷ [])) same (onlyat-reclaim lane (key_number z.tag place generation))

  all-at : {T : Type 0} (reclaimed : Option (Reclaimed T)) → OnlyAt place (reclaim z lane place generation ∷ []) → OnlyAt place (end_acts z lane place generation reclaimed)
  all-at None claim = onlyat-none place
  all-at (Some (Own whole)) claim = claim
  all-at (Some Returned) claim = onlyat-append place (reclaim z lane place generation ∷ []) (acts.Home lane place ∷ []) claim (onlyat-home place lane)
  all-at (Some Retired) claim = claim

  -- the acts by which a place was reclaimed
  pub onlyat-end : {T : Type 0} (reclaimed : Option (Reclaimed T)) → IsShape z → is_place z place ≡ true → OnlyAt place (end_acts z lane place generation reclaimed)
  onlyat-end reclaimed shape inside = all-at reclaimed (reclaims-at place (place_of-key_number z.tag place generation (place_bounds z shape place inside).number))
