-- A place that is with a lane stays as it is until the lane gives it away.
use Rattle.std.proofs.Common.{◌≡◌, ◌≢◌, ⊎_elim, ℕ, Bool, true, false, cond, eqb, List, [], ◌∷◌, length, Some, None, refl, ap, sym, ◌∙◌, arith, eq-eqb, ne_eqb, eqb-true}
use Rattle.std.specs.List.{All}
use Rattle.std.proofs.lemmas.Bool.{cases_Bool}
use Rattle.std.proofs.lemmas.List.Elements.{All-nil, All-cons, All-head, All-tail}
use mathlib.Core.Logic.{dite}
use native.Mathlib.Decide.{ℕ_discrete}
use Rattle.keybits.specs.declared.shape.Shape.{Shape}
use Rattle.keybits.specs.Keys.{place_of}
use Rattle.seqpool.specs.declared.act.Act.{Act}
use Rattle.seqpool.specs.declared.act.Act.TheVariants as acts
use Rattle.seqpool.specs.Pool.{Phase, with, Spot, spot, Pool, has, is_marked, gained, lost, marked, lane_of, Allowed, touches, changed, after, fresh, pool_from, pool_after, LegalFrom}
use Rattle.seqpool.specs.Histories.{acts_of}
use Rattle.seqpool.proofs.Growth.{pool-append, legal-rest, after-here, after-else}
use Rattle.seqpool.proofs.Ranks.{all-home}
use Rattle.steplaws.proofs.Updates.{at-else}
use Rattle.steplaws.proofs.HomePlaces.{with-one, with-home}
use Rattle.poolsteps.specs.Shares.{room_after, rooms_after, room_of}
use Rattle.poolsteps.proofs.shares.Rooms.{rooms-append}
use Rattle.poolsteps.specs.PlaceLaws.{gives_away, brings, WithLaw}

-- what holds of all acts of a lane holds of the first one, if that is the lane's, and of the rest
all-first : (P : Act → Type 0) (mine : Bool) (act : Act) (rest : List Act) → All P (cond mine (act ∷ rest) rest) → (mine ≡ true → P act) × All P rest
all-first P true act rest all = (λ is. All-head P act rest all, All-tail P act rest all)
all-first P false act rest all = (λ is. absurd (cc is), all)

first-all : (P : Act → Type 0) (mine : Bool) (act : Act) (rest : List Act) → (mine ≡ true → P act) → All P rest → All P (cond mine (act ∷ rest) rest)
first-all P true act rest first all = All-cons P act rest (first refl) all
first-all P false act rest first all = all

-- references and the mark change nothing at a place that is with a lane
same-phase : (s : Spot) (lane : ℕ) (f : Phase → Phase) → f (with lane) ≡ with lane → s.phase ≡ with lane → spot s.generation (f s.phase) ≡ s
same-phase s lane f keeps is = ap (spot s.generation) (ap f is ∙ (keeps ∙ sym is))

marked-away : (f : Phase) (lane : ℕ) → f ≡ with lane → is_marked f ≡ true → ⊥
marked-away f lane is marks = let bad : false ≡ true = sym (ap is_marked is) ∙ marks in cc bad

module _ (z : Shape) (lane place : ℕ) where
  -- the place and its room are as they were, and the act doesn't bring it to the lane
  pub record Keeps (pool : Pool) (rooms : ℕ → ℕ) (act : Act) (room : ℕ) : Type 0 where
    pub spot_is : after z act pool place ≡ pool place
    pub room_is : room_after act room rooms place ≡ rooms place
    pub brings_not : lane_of act ≡ lane → brings act place ≡ false

  -- over an act that the lane doesn't make to give the place away
  module _ (pool : Pool) (rooms : ℕ → ℕ) (is : (pool place).phase ≡ with lane) where
    -- an act of one place
    at-one : (act : Act) (room one : ℕ) → ((x : ℕ) → touches act x ≡ eqb x one)
        → (place ≡ one → changed z.last_generation act (pool place) ≡ pool place)
        → room_after act room rooms place ≡ rooms place → (lane_of act ≡ lane → brings act place ≡ false) → Keeps pool rooms act room
    at-one act room one of here room_same none = record {
      spot_is = dite (ℕ_discrete place one)
          (λ e. after-here z pool act place (of place ∙ eq-eqb place one e) ∙ here e)
          (λ n. after-else z pool act place (of place ∙ ne_eqb place one n));
      room_is = room_same;
      brings_not = none;
    }

    -- where another place is with the lane that acts, or this one is with this lane, that is no act of this place
    apart : (l one : ℕ) → (pool one).phase ≡ with l → (l ≡ lane → eqb place one ≡ false) → place ≢ one
    apart l one there kept here =
        let mine : l ≡ lane = with-one l lane (sym there ∙ (ap (λ (p : ℕ). (pool p).phase) (sym here) ∙ is)) in
        let bad : true ≡ false = sym (eq-eqb place one here) ∙ kept mine in cc bad

    keeps : (act : Act) (room : ℕ) → Allowed z pool act → (lane_of act ≡ lane → gives_away act place ≡ false) → Keeps pool rooms act room
    keeps (acts.Publish l key content with_ref) room ok kept =
        let n : place ≢ place_of key = apart l (place_of key) ok.1 kept in
        at-one (acts.Publish l key content with_ref) room (place_of key) (λ x. refl) (λ here. absurd (n here)) (at-else rooms (place_of key) room place n) (λ mine. refl)
    keeps (acts.Get l key None) room ok kept = at-one (acts.Get l key None) room (place_of key) (λ x. refl) (λ here. refl) refl (λ mine. refl)
    keeps (acts.Get l key (Some content)) room ok kept =
        at-one (acts.Get l key (Some content)) room (place_of key) (λ x. refl) (λ here. same-phase (pool place) lane (gained l) refl is) refl (λ mine. refl)
    keeps (acts.Release l key) room ok kept =
        at-one (acts.Release l key) room (place_of key) (λ x. refl) (λ here. same-phase (pool place) lane (lost l) refl is) refl (λ mine. refl)
    keeps (acts.Clear l key true) room ok kept =
        at-one (acts.Clear l key true) room (place_of key) (λ x. refl) (λ here. same-phase (pool place) lane marked refl is) refl (λ mine. refl)
    keeps (acts.Clear l key false) room ok kept = at-one (acts.Clear l key false) room (place_of key) (λ x. refl) (λ here. refl) refl (λ mine. refl)
    keeps (acts.Reclaim l key) room ok kept =
        let n : place ≢ place_of key = λ here. marked-away (pool (place_of key)).phase lane (ap (λ (p : ℕ). (pool p).phase) (sym here) ∙ is) ok.1 in
        at-one (acts.Reclaim l key) room (place_of key) (λ x. refl) (λ here. absurd (n here)) refl (λ mine. ne_eqb place (place_of key) n)
    keeps (acts.Home l one) room ok kept =
        let n : place ≢ one = apart l one ok.1 kept in
        at-one (acts.Home l one) room one (λ x. refl) (λ here. absurd (n here)) refl (λ mine. refl)
    keeps (acts.Collect l places) room ok kept = ⊎_elim
        (λ (in_it : has places place ≡ true). absurd (with-home (pool place).phase lane is (all-home z pool l places place ok.2 in_it)))
        (λ (isnt : has places place ≡ false).
        record { spot_is = after-else z pool (acts.Collect l places) place isnt; room_is = refl; brings_not = λ mine. isnt })
        (cases_Bool (has places place))

  -- over acts among which the lane doesn't give the place away
  pub record KeepsAll (pool : Pool) (rooms : ℕ → ℕ) (more : List Act) (kept : List ℕ) : Type 0 where
    pub spot_is : pool_from z pool more place ≡ pool place
    pub room_is : rooms_after rooms more kept place ≡ rooms place
    pub brings_not : All (λ act. brings act place ≡ false) (acts_of lane more)

  keeps-all : (pool : Pool) (rooms : ℕ → ℕ) (more : List Act) (kept : List ℕ) → length kept ≡ length more → LegalFrom z pool more
      → (pool place).phase ≡ with lane → All (λ act. gives_away act place ≡ false) (acts_of lane more) → KeepsAll pool rooms more kept
  keeps-all pool rooms [] kept same legal is all = record { spot_is = refl; room_is = refl; brings_not = All-nil (λ act. brings act place ≡ false) }
  keeps-all pool rooms (act ∷ more) [] same legal is all = absurd (omega arith)
  keeps-all pool rooms (act ∷ more) (room ∷ kept) same legal is all =
      let parts = all-first (λ a. gives_away a place ≡ false) (eqb (lane_of act) lane) act (acts_of lane more) all in
      let one = keeps pool rooms is act room legal.1 (λ mine. parts.0 (eq-eqb (lane_of act) lane mine)) in
      let rest = keeps-all (after z act pool) (room_after act room rooms) more kept (omega arith) legal.2 (ap (λ (s : Spot). s.phase) one.spot_is ∙ is) parts.1 in
      record {
        spot_is = rest.spot_is ∙ one.spot_is;
        room_is = rest.room_is ∙ one.room_is;
        brings_not = first-all (λ a. brings a place ≡ false) (eqb (lane_of act) lane) act (acts_of lane more)
            (λ mine. one.brings_not (eqb-true (lane_of act) lane mine)) rest.brings_not;
      }

pub with-law : WithLaw
with-law z history more kept kept_more lane place same same_more legal is all =
    let keep = keeps-all z lane place (pool_after z history) (room_of history kept) more kept_more same_more (legal-rest z fresh history more legal) is all in (
      ap (λ (p : Pool). p place) (pool-append z fresh history more) ∙ keep.spot_is,
      ap (λ (f : ℕ → ℕ). f place) (rooms-append (λ _. 0) history more kept kept_more same) ∙ keep.room_is,
      keep.brings_not,
    )
