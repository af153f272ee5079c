-- What a lane may have of a place stays while others act.
use Rattle.std.proofs.Common.{◌≡◌, ◌≢◌, ⊎_elim, ℕ, true, false, eqb, List, [], ◌∷◌, ◌++◌, length, Some, None, refl, ap, sym, ◌∙◌, subst, arith, eq-eqb, ne_eqb}
use Rattle.std.proofs.lemmas.Bool.{cases_Bool}
use mathlib.Core.Logic.{dite}
use native.Mathlib.Decide.{ℕ_discrete}
use Rattle.keybits.specs.declared.shape.Shape.{Shape}
use Rattle.keybits.specs.Keys.{place_of}
use Rattle.seqpool.specs.declared.act.Act.{Act}
use Rattle.seqpool.specs.declared.act.Act.TheVariants as acts
use Rattle.seqpool.specs.Pool.{Phase, with, Spot, Pool, has, is_published, gained, lost, marked, lane_of, Allowed, touches, changed, after, fresh, pool_from, pool_after, LegalFrom}
use Rattle.seqpool.specs.Histories.{acts_of}
use Rattle.seqpool.proofs.Growth.{pool-append, legal-rest, after-here, after-else, others-first}
use Rattle.seqpool.proofs.Ranks.{all-home}
use Rattle.steplaws.proofs.Updates.{at-else}
use Rattle.poolsteps.specs.declared.view.Stored.{Stored}
use Rattle.poolsteps.specs.Shares.{reclaimer_after, reclaimers_after, reclaimer, room_after, rooms_after, room_of, MayHave, HasAll, IsKept}
use Rattle.poolsteps.specs.ShareLaws.{RightsLaw}
use Rattle.poolsteps.proofs.shares.Phases.{may-gained, may-lost, may-marked, none-marked, Alike, alike-same, alike-gained, alike-lost, alike-marked}
use Rattle.poolsteps.proofs.shares.Rooms.{reclaimers-append, rooms-append}

module _ (z : Shape) (lane number place : ℕ) where
  -- what a lane may have of the place in the first phase, it may have in the second
  pub record Keeps (last room : ℕ) (f : Phase) (last_now room_now : ℕ) (g : Phase) : Type 0 where
    pub may : MayHave last_now lane number g
    pub all : HasAll last lane f → HasAll last_now lane g
    pub rows : is_published g ≡ is_published f
    pub room_is : room_now ≡ room
    pub kept : (c : Stored) → IsKept c room f → IsKept c room_now g

  keeps-alike : (last room : ℕ) (f g : Phase) → Alike f g → MayHave last lane number g → Keeps last room f last room g
  keeps-alike last room f g alike may = record { may = may; all = alike.all_then last lane; rows = alike.rows; room_is = refl; kept = λ c. alike.kept c room }

  -- so it is of the place in these pools, with these reclaimers and rooms
  abbrev pub KeepsOf : Pool → (ℕ → ℕ) → (ℕ → ℕ) → Pool → (ℕ → ℕ) → (ℕ → ℕ) → Type 0
  KeepsOf pool reclaimers rooms pool_now reclaimers_now rooms_now =
      Keeps (reclaimers place) (rooms place) (pool place).phase (reclaimers_now place) (rooms_now place) (pool_now place).phase

  -- over an act of another lane
  module _ (pool : Pool) (reclaimers rooms : ℕ → ℕ) (may : MayHave (reclaimers place) lane number (pool place).phase) where
    abbrev now : Phase
    now = (pool place).phase

    abbrev KeepsOver : Act → ℕ → Type 0
    KeepsOver act r = KeepsOf pool reclaimers rooms (after z act pool) (reclaimer_after act reclaimers) (room_after act r rooms)

    -- from the place as it is now, to a phase, a lane that reclaimed it last and a room
    abbrev KeepsTo : ℕ → ℕ → Phase → Type 0
    KeepsTo last_now room_now g = Keeps (reclaimers place) (rooms place) now last_now room_now g

    to-alike : (g : Phase) → Alike now g → MayHave (reclaimers place) lane number g → KeepsTo (reclaimers place) (rooms place) g
    to-alike g alike may_now = keeps-alike (reclaimers place) (rooms place) now g alike may_now

    keeps-same : (last_now room_now : ℕ) (g : Phase) → last_now ≡ reclaimers place → room_now ≡ rooms place → g ≡ now → KeepsTo last_now room_now g
    keeps-same last_now room_now g lasts rooms_are is =
        subst (λ (l : ℕ). KeepsTo l room_now g) (sym lasts)
        (subst (λ (r : ℕ). KeepsTo (reclaimers place) r g) (sym rooms_are)
        (subst (KeepsTo (reclaimers place) (rooms place)) (sym is) (to-alike now (alike-same now) may)))

    -- an act of one place
    at-one : (act : Act) (r one : ℕ) → ((x : ℕ) → touches act x ≡ eqb x one)
        → (place ≢ one → (reclaimer_after act reclaimers place ≡ reclaimers place) × (room_after act r rooms place ≡ rooms place))
        → (place ≡ one → KeepsTo (reclaimer_after act reclaimers place) (room_after act r rooms place) (changed z.last_generation act (pool place)).phase)
        → KeepsOver act r
    at-one act r one of off here = dite (ℕ_discrete place one)
        (λ e. subst (λ (s : Spot). KeepsTo (reclaimer_after act reclaimers place) (room_after act r rooms place) s.phase)
        (sym (after-here z pool act place (of place ∙ eq-eqb place one e))) (here e))
        (λ n. keeps-same (reclaimer_after act reclaimers place) (room_after act r rooms place) (after z act pool place).phase (off n).0 (off n).1
        (ap (λ (s : Spot). s.phase) (after-else z pool act place (of place ∙ ne_eqb place one n))))

    -- the place isn't with another lane
    with-other : (l one : ℕ) → l ≢ lane → place ≡ one → (pool one).phase ≡ with l → ⊥
    with-other l one n here is = n (subst (λ (f : Phase). MayHave (reclaimers place) lane number f) (ap (λ (p : ℕ). (pool p).phase) here ∙ is) may)

    -- any act
    keeps-over : (act : Act) (r : ℕ) → Allowed z pool act → lane_of act ≢ lane → KeepsOver act r
    keeps-over (acts.Publish l key content with_ref) r ok other = at-one (acts.Publish l key content with_ref) r (place_of key) (λ x. refl)
        (λ n. (refl, at-else rooms (place_of key) r place n)) (λ here. absurd (with-other l (place_of key) other here ok.1))
    keeps-over (acts.Get l key None) r ok other = at-one (acts.Get l key None) r (place_of key) (λ x. refl) (λ n. (refl, refl))
        (λ here. to-alike now (alike-same now) may)
    keeps-over (acts.Get l key (Some content)) r ok other = at-one (acts.Get l key (Some content)) r (place_of key) (λ x. refl) (λ n. (refl, refl))
        (λ here. to-alike (gained l now) (alike-gained l now) (may-gained (reclaimers place) lane number l now may))
    keeps-over (acts.Release l key) r ok other = at-one (acts.Release l key) r (place_of key) (λ x. refl) (λ n. (refl, refl))
        (λ here. to-alike (lost l now) (alike-lost l now) (may-lost (reclaimers place) lane number l now (λ e. absurd (other (sym e))) may))
    keeps-over (acts.Clear l key true) r ok other = at-one (acts.Clear l key true) r (place_of key) (λ x. refl) (λ n. (refl, refl))
        (λ here. to-alike (marked now) (alike-marked now) (may-marked (reclaimers place) lane number now may))
    keeps-over (acts.Clear l key false) r ok other = at-one (acts.Clear l key false) r (place_of key) (λ x. refl) (λ n. (refl, refl))
        (λ here. to-alike now (alike-same now) may)
    keeps-over (acts.Reclaim l key) r ok other = at-one (acts.Reclaim l key) r (place_of key) (λ x. refl) (λ n. (at-else reclaimers (place_of key) l place n, refl))
        (λ here. absurd (none-marked (reclaimers place) lane number (pool (place_of key)).phase ok.1 (ok.2 lane)
        (subst (λ (p : ℕ). MayHave (reclaimers place) lane number (pool p).phase) here may)))
    keeps-over (acts.Home l one) r ok other = at-one (acts.Home l one) r one (λ x. refl) (λ n. (refl, refl)) (λ here. absurd (with-other l one other here ok.1))
    keeps-over (acts.Collect l places) r ok other = ⊎_elim
        (λ (is : has places place ≡ true).
        let bad : ⊥ = subst (λ (f : Phase). MayHave (reclaimers place) lane number f) (all-home z pool l places place ok.2 is) may in absurd bad)
        (λ (isnt : has places place ≡ false). keeps-same (reclaimers place) (rooms place) (after z (acts.Collect l places) pool place).phase refl refl
        (ap (λ (s : Spot). s.phase) (after-else z pool (acts.Collect l places) place isnt)))
        (cases_Bool (has places place))

  -- over acts of other lanes
  keeps-all : (pool : Pool) (reclaimers rooms : ℕ → ℕ) (more : List Act) (kept : List ℕ)
      → length kept ≡ length more → LegalFrom z pool more → acts_of lane more ≡ []
      → MayHave (reclaimers place) lane number (pool place).phase
      → KeepsOf pool reclaimers rooms (pool_from z pool more) (reclaimers_after reclaimers more) (rooms_after rooms more kept)
  keeps-all pool reclaimers rooms [] kept same legal none may =
      keeps-alike (reclaimers place) (rooms place) (pool place).phase (pool place).phase (alike-same (pool place).phase) may
  keeps-all pool reclaimers rooms (act ∷ more) [] same legal none may = absurd (omega arith)
  keeps-all pool reclaimers rooms (act ∷ more) (r ∷ kept) same legal none may =
      let other = others-first lane act more none in
      let one = keeps-over pool reclaimers rooms may act r legal.1 other.0 in
      let rest = keeps-all (after z act pool) (reclaimer_after act reclaimers) (room_after act r rooms) more kept (omega arith) legal.2 other.1 one.may in
      record {
        may = rest.may;
        all = λ a. rest.all (one.all a);
        rows = rest.rows ∙ one.rows;
        room_is = rest.room_is ∙ one.room_is;
        kept = λ c known. rest.kept c (one.kept c known);
      }

pub rights-law : RightsLaw
rights-law z history more kept kept_more lane place number same same_more legal none may =
    let pool : Pool = pool_after z history in
    let last : ℕ → ℕ = reclaimer history in
    let rooms : ℕ → ℕ = room_of history kept in
    let Now : Pool → (ℕ → ℕ) → (ℕ → ℕ) → Type 0 = KeepsOf z lane number place pool last rooms in
    let keeps : Now (pool_after z (history ++ more)) (reclaimer (history ++ more)) (room_of (history ++ more) (kept ++ kept_more)) =
    subst (λ (p : Pool). Now p (reclaimer (history ++ more)) (room_of (history ++ more) (kept ++ kept_more))) (sym (pool-append z fresh history more))
    (subst (λ (f : ℕ → ℕ). Now (pool_from z pool more) f (room_of (history ++ more) (kept ++ kept_more))) (sym (reclaimers-append (λ _. 0) history more))
    (subst (Now (pool_from z pool more) (reclaimers_after last more)) (sym (rooms-append (λ _. 0) history more kept kept_more same))
    (keeps-all z lane number place pool last rooms more kept_more same_more (legal-rest z fresh history more legal) none may))) in
    (keeps.may, keeps.all, keeps.rows, keeps.room_is, keeps.kept)
