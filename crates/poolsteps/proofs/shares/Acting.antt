-- Share, over the acts that move no share: a get, a release and a clear.
use Rattle.poolsteps.specs.Spot.{Spot as Standing}
use Rattle.keybits.specs.Shapes.{callers}
use Rattle.std.proofs.Common.{◌≡◌, ◌≢◌, ℕ, ◌<◌, Bool, true, false, cond, eqb, List, [], ◌∷◌, ◌++◌, length, Some, None, refl, sym, ◌∙◌, subst, arith, eq-eqb, ne_eqb}
use Rattle.keybits.specs.declared.shape.Shape.{Shape}
use Rattle.keybits.specs.Keys.{place_of}
use Rattle.seqpool.specs.declared.act.Act.{Act}
use Rattle.seqpool.specs.declared.act.Act.TheVariants as acts
use Rattle.seqpool.specs.Pool.{Phase, Spot, Pool, references_in, lost, is_current, touches, changed, after, pool_after}
use Rattle.seqpool.proofs.Growth.{after-here, after-else}
use Rattle.poolsteps.specs.declared.view.Stored.{Stored}
use Rattle.poolsteps.specs.declared.view.Status.{Status}
use Rattle.poolsteps.specs.declared.view.Status.TheVariants.{Untouched}
use Rattle.poolsteps.specs.Shares.{reclaimer_after, reclaimer, room_after, room_of, MayHave, Slots, Stock, StandsAs, Shared}
use Rattle.poolsteps.specs.ShareLaws.{ActsShareLaw}
use Rattle.poolsteps.proofs.shares.Phases.{may-gained, may-lost, may-marked, may-own, Alike, alike-same, alike-gained, alike-lost, alike-marked}
use Rattle.poolsteps.proofs.shares.Cases.{each-number}
use Rattle.poolsteps.proofs.shares.PlaceShares.{SharedAt, SharedOf, shared-each, shared-behind}

-- each lane that touched the share of a number may still have it
abbrev pub StillMay : Shape → ℕ → (ℕ → ℕ → Status) → Phase → Phase → Type 0
StillMay z last status f g = (l number : ℕ) → l < (callers z) → number < (callers z) → status l number ≢ Untouched → MayHave last l number f → MayHave last l number g

-- so it is where a lane gives back a reference, and its last one only where it left its own slot alone
release-may : (z : Shape) (last lane : ℕ) (status : ℕ → ℕ → Status) (f : Phase) → 0 < references_in f lane
    → (status lane lane ≢ Untouched → 1 < references_in f lane) → StillMay z last status f (lost lane f)
release-may z last lane status f some back l number less below n may = may-lost last l number lane f
    (λ e. let own : number ≡ lane = may-own last lane number f some (subst (λ (m : ℕ). MayHave last m number f) e may) in
    back (subst (λ (k : ℕ). status lane k ≢ Untouched) own (subst (λ (m : ℕ). status m number ≢ Untouched) e n))) may

module _ {T : Type 0} (content : T → List ℕ) (room : T → ℕ) (spots : ℕ → Standing) (z : Shape) (slots : Slots T) where
  -- a place whose references and mark alone change
  alike-keeps : (place last room_kept : ℕ) (status : ℕ → ℕ → Status) (stored : Stored) (knows : ℕ → Stored) (f g : Phase) → Alike f g → StillMay z last status f g
      → SharedAt content room spots z slots place f last room_kept status stored knows → SharedAt content room spots z slots place g last room_kept status stored knows
  alike-keeps place last room_kept status stored knows f g alike may s = record {
    untouched = λ number inside below none. subst (StandsAs content room spots z slots place number stored) (sym alike.homes) (s.untouched number inside below none);
    emptied = s.emptied;
    whole = s.whole;
    touched = λ l number less below n. let old = s.touched l number less below n in (may l number less below n old.0, old.1);
    owned = λ l less a. s.owned l less (alike.all_from last l a);
    contents = alike.kept stored room_kept s.contents;
  }

  module _ (history : List Act) (kept : List ℕ) (q : Stock) (same : length kept ≡ length history) (s : Shared content room spots z history kept slots q) where
    abbrev pool : Pool
    pool = pool_after z history

    -- an act of one place, whose references and mark alone it changes
    quiet-keeps : (act : Act) (one : ℕ) → ((x : ℕ) → touches act x ≡ eqb x one)
        → reclaimer_after act (reclaimer history) ≡ reclaimer history → room_after act 0 (room_of history kept) ≡ room_of history kept
        → Alike (pool one).phase (changed z.last_generation act (pool one)).phase
        → StillMay z (reclaimer history one) (λ l number. q.status l one number) (pool one).phase (changed z.last_generation act (pool one)).phase
        → Shared content room spots z (history ++ act ∷ []) (kept ++ 0 ∷ []) slots q
    quiet-keeps act one of reclaimers rooms alike may =
        let each = shared-each content room spots z slots history kept q s in
        let last : ℕ → ℕ = reclaimer history in
        let rooms_then : ℕ → ℕ = room_of history kept in
        let AsSpot : ℕ → Spot → Type 0 = λ p t.
        SharedAt content room spots z slots p t.phase (last p) (rooms_then p) (λ l number. q.status l p number) (q.stored p) (λ l. q.knows l p) in
        let here = alike-keeps one (last one) (rooms_then one) (λ l number. q.status l one number) (q.stored one) (λ l. q.knows l one)
        (pool one).phase (changed z.last_generation act (pool one)).phase alike may (each one) in
        shared-behind content room spots z slots history kept act 0 q same (λ place.
        subst (λ (f : ℕ → ℕ). SharedOf content room spots z slots (after z act pool) f (room_after act 0 rooms_then) q place) (sym reclaimers)
        (subst (λ (f : ℕ → ℕ). SharedOf content room spots z slots (after z act pool) last f q place) (sym rooms)
        (each-number {P = SharedOf content room spots z slots (after z act pool) last rooms_then q} one
        (subst (AsSpot one) (sym (after-here z pool act one (of one ∙ eq-eqb one one refl))) here)
        (λ p n. subst (AsSpot p) (sym (after-else z pool act p (of p ∙ ne_eqb p one n))) (each p)) place)))

-- a count that is none where this doesn't hold
counted-some : (b : Bool) (n : ℕ) → 0 < cond b n 0 → 0 < n
counted-some true n some = some
counted-some false n some = absurd (omega arith)

pub acts-share-law : {T : Type 0} (content : T → List ℕ) (room : T → ℕ) (spots : ℕ → Standing) → ActsShareLaw content room spots
acts-share-law content room spots z history kept slots q (acts.Publish lane key text with_ref) same legal s less ok quiet = absurd quiet
acts-share-law content room spots z history kept slots q (acts.Get lane key None) same legal s less ok quiet =
    quiet-keeps content room spots z slots history kept q same s (acts.Get lane key None) (place_of key) (λ x. refl) refl refl
    (alike-same (pool_after z history (place_of key)).phase) (λ l number b u n may. may)
acts-share-law content room spots z history kept slots q (acts.Get lane key (Some text)) same legal s less ok quiet =
    let f : Phase = (pool_after z history (place_of key)).phase in
    quiet-keeps content room spots z slots history kept q same s (acts.Get lane key (Some text)) (place_of key) (λ x. refl) refl refl
    (alike-gained lane f) (λ l number b u n may. may-gained (reclaimer history (place_of key)) l number lane f may)
acts-share-law content room spots z history kept slots q (acts.Release lane key) same legal s less ok quiet =
    let f : Phase = (pool_after z history (place_of key)).phase in
    let some = counted-some (is_current z (pool_after z history) key) (references_in f lane) ok in
    quiet-keeps content room spots z slots history kept q same s (acts.Release lane key) (place_of key) (λ x. refl) refl refl
    (alike-lost lane f) (release-may z (reclaimer history (place_of key)) lane (λ l number. q.status l (place_of key) number) f some quiet)
acts-share-law content room spots z history kept slots q (acts.Clear lane key true) same legal s less ok quiet =
    let f : Phase = (pool_after z history (place_of key)).phase in
    quiet-keeps content room spots z slots history kept q same s (acts.Clear lane key true) (place_of key) (λ x. refl) refl refl
    (alike-marked f) (λ l number b u n may. may-marked (reclaimer history (place_of key)) l number f may)
acts-share-law content room spots z history kept slots q (acts.Clear lane key false) same legal s less ok quiet =
    quiet-keeps content room spots z slots history kept q same s (acts.Clear lane key false) (place_of key) (λ x. refl) refl refl
    (alike-same (pool_after z history (place_of key)).phase) (λ l number b u n may. may)
acts-share-law content room spots z history kept slots q (acts.Reclaim lane key) same legal s less ok quiet = absurd quiet
acts-share-law content room spots z history kept slots q (acts.Home lane place) same legal s less ok quiet = absurd quiet
acts-share-law content room spots z history kept slots q (acts.Collect lane places) same legal s less ok quiet = absurd quiet
