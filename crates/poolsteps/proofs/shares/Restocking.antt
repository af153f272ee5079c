-- Share, over an act at one place that has a cell then, which the lane knows.
use Rattle.poolsteps.specs.Spot.{Spot as Standing}
use Rattle.std.proofs.Common.{◌≡◌, ◌≢◌, ℕ, Bool, true, false, cond, eqb, ◌&&◌, List, [], ◌∷◌, ◌++◌, length, refl, ap, sym, ◌∙◌, subst, eq-eqb, ne_eqb}
use Rattle.keybits.specs.declared.shape.Shape.{Shape}
use Rattle.seqpool.specs.declared.act.Act.{Act}
use Rattle.seqpool.specs.Pool.{Phase, Spot, Pool, touches, changed, after, pool_after}
use Rattle.seqpool.proofs.Growth.{after-here, after-else}
use Rattle.steplaws.specs.Facts.{put_at}
use Rattle.steplaws.proofs.Updates.{at-here, at-else}
use Rattle.poolsteps.specs.declared.view.Stored.{Stored}
use Rattle.poolsteps.specs.declared.view.Status.{Status}
use Rattle.poolsteps.specs.Shares.{reclaimer_after, reclaimer, room_after, room_of, Slots, Stock, Shared, with_known, restocked}
use Rattle.poolsteps.proofs.shares.Cases.{each-number}
use Rattle.poolsteps.proofs.shares.PlaceShares.{SharedAt, SharedOf, shared-each, shared-behind}

-- what the lane knows of the place, and what any knows of another
pub known-here : (knows : ℕ → ℕ → Stored) (lane place : ℕ) (c : Stored) → with_known knows lane place c lane place ≡ c
known-here knows lane place c = ap (λ (b : Bool). cond (b && eqb place place) c (knows lane place)) (eq-eqb lane lane refl)
    ∙ ap (λ (b : Bool). cond (true && b) c (knows lane place)) (eq-eqb place place refl)

pub known-else : (knows : ℕ → ℕ → Stored) (lane place : ℕ) (c : Stored) (l p : ℕ) → p ≢ place → with_known knows lane place c l p ≡ knows l p
known-else knows lane place c l p n = ap (λ (b : Bool). cond (eqb l lane && b) c (knows l p)) (ne_eqb p place n) ∙ neither (eqb l lane)
  where
    neither : (b : Bool) → cond (b && false) c (knows l p) ≡ knows l p
    neither true = refl
    neither false = refl

module _ {T : Type 0} (content : T → List ℕ) (room : T → ℕ) (spots : ℕ → Standing) (z : Shape) (slots : Slots T) where
  -- where each lane knows the same of the place
  knows-same : (place : ℕ) (phase : Phase) (last room_kept : ℕ) (status : ℕ → ℕ → Status) (stored : Stored) (knows now : ℕ → Stored) → ((l : ℕ) → now l ≡ knows l)
      → SharedAt content room spots z slots place phase last room_kept status stored knows → SharedAt content room spots z slots place phase last room_kept status stored now
  knows-same place phase last room_kept status stored knows now same s = record {
    untouched = s.untouched;
    emptied = s.emptied;
    whole = s.whole;
    touched = λ l number less below n. let old = s.touched l number less below n in (old.0, same l ∙ old.1);
    owned = λ l less a. same l ∙ s.owned l less a;
    contents = s.contents;
  }

  module _ (history : List Act) (kept : List ℕ) (q : Stock) (same : length kept ≡ length history) (s : Shared content room spots z history kept slots q) where
    abbrev pool : Pool
    pool = pool_after z history

    -- it is enough that Share holds of that place, for whatever the lanes know of it where the lane knows the cell
    pub restock-keeps : (act : Act) (one lane r : ℕ) (c : Stored) → ((x : ℕ) → touches act x ≡ eqb x one)
        → ((p : ℕ) → p ≢ one → reclaimer_after act (reclaimer history) p ≡ reclaimer history p)
        → ((p : ℕ) → p ≢ one → room_after act r (room_of history kept) p ≡ room_of history kept p)
        → ((knows : ℕ → Stored) → knows lane ≡ c → SharedAt content room spots z slots one (changed z.last_generation act (pool one)).phase
        (reclaimer_after act (reclaimer history) one) (room_after act r (room_of history kept) one) (λ l number. q.status l one number) c knows)
        → Shared content room spots z (history ++ act ∷ []) (kept ++ r ∷ []) slots (restocked q lane one c)
    restock-keeps act one lane r c of reclaimers rooms here =
        let As : ℕ → Spot → ℕ → ℕ → Stored → Type 0 = λ p t last k stored.
        SharedAt content room spots z slots p t.phase last k (λ l number. q.status l p number) stored (λ l. with_known q.knows lane one c l p) in
        let last : ℕ → ℕ = reclaimer_after act (reclaimer history) in
        let k : ℕ → ℕ = room_after act r (room_of history kept) in
        shared-behind content room spots z slots history kept act r (restocked q lane one c) same
        (each-number {P = SharedOf content room spots z slots (after z act pool) last k (restocked q lane one c)} one
        (subst (λ (t : Spot). As one t (last one) (k one) (put_at q.stored one c one)) (sym (after-here z pool act one (of one ∙ eq-eqb one one refl)))
        (subst (As one (changed z.last_generation act (pool one)) (last one) (k one)) (sym (at-here q.stored one c one refl))
        (here (λ l. with_known q.knows lane one c l one) (known-here q.knows lane one c))))
        (λ p n.
        let old = knows-same p (pool p).phase (reclaimer history p) (room_of history kept p) (λ l number. q.status l p number) (q.stored p) (λ l. q.knows l p)
        (λ l. with_known q.knows lane one c l p) (λ l. known-else q.knows lane one c l p n) (shared-each content room spots z slots history kept q s p) in
        subst (λ (t : Spot). As p t (last p) (k p) (put_at q.stored one c p)) (sym (after-else z pool act p (of p ∙ ne_eqb p one n)))
        (subst (λ (m : ℕ). As p (pool p) m (k p) (put_at q.stored one c p)) (sym (reclaimers p n))
        (subst (λ (m : ℕ). As p (pool p) (reclaimer history p) m (put_at q.stored one c p)) (sym (rooms p n))
        (subst (As p (pool p) (reclaimer history p) (room_of history kept p)) (sym (at-else q.stored one c p n)) old)))))
