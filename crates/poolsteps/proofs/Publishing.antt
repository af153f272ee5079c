-- PUBLISH, through the table.
use Rattle.poolsteps.specs.Spot.{Spot as CellSpot}
use Rattle.std.proofs.Common.{◌≡◌, ◌≢◌, ◌⊎◌, inl, inr, ⊎_elim, ℕ, ◌+◌, ◌%◌, ◌^◌, ◌<◌, Bool, true, false, cond, eqb, ◌&&◌, List, [], ◌∷◌, ◌++◌, Some, refl, ap, sym, ◌∙◌, subst, arith, eq-eqb, ne_eqb, if◌then◌else◌}
use Rattle.atomic_table.specs.Table.{Me}
use Rattle.keybits.specs.declared.shape.Shape.{Shape}
use Rattle.keybits.specs.declared.step.Kind.TheVariants as kinds
use Rattle.keybits.specs.Shapes.{callers, is_place}
use Rattle.keybits.specs.Keys.{place_of, generation_of, is_key}
use Rattle.keybits.specs.Counts.{times}
use Rattle.keybits.specs.Words.{state_in, count_in}
use Rattle.seqpool.specs.declared.act.Act.{Act}
use Rattle.seqpool.specs.declared.act.Act.TheVariants as acts
use Rattle.seqpool.specs.Pool.{with, pool_after, IsLegal}
use Rattle.poolsteps.specs.declared.view.Stored.{Stored}
use Rattle.poolsteps.specs.declared.view.Status.{Status}
use Rattle.poolsteps.specs.declared.view.Status.TheVariants.{Emptied, InHand}
use Rattle.poolsteps.specs.Shares.{reclaimer, HasAll, Slots, Shared, with_known, restocked}
use Rattle.poolsteps.specs.ShareLaws.{MayRestock}
use Rattle.poolsteps.proofs.shares.Publishing.{publish-share-law}
use Rattle.steplaws.specs.declared.pending.Pending.TheVariants.{Nothing}
use Rattle.steplaws.specs.Facts.{Words, Rule}
use Rattle.steplaws.specs.StepLaws.{HasUnderWay, IsFilling}
use Rattle.steplaws.proofs.Publishes.{publish-law}
use Rattle.poolsteps.specs.declared.view.LaneRecord.{LaneRecord}
use Rattle.poolsteps.specs.declared.view.View.{View}
use Rattle.poolsteps.specs.Rule.{World}
use Rattle.poolsteps.specs.Views.{the_lane, status_of, known_of, known_in}
use Rattle.poolsteps.specs.Told.{MayRenew, IsShared, MayPublish, Publishes}
use Rattle.poolsteps.proofs.SeatLemmas.{IsAt, IsPoint}
use Rattle.poolsteps.proofs.Making.{moment_of, Makes}
use Rattle.poolsteps.proofs.Staying.{place-stays}

-- what a PUBLISH adds to an idle word with room stays in 64 bits
published-sum : (with_ref : Bool) (word : ℕ) → state_in word ≡ 0 → count_in word < 1073741823 → word < 18446744073709551616
    → (word + (if with_ref then 5 else 1)) % 2 ^ 64 ≡ (if with_ref then word + 5 else word + 1)
published-sum true word idle room small = omega arith
published-sum false word idle room small = omega arith

-- what is known of a cell by a lane that knows one cell more, and by other lanes
pub knows-more : (cells : List (ℕ × Stored)) (knows : ℕ → ℕ → Stored) (lane place : ℕ) (c : Stored) → ((p : ℕ) → known_in cells p ≡ knows lane p)
    → (p : ℕ) → known_in ((place, c) ∷ cells) p ≡ with_known knows lane place c lane p
knows-more cells knows lane place c same p = ap (cond (eqb p place) c) (same p)
    ∙ sym (ap (λ (b : Bool). cond (b && eqb p place) c (knows lane p)) (eq-eqb lane lane refl))

pub others-know : (knows : ℕ → ℕ → Stored) (lane place : ℕ) (c : Stored) (l : ℕ) → l ≢ lane → (p : ℕ) → with_known knows lane place c l p ≡ knows l p
others-know knows lane place c l other p = ap (λ (b : Bool). cond (b && eqb p place) c (knows l p)) (ne_eqb l lane other)

module _ (z : Shape) (words : Words) (w : World) (v : View) (rule : Rule z (moment_of words w)) (at : IsAt z w v) where
  abbrev lane : ℕ
  lane = (the_lane v).lane

  -- a place that was with the lane when it saw it is so still, as it made no act since
  still-with : (place : ℕ) → (pool_after z v.seen place).phase ≡ with lane
      → ((pool_after z w.history place).phase ≡ with lane) × ((pool_after z w.history place).generation ≡ (pool_after z v.seen place).generation)
  still-with place is =
      subst (λ (history : List Act). ((pool_after z history place).phase ≡ with lane) × ((pool_after z history place).generation ≡ (pool_after z v.seen place).generation))
      (sym at.seen) (place-stays z lane place v.seen at.between (subst (IsLegal z) at.seen rule.legal) at.others is)

  -- what the lane may publish as it saw, it may publish now
  is-filling : (key : ℕ) → MayPublish z v key → IsFilling z (moment_of words w) lane key
  is-filling key may =
      let still = still-with (place_of key) may.with_lane in record {
        current = ap (λ (g : ℕ). is_key z key && eqb g (generation_of key)) still.1 ∙ may.current;
        with_lane = still.0;
        unchained = ap (times (place_of key)) (sym at.record_is.chain) ∙ may.unchained;
      }

module _ {S T : Type 0} (content : T → List ℕ) (room : T → ℕ) (spots : ℕ → CellSpot) (z : Shape) (words : Words) (w : World) (slots : Slots T)
    (point : IsPoint content room spots z words w slots) (me : Me S View) (key : ℕ) (c : Stored) (with_ref : Bool) (at : IsAt z w me.0) where
  abbrev place : ℕ
  place = place_of key

  abbrev r : LaneRecord
  r = the_lane me.0

  -- the cell that the lane may have there by what it knows, it may have there
  may-restock : IsFilling z (moment_of words w) r.lane key → MayRenew z me.0 place c → MayRestock z w.stock r.lane place c
  may-restock filling may =
      let all : HasAll (reclaimer w.history place) r.lane (pool_after z w.history place).phase =
      subst (HasAll (reclaimer w.history place) r.lane) (sym filling.with_lane) refl in ⊎_elim
      (λ (known : c ≡ known_of r place). inl (known ∙ (at.record_is.cells place ∙ point.shared.owned r.lane place at.record_is.inside all)))
      (λ (out : (number : ℕ) → number < (callers z) → (status_of r place number ≡ Emptied) ⊎ (status_of r place number ≡ InHand)).
      inr (λ number below. subst (λ (s : Status). (s ≡ Emptied) ⊎ (s ≡ InHand)) (at.record_is.deeds place number) (out number below)))
      may

  pub publish-makes : is_place z place ≡ true → MayPublish z me.0 key → IsShared z me.0 place with_ref → MayRenew z me.0 place c
      → words.life place < 18446744073709551616
      → Makes content room spots z words w slots place me ((words.life place + (if with_ref then 5 else 1)) % 2 ^ 64) (Publishes z key c with_ref me)
  publish-makes inside may shares renew small =
      let free : HasUnderWay z (moment_of words w) r.lane Nothing = (at.record_is.inside, sym at.record_is.under ∙ may.idle) in
      let filling = is-filling z words w me.0 point.rule at key may in
      let keeps = publish-law z (moment_of words w) r.lane key c.content with_ref point.rule free filling in
      let shared = publish-share-law content room spots z w.history w.kept slots w.stock r.lane key c with_ref
      point.paired point.rule.legal point.shared at.record_is.inside keeps.allowed.1 (may-restock filling renew)
      (λ number below touched. shares number below (λ e. touched (sym (at.record_is.deeds place number) ∙ e))) in
      let left = published-sum with_ref (words.life place) keeps.changes.0 keeps.room small in
      subst (λ (value : ℕ). Makes content room spots z words w slots place me value (Publishes z key c with_ref me)) (sym left) record {
        kind = kinds.Publish with_ref;
        act = Some (acts.Publish r.lane key c.content with_ref);
        under = Nothing;
        stock = restocked w.stock r.lane place c;
        cells = (place, c) ∷ r.cells;
        keeps = keeps;
        -- beside the act stands the room of the cell
        shared = subst (λ (n : ℕ). Shared content room spots z (w.history ++ acts.Publish r.lane key c.content with_ref ∷ []) (w.kept ++ n ∷ []) slots (restocked w.stock r.lane place c))
            (sym (ap (λ (b : Bool). (cond b c (known_of r place)).room) (eq-eqb place place refl))) shared;
        by = refl;
        owned = may.own;
        deeds_are = at.record_is.deeds;
        cells_are = knows-more r.cells w.stock.knows r.lane place c at.record_is.cells;
        statuses = λ l other p k. refl;
        knows = λ l other p. others-know w.stock.knows r.lane place c l other p;
        told = λ v saw steps. steps;
      }
