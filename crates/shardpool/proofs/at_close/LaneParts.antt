-- What a lane keeps still stands beside the last words and the history of its closed pool.
use Rattle.std.proofs.Common.{◌≡◌, ℕ, ◌<◌, List, [], ◌++◌, sym, ap, ◌∙◌, subst, refl}
use mathlib.Core.List.{IsPrefix}
use Rattle.atomic_table.specs.Seated.{TableId}
use Rattle.keybits.specs.declared.shape.Shape.{Shape}
use Rattle.keybits.specs.Places.{number_of}
use Rattle.keybits.specs.Links.{Leads}
use Rattle.freelists.specs.Queues.{AreFree}
use Rattle.seqpool.specs.declared.act.Act.{Act}
use Rattle.seqpool.specs.Pool.{with, references, pool_after, IsLegal}
use Rattle.seqpool.specs.Histories.{acts_of}
use Rattle.steplaws.specs.declared.pending.Pending.TheVariants.{Nothing}
use Rattle.steplaws.specs.Facts.{Words, Rule, moment}
use Rattle.steplaws.proofs.Stays.{own-law}
use Rattle.poolsteps.specs.declared.view.View.{View}
use Rattle.poolsteps.specs.Views.{the_lane}
use Rattle.poolsteps.specs.Rule.{World, IsRecord}
use Rattle.poolsteps.specs.Told.{references_seen}
use Rattle.poolsteps.proofs.ViewLemmas.{none-behind}
use Rattle.shardpool.specs.declared.pool.LaneState.{LaneState}
use Rattle.shardpool.specs.LaneStates.{Fits}
use Rattle.shardpool.specs.Lanes.{IsKept}
use Rattle.shardpool.specs.Closings.{IsLast}
use Rattle.shardpool.proofs.frame.LaneFacts.{lane_of}
use Rattle.shardpool.proofs.free.Known.{listed-kept, chained-kept}

module _ {T : Type 0} {content : T → List ℕ} {room : T → ℕ} {z : Shape} {w : World} {words : Words} (rule : Rule z (moment words w.history w.lanes))
    (table : TableId) {v : View} {s : LaneState T} (fits : Fits content room z v s) (seen : IsPrefix v.seen w.history) (is : IsRecord z w (the_lane v)) where
  -- after what it saw the lane made no act
  none-more : acts_of (the_lane v).lane seen.0 ≡ []
  none-more = none-behind (the_lane v).lane v.seen seen.0 w.history seen.1 (sym fits.seat.own ∙ is.mine)

  -- so a place that was with it still is
  still-own : (p : ℕ) → (pool_after z v.seen p).phase ≡ with (the_lane v).lane → (pool_after z w.history p).phase ≡ with s.number
  still-own p was =
      let legal : IsLegal z (v.seen ++ seen.0) = subst (IsLegal z) (sym seen.1) rule.legal in
      let still = (own-law z v.seen seen.0 (the_lane v).lane legal none-more).0 p in
      subst (λ (h : List Act). (pool_after z h p).phase ≡ with s.number) seen.1 (still.0 was ∙ ap with (sym fits.seat.number_is))

  -- and so do its references
  pub still-refs : (key : ℕ) → references z (pool_after z w.history) (the_lane v).lane key ≡ references_seen z v key
  still-refs key =
      let legal : IsLegal z (v.seen ++ seen.0) = subst (IsLegal z) (sym seen.1) rule.legal in
      subst (λ (h : List Act). references z (pool_after z h) (the_lane v).lane key ≡ references_seen z v key) seen.1
      ((own-law z v.seen seen.0 (the_lane v).lane legal none-more).1 key)

  -- the history has just its acts
  pub own-mine : (the_lane v).mine ≡ acts_of s.number w.history
  own-mine = is.mine ∙ ap (λ (l : ℕ). acts_of l w.history) (sym fits.seat.number_is)

  -- and it has nothing under way
  pub own-idle : w.lanes.under s.number ≡ Nothing
  own-idle = ap w.lanes.under fits.seat.number_is ∙ (sym is.under ∙ fits.seat.idle)

  -- and what was kept still is
  still-kept : (p : ℕ) → IsKept z v.seen (lane_of table v s) p → IsKept z w.history (lane_of table v s) p
  still-kept p kept = record { inside = kept.inside; own = kept.own; opened = kept.opened; with_lane = still-own p (kept.with_lane ∙ ap with fits.seat.number_is) }

  pub lane-last : AreFree s.free → IsLast z w.history words (lane_of table v s) s
  lane-last free =
      let below = subst (λ (n : ℕ). n < z.lanes) fits.seat.number_is fits.seat.below in
      let chain = rule.home.chained (the_lane v).lane below in record {
        shape_is = (fits.shape_is, fits.shape_is);
        number_is = refl;
        below = fits.seat.below;
        free_is = refl;
        pages_is = refl;
        listed = λ place within. still-kept (number_of place) (listed-kept table fits free place within);
        chained = λ place within. still-kept place (chained-kept table fits place within);
        unopened = λ place inside own high. still-own place (fits.stores.unopened place inside (own ∙ fits.seat.number_is) high).with_lane;
        first = fits.stores.first;
        leads = (
          chain.first,
          subst (λ (l : ℕ). Leads words.link l chain.first (the_lane v).chain) (sym fits.seat.number_is)
              (subst (Leads words.link (the_lane v).lane chain.first) (sym is.chain) chain.leads),
        );
      }
