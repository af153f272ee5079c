-- LINK, as a step of the lane's seat.
use Rattle.poolsteps.specs.Spot.{Spot as CellSpot}
use Rattle.std.proofs.Common.{◌≡◌, ℕ, List, Bool, Option, Some, None, refl, ap, sym, ◌∙◌, subst, append-nil}
use Rattle.atomic_table.specs.Table.{Me}
use Rattle.keybits.specs.declared.shape.Shape.{Shape}
use Rattle.keybits.specs.declared.step.Kind.{Kind}
use Rattle.keybits.specs.declared.step.Kind.TheVariants as kinds
use Rattle.keybits.specs.declared.step.Word.{Word}
use Rattle.keybits.specs.declared.step.Word.TheVariants.{Link}
use Rattle.steplaws.specs.declared.pending.Pending.{Pending}
use Rattle.steplaws.specs.declared.pending.Pending.TheVariants.{Returns}
use Rattle.poolsteps.specs.Shares.{Slots}
use Rattle.steplaws.specs.Facts.{Words, with_under, value_of}
use Rattle.steplaws.specs.StepLaws.{HasUnderWay, Keeps}
use Rattle.steplaws.proofs.LinkLaws.{link-law}
use Rattle.steplaws.proofs.Updates.{at-here, at-else}
use Rattle.poolsteps.specs.declared.view.LaneRecord.{LaneRecord}
use Rattle.poolsteps.specs.declared.view.View.{View}
use Rattle.poolsteps.specs.Rule.{World}
use Rattle.poolsteps.specs.Views.{the_lane}
use Rattle.poolsteps.specs.Told.{Steps}
use Rattle.poolsteps.specs.Returned.{with_return, place_under, failed_under, IsToReturn, Links}
use Rattle.poolsteps.proofs.SeatLemmas.{IsAt, IsPoint}
use Rattle.poolsteps.proofs.Making.{moment_of, shared-still, MakesAt}

-- the place that a view has still to return is the one that its lane has under way
pub place-is : (v : View) (place : ℕ) (linked : Option ℕ) → IsToReturn v place linked → place_under (the_lane v).under ≡ place
place-is v place linked under = ap place_under under

module _ {S T : Type 0} (content : T → List ℕ) (room : T → ℕ) (spots : ℕ → CellSpot) (z : Shape) (words : Words) (w : World) (slots : Slots T)
    (point : IsPoint content room spots z words w slots) (me : Me S View) (at : IsAt z w me.0) where
  abbrev r : LaneRecord
  r = the_lane me.0

  -- the lane of a seat that has a place to return has it under way now
  pub returns-now : (place : ℕ) (linked : Option ℕ) → IsToReturn me.0 place linked
      → HasUnderWay z (moment_of words w) r.lane (Returns (place_under r.under) linked (failed_under r.under))
  returns-now place linked under =
      (at.record_is.inside, sym at.record_is.under ∙ (under ∙ ap (λ (p : ℕ). Returns p linked (failed_under r.under)) (sym (place-is me.0 place linked under))))

  -- a step with no act, after which the lane has a place still to return
  pub still-returns : (place : ℕ) (linked : Option ℕ) (failed : Bool) (kind : Kind) (word : Word) (left : ℕ) (then : ℕ → Me S View → Type 0)
      → Keeps z (moment_of words w) kind word left None (with_under w.lanes r.lane (Returns place linked failed))
      → ((v : Me S View) → Steps z kind (value_of words word) left me v None (with_return r place linked failed) → then (value_of words word) v)
      → MakesAt content room spots z words w slots word me left then
  still-returns place linked failed kind word left then keeps told =
      let under : Pending = Returns place linked failed in record {
        kind = kind;
        act = None;
        after = with_under w.lanes r.lane under;
        stock = w.stock;
        r = with_return r place linked failed;
        keeps = keeps;
        shared = shared-still content room spots z words w slots point None (with_return r place linked failed) keeps.allowed tt;
        by = tt;
        owned = tt;
        lane_is = refl;
        mine = sym (append-nil r.mine);
        agrees = record {
          under = sym (at-here w.lanes.under r.lane under r.lane refl);
          pushed = at.record_is.pushed;
          chain = at.record_is.chain;
          deeds = at.record_is.deeds;
          cells = at.record_is.cells;
        };
        others = λ l other. record {
          under = at-else w.lanes.under r.lane under l other;
          pushed = λ shard. refl;
          chain = refl;
          status = λ p k. refl;
          knows = λ p. refl;
        };
        told = λ v saw steps. told v steps;
      }

  -- LINK of the place that a lane has to return, whatever its link word was
  pub link-makes : (place top : ℕ) (linked : Option ℕ) → IsToReturn me.0 place linked
      → MakesAt content room spots z words w slots (Link place) me top (λ _. Links z top me)
  link-makes place top linked under =
      let here : ℕ = place_under r.under in
      let failed : Bool = failed_under r.under in
      let keeps = link-law z (moment_of words w) r.lane here top linked failed point.rule (returns-now place linked under) in
      subst (λ (p : ℕ). MakesAt content room spots z words w slots (Link p) me top (λ _. Links z top me)) (place-is me.0 place linked under)
      (still-returns here (Some top) failed (kinds.Link top) (Link here) top (λ _. Links z top me) keeps (λ v steps. (words.link here, steps)))
