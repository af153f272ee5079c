-- FOLLOW, through the table.
use Rattle.poolsteps.specs.Spot.{Spot as CellSpot}
use Rattle.std.proofs.Common.{◌<◌, ◌≡◌, ℕ, ◌∷◌, List, None, refl, sym, ◌∙◌, append-nil}
use Rattle.atomic_table.specs.Table.{Me}
use Rattle.keybits.specs.declared.shape.Shape.{Shape}
use Rattle.keybits.specs.declared.step.Kind.TheVariants as kinds
use Rattle.keybits.specs.declared.step.Word.TheVariants.{Link}
use Rattle.poolsteps.specs.Shares.{Slots}
use Rattle.steplaws.specs.Facts.{Words, with_chain}
use Rattle.steplaws.specs.StepLaws.{moment_after}
use Rattle.steplaws.proofs.TakeLaws.{follow-law}
use Rattle.steplaws.proofs.Updates.{at-here, at-else}
use Rattle.poolsteps.specs.declared.view.LaneRecord.{LaneRecord}
use Rattle.poolsteps.specs.declared.view.View.{View}
use Rattle.poolsteps.specs.Rule.{World}
use Rattle.poolsteps.specs.Views.{the_lane}
use Rattle.poolsteps.specs.Returned.{rest_of, followed_record, Follows}
use Rattle.poolsteps.proofs.SeatLemmas.{IsAt, IsPoint}
use Rattle.poolsteps.proofs.Making.{moment_of, shared-still, MakesAt}
use Rattle.poolsteps.proofs.Chains.{chain-inside, leads-first}

pub follow-makes : {S T : Type 0} (content : T → List ℕ) (room : T → ℕ) (spots : ℕ → CellSpot) (z : Shape) (words : Words) (w : World) (slots : Slots T)
    → IsPoint content room spots z words w slots → (me : Me S View) (place : ℕ) → IsAt z w me.0 → (the_lane me.0).lane < z.lanes → (the_lane me.0).chain ≡ place ∷ rest_of (the_lane me.0).chain
    → MakesAt content room spots z words w slots (Link place) me (words.link place) (Follows z me)
follow-makes content room spots z words w slots point me place at own first =
    let m = moment_of words w in
    let r : LaneRecord = the_lane me.0 in
    let more : List ℕ = rest_of r.chain in
    let law = follow-law z m r.lane place more point.rule own (sym at.record_is.chain ∙ first) in
    let keeps = law.2 in
    let chain = at-here w.lanes.chain r.lane more r.lane refl in
    let inside = chain-inside z (moment_after m (Link place) (words.link place) None (with_chain w.lanes r.lane more)) r.lane more
    keeps.rule own chain in
    let leads = leads-first z words.link r.lane (words.link place) more law.0 law.1 inside in record {
      kind = kinds.Follow;
      act = None;
      after = with_chain w.lanes r.lane more;
      stock = w.stock;
      r = followed_record r;
      keeps = keeps;
      shared = shared-still content room spots z words w slots point None (followed_record r) keeps.allowed tt;
      by = tt;
      owned = tt;
      lane_is = refl;
      mine = sym (append-nil r.mine);
      agrees = record {
        under = at.record_is.under;
        pushed = at.record_is.pushed;
        chain = sym chain;
        deeds = at.record_is.deeds;
        cells = at.record_is.cells;
      };
      others = λ l other. record {
        under = refl;
        pushed = λ shard. refl;
        chain = at-else w.lanes.chain r.lane more l other;
        status = λ p k. refl;
        knows = λ p. refl;
      };
      told = λ v saw steps. (leads, steps);
    }
