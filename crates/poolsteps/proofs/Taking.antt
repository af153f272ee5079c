-- TAKE, through the table.
use Rattle.poolsteps.specs.Spot.{Spot as CellSpot}
use Rattle.std.proofs.Common.{◌≡◌, ◌≢◌, ℕ, ◌<◌, ◌≤◌, true, List, [], ◌∷◌, ◌++◌, length, Some, None, refl, sym, ap, ◌∙◌, subst, arith, append-nil}
use mathlib.Core.Logic.{dite}
use native.Mathlib.Decide.{ℕ_discrete}
use Rattle.atomic_table.specs.Table.{Me}
use Rattle.keybits.specs.declared.shape.Shape.{Shape}
use Rattle.keybits.specs.declared.step.Kind.TheVariants as kinds
use Rattle.keybits.specs.declared.step.Word.TheVariants.{Stack}
use Rattle.keybits.specs.Links.{Leads}
use Rattle.seqpool.specs.declared.act.Act.{Act}
use Rattle.seqpool.specs.declared.act.Act.TheVariants as acts
use Rattle.seqpool.specs.Pool.{with, Spot, Pool, has, fresh, pool_after}
use Rattle.seqpool.proofs.Growth.{pool-snoc, after-here}
use Rattle.poolsteps.specs.declared.view.Stored.{Stored}
use Rattle.poolsteps.specs.Shares.{Slots, room_of, after_collect}
use Rattle.poolsteps.proofs.shares.Resting.{collect-share-law}
use Rattle.poolsteps.proofs.shares.Rooms.{rooms-behind}
use Rattle.steplaws.specs.Facts.{Words, with_chain}
use Rattle.steplaws.specs.StepLaws.{moment_after}
use Rattle.steplaws.proofs.Counts.{returner-law}
use Rattle.steplaws.proofs.TakeLaws.{take-none-law, take-chain-law}
use Rattle.steplaws.proofs.Updates.{at-here, at-else}
use Rattle.poolsteps.specs.declared.view.LaneRecord.{LaneRecord}
use Rattle.poolsteps.specs.declared.view.View.{View}
use Rattle.poolsteps.specs.Views.{the_lane, head_record}
use Rattle.poolsteps.specs.Rule.{World}
use Rattle.poolsteps.specs.Told.{HasPlace}
use Rattle.poolsteps.specs.Returned.{taken_record, NoneFrom, Takes}
use Rattle.poolsteps.proofs.SeatLemmas.{IsAt, IsPoint}
use Rattle.poolsteps.proofs.Making.{moment_of, MakesAt, shared-still}
use Rattle.poolsteps.proofs.Chains.{chain-inside, leads-first}
use Rattle.poolsteps.proofs.Deeds.{collect-deeds, collect-cells, collect-others, collect-unknown}
use Rattle.poolsteps.proofs.Seeing.{agrees-now}

-- where a word that isn't 0 leads through these places, there is one
leads-some : (links : ℕ → ℕ) (shard word : ℕ) (places : List ℕ) → Leads links shard word places → word ≢ 0 → 0 < length places
leads-some links shard word [] leads some = absurd (some leads)
leads-some links shard word (place ∷ more) leads some = omega arith

-- after a lane's collect the place is with it, by what its seat saw, and has the room that it had
module _ (z : Shape) (history : List Act) (kept : List ℕ) (lane : ℕ) (places : List ℕ) (place : ℕ) (r : LaneRecord) (v : View) where
  pub has-place : v.seen ≡ history ++ acts.Collect lane places ∷ [] → v.lanes ≡ r ∷ [] → r.lane ≡ lane → has places place ≡ true → HasPlace z v place
  has-place seen lone own of =
      let act : Act = acts.Collect lane places in
      let phase : (pool_after z v.seen place).phase ≡ with lane = ap (λ (acts : List Act). (pool_after z acts place).phase) seen
      ∙ (ap (λ (P : Pool). (P place).phase) (pool-snoc z fresh history act) ∙ ap (λ (x : Spot). x.phase) (after-here z (pool_after z history) act place of)) in
      rw phase (sym (ap (λ (rs : List LaneRecord). (head_record rs).lane) lone ∙ own))

  pub room-still : v.seen ≡ history ++ acts.Collect lane places ∷ [] → v.rooms ≡ kept ++ 0 ∷ [] → length kept ≡ length history
      → room_of v.seen v.rooms place ≡ room_of history kept place
  room-still seen rooms same = ap (λ (acts : List Act). room_of acts v.rooms place) seen
      ∙ (ap (λ (beside : List ℕ). room_of (history ++ acts.Collect lane places ∷ []) beside place) rooms
      ∙ ap (λ (f : ℕ → ℕ). f place) (rooms-behind (λ _. 0) history kept (acts.Collect lane places) 0 same))

module _ {S T : Type 0} (content : T → List ℕ) (room : T → ℕ) (spots : ℕ → CellSpot) (z : Shape) (words : Words) (w : World) (slots : Slots T)
    (point : IsPoint content room spots z words w slots) (me : Me S View) (from : ℕ) (at : IsAt z w me.0) (own : (the_lane me.0).lane < z.lanes) (below : from < z.lanes) (apart : from ≢ (the_lane me.0).lane) where
  abbrev r : LaneRecord
  r = the_lane me.0

  abbrev word : ℕ
  word = words.stack r.lane from

  -- the seat's TAKE
  abbrev MakesTake : Type 0
  MakesTake = MakesAt content room spots z words w slots (Stack r.lane from) me 0 (Takes z from me)

  -- of a stack that is empty: the rule says so of the history now, and this is what the seat then has seen
  takes-none : word ≡ 0 → MakesTake
  takes-none none =
      let law = take-none-law z (moment_of words w) r.lane from point.rule own below apart none in
      let last = returner-law z (moment_of words w) point.rule r.lane in
      let none_from : NoneFrom z w.history r.lane from = λ place is. ((last place is).0, (last place is).1, law.1 place is) in record {
        kind = kinds.Take;
        act = None;
        after = w.lanes;
        stock = w.stock;
        r = r;
        keeps = law.0;
        shared = shared-still content room spots z words w slots point None r tt tt;
        by = tt;
        owned = tt;
        lane_is = refl;
        mine = sym (append-nil r.mine);
        agrees = agrees-now z w r at.record_is;
        others = λ l other. record { under = refl; pushed = λ shard. refl; chain = refl; status = λ place number. refl; knows = λ place. refl };
        told = λ v saw steps. (
          λ found. (subst (λ (history : List Act). NoneFrom z history r.lane from) (sym saw.0) none_from, steps),
          λ some. absurd (some none),
        );
      }

  -- of a stack that isn't empty: the chain after it says that each of its places is one of the shape
  takes-chain : word ≢ 0 → MakesTake
  takes-chain some =
      let law = take-chain-law z (moment_of words w) r.lane from point.rule own below apart some in
      let places : List ℕ = law.0 in
      let act : Act = acts.Collect r.lane places in
      let keeps = law.3 in
      let chain = at-here w.lanes.chain r.lane places r.lane refl in
      let inside = chain-inside z (moment_after (moment_of words w) (Stack r.lane from) 0 (Some act) (with_chain w.lanes r.lane places)) r.lane places
      keeps.rule own chain in
      let leads = leads-first z words.link r.lane word places law.1 law.2 inside in
      let stored : ℕ → Stored = w.stock.stored in
      let shares = collect-share-law content room spots z w.history w.kept slots w.stock r.lane places point.paired point.shared keeps.allowed.0 keeps.allowed.1 in record {
        kind = kinds.Take;
        act = Some act;
        after = with_chain w.lanes r.lane places;
        stock = after_collect w.stock r.lane places;
        r = taken_record r places stored;
        keeps = keeps;
        shared = shares.1;
        by = refl;
        owned = tt;
        lane_is = refl;
        mine = refl;
        agrees = record {
          under = at.record_is.under;
          pushed = at.record_is.pushed;
          chain = sym chain;
          deeds = collect-deeds w.stock r.lane r.deeds at.record_is.deeds places;
          cells = collect-cells w.stock r.lane r.cells at.record_is.cells places;
        };
        others = λ l other. record {
          under = refl;
          pushed = λ shard. refl;
          chain = at-else w.lanes.chain r.lane places l other;
          status = collect-others w.stock r.lane l other places;
          knows = collect-unknown w.stock r.lane l other places;
        };
        told = λ v saw steps. (
          λ none. absurd (some none),
          λ found. (
            places,
            stored,
            leads-some words.link r.lane word places law.1 some,
            leads,
            λ place of. (
              has-place z w.history w.kept r.lane places place (taken_record r places stored) v.0 saw.0 steps.goes.lanes refl of,
              (shares.0 place of).0,
              subst (λ (n : ℕ). n ≤ (stored place).room)
                  (sym (room-still z w.history w.kept r.lane places place (taken_record r places stored) v.0 saw.0 saw.1 point.paired)) (shares.0 place of).1,
            ),
            steps,
          ),
        );
      }

  pub take-makes : MakesTake
  take-makes = dite (ℕ_discrete word 0) takes-none takes-chain
