-- A FOLLOW, and the OUT of the object of the place that was followed.
use Rattle.std.proofs.Common.{◌≡◌, ℕ, ◌+◌, List, [], ◌∷◌, ◌++◌, refl, sym, ap, ◌∙◌, subst, append-nil}
use Rattle.atomic_table.specs.Table.{Me}
use Rattle.keybits.specs.declared.shape.Shape.{Shape}
use Rattle.seqpool.specs.declared.act.Act.{Act}
use Rattle.seqpool.specs.Pool.{Phase, with, pool_after, IsLegal}
use Rattle.seqpool.specs.Histories.{acts_of}
use Rattle.poolsteps.specs.Shares.{reclaimer, HasAll}
use Rattle.poolsteps.specs.declared.view.LaneRecord.{LaneRecord}
use Rattle.poolsteps.specs.declared.view.View.{View}
use Rattle.poolsteps.specs.Views.{head_record, the_lane, status_of, known_of, IsOne}
use Rattle.poolsteps.specs.Told.{GoesOn, HasPlace}
use Rattle.poolsteps.specs.Returned.{followed_record, Follows}
use Rattle.poolsteps.proofs.Staying.{place-stays}
use Rattle.seatcalls.specs.Carried.{AreEmptied, Carries}
use Rattle.seatcalls.specs.Taken.{FollowsOut}
use Rattle.seatcalls.proofs.parts.Going.{went-more, went-step, went-carries}

-- a place that is with the lane still is where it goes on with no act of its own, at the same generation
pub still-with : {z : Shape} {a b : View} {r : LaneRecord} → GoesOn z a b [] [] r → r.lane ≡ (the_lane a).lane → (place : ℕ)
    → (pool_after z a.seen place).phase ≡ with (the_lane a).lane
    → ((pool_after z b.seen place).phase ≡ with (the_lane a).lane) × ((pool_after z b.seen place).generation ≡ (pool_after z a.seen place).generation)
still-with {z = z} {a = a} {b = b} goes same place is =
    let seen : b.seen ≡ a.seen ++ goes.between = goes.seen ∙ append-nil (a.seen ++ goes.between) in
    let stays = place-stays z (the_lane a).lane place a.seen goes.between (subst (IsLegal z) seen goes.legal)
    (ap (λ (l : ℕ). acts_of l goes.between) (sym same) ∙ goes.others) is in
    subst (λ (history : List Act). ((pool_after z history place).phase ≡ with (the_lane a).lane)
    × ((pool_after z history place).generation ≡ (pool_after z a.seen place).generation)) (sym seen) stays

-- all shares of a place that is with the lane are with it
with-has : (z : Shape) (v : View) (place : ℕ) → (pool_after z v.seen place).phase ≡ with (the_lane v).lane → HasPlace z v place
with-has z v place is = subst (λ (f : Phase). HasAll (reclaimer v.seen place) (the_lane v).lane f) (sym is) refl

module _ {S : Type 0} {z : Shape} {found : ℕ} {a b : Me S View} (follows : Follows z a found b) where
  -- the lane's record after the FOLLOW
  now : the_lane b.0 ≡ followed_record (the_lane a.0)
  now = ap head_record follows.1.goes.lanes

  -- the seat is still that of one lane
  pub followed-one : IsOne b.0
  followed-one = follows.1.goes.lanes ∙ ap (λ (r : LaneRecord). r ∷ []) (sym now)

  module _ (place : ℕ) (is : (pool_after z a.0.seen place).phase ≡ with (the_lane a.0).lane) where
    there : (pool_after z b.0.seen place).phase ≡ with (the_lane b.0).lane
    there = (still-with follows.1.goes refl place is).0 ∙ ap (λ (r : LaneRecord). with r.lane) (sym now)

    -- a place that was with the lane still is, and all shares of it with it
    pub followed-has : HasPlace z b.0 place
    followed-has = with-has z b.0 place there

    pub followed-with : {n : ℕ} {c : Me S View} → Carries z place n b c → (pool_after z c.0.seen place).phase ≡ with (the_lane a.0).lane
    followed-with carries = (still-with carries.goes carries.elsewhere.lane place there).0 ∙ ap (λ (r : LaneRecord). with r.lane) now

  -- with the OUT
  pub follows-out : {place : ℕ} {c : Me S View} → Carries z place 2 b c → AreEmptied z (the_lane c.0) place → FollowsOut z place found a c
  follows-out carries emptied = record {
    went = went-more (went-step follows.1 refl (sym (append-nil (the_lane a.0).mine)) refl refl) (went-carries carries);
    changes = follows.1.changes;
    leads = follows.0;
    chain = carries.elsewhere.chain ∙ ap (λ (r : LaneRecord). r.chain) now;
    emptied = emptied;
    deeds = λ p number other. carries.elsewhere.deeds p number other ∙ ap (λ (r : LaneRecord). status_of r p number) now;
    cells = λ p other. carries.elsewhere.cells p other ∙ ap (λ (r : LaneRecord). known_of r p) now;
    held = carries.held ∙ follows.1.held;
    stepped = carries.steps ∙ follows.1.steps;
    looked = carries.looked ∙ ap (λ (n : ℕ). n + 2) follows.1.looks;
  }
