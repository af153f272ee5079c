-- PUSH, as a step of the lane's seat.
use Rattle.poolsteps.specs.Spot.{Spot as CellSpot}
use Rattle.std.proofs.Common.{◌≡◌, ◌≢◌, ⊎_elim, ℕ, Bool, true, false, ◌<◌, ◌≤◌, cond, eqb, nat_lt, List, [], ◌∷◌, ◌++◌, Some, None, refl, ap, sym, ◌∙◌, subst, eq-eqb, ne_eqb, lt-ltb}
use Rattle.std.proofs.lemmas.Bool.{and_from}
use mathlib.Core.Logic.{dite}
use native.Mathlib.Decide.{ℕ_discrete}
use prog.Atomic.{either}
use Rattle.atomic_table.specs.Table.{Me}
use Rattle.keybits.specs.declared.shape.Shape.{Shape}
use Rattle.keybits.specs.declared.step.Kind.TheVariants as kinds
use Rattle.keybits.specs.declared.step.Word.{Word}
use Rattle.keybits.specs.declared.step.Word.TheVariants.{Stack}
use Rattle.keybits.specs.Places.{shard_of}
use Rattle.keybits.specs.Shapes.{is_place}
use Rattle.keybits.specs.Links.{link_to}
use Rattle.keybits.proofs.ShapeLemmas.{is_place-parts}
use Rattle.seqpool.specs.declared.act.Act.{Act}
use Rattle.seqpool.specs.declared.act.Act.TheVariants as acts
use Rattle.seqpool.specs.Pool.{with, pool_after, IsLegal}
use Rattle.poolsteps.specs.declared.view.Stored.{Stored}
use Rattle.poolsteps.specs.Shares.{Slots, Shared, room_of, after_home}
use Rattle.poolsteps.proofs.shares.Resting.{home-share-law}
use Rattle.poolsteps.proofs.shares.Rights.{rights-law}
use Rattle.steplaws.specs.declared.pending.Pending.TheVariants.{Nothing, Returns}
use Rattle.steplaws.specs.Facts.{Words, with_under, with_pushed}
use Rattle.steplaws.specs.StepLaws.{IsAllowed, HasUnderWay, Keeps}
use Rattle.steplaws.proofs.Stays.{own-law}
use Rattle.steplaws.proofs.LinkLaws.{push-succeeds-law, push-fails-law, push-again-law}
use Rattle.steplaws.proofs.Updates.{at-here, at-else, two-here, two-row, two-else}
use Rattle.poolsteps.specs.declared.view.LaneRecord.{LaneRecord}
use Rattle.poolsteps.specs.declared.view.View.{View}
use Rattle.poolsteps.specs.Layout.{has_word}
use Rattle.poolsteps.specs.Views.{the_lane, pushed_in, known_of}
use Rattle.poolsteps.specs.Rule.{World, IsRecord}
use Rattle.poolsteps.specs.Returned.{pushed_record, place_under, failed_under, IsToReturn, AimsAt, IsAtRest, Pushes}
use Rattle.poolsteps.proofs.SeatLemmas.{Agrees, OthersStay, IsAt, IsPoint}
use Rattle.poolsteps.proofs.Making.{moment_of, MakesAt}
use Rattle.poolsteps.proofs.Deeds.{home-deeds, home-others}
use Rattle.poolsteps.proofs.Linking.{place-is, returns-now, still-returns}

-- the pool has the stack word of a place's shard and a lane
pub has-stack : (z : Shape) (place lane : ℕ) → is_place z place ≡ true → lane < z.lanes → has_word z (Stack (shard_of place) lane) ≡ true
has-stack z place lane inside below =
    let shard : ℕ = shard_of place in
    and_from (nat_lt shard z.lanes) (nat_lt lane z.lanes) (lt-ltb shard z.lanes (is_place-parts z place inside).0) (lt-ltb lane z.lanes below)

-- the word that a lane last pushed for any shard, after it pushed this one for some shard
last-pushed : (z : Shape) (w : World) (r : LaneRecord) → IsRecord z w r → (own link shard : ℕ)
    → pushed_in ((own, link) ∷ r.pushed) shard ≡ (with_pushed w.lanes own r.lane link).pushed shard r.lane
last-pushed z w r is own link shard =
    let old : ℕ = pushed_in r.pushed shard in
    dite (ℕ_discrete shard own)
    (λ here. ap (λ (b : Bool). cond b link old) (eq-eqb shard own here) ∙ sym (two-here w.lanes.pushed own r.lane link shard r.lane here refl))
    (λ other. ap (λ (b : Bool). cond b link old) (ne_eqb shard own other) ∙ (is.pushed shard ∙ sym (two-row w.lanes.pushed own r.lane link shard r.lane other)))

-- a lane's record after a PUSH that succeeded, and the lanes and the shares after it
pushed-agrees : (z : Shape) (w : World) (r : LaneRecord) → IsRecord z w r → (place : ℕ)
    → Agrees (pushed_record r place) (with_pushed w.lanes (shard_of place) r.lane (link_to place)) (after_home w.stock r.lane place)
pushed-agrees z w r is place = record {
  under = sym (at-here w.lanes.under r.lane Nothing r.lane refl);
  pushed = last-pushed z w r is (shard_of place) (link_to place);
  chain = is.chain;
  deeds = home-deeds w.stock r.lane r.deeds is.deeds place;
  cells = is.cells;
}

others-stay : (lane : ℕ) (w : World) (place own link : ℕ) → OthersStay lane w.lanes (with_pushed w.lanes own lane link) w.stock (after_home w.stock lane place)
others-stay lane w place own link l other = record {
  under = at-else w.lanes.under lane Nothing l other;
  pushed = λ shard. two-else w.lanes.pushed own lane link shard l other;
  chain = refl;
  status = home-others w.stock lane l other place;
  knows = λ p. refl;
}

-- where a place is with a seat's lane now, it was when the seat last saw, and has the room that it had
pub room-known : (z : Shape) (w : World) (v : View) → IsLegal z w.history → IsAt z w v → (place : ℕ)
    → (pool_after z w.history place).phase ≡ with (the_lane v).lane → room_of w.history w.kept place ≡ room_of v.seen v.rooms place
room-known z w v legal at place is =
    let lane : ℕ = (the_lane v).lane in
    let legal_now : IsLegal z (v.seen ++ at.between) = subst (IsLegal z) at.seen legal in
    let was : (pool_after z v.seen place).phase ≡ with lane =
    ((own-law z v.seen at.between lane legal_now at.others).0 place).1 (sym (ap (λ (acts : List Act). (pool_after z acts place).phase) at.seen) ∙ is) in
    let rights = rights-law z v.seen at.between v.rooms at.rooms_between lane place 0 at.paired.0 at.paired.1 legal_now at.others (rw was refl) in
    ap (λ (acts : List Act). room_of acts w.kept place) at.seen ∙ (ap (λ (beside : List ℕ). room_of (v.seen ++ at.between) beside place) at.rooms ∙ rights.3)

module _ {S T : Type 0} (content : T → List ℕ) (room : T → ℕ) (spots : ℕ → CellSpot) (z : Shape) (words : Words) (w : World) (slots : Slots T)
    (point : IsPoint content room spots z words w slots) (me : Me S View) (at : IsAt z w me.0) (top : ℕ) (mine : (the_lane me.0).lane < z.lanes) where
  abbrev r : LaneRecord
  r = the_lane me.0

  abbrev place : ℕ
  place = place_under r.under

  abbrev failed : Bool
  failed = failed_under r.under

  -- the lane's stack word at the place's shard, and its value
  abbrev at_stack : Word
  at_stack = Stack (shard_of place) r.lane

  abbrev word : ℕ
  word = words.stack (shard_of place) r.lane

  -- the seat's PUSH that leaves this word
  abbrev MakesPush : ℕ → Type 0
  MakesPush left = MakesAt content room spots z words w slots at_stack me left (Pushes z top me)

  -- the shares after the place is returned: it was at rest
  shared-home : IsAllowed z w.history (Some (acts.Home r.lane place)) → IsAtRest z me.0 place
      → Shared content room spots z (w.history ++ acts.Home r.lane place ∷ []) (w.kept ++ 0 ∷ []) slots (after_home w.stock r.lane place)
  shared-home allowed rests =
      let with_lane : (pool_after z w.history place).phase ≡ with r.lane = allowed.1.1 in
      let known : known_of r place ≡ w.stock.stored place =
      at.record_is.cells place ∙ point.shared.owned r.lane place at.record_is.inside (rw with_lane refl) in
      home-share-law content room spots z w.history w.kept slots w.stock r.lane place point.paired point.shared allowed.0 allowed.1
      (λ number below. sym (at.record_is.deeds place number) ∙ rests.slots number below)
      (subst (λ (c : Stored). c.content ≡ []) known rests.empty)
      (subst (λ (n : ℕ). n ≤ (w.stock.stored place).room) (sym (room-known z w me.0 point.rule.legal at place with_lane))
      (subst (λ (c : Stored). room_of me.0.seen me.0.rooms place ≤ c.room) known rests.room))

  module _ (now : HasUnderWay z (moment_of words w) r.lane (Returns place (Some top) failed)) where
    -- a PUSH that finds the expected top
    succeeds : IsAtRest z me.0 place → word ≡ top → MakesPush (link_to place)
    succeeds rests hit = let keeps = push-succeeds-law z (moment_of words w) r.lane place top failed point.rule mine now hit in record {
      kind = kinds.Push top (link_to place);
      act = Some (acts.Home r.lane place);
      after = with_pushed w.lanes (shard_of place) r.lane (link_to place);
      stock = after_home w.stock r.lane place;
      r = pushed_record r place;
      keeps = keeps;
      shared = shared-home keeps.allowed rests;
      by = refl;
      owned = tt;
      lane_is = refl;
      mine = refl;
      agrees = pushed-agrees z w r at.record_is place;
      others = others-stay r.lane w place (shard_of place) (link_to place);
      told = λ v saw made. (λ found. made, λ miss. absurd (miss hit));
    }

    -- the law of a PUSH that fails, at the top that is expected
    fails-law : top ≡ w.lanes.pushed (shard_of place) r.lane → word ≢ top
        → (word ≡ 0) × Keeps z (moment_of words w) (kinds.Push top (link_to place)) at_stack 0 None (with_under w.lanes r.lane (Returns place None true))
    fails-law last = subst
        (λ (t : ℕ). HasUnderWay z (moment_of words w) r.lane (Returns place (Some t) failed) → word ≢ t
        → (word ≡ 0) × Keeps z (moment_of words w) (kinds.Push t (link_to place)) at_stack 0 None (with_under w.lanes r.lane (Returns place None true)))
        (sym last) (push-fails-law z (moment_of words w) r.lane place failed point.rule mine) now

    -- the first PUSH, which expects what the lane last pushed, and finds another word
    fails : failed ≡ false → top ≡ pushed_in r.pushed (shard_of place) → word ≢ top → MakesPush word
    fails first aims miss =
        let law = fails-law (aims ∙ at.record_is.pushed (shard_of place)) miss in
        let keeps = subst (λ (left : ℕ). Keeps z (moment_of words w) (kinds.Push top (link_to place)) at_stack left None (with_under w.lanes r.lane (Returns place None true)))
        (sym law.0) law.1 in
        still-returns content room spots z words w slots point me at place None true (kinds.Push top (link_to place)) at_stack word (Pushes z top me) keeps
        (λ v made. (λ hit. absurd (miss hit), λ other. (law.0, first, made)))

    -- a PUSH after one that failed expects 0, and finds it
    finds-again : failed ≡ true → top ≡ 0 → word ≡ top
    finds-again again from_zero =
        let under : Returns place (Some top) failed ≡ Returns place (Some 0) true =
        ap (λ (t : ℕ). Returns place (Some t) failed) from_zero ∙ ap (λ (b : Bool). Returns place (Some 0) b) again in
        (push-again-law z (moment_of words w) r.lane place point.rule mine (now.0, now.1 ∙ under)).0 ∙ sym from_zero

    -- either of them, by the word that it finds
    push-here : AimsAt r place top → IsAtRest z me.0 place → MakesPush (either (eqb word top) (link_to place) word)
    push-here aims rests = dite (ℕ_discrete word top)
        (λ hit. subst (λ (b : Bool). MakesPush (either b (link_to place) word)) (sym (eq-eqb word top hit)) (succeeds rests hit))
        (λ miss. subst (λ (b : Bool). MakesPush (either b (link_to place) word)) (sym (ne_eqb word top miss)) (⊎_elim
        (λ (first : (failed ≡ false) × (top ≡ pushed_in r.pushed (shard_of place))). fails first.0 first.1 miss)
        (λ (again : (failed ≡ true) × (top ≡ 0)). absurd (miss (finds-again again.0 again.1)))
        aims))

  -- PUSH of the place that a lane has to return
  pub push-makes : (p : ℕ) → IsToReturn me.0 p (Some top) → AimsAt r p top → IsAtRest z me.0 p
      → let found : ℕ = words.stack (shard_of p) r.lane in
      MakesAt content room spots z words w slots (Stack (shard_of p) r.lane) me (either (eqb found top) (link_to p) found) (Pushes z top me)
  push-makes p under aims rests =
      let is = place-is me.0 p (Some top) under in
      let stack : ℕ → ℕ = λ q. words.stack (shard_of q) r.lane in
      subst (λ (q : ℕ). MakesAt content room spots z words w slots (Stack (shard_of q) r.lane) me (either (eqb (stack q) top) (link_to q) (stack q)) (Pushes z top me)) is
      (push-here (returns-now content room spots z words w slots point me at p (Some top) under)
      (subst (λ (q : ℕ). AimsAt r q top) (sym is) aims) (subst (IsAtRest z me.0) (sym is) rests))
