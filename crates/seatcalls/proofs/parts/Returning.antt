-- The return of a place of another shard: LINK and PUSH, once or twice.
use Rattle.std.proofs.Common.{◌≡◌, ◌≢◌, ◌==◌, ◌&&◌, not, ℕ, Bool, true, false, cond, eqb, List, [], ◌∷◌, Option, Some, None, refl, sym, ap, ◌∙◌, subst, arith, eq-eqb, ne_eqb}
use mathlib.Core.Logic.{dite}
use native.Mathlib.Decide.{ℕ_discrete}
use Rattle.atomic_table.specs.Table.{Me}
use Rattle.keybits.specs.declared.shape.Shape.{Shape}
use Rattle.keybits.specs.declared.step.Kind.{Kind}
use Rattle.keybits.specs.declared.step.Kind.TheVariants as kinds
use Rattle.keybits.specs.declared.step.Word.TheVariants.{Link, Stack}
use Rattle.keybits.specs.declared.step.Step.{Step}
use Rattle.keybits.specs.Keys.{place_of}
use Rattle.keybits.specs.Links.{link_to}
use Rattle.keybits.specs.Places.{shard_of}
use Rattle.keybits.specs.Words.{generation_in}
use Rattle.seqpool.specs.declared.act.Act.TheVariants as acts
use Rattle.steplaws.specs.declared.pending.Pending.{Pending}
use Rattle.steplaws.specs.declared.pending.Pending.TheVariants.{Returns}
use Rattle.steplaws.specs.Calls.{Call, Caller, Aim, aim, end_next, is_claimed, key_in}
use Rattle.poolsteps.specs.declared.view.LaneRecord.{LaneRecord}
use Rattle.poolsteps.specs.declared.view.View.{View}
use Rattle.poolsteps.specs.Views.{head_record, the_lane, pushed_in, status_of, known_of}
use Rattle.poolsteps.specs.Told.{Steps, HasPlace, IsIdle}
use Rattle.poolsteps.specs.Returned.{with_return, pushed_record, place_under, failed_under, IsAtRest, Links, Pushes}
use Rattle.poolsteps.specs.ViewLaws.{SharesLaw}
use Rattle.poolsteps.proofs.OwnShares.{may-touch}
use Rattle.seatcalls.specs.Called.{caller_of, Did, GivesHome}
use Rattle.seatcalls.proofs.parts.Doing.{return-next, push-next, did-step, did-more}

-- ---- each step

module _ {S : Type 0} {z : Shape} {place top : ℕ} {linked : Option ℕ} {failed : Bool} {a b : Me S View} (under : (the_lane a.0).under ≡ Returns place linked failed) where
  pub link-steps : (links : Links z top a b) → Steps z (kinds.Link top) links.0 top a b None (with_return (the_lane a.0) place (Some top) failed)
  link-steps links =
      subst (λ (p : Pending). Steps z (kinds.Link top) links.0 top a b None (with_return (the_lane a.0) (place_under p) (Some top) (failed_under p))) under links.1

  module _ {found : ℕ} (pushes : Pushes z top a found b) where
    pub home-steps : found ≡ top
        → Steps z (kinds.Push top (link_to place)) found (link_to place) a b (Some (acts.Home (the_lane a.0).lane place)) (pushed_record (the_lane a.0) place)
    home-steps is = subst
        (λ (p : Pending). Steps z (kinds.Push top (link_to (place_under p))) found (link_to (place_under p)) a b (Some (acts.Home (the_lane a.0).lane (place_under p)))
        (pushed_record (the_lane a.0) (place_under p))) under (pushes.0 is)

    pub fail-steps : found ≢ top → (failed ≡ false) × Steps z (kinds.Push top (link_to place)) found found a b None (with_return (the_lane a.0) place None true)
    fail-steps other = let told = pushes.1 other in (
      sym (ap failed_under under) ∙ told.1,
      subst (λ (p : Pending). Steps z (kinds.Push top (link_to (place_under p))) found found a b None (with_return (the_lane a.0) (place_under p) None true)) under told.2,
    )

-- after a step of the return that leaves the place to be returned
module _ {S : Type 0} {z : Shape} {kind : Kind} {found left place : ℕ} {linked : Option ℕ} {failed : Bool} {a b : Me S View}
    (steps : Steps z kind found left a b None (with_return (the_lane a.0) place linked failed)) where
  now : the_lane b.0 ≡ with_return (the_lane a.0) place linked failed
  now = ap head_record steps.goes.lanes

  pub did-return : Did z place [] 1 0 a b
  did-return = did-step steps (return-next (the_lane a.0) place place linked failed)

  pub under-return : (the_lane b.0).under ≡ Returns place linked failed
  under-return = ap (λ (r : LaneRecord). r.under) now

  -- it is with the lane and at rest as before
  still-rests : SharesLaw → HasPlace z a.0 place → IsAtRest z a.0 place → HasPlace z b.0 place × IsAtRest z b.0 place
  still-rests law has rests =
      let stays = law z a.0 b.0 (with_return (the_lane a.0) place linked failed) steps.goes refl place 0 (may-touch z a.0 place 0 has) in
      let same = stays.2 in
      let known : known_of (the_lane b.0) place ≡ known_of (the_lane a.0) place = ap (λ (r : LaneRecord). known_of r place) now in (
        stays.1 has,
        record {
          slots = λ number inside. ap (λ (r : LaneRecord). status_of r place number) now ∙ rests.slots number inside;
          empty = ap (λ c. c.content) known ∙ rests.empty;
          room = rw (same, known) rests.room;
        },
      )

-- so it is after the first LINK
pub linked-rests : {S : Type 0} {z : Shape} {place top : ℕ} {linked : Option ℕ} {failed : Bool} {a b : Me S View} → (the_lane a.0).under ≡ Returns place linked failed
    → Links z top a b → SharesLaw → HasPlace z a.0 place → IsAtRest z a.0 place → HasPlace z b.0 place × IsAtRest z b.0 place
linked-rests under links law has rests = still-rests (link-steps under links) law has rests

-- after a PUSH that succeeded
module _ {S : Type 0} {z : Shape} {kind : Kind} {found left place : ℕ} {a b : Me S View}
    (steps : Steps z kind found left a b (Some (acts.Home (the_lane a.0).lane place)) (pushed_record (the_lane a.0) place)) where
  pub did-home : (lane : ℕ) → (the_lane a.0).lane ≡ lane → Did z place (acts.Home lane place ∷ []) 1 0 a b
  did-home lane is = subst (λ (l : ℕ). Did z place (acts.Home l place ∷ []) 1 0 a b) is (did-step steps (push-next (the_lane a.0) place))

  idle-home : IsIdle b.0
  idle-home = ap (λ (lanes : List LaneRecord). (head_record lanes).under) steps.goes.lanes

-- ---- the steps of the call

-- the return follows the claim
pub returns-next : (c : Caller) (place : ℕ) (top : ℕ) (leave claim : Step) → top ≡ c.pushed (shard_of place) → is_claimed (generation_in leave.before) claim.before ≡ true
    → generation_in leave.before ≢ c.shape.last_generation → shard_of place ≢ c.lane
    → end_next c place (leave ∷ claim ∷ []) ≡ Some (aim (kinds.Link top) (Link place))
returns-next c place top leave claim is claimed later away =
    let next : Bool → Option Aim = λ b. cond b (Some (aim (kinds.Link (c.pushed (shard_of place))) (Link place))) None in
    let g : ℕ = generation_in leave.before in
    ap (λ (b : Bool). next (b && not (g == c.shape.last_generation) && not (shard_of place == c.lane))) claimed
    ∙ (ap (λ (b : Bool). next (true && not b && not (shard_of place == c.lane))) (ne_eqb g c.shape.last_generation later)
    ∙ (ap (λ (b : Bool). next (true && true && not b)) (ne_eqb (shard_of place) c.lane away)
    ∙ ap (λ (t : ℕ). Some (aim (kinds.Link t) (Link place))) (sym is)))

-- LINK and PUSH of a place, as steps
abbrev pub link-step : ℕ → ℕ → ℕ → Step
link-step place top found = record { kind = kinds.Link top; word = Link place; before = found; after = top }

abbrev pub push-step : ℕ → ℕ → ℕ → ℕ → ℕ → Step
push-step place lane top found left = record { kind = kinds.Push top (link_to place); word = Stack (shard_of place) lane; before = found; after = left }

pub no-links : ℕ → ℕ
no-links place = 0

-- the act of a PUSH of the place that the call is for
pub pushed-act : (call : Call) (place lane found top : ℕ) (b : Bool) → eqb found top ≡ b → place_of (key_in call) ≡ place
    → cond b (Some (acts.Home lane place)) None ≡ cond (eqb found top) (Some (acts.Home lane (place_of (key_in call)))) None
pushed-act call place lane found top b test at =
    ap (λ (p : ℕ). cond b (Some (acts.Home lane p)) None) (sym at) ∙ ap (λ (t : Bool). cond t (Some (acts.Home lane (place_of (key_in call)))) None) (sym test)

module _ {S : Type 0} {z : Shape} {place top : ℕ} {a b c : Me S View} {found : ℕ} (is : top ≡ pushed_in (the_lane a.0).pushed (shard_of place))
    (under : (the_lane a.0).under ≡ Returns place None false) (links : Links z top a b) (pushes : Pushes z top b found c) where
  abbrev lane : ℕ
  lane = (the_lane a.0).lane

  linked : Steps z (kinds.Link top) links.0 top a b None (with_return (the_lane a.0) place (Some top) false)
  linked = link-steps under links

  -- the first PUSH finds the word that was last pushed
  pub gives-once : found ≡ top → GivesHome z place a c
  gives-once hit leave claim claimed later away =
      let home = home-steps (under-return linked) pushes hit in
      let first : Step = link-step place top links.0 in
      let second : Step = push-step place lane top found (link_to place) in record {
        steps = first ∷ second ∷ [];
        made = acts.Home lane place ∷ [];
        are = (
          returns-next (caller_of z a.0) place top leave claim is claimed later away,
          (ap (λ (t : ℕ). Some (aim (kinds.Push t (link_to place)) (Stack (shard_of place) lane))) (sym is), tt),
        );
        all = ap (λ (b : Bool). cond b None (Some (aim (kinds.Link 0) (Link place)))) (eq-eqb found (pushed_in (the_lane a.0).pushed (shard_of place)) (hit ∙ is));
        make = λ call at. (
          None,
          no-links,
          acts.Home lane place ∷ [],
          linked.changes,
          refl,
          (Some (acts.Home lane place), no-links, [], home.changes, pushed-act call place lane found top true (eq-eqb found top hit) at, refl, refl),
          refl,
        );
        did = did-more (did-return linked) (did-home home lane (did-return linked).acted.lane);
        few = omega arith;
        idle = idle-home home;
      }

  module _ (other : found ≢ top) where
    failed : Steps z (kinds.Push top (link_to place)) found found b c None (with_return (the_lane b.0) place None true)
    failed = (fail-steps (under-return linked) pushes other).1

    -- where it finds another, the place is still at rest after that PUSH and the second LINK
    pub rests-again : {d : Me S View} → Links z 0 c d → SharesLaw → HasPlace z a.0 place → IsAtRest z a.0 place → IsAtRest z d.0 place
    rests-again more law has rests =
        let first = still-rests linked law has rests in
        let second = still-rests failed law first.0 first.1 in
        (still-rests (link-steps (under-return failed) more) law second.0 second.1).1

    -- and the second PUSH finds 0
    pub gives-twice : {d e : Me S View} {last : ℕ} → Links z 0 c d → Pushes z 0 d last e → GivesHome z place a e
    gives-twice {last = last} more again leave claim claimed later away =
        let relinked = link-steps (under-return failed) more in
        let none : last ≡ 0 = dite (ℕ_discrete last 0) (λ none. none) (λ some. let bad = (fail-steps (under-return relinked) again some).0 in absurd (cc bad)) in
        let home = home-steps (under-return relinked) again none in
        let before = did-more (did-return linked) (did-more (did-return failed) (did-return relinked)) in
        let first : Step = link-step place top links.0 in
        let second : Step = push-step place lane top found found in
        let third : Step = link-step place 0 more.0 in
        let fourth : Step = push-step place lane 0 last (link_to place) in record {
          steps = first ∷ second ∷ third ∷ fourth ∷ [];
          made = acts.Home lane place ∷ [];
          are = (
            returns-next (caller_of z a.0) place top leave claim is claimed later away,
            (
              ap (λ (t : ℕ). Some (aim (kinds.Push t (link_to place)) (Stack (shard_of place) lane))) (sym is),
              (
                ap (λ (b : Bool). cond b None (Some (aim (kinds.Link 0) (Link place))))
                    (ne_eqb found (pushed_in (the_lane a.0).pushed (shard_of place)) (λ same. other (same ∙ sym is))),
                (refl, tt),
              ),
            ),
          );
          all = refl;
          make = λ call at. (
            None,
            no-links,
            acts.Home lane place ∷ [],
            linked.changes,
            refl,
            (
              None,
              no-links,
              acts.Home lane place ∷ [],
              failed.changes,
              pushed-act call place lane found top false (ne_eqb found top other) at,
              (
                None,
                no-links,
                acts.Home lane place ∷ [],
                relinked.changes,
                refl,
                (Some (acts.Home lane place), no-links, [], home.changes, pushed-act call place lane last 0 true (eq-eqb last 0 none) at, refl, refl),
                refl,
              ),
              refl,
            ),
            refl,
          );
          did = did-more before (did-home home lane before.acted.lane);
          few = omega arith;
          idle = idle-home home;
        }
