-- The first so many steps of the return of a place of another shard.
use Rattle.std.proofs.Common.{◌≡◌, ◌≢◌, ℕ, ◌+◌, ◌-◌, ◌<◌, Bool, true, false, cond, List, [], ◌∷◌, ◌++◌, Option, Some, None, refl, sym, ap, ◌∙◌, arith, eq-eqb, ne_eqb}
use mathlib.Core.Logic.{dite}
use native.Mathlib.Decide.{ℕ_discrete}
use Rattle.atomic_table.specs.Table.{Me}
use Rattle.keybits.specs.declared.shape.Shape.{Shape}
use Rattle.keybits.specs.declared.step.Kind.{Kind}
use Rattle.keybits.specs.declared.step.Kind.TheVariants as kinds
use Rattle.keybits.specs.declared.step.Word.TheVariants.{Link, Stack}
use Rattle.keybits.specs.declared.step.Step.{Step}
use Rattle.keybits.specs.Links.{link_to}
use Rattle.keybits.specs.Places.{shard_of}
use Rattle.seqpool.specs.declared.act.Act.TheVariants as acts
use Rattle.steplaws.specs.declared.pending.Pending.TheVariants.{Returns}
use Rattle.steplaws.specs.Calls.{aim, end_next}
use Rattle.poolsteps.specs.declared.view.LaneRecord.{LaneRecord}
use Rattle.poolsteps.specs.declared.view.View.{View}
use Rattle.poolsteps.specs.Views.{head_record, the_lane, pushed_in}
use Rattle.poolsteps.specs.Told.{Steps}
use Rattle.poolsteps.specs.Returned.{with_return, Links, Pushes}
use Rattle.seatcalls.specs.Called.{caller_of}
use Rattle.seatcalls.proofs.parts.Doing.{same-caller}
use Rattle.seatcalls.proofs.parts.Returning.{link-steps, home-steps, fail-steps, did-return, under-return, did-home, returns-next, link-step, push-step, no-links, pushed-act}
use Rattle.shardpool.specs.Halted.{GoesWithin, GivesWithin}
use Rattle.shardpool.proofs.parts.Within.{within-after, within-first, within-last}

-- ---- each step, and those behind it

-- a step that leaves the place to be returned pushes nothing
pushed-still : {S : Type 0} {z : Shape} {kind : Kind} {found left place : ℕ} {linked : Option ℕ} {failed : Bool} {a b : Me S View}
    → Steps z kind found left a b None (with_return (the_lane a.0) place linked failed) → (the_lane b.0).pushed ≡ (the_lane a.0).pushed
pushed-still steps = ap (λ (lanes : List LaneRecord). (head_record lanes).pushed) steps.goes.lanes

caller-still : {S : Type 0} {z : Shape} {kind : Kind} {found left place : ℕ} {linked : Option ℕ} {failed : Bool} {a b : Me S View}
    → Steps z kind found left a b None (with_return (the_lane a.0) place linked failed) → caller_of z b.0 ≡ caller_of z a.0
caller-still {z = z} {a = a} {b = b} steps = same-caller z a.0 b.0 (did-return steps).acted.lane (pushed-still steps)

module _ {S : Type 0} {z : Shape} {place top : ℕ} {linked : Option ℕ} {failed : Bool} {a b : Me S View} (done : List Step)
    (under : (the_lane a.0).under ≡ Returns place linked failed) where
  -- a LINK
  goes-link : {more : ℕ} {c : Me S View} (links : Links z top a b) → end_next (caller_of z a.0) place done ≡ Some (aim (kinds.Link top) (Link place))
      → GoesWithin z place (done ++ link-step place top links.0 ∷ []) more b c → (limit : ℕ) → 1 + more ≡ limit → GoesWithin z place done limit a c
  goes-link links next rest limit sum =
      let steps = link-steps under links in
      within-first done (link-step place top links.0) None (caller-still steps) (did-return steps) next steps.changes (λ call at. (no-links, refl)) rest limit sum

  module _ {found : ℕ} (pushes : Pushes z top a found b)
      (next : end_next (caller_of z a.0) place done ≡ Some (aim (kinds.Push top (link_to place)) (Stack (shard_of place) (the_lane a.0).lane))) where
    -- a PUSH that fails
    goes-failed : {more : ℕ} {c : Me S View} → found ≢ top → GoesWithin z place (done ++ push-step place (the_lane a.0).lane top found found ∷ []) more b c
        → (limit : ℕ) → 1 + more ≡ limit → GoesWithin z place done limit a c
    goes-failed other rest limit sum =
        let steps = (fail-steps under pushes other).1 in
        within-first done (push-step place (the_lane a.0).lane top found found) None (caller-still steps) (did-return steps) next steps.changes
        (λ call at. (no-links, pushed-act call place (the_lane a.0).lane found top false (ne_eqb found top other) at)) rest limit sum

    -- and one that succeeds
    goes-home : found ≡ top → end_next (caller_of z a.0) place (done ++ push-step place (the_lane a.0).lane top found (link_to place) ∷ []) ≡ None
        → (limit : ℕ) → 0 < limit → GoesWithin z place done limit a b
    goes-home hit last limit some =
        let steps = home-steps under pushes hit in
        within-last done (push-step place (the_lane a.0).lane top found (link_to place)) (Some (acts.Home (the_lane a.0).lane place)) (did-home steps (the_lane a.0).lane refl)
        next steps.changes (λ call at. (no-links, pushed-act call place (the_lane a.0).lane found top true (eq-eqb found top hit) at)) last limit some

-- ---- the return

module _ {S : Type 0} {z : Shape} {place top : ℕ} (limit : ℕ) {a b : Me S View} (is : top ≡ pushed_in (the_lane a.0).pushed (shard_of place))
    (under : (the_lane a.0).under ≡ Returns place None false) (links : Links z top a b) where
  -- the first LINK alone
  pub gives-link : limit ≡ 1 → GivesWithin z place limit a b
  gives-link one leave claim claimed later away = goes-link (leave ∷ claim ∷ []) under links (returns-next (caller_of z a.0) place top leave claim is claimed later away)
      (within-after (leave ∷ claim ∷ link-step place top links.0 ∷ []) (did-return (link-steps under links))) limit (sym one)

  module _ {found : ℕ} {c : Me S View} (pushes : Pushes z top b found c) where
    linked-under : (the_lane b.0).under ≡ Returns place (Some top) false
    linked-under = under-return (link-steps under links)

    linked-is : top ≡ pushed_in (the_lane b.0).pushed (shard_of place)
    linked-is = is ∙ ap (λ (pushes : List (ℕ × ℕ)). pushed_in pushes (shard_of place)) (sym (pushed-still (link-steps under links)))

    abbrev lane : ℕ
    lane = (the_lane b.0).lane

    abbrev done : Step → Step → List Step
    done leave claim = leave ∷ claim ∷ link-step place top links.0 ∷ []

    push-next : (leave claim : Step) → end_next (caller_of z b.0) place (done leave claim) ≡ Some (aim (kinds.Push top (link_to place)) (Stack (shard_of place) lane))
    push-next leave claim = ap (λ (t : ℕ). Some (aim (kinds.Push t (link_to place)) (Stack (shard_of place) lane))) (sym linked-is)

    -- and the PUSH, which succeeds
    pub gives-home : found ≡ top → 1 < limit → GivesWithin z place limit a c
    gives-home hit some leave claim claimed later away =
        let last : end_next (caller_of z b.0) place (leave ∷ claim ∷ link-step place top links.0 ∷ push-step place lane top found (link_to place) ∷ []) ≡ None
        = ap (λ (b : Bool). cond b None (Some (aim (kinds.Link 0) (Link place))))
        (eq-eqb found (pushed_in (the_lane b.0).pushed (shard_of place)) (hit ∙ linked-is)) in
        goes-link (leave ∷ claim ∷ []) under links (returns-next (caller_of z a.0) place top leave claim is claimed later away)
        (goes-home (done leave claim) linked-under pushes (push-next leave claim) hit last (limit - 1) (omega (arith, some))) limit (omega (arith, some))

    module _ (other : found ≢ top) where
      failed-steps : Steps z (kinds.Push top (link_to place)) found found b c None (with_return (the_lane b.0) place None true)
      failed-steps = (fail-steps linked-under pushes other).1

      abbrev failed : Step
      failed = push-step place lane top found found

      -- or which fails, and what follows it
      gives-on : {more : ℕ} {d : Me S View} → ((leave claim : Step) → GoesWithin z place (leave ∷ claim ∷ link-step place top links.0 ∷ failed ∷ []) more c d)
          → 2 + more ≡ limit → GivesWithin z place limit a d
      gives-on {more = more} rest sum leave claim claimed later away =
          goes-link (leave ∷ claim ∷ []) under links (returns-next (caller_of z a.0) place top leave claim is claimed later away)
          (goes-failed (done leave claim) linked-under pushes (push-next leave claim) other (rest leave claim) (1 + more) (omega arith)) limit (omega (arith, sum))

      -- nothing
      pub gives-failed : limit ≡ 2 → GivesWithin z place limit a c
      gives-failed two = gives-on (λ leave claim. within-after (leave ∷ claim ∷ link-step place top links.0 ∷ failed ∷ []) (did-return failed-steps)) (omega (arith, two))

      module _ {d : Me S View} (again : Links z 0 c d) where
        failed-is : top ≡ pushed_in (the_lane c.0).pushed (shard_of place)
        failed-is = linked-is ∙ ap (λ (pushes : List (ℕ × ℕ)). pushed_in pushes (shard_of place)) (sym (pushed-still failed-steps))

        link-next : (leave claim : Step)
            → end_next (caller_of z c.0) place (leave ∷ claim ∷ link-step place top links.0 ∷ failed ∷ []) ≡ Some (aim (kinds.Link 0) (Link place))
        link-next leave claim = ap (λ (b : Bool). cond b None (Some (aim (kinds.Link 0) (Link place))))
            (ne_eqb found (pushed_in (the_lane c.0).pushed (shard_of place)) (λ same. other (same ∙ sym failed-is)))

        abbrev relinked : Step → Step → List Step
        relinked leave claim = leave ∷ claim ∷ link-step place top links.0 ∷ failed ∷ link-step place 0 again.0 ∷ []

        -- the second LINK
        pub gives-again : limit ≡ 3 → GivesWithin z place limit a d
        gives-again three = gives-on
            (λ leave claim. goes-link (leave ∷ claim ∷ link-step place top links.0 ∷ failed ∷ []) (under-return failed-steps) again (link-next leave claim)
            (within-after (relinked leave claim) (did-return (link-steps (under-return failed-steps) again))) 1 (omega arith)) (omega (arith, three))

        -- and the second PUSH
        pub gives-last : {last : ℕ} {e : Me S View} → Pushes z 0 d last e → 3 < limit → GivesWithin z place limit a e
        gives-last {last = last} pushed some =
            let under-again = under-return (link-steps (under-return failed-steps) again) in
            let none : last ≡ 0 = dite (ℕ_discrete last 0) (λ none. none) (λ some. let bad = (fail-steps under-again pushed some).0 in absurd (cc bad)) in
            gives-on {more = limit - 2}
            (λ leave claim. goes-link (leave ∷ claim ∷ link-step place top links.0 ∷ failed ∷ []) (under-return failed-steps) again (link-next leave claim)
            (goes-home (relinked leave claim) under-again pushed refl none refl (limit - 3) (omega (arith, some))) (limit - 2) (omega (arith, some))) (omega (arith, some))
