-- The steps of an END keep the rule; and a call whose next step is still to come has pushed nothing.
use Rattle.std.proofs.Common.{◌≡◌, ℕ, ◌+◌, ◌-◌, ◌<◌, Bool, true, false, not, cond, eqb, ◌&&◌, List, [], ◌∷◌, ◌++◌, Option, Some, None, refl, ap, sym, ◌∙◌, subst, arith, append-nil, ltb}
use Rattle.std.proofs.lemmas.Bool.{eqb-true, eqb-false}
use Rattle.keybits.specs.declared.shape.Shape.{Shape}
use Rattle.keybits.specs.declared.step.Kind.{Kind}
use Rattle.keybits.specs.declared.step.Kind.TheVariants as kinds
use Rattle.keybits.specs.declared.step.Word.{Word}
use Rattle.keybits.specs.declared.step.Word.TheVariants.{Life, Link, Stack}
use Rattle.keybits.specs.declared.step.Step.{Step}
use Rattle.keybits.specs.Places.{shard_of}
use Rattle.keybits.specs.Shapes.{is_place}
use Rattle.keybits.specs.Keys.{key_number, place_of, is_key}
use Rattle.keybits.specs.Words.{word_with, generation_in, claimable}
use Rattle.keybits.specs.Links.{link_to, linked_place}
use Rattle.keybits.specs.Steps.{Changes}
use Rattle.seqpool.specs.declared.act.Act.{Act}
use Rattle.seqpool.specs.declared.act.Act.TheVariants as acts
use Rattle.seqpool.specs.Pool.{put, references, pool_after}
use Rattle.steplaws.specs.declared.pending.Pending.{Pending}
use Rattle.steplaws.specs.declared.pending.Pending.TheVariants.{Nothing, Undo, Owes, Returns}
use Rattle.steplaws.specs.Calls.{Call, Publishing, Getting, Releasing, Clearing, Creating, Caller, Aim, aim, is_hit, owes_claim, is_claimed, end_next, mark_next, follow_next, next_lane, first_lane, take_next, next_step, AreSteps, key_in, LeaveMakes, KindMakes, Makes}
use Rattle.steplaws.specs.Facts.{put_at, value_of, with_value, Lanes, with_under, with_pushed, Moment, moment, Rule}
use Rattle.steplaws.specs.StepLaws.{with_act, owed_after, Keeps}
use Rattle.steplaws.proofs.Leaves.{undo-law, release-law}
use Rattle.steplaws.proofs.Claims.{claim-own-law, claim-other-law, claim-last-law, claim-fails-law}
use Rattle.steplaws.proofs.LinkLaws.{link-law, push-succeeds-law, push-fails-law, push-again-law}
use Rattle.traces.proofs.Worlds.{lanes_with}
use Rattle.traces.specs.Books.{act_list, pushed_by, pushed_after}
use Rattle.traces.specs.Parts.{under_end}

-- these steps, one after another, are those of an END at the place after the ones made so far, and each meets the step relation
abbrev pub AreEndSteps : Caller → ℕ → List Step → List Step → Type 0
AreEndSteps c place made [] = Unit {0}
AreEndSteps c place made (step ∷ more) =
    (end_next c place made ≡ Some (aim step.kind step.word)) × Changes c.shape.last_generation step.kind step.before step.after
    × AreEndSteps c place (made ++ step ∷ []) more

-- what the lane has under way in the END of this call, after these of the END's steps: before the first a reference to release or an ENTER to undo
abbrev pub IsLeaving : Shape → Moment → ℕ → Call → List Step → Type 0
IsLeaving z m lane (Publishing key content with_ref) [] = ⊥
IsLeaving z m lane (Getting key) [] = (hit : Bool) × (m.lanes.under lane ≡ Undo key hit)
IsLeaving z m lane (Releasing key) [] = (m.lanes.under lane ≡ Nothing) × (0 < references z (pool_after z m.history) lane key)
IsLeaving z m lane (Clearing key) [] = (hit : Bool) × (m.lanes.under lane ≡ Undo key hit)
IsLeaving z m lane (Creating own chain opened) [] = ⊥
IsLeaving z m lane call (step ∷ more) = m.lanes.under lane ≡ under_end z lane (place_of (key_in call)) (step ∷ more)

-- ---- the next step

-- a step that comes next where a test holds, and where it fails
next_where : (b : Bool) (x y : Aim) → cond b (Some x) None ≡ Some y → (b ≡ true) × (x ≡ y)
next_where true x y e = (refl, cc e)
next_where false x y e = absurd (cc e)

next_unless : (b : Bool) (x y : Aim) → cond b None (Some x) ≡ Some y → (b ≡ false) × (x ≡ y)
next_unless true x y e = absurd (cc e)
next_unless false x y e = (refl, cc e)

next_is : (x y : Aim) → Some x ≡ Some y → x ≡ y
next_is x y e = cc e

next_none : {A : Type 0} (y : Aim) → None ≡ Some y → A
next_none y e = absurd (cc e)

-- a LINK left its top
linked_top : (last top before after : ℕ) (kind : Kind) → kinds.Link top ≡ kind → Changes last kind before after → after ≡ top
linked_top last top before after kind is changes = subst (λ (k : Kind). Changes last k before after) (sym is) changes

-- ---- the moment after a step

-- the history with an act
acts_with : (history : List Act) (act : Option Act) → with_act history act ≡ history ++ act_list act
acts_with history None = sym (append-nil history)
acts_with history (Some act) = refl

-- a lane that has this under way, and has pushed nothing more
unpushed_lanes : (lanes : Lanes) (lane : ℕ) (u : Pending) (pushed : ℕ → ℕ) → ((shard : ℕ) → lanes.pushed shard lane ≡ pushed shard)
    → with_under lanes lane u ≡ lanes_with lanes lane u pushed
unpushed_lanes lanes lane u pushed same = λ i. record {
  under = put_at lanes.under lane u;
  pushed = λ shard other. at shard other (eqb other lane) refl i;
  chain = lanes.chain;
}
  where
    at : (shard other : ℕ) (b : Bool) → eqb other lane ≡ b → lanes.pushed shard other ≡ cond b (pushed shard) (lanes.pushed shard other)
    at shard other true e = ap (lanes.pushed shard) (eqb-true other lane e) ∙ same shard
    at shard other false e = refl

-- a lane that has pushed this word
pushed_lanes : (lanes : Lanes) (lane shard word : ℕ) (pushed : ℕ → ℕ) → ((shard : ℕ) → lanes.pushed shard lane ≡ pushed shard)
    → with_pushed lanes shard lane word ≡ lanes_with lanes lane Nothing (put pushed shard word)
pushed_lanes lanes lane shard word pushed same = λ i. record {
  under = put_at lanes.under lane Nothing;
  pushed = λ each other. at each other (eqb each shard) (eqb other lane) refl i;
  chain = lanes.chain;
}
  where
    at : (each other : ℕ) (a b : Bool) → eqb other lane ≡ b
        → cond (a && b) word (lanes.pushed each other) ≡ cond b (cond a word (pushed each)) (lanes.pushed each other)
    at each other true true e = refl
    at each other false true e = ap (lanes.pushed each) (eqb-true other lane e) ∙ same each
    at each other true false e = refl
    at each other false false e = refl

module _ (z : Shape) (m : Moment) (lane : ℕ) where
  -- the rule holds after a step that left this value in the word and made this act or none; the lane has then this under way, and has pushed these words
  abbrev Kept : Word → ℕ → Option Act → Pending → (ℕ → ℕ) → Type 0
  Kept word value act u new = Rule z (moment (with_value m.words word value) (m.history ++ act_list act) (lanes_with m.lanes lane u new))

  kept_by : (kind : Kind) (word : Word) (value : ℕ) (act : Option Act) (lanes : Lanes) (u : Pending) (new : ℕ → ℕ)
      → lanes ≡ lanes_with m.lanes lane u new → Keeps z m kind word value act lanes → Kept word value act u new
  kept_by kind word value act lanes u new is keeps =
      subst (λ (t : List Act × Lanes). Rule z (moment (with_value m.words word value) t.0 t.1)) (λ i. (acts_with m.history act i, is i)) keeps.rule

  module _ (pushed : ℕ → ℕ) (same : (shard : ℕ) → m.lanes.pushed shard lane ≡ pushed shard) where
    unpushed : (kind : Kind) (word : Word) (value : ℕ) (act : Option Act) (u : Pending) → Keeps z m kind word value act (with_under m.lanes lane u)
        → Kept word value act u pushed
    unpushed kind word value act u keeps = kept_by kind word value act (with_under m.lanes lane u) u pushed
        (unpushed_lanes m.lanes lane u pushed same) keeps

    has_pushed : (kind : Kind) (shard value word : ℕ) (act : Option Act)
        → Keeps z m kind (Stack shard lane) value act (with_pushed m.lanes shard lane word)
        → Kept (Stack shard lane) value act Nothing (put pushed shard word)
    has_pushed kind shard value word act keeps = kept_by kind (Stack shard lane) value act (with_pushed m.lanes shard lane word) Nothing
        (put pushed shard word) (pushed_lanes m.lanes lane shard word pushed same) keeps

    module _ (rule : Rule z m) (below : lane < z.lanes) where
      -- LEAVE
      module _ (before after : ℕ) (change : before ≡ after + 4) where
        abbrev Left : ℕ → Option Act → Type 0
        Left place act = Kept (Life place) after act (cond (owes_claim before) (Owes place (generation_in before)) Nothing) pushed

        left_by : (place : ℕ) (act : Option Act) → before ≡ m.words.life place
            → Keeps z m kinds.Leave (Life place) (m.words.life place - 4) act (with_under m.lanes lane (owed_after place (m.words.life place)))
            → Left place act
        left_by place act found keeps =
            let value : m.words.life place - 4 ≡ after = omega arith in
            subst (λ (t : ℕ × ℕ). Kept (Life place) t.0 act (owed_after place t.1) pushed) (λ i. (value i, sym found i))
            (unpushed kinds.Leave (Life place) (m.words.life place - 4) act (owed_after place (m.words.life place)) keeps)

        undo_leaves : (key : ℕ) (hit : Bool) (act : Option Act) → is_place z (place_of key) ≡ true → m.lanes.under lane ≡ Undo key hit
            → before ≡ m.words.life (place_of key) → act ≡ None → Left (place_of key) act
        undo_leaves key hit act inside is found made = subst (Left (place_of key)) (sym made)
            (left_by (place_of key) None found (undo-law z m lane key hit rule (omega (arith, below), is) inside))

        leave_cases : (call : Call) (act : Option Act) → is_place z (place_of (key_in call)) ≡ true → IsLeaving z m lane call []
            → before ≡ m.words.life (place_of (key_in call)) → LeaveMakes (record { shape = z; lane = lane; pushed = pushed }) call act
            → Left (place_of (key_in call)) act
        leave_cases (Publishing key content with_ref) act inside leaving found made = absurd leaving
        leave_cases (Getting key) act inside leaving found made = undo_leaves key leaving.0 act inside leaving.1 found made
        leave_cases (Releasing key) act inside leaving found made = subst (Left (place_of key)) (sym made)
            (left_by (place_of key) (Some (acts.Release lane key)) found (release-law z m lane key rule (omega (arith, below), leaving.0) leaving.1))
        leave_cases (Clearing key) act inside leaving found made = undo_leaves key leaving.0 act inside leaving.1 found made
        leave_cases (Creating own chain opened) act inside leaving found made = absurd leaving

      module _ (place : ℕ) (inside : is_place z place ≡ true) where
        -- CLAIM
        module _ (g before after : ℕ) (owes : m.lanes.under lane ≡ Owes place g) (found : before ≡ m.words.life place) where
          claimed_by : (value : ℕ) (act : Option Act) (u : Pending) → value ≡ after → act ≡ Some (acts.Reclaim lane (key_number z.tag place g))
              → Keeps z m (kinds.Claim g) (Life place) value (Some (acts.Reclaim lane (key_number z.tag place g))) (with_under m.lanes lane u)
              → Kept (Life place) after act u pushed
          claimed_by value act u word made keeps = subst (λ (t : ℕ × Option Act). Kept (Life place) t.0 t.1 u pushed) (λ i. (word i, sym made i))
              (unpushed (kinds.Claim g) (Life place) value (Some (acts.Reclaim lane (key_number z.tag place g))) u keeps)

          claim_cases : (a b d : Bool) (act : Option Act) → eqb before (claimable g) ≡ a → eqb g z.last_generation ≡ b → eqb (shard_of place) lane ≡ d
              → after ≡ cond a (cond b (before - 1) (before + 4294967293)) before
              → act ≡ cond a (Some (acts.Reclaim lane (key_number z.tag place g))) None
              → Kept (Life place) after act (cond (a && not b && not d) (Returns place None false) Nothing) pushed
          claim_cases false b d act miss last own change made =
              subst (λ (t : ℕ × Option Act). Kept (Life place) t.0 t.1 Nothing pushed) (λ i. (sym (change ∙ found) i, sym made i))
              (unpushed (kinds.Claim g) (Life place) (m.words.life place) None Nothing
              (claim-fails-law z m lane place g rule (omega (arith, below), owes) inside (λ hit. eqb-false before (claimable g) miss (found ∙ hit))))
          claim_cases true true d act hit last own change made =
              let is : before ≡ claimable g = eqb-true before (claimable g) hit in
              claimed_by (word_with 2 0 g) act Nothing (omega arith) made
              (claim-last-law z m lane place g rule (omega (arith, below), owes) inside (eqb-true g z.last_generation last) (sym found ∙ is))
          claim_cases true false true act hit less own change made =
              let is : before ≡ claimable g = eqb-true before (claimable g) hit in
              claimed_by (word_with 0 0 (g + 1)) act Nothing (omega arith) made
              (claim-own-law z m lane place g rule (omega (arith, below), owes) inside
              (eqb-false g z.last_generation less) (eqb-true (shard_of place) lane own) (sym found ∙ is))
          claim_cases true false false act hit less other change made =
              let is : before ≡ claimable g = eqb-true before (claimable g) hit in
              claimed_by (word_with 0 0 (g + 1)) act (Returns place None false) (omega arith) made
              (claim-other-law z m lane place g rule (omega (arith, below), owes) inside
              (eqb-false g z.last_generation less) (eqb-false (shard_of place) lane other) (sym found ∙ is))

        -- LINK
        link_leads : (linked : Option ℕ) (failed : Bool) (top after : ℕ) (act : Option Act)
            → m.lanes.under lane ≡ Returns place linked failed → after ≡ top → act ≡ None
            → Kept (Link place) after act (Returns place (Some after) failed) pushed
        link_leads linked failed top after act is change made =
            subst (λ (t : ℕ × Option Act). Kept (Link place) t.0 t.1 (Returns place (Some t.0) failed) pushed) (λ i. (sym change i, sym made i))
            (unpushed (kinds.Link top) (Link place) top None (Returns place (Some top) failed)
            (link-law z m lane place top linked failed rule (omega (arith, below), is)))

        -- PUSH
        module _ (top before after : ℕ) (act : Option Act) (found : before ≡ m.words.stack (shard_of place) lane) where
          abbrev shard : ℕ
          shard = shard_of place

          pushed_to : (value : ℕ) → value ≡ after → act ≡ Some (acts.Home lane place)
              → Keeps z m (kinds.Push top (link_to place)) (Stack shard lane) value (Some (acts.Home lane place))
              (with_pushed m.lanes shard lane (link_to place))
              → Kept (Stack shard lane) after act Nothing (put pushed shard (link_to place))
          pushed_to value word made keeps =
              subst (λ (t : ℕ × Option Act). Kept (Stack shard lane) t.0 t.1 Nothing (put pushed shard (link_to place)))
              (λ i. (word i, sym made i))
              (has_pushed (kinds.Push top (link_to place)) shard value (link_to place) (Some (acts.Home lane place)) keeps)

          push_cases : (a failed : Bool) → m.lanes.under lane ≡ Returns place (Some top) failed → pushed shard ≡ top → eqb before top ≡ a
              → after ≡ cond a (link_to place) before → act ≡ cond a (Some (acts.Home lane place)) None
              → Kept (Stack shard lane) after act (cond a Nothing (Returns place None true)) (cond a (put pushed shard (link_to place)) pushed)
          push_cases true failed is last hit change made = pushed_to (link_to place) (sym change) made
              (push-succeeds-law z m lane place top failed rule below (omega (arith, below), is) (sym found ∙ eqb-true before top hit))
          push_cases false failed is last miss change made =
              let is_last : top ≡ m.lanes.pushed shard lane = sym (same shard ∙ last) in
              let law = push-fails-law z m lane place failed rule below (omega (arith, below), is ∙ ap (λ (t : ℕ). Returns place (Some t) failed) is_last)
              (λ e. eqb-false before top miss (found ∙ (e ∙ sym is_last))) in
              subst (λ (t : ℕ × Option Act). Kept (Stack shard lane) t.0 t.1 (Returns place None true) pushed)
              (λ i. (sym (change ∙ (found ∙ law.0)) i, sym made i))
              (unpushed (kinds.Push (m.lanes.pushed shard lane) (link_to place)) (Stack shard lane) 0 None
              (Returns place None true) law.1)

          push_again : (a : Bool) → m.lanes.under lane ≡ Returns place (Some 0) true → top ≡ 0 → eqb before 0 ≡ a
              → after ≡ cond a (link_to place) before → act ≡ cond a (Some (acts.Home lane place)) None
              → Kept (Stack shard lane) after act Nothing (cond a (put pushed shard (link_to place)) pushed)
          push_again true is none hit change made = pushed_to (link_to place) (sym change) made
              (push-succeeds-law z m lane place top true rule below (omega (arith, below), is ∙ ap (λ (t : ℕ). Returns place (Some t) true) (sym none))
              (sym found ∙ (eqb-true before 0 hit ∙ sym none)))
          push_again false is none miss change made = absurd (eqb-false before 0 miss (found ∙ (push-again-law z m lane place rule below (omega (arith, below), is)).0))

-- ---- an END

module _ (z : Shape) (m : Moment) (lane place : ℕ) (pushed : ℕ → ℕ) (call : Call) (step : Step) (act : Option Act) (links : ℕ → ℕ)
    (rule : Rule z m) (below : lane < z.lanes) (inside : is_place z place ≡ true) (at : place_of (key_in call) ≡ place)
    (same : (shard : ℕ) → m.lanes.pushed shard lane ≡ pushed shard) where
  abbrev ender : Caller
  ender = record { shape = z; lane = lane; pushed = pushed }

  -- what is to be shown of a next step that is to do this, after these
  abbrev Told : List Step → Aim → Type 0
  Told made to = step.before ≡ value_of m.words to.word → Changes z.last_generation to.kind step.before step.after
      → KindMakes to.kind ender call links to.word step.before act
      → Kept z m lane to.word step.after act (under_end z lane place (made ++ step ∷ [])) (pushed_by step to.kind to.word pushed)

  told_by : (made : List Step) (to : Aim) → to ≡ aim step.kind step.word → Told made to → Told made (aim step.kind step.word)
  told_by made to is told = subst (Told made) is told

  -- what is under way at the place of the call
  under_at : (made : List Step) → m.lanes.under lane ≡ under_end z lane (place_of (key_in call)) made → m.lanes.under lane ≡ under_end z lane place made
  under_at made is = is ∙ ap (λ (p : ℕ). under_end z lane p made) at

  -- the act of a PUSH is of the place
  home_at : (b : Bool) → act ≡ cond b (Some (acts.Home lane (place_of (key_in call)))) None → act ≡ cond b (Some (acts.Home lane place)) None
  home_at b made = made ∙ ap (λ (p : ℕ). cond b (Some (acts.Home lane p)) None) at

  -- the first LINK left the word that the lane last pushed
  linked_after : (leave claim link : Step) → end_next ender place (leave ∷ claim ∷ []) ≡ Some (aim link.kind link.word)
      → Changes z.last_generation link.kind link.before link.after → link.after ≡ pushed (shard_of place)
  linked_after leave claim link next changes =
      let g : ℕ = generation_in leave.before in
      let n = next_where (is_claimed g claim.before && not (eqb g z.last_generation) && not (eqb (shard_of place) lane))
      (aim (kinds.Link (pushed (shard_of place))) (Link place)) (aim link.kind link.word) next in
      linked_top z.last_generation (pushed (shard_of place)) link.before link.after link.kind (ap (λ (a : Aim). a.kind) n.1) changes

  by_made : (made : List Step) → AreEndSteps ender place [] made → IsLeaving z m lane call made
      → end_next ender place made ≡ Some (aim step.kind step.word) → Told made (aim step.kind step.word)
  by_made [] steps leaving next = told_by [] (aim kinds.Leave (Life place)) (next_is (aim kinds.Leave (Life place)) (aim step.kind step.word) next)
      (λ found change makes.
      subst (λ (p : ℕ). is_place z p ≡ true → step.before ≡ m.words.life p
      → Kept z m lane (Life p) step.after act (cond (owes_claim step.before) (Owes p (generation_in step.before)) Nothing) pushed) at
      (λ good there. leave_cases z m lane pushed same rule below step.before step.after change.1 call act good leaving there makes) inside found)
  by_made (leave ∷ []) steps leaving next =
      let g : ℕ = generation_in leave.before in
      let n = next_where (owes_claim leave.before) (aim (kinds.Claim g) (Life place)) (aim step.kind step.word) next in
      let owes : m.lanes.under lane ≡ Owes place g = under_at (leave ∷ []) leaving ∙ ap (λ (b : Bool). cond b (Owes place g) Nothing) n.0 in
      told_by (leave ∷ []) (aim (kinds.Claim g) (Life place)) n.1
      (λ found change makes. claim_cases z m lane pushed same rule below place inside g step.before step.after owes found
      (is_claimed g step.before) (eqb g z.last_generation) (eqb (shard_of place) lane) act refl refl refl change makes)
  by_made (leave ∷ claim ∷ []) steps leaving next =
      let g : ℕ = generation_in leave.before in
      let to : Aim = aim (kinds.Link (pushed (shard_of place))) (Link place) in
      let test : Bool = is_claimed g claim.before && not (eqb g z.last_generation) && not (eqb (shard_of place) lane) in
      let n = next_where test to (aim step.kind step.word) next in
      let is : m.lanes.under lane ≡ Returns place None false =
      under_at (leave ∷ claim ∷ []) leaving ∙ ap (λ (b : Bool). cond b (Returns place None false) Nothing) n.0 in
      told_by (leave ∷ claim ∷ []) to n.1
      (λ found change makes. link_leads z m lane pushed same rule below place inside None false (pushed (shard_of place)) step.after act is change makes)
  by_made (leave ∷ claim ∷ link ∷ []) steps leaving next =
      let top : ℕ = pushed (shard_of place) in
      let to : Aim = aim (kinds.Push top (link_to place)) (Stack (shard_of place) lane) in
      let linked : link.after ≡ top = linked_after leave claim link steps.2.2.0 steps.2.2.1 in
      let is : m.lanes.under lane ≡ Returns place (Some top) false =
      under_at (leave ∷ claim ∷ link ∷ []) leaving ∙ ap (λ (t : ℕ). Returns place (Some t) false) linked in
      told_by (leave ∷ claim ∷ link ∷ []) to (next_is to (aim step.kind step.word) next)
      (λ found change makes.
      subst (λ (t : ℕ). Kept z m lane (Stack (shard_of place) lane) step.after act (cond (eqb step.before t) Nothing (Returns place None true))
      (cond (eqb step.before top) (put pushed (shard_of place) (link_to place)) pushed)) (sym linked)
      (push_cases z m lane pushed same rule below place inside top step.before step.after act found
      (eqb step.before top) false is refl refl change (home_at (eqb step.before top) makes)))
  by_made (leave ∷ claim ∷ link ∷ push ∷ []) steps leaving next =
      let top : ℕ = pushed (shard_of place) in
      let to : Aim = aim (kinds.Link 0) (Link place) in
      let n = next_unless (eqb push.before top) to (aim step.kind step.word) next in
      let linked : link.after ≡ top = linked_after leave claim link steps.2.2.0 steps.2.2.1 in
      let is : m.lanes.under lane ≡ Returns place None true =
      under_at (leave ∷ claim ∷ link ∷ push ∷ []) leaving
      ∙ ap (λ (b : Bool). cond b Nothing (Returns place None true)) (ap (eqb push.before) linked ∙ n.0) in
      told_by (leave ∷ claim ∷ link ∷ push ∷ []) to n.1
      (λ found change makes. link_leads z m lane pushed same rule below place inside None true 0 step.after act is change makes)
  by_made (leave ∷ claim ∷ link ∷ push ∷ again ∷ []) steps leaving next =
      let to : Aim = aim (kinds.Push 0 (link_to place)) (Stack (shard_of place) lane) in
      let n = next_unless (eqb push.before (pushed (shard_of place))) (aim (kinds.Link 0) (Link place)) (aim again.kind again.word) steps.2.2.2.2.0 in
      let linked : again.after ≡ 0 = linked_top z.last_generation 0 again.before again.after again.kind (ap (λ (a : Aim). a.kind) n.1) steps.2.2.2.2.1 in
      let is : m.lanes.under lane ≡ Returns place (Some 0) true =
      under_at (leave ∷ claim ∷ link ∷ push ∷ again ∷ []) leaving ∙ ap (λ (t : ℕ). Returns place (Some t) true) linked in
      told_by (leave ∷ claim ∷ link ∷ push ∷ again ∷ []) to (next_is to (aim step.kind step.word) next)
      (λ found change makes. push_again z m lane pushed same rule below place inside 0 step.before step.after act found
      (eqb step.before 0) is refl refl change (home_at (eqb step.before 0) makes))
  by_made (leave ∷ claim ∷ link ∷ push ∷ again ∷ last ∷ more) steps leaving next = next_none (aim step.kind step.word) next

-- the next step of an END keeps the rule
pub end_rule : (z : Shape) (m : Moment) (lane place : ℕ) (pushed : ℕ → ℕ) (call : Call) (made : List Step) (step : Step) (act : Option Act)
    → Rule z m → lane < z.lanes → is_place z place ≡ true → place_of (key_in call) ≡ place
    → ((shard : ℕ) → m.lanes.pushed shard lane ≡ pushed shard)
    → AreEndSteps (record { shape = z; lane = lane; pushed = pushed }) place [] made
    → IsLeaving z m lane call made
    → end_next (record { shape = z; lane = lane; pushed = pushed }) place made ≡ Some (aim step.kind step.word)
    → step.before ≡ value_of m.words step.word → Changes z.last_generation step.kind step.before step.after
    → (links : ℕ → ℕ) → Makes (record { shape = z; lane = lane; pushed = pushed }) call links step act
    → Rule z (moment (with_value m.words step.word step.after) (m.history ++ act_list act)
    (lanes_with m.lanes lane (under_end z lane place (made ++ step ∷ [])) (pushed_by step step.kind step.word pushed)))
end_rule z m lane place pushed call made step act rule below inside at same steps leaving next found change links makes =
    by_made z m lane place pushed call step act links rule below inside at same made steps leaving next found change makes

-- ---- what a call has pushed before its last step

-- a PUSH
abbrev is_push : Kind → Bool
is_push kinds.Enter = false
is_push kinds.Leave = false
is_push (kinds.Publish with_ref) = false
is_push kinds.Mark = false
is_push (kinds.Claim generation) = false
is_push (kinds.Link expected) = false
is_push (kinds.Push expected link) = true
is_push kinds.Take = false
is_push kinds.Follow = false

-- another step pushes nothing
other_kind : (step : Step) (kind : Kind) (word : Word) (pushed : ℕ → ℕ) → is_push kind ≡ false → pushed_by step kind word pushed ≡ pushed
other_kind step kinds.Enter word pushed other = refl
other_kind step kinds.Leave word pushed other = refl
other_kind step (kinds.Publish with_ref) word pushed other = refl
other_kind step kinds.Mark word pushed other = refl
other_kind step (kinds.Claim generation) word pushed other = refl
other_kind step (kinds.Link expected) word pushed other = refl
other_kind step (kinds.Push expected link) word pushed other = absurd (cc other)
other_kind step kinds.Take word pushed other = refl
other_kind step kinds.Follow word pushed other = refl

other_step : (step : Step) (to : Aim) (pushed : ℕ → ℕ) → to ≡ aim step.kind step.word → is_push to.kind ≡ false
    → pushed_by step step.kind step.word pushed ≡ pushed
other_step step to pushed is other = subst (λ (x : Aim). pushed_by step x.kind x.word pushed ≡ pushed) is (other_kind step to.kind to.word pushed other)

-- a PUSH that failed pushes nothing
failed_step : (step : Step) (expected link shard lane : ℕ) (pushed : ℕ → ℕ) → aim (kinds.Push expected link) (Stack shard lane) ≡ aim step.kind step.word
    → eqb step.before expected ≡ false → pushed_by step step.kind step.word pushed ≡ pushed
failed_step step expected link shard lane pushed is failed = subst (λ (x : Aim). pushed_by step x.kind x.word pushed ≡ pushed) is
    (ap (λ (b : Bool). cond b (put pushed shard link) pushed) failed)

-- steps that are no PUSH push nothing
others : (c : Caller) (call : Call) → ((made : List Step) (to : Aim) → next_step c call made ≡ Some to → is_push to.kind ≡ false)
    → (made steps : List Step) → AreSteps c call made steps → (pushed : ℕ → ℕ) → pushed_after steps pushed ≡ pushed
others c call other made [] are pushed = refl
others c call other made (step ∷ more) are pushed =
    ap (pushed_after more) (other_kind step step.kind step.word pushed (other made (aim step.kind step.word) are.0))
    ∙ others c call other (made ++ step ∷ []) more are.1 pushed

-- the steps of an END so far, by what comes next alone
abbrev pub AreEnd : Caller → ℕ → List Step → List Step → Type 0
AreEnd c place made [] = Unit {0}
AreEnd c place made (step ∷ more) = (end_next c place made ≡ Some (aim step.kind step.word)) × AreEnd c place (made ++ step ∷ []) more

-- they are the steps of a call behind those that it makes first
pub end_of : (c : Caller) (call : Call) (place : ℕ) (front : List Step → List Step)
    → ((made : List Step) (step : Step) → front made ++ step ∷ [] ≡ front (made ++ step ∷ []))
    → ((made : List Step) (to : Aim) → next_step c call (front made) ≡ Some to → end_next c place made ≡ Some to)
    → (made steps : List Step) → AreSteps c call (front made) steps → AreEnd c place made steps
end_of c call place front grows same made [] are = tt
end_of c call place front grows same made (step ∷ more) are = (
  same made (aim step.kind step.word) are.0,
  end_of c call place front grows same (made ++ step ∷ []) more (subst (λ (xs : List Step). AreSteps c call xs more) (grows made step) are.1),
)

-- before the last step of an END nothing is pushed
module _ (c : Caller) (place : ℕ) (next : Aim) where
  abbrev top : ℕ
  top = c.pushed (shard_of place)

  left_nothing : (leave : Step) → end_next c place [] ≡ Some (aim leave.kind leave.word) → (pushed : ℕ → ℕ)
      → pushed_by leave leave.kind leave.word pushed ≡ pushed
  left_nothing leave e pushed = other_step leave (aim kinds.Leave (Life place)) pushed
      (next_is (aim kinds.Leave (Life place)) (aim leave.kind leave.word) e) refl

  claimed_nothing : (leave claim : Step) → end_next c place (leave ∷ []) ≡ Some (aim claim.kind claim.word) → (pushed : ℕ → ℕ)
      → pushed_by claim claim.kind claim.word pushed ≡ pushed
  claimed_nothing leave claim e pushed =
      let to : Aim = aim (kinds.Claim (generation_in leave.before)) (Life place) in
      other_step claim to pushed (next_where (owes_claim leave.before) to (aim claim.kind claim.word) e).1 refl

  linked_nothing : (leave claim link : Step) → end_next c place (leave ∷ claim ∷ []) ≡ Some (aim link.kind link.word) → (pushed : ℕ → ℕ)
      → pushed_by link link.kind link.word pushed ≡ pushed
  linked_nothing leave claim link e pushed =
      let to : Aim = aim (kinds.Link top) (Link place) in
      let g : ℕ = generation_in leave.before in
      let test : Bool = is_claimed g claim.before && not (eqb g c.shape.last_generation) && not (eqb (shard_of place) c.lane) in
      other_step link to pushed (next_where test to (aim link.kind link.word) e).1 refl

  pushed_nothing : (leave claim link push : Step) (after : Aim) → end_next c place (leave ∷ claim ∷ link ∷ []) ≡ Some (aim push.kind push.word)
      → end_next c place (leave ∷ claim ∷ link ∷ push ∷ []) ≡ Some after → (pushed : ℕ → ℕ) → pushed_by push push.kind push.word pushed ≡ pushed
  pushed_nothing leave claim link push after e later pushed =
      let to : Aim = aim (kinds.Push top (link_to place)) (Stack (shard_of place) c.lane) in
      failed_step push top (link_to place) (shard_of place) c.lane pushed (next_is to (aim push.kind push.word) e)
      (next_unless (eqb push.before top) (aim (kinds.Link 0) (Link place)) after later).0

  linked_again : (leave claim link push again : Step)
      → end_next c place (leave ∷ claim ∷ link ∷ push ∷ []) ≡ Some (aim again.kind again.word) → (pushed : ℕ → ℕ)
      → pushed_by again again.kind again.word pushed ≡ pushed
  linked_again leave claim link push again e pushed =
      let to : Aim = aim (kinds.Link 0) (Link place) in
      other_step again to pushed (next_unless (eqb push.before top) to (aim again.kind again.word) e).1 refl

  end_pushed : (made : List Step) → AreEnd c place [] made → end_next c place made ≡ Some next → (pushed : ℕ → ℕ) → pushed_after made pushed ≡ pushed
  end_pushed [] are e pushed = refl
  end_pushed (leave ∷ []) are e pushed = left_nothing leave are.0 pushed
  end_pushed (leave ∷ claim ∷ []) are e pushed =
      ap (pushed_after (claim ∷ [])) (left_nothing leave are.0 pushed) ∙ claimed_nothing leave claim are.1.0 pushed
  end_pushed (leave ∷ claim ∷ link ∷ []) are e pushed =
      ap (pushed_after (claim ∷ link ∷ [])) (left_nothing leave are.0 pushed)
      ∙ (ap (pushed_after (link ∷ [])) (claimed_nothing leave claim are.1.0 pushed) ∙ linked_nothing leave claim link are.1.1.0 pushed)
  end_pushed (leave ∷ claim ∷ link ∷ push ∷ []) are e pushed =
      ap (pushed_after (claim ∷ link ∷ push ∷ [])) (left_nothing leave are.0 pushed)
      ∙ (ap (pushed_after (link ∷ push ∷ [])) (claimed_nothing leave claim are.1.0 pushed)
      ∙ (ap (pushed_after (push ∷ [])) (linked_nothing leave claim link are.1.1.0 pushed)
      ∙ pushed_nothing leave claim link push next are.1.1.1.0 e pushed))
  end_pushed (leave ∷ claim ∷ link ∷ push ∷ again ∷ []) are e pushed =
      ap (pushed_after (claim ∷ link ∷ push ∷ again ∷ [])) (left_nothing leave are.0 pushed)
      ∙ (ap (pushed_after (link ∷ push ∷ again ∷ [])) (claimed_nothing leave claim are.1.0 pushed)
      ∙ (ap (pushed_after (push ∷ again ∷ [])) (linked_nothing leave claim link are.1.1.0 pushed)
      ∙ (ap (pushed_after (again ∷ [])) (pushed_nothing leave claim link push (aim again.kind again.word) are.1.1.1.0 are.1.1.1.1.0 pushed)
      ∙ linked_again leave claim link push again are.1.1.1.1.0 pushed)))
  end_pushed (leave ∷ claim ∷ link ∷ push ∷ again ∷ last ∷ more) are e pushed = next_none next e

-- the TAKEs of a create are no PUSH, nor is its FOLLOW
follow_other : (own word : ℕ) (made : List Step) (to : Aim) → follow_next own word made ≡ Some to → is_push to.kind ≡ false
follow_other own word [] to e = sym (ap (λ (x : Aim). is_push x.kind) (next_is (aim kinds.Follow (Link (linked_place own word))) to e))
follow_other own word (follow ∷ more) to e = next_none to e

take_other : (c : Caller) (lane : ℕ) (made : List Step) (to : Aim) → take_next c lane made ≡ Some to → is_push to.kind ≡ false
take_other c lane [] to e = sym (ap (λ (x : Aim). is_push x.kind) (next_where (ltb lane c.shape.lanes) (aim kinds.Take (Stack c.lane lane)) to e).1)
take_other c lane (take ∷ more) to e = by_test (eqb take.before 0) (take_other c (next_lane c.lane lane) more to) e
  where
    by_test : (b : Bool) → (take_next c (next_lane c.lane lane) more ≡ Some to → is_push to.kind ≡ false)
        → cond b (take_next c (next_lane c.lane lane) more) (follow_next c.lane take.before more) ≡ Some to → is_push to.kind ≡ false
    by_test true later e = later e
    by_test false later e = follow_other c.lane take.before more to e

create_other : (c : Caller) (own chain : List ℕ) (opened : ℕ) (made : List Step) (to : Aim)
    → next_step c (Creating own chain opened) made ≡ Some to → is_push to.kind ≡ false
create_other c (place ∷ own) chain opened made to e = next_none to e
create_other c [] (place ∷ chain) opened [] to e = sym (ap (λ (x : Aim). is_push x.kind) (next_is (aim kinds.Follow (Link place)) to e))
create_other c [] (place ∷ chain) opened (follow ∷ more) to e = next_none to e
create_other c [] [] opened made to e = by_test (eqb opened 0) e
  where
    by_test : (b : Bool) → cond b None (take_next c (first_lane c.lane) made) ≡ Some to → is_push to.kind ≡ false
    by_test true e = next_none to e
    by_test false e = take_other c (first_lane c.lane) made to e

-- the ENTER of a get and of a clear
entered_nothing : (c : Caller) (key : ℕ) (enter : Step)
    → cond (is_key c.shape key) (Some (aim kinds.Enter (Life (place_of key)))) None ≡ Some (aim enter.kind enter.word)
    → (pushed : ℕ → ℕ) → pushed_by enter enter.kind enter.word pushed ≡ pushed
entered_nothing c key enter e pushed =
    let to : Aim = aim kinds.Enter (Life (place_of key)) in
    other_step enter to pushed (next_where (is_key c.shape key) to (aim enter.kind enter.word) e).1 refl

-- the steps of a get that missed, behind its ENTER
missed_end : (c : Caller) (key : ℕ) (enter : Step) (more : List Step) → is_hit key enter.before ≡ false
    → AreSteps c (Getting key) (enter ∷ []) more → AreEnd c (place_of key) [] more
missed_end c key enter more miss are = end_of c (Getting key) (place_of key) (λ made. enter ∷ made) (λ made step. refl)
    (λ made to e. sym (ap (λ (b : Bool). cond b None (end_next c (place_of key) made)) miss) ∙ e) [] more are

-- of a clear that missed
unclear_end : (c : Caller) (key : ℕ) (enter : Step) (more : List Step) → is_hit key enter.before ≡ false
    → AreSteps c (Clearing key) (enter ∷ []) more → AreEnd c (place_of key) [] more
unclear_end c key enter more miss are = end_of c (Clearing key) (place_of key) (λ made. enter ∷ made) (λ made step. refl)
    (λ made to e. sym (ap (λ (b : Bool). cond b (mark_next c (place_of key) made) (end_next c (place_of key) made)) miss) ∙ e) [] more are

-- of a clear that hit, behind its MARK
marked_end : (c : Caller) (key : ℕ) (enter mark : Step) (more : List Step) → is_hit key enter.before ≡ true
    → AreSteps c (Clearing key) (enter ∷ mark ∷ []) more → AreEnd c (place_of key) [] more
marked_end c key enter mark more hit are = end_of c (Clearing key) (place_of key) (λ made. enter ∷ mark ∷ made) (λ made step. refl)
    (λ made to e. sym (ap (λ (b : Bool). cond b (end_next c (place_of key) made) (end_next c (place_of key) (mark ∷ made))) hit) ∙ e) [] more are

-- a call whose next step is still to come has pushed nothing, whatever its lane pushed before
still : (c : Caller) (call : Call) (steps : List Step) → AreSteps c call [] steps → (next : Aim) → next_step c call steps ≡ Some next
    → (pushed : ℕ → ℕ) → pushed_after steps pushed ≡ pushed
still c (Publishing key content with_ref) [] are next e pushed = refl
still c (Publishing key content with_ref) (publish ∷ more) are next e pushed = next_none next e
still c (Getting key) [] are next e pushed = refl
still c (Getting key) (enter ∷ more) are next e pushed =
    ap (pushed_after more) (entered_nothing c key enter are.0 pushed) ∙ by_test (is_hit key enter.before) refl e
  where
    by_test : (b : Bool) → is_hit key enter.before ≡ b → cond b None (end_next c (place_of key) more) ≡ Some next → pushed_after more pushed ≡ pushed
    by_test true hit e = next_none next e
    by_test false miss e = end_pushed c (place_of key) next more (missed_end c key enter more miss are.1) e pushed
still c (Releasing key) steps are next e pushed = end_pushed c (place_of key) next steps
    (end_of c (Releasing key) (place_of key) (λ made. made) (λ made step. refl) (λ made to next_is. next_is) [] steps are) e pushed
still c (Clearing key) [] are next e pushed = refl
still c (Clearing key) (enter ∷ more) are next e pushed =
    ap (pushed_after more) (entered_nothing c key enter are.0 pushed) ∙ by_test (is_hit key enter.before) refl more are.1 e
  where
    by_test : (b : Bool) → is_hit key enter.before ≡ b → (more : List Step) → AreSteps c (Clearing key) (enter ∷ []) more
        → cond b (mark_next c (place_of key) more) (end_next c (place_of key) more) ≡ Some next → pushed_after more pushed ≡ pushed
    by_test true hit [] are e = refl
    by_test true hit (mark ∷ more) are e =
        let to : Aim = aim kinds.Mark (Life (place_of key)) in
        let is : to ≡ aim mark.kind mark.word = next_is to (aim mark.kind mark.word)
        (sym (ap (λ (b : Bool). cond b (Some to) (end_next c (place_of key) [])) hit) ∙ are.0) in
        ap (pushed_after more) (other_step mark to pushed is refl)
        ∙ end_pushed c (place_of key) next more (marked_end c key enter mark more hit are.1) e pushed
    by_test false miss more are e = end_pushed c (place_of key) next more (unclear_end c key enter more miss are) e pushed
still c (Creating own chain opened) steps are next e pushed = others c (Creating own chain opened) (create_other c own chain opened) [] steps are pushed

-- a call whose next step is still to come has pushed nothing
pub still_pushed : (c : Caller) (call : Call) (steps : List Step) → AreSteps c call [] steps → (next : Aim) → next_step c call steps ≡ Some next
    → (shard : ℕ) → pushed_after steps c.pushed shard ≡ c.pushed shard
still_pushed c call steps are next e shard = ap (λ (f : ℕ → ℕ). f shard) (still c call steps are next e c.pushed)
