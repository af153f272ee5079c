-- Every next step of a lane can be made: it finds a word at which its kind may be made, and its act is allowed.
use Rattle.std.proofs.Common.{arith, ◌≡◌, ◌≢◌, ℕ, ◌+◌, ◌-◌, ◌<◌, Bool, true, false, not, cond, eqb, ◌&&◌, List, [], ◌∷◌, ◌++◌, refl, ap, sym, ◌∙◌, subst, append-nil, eq-eqb, ⊎_elim, Option, Some, None}
use Rattle.std.proofs.lemmas.Bool.{eqb-true, eqb-false}
use Rattle.keybits.specs.declared.shape.Shape.{Shape}
use Rattle.keybits.specs.declared.step.Kind.{Kind}
use Rattle.keybits.specs.declared.step.Kind.TheVariants as kinds
use Rattle.keybits.specs.declared.step.Word.{Word}
use Rattle.keybits.specs.declared.step.Word.TheVariants.{Life, Link, Stack}
use Rattle.keybits.specs.declared.step.Step.{Step}
use Rattle.keybits.specs.Places.{shard_of}
use Rattle.keybits.specs.Shapes.{is_place}
use Rattle.keybits.specs.Keys.{key_number, place_of, is_key}
use Rattle.keybits.specs.Words.{word_with, state_in, generation_in, claimable}
use Rattle.keybits.specs.Links.{link_to}
use Rattle.keybits.specs.Steps.{Changes}
use Rattle.keybits.proofs.KeyLemmas.{key_parts}
use Rattle.seqpool.specs.declared.act.Act.{Act}
use Rattle.seqpool.specs.declared.act.Act.TheVariants as acts
use Rattle.seqpool.specs.Pool.{references, pool_after, IsLegal}
use Rattle.steplaws.specs.declared.pending.Pending.TheVariants.{Nothing, Undo, Owes, Returns}
use Rattle.steplaws.specs.Calls.{Call, Publishing, Getting, Releasing, Clearing, Creating, Caller, Aim, aim, is_hit, owes_claim, is_claimed, first_lane, end_next, mark_next, take_next, next_step, AreSteps, key_in, KindMakes}
use Rattle.steplaws.specs.Facts.{most_of, value_of, Lanes, Moment, moment, Rule}
use Rattle.steplaws.specs.StepLaws.{CountFits, Keeps, IsFilling}
use Rattle.steplaws.proofs.Lives.{most-lane}
use Rattle.steplaws.proofs.Enters.{get-hits-law, get-misses-law, clear-hits-law, clear-misses-law}
use Rattle.steplaws.proofs.Leaves.{undo-law, release-law}
use Rattle.steplaws.proofs.Publishes.{publish-law}
use Rattle.steplaws.proofs.Marks.{mark-law}
use Rattle.steplaws.proofs.Claims.{claim-own-law, claim-other-law, claim-last-law, claim-fails-law}
use Rattle.steplaws.proofs.LinkLaws.{link-law, push-succeeds-law, push-fails-law, push-again-law}
use Rattle.steplaws.proofs.TakeLaws.{take-chain-law}
use Rattle.traces.specs.Books.{Book, caller, call_under_way, next_in, next_aim, pushed_after, act_list}
use Rattle.traces.specs.Lawful.{World, CallMakes, IsStep}
use Rattle.traces.specs.Parts.{under_mark, under_miss, under_call, under_first}
use Rattle.traces.specs.Making.{AreMade, HasMade}
use Rattle.traces.specs.Owning.{Holds, IsOwned, lanes_now}
use Rattle.traces.proofs.Ends.{AreEndSteps, IsLeaving, still_pushed}
use Rattle.traces.proofs.StepCalls.{with_act-list, get_missed, release_leaving, clear_missed, clear_marked, IsCalled, called, filling_facts, reference_facts, fewer, reference_key, end_steps, next_where, next_unless, no_next, same_some, take_kind, take_stack, first_apart}

module _ (z : Shape) (m : Moment) (lane : ℕ) (pushed : ℕ → ℕ) (rule : Rule z m) (below : lane < z.lanes) where
  abbrev the_caller : Caller
  the_caller = record { shape = z; lane = lane; pushed = pushed }

  -- a call of the lane can do this next: with some value left in the word, and some act
  abbrev Can : Call → Aim → Type 0
  Can call next = (value : ℕ) × (act : Option Act) × Changes z.last_generation next.kind (value_of m.words next.word) value
      × KindMakes next.kind the_caller call m.words.link next.word (value_of m.words next.word) act
      × CountFits next.kind (value_of m.words next.word) × IsLegal z (m.history ++ act_list act)

  -- by a law of the step
  can_by : (call : Call) (kind : Kind) (word : Word) (value : ℕ) (act : Option Act) (lanes : Lanes) (next : Aim) → aim kind word ≡ next
      → Keeps z m kind word value act lanes → KindMakes kind the_caller call m.words.link word (value_of m.words word) act → Can call next
  can_by call kind word value act lanes next is law makes =
      subst (Can call) is (value, act, law.changes, makes, law.room, subst (IsLegal z) (with_act-list m.history act) law.rule.legal)

  -- a step that leaves the word and makes no act
  can_follow : (call : Call) (next : Aim) → next.kind ≡ kinds.Follow → Can call next
  can_follow call next is =
      subst (λ (kind : Kind). Can call (aim kind next.word)) (sym is)
      (value_of m.words next.word, None, refl, refl, tt, subst (IsLegal z) (sym (append-nil m.history)) rule.legal)

  -- ---- END

  can_leave : (call : Call) → is_place z (place_of (key_in call)) ≡ true → IsLeaving z m lane call [] → (next : Aim)
      → aim kinds.Leave (Life (place_of (key_in call))) ≡ next → Can call next
  can_leave (Publishing key content with_ref) inside leaving next is = absurd leaving
  can_leave (Getting key) inside (hit, under) next is =
      can_by (Getting key) kinds.Leave (Life (place_of key)) (m.words.life (place_of key) - 4) None _ next is
      (undo-law z m lane key hit rule (omega (arith, below), under) inside) refl
  can_leave (Releasing key) inside (under, some) next is =
      can_by (Releasing key) kinds.Leave (Life (place_of key)) (m.words.life (place_of key) - 4) (Some (acts.Release lane key)) _ next is
      (release-law z m lane key rule (omega (arith, below), under) some) refl
  can_leave (Clearing key) inside (hit, under) next is =
      can_by (Clearing key) kinds.Leave (Life (place_of key)) (m.words.life (place_of key) - 4) None _ next is
      (undo-law z m lane key hit rule (omega (arith, below), under) inside) refl
  can_leave (Creating own chain opened) inside leaving next is = absurd leaving

  module _ (call : Call) (inside : is_place z (place_of (key_in call)) ≡ true) (same : (shard : ℕ) → m.lanes.pushed shard lane ≡ pushed shard) where
    abbrev place : ℕ
    place = place_of (key_in call)

    -- CLAIM
    module _ (g : ℕ) (owes : m.lanes.under lane ≡ Owes place g) (next : Aim) (is : aim (kinds.Claim g) (Life place) ≡ next) where
      claim_makes : (t : Bool) → is_claimed g (m.words.life place) ≡ t → cond t (Some (acts.Reclaim lane (key_number z.tag place g))) None
          ≡ cond (is_claimed g (m.words.life place)) (Some (acts.Reclaim lane (key_number z.tag place g))) None
      claim_makes t e = ap (λ (b : Bool). cond b (Some (acts.Reclaim lane (key_number z.tag place g))) None) (sym e)

      claim_by : (a b d : Bool) → eqb (m.words.life place) (claimable g) ≡ a → eqb g z.last_generation ≡ b → eqb (shard_of place) lane ≡ d
          → Can call next
      claim_by false b d miss last own =
          can_by call (kinds.Claim g) (Life place) (m.words.life place) None _ next is
          (claim-fails-law z m lane place g rule (omega (arith, below), owes) inside (eqb-false (m.words.life place) (claimable g) miss)) (claim_makes false miss)
      claim_by true true d hit last own =
          can_by call (kinds.Claim g) (Life place) (word_with 2 0 g) (Some (acts.Reclaim lane (key_number z.tag place g))) _ next is
          (claim-last-law z m lane place g rule (omega (arith, below), owes) inside (eqb-true g z.last_generation last)
          (eqb-true (m.words.life place) (claimable g) hit))
          (claim_makes true hit)
      claim_by true false true hit less own =
          can_by call (kinds.Claim g) (Life place) (word_with 0 0 (g + 1)) (Some (acts.Reclaim lane (key_number z.tag place g))) _ next is
          (claim-own-law z m lane place g rule (omega (arith, below), owes) inside (eqb-false g z.last_generation less) (eqb-true (shard_of place) lane own)
          (eqb-true (m.words.life place) (claimable g) hit)) (claim_makes true hit)
      claim_by true false false hit less other =
          can_by call (kinds.Claim g) (Life place) (word_with 0 0 (g + 1)) (Some (acts.Reclaim lane (key_number z.tag place g))) _ next is
          (claim-other-law z m lane place g rule (omega (arith, below), owes) inside (eqb-false g z.last_generation less) (eqb-false (shard_of place) lane other)
          (eqb-true (m.words.life place) (claimable g) hit)) (claim_makes true hit)

    -- LINK
    can_link : (linked : Option ℕ) (failed : Bool) (top : ℕ) (next : Aim) → m.lanes.under lane ≡ Returns place linked failed
        → aim (kinds.Link top) (Link place) ≡ next → Can call next
    can_link linked failed top next under is =
        can_by call (kinds.Link top) (Link place) top None _ next is (link-law z m lane place top linked failed rule (omega (arith, below), under)) refl

    -- PUSH
    home_makes : (top : ℕ) (t : Bool) → eqb (m.words.stack (shard_of place) lane) top ≡ t → cond t (Some (acts.Home lane place)) None
        ≡ cond (eqb (m.words.stack (shard_of place) lane) top) (Some (acts.Home lane place)) None
    home_makes top t e = ap (λ (b : Bool). cond b (Some (acts.Home lane place)) None) (sym e)

    can_push : (top : ℕ) (next : Aim) → m.lanes.under lane ≡ Returns place (Some top) false → m.lanes.pushed (shard_of place) lane ≡ top
        → aim (kinds.Push top (link_to place)) (Stack (shard_of place) lane) ≡ next → (t : Bool)
        → eqb (m.words.stack (shard_of place) lane) top ≡ t → Can call next
    can_push top next under last is true hit =
        can_by call (kinds.Push top (link_to place)) (Stack (shard_of place) lane) (link_to place) (Some (acts.Home lane place)) _ next is
        (push-succeeds-law z m lane place top false rule below (omega (arith, below), under) (eqb-true (m.words.stack (shard_of place) lane) top hit))
        (home_makes top true hit)
    can_push top next under last is false miss =
        let law = push-fails-law z m lane place false rule below (omega (arith, below), under ∙ ap (λ (t : ℕ). Returns place (Some t) false) (sym last))
        (λ e. eqb-false (m.words.stack (shard_of place) lane) top miss (e ∙ last)) in
        can_by call (kinds.Push (m.lanes.pushed (shard_of place) lane) (link_to place)) (Stack (shard_of place) lane) 0 None _ next
        (ap (λ (t : ℕ). aim (kinds.Push t (link_to place)) (Stack (shard_of place) lane)) last ∙ is) law.1
        (home_makes top false miss ∙ ap (λ (t : ℕ). cond (eqb (m.words.stack (shard_of place) lane) t) (Some (acts.Home lane place)) None) (sym last))

    can_push_again : (next : Aim) → m.lanes.under lane ≡ Returns place (Some 0) true
        → aim (kinds.Push 0 (link_to place)) (Stack (shard_of place) lane) ≡ next → Can call next
    can_push_again next under is =
        let law = push-again-law z m lane place rule below (omega (arith, below), under) in
        can_by call (kinds.Push 0 (link_to place)) (Stack (shard_of place) lane) (link_to place) (Some (acts.Home lane place)) _ next is law.1
        (home_makes 0 true (eq-eqb (m.words.stack (shard_of place) lane) 0 law.0))

    -- the step that an END makes next
    linked_to : (top : ℕ) (link : Step) → aim (kinds.Link top) (Link place) ≡ aim link.kind link.word
        → Changes z.last_generation link.kind link.before link.after
        → link.after ≡ top
    linked_to top link is changes = subst (λ (a : Aim). Changes z.last_generation a.kind link.before link.after) (sym is) changes

    -- the first LINK left the word that the lane last pushed
    first_link : (leave claim link : Step) → end_next the_caller place (leave ∷ claim ∷ []) ≡ Some (aim link.kind link.word)
        → Changes z.last_generation link.kind link.before link.after → link.after ≡ pushed (shard_of place)
    first_link leave claim link next changes =
        let n = next_where (is_claimed (generation_in leave.before) claim.before && not (eqb (generation_in leave.before) z.last_generation)
        && not (eqb (shard_of place) lane))
        (aim (kinds.Link (pushed (shard_of place))) (Link place)) (aim link.kind link.word) next in
        linked_to (pushed (shard_of place)) link n.1 changes

    can_end : (made : List Step) → AreEndSteps the_caller place [] made → IsLeaving z m lane call made → (next : Aim)
        → end_next the_caller place made ≡ Some next → Can call next
    can_end [] steps leaving next e = can_leave call inside leaving next (same_some (aim kinds.Leave (Life place)) next e)
    can_end (leave ∷ []) steps leaving next e =
        let g : ℕ = generation_in leave.before in
        let n = next_where (owes_claim leave.before) (aim (kinds.Claim g) (Life place)) next e in
        claim_by g (leaving ∙ ap (λ (b : Bool). cond b (Owes place g) Nothing) n.0) next n.1
        (eqb (m.words.life place) (claimable g)) (eqb g z.last_generation) (eqb (shard_of place) lane) refl refl refl
    can_end (leave ∷ claim ∷ []) steps leaving next e =
        let test : Bool = is_claimed (generation_in leave.before) claim.before && not (eqb (generation_in leave.before) z.last_generation)
        && not (eqb (shard_of place) lane) in
        let n = next_where test (aim (kinds.Link (pushed (shard_of place))) (Link place)) next e in
        can_link None false (pushed (shard_of place)) next (leaving ∙ ap (λ (b : Bool). cond b (Returns place None false) Nothing) n.0) n.1
    can_end (leave ∷ claim ∷ link ∷ []) steps leaving next e =
        let top : ℕ = pushed (shard_of place) in
        let linked : link.after ≡ top = first_link leave claim link steps.2.2.0 steps.2.2.1 in
        can_push top next (leaving ∙ ap (λ (t : ℕ). Returns place (Some t) false) linked) (same (shard_of place))
        (same_some (aim (kinds.Push top (link_to place)) (Stack (shard_of place) lane)) next e) (eqb (m.words.stack (shard_of place) lane) top) refl
    can_end (leave ∷ claim ∷ link ∷ push ∷ []) steps leaving next e =
        let top : ℕ = pushed (shard_of place) in
        let n = next_unless (eqb push.before top) (Some (aim (kinds.Link 0) (Link place))) next e in
        let linked : link.after ≡ top = first_link leave claim link steps.2.2.0 steps.2.2.1 in
        can_link None true 0 next (leaving ∙ ap (λ (b : Bool). cond b Nothing (Returns place None true)) (ap (eqb push.before) linked ∙ n.0))
        (same_some (aim (kinds.Link 0) (Link place)) next n.1)
    can_end (leave ∷ claim ∷ link ∷ push ∷ again ∷ []) steps leaving next e =
        let n = next_unless (eqb push.before (pushed (shard_of place))) (Some (aim (kinds.Link 0) (Link place))) (aim again.kind again.word)
        steps.2.2.2.2.0 in
        let linked : again.after ≡ 0 = linked_to 0 again (same_some (aim (kinds.Link 0) (Link place)) (aim again.kind again.word) n.1)
        steps.2.2.2.2.1 in
        can_push_again next (leaving ∙ ap (λ (t : ℕ). Returns place (Some t) true) linked)
        (same_some (aim (kinds.Push 0 (link_to place)) (Stack (shard_of place) lane)) next e)
    can_end (leave ∷ claim ∷ link ∷ push ∷ again ∷ last ∷ more) steps leaving next e = no_next next e

  -- ---- the calls

  -- a call of the lane has made these steps and these acts
  record IsMidway (call : Call) (steps : List Step) (told : List Act) : Type 0 where
    under : m.lanes.under lane ≡ under_call z lane call steps
    last : (shard : ℕ) → m.lanes.pushed shard lane ≡ pushed_after steps pushed shard
    are : AreSteps the_caller call [] steps
    were : AreMade the_caller call steps told

  end_now : (call : Call) (steps more : List Step) (told : List Act) → IsMidway call steps told → is_place z (place_of (key_in call)) ≡ true
      → AreEndSteps the_caller (place_of (key_in call)) [] more → IsLeaving z m lane call more → (next : Aim)
      → next_step the_caller call steps ≡ Some next
      → end_next the_caller (place_of (key_in call)) more ≡ Some next → Can call next
  end_now call steps more told g inside ends leaving next e goes =
      can_end call inside (λ shard. g.last shard ∙ still_pushed the_caller call steps g.are next e shard) more ends leaving next goes

  can_publish : (key : ℕ) (content : List ℕ) (with_ref : Bool) (steps : List Step) (told : List Act)
      → IsMidway (Publishing key content with_ref) steps told
      → (told ≡ [] → IsFilling z m lane key) → (next : Aim) → next_step the_caller (Publishing key content with_ref) steps ≡ Some next
      → Can (Publishing key content with_ref) next
  can_publish key content with_ref [] told g filling next e =
      can_by (Publishing key content with_ref) (kinds.Publish with_ref) (Life (place_of key))
      (cond with_ref (m.words.life (place_of key) + 5) (m.words.life (place_of key) + 1)) (Some (acts.Publish lane key content with_ref)) _ next
      (same_some (aim (kinds.Publish with_ref) (Life (place_of key))) next e)
      (publish-law z m lane key content with_ref rule (omega (arith, below), g.under) (filling g.were)) refl
  can_publish key content with_ref (x ∷ more) told g filling next e = no_next next e

  can_get : (key : ℕ) (steps : List Step) (told : List Act) → IsMidway (Getting key) steps told
      → (told ≡ [] → references z (pool_after z m.history) lane key < most_of z lane) → (next : Aim)
      → next_step the_caller (Getting key) steps ≡ Some next
      → Can (Getting key) next
  can_get key [] told g few next e = by_test (is_hit key (m.words.life (place_of key))) refl
    where
      n : (is_key z key ≡ true) × (aim kinds.Enter (Life (place_of key)) ≡ next)
      n = next_where (is_key z key) (aim kinds.Enter (Life (place_of key))) next e

      by_test : (t : Bool) → is_hit key (m.words.life (place_of key)) ≡ t → Can (Getting key) next
      by_test true hit =
          let law = get-hits-law z m lane key rule (omega (arith, below), g.under) n.0 (few g.were) hit in
          can_by (Getting key) kinds.Enter (Life (place_of key)) (m.words.life (place_of key) + 4) (Some (acts.Get lane key (Some law.0))) _ next
          n.1 law.1
          (Some law.0, sym hit, refl)
      by_test false miss =
          can_by (Getting key) kinds.Enter (Life (place_of key)) (m.words.life (place_of key) + 4) (Some (acts.Get lane key None)) _ next n.1
          (get-misses-law z m lane key rule (omega (arith, below), g.under) n.0 miss) (None, sym miss, refl)
  can_get key (enter ∷ more) told g few next e =
      let good = next_where (is_key z key) (aim kinds.Enter (Life (place_of key))) (aim enter.kind enter.word) g.are.0 in
      let n = next_unless (is_hit key enter.before) (end_next the_caller (place_of key) more) next e in
      end_now (Getting key) (enter ∷ more) more told g (key_parts z key good.0).place
      (end_steps the_caller (Getting key) (place_of key) (enter ∷ []) [] more g.were.1
      (λ steps. ap (λ (b : Bool). cond b None (end_next the_caller (place_of key) steps)) n.0) g.are.1 g.were.4)
      (get_missed z m lane key more (g.under ∙ ap (λ (b : Bool). cond b Nothing (under_miss z lane key more)) n.0)) next e n.1

  can_release : (key : ℕ) (steps : List Step) (told : List Act) → IsMidway (Releasing key) steps told → is_key z key ≡ true
      → (told ≡ [] → 0 < references z (pool_after z m.history) lane key) → (next : Aim) → next_step the_caller (Releasing key) steps ≡ Some next
      → Can (Releasing key) next
  can_release key steps told g good some next e =
      end_now (Releasing key) steps steps told g (key_parts z key good).place
      (end_steps the_caller (Releasing key) (place_of key) [] [] steps told (λ more. refl) g.are g.were)
      (release_leaving z m lane the_caller key steps told g.under g.were some) next e e

  clear_first : (key : ℕ) (told : List Act) → IsMidway (Clearing key) [] told → (next : Aim) → is_key z key ≡ true
      → aim kinds.Enter (Life (place_of key)) ≡ next → (t : Bool) → is_hit key (m.words.life (place_of key)) ≡ t → Can (Clearing key) next
  clear_first key told g next good is true hit =
      can_by (Clearing key) kinds.Enter (Life (place_of key)) (m.words.life (place_of key) + 4) None _ next is
      (clear-hits-law z m lane key rule (omega (arith, below), g.under) good hit) (ap (λ (b : Bool). cond b None (Some (acts.Clear lane key false))) (sym hit))
  clear_first key told g next good is false miss =
      can_by (Clearing key) kinds.Enter (Life (place_of key)) (m.words.life (place_of key) + 4) (Some (acts.Clear lane key false)) _ next is
      (clear-misses-law z m lane key rule (omega (arith, below), g.under) good miss) (ap (λ (b : Bool). cond b None (Some (acts.Clear lane key false))) (sym miss))

  clear_missing : (key : ℕ) (enter : Step) (more : List Step) (told : List Act) → IsMidway (Clearing key) (enter ∷ more) told → is_key z key ≡ true
      → is_hit key enter.before ≡ false → (next : Aim) → next_step the_caller (Clearing key) (enter ∷ more) ≡ Some next → Can (Clearing key) next
  clear_missing key enter more told g good miss next e =
      let goes : (steps : List Step) → next_step the_caller (Clearing key) (enter ∷ steps) ≡ end_next the_caller (place_of key) steps
      = λ steps. ap (λ (b : Bool). cond b (mark_next the_caller (place_of key) steps) (end_next the_caller (place_of key) steps)) miss in
      end_now (Clearing key) (enter ∷ more) more told g (key_parts z key good).place
      (end_steps the_caller (Clearing key) (place_of key) (enter ∷ []) [] more g.were.1 goes g.are.1 g.were.4)
      (clear_missed z m lane key more (g.under ∙ ap (λ (b : Bool). cond b (under_mark z lane key more) (under_miss z lane key more)) miss))
      next e (sym (goes more) ∙ e)

  clear_hitting : (key : ℕ) (enter : Step) (more : List Step) (told : List Act) → IsMidway (Clearing key) (enter ∷ more) told → is_key z key ≡ true
      → is_hit key enter.before ≡ true → (next : Aim) → next_step the_caller (Clearing key) (enter ∷ more) ≡ Some next → Can (Clearing key) next
  clear_hitting key enter [] told g good hit next e =
      can_by (Clearing key) kinds.Mark (Life (place_of key)) (m.words.life (place_of key) + 3 - state_in (m.words.life (place_of key)))
      (Some (acts.Clear lane key (eqb (state_in (m.words.life (place_of key))) 1))) _ next
      (same_some (aim kinds.Mark (Life (place_of key))) next
      (sym (ap (λ (b : Bool). cond b (mark_next the_caller (place_of key) []) (end_next the_caller (place_of key) [])) hit) ∙ e))
      (mark-law z m lane key rule (omega (arith, below), g.under ∙ ap (λ (b : Bool). cond b (Undo key true) (Undo key false)) hit)) refl
  clear_hitting key enter (mark ∷ more) told g good hit next e =
      let goes : (steps : List Step) → next_step the_caller (Clearing key) (enter ∷ mark ∷ steps) ≡ end_next the_caller (place_of key) steps
      = λ steps. ap (λ (b : Bool). cond b (end_next the_caller (place_of key) steps) (end_next the_caller (place_of key) (mark ∷ steps))) hit in
      end_now (Clearing key) (enter ∷ mark ∷ more) more told g (key_parts z key good).place
      (end_steps the_caller (Clearing key) (place_of key) (enter ∷ mark ∷ []) [] more g.were.4.1 goes g.are.1.1 g.were.4.4)
      (clear_marked z m lane key mark more (g.under
      ∙ ap (λ (b : Bool). cond b (under_mark z lane key (mark ∷ more)) (under_miss z lane key (mark ∷ more))) hit))
      next e (sym (goes more) ∙ e)

  can_clear : (key : ℕ) (steps : List Step) (told : List Act) → IsMidway (Clearing key) steps told → (next : Aim)
      → next_step the_caller (Clearing key) steps ≡ Some next → Can (Clearing key) next
  can_clear key [] told g next e =
      let n = next_where (is_key z key) (aim kinds.Enter (Life (place_of key))) next e in
      clear_first key told g next n.0 n.1 (is_hit key (m.words.life (place_of key))) refl
  can_clear key (enter ∷ more) told g next e = by_test (is_hit key enter.before) refl
    where
      good : is_key z key ≡ true
      good = (next_where (is_key z key) (aim kinds.Enter (Life (place_of key))) (aim enter.kind enter.word) g.are.0).0

      by_test : (t : Bool) → is_hit key enter.before ≡ t → Can (Clearing key) next
      by_test true hit = clear_hitting key enter more told g good hit next e
      by_test false miss = clear_missing key enter more told g good miss next e

  -- TAKE of the stack of another lane of the shape
  can_take : (call : Call) (next : Aim) (other : ℕ) → other < z.lanes → other ≢ lane → aim kinds.Take (Stack lane other) ≡ next
      → (t : Bool) → eqb (m.words.stack lane other) 0 ≡ t → Can call next
  can_take call next other inside apart is true none =
      subst (Can call) is (
        0,
        None,
        refl,
        ((λ e. refl), (λ some. absurd (some (eqb-true (m.words.stack lane other) 0 none)))),
        tt,
        subst (IsLegal z) (sym (append-nil m.history)) rule.legal,
      )
  can_take call next other inside apart is false some =
      let full : m.words.stack lane other ≢ 0 = eqb-false (m.words.stack lane other) 0 some in
      let law = take-chain-law z m lane other rule below inside apart full in
      can_by call kinds.Take (Stack lane other) 0 (Some (acts.Collect lane law.0)) _ next is law.3
      ((λ e. absurd (full e)), (λ e. (law.0, law.1, refl)))

  can_create : (own linked : List ℕ) (opened : ℕ) (steps : List Step) (next : Aim)
      → next_step the_caller (Creating own linked opened) steps ≡ Some next
      → Can (Creating own linked opened) next
  can_create (one ∷ own) linked opened steps next e = no_next next e
  can_create [] (one ∷ linked) opened [] next e =
      can_follow (Creating [] (one ∷ linked) opened) next (sym (ap (λ (a : Aim). a.kind) (same_some (aim kinds.Follow (Link one)) next e)))
  can_create [] (one ∷ linked) opened (follow ∷ more) next e = no_next next e
  can_create [] [] opened steps next e =
      let n = next_unless (eqb opened 0) (take_next the_caller (first_lane lane) steps) next e in
      ⊎_elim
      (λ (is : next.kind ≡ kinds.Take).
      let t = take_stack the_caller (first_lane lane) steps next.word (first_apart lane) (n.1 ∙ ap (λ (k : Kind). Some (aim k next.word)) is) in
      can_take (Creating [] [] opened) next t.0 t.2 t.3 (λ i. aim (sym is i) (t.1 i)) (eqb (m.words.stack lane t.0) 0) refl)
      (λ (is : next.kind ≡ kinds.Follow). can_follow (Creating [] [] opened) next is)
      (take_kind the_caller (first_lane lane) steps next n.1)

-- ---- all calls

module _ (z : Shape) (w : World) (lane : ℕ) (next : Aim) (h : Holds z w) (below : lane < z.lanes) where
  abbrev now : Moment
  now = moment w.words w.history (lanes_now z w)

  abbrev book : Book
  book = w.books lane

  owned : IsOwned z (pool_after z w.history) lane book
  owned = h.owned lane below

  midway : (call : Call) → call_under_way book ≡ Some call → IsMidway z now lane book.pushed h.rule below call book.steps book.acts
  midway call e =
      let made : AreSteps (caller z lane book) call [] book.steps × AreMade (caller z lane book) call book.steps book.acts
      = subst (λ (o : Option Call). HasMade (caller z lane book) o book.steps book.acts) e owned.call in
      record { under = ap (λ (o : Option Call). under_first z lane o book.steps) e; last = λ shard. refl; are = made.0; were = made.1 }

  -- by the call under way
  can : (call : Call) → IsCalled book call → IsMidway z now lane book.pushed h.rule below call book.steps book.acts
      → next_step (caller z lane book) call book.steps ≡ Some next → Can z now lane book.pushed h.rule below call next
  can (Publishing key content with_ref) (number, holds) g e =
      can_publish z now lane book.pushed h.rule below key content with_ref book.steps book.acts g
      (λ idle. let f = filling_facts z (pool_after z w.history) lane book owned idle number key content holds in
      record { current = f.0; with_lane = f.1; unchained = f.2 }) next e
  can (Getting key) is_called g e =
      can_get z now lane book.pushed h.rule below key book.steps book.acts g (λ idle. most-lane z lane _ below (fewer z (pool_after z w.history) lane book owned idle key))
      next e
  can (Releasing key) (number, content, holds) g e =
      can_release z now lane book.pushed h.rule below key book.steps book.acts g
      (reference_key z (pool_after z w.history) lane book owned number key content holds)
      (λ idle. reference_facts z (pool_after z w.history) lane book owned idle number key content holds) next e
  can (Clearing key) is_called g e = can_clear z now lane book.pushed h.rule below key book.steps book.acts g next e
  can (Creating own linked opened) chained g e = can_create z now lane book.pushed h.rule below own linked opened book.steps next e

  abbrev Made : ℕ → Option Act → Type 0
  Made value act = IsStep z lane w.words book (record { kind = next.kind; word = next.word; before = value_of w.words next.word; after = value }) act
      × CountFits next.kind (value_of w.words next.word) × IsLegal z (w.history ++ act_list act)

  by_call : (o : Option Call) → call_under_way book ≡ o → next_aim z lane book ≡ Some next → (value : ℕ) × (act : Option Act) × Made value act
  by_call None e goes = no_next next (sym (ap (next_in (caller z lane book) book.steps) e) ∙ goes)
  by_call (Some call) e goes =
      let c = can call (called book call book.left e) (midway call e) (sym (ap (next_in (caller z lane book) book.steps) e) ∙ goes) in (
        c.0,
        c.1,
        (
          record {
            next = goes;
            before = refl;
            changes = c.2;
            makes = subst (λ (o : Option Call). CallMakes (caller z lane book) o w.words.link
                (record { kind = next.kind; word = next.word; before = value_of w.words next.word; after = c.0 }) c.1) (sym e) c.3;
          },
          c.4,
          c.5,
        ),
      )

-- every next step can be made
pub step_exists : (z : Shape) (w : World) (lane : ℕ) (next : Aim) → Holds z w → lane < z.lanes → next_aim z lane (w.books lane) ≡ Some next
    → (value : ℕ) × (act : Option Act)
    × IsStep z lane w.words (w.books lane) (record { kind = next.kind; word = next.word; before = value_of w.words next.word; after = value }) act
    × CountFits next.kind (value_of w.words next.word) × IsLegal z (w.history ++ act_list act)
step_exists z w lane next h below goes =
    let s = by_call z w lane next h below (call_under_way (w.books lane)) refl goes in (s.0, s.1, s.2.0, s.2.1, s.2.2)
