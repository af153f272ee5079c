-- Every step of a lawful trace keeps the rule.
use Rattle.std.proofs.Common.{◌≡◌, ◌≢◌, ℕ, ◌+◌, ◌-◌, ◌<◌, Bool, true, false, cond, eqb, List, [], ◌∷◌, ◌++◌, refl, ap, sym, ◌∙◌, subst, arith, append-nil, ⊎_elim, is_some, Option, Some, None}
use Rattle.std.proofs.lemmas.Bool.{eqb-true, eqb-false}
use mathlib.Core.Path.{fun_ext}
use Rattle.keybits.specs.declared.shape.Shape.{Shape}
use Rattle.keybits.specs.declared.step.Kind.{Kind}
use Rattle.keybits.specs.declared.step.Kind.TheVariants as kinds
use Rattle.keybits.specs.declared.step.Word.{Word}
use Rattle.keybits.specs.declared.step.Word.TheVariants.{Life, Link, Stack}
use Rattle.keybits.specs.declared.step.Step.{Step}
use Rattle.keybits.specs.Shapes.{is_place}
use Rattle.keybits.specs.Keys.{place_of, is_key}
use Rattle.keybits.specs.Words.{state_in}
use Rattle.keybits.specs.Links.{Leads}
use Rattle.keybits.specs.Steps.{Changes}
use Rattle.keybits.proofs.KeyLemmas.{key_parts}
use Rattle.keybits.proofs.LeadLemmas.{leads-one}
use Rattle.seqpool.specs.declared.act.Act.{Act}
use Rattle.seqpool.specs.declared.act.Act.TheVariants as acts
use Rattle.seqpool.specs.Pool.{Allowed, fresh, references, pool_after, IsLegal}
use Rattle.seqpool.proofs.Growth.{legal-rest}
use Rattle.steplaws.specs.declared.pending.Pending.{Pending}
use Rattle.steplaws.specs.declared.pending.Pending.TheVariants.{Nothing, Undo}
use Rattle.steplaws.specs.Calls.{Call, Publishing, Getting, Releasing, Clearing, Creating, Caller, Aim, aim, is_hit, first_lane, end_next, mark_next, take_next, next_step, AreSteps, key_in, Makes, KindMakes}
use Rattle.steplaws.specs.Facts.{most_of, put_at, value_of, with_value, Lanes, with_under, with_chain, Moment, moment, Rule}
use Rattle.steplaws.specs.StepLaws.{Keeps, IsFilling}
use Rattle.steplaws.proofs.Keeping.{rule-same}
use Rattle.steplaws.proofs.Lives.{most-lane}
use Rattle.steplaws.proofs.Enters.{get-hits-law, get-misses-law, clear-hits-law, clear-misses-law}
use Rattle.steplaws.proofs.Publishes.{publish-law}
use Rattle.steplaws.proofs.Marks.{mark-law}
use Rattle.steplaws.proofs.TakeLaws.{take-chain-law}
use Rattle.traces.specs.Books.{Book, caller, call_under_way, next_in, taken, pushed_by, pushed_after, act_list}
use Rattle.traces.specs.Lawful.{World, CallMakes, IsStep}
use Rattle.traces.specs.Parts.{under_end, under_mark, under_miss, under_call, under_first}
use Rattle.traces.specs.Making.{AreMade, HasMade}
use Rattle.traces.specs.Owning.{Holds, IsOwned, lanes_now}
use Rattle.traces.proofs.Ends.{AreEndSteps, IsLeaving, end_rule, still_pushed}
use Rattle.traces.proofs.Worlds.{after_step}
use Rattle.traces.proofs.StepLanes.{lanes_at, put_self, pushed_after-snoc, taken-more, lanes_stepped}
use Rattle.traces.proofs.StepCalls.{with_act-list, get_missed, release_leaving, clear_missed, clear_marked, IsCalled, called, filling_facts, reference_facts, fewer, reference_key, end_steps, end_kind, end_takes_none, next_where, next_unless, no_next, same_some, take_kind, take_stack, first_apart, takes_none}

no_reply : (reply : Option (List ℕ)) → is_some reply ≡ false → reply ≡ None
no_reply None e = refl
no_reply (Some content) e = absurd (cc e)

module _ (z : Shape) (m : Moment) (lane : ℕ) (pushed : ℕ → ℕ) (chain : List ℕ) (step : Step) (act : Option Act) where
  abbrev the_caller : Caller
  the_caller = record { shape = z; lane = lane; pushed = pushed }

  -- a call of the lane has made these steps and these acts, and now it makes this step
  record IsGoing (call : Call) (steps : List Step) (told : List Act) : Type 0 where
    rule : Rule z m
    below : lane < z.lanes
    under : m.lanes.under lane ≡ under_call z lane call steps
    last : (shard : ℕ) → m.lanes.pushed shard lane ≡ pushed_after steps pushed shard
    found : m.lanes.chain lane ≡ chain ++ taken told
    are : AreSteps the_caller call [] steps
    were : AreMade the_caller call steps told
    next : next_step the_caller call steps ≡ Some (aim step.kind step.word)
    before : step.before ≡ value_of m.words step.word
    changes : Changes z.last_generation step.kind step.before step.after
    makes : Makes the_caller call m.words.link step act
    legal : IsLegal z (m.history ++ act_list act)

  -- the lanes after the step
  abbrev lanes_after : Call → List Step → List Act → Lanes
  lanes_after call steps told = lanes_at m.lanes lane (under_call z lane call (steps ++ step ∷ [])) (pushed_after (steps ++ step ∷ []) pushed)
      (chain ++ taken (told ++ act_list act))

  -- the rule holds after the step
  abbrev Kept : Call → List Step → List Act → Type 0
  Kept call steps told = Rule z (moment (with_value m.words step.word step.after) (m.history ++ act_list act) (lanes_after call steps told))

  -- what a step of this kind on this word does
  record IsOf (call : Call) (kind : Kind) (word : Word) : Type 0 where
    kind_is : kind ≡ step.kind
    word_is : word ≡ step.word
    finds : step.before ≡ value_of m.words word
    leaves : Changes z.last_generation kind step.before step.after
    does : KindMakes kind the_caller call m.words.link word step.before act

  module _ (call : Call) (steps : List Step) (told : List Act) (g : IsGoing call steps told) where
    is_of : (kind : Kind) (word : Word) → aim kind word ≡ aim step.kind step.word → IsOf call kind word
    is_of kind word e =
        let k : kind ≡ step.kind = ap (λ (a : Aim). a.kind) e in
        let w : word ≡ step.word = ap (λ (a : Aim). a.word) e in record {
          kind_is = k;
          word_is = w;
          finds = g.before ∙ sym (ap (value_of m.words) w);
          leaves = subst (λ (x : Kind). Changes z.last_generation x step.before step.after) (sym k) g.changes;
          does = subst (λ (t : Kind × Word). KindMakes t.0 the_caller call m.words.link t.1 step.before act) (λ i. (sym k i, sym w i)) g.makes;
        }

    -- a law of a step of this kind on this word, that left this value and made this act, after which the lanes are these
    kept_by : (kind : Kind) (word : Word) (value : ℕ) (did : Option Act) (lanes : Lanes) → Keeps z m kind word value did lanes
        → word ≡ step.word → value ≡ step.after → did ≡ act → lanes ≡ lanes_after call steps told → Kept call steps told
    kept_by kind word value did lanes law at left same is =
        subst (λ (t : Word × ℕ × List Act × Lanes). Rule z (moment (with_value m.words t.0 t.1) t.2 t.3))
        (λ i. (at i, left i, (with_act-list m.history did ∙ ap (λ (o : Option Act). m.history ++ act_list o) same) i, is i)) law.rule

    -- the lane has pushed and taken no more, and has then this under way
    only_under : (pending : Pending) → under_call z lane call (steps ++ step ∷ []) ≡ pending → taken (act_list act) ≡ []
        → ((shard : ℕ) → pushed_by step step.kind step.word (pushed_after steps pushed) shard ≡ pushed_after steps pushed shard)
        → with_under m.lanes lane pending ≡ lanes_after call steps told
    only_under pending is none still = λ i. record {
      under = put_at m.lanes.under lane (sym is i);
      pushed = λ shard other. put_self (m.lanes.pushed shard) lane (pushed_after (steps ++ step ∷ []) pushed shard)
          (ap (λ (f : ℕ → ℕ). f shard) (pushed_after-snoc steps step pushed) ∙ (still shard ∙ sym (g.last shard))) other (eqb other lane) refl i;
      chain = λ other. put_self m.lanes.chain lane (chain ++ taken (told ++ act_list act))
          (ap (λ (xs : List ℕ). chain ++ xs) (taken-more told (act_list act) none) ∙ sym g.found) other (eqb other lane) refl i;
    }

    -- a step on a lifecycle word, but for an END's
    kept_life : (kind : Kind) (word : Word) (value : ℕ) (did : Option Act) (pending : Pending) → IsOf call kind word
        → Keeps z m kind word value did (with_under m.lanes lane pending) → value ≡ step.after → did ≡ act
        → under_call z lane call (steps ++ step ∷ []) ≡ pending → taken (act_list did) ≡ [] → ((f : ℕ → ℕ) → pushed_by step kind step.word f ≡ f)
        → Kept call steps told
    kept_life kind word value did pending s law left same is none still = kept_by kind word value did (with_under m.lanes lane pending) law
        s.word_is left same
        (only_under pending is (sym (ap (λ (o : Option Act). taken (act_list o)) same) ∙ none)
        (λ shard. ap (λ (k : Kind). pushed_by step k step.word (pushed_after steps pushed) shard) (sym s.kind_is)
        ∙ ap (λ (f : ℕ → ℕ). f shard) (still (pushed_after steps pushed))))

    -- a step that changes nothing
    kept_same : step.after ≡ step.before → act ≡ None → under_call z lane call (steps ++ step ∷ []) ≡ under_call z lane call steps
        → ((f : ℕ → ℕ) → pushed_by step step.kind step.word f ≡ f) → Kept call steps told
    kept_same same none is still =
        subst (λ (t : List Act × Lanes). Rule z (moment (with_value m.words step.word step.after) t.0 t.1))
        (λ i. ((sym (append-nil m.history) ∙ ap (λ (o : Option Act). m.history ++ act_list o) (sym none)) i, self i))
        (rule-same z m.words m.history m.lanes step.word step.after (same ∙ g.before) g.rule)
      where
        self : m.lanes ≡ lanes_after call steps told
        self = λ i. record {
          under = λ other. put_self m.lanes.under lane (under_call z lane call (steps ++ step ∷ [])) (is ∙ sym g.under) other (eqb other lane) refl i;
          pushed = λ shard other. put_self (m.lanes.pushed shard) lane (pushed_after (steps ++ step ∷ []) pushed shard)
              (ap (λ (f : ℕ → ℕ). f shard) (pushed_after-snoc steps step pushed)
              ∙ (ap (λ (f : ℕ → ℕ). f shard) (still (pushed_after steps pushed)) ∙ sym (g.last shard)))
              other (eqb other lane) refl i;
          chain = λ other. put_self m.lanes.chain lane (chain ++ taken (told ++ act_list act))
              (ap (λ (o : Option Act). chain ++ taken (told ++ act_list o)) none
              ∙ (ap (λ (xs : List Act). chain ++ taken xs) (append-nil told) ∙ sym g.found))
              other (eqb other lane) refl i;
        }

    -- a step that an END makes next
    kept_end : (more : List Step) → is_place z (place_of (key_in call)) ≡ true → AreEndSteps the_caller (place_of (key_in call)) [] more
        → IsLeaving z m lane call more → end_next the_caller (place_of (key_in call)) more ≡ Some (aim step.kind step.word)
        → under_call z lane call (steps ++ step ∷ []) ≡ under_end z lane (place_of (key_in call)) (more ++ step ∷ []) → Kept call steps told
    kept_end more inside ends leaving next is =
        let place : ℕ = place_of (key_in call) in
        let still : (shard : ℕ) → pushed_after steps pushed shard ≡ pushed shard = still_pushed the_caller call steps g.are
        (aim step.kind step.word) g.next in
        let none = end_takes_none step.kind the_caller call m.words.link step.word step.before act
        (end_kind the_caller place more step.kind step.word next) g.makes in
        subst (λ (lanes : Lanes). Rule z (moment (with_value m.words step.word step.after) (m.history ++ act_list act) lanes)) (λ i. record {
          under = put_at m.lanes.under lane (sym is i);
          pushed = λ shard other. cond (eqb other lane)
              ((ap (λ (f : ℕ → ℕ). pushed_by step step.kind step.word f shard) (sym (fun_ext still))
              ∙ ap (λ (f : ℕ → ℕ). f shard) (sym (pushed_after-snoc steps step pushed))) i)
              (m.lanes.pushed shard other);
          chain = λ other. put_self m.lanes.chain lane (chain ++ taken (told ++ act_list act))
              (ap (λ (xs : List ℕ). chain ++ xs) (taken-more told (act_list act) none) ∙ sym g.found) other (eqb other lane) refl i;
        })
        (end_rule z m lane place pushed call more step act g.rule g.below inside refl (λ shard. g.last shard ∙ still shard) ends leaving next
        g.before g.changes m.words.link g.makes)

  -- ---- publish and downgrade

  publish_kept : (key : ℕ) (content : List ℕ) (with_ref : Bool) (steps : List Step) (told : List Act)
      → IsGoing (Publishing key content with_ref) steps told
      → (told ≡ [] → IsFilling z m lane key) → Kept (Publishing key content with_ref) steps told
  publish_kept key content with_ref [] told g filling =
      let call : Call = Publishing key content with_ref in
      let s = is_of call [] told g (kinds.Publish with_ref) (Life (place_of key))
      (same_some (aim (kinds.Publish with_ref) (Life (place_of key))) (aim step.kind step.word) g.next) in
      let word : ℕ = m.words.life (place_of key) in
      kept_life call [] told g (kinds.Publish with_ref) (Life (place_of key)) (cond with_ref (word + 5) (word + 1))
      (Some (acts.Publish lane key content with_ref)) Nothing s
      (publish-law z m lane key content with_ref g.rule (omega (arith, g.below), g.under) (filling g.were))
      (ap (λ (n : ℕ). cond with_ref (n + 5) (n + 1)) (sym s.finds) ∙ sym s.leaves.1) (sym s.does) refl refl (λ f. refl)
  publish_kept key content with_ref (x ∷ more) told g filling = no_next (aim step.kind step.word) g.next

  -- ---- get

  -- the reply of a get is what the pool shows
  reply_shown : (key : ℕ) (reply : Option (List ℕ)) → IsLegal z (m.history ++ act_list act) → act ≡ Some (acts.Get lane key reply)
      → Allowed z (pool_after z m.history) (acts.Get lane key reply)
  reply_shown key reply legal is =
      (legal-rest z fresh m.history (acts.Get lane key reply ∷ []) (subst (λ (o : Option Act). IsLegal z (m.history ++ act_list o)) is legal)).1

  get_enters : (key : ℕ) (told : List Act) → IsGoing (Getting key) [] told → references z (pool_after z m.history) lane key < most_of z lane
      → is_key z key ≡ true → IsOf (Getting key) kinds.Enter (Life (place_of key)) → (t : Bool) → is_hit key (m.words.life (place_of key)) ≡ t
      → Kept (Getting key) [] told
  get_enters key told g few good s true hit =
      let law = get-hits-law z m lane key g.rule (omega (arith, g.below), g.under) good few hit in
      let does = s.does in
      let same : Some law.0 ≡ does.0 = law.1.allowed.1 ∙ sym (reply_shown key does.0 g.legal does.2) in
      kept_life (Getting key) [] told g kinds.Enter (Life (place_of key)) (m.words.life (place_of key) + 4)
      (Some (acts.Get lane key (Some law.0))) Nothing s law.1
      (ap (λ (n : ℕ). n + 4) (sym s.finds) ∙ sym s.leaves) (ap (λ (r : Option (List ℕ)). Some (acts.Get lane key r)) same ∙ sym does.2)
      (ap (λ (n : ℕ). cond (is_hit key n) Nothing (Undo key false)) s.finds ∙ ap (λ (b : Bool). cond b Nothing (Undo key false)) hit) refl (λ f. refl)
  get_enters key told g few good s false miss =
      let law = get-misses-law z m lane key g.rule (omega (arith, g.below), g.under) good miss in
      let does = s.does in
      let same : does.0 ≡ None = no_reply does.0 (does.1 ∙ (ap (is_hit key) s.finds ∙ miss)) in
      kept_life (Getting key) [] told g kinds.Enter (Life (place_of key)) (m.words.life (place_of key) + 4) (Some (acts.Get lane key None))
      (Undo key false) s law
      (ap (λ (n : ℕ). n + 4) (sym s.finds) ∙ sym s.leaves) (ap (λ (r : Option (List ℕ)). Some (acts.Get lane key r)) (sym same) ∙ sym does.2)
      (ap (λ (n : ℕ). cond (is_hit key n) Nothing (Undo key false)) s.finds ∙ ap (λ (b : Bool). cond b Nothing (Undo key false)) miss) refl
      (λ f. refl)

  -- after an ENTER that missed
  miss_under : (key : ℕ) (more : List Step) → under_miss z lane key (more ++ step ∷ []) ≡ under_end z lane (place_of key) (more ++ step ∷ [])
  miss_under key [] = refl
  miss_under key (x ∷ more) = refl

  get_kept : (key : ℕ) (steps : List Step) (told : List Act) → IsGoing (Getting key) steps told
      → (told ≡ [] → references z (pool_after z m.history) lane key < most_of z lane) → Kept (Getting key) steps told
  get_kept key [] told g few =
      let n = next_where (is_key z key) (aim kinds.Enter (Life (place_of key))) (aim step.kind step.word) g.next in
      get_enters key told g (few g.were) n.0 (is_of (Getting key) [] told g kinds.Enter (Life (place_of key)) n.1)
      (is_hit key (m.words.life (place_of key))) refl
  get_kept key (enter ∷ more) told g few =
      let good = next_where (is_key z key) (aim kinds.Enter (Life (place_of key))) (aim enter.kind enter.word) g.are.0 in
      let n = next_unless (is_hit key enter.before) (end_next the_caller (place_of key) more) (aim step.kind step.word) g.next in
      kept_end (Getting key) (enter ∷ more) told g more (key_parts z key good.0).place
      (end_steps the_caller (Getting key) (place_of key) (enter ∷ []) [] more g.were.1
      (λ steps. ap (λ (b : Bool). cond b None (end_next the_caller (place_of key) steps)) n.0) g.are.1 g.were.4)
      (get_missed z m lane key more (g.under ∙ ap (λ (b : Bool). cond b Nothing (under_miss z lane key more)) n.0)) n.1
      (ap (λ (b : Bool). cond b Nothing (under_miss z lane key (more ++ step ∷ []))) n.0 ∙ miss_under key more)

  -- ---- release

  release_kept : (key : ℕ) (steps : List Step) (told : List Act) → IsGoing (Releasing key) steps told → is_key z key ≡ true
      → (told ≡ [] → 0 < references z (pool_after z m.history) lane key) → Kept (Releasing key) steps told
  release_kept key steps told g good some =
      kept_end (Releasing key) steps told g steps (key_parts z key good).place
      (end_steps the_caller (Releasing key) (place_of key) [] [] steps told (λ more. refl) g.are g.were)
      (release_leaving z m lane the_caller key steps told g.under g.were some) g.next refl

  -- ---- clear

  clear_enters : (key : ℕ) (told : List Act) → IsGoing (Clearing key) [] told → is_key z key ≡ true
      → IsOf (Clearing key) kinds.Enter (Life (place_of key)) → (t : Bool) → is_hit key (m.words.life (place_of key)) ≡ t
      → Kept (Clearing key) [] told
  clear_enters key told g good s true hit =
      kept_life (Clearing key) [] told g kinds.Enter (Life (place_of key)) (m.words.life (place_of key) + 4) None (Undo key true) s
      (clear-hits-law z m lane key g.rule (omega (arith, g.below), g.under) good hit)
      (ap (λ (n : ℕ). n + 4) (sym s.finds) ∙ sym s.leaves)
      (sym (s.does ∙ (ap (λ (n : ℕ). cond (is_hit key n) None (Some (acts.Clear lane key false))) s.finds
      ∙ ap (λ (b : Bool). cond b None (Some (acts.Clear lane key false))) hit)))
      (ap (λ (n : ℕ). cond (is_hit key n) (Undo key true) (Undo key false)) s.finds
      ∙ ap (λ (b : Bool). cond b (Undo key true) (Undo key false)) hit) refl (λ f. refl)
  clear_enters key told g good s false miss =
      kept_life (Clearing key) [] told g kinds.Enter (Life (place_of key)) (m.words.life (place_of key) + 4) (Some (acts.Clear lane key false))
      (Undo key false) s
      (clear-misses-law z m lane key g.rule (omega (arith, g.below), g.under) good miss)
      (ap (λ (n : ℕ). n + 4) (sym s.finds) ∙ sym s.leaves)
      (sym (s.does ∙ (ap (λ (n : ℕ). cond (is_hit key n) None (Some (acts.Clear lane key false))) s.finds
      ∙ ap (λ (b : Bool). cond b None (Some (acts.Clear lane key false))) miss)))
      (ap (λ (n : ℕ). cond (is_hit key n) (Undo key true) (Undo key false)) s.finds
      ∙ ap (λ (b : Bool). cond b (Undo key true) (Undo key false)) miss) refl (λ f. refl)

  mark_under : (key : ℕ) (mark : Step) (more : List Step)
      → under_mark z lane key (mark ∷ (more ++ step ∷ [])) ≡ under_end z lane (place_of key) (more ++ step ∷ [])
  mark_under key mark [] = refl
  mark_under key mark (x ∷ more) = refl

  clear_misses : (key : ℕ) (enter : Step) (more : List Step) (told : List Act) → IsGoing (Clearing key) (enter ∷ more) told → is_key z key ≡ true
      → is_hit key enter.before ≡ false → Kept (Clearing key) (enter ∷ more) told
  clear_misses key enter more told g good miss =
      let next : (steps : List Step) → next_step the_caller (Clearing key) (enter ∷ steps) ≡ end_next the_caller (place_of key) steps
      = λ steps. ap (λ (b : Bool). cond b (mark_next the_caller (place_of key) steps) (end_next the_caller (place_of key) steps)) miss in
      kept_end (Clearing key) (enter ∷ more) told g more (key_parts z key good).place
      (end_steps the_caller (Clearing key) (place_of key) (enter ∷ []) [] more g.were.1 next g.are.1 g.were.4)
      (clear_missed z m lane key more (g.under ∙ ap (λ (b : Bool). cond b (under_mark z lane key more) (under_miss z lane key more)) miss))
      (sym (next more) ∙ g.next)
      (ap (λ (b : Bool). cond b (under_mark z lane key (more ++ step ∷ [])) (under_miss z lane key (more ++ step ∷ []))) miss ∙ miss_under key more)

  clear_hits : (key : ℕ) (enter : Step) (more : List Step) (told : List Act) → IsGoing (Clearing key) (enter ∷ more) told → is_key z key ≡ true
      → is_hit key enter.before ≡ true → Kept (Clearing key) (enter ∷ more) told
  clear_hits key enter [] told g good hit =
      let next : aim kinds.Mark (Life (place_of key)) ≡ aim step.kind step.word = same_some (aim kinds.Mark (Life (place_of key)))
      (aim step.kind step.word)
      (sym (ap (λ (b : Bool). cond b (mark_next the_caller (place_of key) []) (end_next the_caller (place_of key) [])) hit) ∙ g.next) in
      let s = is_of (Clearing key) (enter ∷ []) told g kinds.Mark (Life (place_of key)) next in
      let word : ℕ = m.words.life (place_of key) in
      let found : step.before ≡ word = s.finds in
      let leaves = s.leaves in
      let value : word + 3 - state_in word ≡ step.after = ap (λ (n : ℕ). n + 3 - state_in n) (sym found) ∙ (let change = leaves.2 in omega arith) in
      kept_life (Clearing key) (enter ∷ []) told g kinds.Mark (Life (place_of key)) (word + 3 - state_in word)
      (Some (acts.Clear lane key (eqb (state_in word) 1))) (Undo key true) s
      (mark-law z m lane key g.rule (omega (arith, g.below), g.under ∙ ap (λ (b : Bool). cond b (Undo key true) (Undo key false)) hit))
      value (sym (s.does ∙ ap (λ (n : ℕ). Some (acts.Clear lane key (eqb (state_in n) 1))) found))
      (ap (λ (b : Bool). cond b (Undo key true) (under_miss z lane key (step ∷ []))) hit) refl (λ f. refl)
  clear_hits key enter (mark ∷ more) told g good hit =
      let next : (steps : List Step) → next_step the_caller (Clearing key) (enter ∷ mark ∷ steps) ≡ end_next the_caller (place_of key) steps
      = λ steps. ap (λ (b : Bool). cond b (end_next the_caller (place_of key) steps) (end_next the_caller (place_of key) (mark ∷ steps))) hit in
      kept_end (Clearing key) (enter ∷ mark ∷ more) told g more (key_parts z key good).place
      (end_steps the_caller (Clearing key) (place_of key) (enter ∷ mark ∷ []) [] more g.were.4.1 next g.are.1.1 g.were.4.4)
      (clear_marked z m lane key mark more (g.under
      ∙ ap (λ (b : Bool). cond b (under_mark z lane key (mark ∷ more)) (under_miss z lane key (mark ∷ more))) hit))
      (sym (next more) ∙ g.next)
      (ap (λ (b : Bool). cond b (under_mark z lane key (mark ∷ (more ++ step ∷ []))) (under_miss z lane key (mark ∷ (more ++ step ∷ [])))) hit
      ∙ mark_under key mark more)

  clear_kept : (key : ℕ) (steps : List Step) (told : List Act) → IsGoing (Clearing key) steps told → Kept (Clearing key) steps told
  clear_kept key [] told g =
      let n = next_where (is_key z key) (aim kinds.Enter (Life (place_of key))) (aim step.kind step.word) g.next in
      clear_enters key told g n.0 (is_of (Clearing key) [] told g kinds.Enter (Life (place_of key)) n.1)
      (is_hit key (m.words.life (place_of key))) refl
  clear_kept key (enter ∷ more) told g = by_test (is_hit key enter.before) refl
    where
      good : is_key z key ≡ true
      good = (next_where (is_key z key) (aim kinds.Enter (Life (place_of key))) (aim enter.kind enter.word) g.are.0).0

      by_test : (t : Bool) → is_hit key enter.before ≡ t → Kept (Clearing key) (enter ∷ more) told
      by_test true hit = clear_hits key enter more told g good hit
      by_test false miss = clear_misses key enter more told g good miss

  -- ---- create

  -- FOLLOW
  follow_kept : (call : Call) (steps : List Step) (told : List Act) → IsGoing call steps told → step.kind ≡ kinds.Follow
      → under_call z lane call (steps ++ step ∷ []) ≡ under_call z lane call steps → Kept call steps told
  follow_kept call steps told g is under =
      kept_same call steps told g (subst (λ (k : Kind). Changes z.last_generation k step.before step.after) is g.changes)
      (subst (λ (k : Kind). KindMakes k the_caller call m.words.link step.word step.before act) is g.makes) under
      (λ f. ap (λ (k : Kind). pushed_by step k step.word f) is)

  -- TAKE of a stack: before it the create has made no act, and has no chain
  take_kept : (opened : ℕ) (steps : List Step) (told : List Act) → IsGoing (Creating [] [] opened) steps told → [] ≡ chain → told ≡ []
      → step.kind ≡ kinds.Take
      → (other : ℕ) → Stack lane other ≡ step.word → other < z.lanes → other ≢ lane → (t : Bool) → eqb step.before 0 ≡ t
      → Kept (Creating [] [] opened) steps told
  take_kept opened steps told g chainless idle is other at inside apart true none =
      let left : step.after ≡ 0 = subst (λ (k : Kind). Changes z.last_generation k step.before step.after) is g.changes in
      let zero_word : step.before ≡ 0 = eqb-true step.before 0 none in
      kept_same (Creating [] [] opened) steps told g (left ∙ sym zero_word)
      ((subst (λ (k : Kind). KindMakes k the_caller (Creating [] [] opened) m.words.link step.word step.before act) is g.makes).0 zero_word) refl
      (λ f. ap (λ (k : Kind). pushed_by step k step.word f) is)
  take_kept opened steps told g chainless idle is other at inside apart false some =
      let call : Call = Creating [] [] opened in
      let word : ℕ = m.words.stack lane other in
      let found : step.before ≡ word = g.before ∙ sym (ap (value_of m.words) at) in
      let full : word ≢ 0 = λ e. eqb-false step.before 0 some (found ∙ e) in
      let law = take-chain-law z m lane other g.rule g.below inside apart full in
      let left : step.after ≡ 0 = subst (λ (k : Kind). Changes z.last_generation k step.before step.after) is g.changes in
      let does = (subst (λ (k : Kind). KindMakes k the_caller call m.words.link step.word step.before act) is g.makes).1
      (eqb-false step.before 0 some) in
      let same : law.0 ≡ does.0 = leads-one m.words.link lane word law.0 does.0 law.1
      (subst (λ (n : ℕ). Leads m.words.link lane n does.0) found does.1) in
      let did : Some (acts.Collect lane law.0) ≡ act = ap (λ (places : List ℕ). Some (acts.Collect lane places)) same ∙ sym does.2 in
      kept_by call steps told g kinds.Take (Stack lane other) 0 (Some (acts.Collect lane law.0)) (with_chain m.lanes lane law.0) law.3 at
      (sym left) did (λ i. record {
        under = λ one. put_self m.lanes.under lane Nothing (sym g.under) one (eqb one lane) refl i;
        pushed = λ shard one. put_self (m.lanes.pushed shard) lane (pushed_after (steps ++ step ∷ []) pushed shard)
            (ap (λ (f : ℕ → ℕ). f shard) (pushed_after-snoc steps step pushed)
            ∙ (ap (λ (k : Kind). pushed_by step k step.word (pushed_after steps pushed) shard) is ∙ sym (g.last shard))) one (eqb one lane) refl i;
        chain = put_at m.lanes.chain lane
            (ap (λ (t : List ℕ × List Act × Option Act). t.0 ++ taken (t.1 ++ act_list t.2)) (λ j. (chainless j, sym idle j, did j)) i);
      })

  create_takes : (opened : ℕ) (steps : List Step) (told : List Act) → IsGoing (Creating [] [] opened) steps told → [] ≡ chain
      → eqb opened 0 ≡ false → take_next the_caller (first_lane lane) steps ≡ Some (aim step.kind step.word) → Kept (Creating [] [] opened) steps told
  create_takes opened steps told g chainless some next =
      ⊎_elim
      (λ (is : step.kind ≡ kinds.Take).
      let at : take_next the_caller (first_lane lane) steps ≡ Some (aim kinds.Take step.word) = next ∙ ap (λ (k : Kind). Some (aim k step.word)) is in
      let t = take_stack the_caller (first_lane lane) steps step.word (first_apart lane) at in
      let idle : told ≡ [] = takes_none the_caller (Creating [] [] opened) [] (first_lane lane) steps told step.word
      (λ more. ap (λ (b : Bool). cond b None (take_next the_caller (first_lane lane) more)) some) g.are g.were at in
      take_kept opened steps told g chainless idle is t.0 t.1 t.2 t.3 (eqb step.before 0) refl)
      (λ (is : step.kind ≡ kinds.Follow). follow_kept (Creating [] [] opened) steps told g is refl)
      (take_kind the_caller (first_lane lane) steps (aim step.kind step.word) next)

  create_kept : (own linked : List ℕ) (opened : ℕ) (steps : List Step) (told : List Act) → IsGoing (Creating own linked opened) steps told
      → linked ≡ chain
      → Kept (Creating own linked opened) steps told
  create_kept (place ∷ own) linked opened steps told g is = no_next (aim step.kind step.word) g.next
  create_kept [] (place ∷ linked) opened [] told g is =
      let next : aim kinds.Follow (Link place) ≡ aim step.kind step.word = same_some (aim kinds.Follow (Link place)) (aim step.kind step.word)
      g.next in
      follow_kept (Creating [] (place ∷ linked) opened) [] told g (sym (ap (λ (a : Aim). a.kind) next)) refl
  create_kept [] (place ∷ linked) opened (follow ∷ more) told g is = no_next (aim step.kind step.word) g.next
  create_kept [] [] opened steps told g is =
      let n = next_unless (eqb opened 0) (take_next the_caller (first_lane lane) steps) (aim step.kind step.word) g.next in
      create_takes opened steps told g is n.0 n.1

-- ---- all calls

module _ (z : Shape) (w : World) (lane : ℕ) (step : Step) (act : Option Act) (h : Holds z w) (below : lane < z.lanes)
    (is : IsStep z lane w.words (w.books lane) step act) (legal : IsLegal z (w.history ++ act_list act)) where
  abbrev now : Moment
  now = moment w.words w.history (lanes_now z w)

  abbrev book : Book
  book = w.books lane

  owned : IsOwned z (pool_after z w.history) lane book
  owned = h.owned lane below

  going : (call : Call) → call_under_way book ≡ Some call → IsGoing z now lane book.pushed book.chain step act call book.steps book.acts
  going call e =
      let made : AreSteps (caller z lane book) call [] book.steps × AreMade (caller z lane book) call book.steps book.acts
      = subst (λ (o : Option Call). HasMade (caller z lane book) o book.steps book.acts) e owned.call in record {
        rule = h.rule;
        below = below;
        under = ap (λ (o : Option Call). under_first z lane o book.steps) e;
        last = λ shard. refl;
        found = refl;
        are = made.0;
        were = made.1;
        next = sym (ap (next_in (caller z lane book) book.steps) e) ∙ is.next;
        before = is.before;
        changes = is.changes;
        makes = subst (λ (o : Option Call). CallMakes (caller z lane book) o w.words.link step act) e is.makes;
        legal = legal;
      }

  -- by the call under way
  kept : (call : Call) → IsCalled book call → IsGoing z now lane book.pushed book.chain step act call book.steps book.acts
      → Kept z now lane book.pushed book.chain step act call book.steps book.acts
  kept (Publishing key content with_ref) (number, holds) g =
      publish_kept z now lane book.pushed book.chain step act key content with_ref book.steps book.acts g
      (λ idle. let f = filling_facts z (pool_after z w.history) lane book owned idle number key content holds in
      record { current = f.0; with_lane = f.1; unchained = f.2 })
  kept (Getting key) is_called g =
      get_kept z now lane book.pushed book.chain step act key book.steps book.acts g
      (λ idle. most-lane z lane _ below (fewer z (pool_after z w.history) lane book owned idle key))
  kept (Releasing key) (number, content, holds) g =
      release_kept z now lane book.pushed book.chain step act key book.steps book.acts g
      (reference_key z (pool_after z w.history) lane book owned number key content holds)
      (λ idle. reference_facts z (pool_after z w.history) lane book owned idle number key content holds)
  kept (Clearing key) is_called g = clear_kept z now lane book.pushed book.chain step act key book.steps book.acts g
  kept (Creating own linked opened) chained g = create_kept z now lane book.pushed book.chain step act own linked opened book.steps book.acts g
      chained

  by_call : (o : Option Call) → call_under_way book ≡ o
      → Rule z (moment (with_value w.words step.word step.after) (w.history ++ act_list act) (lanes_now z (after_step z w lane step act)))
  by_call None e = no_next (aim step.kind step.word) (sym (ap (next_in (caller z lane book) book.steps) e) ∙ is.next)
  by_call (Some call) e =
      subst (λ (lanes : Lanes). Rule z (moment (with_value w.words step.word step.after) (w.history ++ act_list act) lanes))
      (sym (lanes_stepped z w lane step act (under_call z lane call (book.steps ++ step ∷ [])) (pushed_after (book.steps ++ step ∷ []) book.pushed)
      (book.chain ++ taken (book.acts ++ act_list act)) (ap (λ (o : Option Call). under_first z lane o (book.steps ++ step ∷ [])) e)
      (λ shard. refl) refl))
      (kept call (called book call book.left e) (going call e))

-- every step keeps the rule
pub rule_step : (z : Shape) (w : World) (lane : ℕ) (step : Step) (act : Option Act) → Holds z w → lane < z.lanes
    → IsStep z lane w.words (w.books lane) step act
    → IsLegal z (w.history ++ act_list act)
    → Rule z (moment (with_value w.words step.word step.after) (w.history ++ act_list act) (lanes_now z (after_step z w lane step act)))
rule_step z w lane step act h below is legal = by_call z w lane step act h below is legal (call_under_way (w.books lane)) refl
