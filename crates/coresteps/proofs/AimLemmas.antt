-- The next step of a call, told by its last step alone.
use Rattle.std.proofs.Common.{◌≡◌, ◌≢◌, ℕ, zero, suc, ◌+◌, ◌<◌, ◌≤◌, Bool, true, false, not, cond, eqb, ltb, ◌&&◌, List, [], ◌∷◌, ◌++◌, Option, Some, None, refl, ap, sym, ◌∙◌, subst, arith, append-nil, append_assoc, eq-eqb, ne_eqb, drop, length, get_or, slice_get, slice_index}
use Rattle.std.proofs.lemmas.Bool.{eqb-true, eqb-false}
use Rattle.std.proofs.lemmas.List.{drop_all}
use borrow.Author.Tests.{ltb-false}
use Rattle.keybits.specs.declared.shape.Shape.{Shape}
use Rattle.keybits.specs.declared.step.Kind.{Kind}
use Rattle.keybits.specs.declared.step.Kind.TheVariants as kinds
use Rattle.keybits.specs.declared.step.Word.{Word}
use Rattle.keybits.specs.declared.step.Word.TheVariants.{Life, Link, Stack}
use Rattle.keybits.specs.declared.step.Step.{Step}
use Rattle.keybits.specs.Places.{shard_of}
use Rattle.keybits.specs.Keys.{place_of, is_key}
use Rattle.keybits.specs.Words.{generation_in}
use Rattle.keybits.specs.Links.{link_to, linked_place, Leads}
use Rattle.keybits.specs.Counts.{times}
use Rattle.keybits.proofs.CountLemmas.{times-head, times-append}
use Rattle.keybits.proofs.KeyLemmas.{key_parts}
use Rattle.keybits.proofs.ShapeLemmas.{is_place-parts, shape_bounds}
use Rattle.seqpool.specs.declared.act.Act.{Act}
use Rattle.seqpool.specs.Pool.{Pool, pool_after}
use Rattle.steplaws.specs.Calls.{Call, Publishing, Getting, Releasing, Clearing, Creating, Caller, Aim, aim, is_hit, owes_claim, is_claimed, first_lane, next_lane, end_next, mark_next, follow_next, take_next, next_step, AreSteps, key_in, KindMakes}
use Rattle.traces.specs.declared.registers.Holding.TheVariants.{Filling}
use Rattle.traces.specs.Books.{Book, caller, call_of, call_of_first, call_under_way, next_in, next_aim, pushed_after, act_list, taken}
use Rattle.traces.specs.declared.script.Command.{Command}
use Rattle.traces.specs.Lawful.{World}
use Rattle.traces.specs.Making.{IsMade, AreMade, HasMade}
use Rattle.traces.specs.Owning.{IsHolding, IsOwned}
use Rattle.traces.proofs.HoldingLemmas.{holding-at}
use Rattle.traces.specs.Keeping.{IsFound, AreFound}
use Rattle.traces.proofs.Ends.{still_pushed, AreEnd, end_of}
use Rattle.traces.proofs.Idles.{same_kind, chosen_some}
use Rattle.traces.proofs.StepCalls.{same_some, next_where, next_unless, no_next, is_end, end_kind, takes_none, take_stack, first_apart, IsCalled, called, reference_key}
use Rattle.coresteps.specs.declared.aims.Aim.{Aim as OwnAim}
use Rattle.coresteps.specs.declared.lane.Lane.{Lane}
use Rattle.coresteps.specs.declared.progress.Progress.{Progress}
use Rattle.coresteps.specs.declared.progress.Call.{Call as OwnCall}
use Rattle.coresteps.specs.declared.progress.Call.TheVariants.{Publish, Get, Release, Clear, Create}
use Rattle.coresteps.specs.declared.shared.Made.{Made}
use Rattle.coresteps.specs.declared.shared.Shared.{Shared}
use Rattle.coresteps.specs.Kept.{IsDraft, IsLaneAt}
use Rattle.coresteps.specs.Lanes.{last_step, aim_of, IsAim, IsCall, written_since}

-- ---- END

-- the step of an END at a place after one of this kind that found this word, where this top was last pushed on the place's stack
abbrev pub end_after : Shape → ℕ → ℕ → ℕ → Kind → ℕ → Option Aim
end_after z lane top place kinds.Enter before = Some (aim kinds.Leave (Life place))
end_after z lane top place kinds.Mark before = Some (aim kinds.Leave (Life place))
end_after z lane top place kinds.Leave before = cond (owes_claim before) (Some (aim (kinds.Claim (generation_in before)) (Life place))) None
end_after z lane top place (kinds.Claim generation) before =
    cond (is_claimed generation before && not (eqb generation z.last_generation) && not (eqb (shard_of place) lane))
    (Some (aim (kinds.Link top) (Link place))) None
end_after z lane top place (kinds.Link expected) before = Some (aim (kinds.Push expected (link_to place)) (Stack (shard_of place) lane))
end_after z lane top place (kinds.Push expected link) before = cond (eqb before expected) None (Some (aim (kinds.Link 0) (Link place)))
end_after z lane top place (kinds.Publish with_ref) before = None
end_after z lane top place kinds.Take before = None
end_after z lane top place kinds.Follow before = None

-- what is chosen by a test that holds, and by one that fails
chosen : {A : Type 0} (t : Bool) (x y : A) → t ≡ true → cond t x y ≡ x
chosen true x y e = refl
chosen false x y e = absurd (cc e)

other : {A : Type 0} (t : Bool) (x y : A) → t ≡ false → cond t x y ≡ y
other true x y e = absurd (cc e)
other false x y e = refl

module _ (c : Caller) (place : ℕ) where
  abbrev the_top : ℕ
  the_top = c.pushed (shard_of place)

  abbrev After : Step → Option Aim
  After step = end_after c.shape c.lane the_top place step.kind step.before

  -- where the last step is of a kind
  at_kind : (next : Option Aim) (step last : Step) (kind : Kind) → kind ≡ step.kind → Some step ≡ Some last
      → next ≡ end_after c.shape c.lane the_top place kind step.before → next ≡ After last
  at_kind next step last kind is e told =
      told ∙ (ap (λ (k : Kind). end_after c.shape c.lane the_top place k step.before) is ∙ ap After (same_some step last e))

  -- a step is of the kind that is aimed at
  kind_is : (to : Aim) (step : Step) → Some to ≡ Some (aim step.kind step.word) → to.kind ≡ step.kind
  kind_is to step e = same_kind to (aim step.kind step.word) e

  kind_where : (t : Bool) (to : Aim) (step : Step) → cond t (Some to) None ≡ Some (aim step.kind step.word) → to.kind ≡ step.kind
  kind_where t to step e = chosen_some t to (aim step.kind step.word) e

  -- the step of an END after the last
  end_last : (steps : List Step) (last : Step) → AreEnd c place [] steps → AreFound steps → last_step steps ≡ Some last
      → end_next c place steps ≡ After last
  end_last [] last are found e = absurd (cc e)
  end_last (leave ∷ []) last are found e =
      at_kind (end_next c place (leave ∷ [])) leave last kinds.Leave (kind_is (aim kinds.Leave (Life place)) leave are.0) e refl
  end_last (leave ∷ claim ∷ []) last are found e =
      at_kind (end_next c place (leave ∷ claim ∷ [])) claim last (kinds.Claim (generation_in leave.before))
      (kind_where (owes_claim leave.before) (aim (kinds.Claim (generation_in leave.before)) (Life place)) claim are.1.0) e refl
  end_last (leave ∷ claim ∷ link ∷ []) last are found e =
      at_kind (end_next c place (leave ∷ claim ∷ link ∷ [])) link last (kinds.Link the_top)
      (kind_where (is_claimed (generation_in leave.before) claim.before && not (eqb (generation_in leave.before) c.shape.last_generation)
      && not (eqb (shard_of place) c.lane)) (aim (kinds.Link the_top) (Link place)) link are.1.1.0) e refl
  end_last (leave ∷ claim ∷ link ∷ push ∷ []) last are found e =
      at_kind (end_next c place (leave ∷ claim ∷ link ∷ push ∷ [])) push last (kinds.Push the_top (link_to place))
      (kind_is (aim (kinds.Push the_top (link_to place)) (Stack (shard_of place) c.lane)) push are.1.1.1.0) e refl
  end_last (leave ∷ claim ∷ link ∷ push ∷ again ∷ []) last are found e =
      let n = next_unless (eqb push.before the_top) (Some (aim (kinds.Link 0) (Link place))) (aim again.kind again.word) are.1.1.1.1.0 in
      at_kind (end_next c place (leave ∷ claim ∷ link ∷ push ∷ again ∷ [])) again last (kinds.Link 0)
      (kind_is (aim (kinds.Link 0) (Link place)) again n.1) e refl
  end_last (leave ∷ claim ∷ link ∷ push ∷ again ∷ second ∷ []) last are found e =
      let is : kinds.Push 0 (link_to place) ≡ second.kind
      = kind_is (aim (kinds.Push 0 (link_to place)) (Stack (shard_of place) c.lane)) second are.1.1.1.1.1.0 in
      let none : second.before ≡ 0 = subst (λ (k : Kind). IsFound k second.before) (sym is) found.1.1.1.1.1.0 refl in
      at_kind None second last (kinds.Push 0 (link_to place)) is e
      (sym (chosen (eqb second.before 0) None (Some (aim (kinds.Link 0) (Link place))) (eq-eqb second.before 0 none)))
  end_last (leave ∷ claim ∷ link ∷ push ∷ again ∷ second ∷ more ∷ rest) last are found e = absurd (cc are.1.1.1.1.1.1.0)

-- ---- the calls

module _ (c : Caller) where
  -- steps behind a front
  ends : (call : Call) (place : ℕ) (front : List Step) → ((made : List Step) → next_step c call (front ++ made) ≡ end_next c place made)
      → (steps : List Step) → AreSteps c call front steps → AreEnd c place [] steps
  ends call place front goes steps are = end_of c call place (λ (made : List Step). front ++ made)
      (λ made step. append_assoc front made (step ∷ []))
      (λ made to e. sym (goes made) ∙ e) [] steps (subst (λ (xs : List Step). AreSteps c call xs steps) (sym (append-nil front)) are)

  abbrev Told : Call → List Step → Step → Type 0
  Told call steps last = next_step c call steps ≡ After c (place_of (key_in call)) last

  -- the last step is no ENTER that hit
  abbrev NoHit : ℕ → Step → Type 0
  NoHit key last = last.kind ≡ kinds.Enter → is_hit key last.before ≡ false

  -- a hit was not the last step
  hit_last : {A : Type 0} (key : ℕ) (enter last : Step) → is_hit key enter.before ≡ true → kinds.Enter ≡ enter.kind → NoHit key last
      → Some enter ≡ Some last → A
  hit_last key enter last hit is never e =
      let same : enter ≡ last = same_some enter last e in
      let miss : is_hit key last.before ≡ false = never (sym (is ∙ ap (λ (s : Step). s.kind) same)) in
      absurd (true≢false (sym hit ∙ (ap (λ (s : Step). is_hit key s.before) same ∙ miss)))
    where
      true≢false : true ≡ false → ⊥
      true≢false e = cc e

  publish_told : (key : ℕ) (content : List ℕ) (with_ref : Bool) (steps : List Step) (last : Step)
      → AreSteps c (Publishing key content with_ref) [] steps → last_step steps ≡ Some last → Told (Publishing key content with_ref) steps last
  publish_told key content with_ref [] last are e = absurd (cc e)
  publish_told key content with_ref (publish ∷ []) last are e =
      at_kind c (place_of key) None publish last (kinds.Publish with_ref)
      (same_kind (aim (kinds.Publish with_ref) (Life (place_of key))) (aim publish.kind publish.word) are.0) e refl
  publish_told key content with_ref (publish ∷ next ∷ more) last are e = absurd (cc are.1.0)

  entered : (key : ℕ) (enter : Step) → cond (is_key c.shape key) (Some (aim kinds.Enter (Life (place_of key)))) None ≡ Some (aim enter.kind enter.word)
      → kinds.Enter ≡ enter.kind
  entered key enter e = chosen_some (is_key c.shape key) (aim kinds.Enter (Life (place_of key))) (aim enter.kind enter.word) e

  -- after an ENTER that missed
  miss_told : (call : Call) (key : ℕ) (enter : Step) (rest : List Step) (last : Step)
      → ((made : List Step) → next_step c call (enter ∷ made) ≡ end_next c (place_of key) made) → kinds.Enter ≡ enter.kind
      → AreSteps c call (enter ∷ []) rest → AreFound rest → last_step (enter ∷ rest) ≡ Some last
      → next_step c call (enter ∷ rest) ≡ After c (place_of key) last
  miss_told call key enter [] last goes is are found e = goes [] ∙ at_kind c (place_of key) (end_next c (place_of key) []) enter last kinds.Enter is e refl
  miss_told call key enter (next ∷ more) last goes is are found e =
      goes (next ∷ more) ∙ end_last c (place_of key) (next ∷ more) last (ends call (place_of key) (enter ∷ []) goes (next ∷ more) are) found e

  get_told : (key : ℕ) (enter : Step) (rest : List Step) (last : Step) → NoHit key last
      → AreSteps c (Getting key) [] (enter ∷ rest) → AreFound rest → last_step (enter ∷ rest) ≡ Some last → (t : Bool) → is_hit key enter.before ≡ t
      → Told (Getting key) (enter ∷ rest) last
  get_told key enter [] last never are found e true hit = hit_last key enter last hit (entered key enter are.0) never e
  get_told key enter (next ∷ more) last never are found e true hit =
      no_next (aim next.kind next.word) (sym (chosen (is_hit key enter.before) None (end_next c (place_of key) []) hit) ∙ are.1.0)
  get_told key enter rest last never are found e false miss =
      miss_told (Getting key) key enter rest last (λ made. other (is_hit key enter.before) None (end_next c (place_of key) made) miss)
      (entered key enter are.0) are.1 found e

  clear_hit_told : (key : ℕ) (enter : Step) (rest : List Step) (last : Step) → NoHit key last
      → AreSteps c (Clearing key) [] (enter ∷ rest) → AreFound rest → last_step (enter ∷ rest) ≡ Some last → is_hit key enter.before ≡ true
      → Told (Clearing key) (enter ∷ rest) last
  clear_hit_told key enter [] last never are found e hit = hit_last key enter last hit (entered key enter are.0) never e
  clear_hit_told key enter (mark ∷ rest) last never are found e hit = by_rest rest are.1.1 found.1 e
    where
      marks : kinds.Mark ≡ mark.kind
      marks = same_kind (aim kinds.Mark (Life (place_of key))) (aim mark.kind mark.word)
          (sym (chosen (is_hit key enter.before) (mark_next c (place_of key) []) (end_next c (place_of key) []) hit) ∙ are.1.0)

      goes : (made : List Step) → next_step c (Clearing key) (enter ∷ mark ∷ made) ≡ end_next c (place_of key) made
      goes made = chosen (is_hit key enter.before) (end_next c (place_of key) made) (end_next c (place_of key) (mark ∷ made)) hit

      by_rest : (rest : List Step) → AreSteps c (Clearing key) (enter ∷ mark ∷ []) rest → AreFound rest → last_step (enter ∷ mark ∷ rest) ≡ Some last
          → Told (Clearing key) (enter ∷ mark ∷ rest) last
      by_rest [] are found e = goes [] ∙ at_kind c (place_of key) (end_next c (place_of key) []) mark last kinds.Mark marks e refl
      by_rest (next ∷ more) are found e =
          goes (next ∷ more) ∙ end_last c (place_of key) (next ∷ more) last
          (ends (Clearing key) (place_of key) (enter ∷ mark ∷ []) goes (next ∷ more) are) found e

  clear_told : (key : ℕ) (enter : Step) (rest : List Step) (last : Step) → NoHit key last
      → AreSteps c (Clearing key) [] (enter ∷ rest) → AreFound rest → last_step (enter ∷ rest) ≡ Some last → (t : Bool) → is_hit key enter.before ≡ t
      → Told (Clearing key) (enter ∷ rest) last
  clear_told key enter rest last never are found e true hit = clear_hit_told key enter rest last never are found e hit
  clear_told key enter rest last never are found e false miss =
      miss_told (Clearing key) key enter rest last
      (λ made. other (is_hit key enter.before) (mark_next c (place_of key) made) (end_next c (place_of key) made) miss)
      (entered key enter are.0) are.1 found e

  -- a call that is no create
  abbrev NoCreating : Call → Type 0
  NoCreating call = (own chain : List ℕ) (opened : ℕ) → call ≢ Creating own chain opened

  -- the step of a call that is no create, after its last, which was no ENTER that hit
  call_told : (call : Call) (steps : List Step) (last : Step) → NoCreating call → NoHit (key_in call) last → AreSteps c call [] steps → AreFound steps
      → last_step steps ≡ Some last → Told call steps last
  call_told (Publishing key content with_ref) steps last never nohit are found e = publish_told key content with_ref steps last are e
  call_told (Getting key) [] last never nohit are found e = absurd (cc e)
  call_told (Getting key) (enter ∷ rest) last never nohit are found e =
      get_told key enter rest last nohit are found.1 e (is_hit key enter.before) refl
  call_told (Releasing key) steps last never nohit are found e =
      end_last c (place_of key) steps last (ends (Releasing key) (place_of key) [] (λ made. refl) steps are) found e
  call_told (Clearing key) [] last never nohit are found e = absurd (cc e)
  call_told (Clearing key) (enter ∷ rest) last never nohit are found e =
      clear_told key enter rest last nohit are found.1 e (is_hit key enter.before) refl
  call_told (Creating own chain opened) steps last never nohit are found e = absurd (never own chain opened refl)

-- where nothing comes next, it does not matter what was pushed
any_top : (z : Shape) (lane top new place : ℕ) (kind : Kind) (before : ℕ) → end_after z lane top place kind before ≡ None
    → end_after z lane new place kind before ≡ None
any_top z lane top new place kinds.Enter before e = absurd (cc e)
any_top z lane top new place kinds.Mark before e = absurd (cc e)
any_top z lane top new place kinds.Leave before e = e
any_top z lane top new place (kinds.Claim generation) before e =
    by_test (is_claimed generation before && not (eqb generation z.last_generation) && not (eqb (shard_of place) lane)) e
  where
    by_test : (t : Bool) → cond t (Some (aim (kinds.Link top) (Link place))) None ≡ None
        → cond t (Some (aim (kinds.Link new) (Link place))) None ≡ None
    by_test true e = absurd (cc e)
    by_test false e = refl
any_top z lane top new place (kinds.Link expected) before e = absurd (cc e)
any_top z lane top new place (kinds.Push expected link) before e = e
any_top z lane top new place (kinds.Publish with_ref) before e = e
any_top z lane top new place kinds.Take before e = e
any_top z lane top new place kinds.Follow before e = e

with_top : (z : Shape) (lane top new place : ℕ) (kind : Kind) (before : ℕ) (next : Option Aim) → next ≡ end_after z lane top place kind before
    → ((to : Aim) → next ≡ Some to → new ≡ top) → next ≡ end_after z lane new place kind before
with_top z lane top new place kind before None told same = sym (any_top z lane top new place kind before (sym told))
with_top z lane top new place kind before (Some to) told same =
    told ∙ ap (λ (t : ℕ). end_after z lane t place kind before) (sym (same to refl))

-- the step of a call that is no create, after its last, which was no ENTER that hit, by the word that was pushed last
pub end_told : (z : Shape) (lane place top : ℕ) (b : Book) (call : Call) (last : Step)
    → AreSteps (caller z lane b) call [] b.steps → AreFound b.steps → last_step b.steps ≡ Some last
    → top ≡ pushed_after b.steps b.pushed (shard_of place) → place_of (key_in call) ≡ place
    → ((own chain : List ℕ) (opened : ℕ) → call ≢ Creating own chain opened)
    → (last.kind ≡ kinds.Enter → is_hit (key_in call) last.before ≡ false)
    → next_step (caller z lane b) call b.steps ≡ end_after z lane top place last.kind last.before
end_told z lane place top b call last are found e same at never nohit =
    with_top z lane (b.pushed (shard_of place)) top place last.kind last.before (next_step (caller z lane b) call b.steps)
    (call_told (caller z lane b) call b.steps last never nohit are found e
    ∙ ap (λ (p : ℕ). end_after z lane (b.pushed (shard_of p)) p last.kind last.before) at)
    (λ to goes. same ∙ still_pushed (caller z lane b) call b.steps are to goes (shard_of place))

-- an aim that is told of is the next step
pub aim_by : (made : Option OwnAim) (next told : Option Aim) → next ≡ told → IsAim made told → IsAim made next
aim_by made next told e is = subst (IsAim made) (sym e) is

-- ---- create

-- the step of a create after one of this kind on this word that found this
abbrev pub create_after : Shape → ℕ → Kind → Word → ℕ → Option Aim
create_after z lane kinds.Take (Stack shard from) before =
    cond (eqb before 0) (cond (ltb (next_lane lane from) z.lanes) (Some (aim kinds.Take (Stack lane (next_lane lane from)))) None)
    (Some (aim kinds.Follow (Link (linked_place lane before))))
create_after z lane kinds.Take (Life place) before = None
create_after z lane kinds.Take (Link place) before = None
create_after z lane kinds.Enter word before = None
create_after z lane kinds.Leave word before = None
create_after z lane (kinds.Publish with_ref) word before = None
create_after z lane kinds.Mark word before = None
create_after z lane (kinds.Claim generation) word before = None
create_after z lane (kinds.Link expected) word before = None
create_after z lane (kinds.Push expected link) word before = None
create_after z lane kinds.Follow word before = None

module _ (c : Caller) where
  abbrev Creates : Option Aim → Step → Type 0
  Creates next last = next ≡ create_after c.shape c.lane last.kind last.word last.before

  -- where the last step is what was aimed at
  at_aim : (next : Option Aim) (step last : Step) (to : Aim) → to ≡ aim step.kind step.word → Some step ≡ Some last
      → next ≡ create_after c.shape c.lane to.kind to.word step.before → Creates next last
  at_aim next step last to is e told =
      told ∙ (ap (λ (a : Aim). create_after c.shape c.lane a.kind a.word step.before) is
      ∙ ap (λ (s : Step). create_after c.shape c.lane s.kind s.word s.before) (same_some step last e))

  takes_told : (call : Call) (so_far : List Step) (from : ℕ) (steps : List Step) (last : Step)
      → ((more : List Step) → next_step c call (so_far ++ more) ≡ take_next c from more)
      → AreSteps c call so_far steps → last_step steps ≡ Some last → Creates (take_next c from steps) last
  takes_told call so_far from [] last goes are e = absurd (cc e)
  takes_told call so_far from (take ∷ []) last goes are e =
      at_aim (take_next c from (take ∷ [])) take last (aim kinds.Take (Stack c.lane from)) (this_take call so_far from take goes are.0) e refl
    where
      this_take : (call : Call) (so_far : List Step) (from : ℕ) (take : Step)
          → ((more : List Step) → next_step c call (so_far ++ more) ≡ take_next c from more)
          → next_step c call so_far ≡ Some (aim take.kind take.word) → aim kinds.Take (Stack c.lane from) ≡ aim take.kind take.word
      this_take call so_far from take goes is =
          (next_where (ltb from c.shape.lanes) (aim kinds.Take (Stack c.lane from)) (aim take.kind take.word)
          (sym (goes []) ∙ (ap (next_step c call) (append-nil so_far) ∙ is))).1
  takes_told call so_far from (take ∷ next ∷ more) last goes are e =
      by_test (λ on. takes_told call (so_far ++ take ∷ []) (next_lane c.lane from) (next ∷ more) last on are.1 e) (eqb take.before 0) refl
    where
      goes_on : (t : Bool) → eqb take.before 0 ≡ t → (steps : List Step) → next_step c call ((so_far ++ take ∷ []) ++ steps)
          ≡ cond t (take_next c (next_lane c.lane from) steps) (follow_next c.lane take.before steps)
      goes_on t is steps = ap (next_step c call) (append_assoc so_far (take ∷ []) steps) ∙ (goes (take ∷ steps)
          ∙ ap (λ (b : Bool). cond b (take_next c (next_lane c.lane from) steps) (follow_next c.lane take.before steps)) is)

      follows : (more : List Step) → eqb take.before 0 ≡ false → AreSteps c call (so_far ++ take ∷ []) (next ∷ more)
          → last_step (next ∷ more) ≡ Some last → Creates None last
      follows [] is are e =
          let f : Some (aim kinds.Follow (Link (linked_place c.lane take.before))) ≡ Some (aim next.kind next.word)
          = sym (goes_on false is []) ∙ (ap (next_step c call) (append-nil (so_far ++ take ∷ [])) ∙ are.0) in
          at_aim None next last (aim kinds.Follow (Link (linked_place c.lane take.before)))
          (same_some (aim kinds.Follow (Link (linked_place c.lane take.before))) (aim next.kind next.word) f) e refl
      follows (another ∷ more) is are e =
          no_next (aim another.kind another.word) (sym (goes_on false is (next ∷ [])) ∙ are.1.0)

      by_test : (((steps : List Step) → next_step c call ((so_far ++ take ∷ []) ++ steps) ≡ take_next c (next_lane c.lane from) steps)
          → Creates (take_next c (next_lane c.lane from) (next ∷ more)) last)
          → (t : Bool) → eqb take.before 0 ≡ t → Creates (take_next c from (take ∷ next ∷ more)) last
      by_test later true is =
          chosen (eqb take.before 0) (take_next c (next_lane c.lane from) (next ∷ more)) (follow_next c.lane take.before (next ∷ more)) is
          ∙ later (goes_on true is)
      by_test later false is =
          other (eqb take.before 0) (take_next c (next_lane c.lane from) (next ∷ more)) (follow_next c.lane take.before (next ∷ more)) is
          ∙ follows more is are.1 e

  -- the step of a create after its last
  pub create_told : (own chain : List ℕ) (opened : ℕ) (steps : List Step) (last : Step) → AreSteps c (Creating own chain opened) [] steps
      → last_step steps ≡ Some last → Creates (next_step c (Creating own chain opened) steps) last
  create_told own chain opened [] last are e = absurd (cc e)
  create_told (place ∷ own) chain opened (step ∷ more) last are e = absurd (cc are.0)
  create_told [] (place ∷ chain) opened (step ∷ []) last are e =
      at_aim None step last (aim kinds.Follow (Link place)) (same_some (aim kinds.Follow (Link place)) (aim step.kind step.word) are.0) e refl
  create_told [] (place ∷ chain) opened (step ∷ next ∷ more) last are e = absurd (cc are.1.0)
  create_told [] [] opened (step ∷ more) last are e =
      let n = next_unless (eqb opened 0) (take_next c (first_lane c.lane) []) (aim step.kind step.word) are.0 in
      let goes : (steps : List Step) → next_step c (Creating [] [] opened) steps ≡ take_next c (first_lane c.lane) steps
      = λ steps. other (eqb opened 0) None (take_next c (first_lane c.lane) steps) n.0 in
      goes (step ∷ more) ∙ takes_told (Creating [] [] opened) [] (first_lane c.lane) (step ∷ more) last goes are e

-- ---- the first step of a create

first_empty : (xs ys : List ℕ) → xs ++ ys ≡ [] → xs ≡ []
first_empty [] ys e = refl
first_empty (x ∷ xs) ys e = absurd (cc e)

-- where nothing of its own is left, and nothing of a chain
module _ (c : Caller) (own chain own_more chain_more : List ℕ) (opened : ℕ) (used : own ++ own_more ≡ []) (followed : chain ++ chain_more ≡ []) where
  abbrev First : Option Aim
  First = next_step c (Creating own chain opened) []

  only_opened : First ≡ cond (eqb opened 0) None (take_next c (first_lane c.lane) [])
  only_opened = ap (λ (t : List ℕ × List ℕ). next_step c (Creating t.0 t.1 opened) [])
      (λ i. (first_empty own own_more used i, first_empty chain chain_more followed i))

  -- no page was opened
  pub opens_first : opened ≡ 0 → First ≡ None
  opens_first none = only_opened ∙ chosen (eqb opened 0) None (take_next c (first_lane c.lane) []) (eq-eqb opened 0 none)

  -- a page was opened
  pub takes_first : (aimed : Option OwnAim) (from : ℕ) → (opened ≡ 0 → ⊥) → from ≡ first_lane c.lane
      → IsAim aimed (cond (ltb from c.shape.lanes) (Some (aim kinds.Take (Stack c.lane from))) None) → IsAim aimed First
  takes_first aimed from some is told = subst (IsAim aimed)
      (sym (only_opened ∙ other (eqb opened 0) None (take_next c (first_lane c.lane) []) (ne_eqb opened 0 some)
      ∙ ap (λ (n : ℕ). take_next c n []) (sym is))) told

-- the lane that is taken from first
pub first_where_none : (own : ℕ) → own ≡ 0 → 1 ≡ first_lane own
first_where_none own is = sym (chosen (eqb own 0) 1 0 (eq-eqb own 0 is))

pub first_unless_none : (own : ℕ) → (own ≡ 0 → ⊥) → 0 ≡ first_lane own
first_unless_none own isnt = sym (other (eqb own 0) 1 0 (ne_eqb own 0 isnt))

-- ---- what the functions answer

-- after the last step of a call that is no create, and which was no ENTER that hit
pub ended : (z : Shape) (lane place top : ℕ) (last : Step) (own : Option OwnAim) → IsAim own (end_after z lane top place last.kind last.before)
    → (b : Book) (call : Call) → AreSteps (caller z lane b) call [] b.steps → AreFound b.steps → last_step b.steps ≡ Some last
    → top ≡ pushed_after b.steps b.pushed (shard_of place) → place_of (key_in call) ≡ place
    → ((own chain : List ℕ) (opened : ℕ) → call ≢ Creating own chain opened)
    → (last.kind ≡ kinds.Enter → is_hit (key_in call) last.before ≡ false)
    → IsAim own (next_step (caller z lane b) call b.steps)
ended z lane place top last own aimed b call are found e same at never nohit =
    aim_by own (next_step (caller z lane b) call b.steps) (end_after z lane top place last.kind last.before)
    (end_told z lane place top b call last are found e same at never nohit) aimed

-- where the last step is of this kind
pub of_kind : (z : Shape) (lane place top before : ℕ) (own : Option OwnAim) (kind is : Kind) → kind ≡ is
    → IsAim own (end_after z lane top place is before) → IsAim own (end_after z lane top place kind before)
of_kind z lane place top before own kind is e aimed =
    subst (λ (k : Kind). IsAim own (end_after z lane top place k before)) (sym e) aimed

-- an aim where a test holds, and where it fails
pub aim_where : (t : Bool) (own : Option OwnAim) (a : OwnAim) (to : Aim) → t ≡ true → own ≡ Some a → aim_of a ≡ to → IsAim own (cond t (Some to) None)
aim_where true own a to does is same = subst (λ (o : Option OwnAim). IsAim o (Some to)) (sym is) (ap Some (sym same))
aim_where false own a to does is same = absurd (cc does)

pub aim_unless : (t : Bool) (own : Option OwnAim) (a : OwnAim) (to : Aim) → t ≡ false → own ≡ Some a → aim_of a ≡ to → IsAim own (cond t None (Some to))
aim_unless true own a to isnt is same = absurd (cc isnt)
aim_unless false own a to isnt is same = subst (λ (o : Option OwnAim). IsAim o (Some to)) (sym is) (ap Some (sym same))

-- no aim where a test fails, and where it holds
pub none_where : (t : Bool) (to : Aim) → t ≡ false → cond t (Some to) None ≡ None
none_where t to isnt = other t (Some to) None isnt

pub none_unless : (t : Bool) (to : Aim) → t ≡ true → cond t None (Some to) ≡ None
none_unless t to does = chosen t None (Some to) does

-- whether a place is to be returned after a CLAIM
pub is_returned : (a b d : Bool) → a ≡ true → b ≡ false → d ≡ false → a && not b && not d ≡ true
is_returned true false false e f g = refl
is_returned false b d e f g = absurd (cc e)
is_returned true true d e f g = absurd (cc f)
is_returned true false true e f g = absurd (cc g)

pub is_lost : (a b d : Bool) → a ≡ false → a && not b && not d ≡ false
is_lost false true true e = refl
is_lost false true false e = refl
is_lost false false true e = refl
is_lost false false false e = refl
is_lost true b d e = absurd (cc e)

pub is_last : (a b d : Bool) → b ≡ true → a && not b && not d ≡ false
is_last a true d e = by_test a d
  where
    by_test : (a d : Bool) → a && false && not d ≡ false
    by_test true true = refl
    by_test true false = refl
    by_test false true = refl
    by_test false false = refl
is_last a false d e = absurd (cc e)

pub is_own : (a b d : Bool) → d ≡ true → a && not b && not d ≡ false
is_own a b true e = by_test a b
  where
    by_test : (a b : Bool) → a && not b && false ≡ false
    by_test true true = refl
    by_test true false = refl
    by_test false true = refl
    by_test false false = refl
is_own a b false e = absurd (cc e)

-- after the last step of a create
pub created : (z : Shape) (lane : ℕ) (last : Step) (own : Option OwnAim) → IsAim own (create_after z lane last.kind last.word last.before)
    → (b : Book) (places chain : List ℕ) (opened : ℕ) → AreSteps (caller z lane b) (Creating places chain opened) [] b.steps
    → last_step b.steps ≡ Some last → IsAim own (next_step (caller z lane b) (Creating places chain opened) b.steps)
created z lane last own aimed b places chain opened are e =
    aim_by own (next_step (caller z lane b) (Creating places chain opened) b.steps) (create_after z lane last.kind last.word last.before)
    (create_told (caller z lane b) places chain opened b.steps last are e) aimed

-- after another kind of step, or a TAKE of no stack, comes none
pub no_stack : (z : Shape) (lane : ℕ) (kind : Kind) (word : Word) (before : ℕ) → kind ≡ kinds.Take
    → ((shard from : ℕ) → word ≡ Stack shard from → ⊥) → create_after z lane kind word before ≡ None
no_stack z lane kind word before is none =
    subst (λ (k : Kind). create_after z lane k word before ≡ None) (sym is) (by_word word none)
  where
    by_word : (word : Word) → ((shard from : ℕ) → word ≡ Stack shard from → ⊥) → create_after z lane kinds.Take word before ≡ None
    by_word (Life place) none = refl
    by_word (Link place) none = refl
    by_word (Stack shard from) none = absurd (none shard from refl)

pub no_take : (z : Shape) (lane : ℕ) (kind : Kind) (word : Word) (before : ℕ) → (kind ≡ kinds.Take → ⊥) → create_after z lane kind word before ≡ None
no_take z lane kinds.Take word before never = absurd (never refl)
no_take z lane kinds.Enter word before never = refl
no_take z lane kinds.Leave word before never = refl
no_take z lane (kinds.Publish with_ref) word before never = refl
no_take z lane kinds.Mark word before never = refl
no_take z lane (kinds.Claim generation) word before never = refl
no_take z lane (kinds.Link expected) word before never = refl
no_take z lane (kinds.Push expected link) word before never = refl
no_take z lane kinds.Follow word before never = refl

-- after a TAKE that found nothing, and one that found a chain
module _ (z : Shape) (lane shard from before : ℕ) (own : Option OwnAim) where
  abbrev after_take : Option Aim
  after_take = create_after z lane kinds.Take (Stack shard from) before

  pub took_nothing : (next : ℕ) → before ≡ 0 → next ≡ next_lane lane from
      → IsAim own (cond (ltb next z.lanes) (Some (aim kinds.Take (Stack lane next))) None) → IsAim own after_take
  took_nothing next none is aimed =
      subst (IsAim own) (ap (λ (n : ℕ). cond (ltb n z.lanes) (Some (aim kinds.Take (Stack lane n))) None) is
      ∙ sym (chosen (eqb before 0) (cond (ltb (next_lane lane from) z.lanes) (Some (aim kinds.Take (Stack lane (next_lane lane from)))) None)
      (Some (aim kinds.Follow (Link (linked_place lane before)))) (eq-eqb before 0 none))) aimed

  pub took_chain : (before ≡ 0 → ⊥) → after_take ≡ Some (aim kinds.Follow (Link (linked_place lane before)))
  took_chain some = other (eqb before 0) (cond (ltb (next_lane lane from) z.lanes) (Some (aim kinds.Take (Stack lane (next_lane lane from)))) None)
      (Some (aim kinds.Follow (Link (linked_place lane before)))) (ne_eqb before 0 some)

-- after a TAKE of a stack
pub after_stack : (z : Shape) (lane shard from : ℕ) (last : Step) (own : Option OwnAim) → last.kind ≡ kinds.Take → last.word ≡ Stack shard from
    → IsAim own (create_after z lane kinds.Take (Stack shard from) last.before) → IsAim own (create_after z lane last.kind last.word last.before)
after_stack z lane shard from last own kind word aimed =
    subst (λ (t : Kind × Word). IsAim own (create_after z lane t.0 t.1 last.before)) (λ i. (sym kind i, sym word i)) aimed

-- the lane after this one
pub next_where_own : (own lane : ℕ) → lane + 1 ≡ own → lane + 2 ≡ next_lane own lane
next_where_own own lane is = sym (chosen (eqb (lane + 1) own) (lane + 2) (lane + 1) (eq-eqb (lane + 1) own is))

pub next_unless_own : (own lane : ℕ) → (lane + 1 ≡ own → ⊥) → lane + 1 ≡ next_lane own lane
next_unless_own own lane isnt = sym (other (eqb (lane + 1) own) (lane + 2) (lane + 1) (ne_eqb (lane + 1) own isnt))

-- ---- the last step

-- the steps are these, and then the last
record IsLast (c : Caller) (call : Call) (so_far steps : List Step) (last : Step) : Type 0 where
  front : List Step
  are : AreSteps c call so_far front
  next : next_step c call (so_far ++ front) ≡ Some (aim last.kind last.word)
  all : steps ≡ front ++ last ∷ []

last_of : (c : Caller) (call : Call) (so_far steps : List Step) (last : Step) → AreSteps c call so_far steps → last_step steps ≡ Some last
    → IsLast c call so_far steps last
last_of c call so_far [] last are e = absurd (cc e)
last_of c call so_far (step ∷ []) last are e =
    let same : step ≡ last = same_some step last e in record {
      front = [];
      are = tt;
      next = ap (next_step c call) (append-nil so_far) ∙ (are.0 ∙ ap (λ (s : Step). Some (aim s.kind s.word)) same);
      all = ap (λ (s : Step). s ∷ []) same;
    }
last_of c call so_far (step ∷ next ∷ more) last are e =
    let rest = last_of c call (so_far ++ step ∷ []) (next ∷ more) last are.1 e in record {
      front = step ∷ rest.front;
      are = (are.0, rest.are);
      next = sym (ap (next_step c call) (append_assoc so_far (step ∷ []) rest.front)) ∙ rest.next;
      all = ap (λ (xs : List Step). step ∷ xs) rest.all;
    }

-- the acts of the steps before the last, and the last one's
record IsLastAct (c : Caller) (call : Call) (front : List Step) (last : Step) (told : List Act) : Type 0 where
  early : List Act
  act : Option Act
  were : AreMade c call front early
  made : IsMade c call last act
  all : told ≡ early ++ act_list act

last_act : (c : Caller) (call : Call) (front : List Step) (last : Step) (told : List Act) → AreMade c call (front ++ last ∷ []) told
    → IsLastAct c call front last told
last_act c call [] last told (act, rest, made, e, none) = record {
  early = [];
  act = act;
  were = refl;
  made = made;
  all = e ∙ (ap (λ (xs : List Act). act_list act ++ xs) none ∙ append-nil (act_list act));
}
last_act c call (step ∷ front) last told (act, rest, made, e, more) =
    let later = last_act c call front last rest more in record {
      early = act_list act ++ later.early;
      act = later.act;
      were = (act, later.early, made, refl, later.were);
      made = later.made;
      all = e ∙ (ap (λ (xs : List Act). act_list act ++ xs) later.all ∙ sym (append_assoc (act_list act) later.early (act_list later.act)));
    }

-- ---- an ENTER that hit

-- behind an ENTER, none is the last step of an END
no_enter_end : {A : Type 0} (c : Caller) (place : ℕ) (made : List Step) (kind : Kind) (word : Word) → kind ≡ kinds.Enter
    → end_next c place made ≡ Some (aim kind word) → A
no_enter_end c place made kind word is e =
    let ends : is_end kinds.Enter ≡ true = subst (λ (k : Kind). is_end k ≡ true) is (end_kind c place made kind word e) in absurd (cc ends)

module _ (c : Caller) (key : ℕ) (last : Step) (enters : last.kind ≡ kinds.Enter) where
  get_first : (front : List Step) → next_step c (Getting key) front ≡ Some (aim last.kind last.word) → front ≡ []
  get_first [] e = refl
  get_first (enter ∷ more) e = no_enter_end c (place_of key) more last.kind last.word enters
      (next_unless (is_hit key enter.before) (end_next c (place_of key) more) (aim last.kind last.word) e).1

  clear_first : (front : List Step) → next_step c (Clearing key) front ≡ Some (aim last.kind last.word) → front ≡ []
  clear_first [] e = refl
  clear_first (enter ∷ []) e = by_test (is_hit key enter.before) e
    where
      by_test : (t : Bool) → cond t (Some (aim kinds.Mark (Life (place_of key)))) (end_next c (place_of key) []) ≡ Some (aim last.kind last.word)
          → enter ∷ [] ≡ []
      by_test true e =
          let is : kinds.Mark ≡ kinds.Enter = same_kind (aim kinds.Mark (Life (place_of key))) (aim last.kind last.word) e ∙ enters in absurd (cc is)
      by_test false e = no_enter_end c (place_of key) [] last.kind last.word enters e
  clear_first (enter ∷ mark ∷ more) e = by_test (is_hit key enter.before) e
    where
      by_test : (t : Bool) → cond t (end_next c (place_of key) more) (end_next c (place_of key) (mark ∷ more)) ≡ Some (aim last.kind last.word)
          → enter ∷ mark ∷ more ≡ []
      by_test true e = no_enter_end c (place_of key) more last.kind last.word enters e
      by_test false e = no_enter_end c (place_of key) (mark ∷ more) last.kind last.word enters e

  module _ (hit : is_hit key last.before ≡ true) (steps : List Step) (e : last_step steps ≡ Some last) where
    -- after an ENTER that hit a get is over, and a clear marks
    pub get_hit : AreSteps c (Getting key) [] steps → next_step c (Getting key) steps ≡ None
    get_hit are =
        let l = last_of c (Getting key) [] steps last are e in
        let only : steps ≡ last ∷ [] = l.all ∙ ap (λ (xs : List Step). xs ++ last ∷ []) (get_first l.front l.next) in
        ap (next_step c (Getting key)) only ∙ chosen (is_hit key last.before) None (end_next c (place_of key) []) hit

    pub clear_hit : AreSteps c (Clearing key) [] steps → next_step c (Clearing key) steps ≡ Some (aim kinds.Mark (Life (place_of key)))
    clear_hit are =
        let l = last_of c (Clearing key) [] steps last are e in
        let only : steps ≡ last ∷ [] = l.all ∙ ap (λ (xs : List Step). xs ++ last ∷ []) (clear_first l.front l.next) in
        ap (next_step c (Clearing key)) only
        ∙ chosen (is_hit key last.before) (Some (aim kinds.Mark (Life (place_of key)))) (end_next c (place_of key) []) hit

-- a release makes no ENTER
pub release_enters : {A : Type 0} (c : Caller) (key : ℕ) (steps : List Step) (last : Step) → AreSteps c (Releasing key) [] steps
    → last_step steps ≡ Some last → last.kind ≡ kinds.Enter → A
release_enters c key steps last are e enters =
    let l = last_of c (Releasing key) [] steps last are e in no_enter_end c (place_of key) l.front last.kind last.word enters l.next

-- ---- a TAKE

-- a call that is a create
abbrev pub IsCreating : Call → Type 0
IsCreating (Publishing key content with_ref) = ⊥
IsCreating (Getting key) = ⊥
IsCreating (Releasing key) = ⊥
IsCreating (Clearing key) = ⊥
IsCreating (Creating own chain opened) = Unit {0}

no_take_end : {A : Type 0} (c : Caller) (place : ℕ) (made : List Step) (word : Word) → end_next c place made ≡ Some (aim kinds.Take word) → A
no_take_end c place made word e = let ends : false ≡ true = end_kind c place made kinds.Take word e in absurd (cc ends)

not_this : {A : Type 0} (t : Bool) (to : Aim) (word : Word) → cond t (Some to) None ≡ Some (aim kinds.Take word) → (to.kind ≡ kinds.Take → A) → A
not_this t to word e never = never (chosen_some t to (aim kinds.Take word) e)

-- only a create makes a TAKE
pub takes_only : (c : Caller) (call : Call) (made : List Step) (word : Word) → next_step c call made ≡ Some (aim kinds.Take word) → IsCreating call
takes_only c (Publishing key content with_ref) [] word e =
    not_this true (aim (kinds.Publish with_ref) (Life (place_of key))) word e (λ (is : kinds.Publish with_ref ≡ kinds.Take). absurd (cc is))
takes_only c (Publishing key content with_ref) (publish ∷ more) word e = absurd (cc e)
takes_only c (Getting key) [] word e =
    not_this (is_key c.shape key) (aim kinds.Enter (Life (place_of key))) word e (λ (is : kinds.Enter ≡ kinds.Take). absurd (cc is))
takes_only c (Getting key) (enter ∷ more) word e = no_take_end c (place_of key) more word
    (next_unless (is_hit key enter.before) (end_next c (place_of key) more) (aim kinds.Take word) e).1
takes_only c (Releasing key) made word e = no_take_end c (place_of key) made word e
takes_only c (Clearing key) [] word e =
    not_this (is_key c.shape key) (aim kinds.Enter (Life (place_of key))) word e (λ (is : kinds.Enter ≡ kinds.Take). absurd (cc is))
takes_only c (Clearing key) (enter ∷ []) word e = by_test (is_hit key enter.before) e
  where
    by_test : (t : Bool) → cond t (Some (aim kinds.Mark (Life (place_of key)))) (end_next c (place_of key) []) ≡ Some (aim kinds.Take word) → ⊥
    by_test true e = not_this true (aim kinds.Mark (Life (place_of key))) word e (λ (is : kinds.Mark ≡ kinds.Take). cc is)
    by_test false e = no_take_end c (place_of key) [] word e
takes_only c (Clearing key) (enter ∷ mark ∷ more) word e = by_test (is_hit key enter.before) e
  where
    by_test : (t : Bool) → cond t (end_next c (place_of key) more) (end_next c (place_of key) (mark ∷ more)) ≡ Some (aim kinds.Take word) → ⊥
    by_test true e = no_take_end c (place_of key) more word e
    by_test false e = no_take_end c (place_of key) (mark ∷ more) word e
takes_only c (Creating own chain opened) made word e = tt

-- a word that stands for a place of the shard is in range
link_range : (lane place word : ℕ) → (word ≡ 0 → ⊥) → place ≡ linked_place lane word → shard_of place ≡ lane → word ≤ 65536
link_range lane place word some is own = omega arith

chain_range : (links : ℕ → ℕ) (lane word : ℕ) (places : List ℕ) → (word ≡ 0 → ⊥) → Leads links lane word places
    → ((place : ℕ) → 0 < times place places → shard_of place ≡ lane) → word ≤ 65536
chain_range links lane word [] some leads own = absurd (some leads)
chain_range links lane word (place ∷ more) some leads own = link_range lane place word some leads.1 (own place (times-head place more))

module _ (c : Caller) (steps : List Step) (told : List Act) (last : Step)
    (own : (place : ℕ) → 0 < times place (taken told) → shard_of place ≡ c.lane) (e : last_step steps ≡ Some last) (takes : last.kind ≡ kinds.Take) where
  take_by : (call : Call) (early : List Act) (act : Option Act) → early ≡ [] → told ≡ early ++ act_list act → IsMade c call last act
      → (t : Bool) → eqb last.before 0 ≡ t → last.before ≤ 65536
  take_by call early act none all made true is = let zero_word = eqb-true last.before 0 is in omega arith
  take_by call early act none all made false is =
      let some : last.before ≡ 0 → ⊥ = eqb-false last.before 0 is in
      let m = (subst (λ (k : Kind). KindMakes k c call made.links last.word last.before act) takes made.makes).1 some in
      let found : taken told ≡ m.0 = ap taken all ∙ ap (λ (t : List Act × Option Act). taken (t.0 ++ act_list t.1)) (λ i. (none i, m.2 i)) in
      chain_range made.links c.lane last.before m.0 some m.1
      (λ place there. own place (subst (λ (xs : List ℕ). 0 < times place xs) (sym found) there))

  -- a create's last step, where it is a TAKE
  take_last : (call : Call) → IsCreating call → AreSteps c call [] steps → AreMade c call steps told → IsLast c call [] steps last
      → (other : ℕ) × (Stack c.lane other ≡ last.word) × (other < c.shape.lanes) × (last.before ≤ 65536)
  take_last (Publishing key content with_ref) creates are were l = absurd creates
  take_last (Getting key) creates are were l = absurd creates
  take_last (Releasing key) creates are were l = absurd creates
  take_last (Clearing key) creates are were l = absurd creates
  take_last (Creating places chain opened) creates are were l = by_lists places chain are were l
    where
      by_lists : (places chain : List ℕ) → AreSteps c (Creating places chain opened) [] steps → AreMade c (Creating places chain opened) steps told
          → IsLast c (Creating places chain opened) [] steps last
          → (other : ℕ) × (Stack c.lane other ≡ last.word) × (other < c.shape.lanes) × (last.before ≤ 65536)
      by_lists (place ∷ places) chain are were l = no_next (aim last.kind last.word) l.next
      by_lists [] (place ∷ chain) are were l = by_front l.front l.next
        where
          by_front : {A : Type 0} (front : List Step) → next_step c (Creating [] (place ∷ chain) opened) front ≡ Some (aim last.kind last.word) → A
          by_front [] e =
              let is : kinds.Follow ≡ kinds.Take = same_kind (aim kinds.Follow (Link place)) (aim last.kind last.word) e ∙ takes in absurd (cc is)
          by_front (follow ∷ more) e = no_next (aim last.kind last.word) e
      by_lists [] [] are were l =
          let n = next_unless (eqb opened 0) (take_next c (first_lane c.lane) l.front) (aim last.kind last.word) l.next in
          let goes : (more : List Step) → next_step c (Creating [] [] opened) more ≡ take_next c (first_lane c.lane) more
          = λ more. other (eqb opened 0) None (take_next c (first_lane c.lane) more) n.0 in
          let take : take_next c (first_lane c.lane) l.front ≡ Some (aim kinds.Take last.word) = n.1 ∙ ap (λ (k : Kind). Some (aim k last.word)) takes in
          let a = last_act c (Creating [] [] opened) l.front last told
          (subst (λ (xs : List Step). AreMade c (Creating [] [] opened) xs told) l.all were) in
          let none : a.early ≡ [] = takes_none c (Creating [] [] opened) [] (first_lane c.lane) l.front a.early last.word goes l.are a.were take in
          let s = take_stack c (first_lane c.lane) l.front last.word (first_apart c.lane) take in (
            s.0,
            s.1,
            s.2,
            take_by (Creating [] [] opened) a.early a.act none a.all a.made (eqb last.before 0) refl,
          )

  -- the stack of a call's last step, where it is a TAKE, is of a lane of the shape, and the word stands for a place of the caller's shard
  pub take_bounds : (call : Call) → AreSteps c call [] steps → AreMade c call steps told
      → (shard from : ℕ) → last.word ≡ Stack shard from → (from < c.shape.lanes) × (last.before ≤ 65536)
  take_bounds call are were shard from word =
      let l = last_of c call [] steps last are e in
      let t = take_last call
      (takes_only c call l.front last.word (l.next ∙ ap (λ (k : Kind). Some (aim k last.word)) takes)) are were l in
      let same : t.0 ≡ from = lane_same c.lane shard t.0 from (t.1 ∙ word) in
      (subst (λ (n : ℕ). n < c.shape.lanes) same t.2, t.3)
    where
      lane_same : (a b m n : ℕ) → Stack a m ≡ Stack b n → m ≡ n
      lane_same a b m n e = cc e

-- ---- the place of a call that made a step

module _ (z : Shape) (pool : Pool) (lane : ℕ) (b : Book) (o : IsOwned z pool lane b) where
  place_good : (key : ℕ) → is_key z key ≡ true → shard_of (place_of key) < z.lanes
  place_good key good = (is_place-parts z (place_of key) (key_parts z key good).place).0

  entered_key : (key : ℕ) (enter : Step) → cond (is_key z key) (Some (aim kinds.Enter (Life (place_of key)))) None ≡ Some (aim enter.kind enter.word)
      → is_key z key ≡ true
  entered_key key enter e = (next_where (is_key z key) (aim kinds.Enter (Life (place_of key))) (aim enter.kind enter.word) e).0

  pub called_place : (call : Call) (steps : List Step) (last : Step) → 0 < z.lanes → IsCalled b call → AreSteps (caller z lane b) call [] steps
      → last_step steps ≡ Some last → shard_of (place_of (key_in call)) < z.lanes
  called_place call [] last some is are e = absurd (cc e)
  called_place (Publishing key content with_ref) (step ∷ more) last some (number, holds) are e =
      let held : IsHolding z pool b.acts (Filling key content)
      = subst (IsHolding z pool b.acts) holds (holding-at z pool b.acts b.registers number o.holding) in place_good key held.0
  called_place (Getting key) (step ∷ more) last some is are e = place_good key (entered_key key step are.0)
  called_place (Releasing key) (step ∷ more) last some (number, content, holds) are e =
      place_good key (reference_key z pool lane b o number key content holds)
  called_place (Clearing key) (step ∷ more) last some is are e = place_good key (entered_key key step are.0)
  called_place (Creating own chain opened) (step ∷ more) last some is are e = some

-- ---- the call under way

-- the command of this number is the first that is left
pub left_first : (script : List Command) (done : ℕ) (command : Command) → slice_get script done ≡ Some command
    → (more : List Command) × (drop done script ≡ command ∷ more)
left_first [] zero command e = absurd (cc e)
left_first [] (suc done) command e = absurd (cc e)
left_first (x ∷ xs) zero command e = (xs, ap (λ (y : Command). y ∷ xs) (same_some x command e))
left_first (x ∷ xs) (suc done) command e = left_first xs done command e

-- its call is the one under way
pub under_way : (b : Book) (script : List Command) (done : ℕ) (command : Command) → drop done script ≡ b.left → slice_get script done ≡ Some command
    → call_under_way b ≡ call_of b command
under_way b script done command left there =
    let l = left_first script done command there in ap (call_of_first b) (sym left ∙ l.1)

-- a call of the core stands for one of the book's
pub stands_for : (script : List Command) (done : ℕ) (b : Book) (own : OwnCall) (o : Option Call) → IsCall script done b (Some own) o
    → (is : Call) × (o ≡ Some is)
stands_for script done b (Publish register key created with_ref) o called =
    (Publishing key (written_since script created done register.number) with_ref, called.1)
stands_for script done b (Get key) o called = (Getting key, called)
stands_for script done b (Release key) o called = (Releasing key, called)
stands_for script done b (Clear key) o called = (Clearing key, called)
stands_for script done b Create o called = (Creating b.own b.chain b.opened, called)

-- no step was made
pub none_made : (steps : List Step) → last_step steps ≡ None → steps ≡ []
none_made [] e = refl
none_made (step ∷ []) e = absurd (cc e)
none_made (step ∷ next ∷ more) e = let r = none_made (next ∷ more) e in absurd (cc r)

module _ (shared : Shared) (w : World) (made : Option Made) (number : ℕ) (lane : Lane) (p : Progress) (command : Command) (own : OwnCall)
    (draft : IsDraft shared w made) (at : IsLaneAt shared.shape w.history number lane p (w.books number)) (below : number < shared.shape.lanes)
    (there : slice_get lane.script p.done ≡ Some command)
    (called_by : IsCall lane.script p.done (w.books number) (Some own) (call_of (w.books number) command)) where
  abbrev z : Shape
  z = shared.shape

  abbrev book : Book
  book = w.books number

  abbrev owned : IsOwned z (pool_after z w.history) number book
  owned = draft.kept.holds.owned number below

  -- the call under way
  pub the_call : Call
  the_call = (stands_for lane.script p.done book own (call_of book command) called_by).0

  pub is_under_way : call_under_way book ≡ Some the_call
  unfolding the_call
  is_under_way = under_way book lane.script p.done command at.left there
      ∙ (stands_for lane.script p.done book own (call_of book command) called_by).1

  pub is_call : IsCall lane.script p.done book (Some own) (Some the_call)
  unfolding the_call
  is_call = subst (IsCall lane.script p.done book (Some own)) (stands_for lane.script p.done book own (call_of book command) called_by).1 called_by

  -- its steps and acts
  pub has_made : AreSteps (caller z number book) the_call [] book.steps × AreMade (caller z number book) the_call book.steps book.acts
  has_made = subst (λ (o : Option Call). HasMade (caller z number book) o book.steps book.acts) is_under_way owned.call

  pub next_by_call : (aimed : Option OwnAim) → IsAim aimed (next_step (caller z number book) the_call book.steps) → IsAim aimed (next_aim z number book)
  next_by_call aimed is = subst (λ (o : Option Call). IsAim aimed (next_in (caller z number book) book.steps o)) (sym is_under_way) is

  module _ (last : Step) (is_last : p.last ≡ Some last) where
    last_is : last_step book.steps ≡ Some last
    last_is = sym at.last ∙ is_last

    -- its place is of a shard of the shape
    pub the_place : shard_of (place_of (key_in the_call)) < 64
    the_place =
        let most = (shape_bounds z draft.kept.holds.rule.limits).lanes in
        let inside = called_place z (pool_after z w.history) number book owned the_call book.steps last (omega arith)
        (called book the_call book.left is_under_way) has_made.0 last_is in omega arith

    own_taken : (place : ℕ) → 0 < times place (taken book.acts) → shard_of place ≡ number
    own_taken place some =
        let both = times-append place book.chain (taken book.acts) in
        ((draft.kept.holds.rule.home.chained number below).each place (omega arith)).own

    -- a TAKE was of the stack of a lane, and found a word in range
    pub the_take : (shard from : ℕ) → last.kind ≡ kinds.Take → last.word ≡ Stack shard from → (from < 64) × (last.before ≤ 65536)
    the_take shard from takes word =
        let most = (shape_bounds z draft.kept.holds.rule.limits).lanes in
        let t = take_bounds (caller z number book) book.steps book.acts last own_taken last_is takes the_call has_made.0 has_made.1 shard from word in
        (omega arith, t.1)

    -- the next step, by its last
    pub by_last : (pushed : List ℕ) (aimed : Option OwnAim) → p.pushed ≡ pushed
        → ((script : List Command) (done : ℕ) (b : Book) (is : Call) → IsCall script done b (Some own) (Some is)
        → AreSteps (caller z number b) is [] b.steps → AreFound b.steps → last_step b.steps ≡ Some last
        → ((shard : ℕ) → shard < 64 → slice_index pushed shard ≡ pushed_after b.steps b.pushed shard)
        → IsAim aimed (next_step (caller z number b) is b.steps))
        → IsAim aimed (next_aim z number book)
    by_last pushed aimed same told = next_by_call aimed (told lane.script p.done book the_call is_call has_made.0
        (draft.kept.sound number below).found last_is
        (λ shard small. sym (ap (λ (xs : List ℕ). slice_index xs shard) same) ∙ at.pushed shard small))

  -- the first step
  pub by_first : (aimed : Option OwnAim) → p.last ≡ None
      → ((w : World) (lane : Lane) (is : Call) → IsDraft shared w made → IsLaneAt z w.history number lane p (w.books number)
      → number < z.lanes → (w.books number).steps ≡ [] → IsCall lane.script p.done (w.books number) (Some own) (Some is)
      → IsAim aimed (next_step (caller z number (w.books number)) is []))
      → IsAim aimed (next_aim z number book)
  by_first aimed none told =
      let empty : book.steps ≡ [] = none_made book.steps (sym at.last ∙ none) in
      next_by_call aimed (subst (λ (xs : List Step). IsAim aimed (next_step (caller z number book) the_call xs)) (sym empty)
      (told w lane the_call draft at below empty is_call))

-- where the command makes no call comes no step
pub no_call : (z : Shape) (number : ℕ) (b : Book) (script : List Command) (done : ℕ) (command : Command) → drop done script ≡ b.left
    → slice_get script done ≡ Some command → call_of b command ≡ None → next_aim z number b ≡ None
no_call z number b script done command left there none =
    ap (next_in (caller z number b) b.steps) (under_way b script done command left there ∙ none)

-- and so at the script's end
pub no_command : (z : Shape) (number : ℕ) (b : Book) (script : List Command) (done : ℕ) → drop done script ≡ b.left
    → ltb done (length script) ≡ false → next_aim z number b ≡ None
no_command z number b script done left end =
    ap (λ (more : List Command). next_in (caller z number b) b.steps (call_of_first b more)) (sym left ∙ drop_all done script (ltb-false done (length script) end))

-- what an index reads is what the list has there
pub read_at : (script : List Command) (done : ℕ) (command : Command) → done < length script → command ≡ get_or script done command
    → slice_get script done ≡ Some command
read_at [] done command inside e = absurd (omega arith)
read_at (x ∷ xs) zero command inside e = ap Some (sym e)
read_at (x ∷ xs) (suc done) command inside e = read_at xs done command (omega arith) e
