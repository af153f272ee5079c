-- A step of a lane: what all lanes share and what the core keeps of the lane tell of the world after it.
use Rattle.std.proofs.Common.{◌≡◌, ℕ, zero, suc, ◌+◌, ◌<◌, ◌≤◌, Bool, true, false, not, cond, eqb, ◌&&◌, List, [], ◌∷◌, ◌++◌, drop, length, length-append, slice_get, slice_index, append-nil, append_assoc, eq-eqb, eqb-true, ⊎_elim, Option, Some, None, is_some, refl, ap, sym, ◌∙◌, subst, arith}
use Rattle.keybits.specs.declared.shape.Shape.{Shape}
use Rattle.keybits.specs.declared.step.Step.{Step}
use Rattle.keybits.specs.declared.step.Kind.{Kind}
use Rattle.keybits.specs.declared.step.Kind.TheVariants as kinds
use Rattle.keybits.specs.declared.step.Word.{Word}
use Rattle.keybits.specs.declared.step.Word.TheVariants.{Life, Link, Stack}
use Rattle.keybits.specs.Places.{shard_of}
use Rattle.keybits.specs.Shapes.{position_of}
use Rattle.keybits.specs.Keys.{place_of, generation_of, is_key}
use Rattle.keybits.specs.Words.{state_in}
use Rattle.seqpool.specs.declared.act.Act.{Act}
use Rattle.seqpool.specs.declared.act.Act.TheVariants as acts
use Rattle.seqpool.specs.Pool.{Pool, Spot, spot, with, retired, found, touches, changed, after, fresh, pool_from, pool_after, LegalFrom, IsLegal}
use Rattle.seqpool.proofs.Growth.{pool-append, legal-rest, after-here}
use Rattle.steplaws.specs.Calls.{Call, Publishing, Getting, Releasing, Clearing, Creating, Caller, Aim, aim, is_hit, is_claimed, first_lane, end_next, mark_next, take_next, next_step, AreSteps, KindMakes}
use Rattle.steplaws.specs.Facts.{Words, with_value}
use Rattle.traces.specs.Books.{Book, caller, call_under_way, next_in, taken, shown, cleared, reclaimed, of_shard, pushed_by, pushed_after, act_list, stepped}
use Rattle.traces.specs.Following.{row_content}
use Rattle.traces.specs.Lawful.{World, CallMakes, IsStep}
use Rattle.traces.specs.Making.{AreMade, HasMade}
use Rattle.traces.specs.Keeping.{IsKept}
use Rattle.traces.proofs.CallActs.{kind_in, hidden_as}
use Rattle.traces.proofs.Moves.{reclaimed-append}
use Rattle.traces.proofs.Owns.{call-stepped}
use Rattle.traces.proofs.StepCalls.{IsCalled, called, end_kind, next_where, next_unless, take_kind, takes_none}
use Rattle.traces.proofs.StepLanes.{pushed_after-snoc, taken-more}
use Rattle.traces.proofs.Throughout.{keep_step}
use Rattle.traces.proofs.Worlds.{after_step}
use Rattle.traces.proofs.TurnLawsReads.{gained_row, lost_row, marked_row}
use Rattle.coresteps.specs.declared.own.OwnList.{OwnList}
use Rattle.coresteps.specs.declared.lane.Lane.{Lane}
use Rattle.coresteps.specs.declared.progress.Most.{Most}
use Rattle.coresteps.specs.declared.progress.Progress.{Progress}
use Rattle.coresteps.specs.declared.shared.Made.{Made}
use Rattle.coresteps.specs.declared.shared.Shared.{Shared}
use Rattle.coresteps.specs.OwnLists.{IsOwnList, unused_places, ring_places, added_places, own_places}
use Rattle.coresteps.specs.declared.progress.KeptRegister.{KeptRegister}
use Rattle.traces.specs.declared.script.Command.{Command}
use Rattle.coresteps.specs.Lanes.{AreSlots, last_step, AreChained, IsChained, counted}
use Rattle.coresteps.specs.Kept.{IsWordOf, index_of_publish, IsPublished, IsDraft, IsLaneAt}
use Rattle.coresteps.specs.Notes.{returns_own, own_noted, chain_noted, cleared_noted, act_noted}
use Rattle.coresteps.proofs.CountLemmas.{few_steps}
use Rattle.coresteps.proofs.StepLemmas.{word_inside, shown_content}
use Rattle.coresteps.proofs.AimLemmas.{takes_only}

-- ---- lists, one behind the other

-- an act of a history stands in a longer one
get_front : (xs ys : List Act) (i : ℕ) (act : Act) → slice_get xs i ≡ Some act → slice_get (xs ++ ys) i ≡ Some act
get_front [] ys i act at = absurd (cc at)
get_front (x ∷ xs) ys zero act at = at
get_front (x ∷ xs) ys (suc i) act at = get_front xs ys i act at

-- the act behind a history
get_last : (xs : List Act) (act : Act) → slice_get (xs ++ act ∷ []) (length xs) ≡ Some act
get_last [] act = refl
get_last (x ∷ xs) act = get_last xs act

-- the last step is the one behind the others
last-snoc : (steps : List Step) (step : Step) → last_step (steps ++ step ∷ []) ≡ Some step
last-snoc [] step = refl
last-snoc (x ∷ []) step = refl
last-snoc (x ∷ next ∷ more) step = last-snoc (next ∷ more) step

-- one step more
length-snoc : (steps : List Step) (step : Step) → length (steps ++ step ∷ []) ≡ length steps + 1
length-snoc steps step = length-append steps (step ∷ [])

-- acts without a Clear add nothing to what was cleared
cleared-more : (xs ys : List Act) → cleared ys ≡ false → cleared (xs ++ ys) ≡ cleared xs
cleared-more [] ys none = none
cleared-more (acts.Clear lane key reply ∷ more) ys none = refl
cleared-more (acts.Publish lane key content with_ref ∷ more) ys none = cleared-more more ys none
cleared-more (acts.Get lane key reply ∷ more) ys none = cleared-more more ys none
cleared-more (acts.Release lane key ∷ more) ys none = cleared-more more ys none
cleared-more (acts.Reclaim lane key ∷ more) ys none = cleared-more more ys none
cleared-more (acts.Home lane place ∷ more) ys none = cleared-more more ys none
cleared-more (acts.Collect lane places ∷ more) ys none = cleared-more more ys none

of_shard-cond : (t : Bool) (place : ℕ) (xs ys : List ℕ) → cond t (place ∷ (xs ++ ys)) (xs ++ ys) ≡ cond t (place ∷ xs) xs ++ ys
of_shard-cond true place xs ys = refl
of_shard-cond false place xs ys = refl

-- the places of a shard in two lists
of_shard-append : (shard : ℕ) (xs ys : List ℕ) → of_shard shard (xs ++ ys) ≡ of_shard shard xs ++ of_shard shard ys
of_shard-append shard [] ys = refl
of_shard-append shard (place ∷ more) ys =
    ap (λ (r : List ℕ). cond (eqb (shard_of place) shard) (place ∷ r) r) (of_shard-append shard more ys)
    ∙ of_shard-cond (eqb (shard_of place) shard) place (of_shard shard more) (of_shard shard ys)

-- the words last pushed agree after a step where they did before
pushed_by-same : (step : Step) (kind : Kind) (word : Word) (f g : ℕ → ℕ) (shard : ℕ) → f shard ≡ g shard
    → pushed_by step kind word f shard ≡ pushed_by step kind word g shard
pushed_by-same step (kinds.Push expected link) (Stack at lane) f g shard same = by_tests (eqb step.before expected) (eqb shard at)
  where
    by_tests : (s t : Bool) → cond s (λ (j : ℕ). cond (eqb j at) link (f j)) f shard ≡ cond s (λ (j : ℕ). cond (eqb j at) link (g j)) g shard
    by_tests true t = ap (cond (eqb shard at) link) same
    by_tests false t = same
pushed_by-same step (kinds.Push expected link) (Life place) f g shard same = same
pushed_by-same step (kinds.Push expected link) (Link place) f g shard same = same
pushed_by-same step kinds.Enter word f g shard same = same
pushed_by-same step kinds.Leave word f g shard same = same
pushed_by-same step (kinds.Publish with_ref) word f g shard same = same
pushed_by-same step kinds.Mark word f g shard same = same
pushed_by-same step (kinds.Claim generation) word f g shard same = same
pushed_by-same step (kinds.Link expected) word f g shard same = same
pushed_by-same step kinds.Take word f g shard same = same
pushed_by-same step kinds.Follow word f g shard same = same

-- ---- the first act of a call

-- an act that a call makes before all its others
abbrev IsFirst : Act → Type 0
IsFirst (acts.Get lane key reply) = Unit {0}
IsFirst (acts.Clear lane key reply) = Unit {0}
IsFirst (acts.Collect lane places) = Unit {0}
IsFirst (acts.Publish lane key content with_ref) = ⊥
IsFirst (acts.Release lane key) = ⊥
IsFirst (acts.Reclaim lane key) = ⊥
IsFirst (acts.Home lane place) = ⊥

first_as : (act known : Act) → Some act ≡ Some known → IsFirst act → IsFirst known
first_as act known e is = subst IsFirst (let same : act ≡ known = cc e in same) is

no_act : {A : Type 0} (act : Act) → Some act ≡ None → A
no_act act e = absurd (cc e)

if_first : (t : Bool) (act known : Act) → Some act ≡ cond t (Some known) None → IsFirst act → IsFirst known
if_first true act known e is = first_as act known e is
if_first false act known e is = no_act act e

-- an END's step comes next
module _ (c : Caller) (place : ℕ) (steps : List Step) (word : Word) where
  no_enter : end_next c place steps ≡ Some (aim kinds.Enter word) → ⊥
  no_enter e = let bad : false ≡ true = end_kind c place steps kinds.Enter word e in cc bad

  no_mark : end_next c place steps ≡ Some (aim kinds.Mark word) → ⊥
  no_mark e = let bad : false ≡ true = end_kind c place steps kinds.Mark word e in cc bad

other_kind : {A : Type 0} (a : Aim) (kind : Kind) (word : Word) → Some a ≡ Some (aim kind word) → (a.kind ≡ kind → ⊥) → A
other_kind a kind word e apart = absurd (apart (ap kind_in e))

either : (t : Bool) (x y : Option Aim) (next : Option Aim) → (x ≡ next → ⊥) → (y ≡ next → ⊥) → cond t x y ≡ next → ⊥
either true x y next first second e = first e
either false x y next first second e = second e

module _ (c : Caller) (word : Word) where
  mark_no_enter : (place : ℕ) (steps : List Step) → mark_next c place steps ≡ Some (aim kinds.Enter word) → ⊥
  mark_no_enter place [] e = other_kind (aim kinds.Mark (Life place)) kinds.Enter word e (λ bad. cc bad)
  mark_no_enter place (mark ∷ more) e = no_enter c place more word e

  create_no_enter : (own chain : List ℕ) (opened : ℕ) (steps : List Step) → next_step c (Creating own chain opened) steps ≡ Some (aim kinds.Enter word) → ⊥
  create_no_enter (place ∷ own) chain opened steps e = cc e
  create_no_enter [] (place ∷ chain) opened [] e = other_kind (aim kinds.Follow (Link place)) kinds.Enter word e (λ bad. cc bad)
  create_no_enter [] (place ∷ chain) opened (follow ∷ more) e = cc e
  create_no_enter [] [] opened steps e = either (eqb opened 0) None (take_next c (first_lane c.lane) steps) (Some (aim kinds.Enter word)) (λ bad. cc bad)
      (λ next. ⊎_elim (λ (is : kinds.Enter ≡ kinds.Take). let no : ⊥ = cc is in no) (λ (is : kinds.Enter ≡ kinds.Follow). let no : ⊥ = cc is in no)
      (take_kind c (first_lane c.lane) steps (aim kinds.Enter word) next)) e

  create_no_mark : (own chain : List ℕ) (opened : ℕ) (steps : List Step) → next_step c (Creating own chain opened) steps ≡ Some (aim kinds.Mark word) → ⊥
  create_no_mark (place ∷ own) chain opened steps e = cc e
  create_no_mark [] (place ∷ chain) opened [] e = other_kind (aim kinds.Follow (Link place)) kinds.Mark word e (λ bad. cc bad)
  create_no_mark [] (place ∷ chain) opened (follow ∷ more) e = cc e
  create_no_mark [] [] opened steps e = either (eqb opened 0) None (take_next c (first_lane c.lane) steps) (Some (aim kinds.Mark word)) (λ bad. cc bad)
      (λ next. ⊎_elim (λ (is : kinds.Mark ≡ kinds.Take). let no : ⊥ = cc is in no) (λ (is : kinds.Mark ≡ kinds.Follow). let no : ⊥ = cc is in no)
      (take_kind c (first_lane c.lane) steps (aim kinds.Mark word) next)) e

  -- an ENTER is a call's first step
  enter_first : (call : Call) (steps : List Step) → next_step c call steps ≡ Some (aim kinds.Enter word) → steps ≡ []
  enter_first call [] e = refl
  enter_first (Publishing key content with_ref) (publish ∷ more) e = absurd (cc e)
  enter_first (Getting key) (enter ∷ more) e =
      absurd (either (is_hit key enter.before) None (end_next c (place_of key) more) (Some (aim kinds.Enter word)) (λ bad. cc bad)
      (no_enter c (place_of key) more word) e)
  enter_first (Releasing key) (leave ∷ more) e = absurd (no_enter c (place_of key) (leave ∷ more) word e)
  enter_first (Clearing key) (enter ∷ more) e =
      absurd (either (is_hit key enter.before) (mark_next c (place_of key) more) (end_next c (place_of key) more) (Some (aim kinds.Enter word))
      (mark_no_enter (place_of key) more) (no_enter c (place_of key) more word) e)
  enter_first (Creating own chain opened) (step ∷ more) e = absurd (create_no_enter own chain opened (step ∷ more) e)

  -- an ENTER of a clear that hit made no act
  hit_none : (key : ℕ) (links : ℕ → ℕ) (enter : Step) (act : Option Act) → enter.kind ≡ kinds.Enter → is_hit key enter.before ≡ true
      → KindMakes enter.kind c (Clearing key) links enter.word enter.before act → act ≡ None
  hit_none key links enter act is hit made =
      subst (λ (kind : Kind). KindMakes kind c (Clearing key) links enter.word enter.before act) is made
      ∙ ap (λ (t : Bool). cond t None (Some (acts.Clear c.lane key false))) hit

  -- before a MARK there is no act yet
  mark_first : (call : Call) (steps : List Step) (made : List Act) → next_step c call steps ≡ Some (aim kinds.Mark word)
      → AreSteps c call [] steps → AreMade c call steps made → made ≡ []
  mark_first call [] made e are were = were
  mark_first (Publishing key content with_ref) (publish ∷ more) made e are were = absurd (cc e)
  mark_first (Getting key) (enter ∷ more) made e are were =
      absurd (either (is_hit key enter.before) None (end_next c (place_of key) more) (Some (aim kinds.Mark word)) (λ bad. cc bad)
      (no_mark c (place_of key) more word) e)
  mark_first (Releasing key) (leave ∷ more) made e are were = absurd (no_mark c (place_of key) (leave ∷ more) word e)
  mark_first (Creating own chain opened) (step ∷ more) made e are were = absurd (create_no_mark own chain opened (step ∷ more) e)
  mark_first (Clearing key) (enter ∷ mark ∷ more) made e are were =
      absurd (either (is_hit key enter.before) (end_next c (place_of key) more) (end_next c (place_of key) (mark ∷ more)) (Some (aim kinds.Mark word))
      (no_mark c (place_of key) more word) (no_mark c (place_of key) (mark ∷ more) word) e)
  mark_first (Clearing key) (enter ∷ []) made e are were = by_test (is_hit key enter.before) refl
    where
      by_test : (t : Bool) → is_hit key enter.before ≡ t → made ≡ []
      by_test true hit =
          let aimed = next_where (is_key c.shape key) (aim kinds.Enter (Life (place_of key))) (aim enter.kind enter.word) are.0 in
          let kind : enter.kind ≡ kinds.Enter = sym (ap (λ (a : Aim). a.kind) aimed.1) in
          let none : were.0 ≡ None = hit_none key were.2.links enter were.0 kind hit were.2.makes in
          were.3 ∙ (λ i. act_list (none i) ++ were.4 i)
      by_test false miss = absurd (no_mark c (place_of key) [] word
          (sym (ap (λ (t : Bool). cond t (mark_next c (place_of key) []) (end_next c (place_of key) [])) miss) ∙ e))

  -- what a call has done before a TAKE: it is a create without a chain, and has made no act yet
  record BeforeTake (call : Call) (made : List Act) : Type 0 where
    opened : ℕ
    call_is : call ≡ Creating [] [] opened
    none : made ≡ []

  take_first : (call : Call) (steps : List Step) (made : List Act) → next_step c call steps ≡ Some (aim kinds.Take word)
      → AreSteps c call [] steps → AreMade c call steps made → BeforeTake call made
  take_first (Publishing key content with_ref) steps made e are were = absurd (takes_only c (Publishing key content with_ref) steps word e)
  take_first (Getting key) steps made e are were = absurd (takes_only c (Getting key) steps word e)
  take_first (Releasing key) steps made e are were = absurd (takes_only c (Releasing key) steps word e)
  take_first (Clearing key) steps made e are were = absurd (takes_only c (Clearing key) steps word e)
  take_first (Creating (place ∷ own) chain opened) steps made e are were = absurd (cc e)
  take_first (Creating [] (place ∷ chain) opened) [] made e are were =
      other_kind (aim kinds.Follow (Link place)) kinds.Take word e (λ bad. cc bad)
  take_first (Creating [] (place ∷ chain) opened) (follow ∷ more) made e are were = absurd (cc e)
  take_first (Creating [] [] opened) steps made e are were =
      let opens = next_unless (eqb opened 0) (take_next c (first_lane c.lane) steps) (aim kinds.Take word) e in
      record {
        opened = opened;
        call_is = refl;
        none = takes_none c (Creating [] [] opened) [] (first_lane c.lane) steps made word
            (λ more. ap (λ (t : Bool). cond t None (take_next c (first_lane c.lane) more)) opens.0) are were opens.1;
      }

  -- before a first act the call has made none
  nothing_before : (kind : Kind) (call : Call) (links : ℕ → ℕ) (steps : List Step) (made : List Act) (before : ℕ) (act : Act)
      → next_step c call steps ≡ Some (aim kind word) → AreSteps c call [] steps → AreMade c call steps made
      → KindMakes kind c call links word before (Some act) → IsFirst act → made ≡ []
  nothing_before kinds.Enter call links steps made before act e are were makes is =
      subst (λ (xs : List Step). AreMade c call xs made) (enter_first call steps e) were
  nothing_before kinds.Mark call links steps made before act e are were makes is = mark_first call steps made e are were
  nothing_before kinds.Take call links steps made before act e are were makes is = (take_first call steps made e are were).none
  nothing_before kinds.Leave (Releasing key) links steps made before act e are were makes is = absurd (first_as act (acts.Release c.lane key) makes is)
  nothing_before kinds.Leave (Getting key) links steps made before act e are were makes is = no_act act makes
  nothing_before kinds.Leave (Clearing key) links steps made before act e are were makes is = no_act act makes
  nothing_before kinds.Leave (Publishing key content with_ref) links steps made before act e are were makes is = absurd makes
  nothing_before kinds.Leave (Creating own chain opened) links steps made before act e are were makes is = absurd makes
  nothing_before (kinds.Publish told) (Publishing key content with_ref) links steps made before act e are were makes is =
      absurd (first_as act (acts.Publish c.lane key content with_ref) makes is)
  nothing_before (kinds.Publish told) (Getting key) links steps made before act e are were makes is = absurd makes
  nothing_before (kinds.Publish told) (Releasing key) links steps made before act e are were makes is = absurd makes
  nothing_before (kinds.Publish told) (Clearing key) links steps made before act e are were makes is = absurd makes
  nothing_before (kinds.Publish told) (Creating own chain opened) links steps made before act e are were makes is = absurd makes
  nothing_before (kinds.Claim generation) call links steps made before act e are were makes is =
      absurd (if_first (is_claimed generation before) act _ makes is)
  nothing_before (kinds.Link expected) call links steps made before act e are were makes is = no_act act makes
  nothing_before (kinds.Push expected link) call links steps made before act e are were makes is =
      absurd (if_first (eqb before expected) act _ makes is)
  nothing_before kinds.Follow call links steps made before act e are were makes is = no_act act makes

-- ---- a Collect

-- the act collects
abbrev IsCollect : Act → Type 0
IsCollect (acts.Collect lane places) = Unit {0}
IsCollect (acts.Publish lane key content with_ref) = ⊥
IsCollect (acts.Get lane key reply) = ⊥
IsCollect (acts.Release lane key) = ⊥
IsCollect (acts.Clear lane key reply) = ⊥
IsCollect (acts.Reclaim lane key) = ⊥
IsCollect (acts.Home lane place) = ⊥

made_collect : (act known : Act) → Some act ≡ Some known → IsCollect act → IsCollect known
made_collect act known e is = subst IsCollect (let same : act ≡ known = cc e in same) is

if_collect : (t : Bool) (act known : Act) → Some act ≡ cond t (Some known) None → IsCollect act → IsCollect known
if_collect true act known e is = made_collect act known e is
if_collect false act known e is = no_act act e

unless_collect : (t : Bool) (act known : Act) → Some act ≡ cond t None (Some known) → IsCollect act → IsCollect known
unless_collect true act known e is = no_act act e
unless_collect false act known e is = made_collect act known e is

-- only a TAKE collects
collect_take : (kind : Kind) (c : Caller) (call : Call) (links : ℕ → ℕ) (word : Word) (before : ℕ) (act : Act)
    → KindMakes kind c call links word before (Some act) → IsCollect act → kind ≡ kinds.Take
collect_take kinds.Take c call links word before act makes is = refl
collect_take kinds.Enter c (Getting key) links word before act makes is = absurd (made_collect act (acts.Get c.lane key makes.0) makes.2 is)
collect_take kinds.Enter c (Clearing key) links word before act makes is =
    absurd (unless_collect (is_hit key before) act (acts.Clear c.lane key false) makes is)
collect_take kinds.Enter c (Publishing key content with_ref) links word before act makes is = absurd makes
collect_take kinds.Enter c (Releasing key) links word before act makes is = absurd makes
collect_take kinds.Enter c (Creating own chain opened) links word before act makes is = absurd makes
collect_take kinds.Leave c (Releasing key) links word before act makes is = absurd (made_collect act (acts.Release c.lane key) makes is)
collect_take kinds.Leave c (Getting key) links word before act makes is = no_act act makes
collect_take kinds.Leave c (Clearing key) links word before act makes is = no_act act makes
collect_take kinds.Leave c (Publishing key content with_ref) links word before act makes is = absurd makes
collect_take kinds.Leave c (Creating own chain opened) links word before act makes is = absurd makes
collect_take (kinds.Publish told) c (Publishing key content with_ref) links word before act makes is =
    absurd (made_collect act (acts.Publish c.lane key content with_ref) makes is)
collect_take (kinds.Publish told) c (Getting key) links word before act makes is = absurd makes
collect_take (kinds.Publish told) c (Releasing key) links word before act makes is = absurd makes
collect_take (kinds.Publish told) c (Clearing key) links word before act makes is = absurd makes
collect_take (kinds.Publish told) c (Creating own chain opened) links word before act makes is = absurd makes
collect_take kinds.Mark c (Clearing key) links word before act makes is = absurd (made_collect act (acts.Clear c.lane key (eqb (state_in before) 1)) makes is)
collect_take kinds.Mark c (Getting key) links word before act makes is = absurd makes
collect_take kinds.Mark c (Releasing key) links word before act makes is = absurd makes
collect_take kinds.Mark c (Publishing key content with_ref) links word before act makes is = absurd makes
collect_take kinds.Mark c (Creating own chain opened) links word before act makes is = absurd makes
collect_take (kinds.Claim generation) c call links word before act makes is = absurd (if_collect (is_claimed generation before) act _ makes is)
collect_take (kinds.Link expected) c call links word before act makes is = no_act act makes
collect_take (kinds.Push expected link) c call links word before act makes is = absurd (if_collect (eqb before expected) act _ makes is)
collect_take kinds.Follow c call links word before act makes is = no_act act makes

-- ---- what a Get shows

module _ (c : Caller) (key : ℕ) where
  -- the act of a get's first step
  entered : (links : ℕ → ℕ) (enter : Step) (act : Option Act) → next_step c (Getting key) [] ≡ Some (aim enter.kind enter.word)
      → KindMakes enter.kind c (Getting key) links enter.word enter.before act
      → (reply : Option (List ℕ)) × (is_some reply ≡ is_hit key enter.before) × (act ≡ Some (acts.Get c.lane key reply))
  entered links enter act next made =
      let aimed = next_where (is_key c.shape key) (aim kinds.Enter (Life (place_of key))) (aim enter.kind enter.word) next in
      let kind : enter.kind ≡ kinds.Enter = sym (ap (λ (a : Aim). a.kind) aimed.1) in
      subst (λ (kind : Kind). KindMakes kind c (Getting key) links enter.word enter.before act) kind made

  -- after a step a get shows a content only where that step is its ENTER, which hit
  getting_shows : (links : ℕ → ℕ) (steps : List Step) (made : List Act) (step : Step) (act : Option Act) (content : List ℕ)
      → HasMade c (Some (Getting key)) steps made → next_in c steps (Some (Getting key)) ≡ Some (aim step.kind step.word)
      → CallMakes c (Some (Getting key)) links step act → shown (made ++ act_list act) ≡ Some content
      → act ≡ Some (acts.Get c.lane key (Some content))
  getting_shows links [] made step act content has next makes shows =
      let enters = entered links step act next makes in
      let reply : enters.0 ≡ Some content = sym (λ i. shown (has.1 i ++ act_list (enters.2 i))) ∙ shows in
      enters.2 ∙ ap (λ (r : Option (List ℕ)). Some (acts.Get c.lane key r)) reply
  getting_shows links (enter ∷ more) made step act content has next makes shows =
      let miss = (next_unless (is_hit key enter.before) (end_next c (place_of key) more) (aim step.kind step.word) next).0 in
      let enters = entered has.1.2.links enter has.1.0 has.0.0 has.1.2.makes in
      let none : enters.0 ≡ None = hidden_as enters.0 (enters.1 ∙ miss) in
      let told : has.1.0 ≡ Some (acts.Get c.lane key None) = enters.2 ∙ ap (λ (r : Option (List ℕ)). Some (acts.Get c.lane key r)) none in
      let before : made ≡ acts.Get c.lane key None ∷ has.1.1 = has.1.3 ∙ ap (λ (a : Option Act). act_list a ++ has.1.1) told in
      let bad : None ≡ Some content = sym (ap (λ (xs : List Act). shown (xs ++ act_list act)) before) ∙ shows in
      absurd (cc bad)

-- the content that a Get shows is that of the row of its key, also after it
row_got : (z : Shape) (P : Pool) (lane key : ℕ) (content : List ℕ) → Some content ≡ found z P key
    → row_content (after z (acts.Get lane key (Some content)) P (place_of key)).phase ≡ Some content
row_got z P lane key content shows =
    ap (λ (s : Spot). row_content s.phase) (after-here z P (acts.Get lane key (Some content)) (place_of key) (eq-eqb (place_of key) (place_of key) refl))
    ∙ (gained_row lane (P (place_of key)).phase ∙ (shown_content z P key content shows).1)

-- ---- a row before an act

-- an act that publishes nothing
abbrev NoPublish : Act → Type 0
NoPublish (acts.Publish lane key content with_ref) = ⊥
NoPublish (acts.Get lane key reply) = Unit {0}
NoPublish (acts.Release lane key) = Unit {0}
NoPublish (acts.Clear lane key reply) = Unit {0}
NoPublish (acts.Reclaim lane key) = Unit {0}
NoPublish (acts.Home lane place) = Unit {0}
NoPublish (acts.Collect lane places) = Unit {0}

reclaimed_row : (t : Bool) (s : Spot) (lane : ℕ) (content : List ℕ)
    → row_content (cond t (spot s.generation retired) (spot (s.generation + 1) (with lane))).phase ≡ Some content → row_content s.phase ≡ Some content
reclaimed_row true s lane content e = absurd (cc e)
reclaimed_row false s lane content e = absurd (cc e)

changed_row : (last : ℕ) (act : Act) (s : Spot) (content : List ℕ) → NoPublish act → row_content (changed last act s).phase ≡ Some content
    → row_content s.phase ≡ Some content
changed_row last (acts.Publish lane key text with_ref) s content isnt e = absurd isnt
changed_row last (acts.Get lane key None) s content isnt e = e
changed_row last (acts.Get lane key (Some text)) s content isnt e = sym (gained_row lane s.phase) ∙ e
changed_row last (acts.Release lane key) s content isnt e = sym (lost_row lane s.phase) ∙ e
changed_row last (acts.Clear lane key true) s content isnt e = sym (marked_row s.phase) ∙ e
changed_row last (acts.Clear lane key false) s content isnt e = e
changed_row last (acts.Reclaim lane key) s content isnt e = reclaimed_row (eqb s.generation last) s lane content e
changed_row last (acts.Home lane place) s content isnt e = absurd (cc e)
changed_row last (acts.Collect lane places) s content isnt e = absurd (cc e)

-- the content of a row that an act left there was there before it
row_before : (z : Shape) (P : Pool) (act : Act) (place : ℕ) (content : List ℕ) → NoPublish act
    → row_content (after z act P place).phase ≡ Some content → row_content (P place).phase ≡ Some content
row_before z P act place content isnt e = by_test (touches act place) e
  where
    by_test : (t : Bool) → row_content (cond t (changed z.last_generation act (P place)) (P place)).phase ≡ Some content
        → row_content (P place).phase ≡ Some content
    by_test true is = changed_row z.last_generation act (P place) content isnt is
    by_test false is = is

-- ---- which act published a row

module _ (z : Shape) (P : Pool) (history : List Act) (rows : List ℕ) (place : ℕ) (content : List ℕ)
    (was : row_content (P place).phase ≡ Some content → IsPublished history (slice_index rows (position_of z place)) content) where
  published_front : (more : List Act) → row_content (P place).phase ≡ Some content
      → IsPublished (history ++ more) (slice_index rows (position_of z place)) content
  published_front more is =
      let at = was is in
      (at.0, at.1, at.2, get_front history more (slice_index rows (position_of z place)) (acts.Publish at.0 at.1 content at.2) at.3)

  published_by : (lane key : ℕ) (text : List ℕ) (with_ref : Bool) (t s : Bool) → eqb place (place_of key) ≡ t → eqb (place_of key) place ≡ s
      → row_content (cond t (changed z.last_generation (acts.Publish lane key text with_ref) (P place)) (P place)).phase ≡ Some content
      → IsPublished (history ++ acts.Publish lane key text with_ref ∷ [])
      (cond s (length history) (slice_index rows (position_of z place))) content
  published_by lane key text with_ref true true here there is =
      let same : text ≡ content = cc is in (
        lane,
        key,
        with_ref,
        get_last history (acts.Publish lane key text with_ref)
            ∙ ap (λ (c : List ℕ). let o : Option Act = Some (acts.Publish lane key c with_ref) in o) same,
      )
  published_by lane key text with_ref false false here there is = published_front (acts.Publish lane key text with_ref ∷ []) is
  published_by lane key text with_ref true false here there is =
      let bad : true ≡ false = sym (eq-eqb (place_of key) place (sym (eqb-true place (place_of key) here))) ∙ there in absurd (cc bad)
  published_by lane key text with_ref false true here there is =
      let bad : true ≡ false = sym (eq-eqb place (place_of key) (sym (eqb-true (place_of key) place there))) ∙ here in absurd (cc bad)

  published_step : (act : Option Act) → row_content (pool_from z P (act_list act) place).phase ≡ Some content
      → IsPublished (history ++ act_list act) (index_of_publish z rows (length history) (act_list act) place) content
  published_step None is = published_front [] is
  published_step (Some (acts.Publish lane key text with_ref)) is =
      published_by lane key text with_ref (eqb place (place_of key)) (eqb (place_of key) place) refl refl is
  published_step (Some (acts.Get lane key reply)) is =
      published_front (acts.Get lane key reply ∷ []) (row_before z P (acts.Get lane key reply) place content tt is)
  published_step (Some (acts.Release lane key)) is =
      published_front (acts.Release lane key ∷ []) (row_before z P (acts.Release lane key) place content tt is)
  published_step (Some (acts.Clear lane key reply)) is =
      published_front (acts.Clear lane key reply ∷ []) (row_before z P (acts.Clear lane key reply) place content tt is)
  published_step (Some (acts.Reclaim lane key)) is =
      published_front (acts.Reclaim lane key ∷ []) (row_before z P (acts.Reclaim lane key) place content tt is)
  published_step (Some (acts.Home lane at)) is =
      published_front (acts.Home lane at ∷ []) (row_before z P (acts.Home lane at) place content tt is)
  published_step (Some (acts.Collect lane places)) is =
      published_front (acts.Collect lane places ∷ []) (row_before z P (acts.Collect lane places) place content tt is)

-- what all lanes share tells of the world after a step, in which that step is about to be made
pub draft_step : (shared : Shared) (w : World) (number : ℕ) (made : Made) → IsDraft shared w None → number < shared.shape.lanes
    → IsStep shared.shape number w.words (w.books number) made.step made.act → IsLegal shared.shape (w.history ++ act_list made.act)
    → IsDraft shared (after_step shared.shape w number made.step made.act) (Some made)
draft_step shared w number made d below is legal =
    let z = shared.shape in
    let P : Pool = pool_after z w.history in
    let told : w.history ≡ shared.acts.items = d.history ∙ append-nil shared.acts.items in
    record {
      kept = keep_step z w number made.step made.act d.kept below is legal;
      history = ap (λ (xs : List Act). xs ++ act_list made.act) told;
      before = d.before;
      table = d.table;
      words = ap (λ (words : Words). with_value words made.step.word made.step.after) d.words;
      places = d.places;
      published = λ place content inside row.
          subst (λ (n : ℕ). IsPublished (w.history ++ act_list made.act)
          (index_of_publish z shared.published.items n (act_list made.act) place) content) (ap length told)
          (published_step z P w.history shared.published.items place content (d.published place content inside) made.act
          (sym (ap (λ (Q : Pool). row_content (Q place).phase) (pool-append z fresh w.history (act_list made.act))) ∙ row));
    }

-- ---- what a lane notes

-- the act of a step was noted, if it made one
abbrev pub noted : Shape → ℕ → Option Act → ℕ → Progress → Progress
noted z number None index p = p
noted z number (Some act) index p = act_noted z number act index p

module _ (z : Shape) (number : ℕ) (ring : List ℕ) (own : OwnList) where
  -- a place was added
  abbrev with_added : ℕ → OwnList
  with_added place = record own { added = Some place }

  list_if : (t : Bool) (place : ℕ) → IsOwnList z ring own → IsOwnList z ring (cond t (with_added place) own)
  list_if true place is = record { pages = is.pages; room = is.room; start = is.start; within = is.within }
  list_if false place is = is

  list_noted : (act : Act) → IsOwnList z ring own → IsOwnList z ring (own_noted z number act own)
  list_noted (acts.Reclaim lane key) is = list_if (returns_own z number key) (place_of key) is
  list_noted (acts.Publish lane key content with_ref) is = is
  list_noted (acts.Get lane key reply) is = is
  list_noted (acts.Release lane key) is = is
  list_noted (acts.Clear lane key reply) is = is
  list_noted (acts.Home lane place) is = is
  list_noted (acts.Collect lane places) is = is

  opened_if : (t : Bool) (place : ℕ) → (cond t (with_added place) own).opened ≡ own.opened
  opened_if true place = refl
  opened_if false place = refl

  opened_noted : (act : Act) → (own_noted z number act own).opened ≡ own.opened
  opened_noted (acts.Reclaim lane key) = opened_if (returns_own z number key) (place_of key)
  opened_noted (acts.Publish lane key content with_ref) = refl
  opened_noted (acts.Get lane key reply) = refl
  opened_noted (acts.Release lane key) = refl
  opened_noted (acts.Clear lane key reply) = refl
  opened_noted (acts.Home lane place) = refl
  opened_noted (acts.Collect lane places) = refl

  module _ (settled : own.added ≡ None) where
    -- a place that is added is the last
    own_added : (place : ℕ) → own_places z number ring (with_added place) ≡ own_places z number ring own ++ place ∷ []
    own_added place =
        let unused : List ℕ = unused_places z number own.opened own.unused in
        let kept : List ℕ = ring_places ring own.first own.length in
        sym (ap (λ (o : Option ℕ). (unused ++ (kept ++ added_places o)) ++ place ∷ []) settled
        ∙ (ap (λ (xs : List ℕ). (unused ++ xs) ++ place ∷ []) (append-nil kept) ∙ append_assoc unused kept (place ∷ [])))

    own_if : (t : Bool) (place : ℕ) → own_places z number ring (cond t (with_added place) own) ≡ own_places z number ring own ++ cond t (place ∷ []) []
    own_if true place = own_added place
    own_if false place = sym (append-nil (own_places z number ring own))

    own_unless : (t : Bool) (place : ℕ) → own_places z number ring (cond (not t && eqb (shard_of place) number) (with_added place) own)
        ≡ own_places z number ring own ++ of_shard number (cond t [] (place ∷ []))
    own_unless true place = sym (append-nil (own_places z number ring own))
    own_unless false place = own_if (eqb (shard_of place) number) place

    -- what an act reclaims for the lane is added
    own_grows : (act : Act) → own_places z number ring (own_noted z number act own)
        ≡ own_places z number ring own ++ of_shard number (reclaimed z.last_generation (act ∷ []))
    own_grows (acts.Reclaim lane key) = own_unless (eqb (generation_of key) z.last_generation) (place_of key)
    own_grows (acts.Publish lane key content with_ref) = sym (append-nil (own_places z number ring own))
    own_grows (acts.Get lane key reply) = sym (append-nil (own_places z number ring own))
    own_grows (acts.Release lane key) = sym (append-nil (own_places z number ring own))
    own_grows (acts.Clear lane key reply) = sym (append-nil (own_places z number ring own))
    own_grows (acts.Home lane place) = sym (append-nil (own_places z number ring own))
    own_grows (acts.Collect lane places) = sym (append-nil (own_places z number ring own))

    own_told : (had : List ℕ) (made : List Act) (act : Act) → own_places z number ring own ≡ had ++ of_shard number (reclaimed z.last_generation made)
        → own_places z number ring (own_noted z number act own) ≡ had ++ of_shard number (reclaimed z.last_generation (made ++ act ∷ []))
    own_told had made act is =
        let before : List ℕ = of_shard number (reclaimed z.last_generation made) in
        let new : List ℕ = of_shard number (reclaimed z.last_generation (act ∷ [])) in
        let joined : of_shard number (reclaimed z.last_generation (made ++ act ∷ [])) ≡ before ++ new
        = ap (of_shard number) (reclaimed-append z.last_generation made (act ∷ []))
        ∙ of_shard-append number (reclaimed z.last_generation made) (reclaimed z.last_generation (act ∷ [])) in
        own_grows act ∙ (ap (λ (xs : List ℕ). xs ++ new) is
        ∙ (append_assoc had before new ∙ ap (λ (xs : List ℕ). had ++ xs) (sym joined)))

-- a chain of a history is one of a longer one
pub chained_front : (history more : List Act) (collect : Option ℕ) (followed : ℕ) (places : List ℕ) → AreChained history collect followed places
    → AreChained (history ++ more) collect followed places
chained_front history more None followed places are = are
chained_front history more (Some index) followed places are =
    (are.0, are.1, get_front history more index (acts.Collect are.0 are.1) are.2, are.3, are.4)

-- ---- the call under way

module _ (c : Caller) (links : ℕ → ℕ) (steps : List Step) (made : List Act) (step : Step) where
  -- before its first act a call has made none
  first_in : (o : Option Call) (act : Act) → HasMade c o steps made → next_in c steps o ≡ Some (aim step.kind step.word)
      → CallMakes c o links step (Some act) → IsFirst act → made ≡ []
  first_in None act has next makes is = absurd makes
  first_in (Some call) act has next makes is =
      nothing_before c step.word step.kind call links steps made step.before act next has.0 has.1 makes is

  -- a call collects only where its book has no chain
  collect_in : (b : Book) (o : Option Call) (act : Act) → call_under_way b ≡ o → HasMade c o steps made
      → next_in c steps o ≡ Some (aim step.kind step.word) → CallMakes c o links step (Some act) → IsCollect act → b.chain ≡ []
  collect_in b None act e has next makes is = absurd makes
  collect_in b (Some call) act e has next makes is =
      let kind = collect_take step.kind c call links step.word step.before act makes is in
      let t = take_first c step.word call steps made (next ∙ ap (λ (k : Kind). Some (aim k step.word)) kind) has.0 has.1 in
      sym (subst (IsCalled b) t.call_is (called b call b.left e))

-- a call under way has made few steps
few_made : (c : Caller) (o : Option Call) (steps : List Step) (made : List Act) → HasMade c o steps made → c.shape.lanes ≤ 64
    → c.lane < c.shape.lanes → length steps ≤ 64
few_made c None steps made has lanes below = let none : length steps ≡ 0 = ap length has.0 in omega arith
few_made c (Some call) steps made has lanes below = few_steps c call steps has.0 lanes below

-- ---- a step of a lane

module _ (z : Shape) (w : World) (number : ℕ) (k : IsKept z w) (below : number < z.lanes) where
  -- the steps of the call under way are few
  pub few_under_way : length (w.books number).steps ≤ 64
  few_under_way =
      let b = w.books number in
      few_made (caller z number b) (call_under_way b) b.steps b.acts (k.holds.owned number below).call k.holds.rule.limits.lanes.1 below

  module _ (step : Step) (act : Option Act) (is : IsStep z number w.words (w.books number) step act) where
    -- a PUSH is onto a stack of a lane of the shape
    pub push_shard : (shard lane : ℕ) → step.word ≡ Stack shard lane → shard < 64
    push_shard shard lane on =
        let inside = subst (IsWordOf z) on (word_inside z w number (aim step.kind step.word) k below is.next) in
        let lanes = k.holds.rule.limits.lanes in omega arith

    module _ (lane : Lane) (old : Progress) (l : IsLaneAt z w.history number lane old (w.books number))
        (legal : IsLegal z (w.history ++ act_list act)) (settled : old.own.added ≡ None) (most : Most) (pushed : List ℕ)
        (pushed_count : length pushed ≡ 64)
        (puts : (shard : ℕ) → slice_index pushed shard ≡ pushed_by step step.kind step.word (λ (n : ℕ). slice_index old.pushed n) shard) where
      abbrev before : Book
      before = w.books number

      -- the step was counted
      abbrev pub stepped_to : Progress
      stepped_to = record old { pushed = pushed; last = Some step; made = old.made + 1; most = most }

      has : HasMade (caller z number before) (call_under_way before) before.steps before.acts
      has = (k.holds.owned number below).call

      pushed_is : (shard : ℕ) → shard < 64 → slice_index pushed shard ≡ pushed_after (before.steps ++ step ∷ []) before.pushed shard
      pushed_is shard less =
          puts shard
          ∙ (pushed_by-same step step.kind step.word (λ (n : ℕ). slice_index old.pushed n) (pushed_after before.steps before.pushed) shard (l.pushed shard less)
          ∙ sym (ap (λ (f : ℕ → ℕ). f shard) (pushed_after-snoc before.steps step before.pushed)))

      shows_is : (key : ℕ) (content : List ℕ) → call_under_way (stepped before step act) ≡ Some (Getting key)
          → shown (before.acts ++ act_list act) ≡ Some content
          → row_content (pool_after z (w.history ++ act_list act) (place_of key)).phase ≡ Some content
      shows_is key content call shows =
          let P : Pool = pool_after z w.history in
          let under : call_under_way before ≡ Some (Getting key) = sym (call-stepped before step act) ∙ call in
          let c = caller z number before in
          let got : act ≡ Some (acts.Get number key (Some content)) = getting_shows c key w.words.link before.steps before.acts step act content
          (subst (λ (o : Option Call). HasMade c o before.steps before.acts) under has)
          (subst (λ (o : Option Call). next_in c before.steps o ≡ Some (aim step.kind step.word)) under is.next)
          (subst (λ (o : Option Call). CallMakes c o w.words.link step act) under is.makes) shows in
          let last : LegalFrom z P (acts.Get number key (Some content) ∷ []) =
          subst (λ (a : Option Act). LegalFrom z P (act_list a)) got (legal-rest z fresh w.history (act_list act) legal) in
          ap (λ (Q : Pool). row_content (Q (place_of key)).phase) (pool-append z fresh w.history (act_list act))
          ∙ (ap (λ (a : Option Act). row_content (pool_from z P (act_list a) (place_of key)).phase) got
          ∙ row_got z P number key content last.1)

      -- the lane where its own list, its chain and its mark tell of the act
      with_act : (p : Progress) (made : List Act)
          → p.done ≡ old.done → p.slots ≡ old.slots → p.pushed ≡ pushed → p.last ≡ Some step → p.made ≡ old.made + 1
          → made ≡ act_list act
          → IsOwnList z lane.ring.items p.own
          → own_places z number lane.ring.items p.own ≡ before.own ++ of_shard number (reclaimed z.last_generation (before.acts ++ made))
          → IsChained (w.history ++ made) p.chain (before.chain ++ taken (before.acts ++ made)) → p.own.opened ≡ old.own.opened
          → p.cleared ≡ cleared (before.acts ++ made)
          → IsLaneAt z (w.history ++ act_list act) number lane p (stepped before step act)
      with_act p made done slots stacks last count same list own chain opened mark = record {
        left = ap (λ (n : ℕ). drop n lane.script) done ∙ l.left;
        within = subst (λ (n : ℕ). n ≤ length lane.script) (sym done) l.within;
        slots = subst (λ (t : ℕ × List KeptRegister). AreSlots lane.script t.0 t.1 before.registers) (λ i. (sym done i, sym slots i)) l.slots;
        list = list;
        own = own ∙ ap (λ (xs : List Act). before.own ++ of_shard number (reclaimed z.last_generation (before.acts ++ xs))) same;
        chain = subst (λ (xs : List Act). IsChained (w.history ++ xs) p.chain (before.chain ++ taken (before.acts ++ xs))) same chain;
        opened = opened ∙ l.opened;
        pushed_count = ap length stacks ∙ pushed_count;
        pushed = λ shard less. ap (λ (xs : List ℕ). slice_index xs shard) stacks ∙ pushed_is shard less;
        last = last ∙ sym (last-snoc before.steps step);
        made = count ∙ (ap (λ (n : ℕ). n + 1) l.made ∙ sym (length-snoc before.steps step));
        cleared = mark ∙ ap (λ (xs : List Act). cleared (before.acts ++ xs)) same;
        own_shard = l.own_shard;
        shows = shows_is;
      }

      -- a step without an act
      without_act : act ≡ None → IsLaneAt z (w.history ++ act_list act) number lane stepped_to (stepped before step act)
      without_act none =
          let same : before.acts ≡ before.acts ++ [] = sym (append-nil before.acts) in
          with_act stepped_to [] refl refl refl refl refl (sym (ap act_list none)) l.list
          (l.own ∙ ap (λ (xs : List Act). before.own ++ of_shard number (reclaimed z.last_generation xs)) same)
          (subst (λ (xs : List Act). IsChained (w.history ++ []) old.chain (before.chain ++ taken xs)) same
          (chained_front w.history [] old.chain.collect old.chain.followed (before.chain ++ taken before.acts) l.chain))
          refl (l.cleared ∙ ap cleared same)

      module _ (made : Act) (told : act ≡ Some made) where
        -- a step with this act
        with_made : IsChained (w.history ++ made ∷ []) (chain_noted (length w.history) made old.chain) (before.chain ++ taken (before.acts ++ made ∷ []))
            → cleared_noted made old.cleared ≡ cleared (before.acts ++ made ∷ [])
            → IsLaneAt z (w.history ++ act_list act) number lane (act_noted z number made (length w.history) stepped_to) (stepped before step act)
        with_made chain mark =
            with_act (act_noted z number made (length w.history) stepped_to) (made ∷ []) refl refl refl refl refl (sym (ap act_list told))
            (list_noted z number lane.ring.items old.own made l.list)
            (own_told z number lane.ring.items old.own settled before.own before.acts made l.own) chain
            (opened_noted z number lane.ring.items old.own made) mark

        -- a chain that is still to be followed
        same_chain : taken (made ∷ []) ≡ [] → IsChained (w.history ++ made ∷ []) old.chain (before.chain ++ taken (before.acts ++ made ∷ []))
        same_chain none =
            subst (λ (xs : List ℕ). IsChained (w.history ++ made ∷ []) old.chain (before.chain ++ xs)) (sym (taken-more before.acts (made ∷ []) none))
            (chained_front w.history (made ∷ []) old.chain.collect old.chain.followed (before.chain ++ taken before.acts) l.chain)

        same_mark : cleared (made ∷ []) ≡ false → old.cleared ≡ cleared (before.acts ++ made ∷ [])
        same_mark none = l.cleared ∙ sym (cleared-more before.acts (made ∷ []) none)

        makes : CallMakes (caller z number before) (call_under_way before) w.words.link step (Some made)
        makes = subst (λ (a : Option Act). CallMakes (caller z number before) (call_under_way before) w.words.link step a) told is.makes

        idle : IsFirst made → before.acts ≡ []
        idle first = first_in (caller z number before) w.words.link before.steps before.acts step (call_under_way before) made has is.next makes first

      new_chain : (by : ℕ) (places : List ℕ) (told : act ≡ Some (acts.Collect by places))
          → IsChained (w.history ++ acts.Collect by places ∷ []) (record { collect = Some (length w.history); followed = 0 })
          (before.chain ++ taken (before.acts ++ acts.Collect by places ∷ []))
      new_chain by places told =
          let chainless : before.chain ≡ [] = collect_in (caller z number before) w.words.link before.steps before.acts step before
          (call_under_way before) (acts.Collect by places) refl has is.next (makes (acts.Collect by places) told) tt in (
            by,
            places,
            get_last w.history (acts.Collect by places),
            omega arith,
            (λ i. chainless i ++ taken (idle (acts.Collect by places) told tt i ++ acts.Collect by places ∷ [])),
          )

      made_noted : (made : Act) → act ≡ Some made
          → IsLaneAt z (w.history ++ act_list act) number lane (act_noted z number made (length w.history) stepped_to) (stepped before step act)
      made_noted (acts.Clear by key reply) told =
          with_made (acts.Clear by key reply) told (same_chain (acts.Clear by key reply) told refl)
          (sym (ap (λ (xs : List Act). cleared (xs ++ acts.Clear by key reply ∷ [])) (idle (acts.Clear by key reply) told tt)))
      made_noted (acts.Collect by places) told =
          with_made (acts.Collect by places) told (new_chain by places told) (same_mark (acts.Collect by places) told refl)
      made_noted (acts.Publish by key content with_ref) told =
          with_made (acts.Publish by key content with_ref) told (same_chain (acts.Publish by key content with_ref) told refl)
          (same_mark (acts.Publish by key content with_ref) told refl)
      made_noted (acts.Get by key reply) told =
          with_made (acts.Get by key reply) told (same_chain (acts.Get by key reply) told refl) (same_mark (acts.Get by key reply) told refl)
      made_noted (acts.Release by key) told =
          with_made (acts.Release by key) told (same_chain (acts.Release by key) told refl) (same_mark (acts.Release by key) told refl)
      made_noted (acts.Reclaim by key) told =
          with_made (acts.Reclaim by key) told (same_chain (acts.Reclaim by key) told refl) (same_mark (acts.Reclaim by key) told refl)
      made_noted (acts.Home by place) told =
          with_made (acts.Home by place) told (same_chain (acts.Home by place) told refl) (same_mark (acts.Home by place) told refl)

      noted_by : (a : Option Act) → act ≡ a
          → IsLaneAt z (w.history ++ act_list act) number lane (noted z number a (length w.history) stepped_to) (stepped before step act)
      noted_by None told = without_act told
      noted_by (Some made) told = made_noted made told

      -- what was noted tells of the book after the step
      pub lane_noted : IsLaneAt z (w.history ++ act_list act) number lane (noted z number act (length w.history) stepped_to) (stepped before step act)
      lane_noted = noted_by act refl

noted_most : (z : Shape) (number : ℕ) (act : Option Act) (index : ℕ) (p : Progress) → (noted z number act index p).most ≡ p.most
noted_most z number None index p = refl
noted_most z number (Some act) index p = refl

-- a step of a lane, in the world that all lanes share
module _ (shared : Shared) (w : World) (z : Shape) (number : ℕ) (lane : Lane) (old : Progress) (step : Step) (act : Option Act)
    (same : shared.shape ≡ z) (below : number < z.lanes) (d : IsDraft shared w None) (l : IsLaneAt z w.history number lane old (w.books number))
    (is : IsStep z number w.words (w.books number) step act) where
  kept_at : IsKept z w
  kept_at = subst (λ (s : Shape). IsKept s w) same d.kept

  -- the count of the steps has room for one more
  pub made_fits : old.made ≤ 64
  made_fits = let few = few_under_way z w number kept_at below in let count = l.made in omega arith

  pub shard_fits : (shard at : ℕ) → step.word ≡ Stack shard at → shard < 64
  shard_fits = push_shard z w number kept_at below step act is

  -- where the step was counted, and then its PUSH and its act were noted, the lane tells of the book after the step
  pub note_tells : (legal : IsLegal z (w.history ++ act_list act)) (index : ℕ) (command : Command) (more : List Command)
      (counts pushes new : Progress) → index ≡ length w.history → old.own.added ≡ None
      → counts ≡ record old { last = Some step; made = old.made + 1; most = counted (command ∷ more) (old.made + 1) old.most }
      → pushes ≡ record counts { pushed = pushes.pushed } → length pushes.pushed ≡ 64
      → ((shard : ℕ) → slice_index pushes.pushed shard ≡ pushed_by step step.kind step.word (λ (n : ℕ). slice_index counts.pushed n) shard)
      → new ≡ noted z number act index pushes
      → IsLaneAt z (w.history ++ act_list act) number lane new (stepped (w.books number) step act)
      × (new.most ≡ counted (command ∷ more) (length (w.books number).steps + 1) old.most)
  note_tells legal index command more counts pushes new at settled count others pushed_count puts notes =
      let most : Most = counted (command ∷ more) (old.made + 1) old.most in
      let next : Progress = record old { pushed = pushes.pushed; last = Some step; made = old.made + 1; most = most } in
      let whole : new ≡ noted z number act (length w.history) next =
      notes ∙ (ap (noted z number act index) (others ∙ ap (λ (p : Progress). let q : Progress = record p { pushed = pushes.pushed } in q) count)
      ∙ ap (λ (n : ℕ). noted z number act n next) at) in (
        subst (λ (p : Progress). IsLaneAt z (w.history ++ act_list act) number lane p (stepped (w.books number) step act)) (sym whole)
            (lane_noted z w number kept_at below step act is lane old l legal settled most pushes.pushed pushed_count
            (λ shard. puts shard
            ∙ ap (λ (p : Progress). pushed_by step step.kind step.word (λ (n : ℕ). slice_index p.pushed n) shard) count)),
        ap (λ (p : Progress). p.most) whole ∙ (noted_most z number act (length w.history) next
            ∙ ap (λ (n : ℕ). counted (command ∷ more) (n + 1) old.most) l.made),
      )
