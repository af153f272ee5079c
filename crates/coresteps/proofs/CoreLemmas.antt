-- A turn of the core is the next turn of its lane.
use Rattle.std.proofs.Common.{◌≡◌, ◌≢◌, ◌⊎◌, inl, inr, ℕ, zero, suc, ◌+◌, ◌^◌, ◌<◌, ◌≤◌, max, leb, ltb, cond, eqb, Bool, true, false, List, [], ◌∷◌, ◌++◌, drop, length, set, get_or, replicate, slice_get, length-set, length-append, append-nil, eq-eqb, ne_eqb, Option, Some, None, is_some, refl, ap, sym, ◌∙◌, subst, arith}
use Rattle.std.specs.Prelude.{Result, Ok, Err, IfOk, OnErr, MatchBool}
use Rattle.std.proofs.lemmas.List.{length-replicate}
use Rattle.std.proofs.lemmas.Option.{slice_get_read, slice_get_within}
use borrow.Author.Tests.{ltb-true, lt-ltb, leb-true, leb-false}
use mathlib.Core.Logic.{dite}
use native.Mathlib.Decide.{ℕ_discrete}
use Rattle.keybits.specs.declared.shape.Shape.{Shape}
use Rattle.keybits.specs.declared.step.Step.{Step}
use Rattle.keybits.specs.declared.step.Kind.TheVariants as kinds
use Rattle.keybits.specs.declared.step.Word.TheVariants as words
use Rattle.keybits.specs.Keys.{place_of, is_key}
use Rattle.keybits.specs.Shapes.{IsShape, shard_places, all_places}
use Rattle.keybits.proofs.ShapeLemmas.{shape_bounds}
use Rattle.seqpool.specs.declared.act.Act.{Act}
use Rattle.seqpool.specs.declared.act.Act.TheVariants as acts
use Rattle.seqpool.specs.Pool.{pool_after, IsLegal}
use Rattle.steplaws.proofs.Updates.{at-here}
use Rattle.steplaws.specs.Calls.{Call, Publishing, Getting, Releasing, Clearing, Creating, Caller, Aim, aim, is_hit, next_step, end_next, AreSteps, KindMakes}
use Rattle.traces.specs.declared.script.Command.{Command}
use Rattle.traces.specs.declared.script.Command.TheVariants as commands
use Rattle.traces.specs.declared.reply.Reply.{Reply}
use Rattle.traces.specs.declared.trace.Turn.{Turn}
use Rattle.traces.specs.Registers.{operand_key, empty_register, register_at}
use Rattle.traces.specs.declared.registers.Holding.{Holding}
use Rattle.traces.specs.declared.registers.Holding.TheVariants as holdings
use Rattle.traces.specs.Books.{Book, first_book, caller, publishing, releasing, getting, clearing, creating, holding_at, call_of_first, call_under_way, next_in, next_aim, shown, all_answered, act_list, stepped}
use Rattle.traces.specs.Following.{AreReplies}
use Rattle.traces.specs.Lawful.{World, words_after, book_before, book_after, with_book, world_after, world_from, first_words, first_world, script_or_none, at_end, is_finished, IsStep, IsAtRest, StepAndReplies, IsNextTurn, AreTurns}
use Rattle.traces.specs.Parts.{Stands, StandsThroughout}
use Rattle.traces.specs.Making.{AreMade, HasMade}
use Rattle.traces.specs.Keeping.{IsKept, IsResting, AreResting}
use Rattle.traces.proofs.CallActs.{same_kind, if_some}
use Rattle.traces.proofs.Owns.{steps-snoc}
use Rattle.traces.proofs.Idles.{NoCreate}
use Rattle.traces.proofs.Standing.{no_acts, stands}
use Rattle.traces.proofs.Throughout.{with_lane, book_here, rebooked, turn_below, rest_turn, keep_replies, keeps_first, first_rest}
use Rattle.traces.proofs.Worlds.{after_step}
use Rattle.coresteps.specs.declared.lane.Lane.{Lane}
use Rattle.coresteps.specs.declared.progress.Progress.{Progress}
use Rattle.coresteps.specs.declared.progress.Most.{Most}
use Rattle.coresteps.specs.declared.shared.Made.{Made}
use Rattle.coresteps.specs.declared.shared.Shared.{Shared}
use Rattle.coresteps.specs.declared.fault.CoreFault.{CoreFault}
use Rattle.coresteps.specs.Lanes.{IsSlot, slot_at, empty_slot, first_progress, no_most, counted, counted_step, most_after}
use Rattle.coresteps.specs.Kept.{IsTable, IsDraft, IsLaneAt, IsWorked, IsCoreAt, CoreState, SameShared, IsCore, IsEmptyTurn, MakesTurn, Turns, IsRun}
use Rattle.coresteps.proofs.TableLemmas.{same_draft}
use Rattle.coresteps.proofs.NoteLemmas.{draft_step, chained_front}
use Rattle.coresteps.proofs.CountLemmas.{create_few, few_other}
use Rattle.coresteps.proofs.CreateLemmas.{drop_within}
use Rattle.coresteps.proofs.RegisterLemmas.{no_create}

-- ---- lists

got_set : {A : Type 0} → (xs : List A) (i : ℕ) (x : A) → i < length xs → slice_get (set xs i x) i ≡ Some x
got_set [] i x h = absurd (omega arith)
got_set (y ∷ ys) zero x h = refl
got_set (y ∷ ys) (suc i) x h = got_set ys i x (omega arith)

got_else : {A : Type 0} → (xs : List A) (i j : ℕ) (x : A) → j ≢ i → slice_get (set xs i x) j ≡ slice_get xs j
got_else [] i j x h = refl
got_else (y ∷ ys) zero zero x h = absurd (h refl)
got_else (y ∷ ys) zero (suc j) x h = refl
got_else (y ∷ ys) (suc i) zero x h = refl
got_else (y ∷ ys) (suc i) (suc j) x h = got_else ys i j x (λ e. h (ap suc e))

-- what is read twice at a place is the same
pub read_twice : {A : Type 0} → (xs : List A) (i : ℕ) (x y : A) → x ≡ get_or xs i x → y ≡ get_or xs i y → i < length xs → x ≡ y
read_twice xs i x y first second below =
    let both : Some x ≡ Some y = sym (slice_get_read xs (length xs) i x refl below first) ∙ slice_get_read xs (length xs) i y refl below second in cc both

-- and the first that is left stands there
pub drop_first : {A : Type 0} → (xs : List A) (n : ℕ) (x : A) (more : List A) (d : A) → drop n xs ≡ x ∷ more → get_or xs n d ≡ x
drop_first [] zero x more d e = absurd (cc e)
drop_first [] (suc n) x more d e = absurd (cc e)
drop_first (y ∷ ys) zero x more d e = cc e
drop_first (y ∷ ys) (suc n) x more d e = drop_first ys n x more d e

-- ---- a lane that did nothing

-- a get that has a step to make has shown nothing
get_silent : (c : Caller) (key : ℕ) (steps : List Step) (made : List Act) (content : List ℕ) → AreSteps c (Getting key) [] steps
    → AreMade c (Getting key) steps made → is_some (next_step c (Getting key) steps) ≡ true → shown made ≡ Some content → ⊥
get_silent c key [] made content are were next e = let bad : None ≡ Some content = sym (ap shown were) ∙ e in absurd (cc bad)
get_silent c key (enter ∷ more) made content are were next e = by_test (is_hit key enter.before) refl
  where
    asked : (is_key c.shape key ≡ true) × (Some (aim kinds.Enter (words.Life (place_of key))) ≡ Some (aim enter.kind enter.word))
    asked = if_some (is_key c.shape key) _ _ are.0

    act : (reply : Option (List ℕ)) × (is_some reply ≡ is_hit key enter.before) × (were.0 ≡ Some (acts.Get c.lane key reply))
    act = subst (λ (k : _). KindMakes k c (Getting key) were.2.links enter.word enter.before were.0) (same_kind _ _ enter asked.1) were.2.makes

    unhit : (reply : Option (List ℕ)) → is_some reply ≡ false → shown (acts.Get c.lane key reply ∷ were.1) ≡ Some content → ⊥
    unhit (Some x) none s = absurd (cc none)
    unhit None none s = absurd (cc s)

    by_test : (b : Bool) → is_hit key enter.before ≡ b → ⊥
    by_test true hit =
        let bad : false ≡ true = sym (ap (λ (b : Bool). is_some (cond b None (end_next c (place_of key) more))) hit) ∙ next in absurd (cc bad)
    by_test false miss =
        unhit act.0 (act.1 ∙ miss) (ap (λ (o : Option Act). shown (act_list o ++ were.1)) (sym act.2) ∙ ap shown (sym were.3) ∙ e)

-- so has the call of a lane at rest
silent : (c : Caller) (o : Option Call) (steps : List Step) (made : List Act) → HasMade c o steps made
    → (steps ≡ []) ⊎ (is_some (next_in c steps o) ≡ true) → (key : ℕ) (content : List ℕ) → o ≡ Some (Getting key) → shown made ≡ Some content → ⊥
silent c o steps made has (inl none) key content is e =
    let bad : None ≡ Some content = sym (ap shown (no_acts c o steps made has none)) ∙ e in absurd (cc bad)
silent c o steps made has (inr next) key content is e =
    let here : HasMade c (Some (Getting key)) steps made = subst (λ (x : Option Call). HasMade c x steps made) is has in
    get_silent c key steps made content here.0 here.1 (subst (λ (x : Option Call). is_some (next_in c steps x) ≡ true) is next) e

-- a lane tells of its book also where other lanes have acted
longer : (z : Shape) (history more : List Act) (number : ℕ) (lane : Lane) (p : Progress) (b : Book) → IsLaneAt z history number lane p b
    → HasMade (caller z number b) (call_under_way b) b.steps b.acts → IsResting z number b
    → IsLaneAt z (history ++ more) number lane p b
longer z history more number lane p b at has rest = record {
  left = at.left;
  within = at.within;
  slots = at.slots;
  list = at.list;
  own = at.own;
  chain = chained_front history more p.chain.collect p.chain.followed _ at.chain;
  opened = at.opened;
  pushed_count = at.pushed_count;
  pushed = at.pushed;
  last = at.last;
  made = at.made;
  cleared = at.cleared;
  own_shard = at.own_shard;
  shows = λ key content is e. absurd (silent (caller z number b) (call_under_way b) b.steps b.acts has rest key content is e);
}

-- ---- the work before a step

-- what a lane tells of its book stands where that is put among the others
pub at_book : (z : Shape) (w : World) (number : ℕ) (lane : Lane) (p : Progress) (b : Book) → IsLaneAt z w.history number lane p b
    → IsLaneAt z (with_lane w number b).history number lane p ((with_lane w number b).books number)
at_book z w number lane p b at = subst (λ (x : Book). IsLaneAt z w.history number lane p x) (sym (book_here w.books number b)) at

-- a lane that makes a step has a command left
pub commanded : (z : Shape) (number : ℕ) (b : Book) (next : Aim) → next_aim z number b ≡ Some next
    → (command : Command) × (more : List Command) × (b.left ≡ command ∷ more)
commanded z number b next e = go b.left refl e
  where
    go : (left : List Command) → b.left ≡ left → next_in (caller z number b) b.steps (call_of_first b left) ≡ Some next
        → (command : Command) × (more : List Command) × (b.left ≡ command ∷ more)
    go [] is e = absurd (cc e)
    go (command ∷ more) is e = (command, more, is)

-- the core has all acts of the history
pub history_length : (shared : Shared) (w : World) → IsDraft shared w None → length shared.acts.items ≡ length w.history
history_length shared w draft = ap length (sym (append-nil shared.acts.items) ∙ sym draft.history)

-- ---- a turn

-- a lane's book after the replies before its step
abbrev pub replied : Shape → World → ℕ → List Reply → Book
replied z w number before = all_answered z number (w.books number) before

-- the world after them
abbrev pub before_step : Shape → World → ℕ → List Reply → World
before_step z w number before = with_lane w number (replied z w number before)

-- the world after the step
abbrev pub after_made : Shape → World → ℕ → List Reply → Made → World
after_made z w number before made = after_step z (before_step z w number before) number made.step made.act

-- the turn that was made
abbrev pub turn_of : ℕ → List Reply → Option Step → Option Act → List Reply → Turn
turn_of number before step act after = record { lane = number; before = before; step = step; act = act; after = after }

module _ (shared : Shared) (w : World) (number : ℕ) (lane : Lane) (p0 p1 : Progress) (before : List Reply)
    (worked : IsWorked shared w None number lane p0 before p1) where
  pub replied_at : IsLaneAt shared.shape w.history number lane p1 ((before_step shared.shape w number before).books number)
  replied_at = at_book shared.shape w number lane p1 (replied shared.shape w number before) worked.lane_at

  -- the lane's command, as it stands in the script
  pub commanded_at : (next : Aim) (script : List Command) (command : Command) → next_aim shared.shape number ((before_step shared.shape w number before).books number) ≡ Some next
      → script ≡ lane.script → command ≡ get_or script p1.done command
      → (more : List Command) × (((before_step shared.shape w number before).books number).left ≡ command ∷ more)
  commanded_at next script command e same read =
      let first = commanded shared.shape number ((before_step shared.shape w number before).books number) next e in
      let left : drop p1.done lane.script ≡ first.0 ∷ first.1 = replied_at.left ∙ first.2 in
      let is : command ≡ first.0 = read ∙ (ap (λ (xs : List Command). get_or xs p1.done command) same ∙ drop_first lane.script p1.done first.0 first.1 command left) in
      (first.1, first.2 ∙ ap (λ (x : Command). x ∷ first.1) (sym is))

  -- it is one of the script
  pub in_script : (next : Aim) (script : List Command) → next_aim shared.shape number ((before_step shared.shape w number before).books number) ≡ Some next
      → script ≡ lane.script → p1.done < length script
  in_script next script e same =
      let first = commanded shared.shape number ((before_step shared.shape w number before).books number) next e in
      subst (λ (xs : List Command). p1.done < length xs) (sym same)
      (drop_within lane.script p1.done first.0 first.1 (replied_at.left ∙ first.2))

  -- a turn without a step ends the script
  ended : next_aim shared.shape number ((before_step shared.shape w number before).books number) ≡ None
      → at_end (replied shared.shape w number before).left ≡ true
  ended none = go worked.rest
      (subst (λ (b : Book). next_aim shared.shape number b ≡ None) (book_here w.books number (replied shared.shape w number before)) none)
    where
      go : IsAtRest shared.shape number (replied shared.shape w number before) → next_aim shared.shape number (replied shared.shape w number before) ≡ None
          → at_end (replied shared.shape w number before).left ≡ true
      go (inl e) none = e
      go (inr e) none = let bad : true ≡ false = sym e ∙ ap is_some none in absurd (cc bad)

  -- it is the next of its lane
  pub end_turn : is_finished shared.shape w number ≡ false → next_aim shared.shape number ((before_step shared.shape w number before).books number) ≡ None
      → IsNextTurn shared.shape w (turn_of number before None None [])
      × IsDraft shared (world_after shared.shape w (turn_of number before None None [])) None
      × IsLaneAt shared.shape (w.history ++ []) number lane p1 (replied shared.shape w number before)
  end_turn unfinished none =
      let over = ended none in (
        record { unfinished = unfinished; replies = worked.replied; step = (over, refl, refl); rest = inl over },
        subst (λ (history : List Act). IsDraft shared (record {
          history = history;
          words = w.words;
          books = with_book w.books number (replied shared.shape w number before);
        }) None) (sym (append-nil w.history)) worked.draft,
        subst (λ (history : List Act). IsLaneAt shared.shape history number lane p1 (replied shared.shape w number before)) (sym (append-nil w.history)) worked.lane_at,
      )

  module _ (made : Made) (is : IsStep shared.shape number w.words ((before_step shared.shape w number before).books number) made.step made.act) where
    abbrev next_book : Book
    next_book = stepped (replied shared.shape w number before) made.step made.act

    step_books : (after_made shared.shape w number before made).books ≡ with_book w.books number next_book
    step_books = rebooked w.books number (replied shared.shape w number before) (λ b. stepped b made.step made.act)

    step_book : (after_made shared.shape w number before made).books number ≡ next_book
    step_book = ap (λ (books : ℕ → Book). books number) step_books ∙ book_here w.books number next_book

    own_step : IsStep shared.shape number w.words (replied shared.shape w number before) made.step made.act
    own_step = subst (λ (b : Book). IsStep shared.shape number w.words b made.step made.act) (book_here w.books number (replied shared.shape w number before)) is

    -- what all lanes share tells of the world after the step, and the lane of its book there
    pub made_draft : number < shared.shape.lanes → IsLegal shared.shape (w.history ++ act_list made.act)
        → IsDraft shared (after_made shared.shape w number before made) (Some made)
    made_draft below legal = draft_step shared (before_step shared.shape w number before) number made worked.draft below is legal

    pub made_at : (p2 : Progress) → IsLaneAt shared.shape (w.history ++ act_list made.act) number lane p2
        (stepped ((before_step shared.shape w number before).books number) made.step made.act)
        → IsLaneAt shared.shape (w.history ++ act_list made.act) number lane p2 ((after_made shared.shape w number before made).books number)
    made_at p2 at = subst (λ (b : Book). IsLaneAt shared.shape (w.history ++ act_list made.act) number lane p2 b)
        (sym (book_here (before_step shared.shape w number before).books number (stepped ((before_step shared.shape w number before).books number) made.step made.act))) at

    module _ (p2 p3 : Progress) (after : List Reply) (worked_after : IsWorked shared (after_made shared.shape w number before made) (Some made) number lane p2 after p3) where
      -- the turn with the step is the next of its lane
      pub step_next : is_finished shared.shape w number ≡ false → IsNextTurn shared.shape w (turn_of number before (Some made.step) made.act after)
      step_next unfinished = record {
        unfinished = unfinished;
        replies = worked.replied;
        step = (own_step, subst (λ (b : Book). AreReplies shared.shape (pool_after shared.shape (w.history ++ act_list made.act)) number b after) step_book worked_after.replied);
        rest = subst (λ (b : Book). IsAtRest shared.shape number (all_answered shared.shape number b after)) step_book worked_after.rest;
      }

      -- the world is then the one after it
      pub step_world : with_lane (after_made shared.shape w number before made) number
          (all_answered shared.shape number ((after_made shared.shape w number before made).books number) after)
          ≡ world_after shared.shape w (turn_of number before (Some made.step) made.act after)
      step_world =
          let books = ap (λ (bs : ℕ → Book). with_book bs number (all_answered shared.shape number (bs number) after)) step_books
          ∙ rebooked w.books number next_book (λ b. all_answered shared.shape number b after) in
          λ i. record { history = w.history ++ act_list made.act; words = words_after w.words (Some made.step); books = books i }

      -- and the lane tells of its book there
      pub step_at : IsLaneAt shared.shape (w.history ++ act_list made.act) number lane p3
          (book_after shared.shape w (turn_of number before (Some made.step) made.act after))
      step_at = subst (λ (b : Book). IsLaneAt shared.shape (w.history ++ act_list made.act) number lane p3 (all_answered shared.shape number b after)) step_book worked_after.lane_at

      -- the step is counted
      pub step_most : (left : List Command) → ((before_step shared.shape w number before).books number).left ≡ left
          → p2.most ≡ counted left (length ((before_step shared.shape w number before).books number).steps + 1) p1.most
          → p3.most ≡ counted (replied shared.shape w number before).left (length (replied shared.shape w number before).steps + 1) p0.most
      step_most left is_left count = worked_after.most ∙ (count
          ∙ ((λ i. counted (sym is_left i) (length ((before_step shared.shape w number before).books number).steps + 1) (worked.most i))
          ∙ ap (λ (b : Book). counted b.left (length b.steps + 1) p0.most) (book_here w.books number (replied shared.shape w number before))))

-- ---- how many steps a call makes

-- a call that makes a step more has made few
few_more : (c : Caller) (call : Call) (steps : List Step) (made : List Act) (step : Step) → HasMade c (Some call) steps made
    → next_step c call steps ≡ Some (aim step.kind step.word) → AreSteps c call [] (steps ++ step ∷ [])
few_more c call steps made step has next = steps-snoc c call [] steps step has.0 next

-- a step more of a call is counted within the bounds
module _ (c : Caller) (steps : List Step) (made : List Act) (step : Step) (below : c.lane < c.shape.lanes) where
  creates_few : (b : Book) (h : Holding) → HasMade c (creating b h) steps made → next_in c steps (creating b h) ≡ Some (aim step.kind step.word)
      → length steps + 1 ≤ c.shape.lanes
  creates_few b holdings.Empty has next =
      let few = create_few c b.own b.chain b.opened (steps ++ step ∷ []) (few_more c (Creating b.own b.chain b.opened) steps made step has next) below in
      omega (arith, length-append steps (step ∷ []))
  creates_few b (holdings.Filling key content) has next = absurd (cc next)
  creates_few b (holdings.Reference key content) has next = absurd (cc next)

  other_few : (o : Option Call) → NoCreate o → HasMade c o steps made → next_in c steps o ≡ Some (aim step.kind step.word) → length steps + 1 ≤ 8
  other_few None other has next = absurd (cc next)
  other_few (Some (Publishing key content with_ref)) other has next =
      let few = few_other c (Publishing key content with_ref) (steps ++ step ∷ []) (few_more c (Publishing key content with_ref) steps made step has next) tt in
      omega (arith, length-append steps (step ∷ []))
  other_few (Some (Getting key)) other has next =
      let few = few_other c (Getting key) (steps ++ step ∷ []) (few_more c (Getting key) steps made step has next) tt in
      omega (arith, length-append steps (step ∷ []))
  other_few (Some (Releasing key)) other has next =
      let few = few_other c (Releasing key) (steps ++ step ∷ []) (few_more c (Releasing key) steps made step has next) tt in
      omega (arith, length-append steps (step ∷ []))
  other_few (Some (Clearing key)) other has next =
      let few = few_other c (Clearing key) (steps ++ step ∷ []) (few_more c (Clearing key) steps made step has next) tt in
      omega (arith, length-append steps (step ∷ []))
  other_few (Some (Creating own chain opened)) other has next = absurd other

-- the greatest numbers of steps are within the bounds of the calls
abbrev IsBounded : ℕ → Most → Type 0
IsBounded lanes most = (most.create ≤ lanes) × (most.other ≤ 8)

bounded_create : (lanes : ℕ) (most : Most) (n : ℕ) → IsBounded lanes most → n ≤ lanes → IsBounded lanes (record { create = max most.create n; other = most.other })
bounded_create lanes most n b few = (omega (arith, b.0), b.1)

bounded_other : (lanes : ℕ) (most : Most) (n : ℕ) → IsBounded lanes most → n ≤ 8 → IsBounded lanes (record { create = most.create; other = max most.other n })
bounded_other lanes most n b few = (b.0, omega (arith, b.1))

module _ (c : Caller) (b : Book) (step : Step) (below : c.lane < c.shape.lanes) (most : Most) (bounded : IsBounded c.shape.lanes most) where
  counted_few : (left : List Command) → HasMade c (call_of_first b left) b.steps b.acts
      → next_in c b.steps (call_of_first b left) ≡ Some (aim step.kind step.word) → IsBounded c.shape.lanes (counted left (length b.steps + 1) most)
  counted_few [] has next = absurd (cc next)
  counted_few (commands.Create r ∷ more) has next =
      bounded_create c.shape.lanes most (length b.steps + 1) bounded (creates_few c b.steps b.acts step below b (holding_at b r.number) has next)
  counted_few (commands.Write r bytes ∷ more) has next = absurd (cc next)
  counted_few (commands.Publish r ∷ more) has next =
      bounded_other c.shape.lanes most (length b.steps + 1) bounded (other_few c b.steps b.acts step below (publishing false (holding_at b r.number)) (no_create b (commands.Publish r) tt) has next)
  counted_few (commands.Downgrade r ∷ more) has next =
      bounded_other c.shape.lanes most (length b.steps + 1) bounded (other_few c b.steps b.acts step below (publishing true (holding_at b r.number)) (no_create b (commands.Downgrade r) tt) has next)
  counted_few (commands.Get r key ∷ more) has next =
      bounded_other c.shape.lanes most (length b.steps + 1) bounded (other_few c b.steps b.acts step below (getting (operand_key b.registers key) (holding_at b r.number)) (no_create b (commands.Get r key) tt) has next)
  counted_few (commands.Read r ∷ more) has next = absurd (cc next)
  counted_few (commands.Release r ∷ more) has next =
      bounded_other c.shape.lanes most (length b.steps + 1) bounded (other_few c b.steps b.acts step below (releasing (holding_at b r.number)) (no_create b (commands.Release r) tt) has next)
  counted_few (commands.Clear key ∷ more) has next =
      bounded_other c.shape.lanes most (length b.steps + 1) bounded (other_few c b.steps b.acts step below (clearing (operand_key b.registers key)) (no_create b (commands.Clear key) tt) has next)

-- so is that of a turn
turn_bounded : (z : Shape) (w : World) (t : Turn) (most : Most) → IsKept z w → IsNextTurn z w t → IsBounded z.lanes most
    → IsBounded z.lanes (counted_step (book_before z w t) t.step most)
turn_bounded z w t most kept next bounded = go t.step t.act t.after next.step
  where
    below : t.lane < z.lanes
    below = turn_below z w t.lane next.unfinished

    here : IsKept z (with_lane w t.lane (book_before z w t))
    here = keep_replies z t.lane below t.before w kept next.replies

    has : HasMade (caller z t.lane (book_before z w t)) (call_under_way (book_before z w t)) (book_before z w t).steps (book_before z w t).acts
    has = subst (λ (b : Book). HasMade (caller z t.lane b) (call_under_way b) b.steps b.acts) (book_here w.books t.lane (book_before z w t))
        (here.holds.owned t.lane below).call

    go : (step : Option Step) (act : Option Act) (after : List Reply) → StepAndReplies z w t.lane (book_before z w t) step act after
        → IsBounded z.lanes (counted_step (book_before z w t) step most)
    go None act after is = bounded
    go (Some step) act after is =
        counted_few (caller z t.lane (book_before z w t)) (book_before z w t) step below most bounded (book_before z w t).left has is.0.next

-- ---- the core after a turn

module _ (old new : Shared) (w : World) (most : ℕ → Most) (lanes : List Lane) (k : IsCoreAt w most old lanes) (shape : new.shape ≡ old.shape)
    (of lane : Lane) (t : Turn) (is : IsNextTurn old.shape w t) (draft : IsDraft new (world_after old.shape w t) None) where
  -- what is kept of the world after the turn
  turn_kept : IsKept old.shape (world_after old.shape w t)
  turn_kept = subst (λ (z : Shape). IsKept z (world_after old.shape w t)) shape draft.kept

  turn_rest : AreResting old.shape (world_after old.shape w t)
  turn_rest = rest_turn old.shape w t k.resting is turn_kept

  pub turn_stands : Stands old.shape (world_after old.shape w t)
  turn_stands = stands old.shape k.alone (world_after old.shape w t) turn_kept.holds turn_rest

  pub turn_legal : IsLegal old.shape (world_after old.shape w t).history
  turn_legal = turn_kept.holds.rule.legal

  module _ (got : slice_get lanes t.lane ≡ Some of)
      (at : IsLaneAt old.shape (world_after old.shape w t).history t.lane lane lane.progress (book_after old.shape w t))
      (settled : lane.progress.own.added ≡ None)
      (count : lane.progress.most ≡ counted_step (book_before old.shape w t) t.step of.progress.most) where
    inside : t.lane < length lanes
    inside = slice_get_within lanes t.lane of got

    -- what holds of each lane after the turn, if it holds of the one that made it and is kept of the others
    each : (P : ℕ → Lane → Type 0) → P t.lane lane → ((n : ℕ) (l : Lane) → n ≢ t.lane → slice_get lanes n ≡ Some l → P n l)
        → (n : ℕ) (l : Lane) → slice_get (set lanes t.lane lane) n ≡ Some l → P n l
    each P here there n l e = dite (ℕ_discrete n t.lane)
        (λ same.
        let first : Some lane ≡ Some l = sym (got_set lanes t.lane lane inside) ∙ (ap (slice_get (set lanes t.lane lane)) (sym same) ∙ e) in
        let is_lane : lane ≡ l = cc first in
        subst (λ (x : ℕ × Lane). P x.0 x.1) (λ i. (sym same i, is_lane i)) here)
        (λ other. there n l other (sym (got_else lanes t.lane n lane other) ∙ e))

    each_lane : (n : ℕ) (l : Lane) → slice_get (set lanes t.lane lane) n ≡ Some l
        → IsLaneAt old.shape (world_after old.shape w t).history n l l.progress ((world_after old.shape w t).books n)
    each_lane = each (λ n l. IsLaneAt old.shape (world_after old.shape w t).history n l l.progress ((world_after old.shape w t).books n))
        (subst (λ (b : Book). IsLaneAt old.shape (world_after old.shape w t).history t.lane lane lane.progress b) (sym (book_here w.books t.lane (book_after old.shape w t))) at)
        (λ n l other e.
        let below : n < old.shape.lanes = let count = k.count in let low = slice_get_within lanes n l e in omega arith in
        subst (λ (b : Book). IsLaneAt old.shape (world_after old.shape w t).history n l l.progress b)
        (sym (ap (λ (b : Bool). cond b (book_after old.shape w t) (w.books n)) (ne_eqb n t.lane other)))
        (longer old.shape w.history (act_list t.act) n l l.progress (w.books n) (k.lane n l e) (k.draft.kept.holds.owned n below).call (k.resting n below)))

    each_most : (n : ℕ) (l : Lane) → slice_get (set lanes t.lane lane) n ≡ Some l → l.progress.most ≡ most_after old.shape w t most n
    each_most = each (λ n l. l.progress.most ≡ most_after old.shape w t most n)
        (count ∙ (ap (counted_step (book_before old.shape w t) t.step) (k.most_is t.lane of got)
        ∙ sym (ap (λ (b : Bool). cond b (counted_step (book_before old.shape w t) t.step (most t.lane)) (most t.lane)) (eq-eqb t.lane t.lane refl))))
        (λ n l other e. k.most_is n l e
        ∙ sym (ap (λ (b : Bool). cond b (counted_step (book_before old.shape w t) t.step (most n)) (most n)) (ne_eqb n t.lane other)))

    either : (b : Bool) (x y : Most) → IsBounded old.shape.lanes x → IsBounded old.shape.lanes y → IsBounded old.shape.lanes (cond b x y)
    either true x y p q = p
    either false x y p q = q

    -- the core keeps the world after the turn
    pub turn_core : IsCoreAt (world_after old.shape w t) (most_after old.shape w t most) new (set lanes t.lane lane)
    turn_core = record {
      draft = draft;
      count = length-set lanes t.lane lane ∙ (k.count ∙ sym (ap (λ (z : Shape). z.lanes) shape));
      lane = λ n l e. subst (λ (z : Shape). IsLaneAt z (world_after old.shape w t).history n l l.progress ((world_after old.shape w t).books n)) (sym shape) (each_lane n l e);
      settled = each (λ n l. l.progress.own.added ≡ None) settled (λ n l other e. k.settled n l e);
      most_is = each_most;
      alone = ap (λ (z : Shape). z.guests) shape ∙ k.alone;
      bounded = λ n. subst (λ (z : Shape). IsBounded z.lanes (most_after old.shape w t most n)) (sym shape)
          (either (eqb n t.lane) (counted_step (book_before old.shape w t) t.step (most n)) (most n)
          (turn_bounded old.shape w t (most n) k.draft.kept is (k.bounded n)) (k.bounded n));
      resting = subst (λ (z : Shape). AreResting z (world_after old.shape w t)) (sym shape) turn_rest;
    }

-- the same core, where only what is not told of the world has changed
same_core : (old new : Shared) (w : World) (most : ℕ → Most) (lanes : List Lane) → IsCoreAt w most old lanes → new.shape ≡ old.shape → IsDraft new w None
    → IsCoreAt w most new lanes
same_core old new w most lanes k shape draft = record {
  draft = draft;
  count = k.count ∙ sym (ap (λ (z : Shape). z.lanes) shape);
  lane = λ n l e. subst (λ (z : Shape). IsLaneAt z w.history n l l.progress (w.books n)) (sym shape) (k.lane n l e);
  settled = k.settled;
  most_is = k.most_is;
  alone = ap (λ (z : Shape). z.guests) shape ∙ k.alone;
  bounded = λ n. subst (λ (z : Shape). IsBounded z.lanes (most n)) (sym shape) (k.bounded n);
  resting = subst (λ (z : Shape). AreResting z w) (sym shape) k.resting;
}

-- where a turn changed nothing, the core keeps what it kept
pub same_cores : {T E : Type 0} → (old new : CoreState) (r : Result T E) → OnErr r (SameShared old.shared new.shared × (new.lanes ≡ old.lanes))
    → OnErr r ((w : World) (most : ℕ → Most) → IsCore w most old → IsCore w most new)
same_cores old new (Ok x) same = tt
same_cores old new (Err e) ((shape, words, rows, history), lanes) = λ w most k.
    subst (IsCoreAt w most new.shared) (sym lanes)
    (same_core old.shared new.shared w most old.lanes k shape (same_draft old.shared new.shared w None shape words rows history k.draft))

-- where the lane's book stands after the turn
pub at_world : (z : Shape) (w : World) (t : Turn) (number : ℕ) (lane : Lane) (p : Progress) → t.lane ≡ number
    → IsLaneAt z (world_after z w t).history number lane p (book_after z w t)
    → IsLaneAt z (world_after z w t).history number lane p ((world_after z w t).books number)
at_world z w t number lane p e at = subst (λ (b : Book). IsLaneAt z (world_after z w t).history number lane p b)
    (sym (at-here w.books t.lane (book_after z w t) number (sym e))) at

-- the core made the turn of the lane
pub turn_made : (old new : Shared) (w : World) (most : ℕ → Most) (lanes : List Lane) (of lane : Lane) (t : Turn) (number : ℕ) → IsCoreAt w most old lanes
    → new.shape ≡ old.shape → t.lane ≡ number → IsNextTurn old.shape w t → IsDraft new (world_after old.shape w t) None → slice_get lanes number ≡ Some of
    → IsLaneAt old.shape (world_after old.shape w t).history number lane lane.progress (book_after old.shape w t)
    → lane.progress.own.added ≡ None → lane.progress.most ≡ counted_step (book_before old.shape w t) t.step of.progress.most
    → MakesTurn (record { shared = old; lanes = lanes }) w most number t (record { shared = new; lanes = set lanes number lane })
turn_made old new w most lanes of lane t number k shape e is draft got at settled count = record {
  lane_is = e;
  next = is;
  legal = turn_legal old new w most lanes k shape of lane t is draft;
  stands = turn_stands old new w most lanes k shape of lane t is draft;
  kept = subst (λ (n : ℕ). IsCoreAt (world_after old.shape w t) (most_after old.shape w t most) new (set lanes n lane)) e
      (turn_core old new w most lanes k shape of lane t is draft (subst (λ (n : ℕ). slice_get lanes n ≡ Some of) (sym e) got)
      (subst (λ (n : ℕ). IsLaneAt old.shape (world_after old.shape w t).history n lane lane.progress (book_after old.shape w t)) (sym e) at) settled count);
  shape = shape;
}

-- ---- finished lanes

past_end : (xs : List Command) (n : ℕ) → length xs ≤ n → at_end (drop n xs) ≡ true
past_end [] zero h = refl
past_end [] (suc n) h = refl
past_end (x ∷ xs) zero h = absurd (omega arith)
past_end (x ∷ xs) (suc n) h = past_end xs n (omega arith)

before_end : (xs : List Command) (n : ℕ) → n < length xs → at_end (drop n xs) ≡ false
before_end [] n h = absurd (omega arith)
before_end (x ∷ xs) zero h = refl
before_end (x ∷ xs) (suc n) h = before_end xs n (omega arith)

at_end-drop : (xs : List Command) (n : ℕ) → at_end (drop n xs) ≡ leb (length xs) n
at_end-drop xs n = by_test (leb (length xs) n) refl
  where
    by_test : (t : Bool) → leb (length xs) n ≡ t → at_end (drop n xs) ≡ leb (length xs) n
    by_test true e = past_end xs n (leb-true (length xs) n e) ∙ sym e
    by_test false e = before_end xs n (leb-false (length xs) n e) ∙ sym e

-- whether a lane's script is at its end
pub finished_by : (core : CoreState) (w : World) (most : ℕ → Most) (number : ℕ) (lanes : List Lane) (lane : Lane) (script : List Command) → IsCore w most core
    → lanes ≡ core.lanes → true ≡ ltb number (length lanes) → lane ≡ get_or lanes number lane → script ≡ lane.script
    → leb (length script) lane.progress.done ≡ is_finished core.shared.shape w number
finished_by core w most number lanes lane script k same below read is =
    let low : number < length lanes = ltb-true number (length lanes) (sym below) in
    let got : slice_get core.lanes number ≡ Some lane = ap (λ (xs : List Lane). slice_get xs number) (sym same)
    ∙ slice_get_read lanes (length lanes) number lane refl low read in
    let at = k.lane number lane got in
    let count = k.count in
    let long : length lanes ≡ length core.lanes = ap length same in
    let inside : number < core.shared.shape.lanes = omega arith in
    ap (λ (xs : List Command). leb (length xs) lane.progress.done) is ∙ (sym (at_end-drop lane.script lane.progress.done) ∙ (ap at_end at.left
    ∙ sym (ap (λ (b : Bool). cond b (at_end (w.books number).left) true) (lt-ltb number core.shared.shape.lanes inside))))

-- the greatest numbers of steps that the core has of a lane are those of the world's lane
pub most_by : (core : CoreState) (w : World) (most : ℕ → Most) (number : ℕ) (lanes : List Lane) (lane : Lane) → IsCore w most core
    → lanes ≡ core.lanes → true ≡ ltb number (length lanes) → lane ≡ get_or lanes number lane → lane.progress.most ≡ most number
most_by core w most number lanes lane k same below read =
    k.most_is number lane
    (ap (λ (xs : List Lane). slice_get xs number) (sym same)
    ∙ slice_get_read lanes (length lanes) number lane refl (ltb-true number (length lanes) (sym below)) read)

-- ---- turns of the core

-- a turn of a finished lane does nothing
pub empty_turns : (core : CoreState) (w : World) (most : ℕ → Most) (number : ℕ) (t : Turn) → IsCore w most core → is_finished core.shared.shape w number ≡ true
    → t ≡ turn_of number [] None None [] → Turns core w most number t core
empty_turns core w most number t k over e =
    subst (λ (b : Bool). MatchBool b (IsEmptyTurn number t × IsCore w most core × (core.shared.shape ≡ core.shared.shape)) (MakesTurn core w most number t core))
    (sym over) ((ap (λ (x : Turn). x.lane) e, ap (λ (x : Turn). x.before) e, ap (λ (x : Turn). x.step) e, ap (λ (x : Turn). x.act) e, ap (λ (x : Turn). x.after) e), k, refl)

-- a lane that isn't finished makes this turn
abbrev pub MakesUnfinished : CoreState → ℕ → Turn → CoreState → Type 0
MakesUnfinished old number turn new = (w : World) (most : ℕ → Most) → IsCoreAt w most old.shared old.lanes → is_finished old.shared.shape w number ≡ false
    → MakesTurn old w most number turn new

-- a turn of a lane that isn't finished is its next
pub turns_from : (old new : CoreState) (number : ℕ) (r : Result Turn CoreFault) → ((w : World) (most : ℕ → Most) → IsCore w most old → is_finished old.shared.shape w number ≡ false)
    → IfOk r (λ turn. MakesUnfinished old number turn new)
    → IfOk r (λ turn. (w : World) (most : ℕ → Most) → IsCore w most old → Turns old w most number turn new)
turns_from old new number (Err e) open_now made = tt
turns_from old new number (Ok turn) open_now made = λ w most k.
    subst (λ (b : Bool). MatchBool b (IsEmptyTurn number turn × IsCore w most new × (new.shared.shape ≡ old.shared.shape)) (MakesTurn old w most number turn new))
    (sym (open_now w most k)) (made w most k (open_now w most k))

-- the core keeps what some turns have made, also after this one
pub still_core : (old new : CoreState) (number : ℕ) (r : Result Turn CoreFault) (w : World) (most : ℕ → Most) → IsCore w most old
    → is_finished old.shared.shape w number ≡ false → IfOk r (λ turn. MakesUnfinished old number turn new)
    → OnErr r ((w : World) (most : ℕ → Most) → IsCoreAt w most old.shared old.lanes → IsCoreAt w most new.shared new.lanes)
    → (w : World) × (most : ℕ → Most) × IsCoreAt w most new.shared new.lanes
still_core old new number (Ok turn) w most k open_now made refused =
    (world_after old.shared.shape w turn, most_after old.shared.shape w turn most, (made w most k open_now).kept)
still_core old new number (Err e) w most k open_now made refused = (w, most, refused w most k)

-- ---- before the first turn

got_or-replicate : (n i x : ℕ) → get_or (replicate n x) i x ≡ x
got_or-replicate zero i x = refl
got_or-replicate (suc n) zero x = refl
got_or-replicate (suc n) (suc i) x = got_or-replicate n i x

first_slot : (script : List Command) (number k i : ℕ) → IsSlot script 0 number (slot_at (replicate k empty_slot) i) (register_at (replicate k empty_register) i)
first_slot script number zero i = (refl, refl)
first_slot script number (suc k) zero = (refl, refl)
first_slot script number (suc k) (suc i) = first_slot script number k i

first_lane_at : (z : Shape) (number : ℕ) (lane : Lane) → IsShape z → lane.ring.items ≡ replicate (shard_places z) 0
    → IsLaneAt z [] number lane first_progress (first_book lane.script)
first_lane_at z number lane shape ring =
    let room : length lane.ring.items ≡ shard_places z = ap length ring ∙ length-replicate (shard_places z) 0 in
    let some = (shape_bounds z shape).shard.0 in
    record {
      left = refl;
      within = omega arith;
      slots = record { count = refl; register_count = refl; each = λ n below. first_slot lane.script n 16 n };
      list = record { pages = omega arith; room = room; start = omega arith; within = omega arith };
      own = refl;
      chain = refl;
      opened = refl;
      pushed_count = refl;
      pushed = λ shard below. got_or-replicate 64 shard 0;
      last = refl;
      made = refl;
      cleared = refl;
      own_shard = λ place some. absurd (omega arith);
      shows = λ key content is e. absurd (cc e);
    }

-- the core before the first turn keeps the first world
pub first_core : (z : Shape) (scripts : List (List Command)) (shared : Shared) (lanes : List Lane) → IsShape z → z.guests ≡ 0 → z.last_generation < 2 ^ 32
    → length scripts ≡ z.lanes → shared.shape ≡ z → IsTable z first_words shared.words → length shared.published.items ≡ all_places z → shared.acts.items ≡ []
    → length lanes ≡ length scripts
    → ((number : ℕ) (lane : Lane) → slice_get lanes number ≡ Some lane
    → (slice_get scripts number ≡ Some lane.script) × (lane.ring.items ≡ replicate (shard_places z) 0) × (lane.progress ≡ first_progress))
    → IsCoreAt (first_world scripts) (λ _. no_most) shared lanes
first_core z scripts shared lanes shape none_such wide count same table published none long each = record {
  draft = record {
    kept = subst (λ (y : Shape). IsKept y (first_world scripts)) (sym same) (keeps_first z scripts shape wide);
    history = sym none ∙ sym (append-nil shared.acts.items);
    before = first_words;
    table = subst (λ (y : Shape). IsTable y first_words shared.words) (sym same) table;
    words = refl;
    places = published ∙ ap all_places (sym same);
    published = λ place content inside row. absurd (cc row);
  };
  count = long ∙ (count ∙ ap (λ (y : Shape). y.lanes) (sym same));
  lane = λ number lane got.
      let facts = each number lane got in
      subst (λ (t : Shape × Progress × List Command). IsLaneAt t.0 [] number lane t.1 (first_book t.2))
      (λ i. (sym same i, sym facts.2 i, ap script_or_none (sym facts.0) i)) (first_lane_at z number lane shape facts.1);
  settled = λ number lane got. ap (λ (p : Progress). p.own.added) (each number lane got).2;
  most_is = λ number lane got. ap (λ (p : Progress). p.most) (each number lane got).2;
  alone = ap (λ (y : Shape). y.guests) same ∙ none_such;
  bounded = λ number. (omega arith, omega arith);
  resting = first_rest shared.shape scripts;
}

-- ---- schedules

pub world-one : (z : Shape) (w : World) (ts : List Turn) (t : Turn) → world_from z w (ts ++ t ∷ []) ≡ world_after z (world_from z w ts) t
world-one z w [] t = refl
world-one z w (x ∷ ts) t = world-one z (world_after z w x) ts t

-- an entry of the schedule that names a finished lane, or none, makes no turn
pub turns_skip : (z : Shape) (w : World) (xs : List ℕ) (ts : List Turn) (lane : ℕ) → AreTurns z w xs ts → is_finished z (world_from z w ts) lane ≡ true
    → AreTurns z w (xs ++ lane ∷ []) ts
turns_skip z w [] [] lane a e = (e, tt)
turns_skip z w [] (t ∷ ts) lane a e = absurd a
turns_skip z w (x ∷ xs) [] lane a e = (a.0, turns_skip z w xs [] lane a.1 e)
turns_skip z w (x ∷ xs) (t ∷ ts) lane (inl a) e = inl (a.0, turns_skip z w xs (t ∷ ts) lane a.1 e)
turns_skip z w (x ∷ xs) (t ∷ ts) lane (inr a) e = inr (a.0, a.1, turns_skip z (world_after z w t) xs ts lane a.2 e)

-- another makes the next turn of its lane
pub turns_more : (z : Shape) (w : World) (xs : List ℕ) (ts : List Turn) (lane : ℕ) (u : Turn) → AreTurns z w xs ts → u.lane ≡ lane
    → IsNextTurn z (world_from z w ts) u → AreTurns z w (xs ++ lane ∷ []) (ts ++ u ∷ [])
turns_more z w [] [] lane u a e n = inr (e, n, tt)
turns_more z w [] (t ∷ ts) lane u a e n = absurd a
turns_more z w (x ∷ xs) [] lane u a e n = inl (a.0, turns_more z w xs [] lane u a.1 e n)
turns_more z w (x ∷ xs) (t ∷ ts) lane u (inl a) e n = inl (a.0, turns_more z w xs (t ∷ ts) lane u a.1 e n)
turns_more z w (x ∷ xs) (t ∷ ts) lane u (inr a) e n = inr (a.0, a.1, turns_more z (world_after z w t) xs ts lane u a.2 e n)

-- after one turn more the facts stand
pub stands_more : (z : Shape) (w : World) (ts : List Turn) (u : Turn) → StandsThroughout z w ts → Stands z (world_after z (world_from z w ts) u)
    → StandsThroughout z w (ts ++ u ∷ [])
stands_more z w [] u a st = (a, st)
stands_more z w (t ∷ ts) u a st = (a.0, stands_more z (world_after z w t) ts u a.1 st)

-- the facts stand of what a core keeps
pub core_stands : (z : Shape) (w : World) (most : ℕ → Most) (core : CoreState) → core.shared.shape ≡ z → IsCore w most core → Stands z w
core_stands z w most core e k = subst (λ (y : Shape). Stands y w) e (stands core.shared.shape k.alone w k.draft.kept.holds k.resting)

-- and its history is legal
pub core_legal : (z : Shape) (w : World) (most : ℕ → Most) (core : CoreState) → core.shared.shape ≡ z → IsCore w most core → IsLegal z w.history
core_legal z w most core e k = subst (λ (y : Shape). IsLegal y w.history) e k.draft.kept.holds.rule.legal

-- a run goes on over an entry that makes a turn
pub run_more : (old new : CoreState) (w : World) (schedule : List ℕ) (ts : List Turn) (number : ℕ) (t : Turn) → IsRun old.shared.shape w schedule ts old
    → is_finished old.shared.shape (world_from old.shared.shape w ts) number ≡ false
    → ((v : World) (most : ℕ → Most) → IsCore v most old → Turns old v most number t new)
    → IsRun old.shared.shape w (schedule ++ number ∷ []) (ts ++ t ∷ []) new
run_more old new w schedule ts number t so_far open_now turns =
    let z = old.shared.shape in
    let here = world_from z w ts in
    let most = so_far.2.0 in
    let made = subst (λ (b : Bool). MatchBool b (IsEmptyTurn number t × IsCore here most new × (new.shared.shape ≡ z)) (MakesTurn old here most number t new))
    open_now (turns here most so_far.2.1) in (
      turns_more z w schedule ts number t so_far.0 made.lane_is made.next,
      stands_more z w ts t so_far.1 made.stands,
      (most_after z here t most, subst (λ (v : World). IsCore v (most_after z here t most) new) (sym (world-one z w ts t)) made.kept),
    )
