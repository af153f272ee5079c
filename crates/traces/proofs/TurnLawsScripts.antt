-- A lane goes through its script, turn after turn.
use Rattle.std.proofs.Common.{◌≡◌, ◌≢◌, inl, inr, ℕ, zero, suc, Bool, true, false, cond, eqb, List, [], ◌∷◌, ◌++◌, length, map, Option, Some, None, slice_get, refl, ap, sym, ◌∙◌, subst, eq-eqb, ne_eqb, eqb-true, append_assoc, append-nil}
use Rattle.std.specs.Prelude.{flat_map, replicate}
use Rattle.std.proofs.lemmas.List.{map-append}
use Rattle.std.proofs.lemmas.Grind.{flat_map-append}
use Rattle.keybits.specs.declared.shape.Shape.{Shape}
use Rattle.keybits.specs.declared.step.Step.{Step}
use Rattle.seqpool.specs.declared.act.Act.{Act}
use Rattle.seqpool.specs.declared.act.Act.TheVariants as acts
use Rattle.seqpool.specs.Pool.{Pool, Allowed, lane_of, fresh, pool_after, LegalFrom, IsLegal}
use Rattle.seqpool.specs.Histories.{acts_of}
use Rattle.seqpool.proofs.Growth.{legal-rest, acts-mine, acts-others}
use Rattle.seqpool.proofs.Ranks.{current-key}
use Rattle.keybits.specs.Keys.{is_key}
use Rattle.keybits.specs.Steps.{Changes}
use Rattle.steplaws.specs.Facts.{Words}
use Rattle.steplaws.specs.Calls.{Call, Caller, aim, next_step, AreSteps}
use Rattle.traces.specs.declared.script.Command.{Command}
use Rattle.traces.specs.declared.script.Command.TheVariants as commands
use Rattle.traces.specs.declared.reply.Reply.{Reply}
use Rattle.traces.specs.declared.registers.Holding.{Holding}
use Rattle.traces.specs.declared.registers.Holding.TheVariants.{Empty, Filling, Reference}
use Rattle.traces.specs.declared.trace.Turn.{Turn}
use Rattle.traces.specs.Registers.{empty_register, register_at}
use Rattle.traces.specs.Books.{Book, Free, free_with, first_book, caller, holding_at, creating, call_of, call_of_first, call_under_way, next_in, next_aim, pushed_by, pushed_after, answered_first, answered, all_answered, act_list, stepped}
use Rattle.traces.specs.Following.{CommandReplies, FirstReplies, IsReply, AreReplies}
use Rattle.traces.specs.Lawful.{World, script_or_none, first_world, CallMakes, IsStep, StepAndReplies, book_before, book_after_step, book_after, world_after, world_from, IsNextTurn, AreTurns}
use Rattle.traces.specs.Making.{IsMade, AreMade, HasMade}
use Rattle.traces.specs.TurnLaws.{step_list, all_steps, all_acts, all_replies, turns_of, ActsLaw, DoneCommand, free_next, free_from, free_of, caller_after, IsDone, IsUnderWay, at_rest, within, Follows, ScriptLaw}
use Rattle.traces.proofs.TurnLawsActs.{by_turn}
use Rattle.traces.proofs.TurnLawsReads.{IsPoolAt, pool_at}
use Rattle.traces.proofs.TurnLawsRegisters.{Fits, AllFit, did}
use Rattle.traces.proofs.TurnLawsCommands.{needs_fit, call_fits, is_now, fit_after}

-- ---- lists one longer

flat_more : {A : Type 0} (f : DoneCommand → List A) (xs : List DoneCommand) (d : DoneCommand) → flat_map f xs ++ f d ≡ flat_map f (xs ++ d ∷ []) ++ []
flat_more f xs d =
    ap (λ r. flat_map f xs ++ r) (sym (append-nil (f d))) ∙ (sym (flat_map-append f xs (d ∷ [])) ∙ sym (append-nil (flat_map f (xs ++ d ∷ []))))

steps_more : (c : Caller) (call : Call) (so_far steps : List Step) (step : Step) → AreSteps c call so_far steps
    → next_step c call (so_far ++ steps) ≡ Some (aim step.kind step.word) → AreSteps c call so_far (steps ++ step ∷ [])
steps_more c call so_far [] step are next = (ap (next_step c call) (sym (append-nil so_far)) ∙ next, tt)
steps_more c call so_far (x ∷ xs) step are next =
    (are.0, steps_more c call (so_far ++ x ∷ []) xs step are.1 (ap (next_step c call) (append_assoc so_far (x ∷ []) xs) ∙ next))

acts_more : (c : Caller) (call : Call) (steps : List Step) (made : List Act) (step : Step) (act : Option Act) → AreMade c call steps made → IsMade c call step act
    → AreMade c call (steps ++ step ∷ []) (made ++ act_list act)
acts_more c call [] made step act none one =
    (act, [], one, ap (λ (r : List Act). r ++ act_list act) none ∙ sym (append-nil (act_list act)), refl)
acts_more c call (x ∷ xs) made step act (first, rest, is_one, is, later) one = (
  first,
  rest ++ act_list act,
  is_one,
  ap (λ (r : List Act). r ++ act_list act) is ∙ append_assoc (act_list first) rest (act_list act),
  acts_more c call xs rest step act later one,
)

-- what an act reclaims is a key of the shape
abbrev Reclaims : Shape → Option Act → Type 0
Reclaims z act = (lane key : ℕ) → act ≡ Some (acts.Reclaim lane key) → is_key z key ≡ true

legal_reclaims : (z : Shape) (P : Pool) (act : Option Act) (more : List Act) → LegalFrom z P (act_list act ++ more) → Reclaims z act
legal_reclaims z P None more legal lane key is = absurd (cc is)
legal_reclaims z P (Some act) more legal lane key is =
    let same : act ≡ acts.Reclaim lane key = cc is in
    let ok : Allowed z P (acts.Reclaim lane key) = subst (Allowed z P) same legal.1 in
    (current-key z P key ok.0).0

made_more : (c : Caller) (call : Option Call) (steps : List Step) (made : List Act) (step : Step) (act : Option Act) (links : ℕ → ℕ) → HasMade c call steps made
    → next_in c steps call ≡ Some (aim step.kind step.word) → Changes c.shape.last_generation step.kind step.before step.after
    → CallMakes c call links step act → Reclaims c.shape act → HasMade c call (steps ++ step ∷ []) (made ++ act_list act)
made_more c None steps made step act links has next changes makes reclaims = absurd makes
made_more c (Some call) steps made step act links has next changes makes reclaims = (
  steps_more c call [] steps step has.0 next,
  acts_more c call steps made step act has.1 (record { changes = changes; links = links; makes = makes; reclaims = reclaims }),
)

fresh_made : (c : Caller) (call : Option Call) → HasMade c call [] []
fresh_made c None = (refl, refl)
fresh_made c (Some call) = (tt, refl)

-- a step leaves the call that is under way
module _ (b : Book) (step : Step) (act : Option Act) where
  creating_same : (h : Holding) → creating (stepped b step act) h ≡ creating b h
  creating_same Empty = refl
  creating_same (Filling key content) = refl
  creating_same (Reference key content) = refl

  call_same : (command : Command) → call_of (stepped b step act) command ≡ call_of b command
  call_same (commands.Create r) = creating_same (holding_at b r.number)
  call_same (commands.Write r bytes) = refl
  call_same (commands.Publish r) = refl
  call_same (commands.Downgrade r) = refl
  call_same (commands.Get r operand) = refl
  call_same (commands.Read r) = refl
  call_same (commands.Release r) = refl
  call_same (commands.Clear operand) = refl

  first_same : (left : List Command) → call_of_first (stepped b step act) left ≡ call_of_first b left
  first_same [] = refl
  first_same (command ∷ more) = call_same command

-- each of these commands is done, after those before it
AreDone : Shape → List Act → ℕ → List DoneCommand → List DoneCommand → Type 0
AreDone z history lane older [] = Unit {0}
AreDone z history lane older (d ∷ more) = IsDone z history lane older d × AreDone z history lane (older ++ d ∷ []) more

done_more : (z : Shape) (history : List Act) (lane : ℕ) (older dones : List DoneCommand) (d : DoneCommand) → AreDone z history lane older dones
    → IsDone z history lane (older ++ dones) d → AreDone z history lane older (dones ++ d ∷ [])
unfolding AreDone
done_more z history lane older [] d are one = (subst (λ (xs : List DoneCommand). IsDone z history lane xs d) (append-nil older) one, tt)
done_more z history lane older (x ∷ xs) d are one =
    (are.0, done_more z history lane (older ++ x ∷ []) xs d are.1 (subst (λ (ys : List DoneCommand). IsDone z history lane ys d) (sym (append_assoc older (x ∷ []) xs)) one))

done_at : (z : Shape) (history : List Act) (lane : ℕ) (older before newer : List DoneCommand) (d : DoneCommand)
    → AreDone z history lane older (before ++ d ∷ newer) → IsDone z history lane (older ++ before) d
unfolding AreDone
done_at z history lane older [] newer d are = subst (λ (xs : List DoneCommand). IsDone z history lane xs d) (sym (append-nil older)) are.0
done_at z history lane older (x ∷ xs) newer d are =
    subst (λ (ys : List DoneCommand). IsDone z history lane ys d) (append_assoc older (x ∷ []) xs) (done_at z history lane (older ++ x ∷ []) xs newer d are.1)

-- ---- a lane on its way

-- a lane that has this book has given these replies and made these steps and acts
record Went (z : Shape) (history : List Act) (lane : ℕ) (script : List Command) (given : List Reply) (stepping : List Step) (acted : List Act) (b : Book) : Type 0 where
  dones : List DoneCommand
  script_is : script ≡ map (λ (d : DoneCommand). d.command) dones ++ b.left
  replies_are : given ≡ map (λ (d : DoneCommand). d.reply) dones
  steps_are : stepping ≡ flat_map (λ (d : DoneCommand). d.steps) dones ++ b.steps
  acts_are : acted ≡ flat_map (λ (d : DoneCommand). d.acts) dones ++ b.acts
  each : AreDone z history lane [] dones
  call : HasMade (caller z lane b) (call_under_way b) b.steps b.acts
  pushed_is : b.pushed ≡ pushed_after (flat_map (λ (d : DoneCommand). d.steps) dones) (λ _. 0)
  free_is : free_of z lane dones ≡ free_with b.own b.chain b.opened
  fit : AllFit dones b.registers
  sixteen : length b.registers ≡ 16

pushed_append : (xs ys : List Step) (pushed : ℕ → ℕ) → pushed_after (xs ++ ys) pushed ≡ pushed_after ys (pushed_after xs pushed)
pushed_append [] ys pushed = refl
pushed_append (x ∷ xs) ys pushed = pushed_append xs ys (pushed_by x x.kind x.word pushed)

free_more : (z : Shape) (lane : ℕ) (free : Free) (dones : List DoneCommand) (d : DoneCommand)
    → free_from z lane free (dones ++ d ∷ []) ≡ free_next z lane (free_from z lane free dones) d
free_more z lane free [] d = refl
free_more z lane free (x ∷ xs) d = free_more z lane (free_next z lane free x) xs d

-- a lane's acts after one more of its own, and after one of another lane
acts_after : (lane : ℕ) (history own : List Act) (act : Option Act) → ((a : Act) → act ≡ Some a → lane_of a ≡ lane) → acts_of lane history ≡ own
    → acts_of lane (history ++ act_list act) ≡ own ++ act_list act
acts_after lane history own None by is = ap (acts_of lane) (append-nil history) ∙ (is ∙ sym (append-nil own))
acts_after lane history own (Some a) by is = acts-mine lane history a (by a refl) ∙ ap (λ (xs : List Act). xs ++ a ∷ []) is

acts_beside : (lane other : ℕ) (history own : List Act) (act : Option Act) → other ≢ lane → ((a : Act) → act ≡ Some a → lane_of a ≡ other)
    → acts_of lane history ≡ own → acts_of lane (history ++ act_list act) ≡ own
acts_beside lane other history own None apart by is = ap (acts_of lane) (append-nil history) ∙ is
acts_beside lane other history own (Some a) apart by is = acts-others lane history a (λ (e : lane_of a ≡ lane). apart (sym (by a refl) ∙ e)) ∙ is

same_caller : (z : Shape) (lane : ℕ) (b : Book) (older : List DoneCommand) → b.pushed ≡ pushed_after (flat_map (λ (d : DoneCommand). d.steps) older) (λ _. 0)
    → caller z lane b ≡ caller_after z lane older
same_caller z lane b older e i = record { shape = z; lane = lane; pushed = e i }

module _ (z : Shape) (history : List Act) (lane : ℕ) (script : List Command) where
  -- a reply to the first command that is left
  command_replied : (R : List Reply) (S : List Step) (A : List Act) (b : Book) (reply : Reply) (P : Pool) (command : Command) (more : List Command)
      → IsPoolAt z history lane A P → Went z history lane script R S A b → b.left ≡ command ∷ more → next_aim z lane b ≡ None → CommandReplies z P lane b command reply
      → Went z history lane script (R ++ reply ∷ []) S A (answered_first z lane b (command ∷ more) reply)
  command_replied R S A b reply P command more seen w left next says =
      let c = caller z lane b in
      let has : HasMade c (call_of b command) b.steps b.acts = subst (λ (l : List Command). HasMade c (call_of_first b l) b.steps b.acts) left w.call in
      let last : next_in c b.steps (call_of b command) ≡ None = ap (λ (l : List Command). next_in c b.steps (call_of_first b l)) (sym left) ∙ next in
      let d = did command b.steps b.acts reply in
      let fits = fit_after z lane P w.dones b w.fit w.sixteen command reply has says in
      let later = answered_first z lane b (command ∷ more) reply in
      record {
        dones = w.dones ++ d ∷ [];
        script_is = w.script_is ∙ (ap (λ (l : List Command). map (λ (d : DoneCommand). d.command) w.dones ++ l) left
            ∙ (sym (append_assoc (map (λ (d : DoneCommand). d.command) w.dones) (command ∷ []) more)
            ∙ ap (λ (l : List Command). l ++ more) (sym (map-append (λ (d : DoneCommand). d.command) w.dones (d ∷ [])))));
        replies_are = ap (λ (r : List Reply). r ++ reply ∷ []) w.replies_are ∙ sym (map-append (λ (d : DoneCommand). d.reply) w.dones (d ∷ []));
        steps_are = w.steps_are ∙ flat_more (λ (d : DoneCommand). d.steps) w.dones d;
        acts_are = w.acts_are ∙ flat_more (λ (d : DoneCommand). d.acts) w.dones d;
        each = done_more z history lane [] w.dones d w.each (is_now w.dones b w.fit z history lane P (subst (λ (own : List Act). IsPoolAt z history lane own P) w.acts_are seen) w.free_is reply (same_caller z lane b w.dones w.pushed_is) command has last says);
        call = fresh_made (caller z lane later) (call_of_first later more);
        pushed_is = ap (pushed_after b.steps) w.pushed_is ∙ (sym (pushed_append (flat_map (λ (d : DoneCommand). d.steps) w.dones) b.steps (λ _. 0))
            ∙ ap (λ (steps : List Step). pushed_after steps (λ _. 0))
            (flat_more (λ (d : DoneCommand). d.steps) w.dones d ∙ append-nil (flat_map (λ (d : DoneCommand). d.steps) (w.dones ++ d ∷ []))));
        free_is = free_more z lane (free_with [] [] 0) w.dones d ∙ ap (λ (free : Free). free_next z lane free d) w.free_is;
        fit = fits.0;
        sixteen = fits.1;
      }

  went_reply : (R : List Reply) (S : List Step) (A : List Act) (b : Book) (reply : Reply) (P : Pool)
      → IsPoolAt z history lane A P → Went z history lane script R S A b → IsReply z P lane b reply → Went z history lane script (R ++ reply ∷ []) S A (answered z lane b reply)
  went_reply R S A b reply P seen w replied = by_left b.left refl replied.1
    where
      by_left : (left : List Command) → b.left ≡ left → FirstReplies z P lane b left reply → Went z history lane script (R ++ reply ∷ []) S A (answered z lane b reply)
      by_left [] e says = absurd says
      by_left (command ∷ more) e says =
          subst (λ (l : List Command). Went z history lane script (R ++ reply ∷ []) S A (answered_first z lane b l reply)) (sym e)
          (command_replied R S A b reply P command more seen w e replied.0 says)

  went_replies : (R : List Reply) (S : List Step) (A : List Act) (b : Book) (replies : List Reply) (P : Pool)
      → IsPoolAt z history lane A P → Went z history lane script R S A b → AreReplies z P lane b replies
      → Went z history lane script (R ++ replies) S A (all_answered z lane b replies)
  went_replies R S A b [] P seen w replied = subst (λ (r : List Reply). Went z history lane script r S A b) (sym (append-nil R)) w
  went_replies R S A b (reply ∷ more) P seen w replied =
      subst (λ (r : List Reply). Went z history lane script r S A (all_answered z lane (answered z lane b reply) more)) (append_assoc R (reply ∷ []) more)
      (went_replies (R ++ reply ∷ []) S A (answered z lane b reply) more P seen (went_reply R S A b reply P seen w replied.0) replied.1)

  -- a step of the call that is under way
  went_step : (R : List Reply) (S : List Step) (A : List Act) (b : Book) (words : Words) (step : Step) (act : Option Act)
      → Went z history lane script R S A b → IsStep z lane words b step act → Reclaims z act
      → Went z history lane script R (S ++ step ∷ []) (A ++ act_list act) (stepped b step act)
  went_step R S A b words step act w is reclaims = record {
    dones = w.dones;
    script_is = w.script_is;
    replies_are = w.replies_are;
    steps_are = ap (λ (r : List Step). r ++ step ∷ []) w.steps_are ∙ append_assoc (flat_map (λ (d : DoneCommand). d.steps) w.dones) b.steps (step ∷ []);
    acts_are = ap (λ (r : List Act). r ++ act_list act) w.acts_are ∙ append_assoc (flat_map (λ (d : DoneCommand). d.acts) w.dones) b.acts (act_list act);
    each = w.each;
    call = subst (λ (o : Option Call). HasMade (caller z lane b) o (b.steps ++ step ∷ []) (b.acts ++ act_list act)) (sym (first_same b step act b.left))
        (made_more (caller z lane b) (call_under_way b) b.steps b.acts step act words.link w.call is.next is.changes is.makes reclaims);
    pushed_is = w.pushed_is;
    free_is = w.free_is;
    fit = w.fit;
    sixteen = w.sixteen;
  }

  -- a turn: replies, a step, replies
  rest_of_turn : (R : List Reply) (S : List Step) (A : List Act) (w : World) (b : Book) (before after : List Reply) (step : Option Step) (act : Option Act) (more : List Act)
      → IsLegal z history → w.history ++ (act_list act ++ more) ≡ history → acts_of lane w.history ≡ A
      → Went z history lane script (R ++ before) S A b → StepAndReplies z w lane b step act after
      → Went z history lane script (R ++ (before ++ after)) (S ++ step_list step) (A ++ act_list act) (all_answered z lane (book_after_step b step act) after)
  rest_of_turn R S A w b before after None act more legal is mine went (ended, no_act, no_after) =
      subst (λ (t : Option Act × List Reply). Went z history lane script (R ++ (before ++ t.1)) (S ++ []) (A ++ act_list t.0) (all_answered z lane b t.1))
      (λ i. (sym no_act i, sym no_after i))
      (subst (λ (t : List Reply × List Step × List Act). Went z history lane script (R ++ t.0) t.1 t.2 b)
      (λ i. (sym (append-nil before) i, sym (append-nil S) i, sym (append-nil A) i)) went)
  rest_of_turn R S A w b before after (Some step) act more legal is mine went (stepping, replied) =
      subst (λ (r : List Reply). Went z history lane script r (S ++ step ∷ []) (A ++ act_list act) (all_answered z lane (stepped b step act) after))
      (append_assoc R before after)
      (went_replies (R ++ before) (S ++ step ∷ []) (A ++ act_list act) (stepped b step act) after (pool_after z (w.history ++ act_list act))
      (pool_at z history (w.history ++ act_list act) more lane (A ++ act_list act) (append_assoc w.history (act_list act) more ∙ is) legal
      (acts_after lane w.history A act (λ (a : Act) (e : act ≡ Some a). by_turn z w lane b (Some step) act after a (stepping, replied) e) mine))
      (went_step (R ++ before) S A b w.words step act went stepping
      (legal_reclaims z (pool_after z w.history) act more (legal-rest z fresh w.history (act_list act ++ more) (subst (IsLegal z) (sym is) legal)))) replied)

  -- what the lane has begun
  module _ (dones : List DoneCommand) (b : Book) (fit : AllFit dones b.registers) (free : free_of z lane dones ≡ free_with b.own b.chain b.opened)
      (same : caller z lane b ≡ caller_after z lane dones) where
    begun_call : (command : Command) (more : List Command) (o : Option Call) → call_of b command ≡ o → HasMade (caller z lane b) o b.steps b.acts
        → IsUnderWay z lane dones (command ∷ more) b.steps b.acts
    begun_call command more None e made = at_rest made.0 made.1
    begun_call command more (Some call) e made =
        within command more call refl (needs_fit dones b fit command call e) (call_fits dones b fit z lane free command call e) (subst (λ (c : Caller). AreSteps c call [] b.steps × AreMade c call b.steps b.acts) same made)

    begun : (left : List Command) → HasMade (caller z lane b) (call_of_first b left) b.steps b.acts → IsUnderWay z lane dones left b.steps b.acts
    begun [] has = at_rest has.0 has.1
    begun (command ∷ more) has = begun_call command more (call_of b command) refl has

module _ (z : Shape) (history : List Act) (legal : IsLegal z history) (script : List Command) where
  whole_turn : (R : List Reply) (S : List Step) (A : List Act) (w : World) (t : Turn) (more : List Act) → w.history ++ (act_list t.act ++ more) ≡ history
      → acts_of t.lane w.history ≡ A → Went z history t.lane script R S A (w.books t.lane) → IsNextTurn z w t
      → Went z history t.lane script (R ++ (t.before ++ t.after)) (S ++ step_list t.step) (A ++ act_list t.act) (book_after z w t)
  whole_turn R S A w t more is mine went next =
      rest_of_turn z history t.lane script R S A w (book_before z w t) t.before t.after t.step t.act more legal is mine
      (went_replies z history t.lane script R S A (w.books t.lane) t.before (pool_after z w.history)
      (pool_at z history w.history (act_list t.act ++ more) t.lane A is legal mine) went next.replies) next.step

  module _ (lane : ℕ) where
    -- what the lane has done at the end
    abbrev Ends : List Reply → List Step → List Act → Type 0
    Ends R S A = (b : Book) × Went z history lane script R S A b

    abbrev EndsWith : List Reply → List Step → List Act → List Turn → Type 0
    EndsWith R S A turns = Ends (R ++ all_replies turns) (S ++ all_steps turns) (A ++ all_acts turns)

    -- a turn of the lane, and one of another
    own_turn : (R : List Reply) (S : List Step) (A : List Act) (w : World) (t : Turn) (more : List Act) → t.lane ≡ lane → w.history ++ (act_list t.act ++ more) ≡ history
        → acts_of lane w.history ≡ A → Went z history lane script R S A (w.books lane) → IsNextTurn z w t
        → Went z history lane script (R ++ (t.before ++ t.after)) (S ++ step_list t.step) (A ++ act_list t.act) ((world_after z w t).books lane)
    own_turn R S A w t more same is mine went next =
        subst (λ (x : Bool). Went z history lane script (R ++ (t.before ++ t.after)) (S ++ step_list t.step) (A ++ act_list t.act) (cond x (book_after z w t) (w.books lane)))
        (sym (eq-eqb lane t.lane (sym same)))
        (subst (λ (n : ℕ). Went z history n script (R ++ (t.before ++ t.after)) (S ++ step_list t.step) (A ++ act_list t.act) (book_after z w t)) same
        (whole_turn R S A w t more is (subst (λ (n : ℕ). acts_of n w.history ≡ A) (sym same) mine) (subst (λ (n : ℕ). Went z history n script R S A (w.books n)) (sym same) went) next))

    other_turn : (R : List Reply) (S : List Step) (A : List Act) (w : World) (t : Turn) → t.lane ≢ lane
        → Went z history lane script R S A (w.books lane) → Went z history lane script R S A ((world_after z w t).books lane)
    other_turn R S A w t other went =
        subst (λ (x : Bool). Went z history lane script R S A (cond x (book_after z w t) (w.books lane))) (sym (ne_eqb lane t.lane (λ e. other (sym e)))) went

    by_lane : (R : List Reply) (S : List Step) (A : List Act) (t : Turn) (ts : List Turn) (b : Bool) → eqb t.lane lane ≡ b
        → (t.lane ≡ lane → EndsWith (R ++ (t.before ++ t.after)) (S ++ step_list t.step) (A ++ act_list t.act) (turns_of lane ts))
        → (t.lane ≢ lane → EndsWith R S A (turns_of lane ts)) → EndsWith R S A (turns_of lane (t ∷ ts))
    by_lane R S A t ts true e mine other =
        subst (λ (b : Bool). EndsWith R S A (cond b (t ∷ turns_of lane ts) (turns_of lane ts))) (sym e)
        (subst (λ (y : List Reply × List Step × List Act). Ends y.0 y.1 y.2)
        (λ i. (
          append_assoc R (t.before ++ t.after) (all_replies (turns_of lane ts)) i,
          append_assoc S (step_list t.step) (all_steps (turns_of lane ts)) i,
          append_assoc A (act_list t.act) (all_acts (turns_of lane ts)) i,
        ))
        (mine (eqb-true t.lane lane e)))
    by_lane R S A t ts false e mine other =
        subst (λ (b : Bool). EndsWith R S A (cond b (t ∷ turns_of lane ts) (turns_of lane ts))) (sym e)
        (other (λ same. let bad : true ≡ false = sym (eq-eqb t.lane lane same) ∙ e in absurd (cc bad)))

    goes : (R : List Reply) (S : List Step) (A : List Act) (w : World) (schedule : List ℕ) (trace : List Turn) → Went z history lane script R S A (w.books lane)
        → acts_of lane w.history ≡ A → AreTurns z w schedule trace → w.history ++ all_acts trace ≡ history → EndsWith R S A (turns_of lane trace)
    goes R S A w [] [] went mine are is = (
      w.books lane,
      subst (λ (t : List Reply × List Step × List Act). Went z history lane script t.0 t.1 t.2 (w.books lane)) (λ i. (sym (append-nil R) i, sym (append-nil S) i, sym (append-nil A) i)) went,
    )
    goes R S A w [] (t ∷ ts) went mine are is = absurd are
    goes R S A w (x ∷ xs) [] went mine are is = goes R S A w xs [] went mine are.1 is
    goes R S A w (x ∷ xs) (t ∷ ts) went mine (inl are) is = goes R S A w xs (t ∷ ts) went mine are.1 is
    goes R S A w (x ∷ xs) (t ∷ ts) went mine (inr are) is =
        let by : (a : Act) → t.act ≡ Some a → lane_of a ≡ t.lane = λ a e. by_turn z w t.lane (book_before z w t) t.step t.act t.after a are.1.step e in
        let later : (world_after z w t).history ++ all_acts ts ≡ history = append_assoc w.history (act_list t.act) (all_acts ts) ∙ is in
        by_lane R S A t ts (eqb t.lane lane) refl
        (λ same. goes (R ++ (t.before ++ t.after)) (S ++ step_list t.step) (A ++ act_list t.act) (world_after z w t) xs ts
        (own_turn R S A w t (all_acts ts) same is mine went are.1)
        (acts_after lane w.history A t.act (λ (a : Act) (e : t.act ≡ Some a). by a e ∙ same) mine) are.2 later)
        (λ other. goes R S A (world_after z w t) xs ts (other_turn R S A w t other went)
        (acts_beside lane t.lane w.history A t.act other by mine) are.2 later)

-- ---- the laws

all_empty : (k n m : ℕ) → Fits [] m (register_at (replicate k empty_register) n)
all_empty zero n m = (tt, tt, refl)
all_empty (suc k) zero m = (tt, tt, refl)
all_empty (suc k) (suc n) m = all_empty k n m

went_nowhere : (z : Shape) (history : List Act) (lane : ℕ) (script : List Command) → Went z history lane script [] [] [] (first_book script)
unfolding AreDone
went_nowhere z history lane script = record {
  dones = [];
  script_is = refl;
  replies_are = refl;
  steps_are = refl;
  acts_are = refl;
  each = tt;
  call = fresh_made (caller z lane (first_book script)) (call_of_first (first_book script) script);
  pushed_is = refl;
  free_is = refl;
  fit = λ n inside. all_empty 16 n n;
  sixteen = refl;
}

world_history : (z : Shape) (w : World) (trace : List Turn) → (world_from z w trace).history ≡ w.history ++ all_acts trace
world_history z w [] = sym (append-nil w.history)
world_history z w (t ∷ ts) = world_history z (world_after z w t) ts ∙ append_assoc w.history (act_list t.act) (all_acts ts)

pub acts-law : ActsLaw
acts-law z scripts schedule trace lawful = subst (IsLegal z) (world_history z (first_world scripts) trace) lawful.legal

follows : (z : Shape) (lane : ℕ) (script : List Command) (trace : List Turn) (b : Book)
    → Went z (all_acts trace) lane script (all_replies (turns_of lane trace)) (all_steps (turns_of lane trace)) (all_acts (turns_of lane trace)) b → Follows z lane script trace
follows z lane script trace b w = record {
  dones = w.dones;
  left = b.left;
  steps = b.steps;
  acts = b.acts;
  script_is = w.script_is;
  replies_are = w.replies_are;
  steps_are = w.steps_are;
  acts_are = w.acts_are;
  done = λ older newer d is. done_at z (all_acts trace) lane [] older newer d (subst (AreDone z (all_acts trace) lane []) is w.each);
  under_way = begun z (all_acts trace) lane script w.dones b w.fit w.free_is (same_caller z lane b w.dones w.pushed_is) b.left w.call;
}

pub script-law : ScriptLaw
script-law z scripts schedule trace lawful lane =
    let script = script_or_none (slice_get scripts lane) in
    let end = goes z (all_acts trace) (acts-law z scripts schedule trace lawful) script lane [] [] [] (first_world scripts) schedule trace
    (went_nowhere z (all_acts trace) lane script) refl lawful.turns refl in
    follows z lane script trace end.0 end.1
