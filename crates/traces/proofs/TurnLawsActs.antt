-- The acts of a lane's turns are the lane's.
use Rattle.std.proofs.Common.{◌≡◌, inl, inr, ℕ, Bool, true, false, cond, eqb, List, [], ◌∷◌, ◌++◌, Option, Some, None, refl, ap, sym, ◌∙◌}
use mathlib.Core.Logic.{dite}
use native.Mathlib.Decide.{ℕ_discrete}
use Rattle.keybits.specs.declared.shape.Shape.{Shape}
use Rattle.keybits.specs.declared.step.Kind.{Kind}
use Rattle.keybits.specs.declared.step.Kind.TheVariants as kinds
use Rattle.keybits.specs.declared.step.Word.{Word}
use Rattle.keybits.specs.declared.step.Step.{Step}
use Rattle.keybits.specs.Keys.{key_number, place_of}
use Rattle.keybits.specs.Words.{state_in}
use Rattle.seqpool.specs.declared.act.Act.{Act}
use Rattle.seqpool.specs.declared.act.Act.TheVariants as acts
use Rattle.seqpool.specs.Pool.{lane_of}
use Rattle.seqpool.specs.Histories.{acts_of}
use Rattle.steplaws.specs.Calls.{Call, Publishing, Getting, Releasing, Clearing, Creating, Caller, is_hit, is_claimed, place_in, key_in, EnterMakes, LeaveMakes, PublishMakes, MarkMakes, KindMakes}
use Rattle.traces.specs.declared.reply.Reply.{Reply}
use Rattle.traces.specs.declared.trace.Turn.{Turn}
use Rattle.traces.specs.Books.{Book, caller, call_under_way, act_list}
use Rattle.traces.specs.Lawful.{World, first_world, CallMakes, StepAndReplies, book_before, world_after, AreTurns}
use Rattle.traces.specs.TurnLaws.{all_acts, turns_of, LaneActsLaw}

lane_in : Option Act → ℕ
lane_in None = 0
lane_in (Some act) = lane_of act

-- what is known to be an act of this lane
one_act : (act known : Act) (made : Option Act) (n : ℕ) → made ≡ Some act → made ≡ Some known → lane_of known ≡ n → lane_of act ≡ n
unfolding lane_in
one_act act known made n e is by = ap lane_in (sym e ∙ is) ∙ by

no_act : (act : Act) (made : Option Act) (n : ℕ) → made ≡ Some act → made ≡ None → lane_of act ≡ n
no_act act made n e is = let bad : None ≡ Some act = sym is ∙ e in absurd (cc bad)

act_or_none : (b : Bool) (act known : Act) (made : Option Act) (n : ℕ) → made ≡ Some act → made ≡ cond b (Some known) None → lane_of known ≡ n → lane_of act ≡ n
act_or_none true act known made n e is by = one_act act known made n e is by
act_or_none false act known made n e is by = no_act act made n e is

none_or_act : (b : Bool) (act known : Act) (made : Option Act) (n : ℕ) → made ≡ Some act → made ≡ cond b None (Some known) → lane_of known ≡ n → lane_of act ≡ n
none_or_act true act known made n e is by = no_act act made n e is
none_or_act false act known made n e is by = one_act act known made n e is by

module _ (c : Caller) (act : Act) (made : Option Act) (e : made ≡ Some act) where
  by_enter : (call : Call) (word : ℕ) → EnterMakes c call word made → lane_of act ≡ c.lane
  by_enter (Publishing key content with_ref) word makes = absurd makes
  by_enter (Getting key) word makes = one_act act (acts.Get c.lane key makes.0) made c.lane e makes.2 refl
  by_enter (Releasing key) word makes = absurd makes
  by_enter (Clearing key) word makes = none_or_act (is_hit key word) act (acts.Clear c.lane key false) made c.lane e makes refl
  by_enter (Creating own chain opened) word makes = absurd makes

  by_leave : (call : Call) → LeaveMakes c call made → lane_of act ≡ c.lane
  by_leave (Publishing key content with_ref) makes = absurd makes
  by_leave (Getting key) makes = no_act act made c.lane e makes
  by_leave (Releasing key) makes = one_act act (acts.Release c.lane key) made c.lane e makes refl
  by_leave (Clearing key) makes = no_act act made c.lane e makes
  by_leave (Creating own chain opened) makes = absurd makes

  by_publish : (call : Call) → PublishMakes c call made → lane_of act ≡ c.lane
  by_publish (Publishing key content with_ref) makes = one_act act (acts.Publish c.lane key content with_ref) made c.lane e makes refl
  by_publish (Getting key) makes = absurd makes
  by_publish (Releasing key) makes = absurd makes
  by_publish (Clearing key) makes = absurd makes
  by_publish (Creating own chain opened) makes = absurd makes

  by_mark : (call : Call) (word : ℕ) → MarkMakes c call word made → lane_of act ≡ c.lane
  by_mark (Publishing key content with_ref) word makes = absurd makes
  by_mark (Getting key) word makes = absurd makes
  by_mark (Releasing key) word makes = absurd makes
  by_mark (Clearing key) word makes = one_act act (acts.Clear c.lane key (eqb (state_in word) 1)) made c.lane e makes refl
  by_mark (Creating own chain opened) word makes = absurd makes

  -- the act of a step is the caller's
  by_kind : (kind : Kind) (call : Call) (links : ℕ → ℕ) (word : Word) (before : ℕ) → KindMakes kind c call links word before made → lane_of act ≡ c.lane
  by_kind kinds.Enter call links word before makes = by_enter call before makes
  by_kind kinds.Leave call links word before makes = by_leave call makes
  by_kind (kinds.Publish with_ref) call links word before makes = by_publish call makes
  by_kind kinds.Mark call links word before makes = by_mark call before makes
  by_kind (kinds.Claim generation) call links word before makes =
      act_or_none (is_claimed generation before) act (acts.Reclaim c.lane (key_number c.shape.tag (place_in word) generation)) made c.lane e makes refl
  by_kind (kinds.Link expected) call links word before makes = no_act act made c.lane e makes
  by_kind (kinds.Push expected link) call links word before makes =
      act_or_none (eqb before expected) act (acts.Home c.lane (place_of (key_in call))) made c.lane e makes refl
  by_kind kinds.Take call links word before makes = dite (ℕ_discrete before 0)
      (λ empty. no_act act made c.lane e (makes.0 empty))
      (λ full. let found = makes.1 full in one_act act (acts.Collect c.lane found.0) made c.lane e found.2 refl)
  by_kind kinds.Follow call links word before makes = no_act act made c.lane e makes

  by_call : (call : Option Call) (links : ℕ → ℕ) (step : Step) → CallMakes c call links step made → lane_of act ≡ c.lane
  by_call (Some call) links step makes = by_kind step.kind call links step.word step.before makes
  by_call None links step makes = absurd makes

-- ---- the acts of turns

pub by_turn : (z : Shape) (w : World) (lane : ℕ) (b : Book) (step : Option Step) (made : Option Act) (after : List Reply) (act : Act)
    → StepAndReplies z w lane b step made after → made ≡ Some act → lane_of act ≡ lane
by_turn z w lane b None made after act h e = no_act act made lane e h.1
by_turn z w lane b (Some step) made after act h e = by_call (caller z lane b) act made e (call_under_way b) w.words.link step h.0.makes

same_either_way : (b : Bool) (xs : List Act) → xs ≡ cond b xs xs
same_either_way true xs = refl
same_either_way false xs = refl

acts_either_way : (b : Bool) (t : Turn) (ts : List Turn) → cond b (act_list t.act ++ all_acts ts) (all_acts ts) ≡ all_acts (cond b (t ∷ ts) ts)
acts_either_way true t ts = refl
acts_either_way false t ts = refl

one_turn : (made : Option Act) (n lane : ℕ) (rest own : List Act) → ((act : Act) → made ≡ Some act → lane_of act ≡ n) → acts_of lane rest ≡ own
    → acts_of lane (act_list made ++ rest) ≡ cond (eqb n lane) (act_list made ++ own) own
one_turn None n lane rest own by is = is ∙ same_either_way (eqb n lane) own
one_turn (Some act) n lane rest own by is = λ i. cond (eqb (by act refl i) lane) (act ∷ is i) (is i)

lane_acts : (z : Shape) (w : World) (schedule : List ℕ) (trace : List Turn) (lane : ℕ) → AreTurns z w schedule trace
    → acts_of lane (all_acts trace) ≡ all_acts (turns_of lane trace)
lane_acts z w [] [] lane are = refl
lane_acts z w [] (t ∷ ts) lane are = absurd are
lane_acts z w (x ∷ xs) [] lane are = refl
lane_acts z w (x ∷ xs) (t ∷ ts) lane (inl are) = lane_acts z w xs (t ∷ ts) lane are.1
lane_acts z w (x ∷ xs) (t ∷ ts) lane (inr are) =
    one_turn t.act t.lane lane (all_acts ts) (all_acts (turns_of lane ts))
    (λ act e. by_turn z w t.lane (book_before z w t) t.step t.act t.after act are.1.step e)
    (lane_acts z (world_after z w t) xs ts lane are.2)
    ∙ acts_either_way (eqb t.lane lane) t (turns_of lane ts)

pub lane-acts-law : LaneActsLaw
lane-acts-law z scripts schedule trace lawful lane = lane_acts z (first_world scripts) schedule trace lane lawful.turns
