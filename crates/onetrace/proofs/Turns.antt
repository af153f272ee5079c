-- A lane's next turn is decided, and so are all turns of a schedule.
use Rattle.std.proofs.Common.{◌≡◌, inl, inr, ℕ, true, false, List, [], ◌∷◌, ◌++◌, Option, Some, None, refl, ap, sym, ◌∙◌, subst}
use Rattle.std.specs.Prelude.{is_some}
use Rattle.keybits.specs.declared.shape.Shape.{Shape}
use Rattle.keybits.specs.declared.step.Step.{Step}
use Rattle.seqpool.specs.declared.act.Act.{Act}
use Rattle.seqpool.specs.Pool.{fresh, pool_after, LegalFrom, IsLegal}
use Rattle.seqpool.proofs.Growth.{legal-front, legal-rest}
use Rattle.steplaws.specs.Calls.{Aim, aim}
use Rattle.traces.specs.declared.script.Command.{Command}
use Rattle.traces.specs.declared.reply.Reply.{Reply}
use Rattle.traces.specs.declared.trace.Turn.{Turn}
use Rattle.traces.specs.Books.{Book, caller, call_of_first, next_in, next_aim, all_answered, act_list, stepped}
use Rattle.traces.specs.Following.{AreReplies}
use Rattle.traces.specs.Lawful.{World, first_world, at_end, is_finished, IsAtRest, book_after_step, StepAndReplies, IsNextTurn, AreTurns, world_after, world_from}
use Rattle.onetrace.specs.Decided.{OneTraceLaw}
use Rattle.onetrace.proofs.Replies.{one_replies}
use Rattle.onetrace.proofs.Steps.{one_step, one_act_of}

-- at a script's end there is no step
no_aim : (z : Shape) (lane : ℕ) (b : Book) (left : List Command) → at_end left ≡ true → next_in (caller z lane b) b.steps (call_of_first b left) ≡ None
no_aim z lane b [] end = refl
no_aim z lane b (command ∷ more) end = cc end

no_step : (z : Shape) (lane : ℕ) (b : Book) (a : Aim) → at_end b.left ≡ true → next_aim z lane b ≡ Some a → ⊥
no_step z lane b a end some = let bad : None ≡ Some a = sym (no_aim z lane b b.left end) ∙ some in cc bad

module _ (z : Shape) (w : World) (lane : ℕ) where
  -- before the step of a turn, or at its end if it has none, its lane is at rest
  rest_before : (b : Book) (step : Option Step) (act : Option Act) (after : List Reply) → StepAndReplies z w lane b step act after
      → IsAtRest z lane b
  rest_before b None act after is = inl is.0
  rest_before b (Some step) act after is = inr (ap is_some is.0.next)

  -- a step, its act and the replies behind it
  record AreSame (step other : Option Step) (act more : Option Act) (after later : List Reply) : Type 0 where
    steps : step ≡ other
    acts : act ≡ more
    replies : after ≡ later

  one_work : (b : Book) (step other : Option Step) (act more : Option Act) (after later : List Reply)
      → StepAndReplies z w lane b step act after → StepAndReplies z w lane b other more later
      → IsAtRest z lane (all_answered z lane (book_after_step b step act) after)
      → IsAtRest z lane (all_answered z lane (book_after_step b other more) later)
      → LegalFrom z (pool_after z w.history) (act_list act) → LegalFrom z (pool_after z w.history) (act_list more)
      → AreSame step other act more after later
  one_work b None None act more after later x y m n p q = record { steps = refl; acts = x.1 ∙ sym y.1; replies = x.2 ∙ sym y.2 }
  one_work b None (Some other) act more after later x y m n p q = absurd (no_step z lane b (aim other.kind other.word) x.0 y.0.next)
  one_work b (Some step) None act more after later x y m n p q = absurd (no_step z lane b (aim step.kind step.word) y.0 x.0.next)
  one_work b (Some step) (Some other) act more after later x y m n p q =
      let e : step ≡ other = one_step z lane w.words b step other act more x.0 y.0 in
      let f : act ≡ more = one_act_of z lane w.words b (pool_after z w.history) step other act more p q x.0 y.0 in
      let replies : AreReplies z (pool_after z (w.history ++ act_list act)) lane (stepped b step act) later =
      subst (λ (o : Option Act). AreReplies z (pool_after z (w.history ++ act_list o)) lane (stepped b step o) later) (sym f)
      (subst (λ (s : Step). AreReplies z (pool_after z (w.history ++ act_list more)) lane (stepped b s more) later) (sym e) y.1) in
      let rest : IsAtRest z lane (all_answered z lane (stepped b step act) later) =
      subst (λ (o : Option Act). IsAtRest z lane (all_answered z lane (stepped b step o) later)) (sym f)
      (subst (λ (s : Step). IsAtRest z lane (all_answered z lane (stepped b s more) later)) (sym e) n) in
      record {
        steps = ap Some e;
        acts = f;
        replies = one_replies z (pool_after z (w.history ++ act_list act)) lane after later (stepped b step act) x.1 replies m rest;
      }

-- the next turn of a lane, but for its number
abbrev NextOf : Shape → World → ℕ → Turn → Type 0
NextOf z w lane t =
    AreReplies z (pool_after z w.history) lane (w.books lane) t.before
    × StepAndReplies z w lane (all_answered z lane (w.books lane) t.before) t.step t.act t.after
    × IsAtRest z lane (all_answered z lane (book_after_step (all_answered z lane (w.books lane) t.before) t.step t.act) t.after)

next_of : (z : Shape) (w : World) (t : Turn) → IsNextTurn z w t → NextOf z w t.lane t
next_of z w t n = (n.replies, n.step, n.rest)

one_turn : (z : Shape) (w : World) (t u : Turn) → t.lane ≡ u.lane → IsNextTurn z w t → IsNextTurn z w u
    → LegalFrom z (pool_after z w.history) (act_list t.act) → LegalFrom z (pool_after z w.history) (act_list u.act) → t ≡ u
one_turn z w t u lanes m n p q =
    let lane = t.lane in
    let x = next_of z w t m in
    let y : NextOf z w lane u = subst (λ (k : ℕ). NextOf z w k u) (sym lanes) (next_of z w u n) in
    let b = all_answered z lane (w.books lane) t.before in
    let c = all_answered z lane (w.books lane) u.before in
    let before : t.before ≡ u.before = one_replies z (pool_after z w.history) lane t.before u.before (w.books lane) x.0 y.0
    (rest_before z w lane b t.step t.act t.after x.1) (rest_before z w lane c u.step u.act u.after y.1) in
    let step : StepAndReplies z w lane b u.step u.act u.after =
    subst (λ (rs : List Reply). StepAndReplies z w lane (all_answered z lane (w.books lane) rs) u.step u.act u.after) (sym before) y.1 in
    let rest : IsAtRest z lane (all_answered z lane (book_after_step b u.step u.act) u.after) =
    subst (λ (rs : List Reply). IsAtRest z lane
    (all_answered z lane (book_after_step (all_answered z lane (w.books lane) rs) u.step u.act) u.after)) (sym before) y.2 in
    let same = one_work z w lane b t.step u.step t.act u.act t.after u.after x.1 step x.2 rest p q in
    λ i. record { lane = lanes i; before = before i; step = same.steps i; act = same.acts i; after = same.replies i }

-- what is legal at the end was legal before
pub legal_before : (z : Shape) (w : World) (ts : List Turn) → IsLegal z (world_from z w ts).history → IsLegal z w.history
legal_before z w [] legal = legal
legal_before z w (t ∷ ts) legal = legal-front z fresh w.history (act_list t.act) (legal_before z (world_after z w t) ts legal)

pub legal_next : (z : Shape) (w : World) (t : Turn) (ts : List Turn) → IsLegal z (world_from z (world_after z w t) ts).history
    → LegalFrom z (pool_after z w.history) (act_list t.act)
legal_next z w t ts legal = legal-rest z fresh w.history (act_list t.act) (legal_before z (world_after z w t) ts legal)

-- a finished lane has no turn
not_finished : (z : Shape) (w : World) (lane : ℕ) (t : Turn) → is_finished z w lane ≡ true → t.lane ≡ lane → IsNextTurn z w t → ⊥
not_finished z w lane t finished e n =
    let bad : false ≡ true = sym n.unfinished ∙ ap (is_finished z w) e ∙ finished in
    cc bad

one_from : (z : Shape) (schedule : List ℕ) (w : World) (ts us : List Turn) → AreTurns z w schedule ts → AreTurns z w schedule us
    → IsLegal z (world_from z w ts).history → IsLegal z (world_from z w us).history → ts ≡ us
one_from z [] w [] [] x y p q = refl
one_from z [] w [] (u ∷ us) x y p q = absurd y
one_from z [] w (t ∷ ts) us x y p q = absurd x
one_from z (lane ∷ schedule) w [] [] x y p q = refl
one_from z (lane ∷ schedule) w [] (u ∷ us) x (inl y) p q = one_from z schedule w [] (u ∷ us) x.1 y.1 p q
one_from z (lane ∷ schedule) w [] (u ∷ us) x (inr y) p q = absurd (not_finished z w lane u x.0 y.0 y.1)
one_from z (lane ∷ schedule) w (t ∷ ts) [] (inl x) y p q = one_from z schedule w (t ∷ ts) [] x.1 y.1 p q
one_from z (lane ∷ schedule) w (t ∷ ts) [] (inr x) y p q = absurd (not_finished z w lane t y.0 x.0 x.1)
one_from z (lane ∷ schedule) w (t ∷ ts) (u ∷ us) (inl x) (inl y) p q = one_from z schedule w (t ∷ ts) (u ∷ us) x.1 y.1 p q
one_from z (lane ∷ schedule) w (t ∷ ts) (u ∷ us) (inl x) (inr y) p q = absurd (not_finished z w lane u x.0 y.0 y.1)
one_from z (lane ∷ schedule) w (t ∷ ts) (u ∷ us) (inr x) (inl y) p q = absurd (not_finished z w lane t y.0 x.0 x.1)
one_from z (lane ∷ schedule) w (t ∷ ts) (u ∷ us) (inr x) (inr y) p q =
    let e : t ≡ u = one_turn z w t u (x.0 ∙ sym y.0) x.1 y.1 (legal_next z w t ts p) (legal_next z w u us q) in
    let more : ts ≡ us = one_from z schedule (world_after z w t) ts us x.2
    (subst (λ (v : Turn). AreTurns z (world_after z w v) schedule us) (sym e) y.2) p
    (subst (λ (v : Turn). IsLegal z (world_from z (world_after z w v) us).history) (sym e) q) in
    λ i. e i ∷ more i

pub one-trace-law : OneTraceLaw
one-trace-law z scripts schedule trace other x y = one_from z schedule (first_world scripts) trace other x.turns y.turns x.legal y.legal
