-- Where the search begins, and what it has told at its end.
use Rattle.std.proofs.Common.{◌≡◌, ◌≢◌, inl, inr, ℕ, ◌+◌, ◌*◌, List, [], ◌∷◌, ◌++◌, Option, Some, None, length, refl, ap, sym, ◌∙◌, subst, arith}
use Rattle.keybits.specs.declared.shape.Shape.{Shape}
use Rattle.traces.specs.declared.script.Command.{Command}
use Rattle.traces.specs.declared.reply.Reply.{Reply}
use Rattle.traces.specs.declared.trace.Turn.{Turn}
use Rattle.traces.specs.Lawful.{IsLawful}
use Rattle.outcomes.specs.declared.outcome.Outcome.{Outcome}
use Rattle.outcomes.specs.declared.reached.Reached.{Reached}
use Rattle.outcomes.specs.Among.{IsIn, IsCount}
use Rattle.outcomes.specs.Schedules.{IsUpTo}
use Rattle.outcomes.specs.Outcomes.{IsWhole, EndsSo, IsOutcome, LackReplies, AreDifferent, AreOutcomes}
use Rattle.outcomes.specs.Search.{IsReached, AreReached, AreVisited, AreShown, Leads, IsFrom, Item, going, over, Goes, Ends, AreCounts, weighed, came, with_states, with_outcomes, all_ways, IsStart, Searched}
use Rattle.outcomes.proofs.AmongLemmas.{count-none, count-one, count-same}
use Rattle.outcomes.proofs.Becoming.{become-refl, become-trans}
use Rattle.outcomes.proofs.ReplyLemmas.{some-rows}

nil-end : (xs : List ℕ) → xs ++ [] ≡ xs
nil-end [] = refl
nil-end (x ∷ xs) = ap (λ (ys : List ℕ). x ∷ ys) (nil-end xs)

from-none : (schedule : List ℕ) → IsFrom 0 schedule
from-none [] = tt
from-none (first ∷ schedule) = omega arith

module _ (z : Shape) (scripts : List (List Command)) where
  start-reached : (start : Reached) → IsStart start → IsReached z scripts 0 start
  start-reached start s = record {
    lawful = subst (λ (ts : List Turn). IsLawful z scripts start.schedule.items ts) (sym s.trace)
        (subst (λ (by : List ℕ). IsLawful z scripts by []) (sym s.schedule) (record { turns = tt; legal = tt }));
    turns = ap length s.trace;
    entries = ap length s.schedule;
  }

  start-only : (start : Reached) → IsStart start → (reached : Reached) → IsIn reached (start ∷ []) → IsReached z scripts 0 reached
  start-only start s reached (inl e) = subst (IsReached z scripts 0) (sym e) (start-reached start s)
  start-only start s reached (inr none) = absurd none

  pub search-begun : (start : Reached) (layer : List Reached) (table : List Outcome) → IsStart start → layer ≡ start ∷ [] → table ≡ []
      → Searched z scripts layer table
  search-begun start layer table s e f = subst (λ (told : List Outcome). Searched z scripts layer told) (sym f)
      (subst (λ (states : List Reached). Searched z scripts states []) (sym e) (record {
        start = start;
        begins = s;
        size = 0;
        reached = start-only start s;
        shown = record { each = λ outcome is. absurd is; different = tt };
        become = become-refl z scripts (going 0 start ∷ []);
      }))

  pub search-on : (layer next : List Reached) (table told : List Outcome) (s : Searched z scripts layer table)
      → AreVisited z scripts s.size layer table [] next told → Searched z scripts next told
  search-on layer next table told s is = record {
    start = s.start;
    begins = s.begins;
    size = s.size + 1;
    reached = is.reached;
    shown = is.shown;
    become = become-trans z scripts (going 0 s.start ∷ []) (with_states layer (with_outcomes table)) (with_states next (with_outcomes told))
        s.become is.become;
  }

  no-states : (layer : List Reached) → length layer ≡ 0 → layer ≡ []
  no-states [] e = refl
  no-states (r ∷ layer) e = absurd (omega (arith, e))

  -- the search is over where no state is left
  pub search-over : (layer : List Reached) (table : List Outcome) → length layer ≡ 0 → Searched z scripts layer table
      → Searched z scripts [] table
  search-over layer table e s = subst (λ (states : List Reached). Searched z scripts states table) (no-states layer e) s

  -- the next layer, of the same states under another name
  pub search-next : (layer shown next : List Reached) (table told : List Outcome) → Searched z scripts layer table → shown ≡ layer
      → ((size : ℕ) → AreReached z scripts size shown → AreShown z scripts table → AreVisited z scripts size shown table [] next told)
      → Searched z scripts next told
  search-next layer shown next table told s e f =
      search-on layer next table told s
      (subst (λ (states : List Reached). AreVisited z scripts s.size states table [] next told) e
      (f s.size (subst (AreReached z scripts s.size) (sym e) s.reached) s.shown))

  -- ---- from the state before the first turn

  start-goes : (start : Reached) (schedule : List ℕ) (rows : List (List Reply)) → IsStart start → EndsSo z scripts schedule rows
      → Goes z scripts (going 0 start) schedule rows
  start-goes start schedule rows s e = (
    subst (λ (past : List Turn). Leads z scripts past schedule rows) (sym s.trace) (record {
      made = e.0;
      on = record { made = e.1.lawful.turns; legal = e.1.lawful.legal };
      turns = e.1.turns;
      ended = e.1.ended;
      replied = e.2;
    }),
    from-none schedule,
  )

  start-ends : (start : Reached) (schedule : List ℕ) (rows : List (List Reply)) → IsStart start
      → Goes z scripts (going 0 start) schedule rows → EndsSo z scripts schedule rows
  start-ends start schedule rows s goes =
      let l = subst (λ (past : List Turn). Leads z scripts past schedule rows) s.trace goes.0 in
      (l.made, record { lawful = record { turns = l.on.made; legal = l.on.legal }; turns = l.turns; ended = l.ended }, l.replied)

  among-outcomes : (item : Item) (table : List Outcome) → IsIn item (with_outcomes table)
      → (outcome : Outcome) × IsIn outcome table × (item ≡ over outcome)
  among-outcomes item [] is = absurd is
  among-outcomes item (o ∷ table) (inl e) = (o, inl refl, e)
  among-outcomes item (o ∷ table) (inr is) =
      let rest = among-outcomes item table is in (rest.0, inr rest.1, rest.2)

  -- the outcome of a complete schedule is in the table, with one that comes no later
  abbrev ToldBy : List Outcome → List ℕ → List (List Reply) → Type 0
  ToldBy table schedule rows = (outcome : Outcome) × IsIn outcome table × (outcome.replies.items ≡ rows) × IsUpTo outcome.schedule.items schedule

  told-by : (table : List Outcome) (s : Searched z scripts [] table) (schedule : List ℕ) (rows : List (List Reply))
      → EndsSo z scripts schedule rows → ToldBy table schedule rows
  told-by table s schedule rows e =
      let f = s.become.runs (going 0 s.start) (inl refl) schedule rows (start-goes s.start schedule rows s.begins e) in
      let a = among-outcomes f.0 table f.1 in
      let o = a.0 in
      let goes = subst (λ (i : Item). Goes z scripts i f.2.0 rows) a.2 f.2.1 in
      let upto = subst (λ (i : Item). IsUpTo (came i ++ f.2.0) (s.start.schedule.items ++ schedule)) a.2 f.2.2 in
      let empty = subst (λ (t : List ℕ). IsUpTo (o.schedule.items ++ t) (s.start.schedule.items ++ schedule)) goes.0 upto in
      let plain = subst (λ (t : List ℕ). IsUpTo t (s.start.schedule.items ++ schedule)) (nil-end o.schedule.items) empty in
      (o, a.1, goes.1, subst (λ (t : List ℕ). IsUpTo o.schedule.items (t ++ schedule)) s.begins.schedule plain)

  only-one : (table : List Outcome) (o p : Outcome) → AreDifferent table → IsIn o table → IsIn p table → o.replies.items ≡ p.replies.items
      → o ≡ p
  only-one [] o p different a b e = absurd a
  only-one (x ∷ table) o p different (inl a) (inl b) e = a ∙ sym b
  only-one (x ∷ table) o p different (inl a) (inr b) e =
      absurd (different.0 p b (sym e ∙ ap (λ (q : Outcome). q.replies.items) a))
  only-one (x ∷ table) o p different (inr a) (inl b) e =
      absurd (different.0 o a (e ∙ ap (λ (q : Outcome). q.replies.items) b))
  only-one (x ∷ table) o p different (inr a) (inr b) e = only-one table o p different.1 a b e

  -- ---- counts of outcomes

  abbrev Counted : Option (List (List Reply)) → List Outcome → ℕ → Type 0
  Counted wanted table count = (counts : List ℕ) × AreCounts z scripts wanted (with_outcomes table) counts
      × (weighed (with_outcomes table) counts ≡ count)

  times-zero : (a b : ℕ) → b ≡ 0 → a * 0 + b ≡ 0
  times-zero a b e = grind arith

  times-one : (a b : ℕ) → a * 1 + b ≡ a + b
  times-one a b = grind arith

  plus-none : (a : ℕ) → a + 0 ≡ a
  plus-none a = omega arith

  times-none : (a b c : ℕ) → b ≡ c → a * 0 + b ≡ c
  times-none a b c e = grind arith

  count-lacking : (o : Outcome) (rows : List (List Reply)) → o.replies.items ≢ rows → IsCount (Ends z scripts (Some rows) (over o)) 0
  count-lacking o rows other = count-none (Ends z scripts (Some rows) (over o)) (λ schedule e. other (e.2.1 ∙ e.1))

  count-having : (o : Outcome) (rows : List (List Reply)) → o.replies.items ≡ rows → IsCount (Ends z scripts (Some rows) (over o)) 1
  count-having o rows e = count-one (Ends z scripts (Some rows) (over o)) [] (rows, refl, (refl, e)) (λ schedule f. f.2.0)

  count-any : (o : Outcome) → IsCount (Ends z scripts None (over o)) 1
  count-any o = count-one (Ends z scripts None (over o)) [] (o.replies.items, tt, (refl, refl)) (λ schedule f. f.2.0)

  none-counted : (rows : List (List Reply)) (table : List Outcome) → LackReplies rows table → Counted (Some rows) table 0
  none-counted rows [] lack = ([], tt, refl)
  none-counted rows (o ∷ table) lack =
      let rest = none-counted rows table (λ p is. lack p (inr is)) in
      (0 ∷ rest.0, (count-lacking o rows (lack o (inl refl)), rest.1), times-zero o.ways (weighed (with_outcomes table) rest.0) rest.2)

  one-counted : (o : Outcome) (table : List Outcome) → AreDifferent table → IsIn o table → Counted (Some o.replies.items) table o.ways
  one-counted o [] different is = absurd is
  one-counted o (p ∷ table) different (inl e) =
      let same : p.replies.items ≡ o.replies.items = ap (λ (q : Outcome). q.replies.items) (sym e) in
      let rest = none-counted o.replies.items table (λ q is f. different.0 q is (f ∙ sym same)) in (
        1 ∷ rest.0,
        (count-having p o.replies.items same, rest.1),
        times-one p.ways (weighed (with_outcomes table) rest.0) ∙ ap (λ (n : ℕ). p.ways + n) rest.2 ∙ plus-none p.ways
            ∙ ap (λ (q : Outcome). q.ways) (sym e),
      )
  one-counted o (p ∷ table) different (inr is) =
      let rest = one-counted o table different.1 is in (
        0 ∷ rest.0,
        (count-lacking p o.replies.items (λ f. different.0 o is (sym f)), rest.1),
        times-none p.ways (weighed (with_outcomes table) rest.0) o.ways rest.2,
      )

  all-counted : (table : List Outcome) → Counted None table (all_ways table)
  all-counted [] = ([], tt, refl)
  all-counted (o ∷ table) =
      let rest = all-counted table in (
        1 ∷ rest.0,
        (count-any o, rest.1),
        times-one o.ways (weighed (with_outcomes table) rest.0) ∙ ap (λ (n : ℕ). o.ways + n) rest.2,
      )

  weigh-start : (a n k : ℕ) → a ≡ 1 → a * n + 0 ≡ k → n ≡ k
  weigh-start a n k e f = let g : a * n ≡ 1 * n = ap (λ (m : ℕ). m * n) e in omega arith

  start-count : (start : Reached) (wanted : Option (List (List Reply))) (before : List ℕ) (k : ℕ) → IsStart start
      → AreCounts z scripts wanted (going 0 start ∷ []) before → weighed (going 0 start ∷ []) before ≡ k
      → IsCount (Ends z scripts wanted (going 0 start)) k
  start-count start wanted [] k s are e = absurd are
  start-count start wanted (n ∷ []) k s are e =
      subst (IsCount (Ends z scripts wanted (going 0 start))) (weigh-start start.ways n k s.ways e) are.0
  start-count start wanted (n ∷ m ∷ counts) k s are e = absurd are.1

  counted-in : (wanted : Option (List (List Reply))) (table : List Outcome) (k : ℕ) (s : Searched z scripts [] table) → Counted wanted table k
      → IsCount (Ends z scripts wanted (going 0 s.start)) k
  counted-in wanted table k s c =
      let b = s.become.counts wanted c.0 c.1 in
      start-count s.start wanted b.0 k s.begins b.1 (b.2 ∙ c.2)

  outcome-is : (table : List Outcome) (s : Searched z scripts [] table) (o : Outcome) → IsIn o table → IsOutcome z scripts o
  outcome-is table s o is = record {
    shown = s.shown.each o is;
    first = λ schedule e.
        let t = told-by table s schedule o.replies.items e in
        subst (λ (p : Outcome). IsUpTo p.schedule.items schedule) (only-one table t.0 o s.shown.different t.1 is t.2) t.3;
    count = count-same (λ schedule. EndsSo z scripts schedule o.replies.items) (Ends z scripts (Some o.replies.items) (going 0 s.start)) o.ways
        (λ schedule e. (o.replies.items, refl, start-goes s.start schedule o.replies.items s.begins e))
        (λ schedule e. start-ends s.start schedule o.replies.items s.begins
        (subst (λ (rows : List (List Reply)). Goes z scripts (going 0 s.start) schedule rows) e.1 e.2))
        (counted-in (Some o.replies.items) table o.ways s (one-counted o table s.shown.different is));
  }

  pub search-ended : (table : List Outcome) (ways : ℕ) → Searched z scripts [] table → ways ≡ all_ways table
      → AreOutcomes z scripts table ways
  search-ended table ways s e = record {
    each = outcome-is table s;
    whole = λ schedule rows so. let t = told-by table s schedule rows so in (t.0, t.1, t.2);
    different = s.shown.different;
    count = count-same (λ schedule. (trace : List Turn) × IsWhole z scripts schedule trace) (Ends z scripts None (going 0 s.start)) ways
        (λ schedule w.
        let rows = some-rows z w.0 in
        (rows.0, tt, start-goes s.start schedule rows.0 s.begins (w.0, w.1, rows.1)))
        (λ schedule f. let so = start-ends s.start schedule f.0 s.begins f.2 in (so.0, so.1))
        (subst (IsCount (Ends z scripts None (going 0 s.start))) (sym e) (counted-in None table (all_ways table) s (all-counted table)));
  }
