-- The search: a turn of each lane from each state of each layer.
use Rattle.std.proofs.Common.{◌≡◌, ◌⊎◌, inl, inr, ℕ, zero, suc, ◌+◌, ◌<◌, ◌≤◌, Bool, true, false, cond, List, [], ◌∷◌, ◌++◌, length, drop, get_or, refl, ap, sym, ◌∙◌, subst, arith}
use Rattle.std.proofs.lemmas.Bool.{le-ltb}
use Rattle.std.proofs.lemmas.List.{at_drop_more, at_drop_all}
use Rattle.std.proofs.lemmas.Option.{slice_get_read}
use Rattle.keybits.specs.declared.shape.Shape.{Shape}
use Rattle.traces.specs.declared.script.Command.{Command}
use Rattle.traces.specs.declared.reply.Reply.{Reply}
use Rattle.traces.specs.Lawful.{world_of, at_end, is_finished}
use Rattle.outcomes.specs.declared.outcome.Outcome.{Outcome}
use Rattle.outcomes.specs.declared.reached.Reached.{Reached}
use Rattle.outcomes.specs.Among.{IsIn}
use Rattle.outcomes.specs.Search.{IsReached, AreReached, IsNext, IsTried, AreEnded, AreTried, IsVisited, AreVisited, IsConcluded, AreShown, Leads, IsFrom, Item, going, Goes, Become, with_states, with_outcomes}
use Rattle.outcomes.proofs.Becoming.{become-refl, become-trans, become-cons, become-swap, become-same, become-dropped, become-split, SplitsInto}
use Rattle.outcomes.proofs.AmongLemmas.{at-in}
use Rattle.outcomes.proofs.ScheduleLemmas.{upto-refl}
use Rattle.outcomes.proofs.LeadLemmas.{leads-on, leads-from, next-unfinished, empty-ended, finished-leads}
use Rattle.outcomes.proofs.StateLemmas.{states-cons, states-move}

lanes-assoc : (xs : List ℕ) (lane : ℕ) (ys : List ℕ) → (xs ++ lane ∷ []) ++ ys ≡ xs ++ (lane ∷ ys)
lanes-assoc [] lane ys = refl
lanes-assoc (x ∷ xs) lane ys = ap (λ (zs : List ℕ). x ∷ zs) (lanes-assoc xs lane ys)

-- this number, or a greater one
equal-or-more : (n m : ℕ) → n ≤ m → (n ≡ m) ⊎ (n + 1 ≤ m)
equal-or-more zero zero le = inl refl
equal-or-more zero (suc m) le = inr (omega arith)
equal-or-more (suc n) zero le = absurd (omega arith)
equal-or-more (suc n) (suc m) le = elim (equal-or-more n m (omega arith)) as (λ _. (suc n ≡ suc m) ⊎ (suc n + 1 ≤ suc m)) [
  | inl e ↦ inl (ap suc e)
  | inr more ↦ inr (omega arith)
]

-- the states from one of a layer on
pub drop-is : (layer : List Reached) (i : ℕ) (from : Reached) → i < length layer → from ≡ get_or layer i from
    → drop i layer ≡ from ∷ drop (i + 1) layer
drop-is layer i from within is =
    at_drop_more (λ (rs : List Reached). rs) layer i from within ∙ ap (λ (r : Reached). r ∷ drop (i + 1) layer) (sym is)

pub drop-none : (layer : List Reached) (i : ℕ) → length layer ≤ i → drop i layer ≡ []
drop-none layer i le = at_drop_all (λ (rs : List Reached). rs) layer i le

pub item-in : (layer : List Reached) (i : ℕ) (from : Reached) → i < length layer → from ≡ get_or layer i from → IsIn from layer
item-in layer i from within is = at-in layer i from (slice_get_read layer (length layer) i from refl within is)

below-or-not : (n m : ℕ) → (n < m) ⊎ (m ≤ n)
below-or-not n zero = inr (omega arith)
below-or-not zero (suc m) = inl (omega arith)
below-or-not (suc n) (suc m) = elim (below-or-not n m) as (λ _. (suc n < suc m) ⊎ (suc m ≤ suc n)) [
  | inl less ↦ inl (omega arith)
  | inr le ↦ inr (omega arith)
]

module _ (z : Shape) (scripts : List (List Command)) where
  -- ---- a turn of a lane

  from-later : (lane : ℕ) (schedule : List ℕ) → IsFrom (lane + 1) schedule → IsFrom lane schedule
  from-later lane [] is = tt
  from-later lane (first ∷ schedule) is = omega arith

  from-none : (schedule : List ℕ) → IsFrom 0 schedule
  from-none [] = tt
  from-none (first ∷ schedule) = omega arith

  not-ended : (size : ℕ) (from : Reached) (lane : ℕ) (next : Reached) (rows : List (List Reply)) → IsReached z scripts size from
      → IsNext z scripts size from lane next → Leads z scripts from.trace [] rows → ⊥
  not-ended size from lane next rows r n l =
      let bad : false ≡ true = sym (next-unfinished z scripts size from lane next r n) ∙ empty-ended z scripts from.trace rows l lane in
      cc bad

  -- where a run goes on from a state
  abbrev Split : Reached → ℕ → Reached → List ℕ → List (List Reply) → Type 0
  Split from lane next schedule rows =
      ((rest : List ℕ) × (schedule ≡ lane ∷ rest) × Goes z scripts (going 0 next) rest rows)
      ⊎ Goes z scripts (going (lane + 1) from) schedule rows

  split-to : (size : ℕ) (from : Reached) (lane : ℕ) (next : Reached) → IsReached z scripts size from → IsNext z scripts size from lane next
      → (schedule : List ℕ) (rows : List (List Reply)) → Goes z scripts (going lane from) schedule rows → Split from lane next schedule rows
  split-to size from lane next r n [] rows goes = absurd (not-ended size from lane next rows r n goes.0)
  split-to size from lane next r n (first ∷ schedule) rows goes =
      elim (equal-or-more lane first goes.1) as (λ _. Split from lane next (first ∷ schedule) rows) [
        | inl e ↦ inl (
          schedule,
          ap (λ (k : ℕ). k ∷ schedule) (sym e),
          (
            leads-on z scripts size from lane next schedule rows r n
                (subst (λ (k : ℕ). Leads z scripts from.trace (k ∷ schedule) rows) (sym e) goes.0),
            from-none schedule,
          ),
        )
        | inr more ↦ inr (goes.0, more)
      ]

  next-splits : (size : ℕ) (from : Reached) (lane : ℕ) (next : Reached) → IsReached z scripts size from → IsNext z scripts size from lane next
      → SplitsInto z scripts lane (going lane from) (going 0 next) (going (lane + 1) from)
  next-splits size from lane next r n = record {
    to = split-to size from lane next r n;
    led = λ schedule rows goes. (leads-from z scripts size from lane next schedule rows r n goes.0, omega arith);
    left = λ schedule rows goes. (goes.0, from-later lane schedule goes.1);
    apart = λ schedule rows goes. let less : lane + 1 ≤ lane = goes.1 in omega arith;
    came_by = λ schedule. ap (λ (s : List ℕ). s ++ schedule) n.schedule ∙ lanes-assoc from.schedule.items lane schedule;
    came_same = refl;
    weight_led = n.ways;
    weight_left = refl;
  }

  -- a turn of a lane, which isn't finished, was tried
  pub tried : (size : ℕ) (from : Reached) (lane : ℕ) (state : Reached) (next new : List Reached) → IsReached z scripts size from
      → IsNext z scripts size from lane state → AreReached z scripts (size + 1) new
      → ((rest : List Item) → Become z scripts (going 0 state ∷ with_states next rest) (with_states new rest))
      → IsTried z scripts size from lane next new true
  tried size from lane state next new r n reached added = (
    next-unfinished z scripts size from lane state r n,
    reached,
    λ rest.
        become-trans z scripts (going lane from ∷ with_states next rest)
        (going 0 state ∷ going (lane + 1) from ∷ with_states next rest)
        (going (lane + 1) from ∷ with_states new rest)
        (become-split z scripts lane (going lane from) (going 0 state) (going (lane + 1) from) (with_states next rest)
        (next-splits size from lane state r n))
        (become-trans z scripts (going 0 state ∷ going (lane + 1) from ∷ with_states next rest)
        (going (lane + 1) from ∷ going 0 state ∷ with_states next rest)
        (going (lane + 1) from ∷ with_states new rest)
        (become-swap z scripts (going 0 state) (going (lane + 1) from) (with_states next rest))
        (become-cons z scripts (going (lane + 1) from) (going 0 state ∷ with_states next rest) (with_states new rest) (added rest))),
  )

  -- ---- all lanes

  pass-to : (from : Reached) (lane : ℕ) → is_finished z (world_of z scripts from.trace) lane ≡ true
      → (schedule : List ℕ) (rows : List (List Reply)) → Goes z scripts (going lane from) schedule rows
      → Goes z scripts (going (lane + 1) from) schedule rows
  pass-to from lane finished [] rows goes = (goes.0, tt)
  pass-to from lane finished (first ∷ schedule) rows goes =
      elim (equal-or-more lane first goes.1) as (λ _. Goes z scripts (going (lane + 1) from) (first ∷ schedule) rows) [
        | inl e ↦ absurd (finished-leads z scripts from.trace lane schedule rows finished
            (subst (λ (k : ℕ). Leads z scripts from.trace (k ∷ schedule) rows) (sym e) goes.0))
        | inr more ↦ (goes.0, more)
      ]

  -- no run goes on by a finished lane
  pass : (from : Reached) (lane : ℕ) (xs : List Item) → is_finished z (world_of z scripts from.trace) lane ≡ true
      → Become z scripts (going lane from ∷ xs) (going (lane + 1) from ∷ xs)
  pass from lane xs finished = become-same z scripts (going lane from) (going (lane + 1) from) xs (record {
    to = pass-to from lane finished;
    back = λ schedule rows goes. (goes.0, from-later lane schedule goes.1);
    first = λ schedule rows goes. upto-refl (from.schedule.items ++ schedule);
  }) refl

  pub lanes-begun : (size : ℕ) (from : Reached) (next : List Reached) → AreReached z scripts (size + 1) next
      → AreTried z scripts size from 0 next next true
  lanes-begun size from next reached = record {
    at_end = (λ k less. absurd (omega arith), refl);
    reached = reached;
    become = λ rest. become-refl z scripts (going 0 from ∷ with_states next rest);
  }

  ended-on : (from : Reached) (lane : ℕ) (next mid new : List Reached) (ended : Bool)
      → is_finished z (world_of z scripts from.trace) lane ≡ true → new ≡ mid
      → AreEnded z scripts from lane next mid ended → AreEnded z scripts from (lane + 1) next new ended
  ended-on from lane next mid new true finished e at = (
    (λ k less. elim (equal-or-more k lane (omega arith)) as (λ _. is_finished z (world_of z scripts from.trace) k ≡ true) [
      | inl same ↦ subst (λ (j : ℕ). is_finished z (world_of z scripts from.trace) j ≡ true) (sym same) finished
      | inr below ↦ at.0 k (omega arith)
    ]),
    e ∙ at.1,
  )
  ended-on from lane next mid new false finished e at = at

  -- one lane more was tried
  pub lanes-on : (size : ℕ) (from : Reached) (lane : ℕ) (next mid new : List Reached) (ended went : Bool)
      → AreTried z scripts size from lane next mid ended → IsTried z scripts size from lane mid new went
      → AreTried z scripts size from (lane + 1) next new (cond went false ended)
  lanes-on size from lane next mid new ended false before is = record {
    at_end = ended-on from lane next mid new ended is.0 is.1 before.at_end;
    reached = subst (AreReached z scripts (size + 1)) (sym is.1) before.reached;
    become = λ rest.
        become-trans z scripts (going 0 from ∷ with_states next rest) (going lane from ∷ with_states mid rest)
        (going (lane + 1) from ∷ with_states new rest) (before.become rest)
        (subst (λ (layer : List Reached). Become z scripts (going lane from ∷ with_states mid rest) (going (lane + 1) from ∷ with_states layer rest))
        (sym is.1) (pass from lane (with_states mid rest) is.0));
  }
  lanes-on size from lane next mid new ended true before is = record {
    at_end = (lane, is.0);
    reached = is.1;
    become = λ rest.
        become-trans z scripts (going 0 from ∷ with_states next rest) (going lane from ∷ with_states mid rest)
        (going (lane + 1) from ∷ with_states new rest) (before.become rest) (is.2 rest);
  }

  -- ---- a state

  beyond-finished : (from : Reached) (lane : ℕ) → z.lanes ≤ lane → is_finished z (world_of z scripts from.trace) lane ≡ true
  beyond-finished from lane beyond =
      ap (λ (b : Bool). cond b (at_end ((world_of z scripts from.trace).books lane).left) true) (le-ltb lane z.lanes beyond)

  all-finished : (from : Reached) → ((k : ℕ) → k < z.lanes → is_finished z (world_of z scripts from.trace) k ≡ true)
      → (lane : ℕ) → is_finished z (world_of z scripts from.trace) lane ≡ true
  all-finished from below lane = elim (below-or-not lane z.lanes) as (λ _. is_finished z (world_of z scripts from.trace) lane ≡ true) [
    | inl less ↦ below lane less
    | inr beyond ↦ beyond-finished from lane beyond
  ]

  no-runs : (from : Reached) (k : ℕ) → is_finished z (world_of z scripts from.trace) k ≡ false
      → (schedule : List ℕ) (rows : List (List Reply)) → Goes z scripts (going z.lanes from) schedule rows → ⊥
  no-runs from k unfinished [] rows goes =
      let bad : false ≡ true = sym unfinished ∙ empty-ended z scripts from.trace rows goes.0 k in cc bad
  no-runs from k unfinished (first ∷ schedule) rows goes =
      finished-leads z scripts from.trace first schedule rows (beyond-finished from first goes.1) goes.0

  -- a state behind which a lane can go on
  pub visited-on : (size : ℕ) (from : Reached) (next new : List Reached) (table : List Outcome) → AreShown z scripts table
      → AreTried z scripts size from z.lanes next new false → IsVisited z scripts size from next table new table
  visited-on size from next new table shown is = record {
    reached = is.reached;
    shown = shown;
    become =
        become-trans z scripts (going 0 from ∷ with_states next (with_outcomes table)) (going z.lanes from ∷ with_states new (with_outcomes table))
        (with_states new (with_outcomes table)) (is.become (with_outcomes table))
        (become-dropped z scripts (going z.lanes from) (with_states new (with_outcomes table)) (no-runs from is.at_end.0 is.at_end.1));
  }

  -- behind which every lane is finished
  pub tried-ended : (size : ℕ) (from : Reached) (next new : List Reached) → AreTried z scripts size from z.lanes next new true
      → (lane : ℕ) → is_finished z (world_of z scripts from.trace) lane ≡ true
  tried-ended size from next new is = all-finished from is.at_end.0

  pub visited-over : (size : ℕ) (from : Reached) (next new : List Reached) (table told : List Outcome)
      → AreTried z scripts size from z.lanes next new true → IsConcluded z scripts from table told
      → IsVisited z scripts size from next table new told
  visited-over size from next new table told is c = record {
    reached = is.reached;
    shown = c.shown;
    become = subst (λ (layer : List Reached). Become z scripts (going 0 from ∷ with_states next (with_outcomes table))
        (with_states layer (with_outcomes told))) (sym is.at_end.1) (c.become next);
  }

  -- ---- a layer

  pub layer-begun : (size : ℕ) (layer : List Reached) (table : List Outcome) → AreShown z scripts table
      → AreVisited z scripts size layer table layer [] table
  layer-begun size layer table shown = record {
    reached = λ reached is. absurd is;
    shown = shown;
    become = become-refl z scripts (with_states layer (with_outcomes table));
  }

  pub layer-on : (size : ℕ) (layer : List Reached) (table : List Outcome) (from : Reached) (left next new : List Reached) (told more : List Outcome)
      → AreVisited z scripts size layer table (from ∷ left) next told → IsVisited z scripts size from next told new more
      → AreVisited z scripts size layer table left new more
  layer-on size layer table from left next new told more before is = record {
    reached = is.reached;
    shown = is.shown;
    become =
        become-trans z scripts (with_states layer (with_outcomes table)) (going 0 from ∷ with_states left (with_states next (with_outcomes told)))
        (with_states left (with_states new (with_outcomes more))) before.become
        (become-trans z scripts (going 0 from ∷ with_states left (with_states next (with_outcomes told)))
        (with_states left (going 0 from ∷ with_states next (with_outcomes told))) (with_states left (with_states new (with_outcomes more)))
        (states-move z scripts (going 0 from) left (with_states next (with_outcomes told)))
        (states-cons z scripts left (going 0 from ∷ with_states next (with_outcomes told)) (with_states new (with_outcomes more)) is.become));
  }
