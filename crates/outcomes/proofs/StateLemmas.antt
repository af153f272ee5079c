-- States and outcomes among items: where they are added and joined.
use Rattle.std.proofs.Common.{◌≡◌, ◌≢◌, inl, inr, ℕ, zero, suc, ◌+◌, ◌≤◌, Bool, true, false, take, List, [], ◌∷◌, ◌++◌, Some, length, get_or, refl, ap, sym, ◌∙◌, subst, arith}
use Rattle.std.specs.Prelude.{slice_get, slice_set}
use Rattle.std.proofs.lemmas.Option.{slice_get_read, slice_get_within}
use Rattle.keybits.specs.declared.shape.Shape.{Shape}
use Rattle.traces.specs.declared.script.Command.{Command}
use Rattle.traces.specs.declared.reply.Reply.{Reply}
use Rattle.traces.specs.declared.trace.Turn.{Turn}
use Rattle.traces.specs.Lawful.{world_of, is_finished, IsLawful}
use Rattle.standings.specs.Behind.{AreSameBehind}
use Rattle.outcomes.specs.declared.outcome.Outcome.{Outcome}
use Rattle.outcomes.specs.declared.reached.Reached.{Reached}
use Rattle.outcomes.specs.Among.{IsIn}
use Rattle.outcomes.specs.Schedules.{IsUpTo}
use Rattle.outcomes.specs.Outcomes.{AreReplied, EndsSo, LackReplies, AreDifferent}
use Rattle.outcomes.specs.Search.{IsReached, AreReached, IsJoined, IsSameOutcome, IsTold, IsOutcomeOf, IsConcluded, AreShown, Item, going, over, Goes, Become, with_states, with_outcomes}
use Rattle.outcomes.proofs.AmongLemmas.{in-pushed, in-set, in-take, at-in}
use Rattle.outcomes.proofs.ScheduleLemmas.{upto-refl, upto-more}
use Rattle.outcomes.proofs.Becoming.{become-refl, become-trans, become-cons, become-swap, become-merged, become-same, StandsFor}
use Rattle.outcomes.proofs.LeadLemmas.{leads-same, same-back, leads-empty, empty-replied, finished-leads}
use Rattle.outcomes.proofs.ReplyLemmas.{one-row}

nil-end : (xs : List ℕ) → xs ++ [] ≡ xs
nil-end [] = refl
nil-end (x ∷ xs) = ap (λ (ys : List ℕ). x ∷ ys) (nil-end xs)

-- one outcome more lacks these replies, as a test told
pub lack-more : (rows : List (List Reply)) (table : List Outcome) (i : ℕ) (other : Outcome) → slice_get table i ≡ Some other
    → (b : Bool) → (other.replies.items ≡ rows → b ≡ true) → b ≡ false → LackReplies rows (take i table) → LackReplies rows (take (i + 1) table)
lack-more rows table i other at b whole isnt lack = λ outcome is e.
    let next : i + 1 ≡ suc i = omega arith in
    let among : IsIn outcome (take (suc i) table) = subst (λ (n : ℕ). IsIn outcome (take n table)) next is in
    elim (in-take table i outcome other at among) as (λ _. ⊥) [
      | inl here ↦ lack outcome here e
      | inr f ↦ let bad : true ≡ false = sym (whole (ap (λ (o : Outcome). o.replies.items) (sym f) ∙ e)) ∙ isnt in cc bad
    ]

take-whole : (table : List Outcome) (i : ℕ) → length table ≤ i → take i table ≡ table
take-whole [] zero le = refl
take-whole [] (suc i) le = refl
take-whole (o ∷ table) zero le = absurd (omega arith)
take-whole (o ∷ table) (suc i) le = ap (λ (os : List Outcome). o ∷ os) (take-whole table i (omega arith))

pub lack-all : (rows : List (List Reply)) (table : List Outcome) (i : ℕ) → length table ≤ i → LackReplies rows (take i table)
    → LackReplies rows table
lack-all rows table i le lack = subst (LackReplies rows) (take-whole table i le) lack

-- an outcome joined the one of its replies that a test found
pub told-joined : (table shown : List Outcome) (rows : List (List Reply)) (i : ℕ) (kept one joined : Outcome) → shown ≡ table
    → rows ≡ one.replies.items
    → ((same : Outcome) × (slice_get shown i ≡ Some same) × (same.replies.items ≡ rows))
    → kept ≡ get_or table i kept → IsSameOutcome kept one joined → IsTold table one (slice_set table i joined)
told-joined table shown rows i kept one joined e f found value j =
    let same = found.0 in
    let got : slice_get table i ≡ Some same = sym (ap (λ (os : List Outcome). slice_get os i) e) ∙ found.1 in
    let at : slice_get table i ≡ Some kept = slice_get_read table (length table) i kept refl (slice_get_within table i same got) value in
    let both : Some same ≡ Some kept = sym got ∙ at in
    let is : same ≡ kept = cc in
    inr (i, kept, joined, at, sym (ap (λ (o : Outcome). o.replies.items) is) ∙ found.2 ∙ f, j, refl)

-- an outcome of other replies than all joined the table
pub told-pushed : (table shown : List Outcome) (rows : List (List Reply)) (one : Outcome) (new : List Outcome) → shown ≡ table
    → rows ≡ one.replies.items → LackReplies rows shown → new ≡ table ++ one ∷ [] → IsTold table one new
told-pushed table shown rows one new e f lack n =
    inl (subst (λ (rs : List (List Reply)). LackReplies rs table) f (subst (LackReplies rows) e lack), n)

module _ (z : Shape) (scripts : List (List Command)) where
  -- ---- items before others

  pub states-cons : (layer : List Reached) (xs ys : List Item) → Become z scripts xs ys
      → Become z scripts (with_states layer xs) (with_states layer ys)
  states-cons [] xs ys f = f
  states-cons (r ∷ layer) xs ys f =
      become-cons z scripts (going 0 r) (with_states layer xs) (with_states layer ys) (states-cons layer xs ys f)

  pub states-move : (x : Item) (layer : List Reached) (xs : List Item)
      → Become z scripts (x ∷ with_states layer xs) (with_states layer (x ∷ xs))
  states-move x [] xs = become-refl z scripts (x ∷ xs)
  states-move x (r ∷ layer) xs =
      become-trans z scripts (x ∷ going 0 r ∷ with_states layer xs) (going 0 r ∷ x ∷ with_states layer xs)
      (going 0 r ∷ with_states layer (x ∷ xs))
      (become-swap z scripts x (going 0 r) (with_states layer xs))
      (become-cons z scripts (going 0 r) (x ∷ with_states layer xs) (with_states layer (x ∷ xs)) (states-move x layer xs))

  -- a state joins a layer at its end
  pub states-push : (one : Reached) (layer : List Reached) (xs : List Item)
      → Become z scripts (going 0 one ∷ with_states layer xs) (with_states (layer ++ one ∷ []) xs)
  states-push one [] xs = become-refl z scripts (going 0 one ∷ xs)
  states-push one (r ∷ layer) xs =
      become-trans z scripts (going 0 one ∷ going 0 r ∷ with_states layer xs) (going 0 r ∷ going 0 one ∷ with_states layer xs)
      (going 0 r ∷ with_states (layer ++ one ∷ []) xs)
      (become-swap z scripts (going 0 one) (going 0 r) (with_states layer xs))
      (become-cons z scripts (going 0 r) (going 0 one ∷ with_states layer xs) (with_states (layer ++ one ∷ []) xs) (states-push one layer xs))

  -- a state joins one of a layer
  pub states-set : (one kept joined : Reached) (layer : List Reached) (i : ℕ) (xs : List Item) → slice_get layer i ≡ Some kept
      → StandsFor z scripts (going 0 one) (going 0 joined) → StandsFor z scripts (going 0 kept) (going 0 joined)
      → joined.ways ≡ kept.ways + one.ways
      → Become z scripts (going 0 one ∷ with_states layer xs) (with_states (slice_set layer i joined) xs)
  states-set one kept joined [] i xs at s t e = absurd (cc at)
  states-set one kept joined (r ∷ layer) zero xs at s t e =
      let same : kept ≡ r = cc at in
      let ways : joined.ways ≡ one.ways + kept.ways = omega (arith, e) in
      subst (λ (k : Reached). Become z scripts (going 0 one ∷ going 0 k ∷ with_states layer xs) (going 0 joined ∷ with_states layer xs)) same
      (become-merged z scripts (going 0 one) (going 0 kept) (going 0 joined) (with_states layer xs) s t ways)
  states-set one kept joined (r ∷ layer) (suc i) xs at s t e =
      become-trans z scripts (going 0 one ∷ going 0 r ∷ with_states layer xs) (going 0 r ∷ going 0 one ∷ with_states layer xs)
      (going 0 r ∷ with_states (slice_set layer i joined) xs)
      (become-swap z scripts (going 0 one) (going 0 r) (with_states layer xs))
      (become-cons z scripts (going 0 r) (going 0 one ∷ with_states layer xs) (with_states (slice_set layer i joined) xs)
      (states-set one kept joined layer i xs at s t e))

  pub outcomes-push : (one : Outcome) (table : List Outcome)
      → Become z scripts (over one ∷ with_outcomes table) (with_outcomes (table ++ one ∷ []))
  outcomes-push one [] = become-refl z scripts (over one ∷ [])
  outcomes-push one (o ∷ table) =
      become-trans z scripts (over one ∷ over o ∷ with_outcomes table) (over o ∷ over one ∷ with_outcomes table)
      (over o ∷ with_outcomes (table ++ one ∷ []))
      (become-swap z scripts (over one) (over o) (with_outcomes table))
      (become-cons z scripts (over o) (over one ∷ with_outcomes table) (with_outcomes (table ++ one ∷ [])) (outcomes-push one table))

  pub outcomes-set : (one kept joined : Outcome) (table : List Outcome) (i : ℕ) → slice_get table i ≡ Some kept
      → StandsFor z scripts (over one) (over joined) → StandsFor z scripts (over kept) (over joined)
      → joined.ways ≡ kept.ways + one.ways
      → Become z scripts (over one ∷ with_outcomes table) (with_outcomes (slice_set table i joined))
  outcomes-set one kept joined [] i at s t e = absurd (cc at)
  outcomes-set one kept joined (o ∷ table) zero at s t e =
      let same : kept ≡ o = cc at in
      let ways : joined.ways ≡ one.ways + kept.ways = omega (arith, e) in
      subst (λ (k : Outcome). Become z scripts (over one ∷ over k ∷ with_outcomes table) (over joined ∷ with_outcomes table)) same
      (become-merged z scripts (over one) (over kept) (over joined) (with_outcomes table) s t ways)
  outcomes-set one kept joined (o ∷ table) (suc i) at s t e =
      become-trans z scripts (over one ∷ over o ∷ with_outcomes table) (over o ∷ over one ∷ with_outcomes table)
      (over o ∷ with_outcomes (slice_set table i joined))
      (become-swap z scripts (over one) (over o) (with_outcomes table))
      (become-cons z scripts (over o) (over one ∷ with_outcomes table) (with_outcomes (slice_set table i joined))
      (outcomes-set one kept joined table i at s t e))

  -- ---- states that are joined

  -- the runs from a state are those from one that stands the same
  stands-for : (size : ℕ) (x m : Reached) → IsReached z scripts size x → IsReached z scripts size m → AreSameBehind z x.trace m.trace
      → IsUpTo m.schedule.items x.schedule.items → StandsFor z scripts (going 0 x) (going 0 m)
  stands-for size x m a b same first = record {
    to = λ schedule rows goes.
        (leads-same z scripts x.schedule.items m.schedule.items x.trace m.trace schedule rows same a.lawful b.lawful goes.0, goes.1);
    back = λ schedule rows goes. (
      leads-same z scripts m.schedule.items x.schedule.items m.trace x.trace schedule rows (same-back z x.trace m.trace same) b.lawful a.lawful
          goes.0,
      goes.1,
    );
    first = λ schedule rows goes.
        upto-more m.schedule.items x.schedule.items schedule (b.entries ∙ sym a.entries) first;
  }

  -- what came of two states that stand the same
  pub record Joins (size : ℕ) (kept one joined : Reached) : Type 0 where
    pub reached : IsReached z scripts size joined
    pub of_one : StandsFor z scripts (going 0 one) (going 0 joined)
    pub of_kept : StandsFor z scripts (going 0 kept) (going 0 joined)

  like : (size : ℕ) (x m : Reached) → IsReached z scripts size x → m.schedule.items ≡ x.schedule.items → m.trace ≡ x.trace
      → IsReached z scripts size m
  like size x m a s t = record {
    lawful = subst (λ (ts : List Turn). IsLawful z scripts m.schedule.items ts) (sym t)
        (subst (λ (by : List ℕ). IsLawful z scripts by x.trace) (sym s) a.lawful);
    turns = ap length t ∙ a.turns;
    entries = ap length s ∙ a.entries;
  }

  self-behind : (trace : List Turn) → AreSameBehind z trace trace
  self-behind trace = record {
    standing = λ scripts one other a b. record { pool = refl; words = refl; books = refl };
    replies = λ lane inside. refl;
  }

  by-kept : (size : ℕ) (kept one joined : Reached) → IsReached z scripts size kept → IsReached z scripts size one
      → AreSameBehind z kept.trace one.trace → IsJoined kept one joined
      → joined.schedule.items ≡ kept.schedule.items → joined.trace ≡ kept.trace → Joins size kept one joined
  by-kept size kept one joined a b same j s t =
      let m = like size kept joined a s t in
      record {
        reached = m;
        of_one = stands-for size one joined b m
            (subst (λ (ts : List Turn). AreSameBehind z one.trace ts) (sym t) (same-back z kept.trace one.trace same)) j.first;
        of_kept = stands-for size kept joined a m
            (subst (λ (ts : List Turn). AreSameBehind z kept.trace ts) (sym t) (self-behind kept.trace)) j.before;
      }

  by-one : (size : ℕ) (kept one joined : Reached) → IsReached z scripts size kept → IsReached z scripts size one
      → AreSameBehind z kept.trace one.trace → IsJoined kept one joined
      → joined.schedule.items ≡ one.schedule.items → joined.trace ≡ one.trace → Joins size kept one joined
  by-one size kept one joined a b same j s t =
      let m = like size one joined b s t in
      record {
        reached = m;
        of_one = stands-for size one joined b m
            (subst (λ (ts : List Turn). AreSameBehind z one.trace ts) (sym t) (self-behind one.trace)) j.first;
        of_kept = stands-for size kept joined a m (subst (λ (ts : List Turn). AreSameBehind z kept.trace ts) (sym t) same) j.before;
      }

  pub joins : (size : ℕ) (kept one joined : Reached) → IsReached z scripts size kept → IsReached z scripts size one
      → AreSameBehind z kept.trace one.trace → IsJoined kept one joined → Joins size kept one joined
  joins size kept one joined a b same j = elim j.way as (λ _. Joins size kept one joined) [
    | inl e ↦ by-kept size kept one joined a b same j e.0 e.1
    | inr e ↦ by-one size kept one joined a b same j e.0 e.1
  ]

  -- a state joined one of a layer
  pub added-joined : (size : ℕ) (layer : List Reached) (i : ℕ) (kept one joined : Reached) → AreReached z scripts size layer
      → IsReached z scripts size one → slice_get layer i ≡ Some kept → AreSameBehind z kept.trace one.trace → IsJoined kept one joined
      → AreReached z scripts size (slice_set layer i joined)
      × ((rest : List Item) → Become z scripts (going 0 one ∷ with_states layer rest) (with_states (slice_set layer i joined) rest))
  added-joined size layer i kept one joined are is at same j =
      let b = joins size kept one joined (are kept (at-in layer i kept at)) is same j in (
        (λ reached among. elim (in-set layer i reached joined among) as (λ _. IsReached z scripts size reached) [
          | inl here ↦ are reached here
          | inr e ↦ subst (IsReached z scripts size) (sym e) b.reached
        ]),
        (λ rest. states-set one kept joined layer i rest at b.of_one b.of_kept j.ways),
      )

  -- a state joined a layer at its end
  pub added-behind : (size : ℕ) (layer : List Reached) (one : Reached) → AreReached z scripts size layer → IsReached z scripts size one
      → AreReached z scripts size (layer ++ one ∷ [])
      × ((rest : List Item) → Become z scripts (going 0 one ∷ with_states layer rest) (with_states (layer ++ one ∷ []) rest))
  added-behind size layer one are is = (
    (λ reached among. elim (in-pushed reached one layer among) as (λ _. IsReached z scripts size reached) [
      | inl here ↦ are reached here
      | inr e ↦ subst (IsReached z scripts size) (sym e) is
    ]),
    (λ rest. states-push one layer rest),
  )

  -- the same of a state that a test found
  pub added-to-found : (size : ℕ) (layer shown : List Reached) (i : ℕ) (kept one joined : Reached) → shown ≡ layer
      → ((same : Reached) × (slice_get shown i ≡ Some same) × AreSameBehind z same.trace one.trace)
      → kept ≡ get_or layer i kept → IsJoined kept one joined → AreReached z scripts size layer → IsReached z scripts size one
      → AreReached z scripts size (slice_set layer i joined)
      × ((rest : List Item) → Become z scripts (going 0 one ∷ with_states layer rest) (with_states (slice_set layer i joined) rest))
  added-to-found size layer shown i kept one joined e found value j are is =
      let same = found.0 in
      let got : slice_get layer i ≡ Some same = sym (ap (λ (rs : List Reached). slice_get rs i) e) ∙ found.1 in
      let at : slice_get layer i ≡ Some kept = slice_get_read layer (length layer) i kept refl (slice_get_within layer i same got) value in
      let both : Some same ≡ Some kept = sym got ∙ at in
      let same_is : same ≡ kept = cc in
      added-joined size layer i kept one joined are is at
      (subst (λ (r : Reached). AreSameBehind z r.trace one.trace) same_is found.2) j

  pub added-pushed : (size : ℕ) (layer : List Reached) (one : Reached) (new : List Reached) → new ≡ layer ++ one ∷ []
      → AreReached z scripts size layer → IsReached z scripts size one
      → AreReached z scripts size new
      × ((rest : List Item) → Become z scripts (going 0 one ∷ with_states layer rest) (with_states new rest))
  added-pushed size layer one new e are is =
      subst (λ (rs : List Reached). AreReached z scripts size rs
      × ((rest : List Item) → Become z scripts (going 0 one ∷ with_states layer rest) (with_states rs rest))) (sym e)
      (added-behind size layer one are is)

  -- ---- outcomes that are joined

  pub outcome-for : (x m : Outcome) → m.replies.items ≡ x.replies.items → IsUpTo m.schedule.items x.schedule.items
      → StandsFor z scripts (over x) (over m)
  outcome-for x m e first = record {
    to = λ schedule rows goes. (goes.0, e ∙ goes.1);
    back = λ schedule rows goes. (goes.0, sym e ∙ goes.1);
    first = λ schedule rows goes.
        subst (λ (s : List ℕ). IsUpTo (m.schedule.items ++ s) (x.schedule.items ++ s)) (sym goes.0)
        (subst (λ (s : List ℕ). IsUpTo s (x.schedule.items ++ [])) (sym (nil-end m.schedule.items))
        (subst (λ (s : List ℕ). IsUpTo m.schedule.items s) (sym (nil-end x.schedule.items)) first));
  }

  different-push : (table : List Outcome) (one : Outcome) → AreDifferent table → LackReplies one.replies.items table
      → AreDifferent (table ++ one ∷ [])
  different-push [] one different lack = (λ other is. absurd is, tt)
  different-push (o ∷ table) one different lack = (
    (λ other is. elim (in-pushed other one table is) as (λ _. other.replies.items ≢ o.replies.items) [
      | inl here ↦ different.0 other here
      | inr e ↦ λ same. lack o (inl refl) (sym same ∙ ap (λ (p : Outcome). p.replies.items) e)
    ]),
    different-push table one different.1 (λ other is. lack other (inr is)),
  )

  different-set : (table : List Outcome) (i : ℕ) (kept joined : Outcome) → slice_get table i ≡ Some kept
      → joined.replies.items ≡ kept.replies.items → AreDifferent table → AreDifferent (slice_set table i joined)
  different-set [] i kept joined at e different = absurd (cc at)
  different-set (o ∷ table) zero kept joined at e different =
      let same : kept ≡ o = cc at in
      ((λ other is. λ f. different.0 other is (f ∙ e ∙ ap (λ (p : Outcome). p.replies.items) same)), different.1)
  different-set (o ∷ table) (suc i) kept joined at e different = (
    (λ other is. elim (in-set table i other joined is) as (λ _. other.replies.items ≢ o.replies.items) [
      | inl here ↦ different.0 other here
      | inr f ↦ λ same. different.0 kept (at-in table i kept at) (sym e ∙ sym (ap (λ (p : Outcome). p.replies.items) f) ∙ same)
    ]),
    different-set table i kept joined at e different.1,
  )

  pub told : (table : List Outcome) (one : Outcome) (new : List Outcome) → AreShown z scripts table
      → EndsSo z scripts one.schedule.items one.replies.items → IsTold table one new
      → AreShown z scripts new × Become z scripts (over one ∷ with_outcomes table) (with_outcomes new)
  told table one new shown so (inl is) =
      subst (λ (os : List Outcome). AreShown z scripts os × Become z scripts (over one ∷ with_outcomes table) (with_outcomes os)) (sym is.1) (
        record {
          each = λ o among. elim (in-pushed o one table among) as (λ _. EndsSo z scripts o.schedule.items o.replies.items) [
            | inl here ↦ shown.each o here
            | inr e ↦ subst (λ (p : Outcome). EndsSo z scripts p.schedule.items p.replies.items) (sym e) so
          ];
          different = different-push table one shown.different is.0;
        },
        outcomes-push one table,
      )
  told table one new shown so (inr is) =
      let i = is.0 in let same = is.1 in let joined = is.2 in let at = is.3 in let e = is.4 in let j = is.5 in
      let joined_so : EndsSo z scripts joined.schedule.items joined.replies.items =
      elim j.schedule as (λ _. EndsSo z scripts joined.schedule.items joined.replies.items) [
        | inl f ↦ subst (λ (s : List ℕ). EndsSo z scripts s joined.replies.items) (sym f)
            (subst (λ (rows : List (List Reply)). EndsSo z scripts same.schedule.items rows) (sym j.replies)
            (shown.each same (at-in table i same at)))
        | inr f ↦ subst (λ (s : List ℕ). EndsSo z scripts s joined.replies.items) (sym f)
            (subst (λ (rows : List (List Reply)). EndsSo z scripts one.schedule.items rows) (sym (j.replies ∙ e)) so)
      ] in
      subst (λ (os : List Outcome). AreShown z scripts os × Become z scripts (over one ∷ with_outcomes table) (with_outcomes os)) (sym is.6) (
        record {
          each = λ o among. elim (in-set table i o joined among) as (λ _. EndsSo z scripts o.schedule.items o.replies.items) [
            | inl here ↦ shown.each o here
            | inr f ↦ subst (λ (p : Outcome). EndsSo z scripts p.schedule.items p.replies.items) (sym f) joined_so
          ];
          different = different-set table i same joined at j.replies shown.different;
        },
        outcomes-set one same joined table i at (outcome-for one joined (j.replies ∙ e) j.first) (outcome-for same joined j.replies j.before) j.ways,
      )

  -- ---- a state behind which all scripts are at their ends

  over-to : (size : ℕ) (state : Reached) (o : Outcome) → IsReached z scripts size state
      → ((lane : ℕ) → is_finished z (world_of z scripts state.trace) lane ≡ true) → IsOutcomeOf z state o
      → (schedule : List ℕ) (rows : List (List Reply)) → Goes z scripts (going 0 state) schedule rows → Goes z scripts (over o) schedule rows
  over-to size state o r ended is [] rows goes =
      (refl, one-row z state.trace o.replies.items rows is.replies (empty-replied z scripts state.trace rows goes.0))
  over-to size state o r ended is (lane ∷ schedule) rows goes =
      absurd (finished-leads z scripts state.trace lane schedule rows (ended lane) goes.0)

  over-for : (size : ℕ) (state : Reached) (o : Outcome) → IsReached z scripts size state
      → ((lane : ℕ) → is_finished z (world_of z scripts state.trace) lane ≡ true) → IsOutcomeOf z state o
      → StandsFor z scripts (going 0 state) (over o)
  over-for size state o r ended is = record {
    to = over-to size state o r ended is;
    back = λ schedule rows goes.
        subst (λ (s : List ℕ). Goes z scripts (going 0 state) s rows) (sym goes.0) (
          leads-empty z scripts state.schedule.items state.trace rows r.lawful ended
              (subst (λ (rs : List (List Reply)). AreReplied z state.trace rs) goes.1 is.replies),
          tt,
        );
    first = λ schedule rows goes.
        subst (λ (s : List ℕ). IsUpTo (o.schedule.items ++ schedule) (s ++ schedule)) is.schedule (upto-refl (o.schedule.items ++ schedule));
  }

  pub concluded : (size : ℕ) (state : Reached) (o : Outcome) (table new : List Outcome) → IsReached z scripts size state
      → ((lane : ℕ) → is_finished z (world_of z scripts state.trace) lane ≡ true) → AreShown z scripts table
      → IsOutcomeOf z state o → IsTold table o new → IsConcluded z scripts state table new
  concluded size state o table new r ended shown is joined =
      let so : EndsSo z scripts o.schedule.items o.replies.items = (
        state.trace,
        record {
          lawful = subst (λ (s : List ℕ). IsLawful z scripts s state.trace) (sym is.schedule) r.lawful;
          turns = r.turns ∙ sym r.entries ∙ sym (ap length is.schedule);
          ended = ended;
        },
        is.replies,
      ) in
      let after = told table o new shown so joined in
      record {
        shown = after.0;
        become = λ layer.
            become-trans z scripts (going 0 state ∷ with_states layer (with_outcomes table)) (over o ∷ with_states layer (with_outcomes table))
            (with_states layer (with_outcomes new))
            (become-same z scripts (going 0 state) (over o) (with_states layer (with_outcomes table)) (over-for size state o r ended is) is.ways)
            (become-trans z scripts (over o ∷ with_states layer (with_outcomes table)) (with_states layer (over o ∷ with_outcomes table))
            (with_states layer (with_outcomes new))
            (states-move (over o) layer (with_outcomes table))
            (states-cons layer (over o ∷ with_outcomes table) (with_outcomes new) after.1));
      }
