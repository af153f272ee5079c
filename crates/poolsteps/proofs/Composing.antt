-- Steps of one seat on one word, one after another with nothing in between, are one step of the table.
use Rattle.std.proofs.Common.{◌≡◌, ℕ, zero, suc, ◌<◌, List, [], ◌∷◌, length, length-set, slice_index, slice_set, refl, ap, sym, ◌∙◌, subst, get_or-set_same}
use mathlib.Core.Option.{Option, some, some-ne-none}
use lib.ListN.{get_elem?}
use Rattle.atomic_table.specs.Table as table
use Rattle.atomic_table.specs.Table.{State, Me, Act, put_back, carried_after, homes_after, Valid, stepped, Allows}

module _ {A : Type 0} where
  -- of two changes of one element the second is left
  set-twice : (xs : List A) (i : ℕ) (a b : A) → slice_set (slice_set xs i a) i b ≡ slice_set xs i b
  set-twice [] i a b = refl
  set-twice (x ∷ xs) zero a b = refl
  set-twice (x ∷ xs) (suc i) a b = ap (λ (rest : List A). x ∷ rest) (set-twice xs i a b)

  at-set-here : (xs : List A) (i : ℕ) (a b : A) → get_elem? xs i ≡ some a → get_elem? (slice_set xs i b) i ≡ some b
  at-set-here [] i a b e = absurd (some-ne-none a (sym e))
  at-set-here (x ∷ xs) zero a b e = refl
  at-set-here (x ∷ xs) (suc i) a b e = at-set-here xs i a b e

module _ {S : Type 0} where
  put-back-length : (homes : List (Option S)) (carried : List (ℕ × S)) → length (put_back homes carried) ≡ length homes
  put-back-length homes [] = refl
  put-back-length homes (x ∷ more) = length-set homes x.0 (some x.1)

  homes-length : (homes : List (Option S)) (carried : List (ℕ × S)) (act : Act S) → length (homes_after homes carried act) ≡ length homes
  homes-length homes carried table.keeps = refl
  homes-length homes carried (table.takes k y) = length-set homes k _
  homes-length homes carried table.gives = put-back-length homes carried
  homes-length homes carried (table.chain a b) = homes-length (homes_after homes carried a) (carried_after carried a) b ∙ homes-length homes carried a

module _ {S V : Type 0} (holds : State S V → Type 0) (id i : ℕ) where
  -- at this table the word may become this number, and the seat is then told this
  abbrev pub Comes : State S V → Me S V → ℕ → (Me S V → Type 0) → Type 0
  Comes s me left then = (w : V) × (a : Act S) × Valid s.homes me.1 a × holds (stepped s i left id me.1 w a) × then (w, carried_after me.1 a)

  -- the rule holds of this table, in which the seat has its view and the word is this
  pub record Stood (slots : ℕ) (s : State S V) (me : Me S V) (found : ℕ) : Type 0 where
    pub kept : holds s
    pub homes : length s.homes ≡ slots
    pub inside : i < length s.words
    pub at : get_elem? s.views id ≡ some me.0
    pub word : slice_index s.words i ≡ found

  -- a step that the table allows is one that may come here
  pub comes-of : {slots : ℕ} {s : State S V} {me : Me S V} {found : ℕ} → Stood slots s me found → (f : ℕ → ℕ) (then : ℕ → Me S V → Type 0)
      → Allows holds slots id me i f then → found < 18446744073709551616 → (left : ℕ) → f found ≡ left → Comes s me left (then found)
  comes-of {slots} {s} {me} {found} stood f then allows small left gives =
      let step = allows s stood.kept stood.homes stood.at (subst (λ (n : ℕ). n < 18446744073709551616) (sym stood.word) small) in (
        step.0,
        step.1,
        step.2,
        subst (λ (n : ℕ). holds (stepped s i n id me.1 step.0 step.1)) (ap f stood.word ∙ gives) step.3,
        subst (λ (n : ℕ). then n (step.0, carried_after me.1 step.1)) stood.word step.4,
      )

  -- a step that may come here, and another that may come after it, are one
  pub comes-next : {slots : ℕ} {s : State S V} {me : Me S V} {found : ℕ} → Stood slots s me found → (left right : ℕ) (one : Me S V → Type 0) (two : Me S V → Me S V → Type 0)
      → Comes s me left one → ((next : State S V) (mid : Me S V) → Stood slots next mid left → one mid → Comes next mid right (two mid))
      → Comes s me right (λ after. (mid : Me S V) × one mid × two mid after)
  comes-next {slots} {s} {me} {found} stood left right one two first second =
      let w : V = first.0 in
      let a : Act S = first.1 in
      let next : State S V = stepped s i left id me.1 w a in
      let mid : Me S V = (w, carried_after me.1 a) in
      let more = second next mid record {
        kept = first.3;
        homes = homes-length s.homes me.1 a ∙ stood.homes;
        inside = subst (λ (n : ℕ). i < n) (sym (length-set s.words i left)) stood.inside;
        at = at-set-here s.views id me.0 w stood.at;
        word = get_or-set_same s.words i left 0 stood.inside;
      } first.4 in
      let homes : List (Option S) = homes_after next.homes mid.1 more.1 in (
        more.0,
        table.chain a more.1,
        (first.2, more.2),
        subst (λ (words : List ℕ). holds record { words = words; homes = homes; views = slice_set s.views id more.0 }) (set-twice s.words i left right)
            (subst (λ (views : List V). holds record { words = slice_set next.words i right; homes = homes; views = views }) (set-twice s.views id w more.0) more.3),
        (mid, first.4, more.4),
      )
