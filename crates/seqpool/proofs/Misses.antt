-- A clear marks exactly what a get would show; a call that misses a key comes behind a clear of it; a key has one content; and histories that go on.
use Rattle.std.proofs.Common.{◌≡◌, ◌⊎◌, ℕ, zero, suc, ◌<◌, ◌≤◌, Bool, true, false, ◌&&◌, cond, List, [], ◌∷◌, ◌++◌, length, take, Option, Some, None, refl, sym, ap, ◌∙◌, subst, arith, inl, inr}
use Rattle.std.proofs.lemmas.Bool.{and_parts, cases_Bool}
use mathlib.Core.Logic.{dite}
use native.Mathlib.Decide.{ℕ_discrete}
use Rattle.keybits.specs.declared.shape.Shape.{Shape}
use Rattle.keybits.specs.Keys.{place_of}
use Rattle.seqpool.specs.declared.act.Act.{Act}
use Rattle.seqpool.specs.declared.act.Act.TheVariants.{Publish, Get, Release, Clear, Reclaim, Home, Collect}
use Rattle.seqpool.specs.Pool.{Phase, with, published, home, retired, Pool, is_unmarked, content_in, is_current, found, clears, fresh, pool_from, IsLegal}
use Rattle.seqpool.specs.Histories.{At, PublishedAt, ClearedAt}
use Rattle.seqpool.specs.Laws.{ClearLaw, MissLaw, ContentLaw, LaterLaw}
use Rattle.seqpool.proofs.Growth.{legal-at}
use Rattle.seqpool.proofs.Positions.{at-take, from-take}
use Rattle.seqpool.proofs.Gets.{shown-before, once-law}

unmarked-shows : (p : Phase) → is_unmarked p ≡ true → (content : List ℕ) × (content_in p ≡ Some content)
unmarked-shows (with k) is = absurd (cc is)
unmarked-shows (published content references true) is = absurd (cc is)
unmarked-shows (published content references false) is = (content, refl)
unmarked-shows home is = absurd (cc is)
unmarked-shows retired is = absurd (cc is)

shows-unmarked : (p : Phase) (content : List ℕ) → content_in p ≡ Some content → is_unmarked p ≡ true
shows-unmarked (with k) content is = absurd (cc is)
shows-unmarked (published what references true) content is = absurd (cc is)
shows-unmarked (published what references false) content is = refl
shows-unmarked home content is = absurd (cc is)
shows-unmarked retired content is = absurd (cc is)

clears-found : (z : Shape) (P : Pool) (key : ℕ) → clears z P key ≡ true → (content : List ℕ) × (found z P key ≡ Some content)
clears-found z P key is =
    let parts = and_parts (is_current z P key) (is_unmarked (P (place_of key)).phase) is in
    let what = unmarked-shows (P (place_of key)).phase parts.1 in
    (what.0, ap (λ (b : Bool). cond b (content_in (P (place_of key)).phase) None) parts.0 ∙ what.1)

found-clears : (z : Shape) (P : Pool) (key : ℕ) (content : List ℕ) → found z P key ≡ Some content → clears z P key ≡ true
found-clears z P key content shows = elim (cases_Bool (is_current z P key)) [
  | inl here ↦
      let what : content_in (P (place_of key)).phase ≡ Some content = ap (λ (b : Bool). cond b (content_in (P (place_of key)).phase) None) (sym here) ∙ shows in
      ap (λ (b : Bool). b && is_unmarked (P (place_of key)).phase) here ∙ shows-unmarked (P (place_of key)).phase content what
  | inr gone ↦ let bad : None ≡ Some content = ap (λ (b : Bool). cond b (content_in (P (place_of key)).phase) None) (sym gone) ∙ shows in absurd (cc bad)
]

pub clear-law : ClearLaw
clear-law z history legal i lane key reply at =
    let P : Pool = pool_from z fresh (take i history) in
    let ok = legal-at z fresh history i (Clear lane key reply) legal at in (
      λ is. let what = clears-found z P key (sym ok.1 ∙ is) in (what.0, (shown-before z history i key what.0 legal).0 what.1),
      λ present. ok.1 ∙ found-clears z P key present.0 ((shown-before z history i key present.0 legal).1 present.1),
    )

-- whether an act is a clear of the key with reply true
is-clear : (x : Act) (key : ℕ) → ((lane : ℕ) × (x ≡ Clear lane key true)) ⊎ ((lane : ℕ) → x ≡ Clear lane key true → ⊥)
is-clear (Publish lane k content with_ref) key = inr (λ l is. cc is)
is-clear (Get lane k reply) key = inr (λ l is. cc is)
is-clear (Release lane k) key = inr (λ l is. cc is)
is-clear (Clear lane k true) key = dite (ℕ_discrete k key) (λ same. inl (lane, ap (λ (n : ℕ). Clear lane n true) same)) (λ other. inr (λ l is. other (cc is)))
is-clear (Clear lane k false) key = inr (λ l is. cc is)
is-clear (Reclaim lane k) key = inr (λ l is. cc is)
is-clear (Home lane place) key = inr (λ l is. cc is)
is-clear (Collect lane places) key = inr (λ l is. cc is)

none-in : (x : Act) (xs : List Act) (key : ℕ) → ((lane : ℕ) → x ≡ Clear lane key true → ⊥) → ((k : ℕ) → ClearedAt xs k key → ⊥) → (k : ℕ) → ClearedAt (x ∷ xs) k key → ⊥
none-in x xs key first rest zero (lane, at) = first lane (cc at)
none-in x xs key first rest (suc k) cleared = rest k cleared

-- a clear of the key stands in the history, or none does
find-clear : (history : List Act) (key : ℕ) → ((k : ℕ) × ClearedAt history k key) ⊎ ((k : ℕ) → ClearedAt history k key → ⊥)
find-clear [] key = inr (λ k cleared. cc cleared.1)
find-clear (x ∷ xs) key = elim (is-clear x key) [
  | inl here ↦ inl (0, (here.0, ap (λ (a : Act). let o : Option Act = Some a in o) here.1))
  | inr first ↦ elim (find-clear xs key) [
    | inl later ↦ inl (suc later.0, later.1)
    | inr rest ↦ inr (none-in x xs key first rest)
  ]
]

-- so a key that was published and isn't shown before a position was cleared before it
unshown-cleared : (z : Shape) (history : List Act) (i j key : ℕ) (content : List ℕ) → IsLegal z history → PublishedAt history j key content → j < i
    → (found z (pool_from z fresh (take i history)) key ≡ Some content → ⊥) → (k : ℕ) × (k < i) × ClearedAt history k key
unshown-cleared z history i j key content legal stands below unshown = elim (find-clear (take i history) key) [
  | inl cleared ↦ let at = from-take history i cleared.0 (Clear cleared.1.0 key true) cleared.1.1 in (cleared.0, at.0, (cleared.1.0, at.1))
  | inr none ↦ absurd (unshown ((shown-before z history i key content legal).1
      ((j, below, stands), λ k low (lane, at). none k (lane, at-take history i k (Clear lane key true) low at))))
]

pub miss-law : MissLaw
miss-law z history legal i j key content (lane, inl at) stands below =
    let ok = legal-at z fresh history i (Get lane key None) legal at in
    unshown-cleared z history i j key content legal stands below (λ shows. cc (ok.1 ∙ shows))
miss-law z history legal i j key content (lane, inr at) stands below =
    let ok = legal-at z fresh history i (Clear lane key false) legal at in
    unshown-cleared z history i j key content legal stands below
    (λ shows. cc (ok.1 ∙ found-clears z (pool_from z fresh (take i history)) key content shows))

one-content : (history : List Act) (i j key : ℕ) (content more : List ℕ) → i ≡ j → PublishedAt history i key content → PublishedAt history j key more → content ≡ more
one-content history i j key content more same (lane, with_ref, at) (other, other_ref, is) =
    let at_j : At history j (Publish lane key content with_ref) = subst (λ (n : ℕ). At history n (Publish lane key content with_ref)) same at in
    let both : Some (Publish lane key content with_ref) ≡ Some (Publish other key more other_ref) = sym at_j ∙ is in
    cc both

pub content-law : ContentLaw
content-law z history legal i j key content more first again =
    one-content history i j key content more (once-law z history legal i j key content more first again) first again

pub at-later : (xs rest : List Act) (i : ℕ) (act : Act) → At xs i act → At (xs ++ rest) i act
at-later [] rest i act is = absurd (cc is)
at-later (x ∷ xs) rest zero act is = is
at-later (x ∷ xs) rest (suc i) act is = at-later xs rest i act is

at-either : (xs rest : List Act) (i : ℕ) (act : Act) → At (xs ++ rest) i act → At xs i act ⊎ (length xs ≤ i)
at-either [] rest i act is = inr (omega arith)
at-either (x ∷ xs) rest zero act is = inl is
at-either (x ∷ xs) rest (suc i) act is = elim (at-either xs rest i act is) [
  | inl here ↦ inl here
  | inr behind ↦ inr (omega (arith, behind))
]

pub later-law : LaterLaw
later-law beginning history (more, is) = (
  λ i key content (lane, with_ref, at).
      (lane, with_ref, subst (λ (h : List Act). At h i (Publish lane key content with_ref)) is (at-later beginning more i (Publish lane key content with_ref) at)),
  λ i key (lane, at). elim (at-either beginning more i (Clear lane key true) (subst (λ (h : List Act). At h i (Clear lane key true)) (sym is) at)) [
    | inl here ↦ inl (lane, here)
    | inr behind ↦ inr behind
  ],
)
