-- Walks along the link words of a pool, which mark each place.
use Rattle.std.proofs.Common.{◌≡◌, ◌≢◌, ℕ, zero, suc, ◌+◌, ◌<◌, ◌≤◌, true, Bool, cond, eqb, List, [], ◌∷◌, ◌++◌, length, refl, ap, sym, ◌∙◌, subst, arith, append_assoc, append-nil, length-append, eq-eqb, ne_eqb}
use mathlib.Core.Logic.{dite}
use native.Mathlib.Decide.{ℕ_discrete}
use Rattle.std.specs.Prelude.{slice_index_or}
use Rattle.core.specs.declared.slots.Slots.{Slots}
use Rattle.core.specs.Mem.Slots.{slots_items}
use Rattle.keybits.specs.declared.shape.Shape.{Shape}
use Rattle.keybits.specs.declared.step.Word.TheVariants.{Link}
use Rattle.keybits.specs.Shapes.{IsShape, is_place}
use Rattle.keybits.specs.Counts.{times}
use Rattle.keybits.specs.Links.{linked_place, Leads}
use Rattle.keybits.proofs.CountLemmas.{times-head, times-append, one_at, none_at, length_le}
use Rattle.keybits.proofs.LeadLemmas.{leads-one, leads-word, leads-zero}
use Rattle.keybits.proofs.ShapeLemmas.{place_bounds}
use Rattle.poolsteps.specs.Layout.{index_in, words_in}
use Rattle.shardpool.specs.Marks.{IsRow, Blanks, IsThread}
use Rattle.shardpool.proofs.count.Marks.{blanks-none, blanks-then, blanks-words, read-word}

-- ---- threads

-- behind a place of a thread the links lead through what follows it
leads-behind : (f : ℕ → ℕ) (shard word x : ℕ) (front rest : List ℕ) → Leads f shard word (front ++ x ∷ rest) → Leads f shard (f x) rest
leads-behind f shard word x [] rest h = h.2
leads-behind f shard word x (y ∷ front) rest h = leads-behind f shard (f y) x front rest h.2

-- what is in a list splits it
pub record SplitsAt (x : ℕ) (xs : List ℕ) : Type 0 where
  pub front : List ℕ
  pub rest : List ℕ
  pub whole : xs ≡ front ++ x ∷ rest

splits-at : (x : ℕ) (xs : List ℕ) → 0 < times x xs → SplitsAt x xs
splits-at x [] some = absurd (omega arith)
splits-at x (y ∷ ys) some = dite (ℕ_discrete y x)
    (λ same. record { front = []; rest = ys; whole = ap (λ (n : ℕ). n ∷ ys) same })
    (λ other.
    let none = none_at y x other in
    let deep = splits-at x ys (omega arith) in
    record { front = y ∷ deep.front; rest = deep.rest; whole = ap (λ (l : List ℕ). y ∷ l) deep.whole })

-- no thread has a place twice: it would have no end
pub leads-once : (f : ℕ → ℕ) (shard word : ℕ) (places : List ℕ) → Leads f shard word places → (x : ℕ) → times x places ≤ 1
leads-once f shard word [] h x = omega arith
leads-once f shard word (y ∷ more) h x = dite (ℕ_discrete y x)
    (λ same. dite (ℕ_discrete (times x more) 0)
    (λ none. let one = one_at y x same in omega arith)
    (λ again.
    let s = splits-at x more (omega arith) in
    let on : Leads f shard (f y) (s.front ++ x ∷ s.rest) = subst (Leads f shard (f y)) s.whole h.2 in
    let back : Leads f shard (f x) s.rest = leads-behind f shard (f y) x s.front s.rest on in
    let twice : more ≡ s.rest = leads-one f shard (f y) more s.rest h.2 (subst (λ n. Leads f shard (f n) s.rest) (sym same) back) in
    let long = ap length twice in
    let longer = ap length s.whole ∙ length-append s.front (x ∷ s.rest) in
    absurd (omega arith)))
    (λ other. let none = none_at y x other in let rest = leads-once f shard (f y) more h.2 x in omega arith)

-- how many places the links lead through from a word, up to so many
pub walk_length : (ℕ → ℕ) → ℕ → ℕ → ℕ → ℕ
walk_length links shard zero word = 0
walk_length links shard (suc most) word = cond (eqb word 0) 0 (walk_length links shard most (links (linked_place shard word)) + 1)

pub walk-length : (links : ℕ → ℕ) (shard most word : ℕ) (places : List ℕ) → Leads links shard word places → length places ≤ most → walk_length links shard most word ≡ length places
unfolding walk_length
walk-length links shard zero word [] h few = refl
walk-length links shard zero word (x ∷ more) h few = absurd (omega arith)
walk-length links shard (suc most) word [] h few = ap (λ (b : Bool). cond b 0 (walk_length links shard most (links (linked_place shard word)) + 1)) (eq-eqb word 0 h)
walk-length links shard (suc most) word (x ∷ more) h few =
    let some : 0 < word = h.0 in
    let rest : walk_length links shard most (links (linked_place shard word)) ≡ length more
    = walk-length links shard most (links (linked_place shard word)) more (subst (λ n. Leads links shard (links n) more) h.1 h.2) (omega arith) in
    ap (λ (b : Bool). cond b 0 (walk_length links shard most (links (linked_place shard word)) + 1)) (ne_eqb word 0 (λ e. absurd (omega arith))) ∙ omega arith

-- a thread isn't longer than there are numbers of places
pub thread-few : (z : Shape) → IsShape z → (words : List ℕ) (shard word : ℕ) (thread : List ℕ) → IsThread z words shard word thread → length thread ≤ 16777216
thread-few z ok words shard word thread h =
    length_le 16777216 thread (λ x some. (place_bounds z ok x (h.inside x some).0).number) (leads-once (words_in z words).link shard word thread h.leads)

-- ---- a walk along a thread

-- so far a walk along the thread has marked these places, and the word leads to the others
pub record Walked (z : Shape) (shard : ℕ) (old : Slots ℕ) (thread : List ℕ) (word : ℕ) (now : Slots ℕ) : Type 0 where
  pub done : List ℕ
  pub left : List ℕ
  pub whole : thread ≡ done ++ left
  pub blanks : Blanks z done old now
  pub leads : Leads (words_in z (slots_items old)).link shard word left

pub walk-begins : (z : Shape) (shard word : ℕ) (words : Slots ℕ) (thread : List ℕ) → IsRow z words → IsThread z (slots_items words) shard word thread
    → Walked z shard words thread word words
walk-begins z shard word words thread row h = record { done = []; left = thread; whole = refl; blanks = blanks-none z words row; leads = h.leads }

-- the next place of a walk
pub record Walks (z : Shape) (shard : ℕ) (old : Slots ℕ) (thread : List ℕ) (word : ℕ) (now : Slots ℕ) : Type 0 where
  pub done : List ℕ
  pub more : List ℕ
  pub whole : thread ≡ done ++ linked_place shard word ∷ more
  pub blanks : Blanks z done old now
  pub on : Leads (words_in z (slots_items old)).link shard ((words_in z (slots_items old)).link (linked_place shard word)) more
  pub inside : is_place z (linked_place shard word) ≡ true
  pub small : word ≤ 65536
  pub length_is : walk_length (words_in z (slots_items old)).link shard 16777216 word ≡ length more + 1
  pub length_then : walk_length (words_in z (slots_items old)).link shard 16777216 ((words_in z (slots_items old)).link (linked_place shard word)) ≡ length more
  pub same : (words_in z (slots_items now)).link ≡ (words_in z (slots_items old)).link

walks-from : (z : Shape) → IsShape z → (shard first word : ℕ) (old now : Slots ℕ) (thread done left : List ℕ) → IsRow z old → IsThread z (slots_items old) shard first thread
    → thread ≡ done ++ left → Blanks z done old now → Leads (words_in z (slots_items old)).link shard word left → word ≢ 0 → Walks z shard old thread word now
walks-from z ok shard first word old now thread done [] row h whole blanks leads on = absurd (on leads)
walks-from z ok shard first word old now thread done (x ∷ more) row h whole blanks leads on =
    let link : ℕ → ℕ = (words_in z (slots_items old)).link in
    let few = thread-few z ok (slots_items old) shard first thread h in
    let long = ap length whole ∙ length-append done (x ∷ more) in
    let at : x ≡ linked_place shard word = leads.1 in
    let amid : (y : ℕ) → 0 < times y (x ∷ more) → 0 < times y thread = λ y some.
    subst (λ (l : List ℕ). 0 < times y l) (sym whole) (let both = times-append y done (x ∷ more) in omega arith) in
    let next : Leads link shard (link (linked_place shard word)) more = subst (λ n. Leads link shard (link n) more) at leads.2 in
    record {
      done = done;
      more = more;
      whole = whole ∙ ap (λ n. done ++ n ∷ more) at;
      blanks = blanks;
      on = next;
      inside = subst (λ n. is_place z n ≡ true) at (h.inside x (amid x (times-head x more))).0;
      small = leads-word link shard word (x ∷ more) (λ y some. (h.inside y (amid y some)).1) leads;
      length_is = walk-length link shard 16777216 word (x ∷ more) leads (omega arith) ∙ omega arith;
      length_then = walk-length link shard 16777216 (link (linked_place shard word)) more next (omega arith);
      same = (blanks-words z ok done old now row (λ y some. (h.inside y (subst (λ (l : List ℕ). 0 < times y l) (sym whole)
          (let both = times-append y done (x ∷ more) in omega arith))).0) blanks).link;
    }

pub walks : (z : Shape) → IsShape z → (shard first word : ℕ) (old now : Slots ℕ) (thread : List ℕ) → IsRow z old → IsThread z (slots_items old) shard first thread
    → Walked z shard old thread word now → word ≢ 0 → Walks z shard old thread word now
walks z ok shard first word old now thread row h w on = walks-from z ok shard first word old now thread w.done w.left row h w.whole w.blanks w.leads on

-- the place was marked, and the walk goes on by the link word that stands there
pub walk-goes : (z : Shape) (shard word next : ℕ) (old now new : Slots ℕ) (thread : List ℕ) → Walks z shard old thread word now
    → Blanks z (linked_place shard word ∷ []) now new → next ≡ (words_in z (slots_items old)).link (linked_place shard word) → Walked z shard old thread next new
walk-goes z shard word next old now new thread w marks is = record {
  done = w.done ++ linked_place shard word ∷ [];
  left = w.more;
  whole = w.whole ∙ sym (append_assoc w.done (linked_place shard word ∷ []) w.more);
  blanks = blanks-then z w.done (linked_place shard word ∷ []) old now new w.blanks marks;
  leads = subst (λ (n : ℕ). Leads (words_in z (slots_items old)).link shard n w.more) (sym is) w.on;
}

-- the link word that is read behind the mark is the one that stood there
pub walk-reads : (z : Shape) → IsShape z → (shard word place i v : ℕ) (old now new : Slots ℕ) (thread : List ℕ) → Walks z shard old thread word now
    → place ≡ linked_place shard word → Blanks z (place ∷ []) now new → i ≡ index_in z (Link place) → v ≡ slice_index_or (slots_items new) i v
    → v ≡ (words_in z (slots_items old)).link (linked_place shard word)
walk-reads z ok shard word place i v old now new thread w is marks at read =
    let inside : is_place z place ≡ true = ap (is_place z) is ∙ w.inside in
    let one : (y : ℕ) → 0 < times y (place ∷ []) → is_place z y ≡ true = λ y some. dite (ℕ_discrete place y)
    (λ same. subst (λ n. is_place z n ≡ true) same inside)
    (λ other. let none = none_at place y other in absurd (omega arith)) in
    let link = (blanks-words z ok (place ∷ []) now new w.blanks.row one marks).link in
    read-word z ok new marks.row (Link place) inside i v at read ∙ ((λ k. (link ∙ w.same) k place) ∙ ap (words_in z (slots_items old)).link is)

-- at the end of a walk all places of the thread are marked
pub walk-ends : (z : Shape) (shard word : ℕ) (old now : Slots ℕ) (thread : List ℕ) → Walked z shard old thread word now → word ≡ 0 → Blanks z thread old now
walk-ends z shard word old now thread w end =
    let none : w.left ≡ [] = leads-zero (words_in z (slots_items old)).link shard word w.left end w.leads in
    subst (λ (l : List ℕ). Blanks z l old now) (sym (w.whole ∙ (ap (λ (l : List ℕ). w.done ++ l) none ∙ append-nil w.done))) w.blanks
