-- The free places of a shard: its own list, its taken chain, and the places on its stacks.
use Rattle.std.proofs.Common.{◌≡◌, ◌≢◌, ⊎_elim, ℕ, zero, suc, ◌+◌, ◌<◌, ◌≤◌, true, Bool, cond, eqb, List, [], ◌∷◌, ◌++◌, map, Option, Some, None, ap, sym, ◌∙◌, subst, arith, append_assoc, append-nil, eq-eqb, ne_eqb}
use Rattle.std.specs.List.{Contains}
use Rattle.std.specs.Prelude.{slice_index_or, nat_lt, min}
use Rattle.std.proofs.lemmas.Bool.{and_from, lt-ltb}
use Rattle.std.proofs.lemmas.List.{map-append}
use Rattle.std.proofs.lemmas.List.Elements.{Contains-append_left, Contains-append_right, Contains-push, Contains-append_cases}
use mathlib.Core.Logic.{dite}
use native.Mathlib.Decide.{ℕ_discrete}
use Rattle.core.specs.declared.slots.Slots.{Slots}
use Rattle.core.specs.Mem.Slots.{slots_items}
use Rattle.keybits.specs.declared.shape.Shape.{Shape}
use Rattle.keybits.specs.declared.place.Place.{Place}
use Rattle.keybits.specs.declared.step.Word.TheVariants.{Stack}
use Rattle.keybits.specs.Places.{shard_of, number_of}
use Rattle.keybits.specs.Shapes.{IsShape, is_place}
use Rattle.keybits.specs.Counts.{times}
use Rattle.keybits.specs.Links.{link_to, linked_place, Leads}
use Rattle.keybits.proofs.CountLemmas.{times-head, times-append, one_at, none_at}
use Rattle.keybits.proofs.LinkLemmas.{linked_place-link_to, link_to-positive}
use Rattle.freelists.specs.Queues.{FreePlaces}
use Rattle.poolsteps.specs.Layout.{index_in, words_in}
use Rattle.poolsteps.specs.Returned.{rest_of}
use Rattle.shardpool.specs.LaneStates.{IsFirst}
use Rattle.shardpool.specs.Marks.{IsRow, Blanks, IsThread, AreThreads, stacked, pages_given, AreGiven, AreFreePlaces}
use Rattle.shardpool.proofs.count.Marks.{blanks-none, AreBlanked, blanks-then, blanks-words, read-word}

-- ---- the own list

-- a place of a list of places stands among their numbers, and a number among them is one's
pub number-among : (places : List Place) (at : Place) → Contains places at → 0 < times (number_of at) (map number_of places)
number-among [] at h = let low = h.1 in absurd (omega (arith, low))
number-among (p ∷ places) at h = ⊎_elim
    (λ (here : Contains (p ∷ []) at). let same : p ≡ at = only p at here in let one = one_at (number_of p) (number_of at) (ap number_of same) in omega arith)
    (λ (later : Contains places at). let rest = number-among places at later in omega arith)
    (Contains-append_cases (p ∷ []) places at h)
  where
    only : (p at : Place) → Contains (p ∷ []) at → p ≡ at
    only p at (zero, low, is) = is
    only p at (suc k, low, is) = absurd (omega (arith, low))

-- the place that has a number among those of a list
pub record Numbered (places : List Place) (n : ℕ) : Type 0 where
  pub at : Place
  pub within : Contains places at
  pub is : number_of at ≡ n

pub among-number : (places : List Place) (n : ℕ) → 0 < times n (map number_of places) → Numbered places n
among-number [] n some = absurd (omega arith)
among-number (p ∷ places) n some = dite (ℕ_discrete (number_of p) n)
    (λ here. record { at = p; within = Contains-append_left (p ∷ []) places p (Contains-push [] p); is = here })
    (λ other.
    let none = none_at (number_of p) n other in
    let rest = among-number places n (omega arith) in
    record { at = rest.at; within = Contains-append_right (p ∷ []) places rest.at rest.within; is = rest.is })

-- one place more came off the list
pub list-split : (own done left rest : List Place) (place : Place) → own ≡ done ++ left → left ≡ place ∷ rest → own ≡ (done ++ place ∷ []) ++ rest
list-split own done left rest place whole first = whole ∙ (ap (λ (l : List Place). done ++ l) first ∙ sym (append_assoc done (place ∷ []) rest))

pub list-holds : (own done left rest : List Place) (place : Place) → own ≡ done ++ left → left ≡ place ∷ rest → Contains own place
list-holds own done left rest place whole first =
    subst (λ (l : List Place). Contains l place) (sym (list-split own done left rest place whole first))
    (Contains-append_left (done ++ place ∷ []) rest place (Contains-push done place))

-- and is marked
pub list-blanks : (z : Shape) (done : List Place) (place : Place) (number : ℕ) (a b c : Slots ℕ) → number ≡ number_of place → Blanks z (map number_of done) a b → Blanks z (number ∷ []) b c
    → Blanks z (map number_of (done ++ place ∷ [])) a c
list-blanks z done place number a b c is before marks =
    subst (λ (l : List ℕ). Blanks z l a c) (sym (map-append number_of done (place ∷ [])))
    (blanks-then z (map number_of done) (number_of place ∷ []) a b c before (subst (λ (n : ℕ). Blanks z (n ∷ []) b c) is marks))

-- ---- threads beside marks

-- where link and stack words are as before, so are threads
pub thread-stays : (z : Shape) (places old new : List ℕ) (shard word : ℕ) (thread : List ℕ) → AreBlanked places (words_in z old) (words_in z new)
    → IsThread z old shard word thread → IsThread z new shard word thread
thread-stays z places old new shard word thread same h =
    record { leads = subst (λ (f : ℕ → ℕ). Leads f shard word thread) (sym same.link) h.leads; inside = h.inside }

pub threads-stay : (z : Shape) (places old new : List ℕ) (shard : ℕ) (threads : ℕ → List ℕ) → AreBlanked places (words_in z old) (words_in z new)
    → AreThreads z old shard threads → AreThreads z new shard threads
threads-stay z places old new shard threads same h lane below apart =
    subst (λ (f : ℕ → ℕ → ℕ). IsThread z new shard (f shard lane) (threads lane)) (sym same.stack)
    (thread-stays z places old new shard ((words_in z old).stack shard lane) (threads lane) same (h lane below apart))

-- and so do the places that guests returned
pub given-stay : (z : Shape) (places old new : List ℕ) (shard opened : ℕ) (given : List ℕ) → AreBlanked places (words_in z old) (words_in z new)
    → AreGiven z old shard opened given → AreGiven z new shard opened given
given-stay z places old new shard opened given same h = record {
  list = subst (λ (f : ℕ → ℕ → ℕ). given ≡ pages_given z shard (f shard) (min opened z.pages)) (sym same.bits) h.list;
  inside = h.inside;
}

-- and the free places of a shard
pub free-stays : (z : Shape) (places old new : List ℕ) (shard opened : ℕ) (free : FreePlaces) (chain : List ℕ) (threads : ℕ → List ℕ) (given : List ℕ)
    → AreBlanked places (words_in z old) (words_in z new)
    → AreFreePlaces z old shard opened free chain threads given → AreFreePlaces z new shard opened free chain threads given
free-stays z places old new shard opened free chain threads given same h = record {
  listed = h.listed;
  first = h.first;
  chained = (h.chained.0, thread-stays z places old new shard h.chained.0 chain same h.chained.1);
  returned = threads-stay z places old new shard threads same h.returned;
  given_are = given-stay z places old new shard opened given same h.given_are;
}

-- a thread by the link of its first place
pub thread-first : (z : Shape) (words : List ℕ) (shard word place : ℕ) (more : List ℕ) → IsThread z words shard word (place ∷ more)
    → IsThread z words shard (link_to place) (place ∷ more)
thread-first z words shard word place more h =
    let own : shard_of place ≡ shard = (h.inside place (times-head place more)).1 in record {
      leads = (link_to-positive place, sym (linked_place-link_to place) ∙ ap (λ (s : ℕ). linked_place s (link_to place)) own, h.leads.2);
      inside = h.inside;
    }

-- ---- the stacks

plus-one : (n : ℕ) → suc n ≡ n + 1
plus-one n = omega arith

-- one lane more
pub stacked-other : (shard lane : ℕ) (threads : ℕ → List ℕ) → lane ≢ shard → stacked shard threads (lane + 1) ≡ stacked shard threads lane ++ threads lane
stacked-other shard lane threads other = ap (stacked shard threads) (sym (plus-one lane))
    ∙ ap (λ (b : Bool). stacked shard threads lane ++ cond b [] (threads lane)) (ne_eqb lane shard other)

pub stacked-own : (shard lane : ℕ) (threads : ℕ → List ℕ) → lane ≡ shard → stacked shard threads (lane + 1) ≡ stacked shard threads lane
stacked-own shard lane threads own = ap (stacked shard threads) (sym (plus-one lane))
    ∙ (ap (λ (b : Bool). stacked shard threads lane ++ cond b [] (threads lane)) (eq-eqb lane shard own) ∙ append-nil (stacked shard threads lane))

-- a place on the stacks is one of a lane's
pub record StandsOn (shard : ℕ) (threads : ℕ → List ℕ) (lanes place : ℕ) : Type 0 where
  pub lane : ℕ
  pub below : lane < lanes
  pub apart : lane ≢ shard
  pub among : 0 < times place (threads lane)

stands-further : (shard lanes : ℕ) (threads : ℕ → List ℕ) (place : ℕ) → StandsOn shard threads lanes place → StandsOn shard threads (suc lanes) place
stands-further shard lanes threads place on = let low = on.below in record { lane = on.lane; below = omega arith; apart = on.apart; among = on.among }

pub stands-on : (shard lanes : ℕ) (threads : ℕ → List ℕ) (place : ℕ) → 0 < times place (stacked shard threads lanes) → StandsOn shard threads lanes place
stands-on shard zero threads place some = absurd (omega arith)
stands-on shard (suc lanes) threads place some = dite (ℕ_discrete lanes shard)
    (λ own.
    let whole : 0 < times place (stacked shard threads lanes)
    = subst (λ (l : List ℕ). 0 < times place l) (ap (stacked shard threads) (plus-one lanes) ∙ stacked-own shard lanes threads own) some in
    stands-further shard lanes threads place (stands-on shard lanes threads place whole))
    (λ other. dite (ℕ_discrete (times place (threads lanes)) 0)
    (λ none.
    let both = times-append place (stacked shard threads lanes) (threads lanes) in
    let whole : 0 < times place (stacked shard threads lanes ++ threads lanes)
    = subst (λ (l : List ℕ). 0 < times place l) (ap (stacked shard threads) (plus-one lanes) ∙ stacked-other shard lanes threads other) some in
    stands-further shard lanes threads place (stands-on shard lanes threads place (omega arith)))
    (λ more. record { lane = lanes; below = omega arith; apart = other; among = omega arith }))

pub on-stacks : (shard lanes lane : ℕ) (threads : ℕ → List ℕ) (place : ℕ) → lane < lanes → lane ≢ shard → 0 < times place (threads lane)
    → 0 < times place (stacked shard threads lanes)
on-stacks shard zero lane threads place below apart some = absurd (omega arith)
on-stacks shard (suc lanes) lane threads place below apart some =
    let both = times-append place (stacked shard threads lanes) (cond (eqb lanes shard) [] (threads lanes)) in
    dite (ℕ_discrete lane lanes)
    (λ here.
    let list : cond (eqb lanes shard) [] (threads lanes) ≡ threads lane
    = ap (λ (b : Bool). cond b [] (threads lanes)) (ne_eqb lanes shard (λ e. apart (here ∙ e))) ∙ ap threads (sym here) in
    let same = ap (times place) list in
    omega arith)
    (λ other. let rest = on-stacks shard lanes lane threads place (omega arith) apart some in omega arith)

-- the places on the stacks of a shard are places of the shard
pub stacked-inside : (z : Shape) (words : List ℕ) (shard lanes : ℕ) (threads : ℕ → List ℕ) → AreThreads z words shard threads → lanes ≤ z.lanes
    → (place : ℕ) → 0 < times place (stacked shard threads lanes) → (is_place z place ≡ true) × (shard_of place ≡ shard)
stacked-inside z words shard lanes threads h most place some =
    let on = stands-on shard lanes threads place some in
    let low = on.below in
    (h on.lane (omega arith) on.apart).inside place on.among

-- ---- all of them

-- the places of the own list are places of the shape
pub list-inside : (z : Shape) (own : List Place) → ((place : Place) → Contains own place → is_place z (number_of place) ≡ true)
    → (place : ℕ) → 0 < times place (map number_of own) → is_place z place ≡ true
list-inside z own listed place some = let on = among-number own place some in subst (λ (n : ℕ). is_place z n ≡ true) on.is (listed on.at on.within)

-- what a taken chain's first place says of it
chain-none : (first : Option Place) (chain : List ℕ) → first ≡ None → IsFirst first chain → chain ≡ []
chain-none None chain is h = h
chain-none (Some p) chain is h = absurd (cc is)

chain-some : (first : Option Place) (chain : List ℕ) (place : Place) → first ≡ Some place → IsFirst first chain → chain ≡ number_of place ∷ rest_of chain
chain-some None chain place is h = absurd (cc is)
chain-some (Some p) chain place is h = h ∙ ap (λ (q : Place). number_of q ∷ rest_of chain) (cc is)

module _ (z : Shape) (ok : IsShape z) (old : Slots ℕ) (row : IsRow z old) (shard opened : ℕ) (free : FreePlaces) (chain : List ℕ) (threads : ℕ → List ℕ) (given : List ℕ)
    (h : AreFreePlaces z (slots_items old) shard opened free chain threads given) where
  -- the chain hangs by the link of its first place
  pub chain-hangs : (place : Place) → free.chain ≡ Some place → IsThread z (slots_items old) shard (link_to (number_of place)) chain
  chain-hangs place is =
      let split = chain-some free.chain chain place is h.first in
      subst (λ (l : List ℕ). IsThread z (slots_items old) shard (link_to (number_of place)) l) (sym split)
      (thread-first z (slots_items old) shard h.chained.0 (number_of place) (rest_of chain)
      (subst (λ (l : List ℕ). IsThread z (slots_items old) shard h.chained.0 l) split h.chained.1))

  -- the chain is marked, where one hangs, and else there is none
  pub chain-marked : (then : Slots ℕ) (place : Place) (link : ℕ) → free.chain ≡ Some place → link ≡ link_to (number_of place)
      → ((thread : List ℕ) → IsThread z (slots_items old) shard link thread → Blanks z thread old then) → Blanks z chain old then
  chain-marked then place link is at marks = marks chain (subst (λ (w : ℕ). IsThread z (slots_items old) shard w chain) (sym at) (chain-hangs place is))

  pub no-chain : free.chain ≡ None → Blanks z chain old old
  no-chain is = subst (λ (l : List ℕ). Blanks z l old old) (sym (chain-none free.chain chain is h.first)) (blanks-none z old row)

  -- after the chain the stacks stand as before
  pub stacks-stand : (now : Slots ℕ) → Blanks z chain old now → AreThreads z (slots_items now) shard threads
  stacks-stand now marks = threads-stay z chain (slots_items old) (slots_items now) shard threads
      (blanks-words z ok chain old now row (λ place some. (h.chained.1.inside place some).0) marks) h.returned

  -- and after these the places that guests returned
  pub given-stand : (mid now : Slots ℕ) → Blanks z chain old mid → Blanks z (stacked shard threads z.lanes) mid now → AreGiven z (slots_items now) shard opened given
  given-stand mid now marks more =
      let first = blanks-words z ok chain old mid row (λ place some. (h.chained.1.inside place some).0) marks in
      let then = blanks-words z ok (stacked shard threads z.lanes) mid now marks.row
      (λ place some. (stacked-inside z (slots_items old) shard z.lanes threads h.returned (omega arith) place some).0) more in
      given-stay z (stacked shard threads z.lanes) (slots_items mid) (slots_items now) shard opened given then
      (given-stay z chain (slots_items old) (slots_items mid) shard opened given first h.given_are)

-- the word of the next stack leads through its thread, after the stacks before it were marked
pub next-thread : (z : Shape) → IsShape z → (old : Slots ℕ) → IsRow z old → (shard : ℕ) → shard < z.lanes → (threads : ℕ → List ℕ) → AreThreads z (slots_items old) shard threads
    → (lane : ℕ) → lane < z.lanes → lane ≢ shard → (now : Slots ℕ) → Blanks z (stacked shard threads lane) old now
    → (i v : ℕ) → i ≡ index_in z (Stack shard lane) → v ≡ slice_index_or (slots_items now) i v → IsThread z (slots_items now) shard v (threads lane)
next-thread z ok old row shard low threads h lane below apart now marks i v at read =
    let same = blanks-words z ok (stacked shard threads lane) old now row (λ place some. (stacked-inside z (slots_items old) shard lane threads h (omega arith) place some).0) marks in
    let stays = threads-stay z (stacked shard threads lane) (slots_items old) (slots_items now) shard threads same h lane below apart in
    let has = and_from (nat_lt shard z.lanes) (nat_lt lane z.lanes) (lt-ltb shard z.lanes low) (lt-ltb lane z.lanes below) in
    let is = read-word z ok now marks.row (Stack shard lane) has i v at read in
    subst (λ (w : ℕ). IsThread z (slots_items now) shard w (threads lane)) (sym is) stays
