-- The home places of a shard, as the words tell them.
use Rattle.std.proofs.Common.{◌≡◌, ◌≢◌, ℕ, ◌+◌, ◌<◌, ◌≤◌, Bool, true, false, cond, eqb, ◌&&◌, ◌||◌, List, [], ◌∷◌, refl, ap, sym, ◌∙◌, subst, arith, eq-eqb, ne_eqb}
use mathlib.Core.Logic.{dite}
use native.Mathlib.Decide.{ℕ_discrete}
use Rattle.keybits.specs.declared.shape.Shape.{Shape}
use Rattle.keybits.specs.Places.{shard_of}
use Rattle.keybits.specs.Shapes.{is_place}
use Rattle.keybits.specs.Links.{link_to, linked_place, Leads}
use Rattle.keybits.proofs.LinkLemmas.{linked_place-link_to, link_to-positive}
use Rattle.keybits.specs.Counts.{times}
use Rattle.keybits.specs.Homes.{times_stacked, AreHomeBy}
use Rattle.keybits.specs.HomeLaws.{FunctionLaw, EmptyLaw, UnchangedLaw, PushLaw, TakeLaw, with_place}
use Rattle.keybits.proofs.CountLemmas.{count_if, one_at, none_at, sum-none, sum-same, sum-at, sum-part}
use Rattle.keybits.proofs.LeadLemmas.{leads-same, leads-one}

-- how often a place stands on one lane's stack
abbrev on_stack : ℕ → (ℕ → List ℕ) → ℕ → ℕ → ℕ
on_stack shard threads place lane = cond (eqb lane shard) 0 (times place (threads lane))

on_other : (shard place lane : ℕ) (threads : ℕ → List ℕ) → lane ≢ shard → on_stack shard threads place lane ≡ times place (threads lane)
on_other shard place lane threads other = ap (λ (b : Bool). cond b 0 (times place (threads lane))) (ne_eqb lane shard other)

on_own : (shard place lane : ℕ) (threads : ℕ → List ℕ) → lane ≡ shard → on_stack shard threads place lane ≡ 0
on_own shard place lane threads same = ap (λ (b : Bool). cond b 0 (times place (threads lane))) (eq-eqb lane shard same)

-- lists that are the same from stack to stack have the same places
same_stacks : (lanes shard place : ℕ) (threads others : ℕ → List ℕ) → ((lane : ℕ) → lane < lanes → lane ≢ shard → threads lane ≡ others lane)
    → times_stacked lanes shard threads place ≡ times_stacked lanes shard others place
same_stacks lanes shard place threads others same = sum-same lanes (on_stack shard threads place) (on_stack shard others place)
    (λ lane below. dite (ℕ_discrete lane shard)
    (λ own. on_own shard place lane threads own ∙ sym (on_own shard place lane others own))
    (λ other. on_other shard place lane threads other ∙ (ap (times place) (same lane below other) ∙ sym (on_other shard place lane others other))))

-- what stands on a lane's stack stands on the stacks
on_one : (lanes shard lane place : ℕ) (threads : ℕ → List ℕ) → lane < lanes → lane ≢ shard → times place (threads lane) ≤ times_stacked lanes shard threads place
on_one lanes shard lane place threads below other =
    let part : on_stack shard threads place lane ≤ times_stacked lanes shard threads place = sum-part lanes lane (on_stack shard threads place) below in
    let here : on_stack shard threads place lane ≡ times place (threads lane) = on_other shard place lane threads other in
    omega arith

-- what changes where the list of one lane is changed alone
at_one : (lanes shard lane place : ℕ) (threads after : ℕ → List ℕ) → lane < lanes → lane ≢ shard
    → ((other : ℕ) → other < lanes → other ≢ lane → after other ≡ threads other)
    → times_stacked lanes shard after place + times place (threads lane) ≡ times_stacked lanes shard threads place + times place (after lane)
at_one lanes shard lane place threads after below apart same =
    let whole : times_stacked lanes shard after place + on_stack shard threads place lane ≡ times_stacked lanes shard threads place + on_stack shard after place lane =
    sum-at lanes lane (on_stack shard after place) (on_stack shard threads place) below
    (λ k less other. ap (λ (l : List ℕ). cond (eqb k shard) 0 (times place l)) (same k less other)) in
    let left : on_stack shard threads place lane ≡ times place (threads lane) = on_other shard place lane threads apart in
    let right : on_stack shard after place lane ≡ times place (after lane) = on_other shard place lane after apart in
    omega arith

unequal : (one none : ℕ) → one ≡ 1 → none ≡ 0 → one ≡ none → ⊥
unequal one none a b e = omega arith

same_bit : (a b : Bool) → count_if a ≡ count_if b → a ≡ b
same_bit true true e = refl
same_bit false false e = refl
same_bit true false e = absurd (unequal (count_if true) (count_if false) refl refl e)
same_bit false true e = absurd (unequal (count_if true) (count_if false) refl refl (sym e))

pub bit-le : (b : Bool) → count_if b ≤ 1
bit-le true = omega arith
bit-le false = omega arith

pub bit_true : (b : Bool) → 0 < count_if b → b ≡ true
bit_true true h = refl
bit_true false h = let bad : 0 < 0 = h in absurd (omega arith)

-- a place on a stack is home
pub home_on : (threads : ℕ → List ℕ) (z : Shape) (shard : ℕ) (links stacks : ℕ → ℕ) (home : ℕ → Bool) → AreHomeBy threads z shard links stacks home
    → (lane place : ℕ) → lane < z.lanes → lane ≢ shard → 0 < times place (threads lane) → home place ≡ true
home_on threads z shard links stacks home h lane place below other some =
    let part = on_one z.lanes shard lane place threads below other in
    let once : times_stacked z.lanes shard threads place ≡ count_if (home place) = h.each_once place in
    bit_true (home place) (omega arith)

pub function-law : FunctionLaw
function-law z shard links stacks home other (threads, h) (others, k) place =
    let same : times_stacked z.lanes shard threads place ≡ times_stacked z.lanes shard others place = same_stacks z.lanes shard place threads others
    (λ lane below apart. leads-one links shard (stacks lane) (threads lane) (others lane) (h.leads lane below apart) (k.leads lane below apart)) in
    same_bit (home place) (other place) (sym (h.each_once place) ∙ (same ∙ k.each_once place))

pub empty-law : EmptyLaw
empty-law z shard links stacks none = (
  λ lane. [],
  record {
    leads = λ lane below other. none lane below other;
    each_once = λ place. sum-same z.lanes (on_stack shard (λ lane. []) place) (λ k. 0) (λ lane below. dite (ℕ_discrete lane shard)
        (λ own. on_own shard place lane (λ l. []) own) (λ other. on_other shard place lane (λ l. []) other)) ∙ sum-none z.lanes;
    inside = λ place bad. absurd (cc bad);
  },
)

pub unchanged-law : UnchangedLaw
unchanged-law z shard links stacks links_after stacks_after home same_links same_stacks (threads, h) = (
  threads,
  record {
    leads = λ lane below other.
        let kept : Leads links_after shard (stacks lane) (threads lane) = leads-same links links_after shard (stacks lane) (threads lane)
        (λ place some. same_links place (home_on threads z shard links stacks home h lane place below other some)) (h.leads lane below other) in
        subst (λ w. Leads links_after shard w (threads lane)) (sym (same_stacks lane below other)) kept;
    each_once = h.each_once;
    inside = h.inside;
  },
)

-- the lists of the lanes, with that of one changed
abbrev with_list : (ℕ → List ℕ) → ℕ → List ℕ → ℕ → List ℕ
with_list threads lane list other = cond (eqb other lane) list (threads other)

list_here : (threads : ℕ → List ℕ) (lane : ℕ) (list : List ℕ) (other : ℕ) → other ≡ lane → with_list threads lane list other ≡ list
list_here threads lane list other same = ap (λ (b : Bool). cond b list (threads other)) (eq-eqb other lane same)

list_there : (threads : ℕ → List ℕ) (lane : ℕ) (list : List ℕ) (other : ℕ) → other ≢ lane → with_list threads lane list other ≡ threads other
list_there threads lane list other apart = ap (λ (b : Bool). cond b list (threads other)) (ne_eqb other lane apart)

-- from a stack word that was changed the links lead through the changed list, and from the others as before
leads_with : (threads : ℕ → List ℕ) (shard lane : ℕ) (list : List ℕ) (links stacks after : ℕ → ℕ) (lanes : ℕ)
    → ((other : ℕ) → other < lanes → other ≢ shard → Leads links shard (stacks other) (threads other))
    → Leads links shard (after lane) list → ((other : ℕ) → other < lanes → other ≢ lane → after other ≡ stacks other)
    → (other : ℕ) → other < lanes → other ≢ shard → Leads links shard (after other) (with_list threads lane list other)
leads_with threads shard lane list links stacks after lanes before here same other below apart = dite (ℕ_discrete other lane)
    (λ at. subst (λ (l : List ℕ). Leads links shard (after other) l) (sym (list_here threads lane list other at))
    (subst (λ k. Leads links shard (after k) list) (sym at) here))
    (λ away. subst (λ (l : List ℕ). Leads links shard (after other) l) (sym (list_there threads lane list other away))
    (subst (λ w. Leads links shard w (threads other)) (sym (same other below away)) (before other below apart)))

with_bit : (place other : ℕ) (home : ℕ → Bool) (n : ℕ) → home place ≡ false → n ≡ count_if (home other) + count_if (eqb place other)
    → n ≡ count_if (with_place place home other)
with_bit place other home n away e = dite (ℕ_discrete other place)
    (λ same.
    let here : with_place place home other ≡ true = ap (λ (b : Bool). b || home other) (eq-eqb other place same) in
    let one : count_if (eqb place other) ≡ 1 = one_at place other (sym same) in
    let none : count_if (home other) ≡ 0 = ap count_if (ap home same ∙ away) in
    let right : count_if (with_place place home other) ≡ 1 = ap count_if here in
    omega arith)
    (λ apart.
    let there : with_place place home other ≡ home other = ap (λ (b : Bool). b || home other) (ne_eqb other place apart) in
    let none : count_if (eqb place other) ≡ 0 = none_at place other (λ q. apart (sym q)) in
    let right : count_if (with_place place home other) ≡ count_if (home other) = ap count_if there in
    omega arith)

pub push-law : PushLaw
push-law z shard lane place links stacks after home below apart is_one in_shard away linked top same (threads, h) =
    let here : Leads links shard (after lane) (place ∷ threads lane) =
    subst (λ w. Leads links shard w (place ∷ threads lane)) (sym top) (
      link_to-positive place,
      sym (linked_place-link_to place) ∙ ap (λ s. linked_place s (link_to place)) in_shard,
      subst (λ w. Leads links shard w (threads lane)) (sym linked) (h.leads lane below apart),
    ) in (
      with_list threads lane (place ∷ threads lane),
      record {
        leads = leads_with threads shard lane (place ∷ threads lane) links stacks after z.lanes h.leads here same;
        each_once = λ other.
            let whole = at_one z.lanes shard lane other threads (with_list threads lane (place ∷ threads lane)) below apart
            (λ k less away. list_there threads lane (place ∷ threads lane) k away) in
            let at : times other (with_list threads lane (place ∷ threads lane) lane) ≡ count_if (eqb place other) + times other (threads lane) =
            ap (times other) (list_here threads lane (place ∷ threads lane) lane refl) in
            let once : times_stacked z.lanes shard threads other ≡ count_if (home other) = h.each_once other in
            with_bit place other home (times_stacked z.lanes shard (with_list threads lane (place ∷ threads lane)) other) away (omega arith);
        inside = λ other is_home. dite (ℕ_discrete other place)
            (λ at. (subst (λ n. is_place z n ≡ true) (sym at) is_one, subst (λ n. shard_of n ≡ shard) (sym at) in_shard))
            (λ far. h.inside other (sym (ap (λ (b : Bool). b || home other) (ne_eqb other place far)) ∙ is_home));
      },
    )

without_bit : (n m : ℕ) (b : Bool) → n + m ≡ count_if b → n ≡ count_if (b && eqb m 0)
without_bit n m false e = let none : n + m ≡ 0 = e in let r : n ≡ 0 = omega arith in r
without_bit n m true e = dite (ℕ_discrete m 0)
    (λ none.
    let one : n + m ≡ 1 = e in
    let right : count_if (true && eqb m 0) ≡ 1 = ap (λ (t : Bool). count_if (true && t)) (eq-eqb m 0 none) in
    omega arith)
    (λ some.
    let one : n + m ≡ 1 = e in
    let right : count_if (true && eqb m 0) ≡ 0 = ap (λ (t : Bool). count_if (true && t)) (ne_eqb m 0 some) in
    omega arith)

first_true : (a b : Bool) → (a && b) ≡ true → a ≡ true
first_true true b e = refl
first_true false b e = e

pub take-law : TakeLaw
take-law z shard lane links stacks after home below apart empty same (threads, h) = (
  threads lane,
  h.leads lane below apart,
  λ place.
      let part = on_one z.lanes shard lane place threads below apart in
      let once : times_stacked z.lanes shard threads place ≡ count_if (home place) = h.each_once place in
      omega arith,
  (
    with_list threads lane [],
    record {
      leads = leads_with threads shard lane [] links stacks after z.lanes h.leads empty same;
      each_once = λ place.
          let whole = at_one z.lanes shard lane place threads (with_list threads lane []) below apart (λ k less away. list_there threads lane [] k away) in
          let at : times place (with_list threads lane [] lane) ≡ 0 = ap (times place) (list_here threads lane [] lane refl) in
          let once : times_stacked z.lanes shard threads place ≡ count_if (home place) = h.each_once place in
          without_bit (times_stacked z.lanes shard (with_list threads lane []) place) (times place (threads lane)) (home place) (omega arith);
      inside = λ place is_home. h.inside place (first_true (home place) (eqb (times place (threads lane)) 0) is_home);
    },
  ),
)
