-- The first place is one of the page opened last, of the ring, or the one that was added.
use Rattle.std.proofs.Common.{◌≡◌, ◌∙◌, ℕ, zero, suc, ◌-◌, ◌<◌, ◌≤◌, List, [], ◌∷◌, ◌++◌, length, Option, Some, None, ap, sym, subst, refl, arith}
use Rattle.std.specs.Prelude.{MatchOption, slice_index}
use Rattle.keybits.specs.declared.shape.Shape.{Shape}
use Rattle.coresteps.specs.declared.own.OwnList.{OwnList}
use Rattle.coresteps.specs.OwnLists.{next_in_ring, ring_places, unused_places, added_places, own_places, IsOwnList}
use Rattle.coresteps.proofs.OwnLemmas.{next-lt}
use Rattle.coresteps.proofs.own.OwnList.take.Goals as goal

less_one : (n m : ℕ) → n ≤ m → n - 1 ≤ m
less_one n m h = omega arith

less_suc : (n : ℕ) → suc n - 1 ≡ n
less_suc n = omega arith

-- ---- the places of a list, by its parts

module _ (z : Shape) (lane : ℕ) (ring : List ℕ) (now : OwnList) (no_unused : unused_places z lane now.opened now.unused ≡ []) where
  -- without a ring, the place that was added is taken
  added_taken : (out left : Option ℕ) → now.length ≡ 0 → out ≡ now.added → left ≡ None
      → MatchOption out ((own_places z lane ring now ≡ []) × (record now { added = left } ≡ now))
      (λ place. own_places z lane ring now ≡ place ∷ own_places z lane ring (record now { added = left }))
  added_taken None left empty same gone = (
    λ i. no_unused i ++ (ring_places ring now.first (empty i) ++ added_places (sym same i)),
    ap (λ (a : Option ℕ). record now { added = a }) (gone ∙ same),
  )
  added_taken (Some place) left empty same gone =
      (λ i. no_unused i ++ (ring_places ring now.first (empty i) ++ added_places (sym same i)))
      ∙ sym (λ i. place ∷ (no_unused i ++ (ring_places ring now.first (empty i) ++ added_places (gone i))))

  -- else the first of the ring
  ring_taken : (count next : ℕ) → now.length ≡ count → (now.length ≡ 0 → ⊥) → next ≡ next_in_ring (length ring) now.first
      → own_places z lane ring now ≡ slice_index ring now.first ∷ own_places z lane ring (record now { first = next; length = now.length - 1 })
  ring_taken zero next is some after = absurd (some is)
  ring_taken (suc count) next is some after =
      let one : now.length - 1 ≡ count = ap (λ (n : ℕ). n - 1) is ∙ less_suc count in
      (λ i. no_unused i ++ (ring_places ring now.first (is i) ++ added_places now.added))
      ∙ sym (λ i. slice_index ring now.first ∷ (no_unused i ++ (ring_places ring (after i) (one i) ++ added_places now.added)))

pub returns-in-Some-clause-place : goal.returns-in-Some-clause-place
returns-in-Some-clause-place c =
    let z = c.args.shape.now in
    let lane = c.args.lane in
    let ring = c.args.ring.now in
    let old = c.args.self.now in
    let new = c.take_unused.new.self in
    let e = c.in-Some.ensures.place in
    ap (λ (xs : List ℕ). xs ++ (ring_places ring old.first old.length ++ added_places old.added)) e.0
    ∙ ap (λ (o : OwnList). c.in-Some.place ∷ (unused_places z lane new.opened new.unused ++ (ring_places ring o.first o.length ++ added_places o.added))) (sym e.1)

pub returns-in-Some-clause-list : goal.returns-in-Some-clause-list
returns-in-Some-clause-list c =
    let l = c.requires.list in
    subst (λ (o : OwnList). IsOwnList c.args.shape.now c.args.ring.now o) (sym c.in-Some.ensures.place.1)
    record { pages = l.pages; room = l.room; start = l.start; within = l.within }

pub returns-in-Some-clause-opened : goal.returns-in-Some-clause-opened
returns-in-Some-clause-opened c = ap (λ (o : OwnList). o.opened) c.in-Some.ensures.place.1

pub returns-in-Some-clause-settled : goal.returns-in-Some-clause-settled
returns-in-Some-clause-settled c = λ none. ap (λ (o : OwnList). o.added) c.in-Some.ensures.place.1 ∙ none

pub returns-then-self-eq0-clause-place : goal.returns-then-self-eq0-clause-place
returns-then-self-eq0-clause-place c =
    let z = c.args.shape.now in
    let lane = c.args.lane in
    let ring = c.args.ring.now in
    let now = c.take_unused.new.self in
    let same = c.in_default.ensures.place.1 in
    let no_unused : unused_places z lane now.opened now.unused ≡ [] = ap (λ (o : OwnList). unused_places z lane o.opened o.unused) same ∙ c.in_default.ensures.place.0 in
    subst (λ (o : OwnList). MatchOption c.take.result ((own_places z lane ring o ≡ []) × (record now { added = c.take.new.self } ≡ o))
    (λ place. own_places z lane ring o ≡ place ∷ own_places z lane ring (record now { added = c.take.new.self }))) same
    (added_taken z lane ring now no_unused c.take.result c.take.new.self c.if-self-eq0.true c.take.ensures.value c.take.ensures.after)

pub returns-then-self-eq0-clause-list : goal.returns-then-self-eq0-clause-list
returns-then-self-eq0-clause-list c =
    let l = c.requires.list in
    subst (λ (o : OwnList). IsOwnList c.args.shape.now c.args.ring.now (record o { added = c.take.new.self })) (sym c.in_default.ensures.place.1)
    record { pages = l.pages; room = l.room; start = l.start; within = l.within }

pub returns-then-self-eq0-clause-opened : goal.returns-then-self-eq0-clause-opened
returns-then-self-eq0-clause-opened c = ap (λ (o : OwnList). o.opened) c.in_default.ensures.place.1

pub returns-then-self-eq0-clause-settled : goal.returns-then-self-eq0-clause-settled
returns-then-self-eq0-clause-settled c = λ none. c.take.ensures.after

pub bounds-ring-self : goal.bounds-ring-self
bounds-ring-self c = subst (λ (o : OwnList). o.first < length c.args.ring.now) (sym c.in_default.ensures.place.1) c.requires.list.start

pub after-self-requires : goal.after-self-requires
after-self-requires c = subst (λ (o : OwnList). o.first < length c.args.ring.now) (sym c.in_default.ensures.place.1) c.requires.list.start

pub returns-clause-place : goal.returns-clause-place
returns-clause-place c =
    let z = c.args.shape.now in
    let lane = c.args.lane in
    let ring = c.args.ring.now in
    let now = c.take_unused.new.self in
    let same = c.in_default.ensures.place.1 in
    let no_unused : unused_places z lane now.opened now.unused ≡ [] = ap (λ (o : OwnList). unused_places z lane o.opened o.unused) same ∙ c.in_default.ensures.place.0 in
    ap (own_places z lane ring) (sym same) ∙ ring_taken z lane ring now no_unused now.length c.after-self.result refl c.if-self-eq0.false c.after-self.ensures

pub returns-clause-list : goal.returns-clause-list
returns-clause-list c =
    let l = c.requires.list in
    let old = c.args.self.now in
    let size = length c.args.ring.now in
    let shorter : old.length - 1 ≤ size = less_one old.length size l.within in
    let start : c.after-self.result < size = subst (λ (n : ℕ). n < size) (sym (c.after-self.ensures
    ∙ ap (λ (o : OwnList). next_in_ring size o.first) c.in_default.ensures.place.1)) (next-lt size old.first l.start) in
    subst (λ (o : OwnList). IsOwnList c.args.shape.now c.args.ring.now (record o { first = c.after-self.result; length = o.length - 1 })) (sym c.in_default.ensures.place.1)
    record { pages = l.pages; room = l.room; start = start; within = shorter }

pub returns-clause-opened : goal.returns-clause-opened
returns-clause-opened c = ap (λ (o : OwnList). o.opened) c.in_default.ensures.place.1

pub returns-clause-settled : goal.returns-clause-settled
returns-clause-settled c = λ none. ap (λ (o : OwnList). o.added) c.in_default.ensures.place.1 ∙ none
