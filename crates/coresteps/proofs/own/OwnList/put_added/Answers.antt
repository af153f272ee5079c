-- The place goes behind the last one of the ring.
use Rattle.std.proofs.Common.{◌≡◌, ◌+◌, ◌<◌, ◌≤◌, ℕ, length, length-set, Option, Some, ap, subst, inl, inr, sym, ◌∙◌, arith}
use Rattle.coresteps.specs.OwnLists.{unused_places, own_places}
use Rattle.coresteps.proofs.OwnLemmas.{settled_places, IsEnd}
use Rattle.coresteps.proofs.own.OwnList.put_added.Goals as goal
use Rattle.coresteps.proofs.own.OwnList.put_added.Goals.{then-end-ring, else-end-ring}

more : (n m : ℕ) → n < m → n + 1 ≤ m
more n m h = omega arith

pub returns-clause-places : goal.returns-clause-places
returns-clause-places c = λ z lane.
    let own = c.args.self.now in
    let added : own.added ≡ Some c.in-Some.place = sym c.take.ensures.value ∙ c.in-Some.is in
    let fits : own.length < length c.args.ring.now = c.requires.length c.in-Some.place added in
    let low : own.first < length c.args.ring.now = c.requires.first in
    let at : (c.if-end-ring.end < length c.args.ring.now) × IsEnd (length c.args.ring.now) own.first own.length c.if-end-ring.end
    = elim c.if-end-ring.branch [
      | then-end-ring w ↦ (omega arith, inr (omega arith))
      | else-end-ring w ↦ (omega arith, inl (omega arith))
    ] in
    settled_places (unused_places z lane own.opened own.unused) c.args.ring.now own.first own.length c.if-end-ring.end c.in-Some.place own.added
    c.take.new.self added c.take.ensures.after low fits at.0 at.1

pub returns-in_default-clause-places : goal.returns-in_default-clause-places
returns-in_default-clause-places c = λ z lane.
    ap (λ (added : Option ℕ). own_places z lane c.args.ring.now (record c.args.self.now { added = added })) (c.take.ensures.after ∙ c.in_default.ensures.value)

pub returns-in_default-clause-list : goal.returns-in_default-clause-list
returns-in_default-clause-list c = λ z l. record { pages = l.pages; room = l.room; start = l.start; within = l.within }

pub returns-clause-ring : goal.returns-clause-ring
returns-clause-ring c = length-set c.args.ring.now c.if-end-ring.end c.in-Some.place

pub returns-clause-list : goal.returns-clause-list
returns-clause-list c = λ z l.
    let ring = c.args.ring.now in
    let long = length-set ring c.if-end-ring.end c.in-Some.place in
    let fits : c.args.self.now.length < length ring = c.requires.length c.in-Some.place (sym c.take.ensures.value ∙ c.in-Some.is) in
    record {
      pages = l.pages;
      room = long ∙ l.room;
      start = subst (λ (n : ℕ). c.args.self.now.first < n) (sym long) l.start;
      within = subst (λ (n : ℕ). c.args.self.now.length + 1 ≤ n) (sym long) (more _ _ fits);
    }
