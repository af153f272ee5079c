use Rattle.std.proofs.Common.{◌≡◌, ℕ, ◌-◌, ◌<◌, List, ◌∷◌, length, get_or, slice_index, sym, ap, ◌∙◌, subst, arith}
use Rattle.std.proofs.lemmas.Grind.{get_or_default_zero}
use Rattle.freelists.specs.Shards.{place_numbered}
use Rattle.freelists.specs.Queues.{FreePlaces, IsAway, next_in_ring, listed}
use Rattle.freelists.proofs.FreeLemmas.{shown, all_free, pop-parts, keeps-pop, pop-away}
use Rattle.freelists.proofs.local.LocalFree.pop_number.Goals as goal
use Rattle.freelists.proofs.local.LocalFree.pop_number.Goals.{After-self-2-1}

read : (items : List ℕ) (first number : ℕ) → number ≡ get_or items first number → first < length items → number ≡ slice_index items first
read items first number is low = is ∙ get_or_default_zero items first number low

-- the number that comes off
same : (c : After-self-2-1) → c.index-number.result.now ≡ slice_index c.self.inside.ring.items c.self.inside.first
same c = read c.self.inside.ring.items c.self.inside.first c.index-number.result.now c.index-number.ensures (omega (arith, c.self.invariant.1, c.self.invariant.2))

next : (c : After-self-2-1) → c.after-self-inside.result ≡ next_in_ring (length c.self.inside.ring.items) c.self.inside.first
next c = c.after-self-inside.ensures ∙ ap (λ n. next_in_ring n c.self.inside.first) (c.len.ensures ∙ c.self.inside.ring.ok.0)

pub invariant_of-self : goal.invariant_of-self
invariant_of-self c = keeps-pop c.self.inside c.self.invariant c.if-self-eq0.false c.after-self-inside.result (next c)

pub returns-clause-first : goal.returns-clause-first
returns-clause-first c =
    sym (ap (λ (v : FreePlaces). v.own) c.self.view_is) ∙ pop-parts c.self.inside c.self.invariant c.if-self-eq0.false c.after-self-inside.result (next c)
    ∙ ap (λ (n : ℕ). place_numbered n ∷ listed c.self.inside.ring.items c.after-self-inside.result (c.self.inside.count - 1)) (sym (same c))

pub returns-clause-away : goal.returns-clause-away
returns-clause-away c =
    subst (λ (n : ℕ). IsAway (shown (record c.self.inside { first = c.after-self-inside.result; count = c.self.inside.count - 1 })) (place_numbered n)) (sym (same c))
    (pop-away c.self.inside c.self.invariant c.if-self-eq0.false c.after-self-inside.result (next c))

pub returns-clause-places : goal.returns-clause-places
returns-clause-places c = all_free (record c.self.inside { first = c.after-self-inside.result; count = c.self.inside.count - 1 })
    (keeps-pop c.self.inside c.self.invariant c.if-self-eq0.false c.after-self-inside.result (next c))
