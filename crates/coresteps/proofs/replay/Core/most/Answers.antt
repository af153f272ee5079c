-- The numbers of a lane are those that the core keeps of it, and they are bounded.
use Rattle.std.proofs.Common.{◌≡◌, ◌∙◌, ◌<◌, ◌≤◌, ℕ, length, ap, sym, subst, refl, arith}
use borrow.Author.Tests.{ltb-true}
use Rattle.std.proofs.lemmas.Bool.{ltb-false}
use Rattle.traces.specs.Lawful.{World}
use Rattle.coresteps.specs.declared.progress.Most.{Most}
use Rattle.coresteps.specs.Kept.{CoreState, IsCore}
use Rattle.coresteps.proofs.CoreLemmas.{most_by}
use Rattle.coresteps.proofs.replay.Core.most.Goals as goal

-- few steps are no more than may be told
within : (lanes : ℕ) (m n : Most) → m ≡ n → n.create ≤ lanes → n.other ≤ 8 → (m.create ≤ lanes) × (m.other ≤ 8)
within lanes m n same create other =
    subst (λ (m : Most). (m.create ≤ lanes) × (m.other ≤ 8)) (sym same) (create, other)

-- a number isn't both below and past another
apart : (n long lanes : ℕ) → long ≡ lanes → n < long → lanes ≤ n → ⊥
apart n long lanes same below beyond = omega arith

-- the numbers of a lane are bounded
bounds : (c : goal.In-Some) → (c.in-Some.of.now.progress.most.create ≤ c.self.inside.shared.shape.lanes) × (c.in-Some.of.now.progress.most.other ≤ 8)
bounds c =
    let k = c.self.invariant in
    let is = most_by (record { shared = c.self.inside.shared; lanes = c.self.inside.lanes.items }) k.0 k.1 c.args.lane c.deref.result.now c.in-Some.of.now k.2
    c.deref.ensures.value c.in-Some.ensures.lookup.0 c.in-Some.ensures.lookup.1 in
    let few = k.2.bounded c.args.lane in
    within c.self.inside.shared.shape.lanes c.in-Some.of.now.progress.most (k.1 c.args.lane) is few.0 few.1

pub returns-in-Some-clause-lane : goal.returns-in-Some-clause-lane
returns-in-Some-clause-lane c = λ w most k below.
    ap (λ (m : Most). (m.create, m.other))
    (most_by c.args.self.now w most c.args.lane c.deref.result.now c.in-Some.of.now k
    (c.deref.ensures.value ∙ ap (λ (core : CoreState). core.lanes) c.self.view_is) c.in-Some.ensures.lookup.0 c.in-Some.ensures.lookup.1)

pub returns-in-Some-clause-none : goal.returns-in-Some-clause-none
returns-in-Some-clause-none c = λ beyond.
    let k = subst (λ (s : CoreState). (w : World) × (most : ℕ → Most) × IsCore w most s) c.self.view_is c.self.invariant in
    let same = c.deref.ensures.value ∙ ap (λ (core : CoreState). core.lanes) c.self.view_is in
    let long : length c.deref.result.now ≡ c.args.self.now.shared.shape.lanes = ap length same ∙ k.2.count in
    let below = ltb-true c.args.lane (length c.deref.result.now) (sym c.in-Some.ensures.lookup.0) in
    absurd (apart _ _ _ long below beyond)

pub returns-in-Some-clause-create : goal.returns-in-Some-clause-create
returns-in-Some-clause-create c =
    let few = bounds c in subst (λ (s : CoreState). c.in-Some.of.now.progress.most.create ≤ s.shared.shape.lanes) c.self.view_is few.0

pub returns-in-Some-clause-other : goal.returns-in-Some-clause-other
returns-in-Some-clause-other c =
    let few = bounds c in few.1

pub returns-in-None-clause-lane : goal.returns-in-None-clause-lane
returns-in-None-clause-lane c = λ w most k below.
    let same = c.deref.ensures.value ∙ ap (λ (core : CoreState). core.lanes) c.self.view_is in
    let long : length c.deref.result.now ≡ c.args.self.now.shared.shape.lanes = ap length same ∙ k.count in
    let beyond = ltb-false c.args.lane (length c.deref.result.now) (sym c.in-None.ensures.lookup.0) in
    absurd (apart _ _ _ refl below (subst (λ (n : ℕ). n ≤ c.args.lane) long beyond))
