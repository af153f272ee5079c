use Rattle.std.proofs.Common.{◌≡◌, ◌∙◌, ℕ, ◌<◌, ◌≤◌, List, Bool, length, get_or, slice_index, sym, ap, arith, inl, inr}
use Rattle.std.proofs.lemmas.Bool.{cases_lt}
use Rattle.std.proofs.lemmas.List.{get_or_read, get_or_past}
use borrow.Author.Count.{below_more}
use Rattle.seqpool.specs.declared.row.Standing.{Standing}
use Rattle.seqpool.specs.declared.row.Standing.TheVariants.{Published}
use Rattle.seqpool.specs.Pool.{references_in}
use Rattle.seqpool.specs.Rows.{phase_of}
use Rattle.seqpool.proofs.row.Row.is_held.Goals as goal

references-are : (s : Standing) (content references items : List ℕ) (marked : Bool) → s ≡ Published content references marked → items ≡ references
    → (lane : ℕ) → references_in (phase_of s) lane ≡ slice_index items lane
references-are s content references items marked is same lane =
    ap (λ (t : Standing). references_in (phase_of t) lane) is ∙ ap (λ (xs : List ℕ). slice_index xs lane) (sym same)

none-past : (items : List ℕ) (i : ℕ) → ((lane : ℕ) → lane < i → slice_index items lane ≡ 0) → length items ≤ i → (lane : ℕ)
    → slice_index items lane ≡ 0
none-past items i none all lane = elim (cases_lt lane i) [
  | inl below ↦ none lane below
  | inr above ↦ get_or_past items lane 0 (omega arith)
]

pub returns-then-count-ne0 : goal.returns-then-count-ne0
returns-then-count-ne0 c =
    let items : List ℕ = c.as_slice-tally-items.result.now in
    let i : ℕ = c.loop-tally.tally-index in
    let is : c.tally-item.result ≡ get_or items i 0 = get_or_read items i c.tally-item.result c.loop-tally-test.true c.tally-item.is 0 in
    let same =
    references-are c.args.self.now.standing c.in-Published.content c.in-Published.references items c.in-Published.marked c.in-Published.is
    c.as_slice-tally-items.ensures i in
    (i, omega (arith, same, is))

pub loop-tally-preserved : goal.loop-tally-preserved
loop-tally-preserved c =
    let items : List ℕ = c.as_slice-tally-items.result.now in
    let i : ℕ = c.loop-tally.tally-index in
    let is : c.tally-item.result ≡ get_or items i 0 = get_or_read items i c.tally-item.result c.loop-tally-test.true c.tally-item.is 0 in
    below_more (λ lane. slice_index items lane ≡ 0) i c.loop-tally.invariant (sym is ∙ (sym c.count.ensures ∙ c.if-count-ne0.false))

pub returns-after-loop-tally : goal.returns-after-loop-tally
returns-after-loop-tally c = λ lane.
    let items : List ℕ = c.as_slice-tally-items.result.now in
    references-are c.args.self.now.standing c.in-Published.content c.in-Published.references items c.in-Published.marked c.in-Published.is
    c.as_slice-tally-items.ensures lane
    ∙ none-past items c.loop-tally.tally-index c.loop-tally.invariant c.loop-tally-test.false lane
