use Rattle.std.proofs.Common.{◌≡◌, ℕ, ◌≤◌, sym, ◌∙◌, true, false, arith}
use Rattle.keybits.specs.declared.shape.Shape.{Shape}
use Rattle.keybits.specs.declared.shape.ShapeFault.TheVariants.{Lanes, FirstPage, Pages, Generation, Tag}
use Rattle.keybits.specs.ShapeFaults.{IsWithin}
use Rattle.keybits.proofs.FaultLemmas.{only_first, no_fault, not_within, each_within, lanes_first, first_page_first, pages_first, generation_first, tag_first}
use Rattle.keybits.proofs.shape.Shape.check_within.Goals as goal
use Rattle.keybits.proofs.shape.Shape.check_within.Goals.{then-self-eq0-via-then-self-eq0, then-self-eq0-via-else-self-eq0+then-self-most_lanes, then-self-eq0-2-via-then-self-eq0-2, then-self-eq0-2-via-else-self-eq0-2+then-self-most_pages}

from_one : (most pages : ℕ) (z : Shape) → (z.lanes ≡ 0 → ⊥) → z.lanes ≤ most → IsWithin most pages z Lanes
from_one most pages z some few = (omega (arith, some), few)

pub returns-then-self-eq0-clause-err : goal.returns-then-self-eq0-clause-err
returns-then-self-eq0-clause-err c =
    only_first c.args.most_lanes c.args.most_pages c.args.self.now Lanes
    (lanes_first c.args.most_lanes c.args.most_pages c.args.self.now
    (λ h. elim c.then-self-eq0.branch [ then-self-eq0-via-then-self-eq0 w ↦ omega (arith, h.0) | then-self-eq0-via-else-self-eq0+then-self-most_lanes w ↦ omega (arith, h.1) ]))

pub returns-then-not-is_first_page-clause-err : goal.returns-then-not-is_first_page-clause-err
returns-then-not-is_first_page-clause-err c =
    only_first c.args.most_lanes c.args.most_pages c.args.self.now FirstPage
    (first_page_first c.args.most_lanes c.args.most_pages c.args.self.now (from_one c.args.most_lanes c.args.most_pages c.args.self.now c.if-self-eq0.false c.if-self-most_lanes.false)
    (λ h. let bad : false ≡ true = sym c.if-not-is_first_page.true ∙ c.is_first_page.ensures.1 h in cc bad))

pub returns-then-self-eq0-2-clause-err : goal.returns-then-self-eq0-2-clause-err
returns-then-self-eq0-2-clause-err c =
    only_first c.args.most_lanes c.args.most_pages c.args.self.now Pages
    (pages_first c.args.most_lanes c.args.most_pages c.args.self.now (from_one c.args.most_lanes c.args.most_pages c.args.self.now c.if-self-eq0.false c.if-self-most_lanes.false) (c.is_first_page.ensures.0 c.if-not-is_first_page.false)
    (λ h. elim c.then-self-eq0-2.branch [ then-self-eq0-2-via-then-self-eq0-2 w ↦ omega (arith, h.0) | then-self-eq0-2-via-else-self-eq0-2+then-self-most_pages w ↦ omega (arith, h.1) ]))

pub returns-then-self-eq0-3-clause-err : goal.returns-then-self-eq0-3-clause-err
returns-then-self-eq0-3-clause-err c =
    let pages : (1 ≤ c.args.self.now.pages) × (c.args.self.now.pages ≤ c.args.most_pages) = (omega arith, omega arith) in
    only_first c.args.most_lanes c.args.most_pages c.args.self.now Generation
    (generation_first c.args.most_lanes c.args.most_pages c.args.self.now (from_one c.args.most_lanes c.args.most_pages c.args.self.now c.if-self-eq0.false c.if-self-most_lanes.false) (c.is_first_page.ensures.0 c.if-not-is_first_page.false) pages
    (λ h. omega arith))

pub returns-then-self-gt-GREATEST_TAG-clause-err : goal.returns-then-self-gt-GREATEST_TAG-clause-err
returns-then-self-gt-GREATEST_TAG-clause-err c =
    let pages : (1 ≤ c.args.self.now.pages) × (c.args.self.now.pages ≤ c.args.most_pages) = (omega arith, omega arith) in
    only_first c.args.most_lanes c.args.most_pages c.args.self.now Tag
    (tag_first c.args.most_lanes c.args.most_pages c.args.self.now (from_one c.args.most_lanes c.args.most_pages c.args.self.now c.if-self-eq0.false c.if-self-most_lanes.false) (c.is_first_page.ensures.0 c.if-not-is_first_page.false) pages
    (omega arith) (λ h. omega (arith, h)))

pub returns-then-self-eq0-clause-ok : goal.returns-then-self-eq0-clause-ok
returns-then-self-eq0-clause-ok c =
    not_within c.args.most_lanes c.args.most_pages c.args.self.now Lanes
    (λ h. elim c.then-self-eq0.branch [ then-self-eq0-via-then-self-eq0 w ↦ omega (arith, h.0) | then-self-eq0-via-else-self-eq0+then-self-most_lanes w ↦ omega (arith, h.1) ])

pub returns-then-not-is_first_page-clause-ok : goal.returns-then-not-is_first_page-clause-ok
returns-then-not-is_first_page-clause-ok c =
    not_within c.args.most_lanes c.args.most_pages c.args.self.now FirstPage
    (λ h. let bad : false ≡ true = sym c.if-not-is_first_page.true ∙ c.is_first_page.ensures.1 h in cc bad)

pub returns-then-self-eq0-2-clause-ok : goal.returns-then-self-eq0-2-clause-ok
returns-then-self-eq0-2-clause-ok c =
    not_within c.args.most_lanes c.args.most_pages c.args.self.now Pages
    (λ h. elim c.then-self-eq0-2.branch [ then-self-eq0-2-via-then-self-eq0-2 w ↦ omega (arith, h.0) | then-self-eq0-2-via-else-self-eq0-2+then-self-most_pages w ↦ omega (arith, h.1) ])

pub returns-then-self-eq0-3-clause-ok : goal.returns-then-self-eq0-3-clause-ok
returns-then-self-eq0-3-clause-ok c = not_within c.args.most_lanes c.args.most_pages c.args.self.now Generation (λ h. omega arith)

pub returns-then-self-gt-GREATEST_TAG-clause-ok : goal.returns-then-self-gt-GREATEST_TAG-clause-ok
returns-then-self-gt-GREATEST_TAG-clause-ok c = not_within c.args.most_lanes c.args.most_pages c.args.self.now Tag (λ h. omega (arith, h))

pub returns-clause-err : goal.returns-clause-err
returns-clause-err c =
    no_fault c.args.most_lanes c.args.most_pages c.args.self.now
    (each_within c.args.most_lanes c.args.most_pages c.args.self.now (from_one c.args.most_lanes c.args.most_pages c.args.self.now c.if-self-eq0.false c.if-self-most_lanes.false)
    (c.is_first_page.ensures.0 c.if-not-is_first_page.false) (omega arith, omega arith) (omega arith) (omega arith))

pub returns-clause-ok : goal.returns-clause-ok
returns-clause-ok c = (
  λ e.
      (each_within c.args.most_lanes c.args.most_pages c.args.self.now (from_one c.args.most_lanes c.args.most_pages c.args.self.now c.if-self-eq0.false c.if-self-most_lanes.false)
      (c.is_first_page.ensures.0 c.if-not-is_first_page.false) (omega arith, omega arith) (omega arith) (omega arith)),
  λ each. cc,
)
