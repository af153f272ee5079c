-- The rows of each page stand as before, whatever is marked before them.
use Rattle.std.proofs.Common.{◌≡◌, ◌<◌, ◌≤◌, ◌+◌, ◌-◌, ◌*◌, ◌/◌, ℕ, suc, List, sym, ap, ◌∙◌, subst, arith}
use Rattle.std.specs.Prelude.{min}
use Rattle.keybits.specs.Shapes.{page_size}
use Rattle.keybits.specs.Counts.{times}
use Rattle.keybits.proofs.ShapeLemmas.{page_size-le}
use Rattle.shardpool.specs.Marks.{Blanks, ArePlacesOf, rows_of_page, row_given, pages_given}
use Rattle.shardpool.proofs.count.Marks.{blanks-none, blanks-then, blanks-words}
use Rattle.shardpool.proofs.count.Given.{shard_bits, page-among, all-pages-among}
use Rattle.shardpool.proofs.census.mark_given.Goals as goal
use Rattle.shardpool.proofs.census.mark_given.Goals.{In-loop-page}

pub loop-page-init : goal.loop-page-init
loop-page-init c = blanks-none c.args.shape.now c.args.words.now c.requires.row

-- this page is one of those
low : (c : In-loop-page) → c.loop-page.page < min c.args.opened c.args.shape.now.pages
low c = let end = c.min-page-end.ensures in let test = c.loop-page-test.true in omega (arith, end, test)

-- each place of these pages is a place of the shard
inside : (c : In-loop-page) → ArePlacesOf c.args.shape.now c.args.shard (pages_given c.args.shape.now c.args.shard (shard_bits c.args.shape.now c.args.words.now c.args.shard) (min c.args.opened c.args.shape.now.pages))
inside c place some = c.requires.given.1.inside place (subst (λ (l : List ℕ). 0 < times place l) (sym c.requires.given.1.list) some)

-- the bits are as they were
same : (c : In-loop-page) → shard_bits c.args.shape.now c.loop-page.words c.args.shard ≡ shard_bits c.args.shape.now c.args.words.now c.args.shard
same c =
    let z = c.args.shape.now in
    let bits = shard_bits z c.args.words.now c.args.shard in
    let few : c.loop-page.page ≤ min c.args.opened z.pages = let below = low c in omega (arith, below) in
    let after = blanks-words z c.requires.shape (pages_given z c.args.shard bits c.loop-page.page) c.args.words.now c.loop-page.words c.requires.row
    (λ place some. (inside c place (all-pages-among c.args.shard bits z c.loop-page.page (min c.args.opened z.pages) few place some)).0) c.loop-page.invariant in
    λ i. after.bits i c.args.shard

-- how many rows the page has
rows-are : (size rows : ℕ) → size ≡ rows → (size + 64 - 1) / 64 ≡ (rows + 63) / 64
rows-are size rows is = omega (arith, is)

pub mark_rows-requires-clause-rows : goal.mark_rows-requires-clause-rows
mark_rows-requires-clause-rows c =
    let size = page_size-le c.args.shape.now c.loop-page.page in
    let is = c.page_size.ensures in
    let below = low (goal.at.mark_rows-requires-clause-rows c).In-loop-page in
    omega (arith, size, is, below)

pub mark_rows-requires-clause-row : goal.mark_rows-requires-clause-row
mark_rows-requires-clause-row c = c.loop-page.invariant.row

pub mark_rows-requires-clause-places : goal.mark_rows-requires-clause-places
mark_rows-requires-clause-places c = λ place some.
    let at = (goal.at.mark_rows-requires-clause-places c).In-loop-page in
    let z = c.args.shape.now in
    let page : ℕ = c.loop-page.page in
    let bits = shard_bits z c.args.words.now c.args.shard in
    let rows = rows-are c.page_size.result (page_size z page) c.page_size.ensures in
    let one = subst (λ (f : ℕ → ℕ). 0 < times place (row_given c.args.shard f (64 * page) ((c.page_size.result + 64 - 1) / 64))) (same at) some in
    let two = subst (λ (n : ℕ). 0 < times place (row_given c.args.shard bits (64 * page) n)) rows one in
    inside at place (page-among c.args.shard bits z (min c.args.opened z.pages) page (low at) place two)

pub loop-page-preserved : goal.loop-page-preserved
loop-page-preserved c =
    let at = (goal.at.loop-page-preserved c).In-loop-page in
    let z = c.args.shape.now in
    let page : ℕ = c.loop-page.page in
    let bits = shard_bits z c.args.words.now c.args.shard in
    let rows = rows-are c.page_size.result (page_size z page) c.page_size.ensures in
    let one = subst (λ (f : ℕ → ℕ). Blanks z (row_given c.args.shard f (64 * page) ((c.page_size.result + 64 - 1) / 64)) c.loop-page.words c.mark_rows.new.words) (same at) c.mark_rows.ensures in
    let two = subst (λ (n : ℕ). Blanks z (row_given c.args.shard bits (64 * page) n) c.loop-page.words c.mark_rows.new.words) rows one in
    let more : suc page ≡ page + 1 = omega arith in
    subst (λ (n : ℕ). Blanks z (pages_given z c.args.shard bits n) c.args.words.now c.mark_rows.new.words) more
    (blanks-then z (pages_given z c.args.shard bits page) (row_given c.args.shard bits (64 * page) (rows_of_page z page)) c.args.words.now c.loop-page.words c.mark_rows.new.words
    c.loop-page.invariant two)

pub returns : goal.returns
returns c = λ given h.
    let z = c.args.shape.now in
    let most = c.loop-page.auto.page-end in
    let over = c.loop-page-test.false in
    let is = c.min-page-end.ensures in
    let end : c.loop-page.page ≡ min c.args.opened z.pages = omega (arith, most, over, is) in
    let all = ap (pages_given z c.args.shard (shard_bits z c.args.words.now c.args.shard)) end ∙ sym h.list in
    subst (λ (l : List ℕ). Blanks z l c.args.words.now c.loop-page.words) all c.loop-page.invariant
