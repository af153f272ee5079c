-- The word of each row stands as before, whatever is marked before it.
use Rattle.std.proofs.Common.{◌≡◌, ◌<◌, ◌+◌, ℕ, suc, ◌∙◌, subst, arith}
use Rattle.keybits.specs.Counts.{times}
use Rattle.keybits.specs.Rows.{set_places}
use Rattle.poolsteps.specs.Layout.{row_count}
use Rattle.shardpool.specs.Marks.{Blanks, row_given}
use Rattle.shardpool.proofs.count.Marks.{blanks-none, blanks-then, blanks-words, read-bits, is-full}
use Rattle.shardpool.proofs.count.Given.{shard_bits, has-row, row-among, rows-among}
use Rattle.shardpool.proofs.census.mark_rows.Goals as goal
use Rattle.shardpool.proofs.census.mark_rows.Goals.{After-get-word}

pub loop-row-init : goal.loop-row-init
loop-row-init c = blanks-none c.args.shape.now c.args.words.now c.requires.row

pub bits_word-requires-clause-row : goal.bits_word-requires-clause-row
bits_word-requires-clause-row c = (c.requires.shard, let low = c.requires.rows in let end = c.loop-row-test.true in omega (arith, low, end))

pub get-word-requires : goal.get-word-requires
get-word-requires c = is-full c.args.shape.now c.loop-row.words c.loop-row.invariant.row c.bits_word.result c.bits_word.ensures.inside

-- the word of this row
word-is : (c : After-get-word) → c.get-word.result.now ≡ shard_bits c.args.shape.now c.args.words.now c.args.shard (c.args.first + c.loop-row.row)
word-is c =
    let z = c.args.shape.now in
    let bits = shard_bits z c.args.words.now c.args.shard in
    let row : ℕ = c.args.first + c.loop-row.row in
    let end = c.loop-row-test.true in
    let room = c.requires.rows in
    let low : row < row_count z = omega (arith, end, room) in
    let same = blanks-words z c.requires.shape (row_given c.args.shard bits c.args.first c.loop-row.row) c.args.words.now c.loop-row.words c.requires.row
    (λ place some. (c.requires.places place (rows-among c.args.shard bits c.args.first c.loop-row.row c.args.rows (omega (arith, end)) place some)).0) c.loop-row.invariant in
    read-bits z c.loop-row.words c.loop-row.invariant.row c.args.shard row (has-row z c.args.shard row c.requires.shard low) c.bits_word.result c.get-word.result.now c.bits_word.ensures.word c.get-word.ensures
    ∙ (λ i. same.bits i c.args.shard row)

pub mark_row-requires-clause-number : goal.mark_row-requires-clause-number
mark_row-requires-clause-number c = let low = c.requires.rows in let end = c.loop-row-test.true in omega (arith, low, end)

pub mark_row-requires-clause-row : goal.mark_row-requires-clause-row
mark_row-requires-clause-row c = c.loop-row.invariant.row

pub mark_row-requires-clause-places : goal.mark_row-requires-clause-places
mark_row-requires-clause-places c = λ place some.
    let at = (goal.at.mark_row-requires-clause-places c).After-get-word in
    let row : ℕ = c.args.first + c.loop-row.row in
    c.requires.places place (row-among c.args.shard (shard_bits c.args.shape.now c.args.words.now c.args.shard) c.args.first c.args.rows c.loop-row.row c.loop-row-test.true place
    (subst (λ (w : ℕ). 0 < times place (set_places c.args.shard row w)) (word-is at) some))

pub loop-row-preserved : goal.loop-row-preserved
loop-row-preserved c =
    let at = (goal.at.loop-row-preserved c).After-get-word in
    let z = c.args.shape.now in
    let bits = shard_bits z c.args.words.now c.args.shard in
    let row : ℕ = c.args.first + c.loop-row.row in
    let marks = subst (λ (w : ℕ). Blanks z (set_places c.args.shard row w) c.loop-row.words c.mark_row.new.words) (word-is at) c.mark_row.ensures in
    let one : suc c.loop-row.row ≡ c.loop-row.row + 1 = omega arith in
    subst (λ (n : ℕ). Blanks z (row_given c.args.shard bits c.args.first n) c.args.words.now c.mark_row.new.words) one
    (blanks-then z (row_given c.args.shard bits c.args.first c.loop-row.row) (set_places c.args.shard row (bits row)) c.args.words.now c.loop-row.words c.mark_row.new.words c.loop-row.invariant marks)

pub returns : goal.returns
returns c =
    let most = c.loop-row.auto.row-end in
    let end : c.loop-row.row ≡ c.args.rows = omega arith in
    subst (λ (n : ℕ). Blanks c.args.shape.now (row_given c.args.shard (shard_bits c.args.shape.now c.args.words.now c.args.shard) c.args.first n) c.args.words.now c.loop-row.words) end c.loop-row.invariant
