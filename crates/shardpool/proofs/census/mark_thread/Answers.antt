-- The place of each word is the next of the thread, and the link words stay.
use Rattle.std.proofs.Common.{◌≡◌, ℕ, List, ap, ◌∙◌, subst, arith, [], ◌∷◌}
use Rattle.core.specs.Mem.Slots.{slots_items}
use Rattle.keybits.specs.Shapes.{is_place}
use Rattle.keybits.specs.Links.{linked_place}
use Rattle.poolsteps.specs.Layout.{words_in}
use Rattle.shardpool.specs.Marks.{Blanks, IsThread}
use Rattle.shardpool.proofs.count.Walks.{Walks, walk_length, walks, walk-reads, walk-goes, walk-ends}
use Rattle.shardpool.proofs.census.mark_thread.Goals as goal
use Rattle.shardpool.proofs.census.mark_thread.Goals.{In-loop-word, After-get-word}

-- the next place of any thread to which the first word leads
next : (c : In-loop-word) → (thread : List ℕ) → IsThread c.args.shape.now (slots_items c.args.words.now) c.args.shard c.args.word thread
    → Walks c.args.shape.now c.args.shard c.args.words.now thread c.loop-word.word c.loop-word.words
next c = λ thread h. walks c.args.shape.now c.requires.shape c.args.shard c.args.word c.loop-word.word c.args.words.now c.loop-word.words thread c.requires.row h
    (c.loop-word.invariant thread h) c.loop-word-test.true

-- the word that is read behind it
read : (c : After-get-word) → (thread : List ℕ) → Walks c.args.shape.now c.args.shard c.args.words.now thread c.loop-word.word c.loop-word.words
    → c.get-word.result.now ≡ (words_in c.args.shape.now (slots_items c.args.words.now)).link (linked_place c.args.shard c.loop-word.word)
read c = λ thread n. walk-reads c.args.shape.now c.requires.shape c.args.shard c.loop-word.word c.linked_place-place.result c.link_word.result c.get-word.result.now
    c.args.words.now c.loop-word.words c.mark.new.words thread n c.linked_place-place.ensures.place c.mark.ensures c.link_word.ensures.word c.get-word.ensures

pub linked_place-place-requires-clause-in_range : goal.linked_place-place-requires-clause-in_range
linked_place-place-requires-clause-in_range c =
    let t = c.requires.thread in (next (goal.at.linked_place-place-requires-clause-in_range c).In-loop-word t.0 t.1).small

pub mark-requires-clause-place : goal.mark-requires-clause-place
mark-requires-clause-place c =
    let t = c.requires.thread in
    ap (is_place c.args.shape.now) c.linked_place-place.ensures.place ∙ (next (goal.at.mark-requires-clause-place c).In-loop-word t.0 t.1).inside

pub position-requires-clause-place : goal.position-requires-clause-place
position-requires-clause-place c =
    let t = c.requires.thread in
    ap (is_place c.args.shape.now) c.linked_place-place.ensures.place ∙ (next (goal.at.position-requires-clause-place c).In-loop-word t.0 t.1).inside

pub link_word-requires-clause-place : goal.link_word-requires-clause-place
link_word-requires-clause-place c =
    let t = c.requires.thread in
    ap (is_place c.args.shape.now) c.linked_place-place.ensures.place ∙ (next (goal.at.link_word-requires-clause-place c).In-loop-word t.0 t.1).inside

pub loop-word-smaller : goal.loop-word-smaller
loop-word-smaller c =
    let t = c.requires.thread in
    let n = next (goal.at.loop-word-smaller c).In-loop-word t.0 t.1 in
    let after = ap (λ (w : ℕ). walk_length (words_in c.args.shape.now (slots_items c.args.words.now)).link c.args.shard 16777216 w)
    (read (goal.at.loop-word-smaller c).After-get-word t.0 n) ∙ n.length_then in
    let before = n.length_is in
    omega arith

pub loop-word-preserved : goal.loop-word-preserved
loop-word-preserved c = λ thread h.
    let z = c.args.shape.now in
    let n = next (goal.at.loop-word-preserved c).In-loop-word thread h in
    walk-goes z c.args.shard c.loop-word.word c.get-word.result.now c.args.words.now c.loop-word.words c.mark.new.words thread n
    (subst (λ (p : ℕ). Blanks z (p ∷ []) c.loop-word.words c.mark.new.words) c.linked_place-place.ensures.place c.mark.ensures)
    (read (goal.at.loop-word-preserved c).After-get-word thread n)

pub returns : goal.returns
returns c = λ thread h.
    walk-ends c.args.shape.now c.args.shard c.loop-word.word c.args.words.now c.loop-word.words thread (c.loop-word.invariant thread h) c.loop-word-test.false
