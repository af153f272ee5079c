-- Each stack's thread stands as before, whatever is marked before it.
use Rattle.std.proofs.Common.{◌≡◌, ℕ, ◌+◌, List, sym, subst, arith}
use Rattle.core.specs.declared.slots.Slots.{Slots}
use Rattle.shardpool.specs.Marks.{Blanks, stacked}
use Rattle.shardpool.proofs.count.Marks.{blanks-then, is-full}
use Rattle.shardpool.proofs.count.Lists.{stacked-other, stacked-own, next-thread}
use Rattle.shardpool.proofs.census.mark_stacks.Goals as goal
use Rattle.shardpool.proofs.census.mark_stacks.Goals.{then-lane-shard, else-lane-shard}

pub get-word-requires : goal.get-word-requires
get-word-requires c =
    let t = c.requires.threads in
    is-full c.args.shape.now c.loop-lane.words (c.loop-lane.invariant t.0 t.1).row c.stack_word.result c.stack_word.ensures.inside

pub mark_thread-requires-clause-row : goal.mark_thread-requires-clause-row
mark_thread-requires-clause-row c = let t = c.requires.threads in (c.loop-lane.invariant t.0 t.1).row

pub mark_thread-requires-clause-thread : goal.mark_thread-requires-clause-thread
mark_thread-requires-clause-thread c =
    let t = c.requires.threads in (
      t.0 c.loop-lane.lane,
      next-thread c.args.shape.now c.requires.shape c.args.words.now c.requires.row c.args.shard c.requires.shard t.0 t.1 c.loop-lane.lane c.loop-lane-test.true c.if-lane-shard.true c.loop-lane.words
          (c.loop-lane.invariant t.0 t.1) c.stack_word.result c.get-word.result.now c.stack_word.ensures.word c.get-word.ensures,
    )

pub loop-lane-preserved : goal.loop-lane-preserved
loop-lane-preserved c = λ threads h.
    let z = c.args.shape.now in let shard = c.args.shard in let lane = c.loop-lane.lane in let old = c.args.words.now in let now = c.loop-lane.words in
    let before = c.loop-lane.invariant threads h in
    elim c.if-lane-shard.branch [
      | then-lane-shard w ↦
          let thread = next-thread z c.requires.shape old c.requires.row shard c.requires.shard threads h lane c.loop-lane-test.true w.if-lane-shard.true now before
          w.stack_word.result w.get-word.result.now w.stack_word.ensures.word w.get-word.ensures in
          subst (λ (words : Slots ℕ). Blanks z (stacked shard threads (lane + 1)) old words) (sym w.words-is)
          (subst (λ (l : List ℕ). Blanks z l old w.mark_thread.new.words) (sym (stacked-other shard lane threads w.if-lane-shard.true))
          (blanks-then z (stacked shard threads lane) (threads lane) old now w.mark_thread.new.words before (w.mark_thread.ensures (threads lane) thread)))
      | else-lane-shard w ↦
          subst (λ (words : Slots ℕ). Blanks z (stacked shard threads (lane + 1)) old words) (sym w.words-is)
          (subst (λ (l : List ℕ). Blanks z l old now) (sym (stacked-own shard lane threads w.if-lane-shard.false)) before)
    ]

pub returns : goal.returns
returns c = λ threads h.
    let z = c.args.shape.now in
    let most = c.loop-lane.auto.lane-end in
    let end : c.loop-lane.lane ≡ z.lanes = omega arith in
    subst (λ (n : ℕ). Blanks z (stacked c.args.shard threads n) c.args.words.now c.loop-lane.words) end (c.loop-lane.invariant threads h)
