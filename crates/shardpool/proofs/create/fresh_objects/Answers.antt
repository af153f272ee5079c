-- Each object that is made is empty.
use Rattle.std.proofs.Common.{rules, ◌≡◌, ℕ, ◌+◌, [], length, ap, ◌∙◌, arith}
use Rattle.std.proofs.lemmas.List.{length_push}
use Rattle.std.proofs.lemmas.List.Elements.{All-push}
use Rattle.shardpool.proofs.create.fresh_objects.Goals as goal

pub loop-init : goal.loop-init
loop-init g c = record { stand = search rules; room = search rules; empty = search rules }

pub push_reserved-requires : goal.push_reserved-requires
push_reserved-requires g c = search rules

pub loop-preserved : goal.loop-preserved
loop-preserved g c = let pushed = c.push_reserved.ensures in let before = c.loop.invariant in record {
  stand = ap length pushed.items ∙ (length_push c.loop.objects.items c.fresh.result ∙ ap (λ (n : ℕ). n + 1) before.stand);
  room = rw pushed.capacity before.room;
  empty = rw pushed.items (All-push (λ object. g.T.Clear.content object ≡ []) c.loop.objects.items c.fresh.result before.empty c.fresh.ensures);
}

pub returns-clause-count : goal.returns-clause-count
returns-clause-count g c = let end : c.loop.counter ≡ c.args.count = omega arith in c.loop.invariant.stand ∙ end

pub returns-clause-empty : goal.returns-clause-empty
returns-clause-empty g c = c.loop.invariant.empty
