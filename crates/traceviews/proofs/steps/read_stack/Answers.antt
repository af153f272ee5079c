use Rattle.std.proofs.Common.{rules, ◌≡◌, None}
use Rattle.std.proofs.lemmas.Option.{MatchOption-at_none}
use Rattle.traceviews.proofs.LineRefusals.{stack-uncut, stack-unsharded, stack-unlaned}
use Rattle.traceviews.proofs.steps.read_stack.Goals as goal

pub returns-in_default : goal.returns-in_default
returns-in_default c =
    let none : c.cut.result ≡ None = search rules in
    stack-uncut c.args.text.now (MatchOption-at_none _ _ none c.cut.ensures)

pub returns-in_default-read_u32 : goal.returns-in_default-read_u32
returns-in_default-read_u32 c =
    let none : c.read_u32.result ≡ None = search rules in
    stack-unsharded c.args.text.now c.in-Some.shard.now c.in-Some.lane.now c.in-Some.ensures (MatchOption-at_none _ _ none c.read_u32.ensures)

pub returns-in_default-read_u32-2 : goal.returns-in_default-read_u32-2
returns-in_default-read_u32-2 c =
    let none : c.read_u32-2.result ≡ None = search rules in
    stack-unlaned c.args.text.now c.in-Some.shard.now c.in-Some.lane.now c.in-Some.ensures (MatchOption-at_none _ _ none c.read_u32-2.ensures)
