use Rattle.std.proofs.Common.{arith}
use Rattle.std.proofs.lemmas.List.{take_all, length-drop}
use Rattle.streams.proofs.Pieces.{writes_front-none, writes_front-more, writes_front-end, unfailed_before}
use Rattle.streams.proofs.writing.write_text.Goals as goal

pub loop-rest-init : goal.loop-rest-init
loop-rest-init g c = λ good. (good, writes_front-none _ _)

pub loop-rest-preserved : goal.loop-rest-preserved
loop-rest-preserved g c = λ good.
    let rest = c.loop-rest.rest.now in
    let before = c.loop-rest.invariant (unfailed_before _ _ _ c.in-Ok.ensures.failed good) in (
      before.0,
      writes_front-more _ _ _ _ rest _ c.in-Ok.taken before.1 c.in-Ok.ensures.bytes (take_all _ _ (omega (arith, length-drop c.in-Ok.taken rest))),
    )

pub returns : goal.returns
returns g c = λ good.
    let done = c.loop-rest.invariant good in
    (done.0, writes_front-end _ _ _ c.loop-rest.rest.now c.is_empty.result done.1 c.is_empty.ensures c.loop-rest-test.false)
