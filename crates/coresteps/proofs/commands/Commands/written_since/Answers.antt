-- The bytes at the indices are those that were written.
use Rattle.std.proofs.Common.{◌<◌, ◌++◌, ◌∙◌, List, length, get_or, flat_map, ap, sym, refl, arith}
use Rattle.std.proofs.lemmas.List.{take_all}
use Rattle.traces.specs.declared.script.Command.{Command}
use Rattle.coresteps.specs.Lanes.{written_since}
use Rattle.coresteps.specs.Writes.{bytes_at}
use Rattle.coresteps.proofs.WriteLemmas.{bytes_more, bytes_between}
use Rattle.coresteps.proofs.commands.Commands.written_since.Goals as goal

pub loop-index-preserved : goal.loop-index-preserved
loop-index-preserved c =
    let script = c.as_slice-commands.result.now in
    let indices = c.writes_between-index-items.result.now in
    let k = c.loop-index.index-index in
    let inside : get_or indices k 0 < length script
    = let same = ap length c.as_slice-commands.ensures in
    let below = c.writes_between-index-items.ensures.inside k 0 c.loop-index-test.true in omega arith in
    let more = bytes_more script indices k (get_or indices k 0) c.index-commands-index.result c.loop-index-test.true refl inside
    c.index-commands-index.is in (
      c.loop-index.invariant.0,
      c.in_ok-append.ensures.ok ∙ ((λ i. c.loop-index.invariant.1 i ++ c.written_bytes.ensures i) ∙ sym more),
    )

pub returns : goal.returns
returns c =
    let script = c.as_slice-commands.result.now in
    let bytes = flat_map (bytes_at script) in
    c.loop-index.invariant.1
    ∙ (ap bytes (take_all c.loop-index.index-index c.writes_between-index-items.result.now c.loop-index-test.false)
    ∙ (ap bytes c.loop-index.invariant.0
    ∙ (bytes_between script c.args.created c.args.done c.args.register.number
    ∙ ap (λ (s : List Command). written_since s c.args.created c.args.done c.args.register.number) c.as_slice-commands.ensures)))
