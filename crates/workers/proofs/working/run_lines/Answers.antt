use Rattle.std.proofs.Common.{◌<◌, ◌∙◌, length, arith}
use Rattle.workers.specs.Tidy.{desk}
use Rattle.workers.proofs.Lining.{count-more, runs-more, passed-more}
use Rattle.workers.proofs.working.run_lines.Goals as goal

pub loop-ran-preserved : goal.loop-ran-preserved
loop-ran-preserved g c =
    let inv = c.loop-ran.invariant in
    let pushed = c.push_reserved.ensures in
    let first = desk c.args.lane.now c.args.registers.now in
    let between = desk c.loop-ran.lane c.loop-ran.registers in
    let last = desk c.run_line.new.lane c.run_line.new.registers in
    let inside : c.loop-ran.ran < length c.args.commands.now = omega arith in
    record {
      low = omega arith;
      count = count-more c.args.pool.now first between last c.args.commands.now c.loop-ran.ran c.loop-ran.replies.items c.push_reserved.new.self.items
          c.index-commands-ran.result c.run_line.result pushed.items inv.count;
      room = omega (arith, inv.room, pushed.capacity);
      passed = passed-more (g.G.Gate.says c.args.gate.now) c.args.lane.now.number c.number.result c.loop-ran.ran c.line_number-line.result (c.number.ensures ∙ inv.runs.same.2)
          c.line_number-line.ensures c.if-not-pass.ensures.says inv.passed;
      runs = runs-more c.args.pool.now first between last c.args.commands.now c.loop-ran.ran c.loop-ran.replies.items c.push_reserved.new.self.items
          c.index-commands-ran.result c.run_line.result pushed.items inv.runs inside c.index-commands-ran.is c.run_line.ensures;
    }
