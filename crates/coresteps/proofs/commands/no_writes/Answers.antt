-- An empty row more.
use Rattle.std.proofs.Common.{◌≡◌, ◌+◌, ◌∷◌, [], length, length-append, ap, sym, subst, ◌∙◌, arith}
use Rattle.coresteps.proofs.WriteLemmas.{AreEmpty, AreEmpty-push}
use Rattle.coresteps.proofs.commands.no_writes.Goals as goal

pub loop-preserved : goal.loop-preserved
loop-preserved c =
    let more : length c.push.new.self.items ≡ length c.loop.rows.items + 1
    = ap length c.in_ok-push.ensures.items ∙ length-append c.loop.rows.items (c.new.result ∷ []) in (
      omega arith,
      subst AreEmpty (sym c.in_ok-push.ensures.items) (AreEmpty-push c.loop.rows.items c.new.result c.loop.invariant.1 c.new.ensures.items),
    )

pub returns : goal.returns
returns c = record { count = omega arith; each = c.loop.invariant.1 }
