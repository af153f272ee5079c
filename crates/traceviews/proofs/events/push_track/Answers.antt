use Rattle.std.proofs.Common.{◌+◌, ◌++◌, ℕ, codes, decimal, refl, subst}
use Rattle.traceviews.specs.Pages.{Grows}
use Rattle.traceviews.proofs.PageLemmas.{grows_more}
use Rattle.traceviews.proofs.events.push_track.Goals as goal

pub returns : goal.returns
returns c =
    let old = c.args.out.now in
    let mid = c.named.new.self in
    let track = codes ",\"pid\":1,\"tid\":" in
    let first : Grows old mid (track ++ decimal (c.args.lane + 1)) = subst (λ (n : ℕ). Grows old mid (track ++ decimal (n + 1))) c.from.ensures c.named.ensures in
    grows_more old mid c.named-2.new.self (track ++ decimal (c.args.lane + 1)) (codes ",\"ts\":" ++ decimal c.args.number) _ first c.named-2.ensures refl
