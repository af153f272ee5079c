use Rattle.std.proofs.Common.{◌≡◌, None, take, fold, option_map}
use Rattle.explanations.specs.Reasons.{with_content}
use Rattle.explanations.proofs.reasons.last_content.Given as goal

abbrev pub invariant-loop-act : goal.invariant-loop-act
invariant-loop-act l = option_map (λ content. content.now) l.found ≡ fold (with_content l.key) None (take l.act-index l.history)
