use Rattle.std.proofs.Common.{rules, ◌≡◌, Some}
use Rattle.keybits.specs.Keys.{place_of, tag_of}
use Rattle.seqpool.specs.Rows.{pool_in}
use Rattle.explanations.specs.Reasons.{next_key, IsPublishDue}
use Rattle.explanations.proofs.Dues.{due-if}
use Rattle.explanations.proofs.Insides.{publish-general}
use Rattle.explanations.proofs.reasons.publish_due.Goals as goal

pub returns : goal.returns
returns c =
    let z = c.args.pool.now.shape in
    let pool = pool_in c.args.pool.now in
    let is : next_key c.args.history.now (tag_of c.args.key) (place_of c.args.key) ≡ Some c.in-Some.next = search rules in
    due-if (IsPublishDue z c.args.history.now pool c.args.lane c.args.key) _ _ _ c.due_if.result c.due_if.ensures
    (λ refused. publish-general z c.args.history.now pool c.args.lane c.args.key c.in-Some.next is (search rules))
    (λ allowed. (is, search rules))
