-- Each place has its row.
use Rattle.std.proofs.Common.{ℕ, ◌<◌, ◌∙◌, sym, subst}
use Rattle.coresteps.proofs.shared.Shared.index_of_publish.Goals as goal

pub index-requires : goal.index-requires
index-requires c =
    subst (λ (n : ℕ). c.position.result < n) (sym (c.args.self.now.published.ok.0 ∙ c.requires.published)) c.position.ensures.below

pub position-requires-clause-shape : goal.position-requires-clause-shape
position-requires-clause-shape c = c.requires.shape

pub position-requires-clause-place : goal.position-requires-clause-place
position-requires-clause-place c = c.requires.place
