-- Where neither its own places nor a chain's are left, a create opens a page or takes what others returned.
use Rattle.std.proofs.Common.{◌≡◌, ℕ, List, ◌++◌, ◌∙◌, sym, subst}
use Rattle.seqpool.specs.declared.act.Act.{Act}
use Rattle.traces.specs.Books.{Book, caller, taken, of_shard, reclaimed}
use Rattle.steplaws.specs.Calls.{first_lane}
use Rattle.coresteps.specs.Lanes.{IsChained}
use Rattle.coresteps.proofs.AimLemmas.{opens_first, takes_first, first_where_none, first_unless_none}
use Rattle.coresteps.proofs.shared.Shared.first_of_create.Goals as goal
use Rattle.coresteps.proofs.shared.Shared.first_of_create.Goals.{then-number-eq0, else-number-eq0}

pub returns-then-none_opened : goal.returns-then-none_opened
returns-then-none_opened c = λ w lane draft at below none.
    let z = c.args.self.now.shape in let p = c.args.progress.now in
    let b : Book = w.books c.args.number in
    opens_first (caller z c.args.number b) b.own b.chain (of_shard c.args.number (reclaimed z.last_generation b.acts)) (taken b.acts) b.opened
    (sym at.own ∙ c.if-not-is_empty.ensures c.args.number lane.ring.items at.list)
    (c.in_default.ensures (b.chain ++ taken b.acts) (subst (λ (acts : List Act). IsChained acts p.chain (b.chain ++ taken b.acts)) draft.history at.chain))
    (sym at.opened ∙ c.if-none_opened.true)

pub returns : goal.returns
returns c = λ w lane draft at below none.
    let z = c.args.self.now.shape in let p = c.args.progress.now in
    let b : Book = w.books c.args.number in
    let from : ℕ = c.if-number-eq0.take_from in
    let is : from ≡ first_lane c.args.number = elim c.if-number-eq0.branch [
      | then-number-eq0 x ↦ x.take_from-is ∙ first_where_none c.args.number x.if-number-eq0.true
      | else-number-eq0 x ↦ x.take_from-is ∙ first_unless_none c.args.number x.if-number-eq0.false
    ] in
    takes_first (caller z c.args.number b) b.own b.chain (of_shard c.args.number (reclaimed z.last_generation b.acts)) (taken b.acts) b.opened
    (sym at.own ∙ c.if-not-is_empty.ensures c.args.number lane.ring.items at.list)
    (c.in_default.ensures (b.chain ++ taken b.acts) (subst (λ (acts : List Act). IsChained acts p.chain (b.chain ++ taken b.acts)) draft.history at.chain))
    c.take_from.result from (λ zero. c.if-none_opened.false (at.opened ∙ zero)) is c.take_from.ensures
