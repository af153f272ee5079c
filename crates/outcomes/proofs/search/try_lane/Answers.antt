use Rattle.std.proofs.Common.{◌≡◌, ◌+◌, true, Option, MatchOption, refl, subst}
use Rattle.traces.specs.Lawful.{world_of, is_finished}
use Rattle.outcomes.specs.declared.reached.Reached.{Reached}
use Rattle.outcomes.specs.Search.{IsNext}
use Rattle.outcomes.proofs.SearchLemmas.{tried}
use Rattle.outcomes.proofs.search.try_lane.Goals as goal

pub returns-in_ok-add_state-in-Some : goal.returns-in_ok-add_state-in-Some
returns-in_ok-add_state-in-Some c = λ size r reached.
    let z = c.args.shape.now in
    let scripts = c.args.scripts.now in
    let from = c.args.from.now in
    let lane = c.args.lane in
    let n : IsNext z scripts size from lane c.in-Some.state =
    subst (λ (o : Option Reached). MatchOption o (is_finished z (world_of z scripts from.trace) lane ≡ true) (IsNext z scripts size from lane))
    c.in-Some.is (c.in_ok-found.ensures size r) in
    let added = c.in_ok-add_state-in-Some.ensures scripts (size + 1) reached n.reached in
    tried z scripts size from lane c.in-Some.state _ _ r n added.0 added.1

pub returns-in-None : goal.returns-in-None
returns-in-None c = λ size r reached.
    let z = c.args.shape.now in
    let scripts = c.args.scripts.now in
    let from = c.args.from.now in
    let lane = c.args.lane in (
      subst (λ (o : Option Reached). MatchOption o (is_finished z (world_of z scripts from.trace) lane ≡ true) (IsNext z scripts size from lane))
          c.in-None.is (c.in_ok-found.ensures size r),
      refl,
    )
