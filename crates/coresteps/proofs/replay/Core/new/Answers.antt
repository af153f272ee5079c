-- The core before its first turn keeps the first world.
use Rattle.std.proofs.Common.{◌∙◌, ap, arith, length, refl}
use Rattle.std.proofs.lemmas.List.{length-replicate}
use Rattle.traces.specs.Lawful.{first_world}
use Rattle.coresteps.specs.Lanes.{no_most}
use Rattle.coresteps.proofs.CoreLemmas.{first_core}
use Rattle.coresteps.proofs.replay.Core.new.Goals as goal

pub returns-clause-kept : goal.returns-clause-kept
returns-clause-kept c = first_core c.args.shape c.args.scripts.items _ c.in_ok-lanes.lanes.items c.requires.shape c.requires.alone (omega arith) c.requires.scripts
    refl c.in_ok-words.ensures (ap length (c.in_ok-published.ensures.items_if_clones_equal (λ y e. e)) ∙ (length-replicate c.all_places.result 0 ∙ c.all_places.ensures)) c.new-2.ensures.items
    c.in_ok-lanes.ensures.0 c.in_ok-lanes.ensures.1

pub invariant_of-result : goal.invariant_of-result
invariant_of-result c = (
  first_world c.args.scripts.items,
  λ _. no_most,
  first_core c.args.shape c.args.scripts.items _ c.in_ok-lanes.lanes.items c.requires.shape c.requires.alone (omega arith) c.requires.scripts
      refl c.in_ok-words.ensures (ap length (c.in_ok-published.ensures.items_if_clones_equal (λ y e. e)) ∙ (length-replicate c.all_places.result 0 ∙ c.all_places.ensures)) c.new-2.ensures.items
      c.in_ok-lanes.ensures.0 c.in_ok-lanes.ensures.1,
)
