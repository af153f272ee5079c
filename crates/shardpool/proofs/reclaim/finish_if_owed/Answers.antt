use Rattle.std.proofs.Common.{None, refl, sym, ◌∙◌}
use Rattle.keybits.specs.Keys.{place_of}
use Rattle.seatcalls.proofs.parts.Ending.{ends-none, still-acts}
use Rattle.shardpool.proofs.parts.Handing.{hands-none}
use Rattle.shardpool.proofs.reclaim.finish_if_owed.Goals as goal

pub returns-else-owes_claim-clause-finishes : goal.returns-else-owes_claim-clause-finishes
returns-else-owes_claim-clause-finishes g c = record {
  reclaimed = None;
  ends = ends-none c.requires.call.keeps.hand.1 c.requires.call.seen c.requires.call.owes (sym c.owes_claim.ensures ∙ c.if-owes_claim.false);
  acts = still-acts g.row.T.Denot c.args.grid.now.shape (place_of c.args.key) c.args.hand.now.me.0;
  told = tt;
  kept = refl;
}

pub returns-else-owes_claim-clause-hands : goal.returns-else-owes_claim-clause-hands
returns-else-owes_claim-clause-hands g c = hands-none g.E.Emptier.takes c.args.hand.now.me.0 c.args.emptier.now
