-- The places that a legal Collect takes are home places of the lane's shard, each once.
use Rattle.std.proofs.Common.{ℕ, ◌++◌, Option, subst}
use Rattle.keybits.specs.Links.{Leads}
use Rattle.seqpool.specs.declared.act.Act.{Act}
use Rattle.seqpool.specs.declared.act.Act.TheVariants as acts
use Rattle.seqpool.specs.Pool.{AllHome, pool_after, IsLegal}
use Rattle.traces.specs.Books.{act_list}
use Rattle.coresteps.proofs.StepLemmas.{last_allowed}
use Rattle.coresteps.proofs.shared.Shared.act_of_take.Goals as goal

pub linked_from-requires-clause-leads : goal.linked_from-requires-clause-leads
linked_from-requires-clause-leads c =
    let r = c.requires.take in
    let z = c.args.self.now.shape in
    let t = r.5.1 c.if-before-eq0.false in
    let allowed = last_allowed z r.3 (acts.Collect r.1.lane t.0) (subst (λ (o : Option Act). IsLegal z (r.3 ++ act_list o)) t.2 r.7) in (
      r.0,
      t.0,
      pool_after z r.3,
      r.4,
      subst (λ (n : ℕ). Leads r.0.link n c.args.before t.0) r.6 t.1,
      allowed.1,
      subst (λ (n : ℕ). AllHome z (pool_after z r.3) n t.0) r.6 allowed.2,
    )
