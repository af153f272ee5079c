use Rattle.std.proofs.Common.{◌≡◌, ◌≤◌, List, length, sym, ap, ◌∙◌, subst}
use Rattle.keybits.specs.declared.place.Place.{Place}
use Rattle.keybits.specs.Shapes.{shard_places}
use Rattle.freelists.specs.Queues.{FreePlaces, AreFree}
use Rattle.freelists.proofs.QueueLemmas.{length-listed, own_length}
use Rattle.freelists.proofs.FreeLemmas.{all_free, own_of}
use Rattle.freelists.proofs.local.LocalFree.len.Goals as goal

pub returns-clause-len : goal.returns-clause-len
returns-clause-len c =
    let own : own_of c.self.inside ≡ c.args.self.now.own = ap (λ (v : FreePlaces). v.own) c.self.view_is in
    sym (length-listed c.self.inside.ring.items c.self.inside.count c.self.inside.first) ∙ ap (λ (ps : List Place). length ps) own

pub returns-clause-within : goal.returns-clause-within
returns-clause-within c =
    let few : length (own_of c.self.inside) ≤ shard_places c.self.inside.shard.shape =
    own_length c.self.inside.shard.shape c.self.inside.shard.number (own_of c.self.inside) c.self.invariant.0 c.self.invariant.3 in
    subst (λ n. n ≤ shard_places c.args.self.now.shape) (length-listed c.self.inside.ring.items c.self.inside.count c.self.inside.first)
    (subst (λ (v : FreePlaces). length (own_of c.self.inside) ≤ shard_places v.shape) c.self.view_is few)

pub returns-clause-places : goal.returns-clause-places
returns-clause-places c = subst AreFree c.self.view_is (all_free c.self.inside c.self.invariant)
