use Rattle.std.proofs.Common.{◌+◌, ◌<◌, ◌∷◌, [], ◌++◌, length, ap, ◌∙◌, subst, arith}
use Rattle.freelists.specs.Shards.{place_numbered}
use Rattle.freelists.specs.Queues.{FreePlaces, IsEnd}
use Rattle.std.specs.Vec.{with_item}
use Rattle.freelists.proofs.FreeLemmas.{all_free, shown, numbered, push-room, ring-small, push-listed, keeps-push}
use Rattle.freelists.proofs.local.LocalFree.push_number.Goals as goal
use Rattle.freelists.proofs.local.LocalFree.push_number.Goals.{After-self-2-1}

pub behind-end-requires-clause-count : goal.behind-end-requires-clause-count
behind-end-requires-clause-count c =
    let room = push-room c.self.inside c.args.self.now (place_numbered c.args.number) c.self.view_is c.self.invariant c.requires in omega (arith, room, c.len.ensures)

pub behind-end-requires-clause-small : goal.behind-end-requires-clause-small
behind-end-requires-clause-small c =
    let small = ring-small c.self.inside c.args.self.now (place_numbered c.args.number) c.self.view_is c.self.invariant c.requires in omega (arith, small, c.len.ensures)

end : (c : After-self-2-1) → IsEnd (length c.self.inside.ring.items) c.self.inside.first c.self.inside.count c.behind-end.result
end c = subst (λ n. IsEnd n c.self.inside.first c.self.inside.count c.behind-end.result) (c.len.ensures ∙ c.self.inside.ring.ok.0) c.behind-end.ensures.end

high : (c : After-self-2-1) → c.behind-end.result < length c.self.inside.ring.items
high c = subst (λ n. c.behind-end.result < n) (c.len.ensures ∙ c.self.inside.ring.ok.0) c.behind-end.ensures.below

pub invariant_of-self : goal.invariant_of-self
invariant_of-self c = keeps-push c.self.inside c.args.self.now (place_numbered c.args.number) c.self.view_is c.self.invariant c.requires c.behind-end.result c.args.number (numbered c.args.number) (end c) (high c)

pub returns-clause-pushed : goal.returns-clause-pushed
returns-clause-pushed c =
    let more = push-listed c.self.inside c.args.self.now (place_numbered c.args.number) c.self.view_is c.self.invariant c.requires c.behind-end.result c.args.number (numbered c.args.number) (end c) (high c) in
    (λ i. record (shown c.self.inside) { own = more i }) ∙ ap (λ (v : FreePlaces). record v { own = v.own ++ (place_numbered c.args.number) ∷ [] }) c.self.view_is

pub returns-clause-places : goal.returns-clause-places
returns-clause-places c =
    all_free (record c.self.inside { ring = with_item c.self.inside.ring c.behind-end.result c.args.number; count = c.self.inside.count + 1 })
    (keeps-push c.self.inside c.args.self.now (place_numbered c.args.number) c.self.view_is c.self.invariant c.requires c.behind-end.result c.args.number (numbered c.args.number) (end c) (high c))
