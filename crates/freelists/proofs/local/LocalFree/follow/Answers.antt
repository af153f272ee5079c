use Rattle.std.proofs.Common.{◌≡◌, ◌≤◌, Option, Some, sym, ap, ◌∙◌, subst, arith}
use Rattle.keybits.specs.declared.place.Place.{Place}
use Rattle.keybits.specs.Places.{number_of}
use Rattle.keybits.specs.Links.{link_to}
use Rattle.keybits.proofs.LinkLemmas.{link_to-positive}
use Rattle.freelists.specs.Shards.{IsOwn}
use Rattle.freelists.specs.Queues.{FreePlaces}
use Rattle.freelists.proofs.ShardLemmas.{linked_own}
use Rattle.freelists.proofs.FreeLemmas.{Keeps, keeps-none, keeps-followed, all_free}
use Rattle.freelists.proofs.local.LocalFree.follow.Goals as goal
use Rattle.freelists.proofs.local.LocalFree.follow.Goals.{then-link-eq0, else-link-eq0}

pub returns-clause-goes_on : goal.returns-clause-goes_on
returns-clause-goes_on c place is_own same =
    let own : IsOwn c.self.inside.shard.number c.self.inside.shard.shape place =
    subst (λ (v : FreePlaces). IsOwn v.shard v.shape place) (sym c.self.view_is) is_own in
    let positive : 1 ≤ link_to (number_of place) = link_to-positive (number_of place) in
    elim c.if-link-eq0.branch [
      | then-link-eq0 w ↦ let none : c.args.link ≡ 0 = w.if-link-eq0.true in absurd (omega arith)
      | else-link-eq0 w ↦ w.self-is ∙ ap (λ (p : Place). Some p)
          (w.place_of_word.ensures.place ∙ linked_own c.self.inside.shard.shape c.self.inside.shard.number c.args.link place c.self.invariant.0 own same)
    ]

pub invariant_of-self : goal.invariant_of-self
invariant_of-self c = elim c.if-link-eq0.branch [
  | then-link-eq0 w ↦ subst (λ (chain : Option Place). Keeps (record c.self.inside { chain = chain })) (sym w.self-is) (keeps-none c.self.inside c.self.invariant)
  | else-link-eq0 w ↦ subst (λ (chain : Option Place). Keeps (record c.self.inside { chain = chain })) (sym w.self-is)
      (keeps-followed c.self.inside c.args.self.now c.args.link w.place_of_word.result c.self.view_is c.self.invariant w.if-link-eq0.false c.requires.link w.place_of_word.ensures.place)
]

pub returns-clause-places : goal.returns-clause-places
returns-clause-places c = all_free (record c.self.inside { chain = c.if-link-eq0.self }) (elim c.if-link-eq0.branch [
  | then-link-eq0 w ↦ subst (λ (chain : Option Place). Keeps (record c.self.inside { chain = chain })) (sym w.self-is) (keeps-none c.self.inside c.self.invariant)
  | else-link-eq0 w ↦ subst (λ (chain : Option Place). Keeps (record c.self.inside { chain = chain })) (sym w.self-is)
      (keeps-followed c.self.inside c.args.self.now c.args.link w.place_of_word.result c.self.view_is c.self.invariant w.if-link-eq0.false c.requires.link w.place_of_word.ensures.place)
])
