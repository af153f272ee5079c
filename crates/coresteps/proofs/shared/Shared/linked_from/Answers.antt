-- Each place found is the next of the chain, whose places are of the shape and stand in it once.
use Rattle.std.proofs.Common.{ℕ, ◌+◌, List, [], ◌∷◌, ◌++◌, ◌≡◌, append_assoc, append-nil, ap, sym, ◌∙◌, subst, length, length-append, arith}
use Rattle.keybits.specs.Links.{linked_place, Leads}
use Rattle.keybits.proofs.LeadLemmas.{leads-zero}
use Rattle.seqpool.specs.Pool.{NoRepeats, AllHome}
use Rattle.coresteps.proofs.StepLemmas.{next_link, same_places}
use Rattle.coresteps.proofs.shared.Shared.linked_from.Goals as goal

pub linked_place-place-requires-clause-in_range : goal.linked_place-place-requires-clause-in_range
linked_place-place-requires-clause-in_range c =
    let v = c.loop-word.invariant in
    (next_link c.args.self.now.shape c.requires.shape v.2 v.0.link c.args.shard c.loop-word.word c.loop-word.places.items v.1 v.5 v.6 v.7 c.loop-word-test.true).small

pub load-word-requires-clause-inside : goal.load-word-requires-clause-inside
load-word-requires-clause-inside c =
    let v = c.loop-word.invariant in
    ap (Rattle.keybits.specs.Shapes.is_place c.args.self.now.shape) c.linked_place-place.ensures.place
    ∙ (next_link c.args.self.now.shape c.requires.shape v.2 v.0.link c.args.shard c.loop-word.word c.loop-word.places.items v.1 v.5 v.6 v.7 c.loop-word-test.true).inside

pub loop-word-smaller : goal.loop-word-smaller
loop-word-smaller c =
    let v = c.loop-word.invariant in
    let n = next_link c.args.self.now.shape c.requires.shape v.2 v.0.link c.args.shard c.loop-word.word c.loop-word.places.items v.1 v.5 v.6 v.7 c.loop-word-test.true in
    let few = n.few in
    let longer : length c.push.new.self.items ≡ length c.loop-word.places.items + 1
    = ap length c.in_ok-push.ensures.items ∙ length-append c.loop-word.places.items (c.linked_place-place.result ∷ []) in
    omega arith

pub loop-word-preserved : goal.loop-word-preserved
loop-word-preserved c =
    let v = c.loop-word.invariant in
    let n = next_link c.args.self.now.shape c.requires.shape v.2 v.0.link c.args.shard c.loop-word.word c.loop-word.places.items v.1 v.5 v.6 v.7 c.loop-word-test.true in
    let whole : c.loop-word.places.items ++ v.1 ≡ c.push.new.self.items ++ n.more
    = ap (λ (xs : List ℕ). c.loop-word.places.items ++ xs) (n.is ∙ ap (λ (p : ℕ). p ∷ n.more) (sym c.linked_place-place.ensures.place))
    ∙ (sym (append_assoc c.loop-word.places.items (c.linked_place-place.result ∷ []) n.more)
    ∙ ap (λ (xs : List ℕ). xs ++ n.more) (sym c.in_ok-push.ensures.items)) in
    let read : c.load-word.result ≡ v.0.link (linked_place c.args.shard c.loop-word.word)
    = c.load-word.ensures v.0 v.3 ∙ ap v.0.link c.linked_place-place.ensures.place in (
      v.0,
      n.more,
      v.2,
      v.3,
      subst (λ (xs : List ℕ). Leads v.0.link c.args.shard c.args.stack xs) whole v.4,
      subst NoRepeats whole v.5,
      subst (λ (xs : List ℕ). AllHome c.args.self.now.shape v.2 c.args.shard xs) whole v.6,
      subst (λ (word : ℕ). Leads v.0.link c.args.shard word n.more) (sym read) n.on,
    )

pub returns : goal.returns
returns c = λ words places table leads.
    let v = c.loop-word.invariant in
    let none : v.1 ≡ [] = leads-zero v.0.link c.args.shard c.loop-word.word v.1 c.loop-word-test.false v.7 in
    c.from_vec.ensures ∙ (sym (append-nil c.loop-word.places.items)
    ∙ (ap (λ (xs : List ℕ). c.loop-word.places.items ++ xs) (sym none)
    ∙ same_places c.args.self.now.shape c.args.self.now.words v.0 words v.2 c.args.shard c.args.stack (c.loop-word.places.items ++ v.1) places v.3 table v.6 v.4 leads))
