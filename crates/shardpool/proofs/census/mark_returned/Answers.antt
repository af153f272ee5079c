-- The chain and the stacks one after another.
use Rattle.std.proofs.Common.{◌++◌, ℕ, List, sym, ap, ◌∙◌, subst, arith}
use Rattle.keybits.proofs.ShapeLemmas.{page_size-le}
use Rattle.core.specs.Mem.Slots.{slots_items}
use Rattle.shardpool.specs.Marks.{Blanks, IsThread, AreFreePlaces, stacked}
use Rattle.core.specs.declared.slots.Slots.{Slots}
use Rattle.keybits.specs.Links.{link_to}
use Rattle.shardpool.proofs.count.Marks.{blanks-then}
use Rattle.shardpool.proofs.count.Lists.{chain-hangs, chain-marked, no-chain, stacks-stand, given-stand}
use Rattle.shardpool.proofs.census.mark_returned.Goals as goal
use Rattle.shardpool.proofs.census.mark_returned.Goals.{in-Some, in_default, Joined-chain, After-mark_stacks}

pub number-requires-clause-page : goal.number-requires-clause-page
number-requires-clause-page c =
    let ok = c.chain.ensures.places in
    let own = ok.chain.inside c.in-Some.first (sym c.chain.ensures.first ∙ c.in-Some.is) in
    omega (arith, own.in_pages, ok.limits.shape.pages.1)

pub number-requires-clause-slot : goal.number-requires-clause-slot
number-requires-clause-slot c =
    let free = c.args.free.now in let ok = c.chain.ensures.places in
    let own = ok.chain.inside c.in-Some.first (sym c.chain.ensures.first ∙ c.in-Some.is) in
    omega (arith, own.in_page, page_size-le free.shape c.in-Some.first.page)

pub mark_thread-requires-clause-thread : goal.mark_thread-requires-clause-thread
mark_thread-requires-clause-thread c =
    let z = c.args.shape.now in let f = c.requires.free in let old = c.args.words.now in
    let hangs = chain-hangs z c.requires.shape old c.requires.row c.args.shard c.args.opened c.args.free.now f.0 f.1 f.2 f.3 c.in-Some.first (sym c.chain.ensures.first ∙ c.in-Some.is) in
    (f.0, subst (λ (w : ℕ). IsThread z (slots_items old) c.args.shard w f.0) (sym (c.link_to.ensures.word ∙ ap link_to c.number.ensures)) hangs)

-- the chain is marked before the stacks
chained : (c : Joined-chain) → (chain : List ℕ) (threads : ℕ → List ℕ) (given : List ℕ)
    → AreFreePlaces c.args.shape.now (slots_items c.args.words.now) c.args.shard c.args.opened c.args.free.now chain threads given
    → Blanks c.args.shape.now chain c.args.words.now c.match-chain.words
chained c = λ chain threads given h.
    let z = c.args.shape.now in let old = c.args.words.now in let free = c.args.free.now in let first = sym c.chain.ensures.first in
    elim c.match-chain.branch [
      | in-Some w ↦ subst (λ (words : Slots ℕ). Blanks z chain old words) (sym w.words-is)
          (chain-marked z c.requires.shape old c.requires.row c.args.shard c.args.opened free chain threads given h w.mark_thread.new.words w.in-Some.first
          w.link_to.result (first ∙ w.in-Some.is) (w.link_to.ensures.word ∙ ap link_to w.number.ensures) w.mark_thread.ensures)
      | in_default w ↦ subst (λ (words : Slots ℕ). Blanks z chain old words) (sym w.words-is)
          (no-chain z c.requires.shape old c.requires.row c.args.shard c.args.opened free chain threads given h (first ∙ w.in_default.is))
    ]

pub mark_stacks-requires-clause-row : goal.mark_stacks-requires-clause-row
mark_stacks-requires-clause-row c = let f = c.requires.free in (chained (goal.at.mark_stacks-requires-clause-row c).Joined-chain f.0 f.1 f.2 f.3).row

pub mark_stacks-requires-clause-threads : goal.mark_stacks-requires-clause-threads
mark_stacks-requires-clause-threads c =
    let f = c.requires.free in (
      f.1,
      stacks-stand c.args.shape.now c.requires.shape c.args.words.now c.requires.row c.args.shard c.args.opened c.args.free.now f.0 f.1 f.2 f.3 c.match-chain.words
          (chained (goal.at.mark_stacks-requires-clause-threads c).Joined-chain f.0 f.1 f.2 f.3),
    )

-- and the stacks before the places that guests returned
returned : (c : After-mark_stacks) → ((chain : List ℕ) (threads : ℕ → List ℕ) (given : List ℕ)
    → AreFreePlaces c.args.shape.now (slots_items c.args.words.now) c.args.shard c.args.opened c.args.free.now chain threads given
    → Blanks c.args.shape.now chain c.args.words.now c.match-chain.words) → (chain : List ℕ) (threads : ℕ → List ℕ) (given : List ℕ)
    → AreFreePlaces c.args.shape.now (slots_items c.args.words.now) c.args.shard c.args.opened c.args.free.now chain threads given
    → Blanks c.args.shape.now (stacked c.args.shard threads c.args.shape.now.lanes) c.match-chain.words c.mark_stacks.new.words
returned c before chain threads given h =
    c.mark_stacks.ensures threads (stacks-stand c.args.shape.now c.requires.shape c.args.words.now c.requires.row c.args.shard c.args.opened c.args.free.now chain threads given h c.match-chain.words
    (before chain threads given h))

pub mark_given-requires-clause-row : goal.mark_given-requires-clause-row
mark_given-requires-clause-row c =
    let f = c.requires.free in
    let at = goal.at.mark_given-requires-clause-row c in
    (returned at.After-mark_stacks (chained at.Joined-chain) f.0 f.1 f.2 f.3).row

pub mark_given-requires-clause-given : goal.mark_given-requires-clause-given
mark_given-requires-clause-given c =
    let f = c.requires.free in
    let at = goal.at.mark_given-requires-clause-given c in (
      f.2,
      given-stand c.args.shape.now c.requires.shape c.args.words.now c.requires.row c.args.shard c.args.opened c.args.free.now f.0 f.1 f.2 f.3 c.match-chain.words c.mark_stacks.new.words
          (chained at.Joined-chain f.0 f.1 f.2 f.3) (returned at.After-mark_stacks (chained at.Joined-chain) f.0 f.1 f.2 f.3),
    )

pub returns : goal.returns
returns c = λ chain threads given h.
    let z = c.args.shape.now in let old = c.args.words.now in let free = c.args.free.now in
    let at = goal.at.returns c in
    let before = chained at.Joined-chain chain threads given h in
    let after = returned at.After-mark_stacks (chained at.Joined-chain) chain threads given h in
    blanks-then z (chain ++ stacked c.args.shard threads z.lanes) given old c.mark_stacks.new.words c.mark_given.new.words
    (blanks-then z chain (stacked c.args.shard threads z.lanes) old c.match-chain.words c.mark_stacks.new.words before after)
    (c.mark_given.ensures given (given-stand z c.requires.shape old c.requires.row c.args.shard c.args.opened free chain threads given h c.match-chain.words c.mark_stacks.new.words before after))
