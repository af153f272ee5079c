-- The table has the value in the word that was stored.
use Rattle.std.proofs.Common.{ℕ, ap, subst, refl, set}
use Rattle.coresteps.specs.Kept.{IsWordOf}
use Rattle.coresteps.proofs.TableLemmas.{stored_life, stored_link, stored_stack}
use Rattle.coresteps.proofs.words.Table.store.Goals as goal

pub returns-in-Life : goal.returns-in-Life
returns-in-Life c = λ words table.
    let z = c.args.shape.now in
    let old = c.args.self.now in
    let inside = subst (IsWordOf z) c.in-Life.is c.requires.inside in
    stored_life z words c.args.word c.args.value old _ table c.requires.shape c.in-Life.place c.in-Life.is inside
    (ap (λ (n : ℕ). set old.life.items n c.args.value) c.position.ensures.position) refl refl

pub returns-in-Link : goal.returns-in-Link
returns-in-Link c = λ words table.
    let z = c.args.shape.now in
    let old = c.args.self.now in
    let inside = subst (IsWordOf z) c.in-Link.is c.requires.inside in
    stored_link z words c.args.word c.args.value old _ table c.requires.shape c.in-Link.place c.in-Link.is inside refl
    (ap (λ (n : ℕ). set old.links.items n c.args.value) c.position-in-Link.ensures.position) refl

pub returns-in-Stack : goal.returns-in-Stack
returns-in-Stack c = λ words table.
    let z = c.args.shape.now in
    let old = c.args.self.now in
    let inside = subst (IsWordOf z) c.in-Stack.is c.requires.inside in
    stored_stack z words c.args.word c.args.value old _ table c.in-Stack.shard c.in-Stack.lane c.in-Stack.is inside.0 inside.1 refl refl
    (ap (λ (n : ℕ). set old.stacks.items n c.args.value) c.stack_position.ensures)
