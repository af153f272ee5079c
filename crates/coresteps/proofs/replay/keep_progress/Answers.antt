-- The ring has room for the place that was added.
use Rattle.std.proofs.Common.{ℕ, ◌<◌, List, length, sym, subst, refl}
use Rattle.coresteps.proofs.replay.keep_progress.Goals as goal

pub put_added-requires-clause-length : goal.put_added-requires-clause-length
put_added-requires-clause-length c = λ place is.
    subst (λ (ring : List ℕ). c.args.progress.own.length < length ring) (sym c.deref_mut.ensures.value) (c.requires.length place is)

pub put_added-requires-clause-first : goal.put_added-requires-clause-first
put_added-requires-clause-first c =
    subst (λ (ring : List ℕ). c.args.progress.own.first < length ring) (sym c.deref_mut.ensures.value) c.requires.first

pub returns-clause-added : goal.returns-clause-added
returns-clause-added c = c.put_added.ensures.added

pub returns-clause-most : goal.returns-clause-most
returns-clause-most c = refl
