-- The filling that was found became another of its key, or nothing changed.
use Rattle.std.proofs.Common.{rules, refl, sym, ap, subst, arith, Contains, slice_index_or, inr}
use Rattle.std.proofs.lemmas.List.{get_or_default}
use Rattle.poolhandle.specs.declared.kept.Kept.{Kept}
use Rattle.poolhandle.specs.declared.fillings.Fillings.{Fillings}
use Rattle.poolhandle.specs.Filled.{AreMade}
use Rattle.poolhandle.proofs.Turning.{no-room, room-length, made-set, by-answer, any-of}
use Rattle.poolhandle.proofs.Keeping.{keeps-lane}
use Rattle.poolhandle.proofs.handle.Handle.wrote.Goals as goal

pub invariant_of-self : goal.invariant_of-self
invariant_of-self c =
    let before = c.args.self.now in let new = c.wrote.new.self in
    record {
      owned = before.owned;
      made = by-answer (AreMade before.lane.value new.list.items) c.wrote.result
          (λ yes. let to = c.wrote.ensures.yes yes in made-set before.lane.value c.in-Some.index before.fillings.list.items new.list.items to.0 c.in-Some.ensures.some.0 to.1 to.2 before.made)
          (λ no. subst (λ (f : Fillings). AreMade before.lane.value f.list.items) (sym (c.wrote.ensures.no no).0) before.made);
      empty = before.empty;
    }

pub returns-then-wrote : goal.returns-then-wrote
returns-then-wrote c =
    let old = c.args.self.now.fillings.list.items in let to = c.wrote.ensures.yes (search rules) in let kept : Kept = to.0 in let found = c.in-Some.ensures.some in
    let was : Kept = slice_index_or old c.in-Some.index kept in let long = room-length was in let few = to.3.0 in
    (refl, keeps-lane refl refl refl refl (c.in-Some.index, found.0, (kept, to.1, to.2, (found.1 kept, (omega (arith, few, long), to.3.1, no-room kept to.3.2)))))

pub returns-else-wrote : goal.returns-else-wrote
returns-else-wrote c =
    let old = c.args.self.now.fillings.list.items in let found = c.in-Some.ensures.some in let told = c.wrote.ensures.no (search rules) in
    let any = any-of old c.in-Some.index found.0 in let was : Kept = slice_index_or old c.in-Some.index any in let long = room-length was in let few = told.1 any in
    let there : Contains old was = (c.in-Some.index, found.0, get_or_default old c.in-Some.index was any found.0) in
    inr (refl, (was, there, found.1 any, omega (arith, few, long)), (refl, keeps-lane refl refl refl refl (ap (λ (f : Fillings). f.list.items) told.0)))
