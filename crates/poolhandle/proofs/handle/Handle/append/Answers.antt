-- The filling that was found became another of its key.
use Rattle.std.proofs.Common.{rules, ◌≡◌, ◌++◌, ◌∙◌, Bool, true, false, refl, ap, slice_index_or, inr, if◌then◌else◌}
use Rattle.poolhandle.specs.declared.kept.Kept.{Kept}
use Rattle.poolhandle.specs.Filled.{content_of}
use Rattle.poolhandle.proofs.Turning.{all-content, no-room, made-set}
use Rattle.poolhandle.proofs.Keeping.{keeps-lane}
use Rattle.poolhandle.proofs.handle.Handle.append.Goals as goal

pub invariant_of-self : goal.invariant_of-self
invariant_of-self c =
    let before = c.args.self.now in let to = c.append.ensures.changes in
    record { owned = before.owned; made = made-set before.lane.value c.in-Some.index before.fillings.list.items c.append.new.self.list.items to.0 c.in-Some.ensures.some.0 to.1 to.2 before.made; empty = before.empty }

pub returns-then-append : goal.returns-then-append
returns-then-append c =
    let old = c.args.self.now.fillings.list.items in let to = c.append.ensures.changes in let kept : Kept = to.0 in let found = c.in-Some.ensures.some in
    let was : Kept = slice_index_or old c.in-Some.index kept in let bytes = c.args.bytes.now in let is : c.append.result ≡ true = search rules in
    let longer : content_of kept ≡ content_of was ++ bytes = all-content kept to.3.1 ∙ (to.3.0 ∙ ap (λ (done : Bool). if done then content_of was ++ bytes else content_of was) is) in
    (refl, keeps-lane refl refl refl refl (c.in-Some.index, found.0, (kept, to.1, to.2, (found.1 kept, (longer, no-room kept to.3.1)))))

pub returns-else-append : goal.returns-else-append
returns-else-append c =
    let old = c.args.self.now.fillings.list.items in let to = c.append.ensures.changes in let kept : Kept = to.0 in let found = c.in-Some.ensures.some in
    let was : Kept = slice_index_or old c.in-Some.index kept in let bytes = c.args.bytes.now in let is : c.append.result ≡ false = search rules in
    let stays : content_of kept ≡ content_of was = all-content kept to.3.1 ∙ (to.3.0 ∙ ap (λ (done : Bool). if done then content_of was ++ bytes else content_of was) is) in
    inr (refl, (refl, keeps-lane refl refl refl refl (c.in-Some.index, found.0, (kept, to.1, to.2, (found.1 kept, (c.append.ensures.grown is kept, (stays, no-room kept to.3.1)))))))
