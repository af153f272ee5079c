-- The filling that was found became another of its key.
use Rattle.std.proofs.Common.{rules, ◌≡◌, ◌∙◌, ℕ, Bool, true, false, refl, sym, ap, subst, replicate, inr, if◌then◌else◌}
use Rattle.poolhandle.specs.declared.kept.Kept.{Kept}
use Rattle.poolhandle.specs.declared.fillings.Fillings.{Fillings}
use Rattle.poolhandle.specs.Filled.{content_of, room_of, AreMade, Turn}
use Rattle.poolhandle.proofs.Turning.{no-room, made-set}
use Rattle.poolhandle.proofs.Keeping.{keeps-lane}
use Rattle.poolhandle.proofs.handle.Handle.room.Goals as goal

pub invariant_of-self : goal.invariant_of-self
invariant_of-self c =
    let before = c.args.self.now in let to = c.grow.ensures.changes in
    record { owned = before.owned; made = made-set before.lane.value c.in-Some.index before.fillings.list.items c.grow.new.self.list.items to.0 c.in-Some.ensures.some.0 to.1 to.2 before.made; empty = before.empty }

pub returns-then-not-grow-clause-err : goal.returns-then-not-grow-clause-err
returns-then-not-grow-clause-err c =
    let old = c.args.self.now.fillings.list.items in let to = c.grow.ensures.changes in let kept : Kept = to.0 in let found = c.in-Some.ensures.some in
    let is : c.grow.result ≡ false = search rules in
    let none : kept.room ≡ 0 = to.3.2 ∙ ap (λ (done : Bool). if done then c.args.count else 0) is in
    inr (refl, (refl, keeps-lane refl refl refl refl (c.in-Some.index, found.0, (kept, to.1, to.2, (found.1 kept, (c.grow.ensures.grown is kept, (to.3.0, no-room kept none)))))))

pub invariant_of-self-2 : goal.invariant_of-self-2
invariant_of-self-2 c =
    let before = c.args.self.now in let to = c.grow.ensures.changes in let made = made-set before.lane.value c.in-Some.index before.fillings.list.items c.grow.new.self.list.items to.0 c.in-Some.ensures.some.0 to.1 to.2 before.made in
    record { owned = before.owned; made = subst (λ (f : Fillings). AreMade before.lane.value f.list.items) (sym c.room_address.ensures) made; empty = before.empty }

pub returns-clause-ok : goal.returns-clause-ok
returns-clause-ok c =
    let old = c.args.self.now.fillings.list.items in let to = c.grow.ensures.changes in let kept : Kept = to.0 in let found = c.in-Some.ensures.some in
    let is : c.grow.result ≡ true = search rules in
    let wide : kept.room ≡ c.args.count = to.3.2 ∙ ap (λ (done : Bool). if done then c.args.count else 0) is in
    let R = λ (was now : Kept). (content_of now ≡ content_of was) × (room_of now ≡ replicate c.args.count 0) in
    let turned : Turn c.args.key R old c.grow.new.self.list.items
    = (c.in-Some.index, found.0, (kept, to.1, to.2, (found.1 kept, (to.3.0, to.3.1 ∙ ap (λ (n : ℕ). replicate n 0) wide)))) in
    (refl, keeps-lane refl refl refl refl (subst (λ (f : Fillings). Turn c.args.key R old f.list.items) (sym c.room_address.ensures) turned))
