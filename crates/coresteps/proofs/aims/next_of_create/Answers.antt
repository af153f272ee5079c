-- The step of a create after this one is what the last step tells.
use Rattle.std.proofs.Common.{◌≡◌, ℕ, ◌∙◌, ap, sym, Some, None}
use Rattle.keybits.specs.declared.step.Kind.TheVariants as kinds
use Rattle.keybits.specs.declared.step.Word.TheVariants as words
use Rattle.steplaws.specs.Calls.{aim, next_lane}
use Rattle.coresteps.specs.declared.aims.Aim.{Aim as OwnAim}
use Rattle.coresteps.proofs.AimLemmas.{created, no_stack, no_take, after_stack, took_nothing, took_chain, next_where_own, next_unless_own}
use Rattle.coresteps.proofs.aims.next_of_create.Goals as goal
use Rattle.coresteps.proofs.aims.next_of_create.Goals.{then-from-lane, else-from-lane}

pub returns-in_default : goal.returns-in_default
returns-in_default c =
    let step = c.args.step in
    created c.args.shape.now c.args.lane step None
    (no_stack c.args.shape.now c.args.lane step.kind step.word step.before c.in_default.is-0 c.in_default.not-Stack-1)

pub returns-in_default-2 : goal.returns-in_default-2
returns-in_default-2 c =
    let step = c.args.step in
    created c.args.shape.now c.args.lane step None
    (no_take c.args.shape.now c.args.lane step.kind step.word step.before c.in_default.not-Take-0)

pub returns-then-step-eq0 : goal.returns-then-step-eq0
returns-then-step-eq0 c =
    let z = c.args.shape.now in let lane = c.args.lane in let step = c.args.step in
    let shard = c.in-Take-Stack.shard-1 in let from = c.in-Take-Stack.from in let next : ℕ = c.if-from-lane.next in
    let is : next ≡ next_lane lane from = elim c.if-from-lane.branch [
      | then-from-lane w ↦ w.next-is ∙ next_where_own lane from w.if-from-lane.true
      | else-from-lane w ↦ w.next-is ∙ next_unless_own lane from w.if-from-lane.false
    ] in
    created z lane step c.take_from.result
    (after_stack z lane shard from step c.take_from.result c.in-Take-Stack.is-0 c.in-Take-Stack.is-1
    (took_nothing z lane shard from step.before c.take_from.result next c.if-step-eq0.true is c.take_from.ensures))

pub returns : goal.returns
returns c =
    let z = c.args.shape.now in let lane = c.args.lane in let step = c.args.step in
    let shard = c.in-Take-Stack.shard-1 in let from = c.in-Take-Stack.from in
    let own : OwnAim = record { kind = kinds.Follow; word = words.Link c.linked_place.result } in
    created z lane step (Some own)
    (after_stack z lane shard from step (Some own) c.in-Take-Stack.is-0 c.in-Take-Stack.is-1
    (took_chain z lane shard from step.before (Some own) c.if-step-eq0.false
    ∙ ap (λ (p : ℕ). Some (aim kinds.Follow (words.Link p))) (sym c.linked_place.ensures.place)))
