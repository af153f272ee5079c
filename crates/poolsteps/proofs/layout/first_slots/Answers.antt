use Rattle.std.proofs.Common.{rules, ◌≡◌, ℕ, ◌*◌, ◌+◌, length, ap, ◌∙◌, arith}
use Rattle.keybits.specs.Shapes.{callers}
use Rattle.std.proofs.lemmas.List.{length_push}
use Rattle.poolsteps.proofs.FirstSlots.{none-more, none-first}
use Rattle.poolsteps.proofs.SlotLemmas.{rows-small}
use Rattle.poolsteps.proofs.layout.first_slots.Goals as goal

pub loop-init : goal.loop-init
loop-init g c = record { stand = search rules; room = search rules; empty = none-first c.in_ok-slots.slots.items (search rules) }

pub push_reserved-requires : goal.push_reserved-requires
push_reserved-requires g c = search rules

pub loop-preserved : goal.loop-preserved
loop-preserved g c = let pushed = c.push_reserved.ensures in let before = c.loop.invariant in record {
  stand = ap length pushed.items ∙ (length_push c.loop.slots.items c.empty.result ∙ ap (λ (n : ℕ). n + 1) before.stand);
  room = rw pushed.capacity before.room;
  empty = rw (pushed.items, c.empty.ensures) (none-more c.loop.slots.items before.empty);
}

pub returns-clause-count : goal.returns-clause-count
returns-clause-count g c =
    let lanes : ℕ = callers c.args.shape.now in
    let end : c.loop.counter ≡ c.callers.result * c.slot_row.result = omega arith in
    c.loop.invariant.stand ∙ (end ∙ (ap (λ (n : ℕ). n * c.slot_row.result) c.callers.ensures ∙ ap (λ (n : ℕ). lanes * n) c.slot_row.ensures))

pub returns-clause-empty : goal.returns-clause-empty
returns-clause-empty g c = c.loop.invariant.empty

pub overflow_mul-count : goal.overflow_mul-count
overflow_mul-count g c =
    let rows = rows-small c.args.shape.now c.callers.result c.slot_row.result c.requires (omega (arith, c.callers.ensures)) c.slot_row.ensures in omega (arith, rows)
