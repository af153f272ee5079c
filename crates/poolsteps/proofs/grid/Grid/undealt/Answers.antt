use Rattle.poolsteps.specs.Layout.{spots_at}
-- The rule holds of the table at its start.
use Rattle.std.proofs.Common.{List, ℕ, sym, subst, arith}
use Rattle.atomic_table.specs.Table.{opening}
use Rattle.poolsteps.specs.Rule.{Kept, first_view}
use Rattle.poolsteps.proofs.Starts.{starts}
use Rattle.poolsteps.proofs.grid.Grid.undealt.Goals as goal

pub new-requires : goal.new-requires
new-requires g c =
    let content = g.T.Clear.content in
    let room = g.T.Clear.room in
    let spots = spots_at c.address.result.at c.args.shape in
    let z = c.args.shape in
    let words = c.in_ok-words in
    let slots = c.in_ok-slots in
    subst (λ (row : List ℕ). Kept content room spots z (opening row slots.slots.items (first_view z))) (sym c.as_slice.ensures.value)
    (starts content room spots z words.words.items slots.slots.items c.requires (omega arith) words.ensures.count words.ensures.first slots.ensures.count slots.ensures.empty)
