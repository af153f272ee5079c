-- The lane had the right to the place already.
use Rattle.std.proofs.Common.{arith, ◌≡◌, ◌-◌, ℕ, true, Some, refl, ap, sym, ◌∙◌, subst, slice_get, slice_set}
use Rattle.std.proofs.lemmas.List.{set-get_or}
use Rattle.std.proofs.lemmas.Option.{get_or_from_slice_get}
use Rattle.keybits.specs.declared.shape.Shape.{Shape}
use Rattle.keybits.specs.Places.{shard_of}
use Rattle.keybits.specs.Shapes.{index_of}
use Rattle.poolsteps.specs.Layout.{slot_start}
use Rattle.poolsteps.proofs.SlotLemmas.{in-row, row-small}
use Rattle.shardpool.proofs.free.Words.{stands-from, word-low, word-index}
use Rattle.shardpool.proofs.stores.list.Goals as goal

pub overflow_cast-first : goal.overflow_cast-first
overflow_cast-first g c =
    let s = c.args.state.now in let place = c.args.place in
    let from = stands-from s.shape place (shard_of place) refl in
    let low = in-row s.shape place c.requires.place in
    let small = row-small s.shape c.requires.shape in
    omega (arith, from, low, small, c.requires.begins, c.first-first.ensures)

pub fill-requires-clause-start : goal.fill-requires-clause-start
fill-requires-clause-start g c =
    let s = c.args.state.now in let place = c.args.place in
    word-low s.shape place (shard_of place) c.start_from-start.result s.objects.first refl (c.start_from-start.ensures.start ∙ ap (λ (z : Shape). slot_start z place) c.requires.placed) c.requires.begins

pub fill-requires-clause-right : goal.fill-requires-clause-right
fill-requires-clause-right g c =
    let s = c.args.state.now in let place = c.args.place in
    let index : c.start_from-start.result - s.objects.first ≡ index_of s.shape place
    = word-index s.shape place (shard_of place) c.start_from-start.result s.objects.first refl (c.start_from-start.ensures.start ∙ ap (λ (z : Shape). slot_start z place) c.requires.placed) c.requires.begins in
    subst (λ (i : ℕ). slice_get s.objects.rights i ≡ Some true) (sym index) c.requires.right

pub returns : goal.returns
returns g c =
    let s = c.args.state.now in let place = c.args.place in
    let index : c.start_from-start.result - s.objects.first ≡ index_of s.shape place
    = word-index s.shape place (shard_of place) c.start_from-start.result s.objects.first refl (c.start_from-start.ensures.start ∙ ap (λ (z : Shape). slot_start z place) c.requires.placed) c.requires.begins in
    let had = set-get_or s.objects.rights (index_of s.shape place) true in
    let here = get_or_from_slice_get s.objects.rights (index_of s.shape place) true true c.requires.right in record {
      objects = ap (λ o. o.items) c.fill.ensures ∙ ap (λ i. slice_set s.objects.items i (Some c.args.object)) index;
      rights = ap (λ o. o.rights) c.fill.ensures ∙ (sym had ∙ ap (λ b. slice_set s.objects.rights (index_of s.shape place) b) here);
      same = (ap (λ o. o.directory) c.fill.ensures, ap (λ o. o.first) c.fill.ensures);
      list = c.push_number.ensures.pushed;
      free = c.push_number.ensures.places;
      rest = refl;
    }
