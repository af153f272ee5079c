-- The place at each position of the shard is the one of the next index.
use Rattle.std.proofs.Common.{◌≡◌, ℕ, ◌+◌, ◌*◌, ◌<◌, inr, length, refl, sym, ap, ◌∙◌, subst, arith}
use Rattle.core.specs.Mem.Slots.{slots_items}
use Rattle.keybits.specs.declared.step.Word.TheVariants.{Life}
use Rattle.keybits.specs.Places.{shard_of}
use Rattle.std.specs.Prelude.{min}
use Rattle.keybits.specs.Shapes.{all_places, page_start, shard_places, index_of}
use Rattle.poolsteps.specs.Layout.{words_in, shard_start, slot_start, index_in, spots_at}
use Rattle.poolsteps.proofs.SlotLemmas.{row-small}
use Rattle.poolsteps.specs.Joins.{HasCell, HasNoCell}
use Rattle.keybits.proofs.ShapeLemmas.{shape_bounds}
use Rattle.shardpool.proofs.count.Marks.{read-word, is-full}
use Rattle.shardpool.proofs.count.Counts.{position-below, start-below, start-is, at-position, unopened-from, opened-few}
use Rattle.shardpool.proofs.at_close.DroppedCells.{drains-none, drains-more, drains-all, cell-stays}
use Rattle.shardpool.proofs.free.Words.{word-low, word-high}
use Rattle.shardpool.proofs.census.out_cells.Given.{Over}
use Rattle.shardpool.proofs.census.out_cells.Goals as goal
use Rattle.shardpool.proofs.census.out_cells.Goals.{After-place_at-place, After-get-word, in-Some, in_default}

-- the place of this round
at : (g : Over) (c : After-place_at-place g) → (shard_of c.place_at-place.result ≡ c.args.shard) × (index_of c.args.shape.now c.place_at-place.result ≡ c.loop-index.index)
at g c =
    let z = c.args.shape.now in let shard = c.args.shard in
    let same = c.shard_places-places.ensures in
    let few = opened-few z c.args.opened in
    let opened = c.places_of_pages-opened_places.ensures in
    at-position z shard c.loop-index.index c.place_at-place.result (omega arith) c.place_at-place.ensures.place
    (c.place_at-place.ensures.position ∙ ap (λ (n : ℕ). shard * n + c.loop-index.index) same)

pub loop-index-init : goal.loop-index-init
loop-index-init g c = record {
  drains = drains-none c.args.shape.now c.args.shard (words_in c.args.shape.now (slots_items c.args.words.now)).life c.args.slots.now c.requires.row;
  objects = refl;
}

pub overflow_add-position : goal.overflow_add-position
overflow_add-position g c =
    let z = c.args.shape.now in
    let same = c.shard_places-places.ensures in
    let few = opened-few z c.args.opened in
    let opened = c.places_of_pages-opened_places.ensures in
    let below = position-below z c.args.shard c.loop-index.index c.requires.shard (omega arith) in
    let most = (shape_bounds z c.requires.shape).all in
    let at = ap (λ (n : ℕ). c.args.shard * n + c.loop-index.index) same in
    omega (arith, below, most, at)

-- the lifecycle word of this round stands where that of the place does
start : (g : Over) (c : After-place_at-place g) → c.shard_start-first.result + c.loop-index.index ≡ slot_start c.args.shape.now c.place_at-place.result
start g c =
    let z = c.args.shape.now in
    let here = at g c in
    start-is z c.args.shard c.loop-index.index c.place_at-place.result (c.shard_start-first.result + c.loop-index.index) here.0 here.1
    (ap (λ (n : ℕ). n + c.loop-index.index) c.shard_start-first.ensures)

word-at : (g : Over) (c : After-get-word g) → c.life_at.result ≡ index_in c.args.shape.now (Life c.place_at-place.result)
word-at g c = let stands = start g c.before.before in omega (arith, c.life_at.ensures, stands)

pub life_at-requires : goal.life_at-requires
life_at-requires g c =
    let z = c.args.shape.now in
    let few = opened-few z c.args.opened in
    let opened = c.places_of_pages-opened_places.ensures in
    let first = c.shard_start-first.ensures in
    let below = start-below z c.args.shard c.loop-index.index c.requires.shard (omega arith) in
    let small = row-small z c.requires.shape in
    omega (arith, first, below, small)

pub get-word-requires : goal.get-word-requires
get-word-requires g c =
    let z = c.args.shape.now in
    let few = opened-few z c.args.opened in
    let opened = c.places_of_pages-opened_places.ensures in
    let first = c.shard_start-first.ensures in
    let at = c.life_at.ensures in
    let below = start-below z c.args.shard c.loop-index.index c.requires.shard (omega arith) in
    is-full z c.args.words.now c.requires.words c.life_at.result (omega (arith, first, below, at))

pub place_at-place-requires-clause-position : goal.place_at-place-requires-clause-position
place_at-place-requires-clause-position g c =
    let z = c.args.shape.now in
    let same = c.shard_places-places.ensures in
    let few = opened-few z c.args.opened in
    let opened = c.places_of_pages-opened_places.ensures in
    subst (λ (n : ℕ). c.args.shard * n + c.loop-index.index < all_places z) (sym same) (position-below z c.args.shard c.loop-index.index c.requires.shard (omega arith))

pub out_cell-requires-clause-cell : goal.out_cell-requires-clause-cell
out_cell-requires-clause-cell g c =
    let z = c.args.shape.now in let words = c.args.words.now in let place = c.place_at-place.result in
    let inside = c.place_at-place.ensures.place in
    let here = at g (goal.at.out_cell-requires-clause-cell g c).After-place_at-place in
    let word = read-word z c.requires.shape words c.requires.words (Life place) inside c.life_at.result c.get-word.result.now (word-at g (goal.at.out_cell-requires-clause-cell g c).After-get-word) c.get-word.ensures in
    subst (HasCell (spots_at c.args.directory.ptr z) z (slots_items c.loop-index.slots) place) (sym word)
    (cell-stays z (slots_items c.args.slots.now) (slots_items c.loop-index.slots) place ((words_in z (slots_items words)).life place) inside
    (c.loop-index.invariant.drains.kept place inside (inr (let is = here.1 in omega (arith, is)))) (c.requires.cells place inside here.0))

pub loop-index-preserved : goal.loop-index-preserved
loop-index-preserved g c =
    let z = c.args.shape.now in let words = c.args.words.now in let place = c.place_at-place.result in
    let inside = c.place_at-place.ensures.place in
    let here = at g (goal.at.loop-index-preserved g c).After-place_at-place in
    let word = read-word z c.requires.shape words c.requires.words (Life place) inside c.life_at.result c.get-word.result.now (word-at g (goal.at.loop-index-preserved g c).After-get-word) c.get-word.ensures in
    record {
      drains = drains-more z c.requires.shape c.args.shard (words_in z (slots_items words)).life c.loop-index.index place c.args.slots.now c.loop-index.slots c.out_cell.new.slots
          inside here.0 here.1 c.loop-index.invariant.drains c.out_cell.ensures.drains (subst (HasNoCell z (slots_items c.out_cell.new.slots) place) word c.out_cell.ensures.gone);
      objects = elim c.match-out_cell.branch [
        | in-Some w ↦ w.objects-is ∙ (w.bring_back.ensures ∙ c.loop-index.invariant.objects)
        | in_default w ↦ w.objects-is ∙ c.loop-index.invariant.objects
      ];
    }

pub bring_back-requires-clause-start : goal.bring_back-requires-clause-start
bring_back-requires-clause-start g c =
    let z = c.args.shape.now in let place = c.place_at-place.result in
    let here = at g (goal.at.bring_back-requires-clause-start g c).After-place_at-place in
    let first : c.loop-index.objects.first ≡ shard_start z c.args.shard = (λ i. (c.loop-index.invariant.objects i).first) ∙ c.requires.objects.1.0 in
    let long : length c.loop-index.objects.items ≡ shard_places z = (λ i. length (c.loop-index.invariant.objects i).items) ∙ c.requires.objects.1.1 in
    let begin = start g (goal.at.bring_back-requires-clause-start g c).After-place_at-place in
    let stands = c.shard_start-first.result + c.loop-index.index in (
      word-low z place c.args.shard stands c.loop-index.objects.first here.0 begin first,
      word-high z place c.args.shard stands c.loop-index.objects.first here.0 begin first c.place_at-place.ensures.place (length c.loop-index.objects.items) long,
    )

pub bring_back-requires-clause-spot : goal.bring_back-requires-clause-spot
bring_back-requires-clause-spot g c =
    let directory : c.loop-index.objects.directory ≡ c.args.directory.ptr = (λ i. (c.loop-index.invariant.objects i).directory) ∙ c.requires.objects.0 in
    let begin = start g (goal.at.bring_back-requires-clause-spot g c).After-place_at-place in
    c.in-Some.ensures.whole ∙ (λ i. record { directory = sym directory i; index = sym begin i })

pub returns-clause-drains : goal.returns-clause-drains
returns-clause-drains g c =
    let z = c.args.shape.now in
    let most = c.loop-index.auto.index-end in
    let opened = c.places_of_pages-opened_places.ensures in
    let end : c.loop-index.index ≡ page_start z (min c.args.opened z.pages) = omega arith in
    drains-all z c.args.shard (words_in z (slots_items c.args.words.now)).life c.args.slots.now c.loop-index.slots c.loop-index.index
    (λ place inside of_shard high. c.requires.idle place inside of_shard (unopened-from z c.args.opened place inside (omega (arith, end, high))))
    c.loop-index.invariant.drains
