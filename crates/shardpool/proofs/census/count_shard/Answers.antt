-- Each word of the shard's opened pages is that of the place with its index.
use Rattle.std.proofs.Common.{◌≡◌, ℕ, ◌+◌, ◌-◌, ◌<◌, refl, ap, ◌∙◌, arith}
use Rattle.core.specs.Mem.Slots.{slots_items}
use Rattle.keybits.specs.declared.step.Word.TheVariants.{Life}
use Rattle.keybits.specs.Places.{page_of}
use Rattle.std.specs.Prelude.{min}
use Rattle.keybits.specs.Shapes.{page_start}
use Rattle.poolsteps.specs.Layout.{words_in, index_in, slot_row}
use Rattle.poolsteps.proofs.SlotLemmas.{row-small}
use Rattle.shardpool.specs.Marks.{part_by_word}
use Rattle.shardpool.proofs.count.Marks.{read-word, is-full}
use Rattle.shardpool.proofs.count.Counts.{counts-more, counts-all, counts-room, start-below, start-is, unopened-from, opened-below, part-opened, opened-few}
use Rattle.shardpool.proofs.census.count_shard.Goals.{At-loop-index}
use Rattle.shardpool.proofs.census.count_shard.Goals as goal

-- the word of this round is one of the shard's
below : (c : At-loop-index) → c.loop-index.index < c.places_of_pages-opened_places.result → c.shard_start-first.result + c.loop-index.index < slot_row c.args.shape.now
below c low =
    let z = c.args.shape.now in
    let few = opened-few z c.args.opened in
    let opened = c.places_of_pages-opened_places.ensures in
    let first = c.shard_start-first.ensures in
    let at = start-below z c.args.shard c.loop-index.index c.requires.shard (omega (arith, low, few, opened)) in
    omega (arith, first, at)

pub life_at-requires : goal.life_at-requires
life_at-requires c =
    let low = below (goal.at.life_at-requires c).At-loop-index c.loop-index-test.true in
    let small = row-small c.args.shape.now c.requires.shape in
    omega (arith, low, small)

pub get-requires : goal.get-requires
get-requires c =
    let low = below (goal.at.get-requires c).At-loop-index c.loop-index-test.true in
    let at = c.life_at.ensures in
    is-full c.args.shape.now c.args.words.now c.requires.row c.life_at.result (omega (arith, low, at))

pub count-requires : goal.count-requires
count-requires c =
    let room = counts-room c.args.shape.now c.args.shard c.args.opened (slots_items c.args.words.now) c.loop-index.index c.args.census.now c.loop-index.census c.loop-index.invariant in
    let few = opened-few c.args.shape.now c.args.opened in
    let opened = c.places_of_pages-opened_places.ensures in
    omega (arith, c.requires.room)

pub loop-index-preserved : goal.loop-index-preserved
loop-index-preserved c =
    let z = c.args.shape.now in let words = c.args.words.now in let shard = c.args.shard in
    let opened = c.places_of_pages-opened_places.ensures in
    let low = c.loop-index-test.true in
    counts-more z shard c.args.opened (slots_items words) c.loop-index.index c.part_of.result c.args.census.now c.loop-index.census c.count.new.self c.loop-index.invariant
    (λ place inside own here.
    let start = start-is z shard c.loop-index.index place (c.shard_start-first.result + c.loop-index.index) own here (ap (λ (n : ℕ). n + c.loop-index.index) c.shard_start-first.ensures) in
    let at : c.life_at.result ≡ index_in z (Life place) = omega (arith, c.life_at.ensures, start) in
    let word = read-word z c.requires.shape words c.requires.row (Life place) inside c.life_at.result c.get.result.now at c.get.ensures in
    c.part_of.ensures ∙ (ap part_by_word word
    ∙ part-opened c.args.opened (page_of place) ((words_in z (slots_items words)).life place)
    (opened-below z c.args.opened place inside (omega (arith, here, low, opened)))))
    c.count.ensures

-- those of unopened pages, which are left
pub overflow_sub-census : goal.overflow_sub-census
overflow_sub-census c =
    let few = opened-few c.args.shape.now c.args.opened in
    let opened = c.places_of_pages-opened_places.ensures in
    let same = c.shard_places.ensures in
    omega (arith, few, opened, same)

pub overflow_add-census : goal.overflow_add-census
overflow_add-census c =
    let room = counts-room c.args.shape.now c.args.shard c.args.opened (slots_items c.args.words.now) c.loop-index.index c.args.census.now c.loop-index.census c.loop-index.invariant in
    let few = opened-few c.args.shape.now c.args.opened in
    let opened = c.places_of_pages-opened_places.ensures in
    let most = c.loop-index.auto.index-end in
    let same = c.shard_places.ensures in
    omega (arith, room, few, opened, most, same, c.requires.room)

pub returns : goal.returns
returns c =
    let z = c.args.shape.now in
    let few = opened-few z c.args.opened in
    let opened = c.places_of_pages-opened_places.ensures in
    let same = c.shard_places.ensures in
    let most = c.loop-index.auto.index-end in
    let end : c.loop-index.index ≡ page_start z (min c.args.opened z.pages) = omega arith in
    let rest = c.shard_places.result - c.places_of_pages-opened_places.result in
    counts-all z c.args.shard c.args.opened (slots_items c.args.words.now) c.loop-index.index rest c.args.census.now c.loop-index.census
    (record c.loop-index.census { unopened = c.loop-index.census.unopened + rest }) c.loop-index.invariant (omega (arith, end, few, opened, same))
    (λ place inside high. unopened-from z c.args.opened place inside (omega (arith, end, high))) refl
