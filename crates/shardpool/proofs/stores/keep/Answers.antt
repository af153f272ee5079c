-- The object waits at the index of one of the lane's places.
use Rattle.std.proofs.Common.{◌≡◌, ◌-◌, Some, true, refl, sym, ap, ◌∙◌, slice_set}
use Rattle.keybits.specs.Places.{shard_of}
use Rattle.keybits.specs.Shapes.{index_of}
use Rattle.poolsteps.specs.Objects.{spot_at}
use Rattle.shardpool.proofs.free.Words.{word-low, word-high, word-index}
use Rattle.shardpool.proofs.stores.keep.Goals as goal

pub keep-requires-clause-start : goal.keep-requires-clause-start
keep-requires-clause-start g c =
    let s = c.args.state.now in let place = c.args.spot.place in let there = c.requires.spot in (
      word-low s.shape place (shard_of place) c.args.spot.start s.objects.first refl there.start c.requires.begins,
      word-high s.shape place (shard_of place) c.args.spot.start s.objects.first refl there.start c.requires.begins there.inside _ c.requires.narrow,
    )

pub keep-requires-clause-spot : goal.keep-requires-clause-spot
keep-requires-clause-spot g c = c.requires.at ∙ ap (spot_at c.args.state.now.objects.directory) (sym c.requires.spot.start)

pub returns : goal.returns
returns g c =
    let s = c.args.state.now in let place = c.args.spot.place in let there = c.requires.spot in
    let index : c.args.spot.start - s.objects.first ≡ index_of s.shape place = word-index s.shape place (shard_of place) c.args.spot.start s.objects.first refl there.start c.requires.begins in record {
      objects = ap (λ o. o.items) c.keep.ensures ∙ ap (λ i. slice_set s.objects.items i (Some c.args.whole.object)) index;
      rights = ap (λ o. o.rights) c.keep.ensures ∙ ap (λ i. slice_set s.objects.rights i true) index;
      same = (ap (λ o. o.directory) c.keep.ensures, ap (λ o. o.first) c.keep.ensures);
      list = c.push_number.ensures.pushed;
      free = c.push_number.ensures.places;
      rest = refl;
    }
