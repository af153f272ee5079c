-- What a lane knows of its free places.
use Rattle.std.proofs.Common.{◌≡◌, ⊎_elim, ℕ, ◌<◌, true, false, List, Option, Some, None, refl, sym, ap, ◌∙◌, subst}
use Rattle.std.specs.List.{Contains}
use Rattle.std.proofs.lemmas.Bool.{cases_Bool}
use Rattle.std.proofs.lemmas.List.Elements.{All-contains}
use Rattle.atomic_table.specs.Seated.{TableId}
use Rattle.keybits.specs.declared.shape.Shape.{Shape}
use Rattle.keybits.specs.declared.place.Place.{Place}
use Rattle.keybits.specs.Places.{number_of}
use Rattle.freelists.specs.Queues.{AreFree}
use Rattle.freelists.specs.Shards.{IsOwn, place_numbered}
use Rattle.freelists.proofs.ShardLemmas.{OwnNumber}
use Rattle.seqpool.specs.Pool.{with, has}
use Rattle.poolsteps.specs.declared.view.View.{View}
use Rattle.poolsteps.specs.Views.{the_lane}
use Rattle.shardpool.specs.declared.pool.LaneState.{LaneState}
use Rattle.shardpool.specs.LaneStates.{IsFirst, Fits}
use Rattle.shardpool.specs.Lanes.{IsKept, first_place}
use Rattle.shardpool.proofs.frame.LaneFacts.{lane_of}
use Rattle.shardpool.proofs.free.Stores.{own-inside}
use Rattle.shardpool.proofs.free.Chains.{rest-unlisted}

-- the first place of a chain, where its number is that of no other place
first-by : (first : Option Place) (chain : List ℕ) → IsFirst first chain → ((place : Place) → first ≡ Some place → place_numbered (number_of place) ≡ place) → first ≡ first_place chain
first-by None chain is back = ap first_place (sym is)
first-by (Some place) chain is back = ap Some (sym (back place refl)) ∙ ap first_place (sym is)

module _ {T : Type 0} {content : T → List ℕ} {room : T → ℕ} {z : Shape} {v : View} {s : LaneState T} (table : TableId) (fits : Fits content room z v s) where
  shard-number : s.free.shard ≡ s.number
  shard-number = fits.stores.lists.0 ∙ sym fits.seat.number_is

  own-place : (place : Place) → IsOwn s.free.shard s.free.shape place → OwnNumber z (number_of place) place
  own-place place = own-inside z s.free place fits.seat.shape (subst (λ (n : ℕ). n < z.lanes) (sym shard-number) fits.seat.below) fits.stores.lists.1

  -- a place of its list is kept
  pub listed-kept : AreFree s.free → (place : Place) → Contains s.free.own place → IsKept z v.seen (lane_of table v s) (number_of place)
  listed-kept free place within =
      let own : IsOwn s.free.shard s.free.shape place = All-contains (IsOwn s.free.shard s.free.shape) s.free.own place free.own.inside within in
      let inside = own-place place own in
      let listed = fits.stores.listed place within in record {
        inside = inside.is_in;
        own = ap (λ (p : Place). p.shard) inside.back ∙ (own.of_shard ∙ shard-number);
        opened = listed.opened_is;
        with_lane = listed.blank.with_lane ∙ ap with (sym fits.seat.number_is);
      }

  -- and so is one of its taken chain
  pub chained-kept : (place : ℕ) → has (the_lane v).chain place ≡ true → IsKept z v.seen (lane_of table v s) place
  chained-kept place within = let chained = fits.stores.chained place within in record {
    inside = chained.0.inside;
    own = chained.0.own ∙ sym fits.seat.number_is;
    opened = chained.1;
    with_lane = chained.0.with_lane ∙ ap with (sym fits.seat.number_is);
  }

  -- which is not on the list
  pub listed-unchained : (place : Place) → Contains s.free.own place → has (the_lane v).chain (number_of place) ≡ false
  listed-unchained place within = ⊎_elim
      (λ (in_it : has (the_lane v).chain (number_of place) ≡ true).
      absurd (rest-unlisted fits.stores (subst (λ (n : ℕ). n < z.lanes) fits.seat.number_is fits.seat.below) (number_of place) (fits.stores.chained (number_of place) in_it).0 place within refl))
      (λ (isnt : has (the_lane v).chain (number_of place) ≡ false). isnt)
      (cases_Bool (has (the_lane v).chain (number_of place)))

  -- the chain hangs by its first place
  pub hangs-first : AreFree s.free → s.free.chain ≡ first_place (the_lane v).chain
  hangs-first free = first-by s.free.chain (the_lane v).chain fits.stores.first (λ place hung. (own-place place (free.chain.inside place hung)).back)
