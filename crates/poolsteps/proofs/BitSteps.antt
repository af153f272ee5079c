-- RETURN and GATHER, as steps of a seat.
use Rattle.poolsteps.specs.Spot.{Spot as CellSpot}
use Rattle.std.proofs.Common.{◌≡◌, ◌≢◌, ⊎_elim, ℕ, zero, suc, Bool, true, false, ◌+◌, ◌%◌, ◌^◌, ◌<◌, ◌≤◌, nat_lt, List, [], ◌∷◌, ◌++◌, Option, Some, None, refl, ap, sym, ◌∙◌, subst, arith, lt-ltb, append-nil}
use Rattle.std.proofs.lemmas.Bool.{and_from, cases_Bool}
use mathlib.Core.Logic.{dite}
use native.Mathlib.Decide.{ℕ_discrete}
use Rattle.atomic_table.specs.Table.{Me}
use Rattle.keybits.specs.declared.shape.Shape.{Shape}
use Rattle.keybits.specs.Places.{shard_of}
use Rattle.keybits.specs.Shapes.{is_place}
use Rattle.keybits.specs.Rows.{row_place, bits_word, row_word, set_places}
use Rattle.keybits.proofs.RowLemmas.{value-set, bits-low, set-places-are}
use Rattle.keybits.proofs.ShapeLemmas.{is_place-parts}
use Rattle.seqpool.specs.declared.act.Act.{Act}
use Rattle.seqpool.specs.declared.act.Act.TheVariants as acts
use Rattle.seqpool.specs.Pool.{with, pool_after}
use Rattle.poolsteps.specs.declared.view.Stored.{Stored}
use Rattle.poolsteps.specs.Shares.{Slots, Shared, room_of, after_home, after_collect}
use Rattle.poolsteps.proofs.shares.Resting.{home-share-law, collect-share-law}
use Rattle.steplaws.specs.declared.pending.Pending.TheVariants.{Nothing, Returns}
use Rattle.steplaws.specs.Facts.{Words, Lanes, with_under, guest_home}
use Rattle.steplaws.specs.StepLaws.{with_act, IsAllowed, KeepsBits, row_of, bit_of}
use Rattle.steplaws.proofs.Bits.{return-law, gather-law}
use Rattle.steplaws.proofs.HomePlaces.{home-parts, guest-part}
use Rattle.steplaws.proofs.Updates.{at-here, at-else, two-here}
use Rattle.poolsteps.specs.declared.view.LaneRecord.{LaneRecord}
use Rattle.poolsteps.specs.declared.view.View.{View}
use Rattle.poolsteps.specs.Layout.{has_row, row_count}
use Rattle.poolsteps.specs.Views.{the_lane, known_of}
use Rattle.poolsteps.specs.Rule.{World}
use Rattle.poolsteps.specs.Returned.{given_record, gathered_record, place_under, IsAtRest, GivesBit, EmptiesRow, NoneGiven}
use Rattle.poolsteps.proofs.SeatLemmas.{IsAt, IsPoint}
use Rattle.poolsteps.proofs.Making.{moment_of, MakesBits, shared-still}
use Rattle.poolsteps.proofs.Deeds.{home-deeds, home-others, collect-deeds, collect-cells, collect-others, collect-unknown}
use Rattle.poolsteps.proofs.Pushing.{room-known}
use Rattle.poolsteps.proofs.Seeing.{agrees-now}
use Rattle.poolsteps.proofs.Taking.{has-place, room-still}

-- the pool has the row of each of its places
pub has-row-of : (z : Shape) (place : ℕ) → is_place z place ≡ true → has_row z (shard_of place) (row_of place) ≡ true
has-row-of z place inside =
    let parts = is_place-parts z place inside in
    and_from (nat_lt (shard_of place) z.lanes) (nat_lt (row_of place) (row_count z)) (lt-ltb (shard_of place) z.lanes parts.0)
    (lt-ltb (row_of place) (row_count z) (let page = parts.1 in omega arith))

-- of a word that is 0 no bit is set
cleared : (n : ℕ) (set : ℕ → Bool) → bits_word n set ≡ 0 → (bit : ℕ) → bit < n → set bit ≡ false
cleared zero set is bit below = absurd (omega arith)
cleared (suc n) set is bit below =
    let low = bits-low n set in dite (ℕ_discrete bit n)
    (λ (here : bit ≡ n). ⊎_elim
    (λ (on : set n ≡ true). let value = value-set set n on in absurd (omega arith))
    (λ (off : set n ≡ false). ap set here ∙ off)
    (cases_Bool (set n)))
    (λ (other : bit ≢ n). cleared n set (omega arith) bit (omega arith))

-- so no home place of a row whose word is 0 was returned by a guest
cleared-row : (z : Shape) (shard row : ℕ) (history : List Act) → row_word shard row (guest_home z history shard) ≡ 0 → NoneGiven z history shard row
cleared-row z shard row history is place here = ⊎_elim
    (λ (given : guest_home z history shard place ≡ true).
    let own = (home-parts z history shard place (guest-part z history shard place given).0).own in
    let at : row_place shard row (bit_of place) ≡ place = omega (arith, own, here) in
    let off = cleared 64 (λ (bit : ℕ). guest_home z history shard (row_place shard row bit)) is (bit_of place) (omega arith) in
    ap (guest_home z history shard) (sym at) ∙ off)
    (λ (off : guest_home z history shard place ≡ false). off)
    (cases_Bool (guest_home z history shard place))

module _ {S T : Type 0} (content : T → List ℕ) (room : T → ℕ) (spots : ℕ → CellSpot) (z : Shape) (words : Words) (w : World) (slots : Slots T)
    (point : IsPoint content room spots z words w slots) (me : Me S View) (at : IsAt z w me.0) where
  abbrev r : LaneRecord
  r = the_lane me.0

  -- the shares after the place is returned: it was at rest
  shared-given : (place : ℕ) → IsAllowed z w.history (Some (acts.Home r.lane place)) → IsAtRest z me.0 place
      → Shared content room spots z (w.history ++ acts.Home r.lane place ∷ []) (w.kept ++ 0 ∷ []) slots (after_home w.stock r.lane place)
  shared-given place allowed rests =
      let with_lane : (pool_after z w.history place).phase ≡ with r.lane = allowed.1.1 in
      let known : known_of r place ≡ w.stock.stored place =
      at.record_is.cells place ∙ point.shared.owned r.lane place at.record_is.inside (rw with_lane refl) in
      home-share-law content room spots z w.history w.kept slots w.stock r.lane place point.paired point.shared allowed.0 allowed.1
      (λ number below. sym (at.record_is.deeds place number) ∙ rests.slots number below)
      (subst (λ (c : Stored). c.content ≡ []) known rests.empty)
      (subst (λ (n : ℕ). n ≤ (w.stock.stored place).room) (sym (room-known z w me.0 point.rule.legal at place with_lane))
      (subst (λ (c : Stored). room_of me.0.seen me.0.rooms place ≤ c.room) known rests.room))

  -- RETURN by a guest
  module _ (place : ℕ) (under : r.under ≡ Returns place None false) (guest : z.lanes ≤ r.lane) (rests : IsAtRest z me.0 place) where
    abbrev word : ℕ
    word = words.bits (shard_of place) (row_of place)

    law : (word + 2 ^ bit_of place < 2 ^ 64)
        × KeepsBits z (moment_of words w) (shard_of place) (row_of place) (word + 2 ^ bit_of place) (Some (acts.Home r.lane place)) (with_under w.lanes r.lane Nothing)
    law = return-law z (moment_of words w) r.lane place point.rule (at.record_is.inside, sym at.record_is.under ∙ under) guest

    pub return-makes : MakesBits content room spots z words w slots (shard_of place) (row_of place) me ((word + 2 ^ bit_of place) % 2 ^ 64) (GivesBit z me)
    return-makes =
        let low = law.0 in
        let whole : word + 2 ^ bit_of place ≡ (word + 2 ^ bit_of place) % 2 ^ 64 = omega (arith, low) in
        let place_is : place ≡ place_under r.under = sym (ap place_under under) in
        subst (λ (left : ℕ). MakesBits content room spots z words w slots (shard_of place) (row_of place) me left (GivesBit z me)) whole record {
          act = Some (acts.Home r.lane place);
          after = with_under w.lanes r.lane Nothing;
          stock = after_home w.stock r.lane place;
          r = given_record r place;
          keeps = law.1;
          shared = shared-given place law.1.allowed rests;
          by = refl;
          owned = tt;
          lane_is = refl;
          mine = refl;
          agrees = record {
            under = sym (at-here w.lanes.under r.lane Nothing r.lane refl);
            pushed = at.record_is.pushed;
            chain = at.record_is.chain;
            deeds = home-deeds w.stock r.lane r.deeds at.record_is.deeds place;
            cells = at.record_is.cells;
          };
          others = λ l other. record {
            under = at-else w.lanes.under r.lane Nothing l other;
            pushed = λ shard. refl;
            chain = refl;
            status = home-others w.stock r.lane l other place;
            knows = λ p. refl;
          };
          told = λ v saw made. rw (sym place_is) made;
        }

  -- GATHER of a row of the lane's own shard
  module _ (row : ℕ) (below : r.lane < z.lanes) where
    abbrev found : ℕ
    found = words.bits r.lane row

    abbrev places : List ℕ
    places = set_places r.lane row found

    abbrev MakesGather : Type 0
    MakesGather = MakesBits content room spots z words w slots r.lane row me 0 (EmptiesRow z row me)

    -- the row's word is then 0, so no bit is set of a home place that a guest returned
    none-given : {act : Option Act} {after : Lanes} → KeepsBits z (moment_of words w) r.lane row 0 act after → (seen : List Act) → seen ≡ with_act w.history act
        → NoneGiven z seen r.lane row
    none-given {act} {after} keeps seen is place here = cleared-row z r.lane row seen
        (sym (sym (two-here words.bits r.lane row 0 r.lane row refl refl) ∙ (keeps.rule.home.bits r.lane row below
        ∙ ap (λ (h : List Act). row_word r.lane row (guest_home z h r.lane)) (sym is)))) place here

    gathers-none : found ≡ 0 → MakesGather
    gathers-none none =
        let law = gather-law z (moment_of words w) r.lane row point.rule below in record {
          act = None;
          after = w.lanes;
          stock = w.stock;
          r = r;
          keeps = law.1 none;
          shared = shared-still content room spots z words w slots point None r tt tt;
          by = tt;
          owned = tt;
          lane_is = refl;
          mine = sym (append-nil r.mine);
          agrees = agrees-now z w r at.record_is;
          others = λ l other. record { under = refl; pushed = λ shard. refl; chain = refl; status = λ place number. refl; knows = λ place. refl };
          told = λ v saw steps. ((λ empty. steps, λ some. absurd (some none)), none-given (law.1 none) v.0.seen saw.0);
        }

    gathers-some : found ≢ 0 → MakesGather
    gathers-some some =
        let law = gather-law z (moment_of words w) r.lane row point.rule below in
        let keeps = subst (λ (taken : List ℕ). KeepsBits z (moment_of words w) r.lane row 0 (Some (acts.Collect r.lane taken)) w.lanes)
        (sym (set-places-are r.lane row found)) (law.2 some) in
        let stored : ℕ → Stored = w.stock.stored in
        let shares = collect-share-law content room spots z w.history w.kept slots w.stock r.lane places point.paired point.shared keeps.allowed.0 keeps.allowed.1 in record {
          act = Some (acts.Collect r.lane places);
          after = w.lanes;
          stock = after_collect w.stock r.lane places;
          r = gathered_record r places stored;
          keeps = keeps;
          shared = shares.1;
          by = refl;
          owned = tt;
          lane_is = refl;
          mine = refl;
          agrees = record {
            under = at.record_is.under;
            pushed = at.record_is.pushed;
            chain = at.record_is.chain;
            deeds = collect-deeds w.stock r.lane r.deeds at.record_is.deeds places;
            cells = collect-cells w.stock r.lane r.cells at.record_is.cells places;
          };
          others = λ l other. record {
            under = refl;
            pushed = λ shard. refl;
            chain = refl;
            status = collect-others w.stock r.lane l other places;
            knows = collect-unknown w.stock r.lane l other places;
          };
          told = λ v saw steps. (
            (
              λ none. absurd (some none),
              λ more. (
                stored,
                λ place of. (
                  has-place z w.history w.kept r.lane places place (gathered_record r places stored) v.0 saw.0 steps.goes.lanes refl of,
                  (shares.0 place of).0,
                  subst (λ (n : ℕ). n ≤ (stored place).room)
                      (sym (room-still z w.history w.kept r.lane places place (gathered_record r places stored) v.0 saw.0 saw.1 point.paired)) (shares.0 place of).1,
                ),
                steps,
              ),
            ),
            none-given keeps v.0.seen saw.0,
          );
        }

    pub gather-makes : MakesGather
    gather-makes = dite (ℕ_discrete found 0) gathers-none gathers-some
