-- A guest that gets a reference, and one that gives it back.
use Rattle.std.proofs.Common.{◌≡◌, inl, ℕ, ◌+◌, ◌-◌, ◌<◌, ◌≤◌, Bool, true, false, cond, eqb, List, [], ◌∷◌, ◌++◌, Option, Some, refl, sym, ap, ◌∙◌, subst, arith, append-nil, eq-eqb}
use denote.RawPtr.{Ptr}
use Rattle.atomic_table.specs.Table.{Me}
use Rattle.atomic_table.specs.Seated.{TableId}
use Rattle.keybits.specs.declared.shape.Shape.{Shape}
use Rattle.keybits.specs.declared.step.Kind.{Kind}
use Rattle.keybits.specs.Keys.{place_of, is_key, key_number}
use Rattle.seqpool.specs.declared.act.Act.{Act}
use Rattle.seqpool.specs.declared.act.Act.TheVariants as acts
use Rattle.seqpool.specs.Pool.{Phase, published, references_in, is_current, pool_after}
use Rattle.seqpool.specs.Histories.{PublishedAt}
use Rattle.steplaws.specs.StepLaws.{reclaim}
use Rattle.steplaws.specs.declared.pending.Pending.TheVariants.{Nothing}
use Rattle.steplaws.specs.declared.pending.Pending.{Pending}
use Rattle.poolsteps.specs.Share.{Share}
use Rattle.poolsteps.specs.Spot.{Spot as CellSpot}
use Rattle.poolsteps.specs.Layout.{slot_start, spots_at}
use Rattle.poolsteps.specs.declared.grid.Spot.{Spot}
use Rattle.poolsteps.specs.declared.view.Status.TheVariants.{Untouched}
use Rattle.poolsteps.specs.declared.view.View.{View}
use Rattle.poolsteps.specs.Grids.{IsSpot}
use Rattle.poolsteps.specs.Moved.{Outs, Backs, stored_of}
use Rattle.poolsteps.specs.Shares.{room_of, IsKept}
use Rattle.poolsteps.specs.Told.{IsIdle, LifeSteps, MayLeave, WasPublished, references_seen}
use Rattle.poolsteps.specs.Views.{the_lane, status_of, known_of}
use Rattle.poolsteps.proofs.shares.HeldContents.{held-content-law}
use Rattle.seatcalls.specs.Called.{Did}
use Rattle.seatcalls.specs.Left.{has_retired}
use Rattle.seatcalls.specs.declared.ended.Ended.{Ended}
use Rattle.seatcalls.specs.declared.ended.Ended.TheVariants.{Free, Kept}
use Rattle.seatcalls.specs.Endings.{Ends}
use Rattle.seatcalls.specs.Visitors.{GuestOf, IsSeated, FitsGuest, HasNoReference, HasOneReference, IsReferring, Visits}
use Rattle.seatcalls.proofs.parts.Doing.{did-more, did-carries}
use Rattle.seatcalls.proofs.parts.Moves.{carries-out, carries-back, out-moves, back-moves, moves-here, moves-known}
use Rattle.seatcalls.proofs.parts.RetiredPlaces.{retired-append, retired-phase}
use Rattle.seatcalls.proofs.parts.Visiting.{seated, guest-refs, fits-still, life-did, life-under, visits-did, visits-more}

-- ---- a place to whose key a guest refers isn't one that it retired

none-either : (b : Bool) → ◌≡◌ {A = ℕ} (cond b 0 0) 0
none-either true = refl
none-either false = refl

pub unretired : {z : Shape} {v : View} {number : ℕ} (key : ℕ) → IsSeated z v number → 0 < references_seen z v key → has_retired z (place_of key) (the_lane v).mine false ≡ true → ⊥
unretired {z = z} {v = v} key seat some was =
    let is = retired-phase z v.seen (the_lane v).mine (the_lane v).lane (place_of key) seat.seen.0 seat.seen.1 was in
    let none : references_seen z v key ≡ 0
    = ap (λ (f : Phase). cond (is_current z (pool_after z v.seen) key) (references_in f (the_lane v).lane) 0) is ∙ none-either (is_current z (pool_after z v.seen) key) in
    omega (arith, some, none)

-- ---- what a guest did, from what it was

pub visits-as : {S : Type 0} {z y : Shape} {place made_steps made_looks steps looks number : ℕ} {made : List Act} {a b : Me S View} {table now : TableId} {old : GuestOf}
    → Did z place made made_steps made_looks a b → record { table = table; shape = y; number = number; book = a.0 } ≡ old → y ≡ z → now ≡ table → made_steps ≤ steps → made_looks ≤ looks
    → Visits made steps looks old (record { table = now; shape = y; number = number; book = b.0 })
visits-as {z = z} {y = y} {steps = steps} {looks = looks} {number = number} {made = made} {a = a} {b = b} {table = table} {now = now} did view shape same few_steps few_looks =
    let after : Shape → GuestOf = λ x. record { table = now; shape = x; number = number; book = b.0 } in
    subst (λ (o : GuestOf). Visits made steps looks o (after y)) view
    (subst (λ (x : Shape). Visits made steps looks (record { table = table; shape = x; number = number; book = a.0 }) (after x)) (sym shape)
    (visits-did did same refl refl few_steps few_looks))

-- ---- the end of a call, with the acts in front of it

module _ {T : Type 0} (content : T → List ℕ) (room : T → ℕ) (directory : Ptr) (place : ℕ) where
  pub ends-behind : {first : List Act} {s l most_steps most_looks : ℕ} {old mid : GuestOf} (steps looks : ℕ) (ended : Ended T) → Visits first s l old mid
      → Ends content room directory place [] steps looks mid ended → s + steps ≤ most_steps → l + looks ≤ most_looks
      → Ends content room directory place first most_steps most_looks old ended
  ends-behind {first = first} {most_steps = most_steps} {most_looks = most_looks} {old = old} steps looks (Free new) visits rest few_steps few_looks =
      subst (λ (made : List Act). Visits made most_steps most_looks old new) (append-nil first) (visits-more visits rest few_steps few_looks)
  ends-behind {first = first} {most_steps = most_steps} {most_looks = most_looks} {old = old} {mid = mid} steps looks (Kept claimed) visits rest few_steps few_looks =
      let shape : mid.shape ≡ old.shape = visits.same.1 in record {
        at = rest.at;
        made = subst (λ (z : Shape). Visits (first ++ reclaim z old.number place claimed.generation ∷ []) most_steps most_looks old claimed.guest) shape
            (subst (λ (n : ℕ). Visits (first ++ reclaim mid.shape n place claimed.generation ∷ []) most_steps most_looks old claimed.guest) visits.same.2
            (visits-more visits rest.made few_steps few_looks));
        object = subst (λ (z : Shape). WasPublished claimed.guest.book.seen (key_number z.tag place claimed.generation) (content claimed.object)) shape rest.object;
        room_is = rest.room_is;
      }

-- and with looks in front of it
module _ {T : Type 0} (content : T → List ℕ) (room : T → ℕ) (directory : Ptr) (place : ℕ) where
  pub ends-looked : {old mid : GuestOf} (first : List Act) (l steps looks most_looks : ℕ) (ended : Ended T) → Visits [] 0 l old mid
      → Ends content room directory place first steps looks mid ended → l + looks ≤ most_looks → Ends content room directory place first steps most_looks old ended
  ends-looked first l steps looks most_looks (Free new) visits rest few = visits-more visits rest (omega arith) few
  ends-looked {old = old} {mid = mid} first l steps looks most_looks (Kept claimed) visits rest few =
      let shape : mid.shape ≡ old.shape = visits.same.1 in record {
        at = rest.at;
        made = subst (λ (z : Shape). Visits (first ++ reclaim z old.number place claimed.generation ∷ []) steps most_looks old claimed.guest) shape
            (subst (λ (n : ℕ). Visits (first ++ reclaim mid.shape n place claimed.generation ∷ []) steps most_looks old claimed.guest) visits.same.2
            (visits-more visits rest.made (omega arith) few));
        object = subst (λ (z : Shape). WasPublished claimed.guest.book.seen (key_number z.tag place claimed.generation) (content claimed.object)) shape rest.object;
        room_is = rest.room_is;
      }

-- ---- a get that hits

-- the guest then has a reference to the key
pub entered-some : {S : Type 0} {z : Shape} {kind : Kind} {key found after number : ℕ} {bytes : List ℕ} {a b : Me S View} → FitsGuest z a.0 number → HasNoReference z a.0
    → LifeSteps z kind found after a b (Some (acts.Get (the_lane a.0).lane key (Some bytes))) Nothing → 0 < references_seen z b.0 key
entered-some {z = z} {key = key} {a = a} {b = b} fits bare enters =
    let one : references_seen z b.0 key ≡ cond (eqb key key) (references_seen z a.0 key + 1) (references_seen z a.0 key) = guest-refs fits.seat (life-did enters 0).acted key in
    let same = ap (λ (mine : Bool). cond mine (references_seen z a.0 key + 1) (references_seen z a.0 key)) (eq-eqb key key refl) in
    omega (arith, one, same)

module _ {T : Type 0} {content : T → List ℕ} {room : T → ℕ} {z : Shape} {kind : Kind} {directory : Ptr} {key found after place number : ℕ} {bytes : List ℕ} {a b d : Me (Option (Share T)) View} {share : Share T} {spot : Spot}
    (fits : FitsGuest z a.0 number) (bare : HasNoReference z a.0) (spot_is : IsSpot z spot (place_of key)) (at : spot.place ≡ place)
    (enters : LifeSteps z kind found after a b (Some (acts.Get (the_lane a.0).lane key (Some bytes))) Nothing)
    (outs : Outs content room (spots_at directory z) z place number Untouched b share d) where
  same-place : place ≡ place_of key
  same-place = sym at ∙ spot_is.place_is

  -- its act, and its moves
  pub got-did : Did z place (acts.Get number key (Some bytes) ∷ []) 1 2 a d
  got-did = subst (λ (n : ℕ). Did z place (acts.Get n key (Some bytes) ∷ []) 1 2 a d) (sym fits.seat.number_is)
      (did-more {k = 2} (life-did enters place) (did-carries (carries-out outs) (omega arith)))

  got-seat : IsSeated z d.0 number
  got-seat = seated fits.seat got-did.acted

  pub got-one : HasOneReference z d.0 key
  got-one k = guest-refs fits.seat got-did.acted k ∙ ap (λ (n : ℕ). cond (eqb key k) (n + 1) n) (bare k)

  got-some : 0 < references_seen z d.0 key
  got-some = let one = got-one key in let same = ap {B = ℕ} (λ (b : Bool). cond b 1 0) (eq-eqb key key refl) in omega (arith, one, same)

  got-fits : FitsGuest z d.0 number
  got-fits = fits-still fits got-did (λ p. (refl, λ was. refl)) (λ was.
      absurd (unretired key got-seat got-some (subst (λ (p : ℕ). has_retired z p (the_lane d.0).mine false ≡ true) same-place
      (ap (λ (mine : List Act). has_retired z place mine false) got-did.acted.mine
      ∙ (retired-append z place (the_lane a.0).mine (acts.Get number key (Some bytes) ∷ []) false ∙ was)))))

  -- the content of the key that is published at the place
  kept-content : (f : Phase) (c : List ℕ) (refs : ℕ → ℕ) (mark : Bool) (n : ℕ) → f ≡ published c refs mark → IsKept (stored_of content room share) n f → content share.object ≡ c
  kept-content f c refs mark n is kept = (subst (λ (g : Phase). IsKept (stored_of content room share) n g) is kept).0

  pub got-referring : (table : TableId) → is_key z key ≡ true → IsReferring content room (record { table = table; shape = z; number = number; book = d.0 }) directory key spot.start share
  got-referring table inside =
      let moves = out-moves outs in
      let told = held-content-law z d.0.seen (the_lane d.0).lane key got-seat.seen.0 got-some in
      let kept = kept-content (pool_after z d.0.seen (place_of key)).phase told.0 told.1 told.2 (room_of d.0.seen d.0.rooms (place_of key)) told.3
      (subst (λ (p : ℕ). IsKept (stored_of content room share) (room_of d.0.seen d.0.rooms p) (pool_after z d.0.seen p).phase) same-place outs.kept) in record {
        fits = got-fits;
        idle = (carries-out outs).elsewhere.under ∙ life-under enters;
        key_is = inside;
        one = got-one;
        start_is = spot_is.start;
        spot = outs.is_left.spot_is ∙ ap (λ (i : ℕ). record { directory = directory; index = i }) (ap (slot_start z) same-place ∙ sym spot_is.start);
        share_is = (outs.is_left.number_is, outs.is_left.of_is);
        emptied = ap (λ (p : ℕ). status_of (the_lane d.0) p number) (sym same-place) ∙ moves-here moves;
        known = sym (ap (λ (p : ℕ). known_of (the_lane d.0) p) (sym same-place) ∙ moves-known moves);
        shows = (told.4, subst (λ (xs : List ℕ). PublishedAt d.0.seen told.4 key xs) (sym kept) told.5);
      }

-- ---- a release

only-one : (b : Bool) → ◌≡◌ {A = ℕ} (cond b (cond b 1 0 - 1) (cond b 1 0)) 0
only-one true = refl
only-one false = refl

module _ {T : Type 0} {content : T → List ℕ} {room : T → ℕ} {spots : ℕ → CellSpot} {z : Shape} {place number : ℕ} {a b : Me (Option (Share T)) View} {share : Share T} (key : ℕ)
    (fits : FitsGuest z a.0 number) (idle : IsIdle a.0) (one : HasOneReference z a.0 key) (at : place ≡ place_of key) (backs : Backs content room spots z place number Untouched a share b) where
  back-did : Did z place [] 0 2 a b
  back-did = did-carries (carries-back backs) (omega arith)

  back-seat : IsSeated z b.0 number
  back-seat = seated fits.seat back-did.acted

  had-some : 0 < references_seen z a.0 key
  had-some = let is = one key in let same = ap {B = ℕ} (λ (mine : Bool). cond mine 1 0) (eq-eqb key key refl) in omega (arith, is, same)

  -- the share is in its slot, and the reference may be given back
  pub may-release : MayLeave z b.0 key
  may-release =
      let still = guest-refs fits.seat back-did.acted key in
      let some = had-some in
      let here : status_of (the_lane b.0) (place_of key) (the_lane b.0).lane ≡ Untouched
      = ap (λ (n : ℕ). status_of (the_lane b.0) (place_of key) n) (sym back-seat.number_is)
      ∙ (ap (λ (p : ℕ). status_of (the_lane b.0) p number) (sym at) ∙ moves-here (back-moves backs)) in
      inl ((carries-back backs).elsewhere.under ∙ idle, omega (arith, still, some), λ touched. absurd (touched here))

  module _ {d : Me (Option (Share T)) View} {kind : Kind} {found after : ℕ} {owed : Pending} (leaves : LifeSteps z kind found after b d (Some (acts.Release (the_lane b.0).lane key)) owed) where
    pub released-did : Did z place (acts.Release number key ∷ []) 1 2 a d
    released-did = subst (λ (n : ℕ). Did z place (acts.Release n key ∷ []) 1 2 a d) (sym back-seat.number_is) (did-more back-did (life-did leaves place))

    pub released-fits : FitsGuest z d.0 number
    released-fits = fits-still fits released-did (λ p. (refl, λ was. refl)) (λ was.
        absurd (unretired key fits.seat had-some (subst (λ (p : ℕ). has_retired z p (the_lane a.0).mine false ≡ true) at was)))

    pub released-bare : HasNoReference z d.0
    released-bare k = guest-refs fits.seat released-did.acted k ∙ (ap (λ (n : ℕ). cond (eqb key k) (n - 1) n) (one k) ∙ only-one (eqb key k))
