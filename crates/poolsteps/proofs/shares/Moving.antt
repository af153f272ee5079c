-- A lane moves one slot of a place, out of it or into it: every share is still where it is to be.
use Rattle.poolsteps.specs.Spot.{Spot}
use Rattle.keybits.specs.Shapes.{callers}
use Rattle.std.proofs.Common.{◌≡◌, ◌≢◌, ⊎_elim, ℕ, ◌<◌, Bool, true, false, cond, eqb, ◌&&◌, List, Option, Some, refl, ap, sym, ◌∙◌, subst, eq-eqb, ne_eqb}
use Rattle.std.proofs.lemmas.Bool.{and_from, and_left, and_right}
use mathlib.Core.Logic.{dite}
use mathlib.Core.Option as maybe
use native.Mathlib.Decide.{ℕ_discrete}
use Rattle.keybits.specs.declared.shape.Shape.{Shape}
use Rattle.keybits.specs.Places.{shard_of}
use Rattle.seqpool.specs.declared.act.Act.{Act}
use Rattle.seqpool.specs.Pool.{Phase, pool_after}
use Rattle.poolsteps.specs.Share.{Share}
use Rattle.steplaws.specs.Facts.{is_home}
use Rattle.steplaws.proofs.Updates.{at-here, at-else}
use Rattle.poolsteps.specs.declared.view.Stored.{Stored}
use Rattle.poolsteps.specs.declared.view.Status.{Status}
use Rattle.poolsteps.specs.declared.view.Status.TheVariants.{Untouched, Emptied, InHand, Whole}
use Rattle.poolsteps.specs.Shares.{reclaimer, room_of, MayHave, Slots, at_home, Stock, IsShareOf, HasShare, RestsAs, StandsAs, Shared, moved, with_slot}
use Rattle.poolsteps.specs.ShareLaws.{Leaves, MayMove, MoveLaw}
use Rattle.poolsteps.proofs.shares.Cases.{each-number, each-slot}
use Rattle.poolsteps.proofs.shares.Holders.{one-holder, all-holder, all-kept, may-away}

-- ---- a slot that has what it had, of a place that keeps its cell

module _ {T : Type 0} (content : T → List ℕ) (room : T → ℕ) (spots : ℕ → Spot) (s t : Slots T) (p k : ℕ) (c d : Stored) (slot : t p k ≡ s p k) (cell : d ≡ c) where
  share-same : (number of : ℕ) → HasShare content room spots s p k c number of → HasShare content room spots t p k d number of
  share-same number of has = (has.0, slot ∙ has.1, rw cell has.2)

  rests-same : (b : Bool) → RestsAs content room spots s p k c b → RestsAs content room spots t p k d b
  rests-same true rests = share-same 0 1 rests
  rests-same false rests = slot ∙ rests

  stands-same : (z : Shape) (b : Bool) → StandsAs content room spots z s p k c b → StandsAs content room spots z t p k d b
  stands-same z true stands = rests-same (eqb k (shard_of p)) stands
  stands-same z false stands = share-same k (callers z) stands

-- ---- what a move changes

module _ {T : Type 0} (content : T → List ℕ) (room : T → ℕ) (spots : ℕ → Spot) (z : Shape) (history : List Act) (kept : List ℕ) (slots : Slots T) (q : Stock)
    (lane place number : ℕ) (status : Status) (c : Stored) (value : maybe.Option (maybe.Option (Option (Share T)))) where
  abbrev now : Stock
  now = moved q lane place number status c

  abbrev slots_now : Slots T
  slots_now = with_slot slots place number value

  -- the slot, the other slots of its place, and those of other places
  slot-here : slots_now place number ≡ value
  slot-here = ap (λ (b : Bool). cond b value (slots place number)) (and_from _ _ (eq-eqb place place refl) (eq-eqb number number refl))

  slot-beside : (k : ℕ) → k ≢ number → slots_now place k ≡ slots place k
  slot-beside k other = ap (λ (b : Bool). cond b value (slots place k)) (and_right (eqb place place) _ (ne_eqb k number other))

  slot-else : (p k : ℕ) → p ≢ place → slots_now p k ≡ slots p k
  slot-else p k other = ap (λ (b : Bool). cond b value (slots p k)) (and_left _ (eqb k number) (ne_eqb p place other))

  -- how the lane left them, and how another lane did
  status-here : now.status lane place number ≡ status
  status-here = ap (λ (b : Bool). cond b status (q.status lane place number))
      (and_from _ _ (eq-eqb lane lane refl) (and_from _ _ (eq-eqb place place refl) (eq-eqb number number refl)))

  status-beside : (l k : ℕ) → k ≢ number → now.status l place k ≡ q.status l place k
  status-beside l k other = ap (λ (b : Bool). cond b status (q.status l place k))
      (and_right (eqb l lane) _ (and_right (eqb place place) _ (ne_eqb k number other)))

  status-else : (l p k : ℕ) → p ≢ place → now.status l p k ≡ q.status l p k
  status-else l p k other = ap (λ (b : Bool). cond b status (q.status l p k)) (and_right (eqb l lane) _ (and_left _ (eqb k number) (ne_eqb p place other)))

  status-other : (l p k : ℕ) → l ≢ lane → now.status l p k ≡ q.status l p k
  status-other l p k other = ap (λ (b : Bool). cond b status (q.status l p k)) (and_left _ (eqb p place && eqb k number) (ne_eqb l lane other))

  -- the cell of the place, and of others
  stored-here : now.stored place ≡ c
  stored-here = at-here q.stored place c place refl

  stored-else : (p : ℕ) → p ≢ place → now.stored p ≡ q.stored p
  stored-else p other = at-else q.stored place c p other

  -- what the lane knows of the place, what each knows of others, and what other lanes know
  known-here : (l : ℕ) → l ≡ lane → now.knows l place ≡ now.stored place
  known-here l e = ap (λ (b : Bool). cond b c (q.knows l place)) (and_from _ _ (eq-eqb l lane e) (eq-eqb place place refl)) ∙ sym stored-here

  known-else : (l p : ℕ) → p ≢ place → now.knows l p ≡ q.knows l p
  known-else l p other = ap (λ (b : Bool). cond b c (q.knows l p)) (and_right (eqb l lane) _ (ne_eqb p place other))

  known-other : (l p : ℕ) → l ≢ lane → now.knows l p ≡ q.knows l p
  known-other l p other = ap (λ (b : Bool). cond b c (q.knows l p)) (and_left _ (eqb p place) (ne_eqb l lane other))

  -- a share that the move put into the slot
  share-here : (n of : ℕ) → (share : Share T) × (value ≡ at_home (Some share)) × IsShareOf content room spots place c n of share
      → HasShare content room spots slots_now place number (now.stored place) n of
  share-here n of has = (has.0, slot-here ∙ has.1, rw stored-here has.2)

  -- what stands in another slot of the place, where the place keeps its cell
  share-beside : (k : ℕ) → k ≢ number → c ≡ q.stored place → HasShare content room spots slots place k (q.stored place) 0 1
      → HasShare content room spots slots_now place k (now.stored place) 0 1
  share-beside k other same has =
      share-same content room spots slots slots_now place k (q.stored place) (now.stored place) (slot-beside k other) (stored-here ∙ same) 0 1 has

  stands-beside : (k : ℕ) → k ≢ number → c ≡ q.stored place → (b : Bool) → StandsAs content room spots z slots place k (q.stored place) b
      → StandsAs content room spots z slots_now place k (now.stored place) b
  stands-beside k other same b stands =
      stands-same content room spots slots slots_now place k (q.stored place) (now.stored place) (slot-beside k other) (stored-here ∙ same) z b stands

  -- and in a slot of another place
  share-else : (p k : ℕ) → p ≢ place → HasShare content room spots slots p k (q.stored p) 0 1 → HasShare content room spots slots_now p k (now.stored p) 0 1
  share-else p k other has = share-same content room spots slots slots_now p k (q.stored p) (now.stored p) (slot-else p k other) (stored-else p other) 0 1 has

  stands-else : (p k : ℕ) → p ≢ place → (b : Bool) → StandsAs content room spots z slots p k (q.stored p) b → StandsAs content room spots z slots_now p k (now.stored p) b
  stands-else p k other b stands = stands-same content room spots slots slots_now p k (q.stored p) (now.stored p) (slot-else p k other) (stored-else p other) z b stands

  -- ---- a lane that may have a share moves it

  module _ (s : Shared content room spots z history kept slots q) (less : lane < (callers z)) (below : number < (callers z)) where
    abbrev f : Phase
    f = (pool_after z history place).phase

    abbrev last : ℕ
    last = reclaimer history place

    module _ (may : MayHave last lane number f) (cell : MayMove z history q lane place number c) where
      -- no other lane touched the slot
      alone : (l : ℕ) → l < (callers z) → l ≢ lane → now.status l place number ≢ Untouched → ⊥
      alone l l_less other some =
          other (one-holder last l lane number f (s.touched l place number l_less below (λ none. some (status-other l place number other ∙ none))).0 may)

      -- so a lane that left it otherwise left it as the move did
      left-by : (l : ℕ) → l < (callers z) → (left : Status) → left ≢ Untouched → now.status l place number ≡ left → status ≡ left
      left-by l l_less left some is = dite (ℕ_discrete l lane)
          (λ e. sym status-here ∙ (ap (λ (m : ℕ). now.status m place number) (sym e) ∙ is))
          (λ other. absurd (alone l l_less other (λ none. some (sym is ∙ none))))

      -- the place keeps its cell where the lane neither emptied another of its slots nor has that in its hands,
      keeps-left : (k : ℕ) → k < (callers z) → k ≢ number → (left : Status) → q.status lane place k ≡ left → left ≢ Emptied → left ≢ InHand → c ≡ q.stored place
      keeps-left k k_less other left is full still = ⊎_elim
          (λ same. same)
          (λ all. ⊎_elim (λ empty. absurd (full (sym is ∙ empty))) (λ held. absurd (still (sym is ∙ held))) (all.1 k k_less other)) cell

      -- where another lane touched a slot of it,
      keeps-touched : (l k : ℕ) → l < (callers z) → k < (callers z) → l ≢ lane → q.status l place k ≢ Untouched → c ≡ q.stored place
      keeps-touched l k l_less k_less other some = ⊎_elim
          (λ same. same)
          (λ all. absurd (other (sym (all-holder last lane l k f all.0 (s.touched l place k l_less k_less some).0)))) cell

      -- and so where a lane put a whole cell into another of its slots
      keeps-whole : (l k : ℕ) → l < (callers z) → k < (callers z) → k ≢ number → q.status l place k ≡ Whole → c ≡ q.stored place
      keeps-whole l k l_less k_less other is = dite (ℕ_discrete l lane)
          (λ e. keeps-left k k_less other Whole (ap (λ (m : ℕ). q.status m place k) (sym e) ∙ is) (λ bad. cc bad) (λ bad. cc bad))
          (λ n. keeps-touched l k l_less k_less n (λ none. let bad : Whole ≡ Untouched = sym is ∙ none in cc bad))

      -- who touched a slot may have its share, and knows the cell
      abbrev Knows : ℕ → ℕ → ℕ → Type 0
      Knows l p k = MayHave (reclaimer history p) l k (pool_after z history p).phase × (now.knows l p ≡ now.stored p)

      touched-here : (l : ℕ) → l < (callers z) → now.status l place number ≢ Untouched → Knows l place number
      touched-here l l_less some = dite (ℕ_discrete l lane)
          (λ e. (subst (λ (m : ℕ). MayHave last m number f) (sym e) may, known-here l e))
          (λ other. absurd (alone l l_less other some))

      touched-beside : (l k : ℕ) → k ≢ number → l < (callers z) → k < (callers z) → q.status l place k ≢ Untouched → Knows l place k
      touched-beside l k other l_less k_less some =
          let was = s.touched l place k l_less k_less some in (
            was.0,
            dite (ℕ_discrete l lane) (known-here l)
                (λ n. known-other l place n ∙ (was.1 ∙ sym (stored-here ∙ keeps-touched l k l_less k_less n some))),
          )

      touched-else : (l p k : ℕ) → p ≢ place → l < (callers z) → k < (callers z) → q.status l p k ≢ Untouched → Knows l p k
      touched-else l p k other l_less k_less some =
          let was = s.touched l p k l_less k_less some in
          (was.0, known-else l p other ∙ (was.1 ∙ sym (stored-else p other)))

      module _ (leaves : Leaves content room spots place z number c status value) where
        -- what the slot has now, where the move left it so
        left-as : (left : Status) → status ≡ left → Leaves content room spots place z number c left value
        left-as left is = subst (λ (x : Status). Leaves content room spots place z number c x value) is leaves

        pub move_keeps : Shared content room spots z history kept slots_now now
        move_keeps = record {
          untouched = each-slot place number
              (λ inside k_less none. rw (may-away last lane number f may) (share-here number (callers z) (left-as Untouched (sym status-here ∙ none lane less))))
              (λ k other inside k_less none.
              let old : (l : ℕ) → l < (callers z) → q.status l place k ≡ Untouched = λ l l_less. sym (status-beside l k other) ∙ none l l_less in
              let same = keeps-left k k_less other Untouched (old lane less) (λ bad. cc bad) (λ bad. cc bad) in
              stands-beside k other same (is_home f) (s.untouched place k inside k_less old))
              (λ p k other inside k_less none. stands-else p k other (is_home (pool_after z history p).phase)
              (s.untouched p k inside k_less (λ l l_less. sym (status-else l p k other) ∙ none l l_less)));
          emptied = λ l. each-slot place number
              (λ l_less inside k_less is. slot-here ∙ left-as Emptied (left-by l l_less Emptied (λ bad. cc bad) is))
              (λ k other l_less inside k_less is. slot-beside k other ∙ s.emptied l place k l_less inside k_less (sym (status-beside l k other) ∙ is))
              (λ p k other l_less inside k_less is. slot-else p k other ∙ s.emptied l p k l_less inside k_less (sym (status-else l p k other) ∙ is));
          whole = λ l. each-slot place number
              (λ l_less inside k_less is. share-here 0 1 (left-as Whole (left-by l l_less Whole (λ bad. cc bad) is)))
              (λ k other l_less inside k_less is.
              let old = sym (status-beside l k other) ∙ is in
              share-beside k other (keeps-whole l k l_less k_less other old) (s.whole l place k l_less inside k_less old))
              (λ p k other l_less inside k_less is. share-else p k other (s.whole l p k l_less inside k_less (sym (status-else l p k other) ∙ is)));
          touched = λ l. each-slot place number
              (λ l_less k_less some. touched-here l l_less some)
              (λ k other l_less k_less some. touched-beside l k other l_less k_less (λ none. some (status-beside l k other ∙ none)))
              (λ p k other l_less k_less some. touched-else l p k other l_less k_less (λ none. some (status-else l p k other ∙ none)));
          owned = λ l. each-number place
              (λ l_less all. known-here l (all-holder last l lane number f all may))
              (λ p other l_less all. known-else l p other ∙ (s.owned l p l_less all ∙ sym (stored-else p other)));
          contents = each-number place
              (rw stored-here (⊎_elim (λ same. rw same (s.contents place)) (λ all. all-kept last lane (room_of history kept place) c f all.0) cell))
              (λ p other. rw (stored-else p other) (s.contents p));
        }

pub move-law : {T : Type 0} (content : T → List ℕ) (room : T → ℕ) (spots : ℕ → Spot) → MoveLaw content room spots
move-law content room spots z history kept slots q lane place number status c value s less below may cell leaves =
    move_keeps content room spots z history kept slots q lane place number status c value s less below may cell leaves
