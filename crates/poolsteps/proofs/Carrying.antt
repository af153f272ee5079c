-- OUT and BACK: a look that takes a slot, an exchange of what it has, and a look that gives it back.
use Rattle.poolsteps.specs.Spot.{Spot as CellSpot}
use Rattle.keybits.specs.Shapes.{callers}
use Rattle.std.proofs.Common.{◌≡◌, ◌≢◌, ◌==◌, ◌&&◌, inl, inr, ⊎_elim, ℕ, ◌+◌, Bool, true, cond, eqb, List, [], ◌∷◌, Option, IsSome, IfSome, Some, None, refl, ap, sym, ◌∙◌, subst, arith, eq-eqb, ne_eqb}
use Rattle.std.proofs.lemmas.Bool.{and_right}
use Rattle.atomic_table.specs.Table.{Me, rest}
use Rattle.keybits.specs.declared.shape.Shape.{Shape}
use Rattle.seqpool.specs.Pool.{pool_after}
use Rattle.poolsteps.specs.Share.{Share}
use Rattle.poolsteps.specs.declared.view.Stored.{Stored}
use Rattle.poolsteps.specs.declared.view.Status.{Status}
use Rattle.poolsteps.specs.declared.view.Status.TheVariants.{Untouched, Emptied, InHand, Whole}
use Rattle.poolsteps.specs.Shares.{room_of, IsKept, IsShareOf, at_home, nothing_stored}
use Rattle.poolsteps.specs.ShareLaws.{Leaves}
use Rattle.poolsteps.specs.declared.view.LaneRecord.{LaneRecord}
use Rattle.poolsteps.specs.declared.view.View.{View}
use Rattle.poolsteps.specs.Layout.{slot_index}
use Rattle.poolsteps.specs.Views.{head_record, the_lane, status_of, known_of, IsOne}
use Rattle.poolsteps.specs.Told.{GoesOn, MayTouch}
use Rattle.poolsteps.specs.Moved.{moved_record, MayStore, stored_of, IsLeft, Lifts, Lays, Outs, Backs, Peeks, Fetches, Settles}
use Rattle.poolsteps.specs.Held.{first_of}
use Rattle.poolsteps.proofs.Keeping.{shares-law, goes-has, goes-two}

-- what the slot that was taken last has; none where none was taken
abbrev pub first_value : {T : Type 0} → List (ℕ × Option (Share T)) → Option (Share T)
first_value [] = None
first_value (x ∷ more) = x.1

-- the slot that was taken last, by another word for its index
pub first-held : {A : Type 0} {held before : List (ℕ × A)} {value : A} (index other : ℕ) → other ≡ index → held ≡ (index, value) ∷ before → held ≡ (other, value) ∷ rest held
first-held {A = A} {before = before} {value = value} index other same is =
    subst (λ (xs : List (ℕ × A)). xs ≡ (other, value) ∷ rest xs) (sym is) (ap (λ (n : ℕ). (n, value) ∷ before) (sym same))

-- after a move the lane left each other slot of the place as before, and it knows the cell
module _ (r : LaneRecord) (place number : ℕ) (status : Status) (c : Stored) where
  pub status-beside : (k : ℕ) → k ≢ number → status_of (moved_record r place number status c) place k ≡ status_of r place k
  status-beside k other = ap (λ (b : Bool). cond b status (status_of r place k)) (and_right (eqb place place) (eqb k number) (ne_eqb k number other))

  pub status-here : status_of (moved_record r place number status c) place number ≡ status
  status-here =
      let here : (place == place) && (number == number) ≡ true = ap (λ (b : Bool). b && (number == number)) (eq-eqb place place refl) ∙ eq-eqb number number refl in
      ap (λ (b : Bool). cond b status (status_of r place number)) here

  pub known-moved : known_of (moved_record r place number status c) place ≡ c
  known-moved = ap (λ (b : Bool). cond b c (known_of r place)) (eq-eqb place place refl)

-- how a slot is left that has this
abbrev pub left_held : {T : Type 0} → Option (Share T) → Status
left_held None = Emptied
left_held (Some share) = Untouched

module _ {T : Type 0} (content : T → List ℕ) (room : T → ℕ) where
  -- the cell of a share that is held; the one that is known where none is
  abbrev pub stored_or : Stored → Option (Share T) → Stored
  stored_or known None = known
  stored_or known (Some share) = stored_of content room share

  -- the cell of a share that is held; nothing where none is
  abbrev pub stored_held : Option (Share T) → Stored
  stored_held None = nothing_stored
  stored_held (Some share) = stored_of content room share

module _ {T : Type 0} (content : T → List ℕ) (room : T → ℕ) (spots : ℕ → CellSpot) where
  -- a share's cell is the one that it is of
  pub stored-is : (place : ℕ) (c : Stored) (number of : ℕ) (share : Share T) → IsShareOf content room spots place c number of share → c ≡ stored_of content room share
  stored-is place c number of share is = λ k. record { cell = sym is.cell k; content = sym is.content_is k; room = sym is.room_is k }

  module _ (place : ℕ) (z : Shape) (number : ℕ) where
    -- a slot that was left with a share has one
    full-is : (c : Stored) (value : Option (Share T)) (status : Status) → status ≢ InHand → status ≢ Emptied → Leaves content room spots place z number c status (at_home value)
        → (share : Share T) × (value ≡ Some share) × (c ≡ stored_of content room share) × IsLeft content room spots place z number c status share
    full-is c value Untouched aside full leaves =
        let is : value ≡ Some leaves.0 = cc leaves.1 in (leaves.0, is, stored-is place c number (callers z) leaves.0 leaves.2, leaves.2)
    full-is c value Emptied aside full leaves = absurd (full refl)
    full-is c value InHand aside full leaves = absurd (aside refl)
    full-is c value Whole aside full leaves =
        let is : value ≡ Some leaves.0 = cc leaves.1 in (leaves.0, is, stored-is place c 0 1 leaves.0 leaves.2, leaves.2)

    -- a share that may be left so is left so
    pub leaves-share : (c : Stored) (status : Status) (share : Share T) → IsLeft content room spots place z number c status share → Leaves content room spots place z number c status (at_home (Some share))
    leaves-share c Untouched share is = (share, refl, is)
    leaves-share c Emptied share is = absurd is
    leaves-share c InHand share is = absurd is
    leaves-share c Whole share is = (share, refl, is)

  -- after the first look
  module _ (z : Shape) (place number : ℕ) (status : Status) (m n : Me (Option (Share T)) View) (lifts : Lifts content room spots z place number status m n) where
    abbrev r : LaneRecord
    r = the_lane m.0

    -- the lane's record then
    abbrev lifted : LaneRecord
    lifted = moved_record r place number InHand lifts.c

    lane-lifted : the_lane n.0 ≡ lifted
    lane-lifted = ap head_record lifts.goes.lanes

    known-lifted : known_of (the_lane n.0) place ≡ lifts.c
    known-lifted = rw lane-lifted (known-moved r place number InHand lifts.c)

    -- the seat is that of one lane, and the slot is in its hands
    pub one-lifted : IsOne n.0
    one-lifted = lifts.goes.lanes ∙ ap (λ (x : LaneRecord). x ∷ []) (sym lane-lifted)

    pub hand-lifted : status_of (the_lane n.0) place number ≡ InHand
    hand-lifted = ap (λ (x : LaneRecord). status_of x place number) lane-lifted ∙ status-here r place number InHand lifts.c

    -- a slot that was left with a share has one then
    pub full-lifted : status ≢ InHand → status ≢ Emptied → (value : Option (Share T)) → first_value n.1 ≡ value → IsSome value
    full-lifted aside full value is =
        let has = full-is place z number lifts.c lifts.value status aside full lifts.leaves in
        subst (λ (x : Option (Share T)). IsSome x) (sym has.1 ∙ (sym (ap first_value lifts.held) ∙ is)) refl

    pub may-lifted : MayTouch z m.0 place number → MayTouch z n.0 place number
    may-lifted may = (shares-law z m.0 n.0 lifted lifts.goes refl place number may).0

    -- the lane may then store what it could, where it had emptied the slot
    pub store-lifted : status ≡ Emptied → MayTouch z m.0 place number → (c : Stored) → MayStore z m.0 place number c → MayStore z n.0 place number c
    store-lifted empty may c store = ⊎_elim
        (λ (same : c ≡ known_of r place). inl (same ∙ (sym (lifts.known (inr (λ bad. let no : Emptied ≡ Untouched = sym empty ∙ bad in cc no))) ∙ sym known-lifted)))
        (λ new. inr (
          (shares-law z m.0 n.0 lifted lifts.goes refl place number may).1 new.0,
          λ k below other. rw (lane-lifted, status-beside r place number InHand lifts.c k other) (new.1 k below other),
        ))
        store

    -- and after the second
    module _ (value : Option (Share T)) (left : Status) (c : Stored) (l : Me (Option (Share T)) View)
        (lays : Lays content room spots z place number left c (n.0, (slot_index z place number, value) ∷ rest n.1) l) where
      goes-both : GoesOn z m.0 l.0 [] [] (moved_record lifted place number left c)
      goes-both = goes-two z m.0 n.0 l.0 lifted (moved_record lifted place number left c) refl lifts.goes
          (subst (λ (x : LaneRecord). GoesOn z n.0 l.0 [] [] (moved_record x place number left c)) lane-lifted lays.goes)

      held-both : l.1 ≡ m.1
      held-both = lays.held ∙ ap rest lifts.held

      looks-both : l.0.looks ≡ m.0.looks + 2
      looks-both = let first = lifts.looks in let second = lays.looks in omega arith

      kept-both : MayTouch z m.0 place number → IsKept lifts.c (room_of l.0.seen l.0.rooms place) (pool_after z l.0.seen place).phase
      kept-both may =
          (goes-has z n.0 l.0 (moved_record (the_lane n.0) place number left c) lays.goes refl place number (may-lifted may)).known lifts.c lifts.kept

    -- OUT
    pub outs : status ≢ InHand → status ≢ Emptied → MayTouch z m.0 place number → (share : Share T) → first_value n.1 ≡ Some share → (l : Me (Option (Share T)) View)
        → Lays content room spots z place number Emptied (known_of (the_lane n.0) place) (n.0, (slot_index z place number, None) ∷ rest n.1) l
        → Outs content room spots z place number status m share l
    outs aside full may share is l gives =
        let has = full-is place z number lifts.c lifts.value status aside full lifts.leaves in
        let one : Some has.0 ≡ Some share = sym has.1 ∙ (sym (ap first_value lifts.held) ∙ is) in
        let one_is : has.0 ≡ share = cc one in
        let c_is : lifts.c ≡ stored_of content room share = has.2 ∙ ap (stored_of content room) one_is in
        let lays = subst (λ (c : Stored). Lays content room spots z place number Emptied c (n.0, (slot_index z place number, None) ∷ rest n.1) l) known-lifted gives in
        record {
          is_left = rw (sym c_is, sym one_is) has.3;
          goes = rw (sym c_is) (goes-both None Emptied lifts.c l lays);
          held = held-both None Emptied lifts.c l lays;
          kept = rw (sym c_is) (kept-both None Emptied lifts.c l lays may);
          known = λ some. sym c_is ∙ lifts.known some;
          steps = lays.steps ∙ lifts.steps;
          looks = looks-both None Emptied lifts.c l lays;
        }

    -- BACK
    pub backs : status ≡ Emptied → (share : Share T) (left : Status) (l : Me (Option (Share T)) View)
        → Lays content room spots z place number left (stored_of content room share) (n.0, (slot_index z place number, Some share) ∷ rest n.1) l
        → Backs content room spots z place number left m share l
    backs empty share left l lays =
        let c : Stored = stored_of content room share in
        let c_is : lifts.c ≡ known_of r place = lifts.known (inr (λ bad. let no : Emptied ≡ Untouched = sym empty ∙ bad in cc no)) in
        record {
          goes = subst (λ (known : Stored). GoesOn z m.0 l.0 [] [] (moved_record (moved_record r place number InHand known) place number left c)) c_is
              (goes-both (Some share) left c l lays);
          held = held-both (Some share) left c l lays;
          steps = lays.steps ∙ lifts.steps;
          looks = looks-both (Some share) left c l lays;
        }

    -- two looks at a slot that was empty, which stays so
    pub empty-lifted : status ≡ Emptied → lifts.value ≡ None
    empty-lifted empty =
        let is = subst (λ (s : Status). Leaves content room spots place z number lifts.c s (at_home lifts.value)) empty lifts.leaves in cc is

    pub peeks : status ≡ Emptied → (l : Me (Option (Share T)) View)
        → Lays content room spots z place number Emptied (known_of (the_lane n.0) place) (n.0, (slot_index z place number, None) ∷ rest n.1) l
        → Peeks content room spots z place number m l
    peeks empty l gives =
        let c_is : lifts.c ≡ known_of r place = lifts.known (inr (λ bad. let no : Emptied ≡ Untouched = sym empty ∙ bad in cc no)) in
        let lays = subst (λ (c : Stored). Lays content room spots z place number Emptied c (n.0, (slot_index z place number, None) ∷ rest n.1) l) known-lifted gives in
        record {
          goes = subst (λ (known : Stored). GoesOn z m.0 l.0 [] [] (moved_record (moved_record r place number InHand known) place number Emptied known)) c_is
              (goes-both None Emptied lifts.c l lays);
          held = held-both None Emptied lifts.c l lays;
          steps = lays.steps ∙ lifts.steps;
          looks = looks-both None Emptied lifts.c l lays;
        }

    -- FETCH
    pub fetches : status_of (the_lane m.0) place number ≡ status → status ≢ InHand → MayTouch z m.0 place number → (taken own fetched : Option (Share T)) → first_value n.1 ≡ taken → fetched ≡ first_of taken own
        → (l : Me (Option (Share T)) View)
        → Lays content room spots z place number Emptied (known_of (the_lane n.0) place) (n.0, (slot_index z place number, None) ∷ rest n.1) l
        → Fetches content room spots z place number m own fetched l
    fetches stood aside may taken own fetched is or l gives = record {
      first = λ untouched.
          let here : status ≡ Untouched = sym stood ∙ untouched in
          let full : status ≢ Emptied = λ bad. let no : Emptied ≡ Untouched = sym bad ∙ here in cc no in
          let has = full-is place z number lifts.c lifts.value status aside full lifts.leaves in
          let one : taken ≡ Some has.0 = sym is ∙ (ap first_value lifts.held ∙ has.1) in (
            has.0,
            or ∙ ap (λ (o : Option (Share T)). first_of o own) one,
            subst (λ (s : Status). Outs content room spots z place number s m has.0 l) here (outs aside full may has.0 (is ∙ one) l gives),
          );
      again = λ emptied.
          let here : status ≡ Emptied = sym stood ∙ emptied in
          let none : taken ≡ None = sym is ∙ (ap first_value lifts.held ∙ empty-lifted here) in
          (or ∙ ap (λ (o : Option (Share T)). first_of o own) none, peeks here l gives);
    }

    -- SETTLE
    pub settles : status ≡ Emptied → (given : Option (Share T)) (l : Me (Option (Share T)) View)
        → Lays content room spots z place number (left_held given) (stored_or content room (known_of (the_lane n.0) place) given) (n.0, (slot_index z place number, given) ∷ rest n.1) l
        → Settles content room spots z place number m given l
    settles empty given l lays = record {
      back = λ share is. backs empty share Untouched l
          (subst (λ (o : Option (Share T)). Lays content room spots z place number (left_held o) (stored_or content room (known_of (the_lane n.0) place) o) (n.0, (slot_index z place number, o) ∷ rest n.1) l) is lays);
      none = λ is. peeks empty l
          (subst (λ (o : Option (Share T)). Lays content room spots z place number (left_held o) (stored_or content room (known_of (the_lane n.0) place) o) (n.0, (slot_index z place number, o) ∷ rest n.1) l) is lays);
    }

-- what is given to a slot that the lane has emptied may stand in it
module _ {T : Type 0} (content : T → List ℕ) (room : T → ℕ) (spots : ℕ → CellSpot) (z : Shape) (place number : ℕ) where
  pub leaves-given : (known : Stored) (given : Option (Share T)) → IfSome given (λ share. (share.number ≡ number) × (share.of ≡ (callers z)) × (share.spot ≡ spots place))
      → Leaves content room spots place z number (stored_or content room known given) (left_held given) (at_home given)
  leaves-given known None is = refl
  leaves-given known (Some share) is =
      (share, refl, record { cell = refl; number_is = is.0; of_is = is.1; content_is = refl; room_is = refl; spot_is = is.2 })

  pub stores-given : (m n : Me (Option (Share T)) View) (lifts : Lifts content room spots z place number Emptied m n) → MayTouch z m.0 place number → (given : Option (Share T))
      → IfSome given (λ share. MayStore z m.0 place number (stored_of content room share)) → MayStore z n.0 place number (stored_or content room (known_of (the_lane n.0) place) given)
  stores-given m n lifts may None is = inl refl
  stores-given m n lifts may (Some share) is = store-lifted content room spots z place number Emptied m n lifts refl may (stored_of content room share) is
