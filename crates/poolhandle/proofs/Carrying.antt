-- What the pool's call says of the lane that it was given, it says of the handle's.
use Rattle.std.proofs.Common.{◌≡◌, ◌⊎◌, ℕ, Bool, true, false, IsTrue, IsFalse, List, [], ◌∷◌, refl, sym, ◌∙◌, subst, inl, inr}
use Rattle.std.proofs.lemmas.Bool.{true≢false}
use Rattle.keybits.specs.declared.shape.Shape.{Shape}
use Rattle.keybits.specs.Keys.{is_key, place_of}
use Rattle.seqpool.specs.declared.act.Act.{Act}
use Rattle.seqpool.specs.declared.act.Act.TheVariants as acts
use Rattle.steplaws.specs.Calls.{Call}
use Rattle.steplaws.specs.Calls.Call.{Publishing, Clearing}
use Rattle.poolsteps.specs.Shares.{room_of}
use Rattle.shardpool.specs.Tokens.{LaneOf}
use Rattle.shardpool.specs.Lanes.{Calls, Did, SameLane, holds}
use Rattle.shardpool.specs.Seen.{PublishedSince, MissedSince, ClearedSince}
use Rattle.poolhandle.specs.LaneCalls.{MakesOne, Makes, MakesAtKey, LanePublishes, LaneClears, LaneClearsNone}

module _ (given old new : LaneOf) (is : given ≡ old) where
  pub same-lane : SameLane given new → SameLane old new
  same-lane same = subst (λ (lane : LaneOf). SameLane lane new) is same

  pub held : (references : ℕ → ℕ → ℕ) → ((key : ℕ) → holds new key ≡ references key (holds given key)) → (key : ℕ) → holds new key ≡ references key (holds old key)
  held references so = subst (λ (lane : LaneOf). (key : ℕ) → holds new key ≡ references key (holds lane key)) is so

  pub held-at : (references : ℕ → ℕ → ℕ → ℕ) (at same_at : ℕ) → at ≡ same_at → ((key : ℕ) → holds new key ≡ references at key (holds given key))
      → (key : ℕ) → holds new key ≡ references same_at key (holds old key)
  held-at references at same_at at_is so = subst (λ (n : ℕ). (key : ℕ) → holds new key ≡ references n key (holds old key)) at_is (held (references at) so)

  module _ (z : Shape) (call : Call) (act : ℕ → Act) (shape : given.shape ≡ z) where
    pub makes-one : Calls z call given.book new.book → Did (act given.number ∷ []) given new → MakesOne call (act old.number) old new
    makes-one called did =
        subst (λ (lane : LaneOf). MakesOne call (act lane.number) lane new) is (subst (λ (y : Shape). Calls y call given.book new.book) (sym shape) called, did)

    pub makes : Calls z call given.book new.book → (rest : List Act) × Did (act given.number ∷ rest) given new → Makes call (act old.number) old new
    makes called did =
        subst (λ (lane : LaneOf). Makes call (act lane.number) lane new) is (subst (λ (y : Shape). Calls y call given.book new.book) (sym shape) called, did)

    pub makes-at-key : (key : ℕ) (fits : Bool) → is_key z key ≡ fits → (is_key z key ≡ false → new ≡ given) → (is_key z key ≡ true → Calls z call given.book new.book)
        → (is_key z key ≡ true → (rest : List Act) × Did (act given.number ∷ rest) given new) → MakesAtKey key call (act old.number) old new
    makes-at-key key true fits outside called did =
        let at = subst (λ (y : Shape). is_key y key ≡ true) (sym shape) fits in
        inr (subst (λ (lane : LaneOf). is_key lane.shape key ≡ true) is at, makes (called fits) (did fits))
    makes-at-key key false fits outside called did =
        let at = subst (λ (y : Shape). is_key y key ≡ false) (sym shape) fits in
        inl (subst (λ (lane : LaneOf). is_key lane.shape key ≡ false) is at, outside fits ∙ is)

  -- a publish
  pub lane-publishes : (z : Shape) (key same_key : ℕ) (content same_content : List ℕ) (with_ref : Bool) (room same_room : ℕ) → given.shape ≡ z
      → key ≡ same_key → content ≡ same_content → room ≡ same_room
      → Calls z (Publishing key content with_ref) given.book new.book → Did (acts.Publish given.number key content with_ref ∷ []) given new
      → PublishedSince key content with_ref given new → room_of new.book.seen new.book.rooms (place_of key) ≡ room
      → LanePublishes same_key same_content with_ref same_room old new
  lane-publishes z key same_key content same_content with_ref room same_room shape key_is content_is room_is called did since kept =
      subst (λ (k : ℕ). LanePublishes k same_content with_ref same_room old new) key_is
      (subst (λ (c : List ℕ). LanePublishes key c with_ref same_room old new) content_is
      (subst (λ (n : ℕ). LanePublishes key content with_ref n old new) room_is (
        makes-one z (Publishing key content with_ref) (λ lane. acts.Publish lane key content with_ref) shape called did,
        subst (λ (lane : LaneOf). PublishedSince key content with_ref lane new) is since,
        kept,
      )))

  module _ (z : Shape) (key : ℕ) (marked : Bool) (shape : given.shape ≡ z) (outside : is_key z key ≡ false → (marked ≡ false) × (new ≡ given))
      (called : is_key z key ≡ true → Calls z (Clearing key) given.book new.book)
      (clears : is_key z key ≡ true → (rest : List Act) × Did (acts.Clear given.number key marked ∷ rest) given new) where
    -- a clear that marked the key: it is then one
    pub lane-clears : (IsTrue marked → ClearedSince key given new) → marked ≡ true → LaneClears key old new
    lane-clears since marks = by-key (is_key z key) refl where
      by-key : (fits : Bool) → is_key z key ≡ fits → LaneClears key old new
      by-key true fits = (
        makes z (Clearing key) (λ lane. acts.Clear lane key true) shape (called fits)
            (subst (λ (reply : Bool). (rest : List Act) × Did (acts.Clear given.number key reply ∷ rest) given new) marks (clears fits)),
        subst (λ (lane : LaneOf). ClearedSince key lane new) is (since marks),
      )
      by-key false fits = absurd (true≢false (sym marks ∙ (outside fits).0))

    -- and one that didn't
    pub lane-clears-none : (IsFalse marked → MissedSince key given new) → marked ≡ false → LaneClearsNone key old new
    lane-clears-none since misses = (
      makes-at-key z (Clearing key) (λ lane. acts.Clear lane key false) shape key (is_key z key) refl (λ fits. (outside fits).1) called
          (λ fits. subst (λ (reply : Bool). (rest : List Act) × Did (acts.Clear given.number key reply ∷ rest) given new) misses (clears fits)),
      subst (λ (lane : LaneOf). MissedSince key lane new) is (since misses),
    )

    -- one of both
    pub lane-cleared : (IsTrue marked → ClearedSince key given new) → (IsFalse marked → MissedSince key given new) → LaneClears key old new ⊎ LaneClearsNone key old new
    lane-cleared cleared missed = by-mark marked refl where
      by-mark : (mark : Bool) → marked ≡ mark → LaneClears key old new ⊎ LaneClearsNone key old new
      by-mark true marks = inl (lane-clears cleared marks)
      by-mark false misses = inr (lane-clears-none missed misses)
