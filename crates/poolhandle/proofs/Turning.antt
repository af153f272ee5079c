-- A filling that became another of its key.
use Rattle.std.proofs.Common.{◌≡◌, Bool, true, false, IsTrue, IsFalse, ℕ, ◌-◌, ◌<◌, List, [], ◌∷◌, length, slice_index_or, slice_set, refl, ap, sym, ◌∙◌, subst, arith}
use Rattle.std.proofs.lemmas.List.{length-drop, take_all, drop_all}
use Rattle.std.specs.List.Sorted.{IsPermutation}
use Rattle.std.proofs.lemmas.List.Elements.{All-get_or, All-set, All-tail}
use Rattle.std.proofs.lemmas.List.Sorted.{All-permutation}
use Rattle.keybits.specs.Keys.{place_of}
use Rattle.poolsteps.specs.Layout.{slot_start}
use Rattle.poolsteps.specs.Views.{the_lane}
use Rattle.poolsteps.specs.Told.{MayPublish}
use Rattle.seatcalls.specs.Carried.{AreEmptied}
use Rattle.shardpool.specs.Tokens.{LaneOf, FillingOf}
use Rattle.shardpool.specs.Lanes.{Made, IsFilling}
use Rattle.slotcell.specs.ByteBuf.{ByteBuf}
use Rattle.poolhandle.specs.declared.kept.Kept.{Kept}
use Rattle.poolhandle.specs.Filled.{content_of, room_of, SameFilling, AreMade}

-- without room all bytes are content
pub all-content : (kept : Kept) → kept.room ≡ 0 → content_of kept ≡ kept.filling.object.bytes
all-content kept none = take_all (length kept.filling.object.bytes - kept.room) kept.filling.object.bytes (omega (arith, none))

pub no-room : (kept : Kept) → kept.room ≡ 0 → room_of kept ≡ []
no-room kept none = drop_all (length kept.filling.object.bytes - kept.room) kept.filling.object.bytes (omega (arith, none))

pub room-length : (kept : Kept) → length (room_of kept) ≡ kept.room
room-length kept = let fits = kept.fits in let long = length-drop (length kept.filling.object.bytes - kept.room) kept.filling.object.bytes in omega (arith, fits, long)

-- what a lane made doesn't depend on the object
pub made-same : (lane : LaneOf) (old new : FillingOf ByteBuf) → new.table ≡ old.table → new.key ≡ old.key → new.start ≡ old.start → new.directory ≡ old.directory → Made lane old → Made lane new
made-same lane old new table key start directory made = record {
  table = table ∙ made.table;
  directory = directory ∙ made.directory;
  start = start ∙ (made.start ∙ ap (λ (k : ℕ). slot_start lane.shape (place_of k)) (sym key));
  place = subst (λ (k : ℕ). IsFilling lane (place_of k)) (sym key) made.place;
  may = subst (λ (k : ℕ). MayPublish lane.shape lane.book k) (sym key) made.may;
  emptied = subst (λ (k : ℕ). AreEmptied lane.shape (the_lane lane.book) (place_of k)) (sym key) made.emptied;
}

pub made-set : (lane : LaneOf) (index : ℕ) (old new : List Kept) (kept : Kept) → index < length old → new ≡ slice_set old index kept → SameFilling (slice_index_or old index kept) kept
    → AreMade lane old → AreMade lane new
made-set lane index old new kept low same token made =
    let before = slice_index_or old index kept in
    let own = made-same lane before.filling kept.filling token.0 token.1 token.2 token.4 (All-get_or (λ (k : Kept). Made lane k.filling) old index kept low made) in
    subst (AreMade lane) (sym same) (All-set (λ (k : Kept). Made lane k.filling) old index kept own made)

-- what was taken out, and the others
pub made-taken : (lane : LaneOf) (old rest : List Kept) (kept : Kept) → IsPermutation old (kept ∷ rest) → AreMade lane old → AreMade lane rest
made-taken lane old rest kept same made =
    let P = λ (k : Kept). Made lane k.filling in All-tail P kept rest (All-permutation P old (kept ∷ rest) same made)

-- what a lane made, after a call that keeps what was made
pub made-on : (given old new : LaneOf) (places : List Kept) → given ≡ old → ((filling : FillingOf ByteBuf) → Made given filling → Made new filling) → AreMade old places → AreMade new places
made-on given old new places same on made k d low = on (slice_index_or places k d).filling (subst (λ (lane : LaneOf). Made lane (slice_index_or places k d).filling) (sym same) (made k d low))

pub by-answer : (P : Type 0) (answer : Bool) → (IsTrue answer → P) → (IsFalse answer → P) → P
by-answer P true if_true if_false = if_true refl
by-answer P false if_true if_false = if_false refl

-- a list with a place has an element
pub any-of : (places : List Kept) (index : ℕ) → index < length places → Kept
any-of [] index low = absurd (omega (arith, low))
any-of (x ∷ xs) index low = x
