-- A place says the same to every thread.
use Rattle.std.proofs.Common.{Option, Some, None}
use mir.Raw.{raw}
use base.Shift.{Keyless}
use denote.RattleType.{RattleType}
use denote.Memory.{lone}
use denote.RawPtr.{Ptr}
use denote.Param.Send.{IsSend, struct_send, recorded_send, sendable}
use denote.Builtin.{RawPtr}
use denote.Struct.Declared.{shape}
use Rattle.std.proofs.Crossing.{frees}
use Rattle.std.proofs.alloc.Global.TheSendSync as heap
use Rattle.std_alloc.proofs.SendSync.{lies}
use Rattle.boxplace.specs.Places.{heap_handle, loose_owns, rests}
use Rattle.boxplace.specs.declared.place.Fits.{Ghosts}
use Rattle.boxplace.specs.contracts.place.Place.{the_row}
use Rattle.boxplace.specs.contracts.place.Place.TheInside as inside

loose_keyless : (R : RattleType) → IsSend R → (p : Ptr) (item : Option R.Denot) → Keyless (loose_owns R p item)
loose_keyless R s p None = λ _. tt
loose_keyless R s p (Some x) = (lies R s p x, frees.frees heap_handle (raw (lone R.mir)) p)

pub rests_keyless : (R : RattleType) → IsSend R → (ok : R.Denot → Type 0) (p : Ptr) → Keyless (rests R ok p)
rests_keyless R s ok p = λ item. (loose_keyless R s p item, λ _. tt)

fields_send : (T G : RattleType) (g : Ghosts T.Denot G.Denot) → IsSend (inside.the_row T G g)
fields_send T G g = let pointer : IsSend RawPtr = search sendable in
    recorded_send (inside.the_field T G g).row _ _ (inside.the_type T G g).to_one (struct_send (shape (inside.the_type T G g)) (pointer, (heap.the_field_send, tt)))

pub send : (T G : RattleType) (g : Ghosts T.Denot G.Denot) → IsSend T → IsSend (the_row T G g)
send T G g s = record { owned = λ d vs. ((λ _. tt), λ p. ((fields_send T G g).owned (record { at = p; alloc = heap_handle }) vs, rests_keyless T s (g.fits d) p)); leaving = λ k d w. tt }
