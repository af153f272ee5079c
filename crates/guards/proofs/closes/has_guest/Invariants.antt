-- No guest before this one has the number.
use Rattle.std.specs.Prelude.{◌≡◌, ◌≢◌, ℕ, ◌+◌, ◌<◌, Some, slice_get}
use Rattle.seatcalls.specs.Visitors.{GuestOf}
use Rattle.guards.proofs.closes.has_guest.Given as goal

abbrev pub invariant-loop-guest : goal.invariant-loop-guest
invariant-loop-guest g l = (index : ℕ) (guest : GuestOf) → index < l.guest-index → slice_get l.guests index ≡ Some guest → guest.number ≢ l.first + l.index
