-- The places so far are here, and out of the directory.
use Rattle.std.proofs.Common.{◌≡◌, ◌+◌, ◌<◌, ℕ, length, true, Some, None}
use Rattle.std.specs.Prelude.{slice_get}
use Rattle.poolsteps.specs.declared.rows.Own.{Own}
use Rattle.poolsteps.specs.Rows.{AreOwn, is_here, object_in}
use Rattle.poolsteps.proofs.rows.endow_row.Given as goal

abbrev pub invariant-loop-index : goal.invariant-loop-index
invariant-loop-index g l = record {
  wide : length l.row.items ≡ length l.fn.row.items;
  directory : l.directory ≡ record l.fn.directory { next = l.fn.directory.next + l.index };
  own : AreOwn l.fn.directory.at l.fn.directory.next l.row.items;
  here : (at : ℕ) (own : Own g.row.T.Denot) → slice_get l.row.items at ≡ Some own → at < l.index → (is_here own ≡ true) × (object_in own ≡ None);
}
