-- A lane that tells makes one look more, and is else as it was.
use Rattle.std.proofs.Common.{◌≡◌, ℕ, List, [], ◌++◌, refl, sym, ◌∙◌, subst, append-nil}
use Rattle.atomic_table.specs.Table.{Me}
use Rattle.keybits.specs.declared.shape.Shape.{Shape}
use Rattle.seqpool.specs.declared.act.Act.{Act}
use Rattle.poolsteps.specs.declared.view.View.{View}
use Rattle.poolsteps.specs.Seats.{looked_once}
use Rattle.poolsteps.specs.Told.{Sees}
use Rattle.shardpool.specs.Tokens.{LaneOf}
use Rattle.shardpool.specs.Lanes.{Did}
use Rattle.shardpool.specs.LaneStates.{FitsSeat}

-- the lane after one look more
abbrev pub teller : LaneOf → LaneOf
teller lane = record lane { book = looked_once lane.book }

nothing-more : {A : Type 0} (xs : List A) → xs ≡ (xs ++ []) ++ []
nothing-more xs = sym (append-nil xs) ∙ sym (append-nil _)

one-look : {S : Type 0} {z : Shape} {v : View} {number : ℕ} {held : List (ℕ × S)} → FitsSeat z v number → Sees z (v, held) (looked_once v, held)
one-look {v = v} seat = record {
  goes = record {
    lanes = seat.one;
    between = [];
    seen = nothing-more v.seen;
    rooms_between = [];
    rooms = nothing-more v.rooms;
    paired = (seat.paired, refl);
    others = refl;
    legal = seat.legal;
    owners = seat.owners;
    mine = seat.own;
    quiet = seat.quiet;
  };
  held = refl;
  steps = refl;
  looks = refl;
}

-- a hand whose seat made one look more has made a look that moves nothing
pub tells : {S : Type 0} {z : Shape} {v : View} {number : ℕ} {held : List (ℕ × S)} {after : Me S View} → after ≡ (looked_once v, held) → FitsSeat z v number → Sees z (v, held) after
tells {z = z} {v = v} {held = held} is seat = subst (λ (m : Me _ View). Sees z (v, held) m) (sym is) (one-look seat)

-- what it did up to then, or from then on, it did up to the look, and from it on
module _ {made : List Act} {old new : LaneOf} where
  pub told-then : Did made old new → Did made old (teller new)
  told-then did =
      let goes = did.goes in record {
        goes = record { more = goes.more; seen = goes.seen; own = goes.own; kept = goes.kept; rooms = goes.rooms; paired = goes.paired; legal = goes.legal };
        same = did.same;
        mine = did.mine;
        held = did.held;
        list = did.list;
        pages = did.pages;
      }

  pub then-told : Did made (teller old) new → Did made old new
  then-told did =
      let goes = did.goes in record {
        goes = record { more = goes.more; seen = goes.seen; own = goes.own; kept = goes.kept; rooms = goes.rooms; paired = goes.paired; legal = goes.legal };
        same = did.same;
        mine = did.mine;
        held = did.held;
        list = did.list;
        pages = did.pages;
      }
