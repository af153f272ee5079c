-- What a call leaves alone.
use Rattle.std.proofs.Common.{◌≡◌, List, refl, ap, ◌∙◌, subst, sym}
use Rattle.shardpool.specs.Tokens.{LaneOf}
use Rattle.shardpool.specs.Lanes.{SameLane, holds}
use Rattle.poolhandle.specs.declared.kept.Kept.{Kept}
use Rattle.poolhandle.specs.declared.handle.Handle.{Handle}
use Rattle.poolhandle.specs.Calls.{lane_of, filled, as_many, KeepsElse}

-- where the lane is as before, its references are too
pub keeps-lane : {fillings : List Kept → List Kept → Type 0} {before after : Handle} → lane_of after ≡ lane_of before → after.shared ≡ before.shared → after.joined ≡ before.joined
    → after.row ≡ before.row → fillings (filled before) (filled after) → KeepsElse fillings as_many before after
keeps-lane {fillings} {before} {after} lane share joined row fill = record {
  fillings_so = fill;
  references_so = λ key. ap (λ (l : LaneOf). holds l key) lane;
  lane = subst (λ (l : LaneOf). SameLane (lane_of before) l) (sym lane) (refl, refl, refl, refl);
  share = share;
  joined = joined;
  row = row;
}

-- the same lane, by way of another
pub same-by : (one middle other : LaneOf) → SameLane one middle → SameLane middle other → SameLane one other
same-by one middle other first second = (second.0 ∙ first.0, second.1 ∙ first.1, second.2 ∙ first.2, second.3 ∙ first.3)
