-- Rows of a pool's lanes and guests with one more.
use Rattle.std.proofs.Common.{◌≡◌, ℕ, zero, suc, List, [], ◌∷◌, ◌++◌, slice_get, Option, Some, None, IfSome, option_to_list, refl, subst}
use Rattle.seatcalls.specs.Visitors.{GuestOf}
use Rattle.shardpool.specs.Tokens.{PoolOf, LaneOf}
use Rattle.shardpool.specs.Lanes.{Owns, OwnsGuest}
use Rattle.shardpool.specs.Opened.{AreFirstLanes}
use Rattle.guards.specs.Rows.{AreLanesOf, AreGuestsOf}

pub lanes_more : (pool : PoolOf) (lanes : List LaneOf) (last : LaneOf) → AreLanesOf pool lanes → Owns pool last → AreLanesOf pool (lanes ++ last ∷ [])
lanes_more pool [] last are owned zero lane is = let here : last ≡ lane = cc is in subst (λ (l : LaneOf). Owns pool l) here owned
lanes_more pool [] last are owned (suc at) lane is = absurd (cc is)
lanes_more pool (first ∷ lanes) last are owned zero lane is = are zero lane is
lanes_more pool (first ∷ lanes) last are owned (suc at) lane is = lanes_more pool lanes last (λ other one there. are (suc other) one there) owned at lane is

pub guests_more : (pool : PoolOf) (guests : List GuestOf) (last : GuestOf) → AreGuestsOf pool guests → OwnsGuest pool last → AreGuestsOf pool (guests ++ last ∷ [])
guests_more pool [] last are owned zero guest is = let here : last ≡ guest = cc is in subst (λ (g : GuestOf). OwnsGuest pool g) here owned
guests_more pool [] last are owned (suc at) guest is = absurd (cc is)
guests_more pool (first ∷ guests) last are owned zero guest is = are zero guest is
guests_more pool (first ∷ guests) last are owned (suc at) guest is = guests_more pool guests last (λ other one there. are (suc other) one there) owned at guest is

pub lanes_head : {pool : PoolOf} (lane : LaneOf) (lanes : List LaneOf) → AreLanesOf pool (lane ∷ lanes) → Owns pool lane
lanes_head lane lanes are = are 0 lane refl

pub lanes_tail : {pool : PoolOf} (lane : LaneOf) (lanes : List LaneOf) → AreLanesOf pool (lane ∷ lanes) → AreLanesOf pool lanes
lanes_tail lane lanes are at other is = are (suc at) other is

pub lanes_next : {pool : PoolOf} (first : Option LaneOf) (rest : List LaneOf) → AreLanesOf pool (option_to_list first ++ rest) → IfSome first (Owns pool)
lanes_next None rest are = tt
lanes_next (Some lane) rest are = lanes_head lane rest are

pub first_are : {pool : PoolOf} {lanes : List LaneOf} → AreFirstLanes pool lanes → AreLanesOf pool lanes
first_are first at lane is = (first.each at lane is).owned
