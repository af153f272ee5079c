-- What a lane made.
use Rattle.std.proofs.Common.{◌≢◌, ℕ, List, ◌∷◌, Option, Some, None, slice_index_or, sym, subst}
use Rattle.std.specs.Option.{MatchOption}
use Rattle.std.proofs.lemmas.List.Elements.{All-head, All-tail, All-push}
use Rattle.std.proofs.lemmas.List.Sorted.{All-permutation}
use Rattle.shardpool.specs.Tokens.{PoolOf, LaneOf, FillingOf}
use Rattle.shardpool.specs.Lanes.{Made}
use Rattle.shardpool.specs.AfterCalls.{KeepsFillings, KeepsOthers, AfterGet}
use Rattle.poolhandle.specs.Looks.{Looks}
use Rattle.lanestore.specs.declared.kept.Kept.{Kept}
use Rattle.lanestore.specs.Fillings.{AreMade, HaveNot, Gain, Lose}

module _ {T : Type 0} where
  -- which doesn't depend on the object
  pub made-with : (lane : LaneOf) (filling : FillingOf T) (object : T) → Made lane filling → Made lane (record filling { object = object })
  made-with lane filling object made = record {
    table = made.table;
    directory = made.directory;
    start = made.start;
    place = made.place;
    may = made.may;
    emptied = made.emptied;
  }

  -- after a call that keeps what was made
  pub made-on : (old new : LaneOf) (kept : List (Kept T)) → KeepsFillings T old new → AreMade old kept → AreMade new kept
  made-on old new kept on made k d low = on (slice_index_or kept k d).filling (made k d low)

  -- after a publish, of a filling that isn't among them
  pub made-others : (key : ℕ) (old new : LaneOf) (kept : List (Kept T)) → KeepsOthers T key old new → HaveNot key kept → AreMade old kept → AreMade new kept
  made-others key old new kept on none made k d low = on (slice_index_or kept k d).filling (none k d low) (made k d low)

  -- one more
  pub made-more : (lane : LaneOf) (filling : FillingOf T) (old new : List (Kept T)) → Gain filling old new → Made lane filling → AreMade lane old → AreMade lane new
  made-more lane filling old new gain own made =
      let P = λ (one : Kept T). Made lane one.filling in let one = gain.0 in
      subst (AreMade lane) (sym gain.2) (All-push P old one made (subst (λ (f : FillingOf T). Made lane f) (sym gain.1) own))

  -- the one that was taken out, and the others
  pub made-one : (lane : LaneOf) (filling : FillingOf T) (old new : List (Kept T)) → Lose filling old new → AreMade lane old → Made lane filling
  made-one lane filling old new lose made =
      let P = λ (one : Kept T). Made lane one.filling in let one = lose.0 in
      subst (λ (f : FillingOf T). Made lane f) lose.1 (All-head P one new (All-permutation P old (one ∷ new) lose.2 made))

  pub made-rest : (lane : LaneOf) (filling : FillingOf T) (old new : List (Kept T)) → Lose filling old new → AreMade lane old → AreMade lane new
  made-rest lane filling old new lose made =
      let P = λ (one : Kept T). Made lane one.filling in let one = lose.0 in
      All-tail P one new (All-permutation P old (one ∷ new) lose.2 made)

  -- none of them is of a key that no filling of the lane has
  pub apart : (key : ℕ) (lane : LaneOf) (kept : List (Kept T)) → ((other : FillingOf T) → Made lane other → other.key ≢ key) → AreMade lane kept → HaveNot key kept
  apart key lane kept none made k d low = none (slice_index_or kept k d).filling (made k d low)

-- after a look
pub looks-keep : {T A : Type 0} (content : T → List ℕ) (pool : PoolOf) (key : ℕ) (old new : LaneOf) (sees : A → T → Type 0) (result : Option A)
    → MatchOption result (AfterGet T pool key old new None) (λ answer. Looks content pool key (sees answer) old new) → KeepsFillings T old new
looks-keep content pool key old new sees None missed = missed.fillings
looks-keep content pool key old new sees (Some answer) looked = λ filling made. looked.releases.fillings filling (looked.gets.fillings filling made)
