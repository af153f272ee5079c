-- What the emptier of a call took.
use Rattle.std.specs.Prelude.{◌≡◌, ℕ, List, [], ◌∷◌, ◌++◌}
use Rattle.seqpool.specs.declared.act.Act.{Act}
use Rattle.seqpool.specs.declared.act.Act.TheVariants as acts
use Rattle.poolsteps.specs.declared.view.View.{View}
use Rattle.poolsteps.specs.Views.{the_lane}
use Rattle.poolsteps.specs.Told.{WasPublished}

module _ {E : Type 0} (takes : E → List ℕ → E → Type 0) where
  -- by these acts the emptier took, at each reclaim, the content with which the key had been published, and else nothing
  abbrev pub TookBy : List Act → List Act → E → E → Type 0
  TookBy seen [] old new = new ≡ old
  TookBy seen (acts.Publish l key content with_ref ∷ more) old new = TookBy seen more old new
  TookBy seen (acts.Get l key reply ∷ more) old new = TookBy seen more old new
  TookBy seen (acts.Release l key ∷ more) old new = TookBy seen more old new
  TookBy seen (acts.Clear l key reply ∷ more) old new = TookBy seen more old new
  TookBy seen (acts.Reclaim l key ∷ more) old new = (content : List ℕ) × WasPublished seen key content
      × ((between : E) × takes old content between × TookBy seen more between new)
  TookBy seen (acts.Home l place ∷ more) old new = TookBy seen more old new
  TookBy seen (acts.Collect l places ∷ more) old new = TookBy seen more old new

  -- between two views of the lane, which made some acts, the emptier took what these say
  abbrev pub HandsOut : View → View → E → E → Type 0
  HandsOut before after old new = (made : List Act) × ((the_lane after).mine ≡ (the_lane before).mine ++ made)
      × TookBy after.seen made old new
