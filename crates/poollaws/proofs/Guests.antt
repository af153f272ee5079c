-- What a guest has seen, which keys guests cleared, and what the close of a pool with guests tells.
use Rattle.std.proofs.Common.{◌≡◌, ◌⊎◌, inl, inr, ⊎_elim, ℕ, ◌+◌, ◌<◌, ◌≤◌, Bool, true, false, cond, eqb, List, [], ◌∷◌, ◌++◌, Option, Some, None, length, slice_get, refl, sym, ap, ◌∙◌, subst, append-nil, arith}
use Rattle.std.proofs.lemmas.List.{append_cancel_left}
use mathlib.Core.List.{IsPrefix}
use mathlib.Core.Logic.{dite}
use Rattle.std.proofs.Math.Decide.{dec_lt}
use Rattle.keybits.specs.declared.shape.Shape.{Shape}
use Rattle.keybits.specs.Shapes.{callers}
use Rattle.seqpool.specs.declared.act.Act.{Act}
use Rattle.seqpool.specs.declared.act.Act.TheVariants as acts
use Rattle.seqpool.specs.Pool.{has, NoRepeats}
use Rattle.seqpool.specs.Histories.{At, PublishedAt, ClearedAt, acts_of}
use Rattle.seqpool.proofs.Growth.{legal-at, acts-append}
use Rattle.poolsteps.specs.Views.{the_lane}
use Rattle.steplaws.specs.StepLaws.{reclaim}
use Rattle.seatcalls.specs.Guests.{given_acts}
use Rattle.seatcalls.specs.Visitors.{GuestOf, IsFree, Visits}
use Rattle.seatcalls.specs.Endings.{ended_acts, Settles}
use Rattle.seatcalls.specs.Sightings.{Found, Missed, Cleared}
use Rattle.shardpool.specs.Tokens.{PoolOf, LaneOf, GuestsOf}
use Rattle.poollaws.specs.Words.{IsCleared}
use Rattle.poollaws.specs.Cleared.{cleared_in, cleared_by}
use Rattle.poollaws.specs.GuestLaws.{cleared_by_guest, VisitedLaw, FoundBehindLaw, GuestMissedLaw, GuestMarksOnceLaw, GuestNoneClearedLaw, GuestKeyClearedLaw, GuestClearedOnceLaw, GuestsLastLaw, GuestsCountedLaw, GuestsClearerLaw}
use Rattle.poollaws.proofs.ClearActs.{cleared-append}
use Rattle.poollaws.proofs.Clearing.{clear-with, cleared-among, cleared-once}
use Rattle.poollaws.proofs.Counts.{counted-all, none-left-all}
use Rattle.poollaws.proofs.Ends.{stands-law, stays-published, stays-cleared}

-- ---- what a guest has seen

pub visited-law : VisitedLaw
visited-law made steps looks old new free visits =
    let a = visits.acted in
    let more = a.seen.0 in
    let goes : new.book.seen ≡ old.book.seen ++ more = sym a.seen.1 in
    let mine = free.fits.seat.seen.1 in
    let number = free.fits.seat.number_is in
    let whole : acts_of old.number old.book.seen ++ acts_of old.number more ≡ acts_of old.number old.book.seen ++ made
    = sym (acts-append old.number old.book.seen more)
    ∙ (ap (acts_of old.number) (sym goes)
    ∙ (ap (λ (n : ℕ). acts_of n new.book.seen) (number ∙ sym a.lane)
    ∙ (sym a.own ∙ (a.mine ∙ ap (λ (xs : List Act). xs ++ made) (mine ∙ ap (λ (n : ℕ). acts_of n old.book.seen) (sym number)))))) in
    (more, goes, append_cancel_left (acts_of old.number old.book.seen) (acts_of old.number more) made whole)

pub found-behind : FoundBehindLaw
found-behind key old new goes found = (
  λ i act at.
      let there = stands-law old.book.seen new.book.seen goes i act at in
      let low = there.0 in
      let behind = found.get.behind in (omega (arith, low, behind), there.1),
  (found.present.0.0, found.present.0.2),
  λ cleared.
      let there = stands-law old.book.seen new.book.seen goes cleared.0 (acts.Clear cleared.1.0 key true) cleared.1.1 in
      let low = there.0 in
      let behind = found.get.behind in
      found.present.1 cleared.0 (omega (arith, low, behind)) (cleared.1.0, there.1),
)

-- ---- keys that are gone

pub guest-missed : GuestMissedLaw
guest-missed key old new goes missed content (j, (lane, with_ref, at)) =
    let there = stands-law old.book.seen new.book.seen goes j (acts.Publish lane key content with_ref) at in
    let low = there.0 in
    let behind = missed.behind in
    let gone = missed.cleared j content (lane, with_ref, there.1) (omega (arith, low, behind)) in
    (gone.0, gone.2)

pub guest-marks-once : GuestMarksOnceLaw
guest-marks-once key old new false goes cleared since = refl
guest-marks-once key old new true goes (position, (lane, at)) since =
    let first = stands-law old.book.seen new.book.seen goes position (acts.Clear lane key true) at in
    let low = first.0 in
    let then = since refl in
    let behind = then.clear.behind in absurd (then.present.1 position (omega (arith, low, behind)) (lane, first.1))

-- ---- which keys guests cleared

pub guest-none : GuestNoneClearedLaw
guest-none made steps looks old new visits calm =
    ap cleared_in visits.acted.mine ∙ (cleared-append (the_lane old.book).mine made
    ∙ (ap (λ (keys : List ℕ). cleared_by_guest old ++ keys) calm ∙ append-nil (cleared_by_guest old)))

given-calm : (b : Bool) (lane place : ℕ) → cleared_in (cond b [] (acts.Home lane place ∷ [])) ≡ []
given-calm true lane place = refl
given-calm false lane place = refl

ended-calm : (z : Shape) (number place : ℕ) (claimed : Option ℕ) → cleared_in (ended_acts z number place claimed) ≡ []
ended-calm z number place None = refl
ended-calm z number place (Some generation) = given-calm (eqb generation z.last_generation) number place

pub guest-key : GuestKeyClearedLaw
guest-key key place steps looks old new result (claimed, visits) =
    let rest = ended_acts old.shape old.number place claimed in
    ap cleared_in visits.acted.mine ∙ (cleared-append (the_lane old.book).mine (acts.Clear old.number key result ∷ rest)
    ∙ ap (λ (keys : List ℕ). cleared_by_guest old ++ keys)
    (clear-with key old.number result rest (acts.Clear old.number key result ∷ rest) (ended-calm old.shape old.number place claimed) refl))

pub guest-once : GuestClearedOnceLaw
guest-once guest free =
    cleared-once guest.shape guest.book.seen (the_lane guest.book).mine (the_lane guest.book).lane free.fits.seat.seen.0 free.fits.seat.seen.1

-- ---- the close of a pool with guests

pub guests-last : GuestsLastLaw
guests-last pool lanes undealt dealt census ends index guest at = (
  λ key content is. stays-published guest.book.seen ends.closes.history (ends.begins index guest at) key content is,
  λ key is. stays-cleared guest.book.seen ends.closes.history (ends.begins index guest at) key is,
)

pub guests-counted : GuestsCountedLaw
guests-counted pool lanes census all closes key content is =
    (counted-all pool lanes census all closes key content is, λ none. none-left-all pool lanes census all closes none key content is)

-- whose clear it is, by its number
whose : (pool : PoolOf) (number : ℕ) → number < callers pool.shape → (number < pool.shape.lanes) ⊎ (pool.shape.lanes ≤ number)
whose pool number below = dite (dec_lt number pool.shape.lanes) (λ low. inl low) (λ high. inr (omega (arith, high)))

pub guests-clearer : GuestsClearerLaw
guests-clearer pool lanes undealt dealt census all guests ends key (i, (number, at)) =
    let history = ends.closes.history in
    let below = (legal-at pool.shape _ history i (acts.Clear number key true) ends.closes.last.legal at).0 in
    let among = cleared-among history i number key at in
    ⊎_elim
    (λ low.
    let owner = all.all number low in
    let own : cleared_by owner.1 ≡ cleared_in (acts_of number history)
    = ap cleared_in (ends.closes.last.own owner.0 owner.1 owner.2 ∙ ap (λ (n : ℕ). acts_of n history) owner.3) in
    inl (owner.0, owner.1, owner.2, ap (λ (keys : List ℕ). has keys key) own ∙ among))
    (λ high. dite (dec_lt number undealt.next)
    (λ dealt_is.
    let owner = guests.all number high dealt_is in
    let own : cleared_by_guest owner.1 ≡ cleared_in (acts_of number history)
    = ap cleared_in (ends.own owner.0 owner.1 owner.2 ∙ ap (λ (n : ℕ). acts_of n history) owner.3) in
    inr (owner.0, owner.1, owner.2, ap (λ (keys : List ℕ). has keys key) own ∙ among))
    (λ undealt_is.
    let none = ends.unmade number (omega (arith, undealt_is)) below in
    let bad : false ≡ true = sym (ap (λ (made : List Act). has (cleared_in made) key) none) ∙ among in absurd (cc bad)))
    (whose pool number below)
