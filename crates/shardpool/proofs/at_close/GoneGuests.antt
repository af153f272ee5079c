-- What the last world of a closed pool has of guests: they have nothing under way, no reference and no place.
use Rattle.std.proofs.Common.{◌≡◌, ℕ, ◌<◌, ◌≤◌, Bool, true, false, cond, List, [], ◌++◌, sym, ap, ◌∙◌, subst, arith}
use mathlib.Core.List.{IsPrefix}
use Rattle.keybits.specs.declared.shape.Shape.{Shape}
use Rattle.keybits.specs.Keys.{key_number, place_of, generation_of, is_key}
use Rattle.keybits.specs.Shapes.{callers, is_place}
use Rattle.seqpool.specs.declared.act.Act.{Act}
use Rattle.seqpool.specs.Pool.{Phase, references_in, is_current, references, pool_after, IsLegal}
use Rattle.seqpool.specs.Histories.{acts_of}
use Rattle.seqpool.proofs.Ranks.{current-from}
use Rattle.steplaws.specs.declared.pending.Pending.TheVariants.{Nothing}
use Rattle.steplaws.specs.Facts.{Words, Rule, moment}
use Rattle.steplaws.proofs.Stays.{own-law}
use Rattle.steplaws.proofs.Generations.{key_now}
use Rattle.poolsteps.specs.declared.view.View.{View}
use Rattle.poolsteps.specs.Shares.{at_rest}
use Rattle.poolsteps.specs.Views.{the_lane}
use Rattle.poolsteps.specs.Rule.{World, IsRecord}
use Rattle.poolsteps.specs.Told.{IsIdle}
use Rattle.poolsteps.proofs.ViewLemmas.{none-behind}
use Rattle.seatcalls.specs.Left.{left_with, has_retired}
use Rattle.seatcalls.specs.Visitors.{FitsGuest, HasNoReference}

-- ---- the key of a place at the end

-- the phase of a place at the end
abbrev pub phase-at : Shape → World → ℕ → Phase
phase-at z w place = (pool_after z w.history place).phase

-- the key that it has then
abbrev pub key-at : Shape → World → ℕ → ℕ
key-at z w place = key_number z.tag place (pool_after z w.history place).generation

module _ {z : Shape} (w : World) {words : Words} (rule : Rule z (moment words w.history w.lanes)) (place : ℕ) (inside : is_place z place ≡ true) where
  pub key-is : (is_key z (key-at z w place) ≡ true) × (place_of (key-at z w place) ≡ place) × (generation_of (key-at z w place) ≡ (pool_after z w.history place).generation)
  key-is = key_now z rule.limits rule.wide w.history place inside

  key-current : is_current z (pool_after z w.history) (key-at z w place) ≡ true
  key-current =
      let k = key-is in
      current-from z (pool_after z w.history) (key-at z w place) k.0 (ap (λ (p : ℕ). (pool_after z w.history p).generation) k.1 ∙ sym k.2)

  pub refs-here : (lane : ℕ) → references z (pool_after z w.history) lane (key-at z w place) ≡ references_in (phase-at z w place) lane
  refs-here lane =
      ap (λ (b : Bool). cond b (references_in (pool_after z w.history (place_of (key-at z w place))).phase lane) 0) key-current
      ∙ ap (λ (p : ℕ). references_in (pool_after z w.history p).phase lane) key-is.1

-- ---- guests

-- the guest of this number is gone: it has nothing under way, its acts left no place with it, it has no reference, and what it retired is at rest
pub record IsGone (z : Shape) (w : World) (number : ℕ) : Type 0 where
  pub idle : w.lanes.under number ≡ Nothing
  pub left : (place : ℕ) → is_place z place ≡ true → left_with z place (acts_of number w.history) false ≡ false
  pub bare : (place : ℕ) → is_place z place ≡ true → references_in (phase-at z w place) number ≡ 0
  pub retires : (place : ℕ) → is_place z place ≡ true → has_retired z place (acts_of number w.history) false ≡ true
      → (slot : ℕ) → slot < callers z → w.stock.status number place slot ≡ at_rest place slot

-- all guests are gone
abbrev pub AreGone : Shape → World → Type 0
AreGone z w = (number : ℕ) → z.lanes ≤ number → number < callers z → IsGone z w number

-- where there are none
pub none-gone : (z : Shape) (w : World) → z.guests ≡ 0 → AreGone z w
none-gone z w none number high low = absurd (omega (arith, high, low, none))

-- a guest that is back is gone
module _ {z : Shape} {w : World} {words : Words} (rule : Rule z (moment words w.history w.lanes)) {v : View} (number : ℕ)
    (fits : FitsGuest z v number) (idle : IsIdle v) (bare : HasNoReference z v) (seen : IsPrefix v.seen w.history) (is : IsRecord z w (the_lane v)) where
  none-more : acts_of (the_lane v).lane seen.0 ≡ []
  none-more = none-behind (the_lane v).lane v.seen seen.0 w.history seen.1 (sym fits.seat.seen.1 ∙ is.mine)

  pub guest-mine : (the_lane v).mine ≡ acts_of number w.history
  guest-mine = is.mine ∙ ap (λ (l : ℕ). acts_of l w.history) (sym fits.seat.number_is)

  none-held : (key : ℕ) → references z (pool_after z w.history) (the_lane v).lane key ≡ 0
  none-held key =
      let legal : IsLegal z (v.seen ++ seen.0) = subst (IsLegal z) (sym seen.1) rule.legal in
      subst (λ (h : List Act). references z (pool_after z h) (the_lane v).lane key ≡ 0) seen.1
      ((own-law z v.seen seen.0 (the_lane v).lane legal none-more).1 key ∙ bare key)

  pub guest-gone : IsGone z w number
  guest-gone = record {
    idle = ap w.lanes.under fits.seat.number_is ∙ (sym is.under ∙ idle);
    left = λ place inside. ap (λ (acts : List Act). left_with z place acts false) (sym guest-mine) ∙ fits.left place inside;
    bare = λ place inside.
        ap (references_in (phase-at z w place)) fits.seat.number_is
        ∙ (sym (refs-here w rule place inside (the_lane v).lane) ∙ none-held (key-at z w place));
    retires = λ place inside retired slot low.
        ap (λ (l : ℕ). w.stock.status l place slot) fits.seat.number_is
        ∙ (sym (is.deeds place slot) ∙ fits.retires place inside (ap (λ (acts : List Act). has_retired z place acts false) guest-mine ∙ retired) slot low);
  }
