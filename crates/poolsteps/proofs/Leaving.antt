-- LEAVE, of a release or of an ENTER to undo, as a step of the lane's seat.
use Rattle.poolsteps.specs.Spot.{Spot as CellSpot}
use Rattle.std.proofs.Common.{◌≡◌, ◌≢◌, ⊎_elim, ℕ, List, ◌+◌, ◌-◌, ◌%◌, ◌^◌, ◌<◌, ◌≤◌, Bool, true, false, Some, None, if◌then◌else◌, refl, sym, ◌∙◌, subst, arith}
use Rattle.atomic_table.specs.Table.{Me}
use Rattle.keybits.specs.declared.shape.Shape.{Shape}
use Rattle.keybits.specs.declared.step.Kind.TheVariants as kinds
use Rattle.keybits.specs.Shapes.{is_place}
use Rattle.keybits.specs.Keys.{place_of}
use Rattle.keybits.specs.Words.{count_in}
use Rattle.seqpool.specs.declared.act.Act.TheVariants as acts
use Rattle.seqpool.specs.Pool.{references_in, is_current, pool_after}
use Rattle.steplaws.specs.declared.pending.Pending.{Pending}
use Rattle.steplaws.specs.declared.pending.Pending.TheVariants.{Nothing, Undo}
use Rattle.poolsteps.specs.declared.view.Status.TheVariants.{Untouched}
use Rattle.poolsteps.specs.Shares.{Slots}
use Rattle.steplaws.specs.Facts.{Words}
use Rattle.steplaws.specs.StepLaws.{owed_after}
use Rattle.steplaws.proofs.Leaves.{release-law, undo-law}
use Rattle.poolsteps.specs.declared.view.View.{View}
use Rattle.poolsteps.specs.Rule.{World}
use Rattle.poolsteps.specs.Views.{the_lane, status_of}
use Rattle.poolsteps.specs.Told.{Leaves, IsIdle, references_seen, MayLeave}
use Rattle.poolsteps.proofs.SeatLemmas.{IsAt, IsPoint}
use Rattle.poolsteps.proofs.Making.{moment_of, Makes, MakesQuietly, quietly}
use Rattle.poolsteps.proofs.Knowing.{references-known}

-- a word with a count is 4 at least: taking one from the count doesn't go below 0
leave-fits : (word : ℕ) → 1 ≤ count_in word → word < 18446744073709551616 → (word + (2 ^ 64 - 4)) % 2 ^ 64 ≡ word - 4
leave-fits word some below = omega arith

-- a lane that has an ENTER to undo isn't idle
not-idle : {A : Type 0} (under : Pending) (key : ℕ) (hit : Bool) → under ≡ Nothing → under ≡ Undo key hit → A
not-idle under key hit idle undo = let bad : Nothing ≡ Undo key hit = sym idle ∙ undo in absurd (cc bad)

-- a count that is none where this doesn't hold
counted : (b : Bool) (n : ℕ) → 1 < (if b then n else 0) → 1 < n
counted true n some = some
counted false n some = absurd (omega arith)

module _ {S T : Type 0} (content : T → List ℕ) (room : T → ℕ) (spots : ℕ → CellSpot) (z : Shape) (words : Words) (w : World) (slots : Slots T)
    (point : IsPoint content room spots z words w slots) (me : Me S View) (key : ℕ) (at : IsAt z w me.0) (below : words.life (place_of key) < 18446744073709551616) where
  abbrev lane : ℕ
  lane = (the_lane me.0).lane

  abbrev word : ℕ
  word = words.life (place_of key)

  -- the seat's LEAVE
  abbrev MakesLeave : Type 0
  MakesLeave = MakesQuietly content room spots z words w slots (place_of key) me ((word + (2 ^ 64 - 4)) % 2 ^ 64) (Leaves z key me)

  -- the word that is left, once there is a count
  left-in : 1 ≤ count_in word → MakesQuietly content room spots z words w slots (place_of key) me (word - 4) (Leaves z key me) → MakesLeave
  left-in some makes = subst (λ (left : ℕ). MakesQuietly content room spots z words w slots (place_of key) me left (Leaves z key me)) (sym (leave-fits word some below)) makes

  release : IsIdle me.0 → 0 < references_seen z me.0 key
      → (status_of (the_lane me.0) (place_of key) lane ≢ Untouched → 1 < references_seen z me.0 key) → MakesLeave
  release idle held back =
      let known = references-known z words w me.0 point.rule at key in
      let held_now = subst (λ (n : ℕ). 0 < n) (sym known) held in
      let law = release-law z (moment_of words w) lane key point.rule (at.record_is.inside, sym at.record_is.under ∙ idle) held_now in
      left-in law.changes.0 record {
        kind = kinds.Leave;
        act = Some (acts.Release lane key);
        under = owed_after (place_of key) word;
        keeps = law;
        by = refl;
        quiet = λ touched. counted (is_current z (pool_after z w.history) key) (references_in (pool_after z w.history (place_of key)).phase lane)
            (subst (λ (n : ℕ). 1 < n) (sym known) (back (λ e. touched (sym (at.record_is.deeds (place_of key) lane) ∙ e))));
        told = λ after steps. (λ still. steps, λ hit undo. not-idle (the_lane me.0).under key hit idle undo);
      }

  undo : is_place z (place_of key) ≡ true → (hit : Bool) → (the_lane me.0).under ≡ Undo key hit → MakesLeave
  undo inside hit is =
      let law = undo-law z (moment_of words w) lane key hit point.rule (at.record_is.inside, sym at.record_is.under ∙ is) inside in
      left-in law.changes.0 record {
        kind = kinds.Leave;
        act = None;
        under = owed_after (place_of key) word;
        keeps = law;
        by = tt;
        quiet = tt;
        told = λ after steps. (λ idle. not-idle (the_lane me.0).under key hit idle is, λ same still. steps);
      }

  -- the LEAVE of a lane that may make it: it gives back a reference, or undoes an ENTER
  pub leave-makes : is_place z (place_of key) ≡ true → MayLeave z me.0 key
      → Makes content room spots z words w slots (place_of key) me ((word + (2 ^ 64 - 4)) % 2 ^ 64) (Leaves z key me)
  leave-makes inside may = quietly content room spots z words w slots point at (⊎_elim
      (λ held. release held.0 held.1 held.2)
      (λ entered. undo inside entered.0 entered.1)
      may)
