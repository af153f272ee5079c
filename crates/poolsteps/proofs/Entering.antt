-- ENTER, of a get or of a clear, as a step of the lane's seat.
use Rattle.poolsteps.specs.Spot.{Spot as CellSpot}
use Rattle.std.proofs.Common.{◌≡◌, ⊎_elim, ℕ, Bool, List, ◌+◌, ◌%◌, ◌^◌, ◌<◌, true, false, cond, Some, None, refl, sym, ◌∙◌, subst, arith}
use Rattle.std.proofs.lemmas.Bool.{cases_Bool}
use Rattle.atomic_table.specs.Table.{Me}
use Rattle.keybits.specs.declared.shape.Shape.{Shape}
use Rattle.keybits.specs.declared.step.Kind.TheVariants as kinds
use Rattle.keybits.specs.Keys.{place_of, is_key}
use Rattle.keybits.specs.Words.{count_in}
use Rattle.seqpool.specs.declared.act.Act.TheVariants as acts
use Rattle.seqpool.specs.Pool.{Phase, with, published, home, retired, Pool, references_in, references, content_in, is_current, found, pool_after}
use Rattle.poolsteps.specs.declared.view.Status.TheVariants.{Untouched}
use Rattle.poolsteps.proofs.shares.Cases.{untouched-is}
use Rattle.steplaws.specs.declared.pending.Pending.TheVariants.{Nothing, Undo}
use Rattle.steplaws.specs.Calls.{is_hit}
use Rattle.poolsteps.specs.Shares.{reclaimer, MayHave, Slots}
use Rattle.steplaws.specs.Facts.{Words, most_of}
use Rattle.steplaws.specs.StepLaws.{HasUnderWay}
use Rattle.steplaws.proofs.Enters.{get-hits-law, get-misses-law, clear-hits-law, clear-misses-law}
use Rattle.poolsteps.specs.declared.steps.Purpose.{Purpose}
use Rattle.poolsteps.specs.declared.steps.Purpose.TheVariants.{ToGet, ToClear}
use Rattle.poolsteps.specs.declared.view.View.{View}
use Rattle.poolsteps.specs.Rule.{World}
use Rattle.poolsteps.specs.Views.{the_lane, status_of}
use Rattle.poolsteps.specs.Told.{EntersGet, EntersClear, Enters, IsIdle, references_seen}
use Rattle.poolsteps.proofs.SeatLemmas.{IsAt, IsPoint}
use Rattle.poolsteps.proofs.Making.{moment_of, Makes, MakesQuietly, quietly}
use Rattle.poolsteps.proofs.Knowing.{references-known}

-- where the count has room, the word with one more in it is within 64 bits
enter-fits : (word : ℕ) → count_in word < 1073741823 → word < 18446744073709551616 → (word + 4) % 2 ^ 64 ≡ word + 4
enter-fits word room below = omega arith

-- an ENTER that hits doesn't miss
not-both : {A : Type 0} (key word : ℕ) → is_hit key word ≡ true → is_hit key word ≡ false → A
not-both key word hit miss = let bad : true ≡ false = sym hit ∙ miss in absurd (cc bad)

-- where a get finds a content, only a lane with a reference may have its share
found-held : (current : Bool) (f : Phase) (last lane : ℕ) (bytes : List ℕ) → Some bytes ≡ cond current (content_in f) None → MayHave last lane lane f
    → 0 < cond current (references_in f lane) 0
found-held false f last lane bytes e may = absurd (cc e)
found-held true (with k) last lane bytes e may = absurd (cc e)
found-held true (published c r true) last lane bytes e may = absurd (cc e)
found-held true (published c r false) last lane bytes e may = may.1
found-held true home last lane bytes e may = absurd (cc e)
found-held true retired last lane bytes e may = absurd (cc e)

module _ {S T : Type 0} (content : T → List ℕ) (room : T → ℕ) (spots : ℕ → CellSpot) (z : Shape) (words : Words) (w : World) (slots : Slots T)
    (point : IsPoint content room spots z words w slots) (me : Me S View) (key : ℕ) (at : IsAt z w me.0) (below : words.life (place_of key) < 18446744073709551616)
    (good : is_key z key ≡ true) (idle : IsIdle me.0) where
  abbrev lane : ℕ
  lane = (the_lane me.0).lane

  abbrev word : ℕ
  word = words.life (place_of key)

  -- the seat's ENTER of this purpose
  abbrev MakesEnter : (ℕ → Me S View → Type 0) → Type 0
  MakesEnter then = MakesQuietly content room spots z words w slots (place_of key) me ((word + 4) % 2 ^ 64) then

  idle-now : HasUnderWay z (moment_of words w) lane Nothing
  idle-now = (at.record_is.inside, sym at.record_is.under ∙ idle)

  -- the word that is left, once the count has room
  left-in : {then : ℕ → Me S View → Type 0} → count_in word < 1073741823 → MakesQuietly content room spots z words w slots (place_of key) me (word + 4) then → MakesEnter then
  left-in {then} more makes = subst (λ (left : ℕ). MakesQuietly content room spots z words w slots (place_of key) me left then) (sym (enter-fits word more below)) makes

  -- the lane's slot, where it has no reference to a key that is found
  slot-alone : (bytes : List ℕ) → Some bytes ≡ found z (pool_after z w.history) key → references_seen z me.0 key ≡ 0
      → status_of (the_lane me.0) (place_of key) lane ≡ Untouched
  slot-alone bytes finds none = untouched-is (status_of (the_lane me.0) (place_of key) lane) (λ touched.
      let may = point.shared.touched lane (place_of key) lane at.record_is.inside at.record_is.inside
      (λ e. touched (at.record_is.deeds (place_of key) lane ∙ e)) in
      let pool : Pool = pool_after z w.history in
      let some = found-held (is_current z pool key) (pool (place_of key)).phase (reclaimer w.history (place_of key)) lane bytes finds may.0 in
      omega (arith, some, references-known z words w me.0 point.rule at key, none))

  get-hits : references_seen z me.0 key < most_of z (the_lane me.0).lane → is_hit key word ≡ true → MakesEnter (EntersGet z key me)
  get-hits fewer hit =
      let known = references-known z words w me.0 point.rule at key in
      let few : references z (pool_after z w.history) lane key < most_of z lane = omega (arith, fewer, known) in
      let law = get-hits-law z (moment_of words w) lane key point.rule idle-now good few hit in
      left-in law.1.room record {
        kind = kinds.Enter;
        act = Some (acts.Get lane key (Some law.0));
        under = Nothing;
        keeps = law.1;
        by = refl;
        quiet = tt;
        told = λ after steps. (λ yes. (law.0, slot-alone law.0 law.1.allowed.1, steps), λ miss. not-both key word hit miss);
      }

  get-misses : is_hit key word ≡ false → MakesEnter (EntersGet z key me)
  get-misses miss =
      let law = get-misses-law z (moment_of words w) lane key point.rule idle-now good miss in
      left-in law.room record {
        kind = kinds.Enter;
        act = Some (acts.Get lane key None);
        under = Undo key false;
        keeps = law;
        by = refl;
        quiet = tt;
        told = λ after steps. (λ hit. not-both key word hit miss, λ still. steps);
      }

  clear-hits : is_hit key word ≡ true → MakesEnter (EntersClear z key me)
  clear-hits hit =
      let law = clear-hits-law z (moment_of words w) lane key point.rule idle-now good hit in
      left-in law.room record {
        kind = kinds.Enter;
        act = None;
        under = Undo key true;
        keeps = law;
        by = tt;
        quiet = tt;
        told = λ after steps. (λ still. steps, λ miss. not-both key word hit miss);
      }

  clear-misses : is_hit key word ≡ false → MakesEnter (EntersClear z key me)
  clear-misses miss =
      let law = clear-misses-law z (moment_of words w) lane key point.rule idle-now good miss in
      left-in law.room record {
        kind = kinds.Enter;
        act = Some (acts.Clear lane key false);
        under = Undo key false;
        keeps = law;
        by = refl;
        quiet = tt;
        told = λ after steps. (λ hit. not-both key word hit miss, λ still. steps);
      }

  enters : (purpose : Purpose) → (purpose ≡ ToGet → references_seen z me.0 key < most_of z (the_lane me.0).lane) → MakesEnter (Enters z purpose key me)
  enters ToGet fewer = ⊎_elim (get-hits (fewer refl)) get-misses (cases_Bool (is_hit key word))
  enters ToClear fewer = ⊎_elim clear-hits clear-misses (cases_Bool (is_hit key word))

  -- the ENTER of an idle lane, which for a get has fewer references to the key than the most, by what it is for and whether it hits
  pub enter-makes : (purpose : Purpose) → (purpose ≡ ToGet → references_seen z me.0 key < most_of z (the_lane me.0).lane)
      → Makes content room spots z words w slots (place_of key) me ((word + 4) % 2 ^ 64) (Enters z purpose key me)
  enter-makes purpose fewer = quietly content room spots z words w slots point at (enters purpose fewer)
