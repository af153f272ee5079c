-- MARK, through the table.
use Rattle.poolsteps.specs.Spot.{Spot as CellSpot}
use mathlib.Core.Logic.{dite}
use native.Mathlib.Decide.{ℕ_discrete}
use prog.Atomic.{either}
use Rattle.std.proofs.Common.{◌≡◌, ◌==◌, ◌⊎◌, ℕ, List, ◌+◌, ◌-◌, ◌/◌, ◌*◌, ◌%◌, Bool, true, eqb, Option, Some, refl, ap, sym, ◌∙◌, subst, arith, bit_or, eq-eqb, ne_eqb, slice_index}
use Rattle.atomic_table.specs.Table.{Me, Allows, stepped}
use Rattle.poolsteps.specs.Share.{Share}
use Rattle.keybits.specs.declared.shape.Shape.{Shape}
use Rattle.keybits.specs.declared.step.Kind.TheVariants as kinds
use Rattle.keybits.specs.declared.step.Word.TheVariants.{Life}
use Rattle.keybits.specs.Shapes.{is_place}
use Rattle.keybits.specs.Keys.{place_of}
use Rattle.keybits.specs.Words.{state_in}
use Rattle.keybits.proofs.WordLemmas.{or_two}
use Rattle.seqpool.specs.declared.act.Act.TheVariants as acts
use Rattle.steplaws.specs.declared.pending.Pending.TheVariants.{Undo}
use Rattle.poolsteps.specs.Shares.{Slots}
use Rattle.steplaws.specs.Facts.{Words}
use Rattle.steplaws.proofs.Marks.{mark-law}
use Rattle.poolsteps.specs.declared.view.View.{View}
use Rattle.poolsteps.specs.Layout.{index_in}
use Rattle.poolsteps.specs.Rule.{World, Kept}
use Rattle.poolsteps.specs.Views.{the_lane, IsOne}
use Rattle.poolsteps.specs.Told.{Marks, MarksFrom}
use Rattle.poolsteps.proofs.SeatLemmas.{IsAt, IsPoint}
use Rattle.poolsteps.proofs.Making.{moment_of, Makes, MakesQuietly, quietly, life-allows}
use Rattle.poolsteps.proofs.Seeing.{see-allows}

-- a word that is PRESENT or MARKED becomes MARKED by its second bit, and is else as it was
marked-bits : (word : ℕ) → (state_in word ≡ 1) ⊎ (state_in word ≡ 3) → bit_or word 2 ≡ word + 3 - state_in word
marked-bits word open_state = or_two word open_state ∙ whole word
  where
    whole : (n : ℕ) → n / 4 * 4 + 3 ≡ n + 3 - n % 4
    whole n = omega arith

pub mark-makes : {S T : Type 0} (content : T → List ℕ) (room : T → ℕ) (spots : ℕ → CellSpot) (z : Shape) (words : Words) (w : World) (slots : Slots T)
    → IsPoint content room spots z words w slots → (me : Me S View) (key : ℕ) → IsAt z w me.0 → (the_lane me.0).under ≡ Undo key true
    → Makes content room spots z words w slots (place_of key) me (bit_or (words.life (place_of key)) 2) (Marks z key me)
mark-makes content room spots z words w slots point me key at under =
    let place : ℕ = place_of key in
    let word : ℕ = words.life place in
    let lane : ℕ = (the_lane me.0).lane in
    let law = mark-law z (moment_of words w) lane key point.rule (at.record_is.inside, sym at.record_is.under ∙ under) in
    let makes : MakesQuietly content room spots z words w slots place me (word + 3 - state_in word) (Marks z key me) = record {
      kind = kinds.Mark;
      act = Some (acts.Clear lane key (eqb (state_in word) 1));
      under = Undo key true;
      keeps = law;
      by = refl;
      quiet = tt;
      told = λ after steps. steps;
    } in
    subst (λ (left : ℕ). Makes content room spots z words w slots place me left (Marks z key me)) (sym (marked-bits word law.changes.0))
    (quietly content room spots z words w slots point at makes)

-- MARK from an expected word alone is one where it is found, and else a look
pub mark-from-allows : {T : Type 0} (content : T → List ℕ) (room : T → ℕ) (spots : ℕ → CellSpot) (z : Shape) (slots id : ℕ) (me : Me (Option (Share T)) View) → IsOne me.0
    → (key expected : ℕ) → is_place z (place_of key) ≡ true → (the_lane me.0).under ≡ Undo key true
    → Allows (Kept content room spots z) slots id me (index_in z (Life (place_of key))) (λ word. either (word == expected) (bit_or expected 2) word) (MarksFrom z expected key me)
mark-from-allows content room spots z slots id me one key expected inside under s kept homes at small =
    let index : ℕ = index_in z (Life (place_of key)) in
    let word : ℕ = slice_index s.words index in
    dite (ℕ_discrete word expected)
    (λ hit.
    let marks = life-allows content room spots z slots id me one (place_of key) inside (λ n. bit_or n 2) (Marks z key me)
    (λ words w homes_now point there low. mark-makes content room spots z words w homes_now point me key there under) s kept homes at small in
    let left : bit_or word 2 ≡ either (eqb word expected) (bit_or expected 2) word =
    ap (λ (n : ℕ). bit_or n 2) hit ∙ sym (ap (λ (b : Bool). either b (bit_or expected 2) word) (eq-eqb word expected hit)) in (
      marks.0,
      marks.1,
      marks.2,
      subst (λ (n : ℕ). Kept content room spots z (stepped s index n id me.1 marks.0 marks.1)) left marks.3,
      (λ found. marks.4, λ other. absurd (other hit)),
    ))
    (λ miss.
    let sees = see-allows content room spots z slots id me one index s kept homes at small in
    let left : word ≡ either (eqb word expected) (bit_or expected 2) word = sym (ap (λ (b : Bool). either b (bit_or expected 2) word) (ne_eqb word expected miss)) in (
      sees.0,
      sees.1,
      sees.2,
      subst (λ (n : ℕ). Kept content room spots z (stepped s index n id me.1 sees.0 sees.1)) left sees.3,
      (λ found. absurd (miss found), λ other. sees.4),
    ))
