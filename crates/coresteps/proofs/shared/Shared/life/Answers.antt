-- The value of the word, which the step that is about to be made may change.
use Rattle.std.proofs.Common.{◌≡◌, ◌∙◌, ℕ, ap, sym, Option, Bor}
use Rattle.std.specs.Option.{option_copied}
use Rattle.steplaws.specs.Facts.{Words}
use Rattle.traces.specs.Lawful.{words_after}
use Rattle.coresteps.specs.declared.shared.Made.{Made}
use Rattle.coresteps.specs.Kept.{made_step}
use Rattle.coresteps.proofs.TableLemmas.{life_made, life_else, life_other}
use Rattle.coresteps.proofs.shared.Shared.life.Goals as goal
use Rattle.coresteps.proofs.shared.Shared.life.Goals.{in-Some+in-Life+else-changed-place, in-Some+in_default-word, in_default}

-- the word after the step
abbrev After : Words → ℕ → Option (Bor Made) → ℕ
After before place made = (words_after before (made_step (option_copied made))).life place

pub returns-then-changed-place : goal.returns-then-changed-place
returns-then-changed-place c = λ w d.
    let step = c.in-Some.made.now.step in
    sym (ap (λ (words : Words). words.life c.args.place) d.words ∙ (ap (After d.before c.args.place) c.in-Some.is
    ∙ life_made d.before step.word step.after c.in-Life.changed c.args.place c.in-Life.is c.if-changed-place.true))

pub returns : goal.returns
returns c = λ w d.
    let same : After d.before c.args.place c.args.made ≡ d.before.life c.args.place = elim c.match-made.branch [
      | in-Some+in-Life+else-changed-place v ↦
          let step = v.in-Some.made.now.step in
          ap (After d.before c.args.place) v.in-Some.is
          ∙ life_else d.before step.word step.after v.in-Life.changed c.args.place v.in-Life.is v.if-changed-place.false
      | in-Some+in_default-word v ↦
          let step = v.in-Some.made.now.step in
          ap (After d.before c.args.place) v.in-Some.is ∙ life_other d.before step.word step.after c.args.place v.in_default-word.not-Life
      | in_default v ↦ ap (After d.before c.args.place) v.in_default.is
    ] in
    c.load.ensures d.before d.table ∙ sym (ap (λ (words : Words). words.life c.args.place) d.words ∙ same)
