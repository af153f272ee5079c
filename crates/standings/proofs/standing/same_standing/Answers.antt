use Rattle.std.proofs.Common.{◌≡◌, ◌∙◌, ◌<◌, ◌^◌, true, false, sym, arith}
use Rattle.standings.proofs.StandingLemmas.{same_behind}
use Rattle.standings.proofs.standing.same_standing.Goals as goal
use Rattle.standings.proofs.standing.same_standing.Goals.{then-same_words, else-same_words}

pub returns-then-same_contents : goal.returns-then-same_contents
returns-then-same_contents c = λ is. elim c.if-same_words.branch [
  | then-same_words w ↦
      let wide : c.args.shape.last_generation < 2 ^ 32 = omega arith in
      same_behind c.args.shape c.args.turns.now c.args.others.now c.requires.shape wide c.requires.alone
      (c.same_words.ensures w.if-same_words.true) (w.same_contents.ensures (sym w.value-is ∙ c.if-same_contents.true)) (c.same_lanes.ensures is)
  | else-same_words w ↦ let bad : false ≡ true = sym w.if-same_words.false ∙ (sym w.value-is ∙ c.if-same_contents.true) in cc bad
]
