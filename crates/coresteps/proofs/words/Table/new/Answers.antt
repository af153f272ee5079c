-- Each word has its first value.
use Rattle.std.proofs.Common.{◌∙◌, ℕ, ap, replicate}
use Rattle.coresteps.proofs.TableLemmas.{first_table}
use Rattle.coresteps.proofs.words.Table.new.Goals as goal

pub returns : goal.returns
returns c = first_table c.args.shape.now _
    (c.in_ok-life.ensures.items_if_clones_equal (λ y e. e) ∙ ap (λ (t : ℕ × ℕ). replicate t.0 t.1) (λ i. (c.all_places-places.ensures i, c.word.ensures i)))
    (c.in_ok-links.ensures.items_if_clones_equal (λ y e. e) ∙ ap (λ (n : ℕ). replicate n 0) c.all_places-places.ensures)
    (c.in_ok-stacks.ensures.items_if_clones_equal (λ y e. e))
