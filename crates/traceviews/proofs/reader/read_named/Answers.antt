use Rattle.std.proofs.Common.{rules, ◌≡◌, ◌∙◌, None, sym}
use Rattle.std.proofs.lemmas.Bool.{false≢true}
use Rattle.std.proofs.lemmas.Option.{MatchOption-at_none}
use Rattle.traceviews.proofs.LineRefusals.{entry-unnamed}
use Rattle.traceviews.proofs.reader.read_named.Goals as goal

pub returns-in_default : goal.returns-in_default
returns-in_default c =
    let none : c.read_name.result ≡ None = search rules in
    entry-unnamed c.args.word.now c.args.operands.now c.requires
    (λ same. absurd (false≢true (sym c.if-is_word.false ∙ c.is_word.ensures.1 same)))
    (MatchOption-at_none _ _ none c.read_name.ensures)
