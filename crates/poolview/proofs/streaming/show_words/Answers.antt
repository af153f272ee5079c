use Rattle.std.proofs.Common.{◌≡◌, false}
use Rattle.std.proofs.lemmas.Result.{IfErr-weaker, on_ok_weaker}
use Rattle.traceviews.specs.Styles.{lines_words}
use Rattle.poolview.proofs.WordLemmas.{words_shown, leaves_words}
use Rattle.poolview.proofs.streaming.show_words.Goals as goal

pub returns-clause-ok : goal.returns-clause-ok
returns-clause-ok g c =
    on_ok_weaker c.write_checked.result
    (λ d. (lines_words c.args.keys false d.0, words_shown c.args.viewing.now.file.now c.args.viewing.now.view c.args.keys c.args.bytes.now d.0 c.requires.view d.1, d.2))
    c.write_checked.ensures.ok

pub returns-clause-refused : goal.returns-clause-refused
returns-clause-refused g c =
    IfErr-weaker c.write_checked.result _ _
    (λ fault h some. leaves_words g.O.Write.contents c.args.viewing.now.view c.args.keys c.args.bytes.now fault c.args.out.now c.write_checked.new.out
    c.requires.view (h some))
    c.write_checked.ensures.refused
