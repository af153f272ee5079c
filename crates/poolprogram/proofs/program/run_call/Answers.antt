use Rattle.std.proofs.Common.{◌≡◌, ◌∙◌, ℕ, Bool, List, Option, IfOk, IfErr, String, map, codes, string_bytes, ap, subst}
use Rattle.std.specs.declared.alloc.Global.{Global}
use Rattle.commandline.specs.CommandLines.{AreWordsOf}
use Rattle.commandline.specs.Hints.{Hints, hint_text, is_due, is_hinted, word_of}
use Rattle.commandline.specs.Mistakes.{RefusesWords, IsExplained}
use Rattle.commandline.specs.Readings.{text_of}
use Rattle.commandline.specs.Wishes.{command_in, is_wanted}
use Rattle.poolprogram.specs.Program.{asked_path, EndsRequest}
use Rattle.poolprogram.proofs.program.run_call.Goals as goal

pub returns : goal.returns
returns g c =
    let errors = g.E.Write.contents in
    let contents = g.O.Write.contents in
    let left = g.I.Read.remaining c.args.input.now in
    let same = c.as_slice.ensures.value in
    let asked = c.read_request-task in
    let task = asked.result.task in
    let flag = asked.result.explain in
    let hints = c.args.hints in
    let wanted = is_wanted c.args.call.now.wish flag hints in
    let ends = c.run_request-ending in
    let status = ends.result.status in
    let middle = ends.new.errors in
    let after = c.hint.new.out in
    let words = map string_bytes c.args.call.now.words.items in
    let command = command_in words in
    let told : c.is_hinted-hinted.result ≡ is_hinted hints (is_due task) wanted status =
    c.is_hinted-hinted.ensures
    ∙ ap (λ (due : Bool). is_hinted hints due c.is_wanted-explain.result status) c.is_due-due.ensures
    ∙ ap (λ (explain : Bool). is_hinted hints (is_due task) explain status) c.is_wanted-explain.ensures in
    let hinted = is_hinted hints (is_due task) wanted status in
    let name = text_of c.command.result in
    let path = text_of c.word_of-file.result in
    let at : path ≡ word_of words (asked_path task) =
    c.word_of-file.ensures
    ∙ ap (λ (row : List (String Global)). word_of (map string_bytes row) (text_of c.task_path.result)) c.as_slice-2.ensures.value
    ∙ ap (λ (asked : Option (List ℕ)). word_of words asked) c.task_path.ensures in
    let first : Hints errors hinted (hint_text (codes "poolrun") name path) middle after =
    subst (λ (is : Bool). Hints errors is (hint_text (codes "poolrun") name path) middle after) told c.hint.ensures in
    let second : Hints errors hinted (hint_text (codes "poolrun") command path) middle after =
    subst (λ (named : Option (List ℕ)). Hints errors hinted (hint_text (codes "poolrun") named path) middle after) c.command.ensures first in
    let last : Hints errors hinted (hint_text (codes "poolrun") command (word_of words (asked_path task))) middle after =
    subst (λ (file : Option (List ℕ)). Hints errors hinted (hint_text (codes "poolrun") command file) middle after) at second in record {
      task = task;
      flag = flag;
      asked = subst (λ (row : List (String Global)). IfOk task (AreWordsOf (map string_bytes row))) same asked.ensures.ok;
      refused = subst (λ (row : List (String Global)). IfErr task (RefusesWords (map string_bytes row))) same asked.ensures.err;
      flagged = subst (λ (row : List (String Global)). IsExplained (map string_bytes row) flag task) same asked.ensures.explain;
      middle = middle;
      ends = subst (λ (explain : Bool). EndsRequest contents errors left task explain c.args.out.now ends.new.out c.args.errors.now middle ends.result) c.is_wanted-explain.ensures ends.ensures;
      hinted = last;
    }
