use Rattle.std.proofs.Common.{◌≡◌, ◌∙◌, ℕ, Bool, List, Option, IfOk, IfErr, String, map, codes, string_bytes, ap, subst}
use Rattle.std.specs.declared.alloc.Global.{Global}
use Rattle.commandline.specs.Hints.{Hints, hint_text, is_due, is_hinted}
use Rattle.commandline.specs.Readings.{text_of}
use Rattle.commandline.specs.ViewLines.{AreViewWordsOf}
use Rattle.commandline.specs.ViewMistakes.{RefusesViewWords, IsViewExplained}
use Rattle.commandline.specs.Wishes.{command_in, is_wanted}
use Rattle.poolview.specs.Endings.{file_of, EndsAsked}
use Rattle.poolview.proofs.viewing.end_by_call.Goals as goal

pub returns : goal.returns
returns g c =
    let errors = g.E.Write.contents in
    let contents = g.O.Write.contents in
    let left = g.I.Read.remaining c.args.input.now in
    let same = c.as_slice.ensures.value in
    let asked = c.read_viewing-viewing in
    let viewing = asked.result.viewing in
    let flag = asked.result.explain in
    let hints = c.args.hints in
    let wanted = is_wanted c.args.call.now.wish flag hints in
    let ends = c.end_by_viewing-status in
    let status = ends.result in
    let middle = ends.new.errors in
    let after = c.hint.new.out in
    let command = command_in (map string_bytes c.args.call.now.words.items) in
    let told : c.is_hinted-hinted.result ≡ is_hinted hints (is_due viewing) wanted status =
    c.is_hinted-hinted.ensures
    ∙ ap (λ (due : Bool). is_hinted hints due c.is_wanted-explain.result status) c.is_due-due.ensures
    ∙ ap (λ (explain : Bool). is_hinted hints (is_due viewing) explain status) c.is_wanted-explain.ensures in
    let hinted = is_hinted hints (is_due viewing) wanted status in
    let name = text_of c.command.result in
    let path = text_of c.file_of-file.result in
    let first : Hints errors hinted (hint_text (codes "poolview") name path) middle after =
    subst (λ (is : Bool). Hints errors is (hint_text (codes "poolview") name path) middle after) told c.hint.ensures in
    let second : Hints errors hinted (hint_text (codes "poolview") command path) middle after =
    subst (λ (named : Option (List ℕ)). Hints errors hinted (hint_text (codes "poolview") named path) middle after) c.command.ensures first in
    let last : Hints errors hinted (hint_text (codes "poolview") command (file_of viewing)) middle after =
    subst (λ (file : Option (List ℕ)). Hints errors hinted (hint_text (codes "poolview") command file) middle after) c.file_of-file.ensures second in record {
      viewing = viewing;
      flag = flag;
      asked = subst (λ (words : List (String Global)). IfOk viewing (AreViewWordsOf (map string_bytes words))) same asked.ensures.ok;
      refused = subst (λ (words : List (String Global)). IfErr viewing (RefusesViewWords (map string_bytes words))) same asked.ensures.err;
      flagged = subst (λ (words : List (String Global)). IsViewExplained (map string_bytes words) flag viewing) same asked.ensures.explain;
      middle = middle;
      ends = subst (λ (explain : Bool). EndsAsked contents errors explain left viewing c.args.out.now ends.new.out c.args.errors.now middle status) c.is_wanted-explain.ensures ends.ensures;
      hinted = last;
    }
