use Rattle.std.proofs.Common.{◌∙◌, ℕ, List, ◌++◌, decimal, codes, string_bytes, refl, sym, ap, subst}
use Rattle.std.proofs.lemmas.Result.{on_ok_weaker}
use Rattle.seqpool.specs.declared.act.Act.{Act}
use Rattle.seqpool.specs.declared.act.Act.TheVariants.{Publish, Get, Release, Clear, Reclaim, Home, Collect}
use Rattle.seqpool.specs.ActsText.{IsWritten}
use Rattle.seqpool.specs.ReadTexts.{spaced}
use Rattle.seqpool.proofs.ActTexts.{act_line-parts}
use Rattle.seqpool.proofs.acts_text.write_act.Goals as goal

pub returns-in-Publish : goal.returns-in-Publish
returns-in-Publish c =
    let act : Act = Publish c.in-Publish.lane c.in-Publish.key c.in-Publish.content c.in-Publish.with_ref in
    on_ok_weaker c.write_publish.result (λ wrote. (act, subst (λ (a : Act). IsWritten a act) (sym c.in-Publish.is) refl, wrote)) c.write_publish.ensures

pub returns-in-Get : goal.returns-in-Get
returns-in-Get c =
    let act : Act = Get c.in-Get.lane c.in-Get.key c.in-Get.reply in
    on_ok_weaker c.write_get.result (λ wrote. (act, subst (λ (a : Act). IsWritten a act) (sym c.in-Get.is) refl, wrote)) c.write_get.ensures

pub returns-in-Release : goal.returns-in-Release
returns-in-Release c =
    let act : Act = Release c.in-Release.lane c.in-Release.key in
    on_ok_weaker c.write_short.result
    (λ wrote. (
      act,
      subst (λ (a : Act). IsWritten a act) (sym c.in-Release.is) refl,
      wrote ∙ ap (λ (xs : List ℕ). string_bytes c.args.text.now ++ (xs ++ codes "\n")) (sym (act_line-parts act)),
    ))
    c.write_short.ensures

pub returns-in-Clear : goal.returns-in-Clear
returns-in-Clear c =
    let act : Act = Clear c.in-Clear.lane c.in-Clear.key c.in-Clear.reply in
    on_ok_weaker c.write_clear.result (λ wrote. (act, subst (λ (a : Act). IsWritten a act) (sym c.in-Clear.is) refl, wrote)) c.write_clear.ensures

pub returns-in-Reclaim : goal.returns-in-Reclaim
returns-in-Reclaim c =
    let act : Act = Reclaim c.in-Reclaim.lane c.in-Reclaim.key in
    on_ok_weaker c.write_short-in-Reclaim.result
    (λ wrote. (
      act,
      subst (λ (a : Act). IsWritten a act) (sym c.in-Reclaim.is) refl,
      wrote ∙ ap (λ (xs : List ℕ). string_bytes c.args.text.now ++ (xs ++ codes "\n")) (sym (act_line-parts act)),
    ))
    c.write_short-in-Reclaim.ensures

pub returns-in-Home : goal.returns-in-Home
returns-in-Home c =
    let act : Act = Home c.in-Home.lane c.in-Home.place in
    let line : ℕ → List ℕ = λ place. spaced (decimal c.in-Home.lane) (spaced (codes "home") (decimal place)) in
    on_ok_weaker c.write_short-in-Home.result
    (λ wrote. (
      act,
      subst (λ (a : Act). IsWritten a act) (sym c.in-Home.is) refl,
      wrote ∙ ap (λ (xs : List ℕ). string_bytes c.args.text.now ++ (xs ++ codes "\n")) (ap line c.from.ensures ∙ sym (act_line-parts act)),
    ))
    c.write_short-in-Home.ensures

pub returns-in-Collect : goal.returns-in-Collect
returns-in-Collect c =
    on_ok_weaker c.write_risen.result
    (λ wrote. (
      Collect c.in-Collect.lane wrote.0,
      subst (λ (a : Act). IsWritten a (Collect c.in-Collect.lane wrote.0)) (sym c.in-Collect.is) (wrote.0, wrote.1, wrote.2, refl),
      wrote.3,
    ))
    c.write_risen.ensures
