-- What was shown is shown still, and what is now owned shows the line that was logged.
use Rattle.std.proofs.Common.{◌∙◌, length, ap}
use Rattle.std.proofs.lemmas.Result.{IfOk-weaker}
use Rattle.std.proofs.lemmas.Option.{IfSome_then}
use Rattle.std.proofs.lemmas.List.Elements.{All-weaker}
use Rattle.relaysample.specs.Held.{IsShown}
use Rattle.relaysample.proofs.collector.Collector.own.Goals as goal

pub returns-clause-shown : goal.returns-clause-shown
returns-clause-shown g c =
    let law = c.going_law.ensures.published in
    All-weaker (IsShown c.args.self.now.lender.lane.book.seen) (IsShown c.own.new.self.lane.book.seen)
    (λ owned is. let still = law _ _ c.own.ensures.quiet.seen _ _ (law _ _ c.hear.ensures.quiet.seen _ _ is.published) in
    record { share = is.share; share_is = is.share_is; line = is.line; published = still }) _ c.requires.shown

pub returns-clause-heard : goal.returns-clause-heard
returns-clause-heard g c =
    let law = c.going_law.ensures.published in
    law _ _ c.own.ensures.quiet.seen _ _ (law _ _ c.hear.ensures.heard.0 _ _ c.into_parts-key.ensures.published)

pub returns-clause-one : goal.returns-clause-one
returns-clause-one g c =
    let heard = returns-clause-heard g c in let key = c.into_parts-key.ensures.key in
    IfOk-weaker c.own.result _ _ (λ found shows. IfSome_then found shows (λ owned is.
    let under = is.under ∙ key in let same = is.shows c.args.logged.told.content (rw key heard) in
    (under, record { share = is.share; share_is = is.share_is; line = ap length same ∙ c.args.logged.is_line; published = rw (under, same) heard })))
    c.own.ensures.shows
