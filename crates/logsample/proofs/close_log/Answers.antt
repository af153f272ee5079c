use Rattle.std.proofs.lemmas.Result.{IfOk-weaker}
use Rattle.logsample.proofs.close_log.Goals as goal

pub returns : goal.returns
returns c = record {
  settled = IfOk-weaker c.close.result _ _
      (λ census known. (
        known.0,
        known.1,
        record {
          closes = known.2;
          all = c.close_law.ensures.last c.args.opened.pool known.0 census known.2;
          settled = c.close_law.ensures.counted c.args.opened.pool known.0 census known.3 known.2;
          none_left = c.close_law.ensures.none_left c.args.opened.pool known.0 census known.3 known.2;
        },
      )) c.close.ensures.closes;
}
