use Rattle.std.proofs.Common.{[], length, Option, ap, sym, ◌∙◌}
use Rattle.seqpool.specs.declared.act.Act.{Act}
use Rattle.coresteps.specs.declared.progress.Progress.{Progress}
use Rattle.coresteps.proofs.NoteLemmas.{made_fits, shard_fits, noted, note_tells}
use Rattle.coresteps.proofs.progress.Progress.note.Goals as goal

pub count-requires : goal.count-requires
count-requires c =
    let d = c.requires.draft in
    made_fits d.0 d.1 c.args.shape.now c.args.number d.2 c.args.self.now c.args.made.now.step c.args.made.now.act d.3 c.requires.lane d.4 d.5 d.6

pub note_push-requires-clause-count : goal.note_push-requires-clause-count
note_push-requires-clause-count c =
    ap (λ (p : Progress). length p.pushed) (c.count.ensures []) ∙ c.requires.draft.5.pushed_count

pub note_push-requires-clause-shard : goal.note_push-requires-clause-shard
note_push-requires-clause-shard c =
    let d = c.requires.draft in
    λ expected link shard lane kind on.
    shard_fits d.0 d.1 c.args.shape.now c.args.number d.2 c.args.self.now c.args.made.now.step c.args.made.now.act d.3 c.requires.lane d.4 d.5 d.6
    shard lane on

pub returns-in-Some : goal.returns-in-Some
returns-in-Some c = record {
  lane = λ shared w lane more same d l is legal at left settled.
      note_tells shared w c.args.shape.now c.args.number lane c.args.self.now c.args.made.now.step c.args.made.now.act same c.requires.lane d l is
      legal c.args.index c.args.command.now more c.count.new.self c.note_push.new.self c.note_act.new.self at settled (c.count.ensures more)
      c.note_push.ensures.others c.note_push.ensures.count c.note_push.ensures.pushed
      (c.note_act.ensures
      ∙ ap (λ (o : Option Act). noted c.args.shape.now c.args.number o c.args.index c.note_push.new.self) (sym c.in-Some.is));
}

pub returns-in_default : goal.returns-in_default
returns-in_default c = record {
  lane = λ shared w lane more same d l is legal at left settled.
      note_tells shared w c.args.shape.now c.args.number lane c.args.self.now c.args.made.now.step c.args.made.now.act same c.requires.lane d l is
      legal c.args.index c.args.command.now more c.count.new.self c.note_push.new.self c.note_push.new.self at settled (c.count.ensures more)
      c.note_push.ensures.others c.note_push.ensures.count c.note_push.ensures.pushed
      (ap (λ (o : Option Act). noted c.args.shape.now c.args.number o c.args.index c.note_push.new.self) (sym c.in_default.is));
}
