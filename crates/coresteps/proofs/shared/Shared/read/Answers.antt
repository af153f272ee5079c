use Rattle.std.proofs.Common.{ℕ, ap, ◌∙◌}
use Rattle.keybits.specs.Shapes.{is_place}
use Rattle.seqpool.specs.Pool.{pool_after}
use Rattle.traces.specs.Following.{row_content}
use Rattle.coresteps.proofs.RegisterLemmas.{read_has, read_place, read_done, read_skips}
use Rattle.coresteps.proofs.shared.Shared.read.Goals as goal

pub content-requires-clause-draft : goal.content-requires-clause-draft
content-requires-clause-draft c =
    let d = c.requires.draft in
    let has = read_has c.args.self.now.shape d.0 c.args.number c.args.lane.now d.1 d.2.kept c.requires.lane c.args.progress.now d.3
    c.args.register c.args.register.small c.slot.result c.slot.ensures c.in-Reference.key c.in-Reference.is d.5 in
    (d.0, has.0, d.2, ap (λ (place : ℕ). row_content (pool_after c.args.self.now.shape d.0.history place).phase) c.place_of.ensures.place ∙ has.1.1)

pub content-requires-clause-place : goal.content-requires-clause-place
content-requires-clause-place c =
    let d = c.requires.draft in
    ap (is_place c.args.self.now.shape) c.place_of.ensures.place
    ∙ read_place c.args.self.now.shape d.0 c.args.number c.args.lane.now d.1 d.2.kept c.requires.lane c.args.progress.now d.3
    c.args.register c.args.register.small c.slot.result c.slot.ensures c.in-Reference.key c.in-Reference.is d.5

pub returns-in_ok-content-in-Reference : goal.returns-in_ok-content-in-Reference
returns-in_ok-content-in-Reference c w more draft at over left =
    read_done c.args.self.now.shape w c.args.number c.args.lane.now more draft.kept c.requires.lane c.args.progress.now at
    c.args.register c.args.register.small c.slot.result c.slot.ensures c.in-Reference.key c.in-Reference.is left
    c.in_ok-content-in-Reference.content
    (λ text row. c.in_ok-content-in-Reference.ensures w text draft
    (ap (λ (place : ℕ). row_content (pool_after c.args.self.now.shape w.history place).phase) c.place_of.ensures.place ∙ row))

pub returns-in_default : goal.returns-in_default
returns-in_default c w more draft at over left =
    read_skips c.args.self.now.shape w c.args.number c.args.lane.now more draft.kept c.requires.lane c.args.progress.now at
    c.args.register c.args.register.small c.slot.result c.slot.ensures c.in_default.not-Reference left
