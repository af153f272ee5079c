use Rattle.std.proofs.Common.{◌≡◌, ℕ, ap, sym, ◌∙◌}
use Rattle.std.proofs.lemmas.Bool.{false≢true}
use Rattle.keybits.specs.declared.step.Step.{Step}
use Rattle.keybits.specs.declared.step.Kind.TheVariants as kinds
use Rattle.keybits.specs.Shapes.{is_place}
use Rattle.seqpool.specs.Pool.{pool_after}
use Rattle.traces.specs.Following.{row_content}
use Rattle.coresteps.proofs.RegisterLemmas.{get_full, get_unnamed, get_text, get_found, get_missing, one_last, no_last}
use Rattle.coresteps.proofs.shared.Shared.get.Goals as goal
use Rattle.coresteps.proofs.shared.Shared.get.Goals.{in-Enter, in_default-matches, in_default-last-via-in-Some-last+else-matches, in_default-last-via-in_default-last}

pub returns-in_default : goal.returns-in_default
returns-in_default c w more draft at over left =
    get_full c.args.self.now.shape w c.args.number c.args.lane.now more draft.kept c.requires.lane c.args.progress.now at
    c.args.register c.args.register.small c.slot.result c.slot.ensures c.args.operand c.in_default.not-Empty left

pub returns-in_default-operand_key : goal.returns-in_default-operand_key
returns-in_default-operand_key c w more draft at over left =
    get_unnamed c.args.self.now.shape w c.args.number c.args.lane.now more draft.kept c.requires.lane c.args.progress.now at
    c.args.register c.args.register.small c.slot.result c.slot.ensures c.args.operand c.in-Empty.is
    (sym (c.in_default-operand_key.ensures c.args.lane.now.script (w.books c.args.number) at.slots)) left

-- the last step is an ENTER
enters : (c : goal.After-place_of) → c.in-Some-last.step.kind ≡ kinds.Enter
enters c = elim c.match-matches.branch [
  | in-Enter w ↦ w.in-Enter.is
  | in_default-matches w ↦ absurd (false≢true (sym w.matches-is ∙ c.if-matches.true))
]

pub content-requires-clause-draft : goal.content-requires-clause-draft
content-requires-clause-draft c =
    let d = c.requires.draft in
    let text = get_text c.args.self.now.shape d.0 c.args.number c.args.lane.now d.1 d.2.kept c.requires.lane c.args.progress.now d.3
    c.args.register c.args.register.small c.slot.result c.slot.ensures c.args.operand c.in-Some.key c.in-Empty.is
    (sym (c.in-Some.ensures c.args.lane.now.script (d.0.books c.args.number) d.3.slots)) d.5 d.4 c.in-Some-last.step c.in-Some-last.is (enters c) in
    (d.0, text.0, d.2, ap (λ (place : ℕ). row_content (pool_after c.args.self.now.shape d.0.history place).phase) c.place_of.ensures.place ∙ text.3)

pub content-requires-clause-place : goal.content-requires-clause-place
content-requires-clause-place c =
    let d = c.requires.draft in
    let text = get_text c.args.self.now.shape d.0 c.args.number c.args.lane.now d.1 d.2.kept c.requires.lane c.args.progress.now d.3
    c.args.register c.args.register.small c.slot.result c.slot.ensures c.args.operand c.in-Some.key c.in-Empty.is
    (sym (c.in-Some.ensures c.args.lane.now.script (d.0.books c.args.number) d.3.slots)) d.5 d.4 c.in-Some-last.step c.in-Some-last.is (enters c) in
    ap (is_place c.args.self.now.shape) c.place_of.ensures.place ∙ text.2

pub returns-in_ok-content-in-Some-last : goal.returns-in_ok-content-in-Some-last
returns-in_ok-content-in-Some-last c w more draft at over left = elim c.match-matches.branch [
  | in-Enter v ↦ get_found c.args.self.now.shape w c.args.number c.args.lane.now more draft.kept c.requires.lane c.args.progress.now at
      c.args.register c.args.register.small c.slot.result c.slot.ensures c.args.operand c.in-Some.key c.in-Empty.is
      (sym (c.in-Some.ensures c.args.lane.now.script (w.books c.args.number) at.slots)) left over c.in-Some-last.step c.in-Some-last.is v.in-Enter.is
      c.in_ok-content-in-Some-last.content
      (λ text row. c.in_ok-content-in-Some-last.ensures w text draft
      (ap (λ (place : ℕ). row_content (pool_after c.args.self.now.shape w.history place).phase) c.place_of.ensures.place ∙ row))
      c.set_slot.new.self c.set_slot.ensures
  | in_default-matches v ↦ absurd (false≢true (sym v.matches-is ∙ c.if-matches.true))
]

pub returns-in_default-last : goal.returns-in_default-last
returns-in_default-last c w more draft at over left =
    get_missing c.args.self.now.shape w c.args.number c.args.lane.now more draft.kept c.requires.lane c.args.progress.now at
    c.args.register c.args.register.small c.slot.result c.slot.ensures c.args.operand c.in-Some.key c.in-Empty.is
    (sym (c.in-Some.ensures c.args.lane.now.script (w.books c.args.number) at.slots)) left over
    (λ step last enters. elim c.in_default-last.branch [
      | in_default-last-via-in-Some-last+else-matches v ↦ elim v.match-matches.branch [
        | in-Enter u ↦ false≢true (sym v.if-matches.false ∙ u.matches-is)
        | in_default-matches u ↦ u.in_default-matches.not-Enter (ap (λ (s : Step). s.kind) (one_last v.in-Some-last.is last) ∙ enters)
      ]
      | in_default-last-via-in_default-last v ↦ no_last v.in_default-last.is last
    ])
