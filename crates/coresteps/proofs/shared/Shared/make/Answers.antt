-- The step that exists is the one that is made.
use Rattle.std.proofs.Common.{◌≡◌, ℕ, ◌++◌, Option, sym, ◌∙◌, subst, arith}
use Rattle.keybits.specs.Steps.{Changes}
use Rattle.steplaws.specs.Facts.{Words, value_of}
use Rattle.steplaws.specs.StepLaws.{CountFits}
use Rattle.seqpool.specs.declared.act.Act.{Act}
use Rattle.seqpool.specs.Pool.{IsLegal}
use Rattle.traces.specs.Books.{act_list}
use Rattle.traces.specs.Lawful.{IsStep}
use Rattle.traces.proofs.NextSteps.{step_exists}
use Rattle.coresteps.specs.Lanes.{aim_of}
use Rattle.coresteps.specs.Kept.{IsTable}
use Rattle.coresteps.proofs.StepLemmas.{word_inside, claim_within, step_with}
use Rattle.coresteps.proofs.shared.Shared.make.Goals as goal

pub load-before-requires-clause-inside : goal.load-before-requires-clause-inside
load-before-requires-clause-inside c =
    let r = c.requires.draft in
    word_inside c.args.self.now.shape r.0 c.args.number (aim_of c.args.aim) r.1.kept c.requires.lane r.3

pub word_after-after-requires-clause-changes : goal.word_after-after-requires-clause-changes
word_after-after-requires-clause-changes c =
    let r = c.requires.draft in
    let z = c.args.self.now.shape in
    let s = step_exists z r.0 c.args.number (aim_of c.args.aim) r.1.kept.holds c.requires.lane r.3 in
    let at : c.load-before.result ≡ value_of r.0.words c.args.aim.word
    = c.load-before.ensures r.0.words (subst (λ (words : Words). IsTable z words c.args.self.now.words) (sym r.1.words) r.1.table) in
    (s.0, subst (λ (n : ℕ). Changes z.last_generation c.args.aim.kind n s.0) (sym at) s.2.changes)

pub word_after-after-requires-clause-room : goal.word_after-after-requires-clause-room
word_after-after-requires-clause-room c =
    let r = c.requires.draft in
    let z = c.args.self.now.shape in
    let s = step_exists z r.0 c.args.number (aim_of c.args.aim) r.1.kept.holds c.requires.lane r.3 in
    let at : c.load-before.result ≡ value_of r.0.words c.args.aim.word
    = c.load-before.ensures r.0.words (subst (λ (words : Words). IsTable z words c.args.self.now.words) (sym r.1.words) r.1.table) in
    subst (CountFits c.args.aim.kind) (sym at) s.3

pub word_after-after-requires-clause-claim : goal.word_after-after-requires-clause-claim
word_after-after-requires-clause-claim c = λ generation kind found.
    let r = c.requires.draft in
    let z = c.args.self.now.shape in
    let s = step_exists z r.0 c.args.number (aim_of c.args.aim) r.1.kept.holds c.requires.lane r.3 in
    let at : c.load-before.result ≡ value_of r.0.words c.args.aim.word
    = c.load-before.ensures r.0.words (subst (λ (words : Words). IsTable z words c.args.self.now.words) (sym r.1.words) r.1.table) in
    let whole = c.load-before.type_inv in
    claim_within z r.0 c.args.number (record { kind = c.args.aim.kind; word = c.args.aim.word; before = value_of r.0.words c.args.aim.word; after = s.0 })
    s.1 generation r.1.kept c.requires.lane s.2 s.4 kind (sym at ∙ found) (omega arith)

pub act_of-requires-clause-draft : goal.act_of-requires-clause-draft
act_of-requires-clause-draft c =
    let r = c.requires.draft in
    let z = c.args.self.now.shape in
    let s = step_exists z r.0 c.args.number (aim_of c.args.aim) r.1.kept.holds c.requires.lane r.3 in
    let at : c.load-before.result ≡ value_of r.0.words c.args.aim.word
    = c.load-before.ensures r.0.words (subst (λ (words : Words). IsTable z words c.args.self.now.words) (sym r.1.words) r.1.table) in (
      r.0,
      s.1,
      r.1,
      r.2,
      step_with z r.0 c.args.number (aim_of c.args.aim) s.0 c.load-before.result c.word_after-after.result s.1 s.2 at c.word_after-after.ensures,
      s.4,
    )

pub returns : goal.returns
returns c = λ w draft lane next.
    let z = c.args.self.now.shape in
    let s = step_exists z w c.args.number (aim_of c.args.aim) draft.kept.holds c.requires.lane next in
    let at : c.load-before.result ≡ value_of w.words c.args.aim.word
    = c.load-before.ensures w.words (subst (λ (words : Words). IsTable z words c.args.self.now.words) (sym draft.words) draft.table) in
    let is = step_with z w c.args.number (aim_of c.args.aim) s.0 c.load-before.result c.word_after-after.result s.1 s.2 at c.word_after-after.ensures in
    let same : c.in_ok-act.act ≡ s.1 = c.in_ok-act.ensures w s.1 draft lane is s.4 in (
      subst (λ (o : Option Act). IsStep z c.args.number w.words (w.books c.args.number)
          (record { kind = c.args.aim.kind; word = c.args.aim.word; before = c.load-before.result; after = c.word_after-after.result }) o) (sym same) is,
      subst (λ (o : Option Act). IsLegal z (w.history ++ act_list o)) (sym same) s.4,
    )
