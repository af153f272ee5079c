-- Each kind of step of a call makes one act.
use Rattle.std.proofs.Common.{◌≡◌, ℕ, ⊎_elim, refl, sym, ◌∙◌, subst}
use Rattle.std.proofs.lemmas.Result.{IfOk-weaker}
use Rattle.keybits.specs.declared.step.Kind.TheVariants as kinds
use Rattle.steplaws.specs.Facts.{Words}
use Rattle.traces.specs.Books.{caller}
use Rattle.coresteps.specs.Kept.{IsTable}
use Rattle.coresteps.proofs.StepLemmas.{going, claim_made, claim_facts}
use Rattle.coresteps.proofs.shared.Shared.act_of_call.Goals as goal

pub act_of_enter-requires : goal.act_of_enter-requires
act_of_enter-requires c =
    let r = c.requires.draft in
    let z = c.args.self.now.shape in
    let g = going z r.0 c.args.number c.args.lane.now.script c.args.done c.args.call c.args.step r.1 r.3 r.4 in
    record { draft = (r.0, g.called, r.1, caller z c.args.number (r.0.books c.args.number), c.args.lane.now.script, c.args.done, r.0.books c.args.number, r.2, g.is, g.makes kinds.Enter c.in-Enter.is, r.5) }

pub act_of_claim-requires-clause-claim : goal.act_of_claim-requires-clause-claim
act_of_claim-requires-clause-claim c = λ hit.
    let r = c.requires.draft in
    let z = c.args.self.now.shape in
    let g = going z r.0 c.args.number c.args.lane.now.script c.args.done c.args.call c.args.step r.1 r.3 r.4 in
    let f = claim_facts z r.0 c.args.number c.args.lane.now.script c.args.done c.args.call c.args.step r.1 g c.in-Claim.generation c.in-Claim.is r.5 hit in
    (g.called, c.args.lane.now.script, c.args.done, r.0.books c.args.number, g.is, f.0, f.1)

pub act_of_take-requires-clause-take : goal.act_of_take-requires-clause-take
act_of_take-requires-clause-take c =
    let r = c.requires.draft in
    let z = c.args.self.now.shape in
    let g = going z r.0 c.args.number c.args.lane.now.script c.args.done c.args.call c.args.step r.1 r.3 r.4 in (
      r.0.words,
      caller z c.args.number (r.0.books c.args.number),
      r.1,
      r.0.history,
      subst (λ (words : Words). IsTable z words c.args.self.now.words) (sym r.2.words) r.2.table,
      g.makes kinds.Take c.in-Take.is,
      refl,
      r.5,
    )

pub returns-in-Enter : goal.returns-in-Enter
returns-in-Enter c = IfOk-weaker c.act_of_enter.result _ _ (λ made f w act draft call step legal.
    let z = c.args.self.now.shape in
    let g = going z w c.args.number c.args.lane.now.script c.args.done c.args.call c.args.step act call step in
    f w g.called act (caller z c.args.number (w.books c.args.number)) c.args.lane.now.script c.args.done (w.books c.args.number) draft g.is
    (g.makes kinds.Enter c.in-Enter.is) refl legal) c.act_of_enter.ensures

pub returns-in-Leave : goal.returns-in-Leave
returns-in-Leave c = λ w act draft call step legal.
    let z = c.args.self.now.shape in
    let g = going z w c.args.number c.args.lane.now.script c.args.done c.args.call c.args.step act call step in
    c.act_of_leave.ensures g.called act (caller z c.args.number (w.books c.args.number)) c.args.lane.now.script c.args.done (w.books c.args.number) g.is
    (g.makes kinds.Leave c.in-Leave.is) refl

pub returns-in-Publish : goal.returns-in-Publish
returns-in-Publish c = IfOk-weaker c.act_of_publish.result _ _ (λ made f w act draft call step legal.
    let z = c.args.self.now.shape in
    let g = going z w c.args.number c.args.lane.now.script c.args.done c.args.call c.args.step act call step in
    f g.called act (caller z c.args.number (w.books c.args.number)) (w.books c.args.number) g.is
    (g.makes (kinds.Publish c.in-Publish.with_ref) c.in-Publish.is) refl) c.act_of_publish.ensures

pub returns-in-Mark : goal.returns-in-Mark
returns-in-Mark c = λ w act draft call step legal.
    let z = c.args.self.now.shape in
    let g = going z w c.args.number c.args.lane.now.script c.args.done c.args.call c.args.step act call step in
    c.act_of_mark.ensures g.called act (caller z c.args.number (w.books c.args.number)) c.args.lane.now.script c.args.done (w.books c.args.number) g.is
    (g.makes kinds.Mark c.in-Mark.is) refl

pub returns-in-Claim : goal.returns-in-Claim
returns-in-Claim c = λ w act draft call step legal.
    let z = c.args.self.now.shape in
    let g = going z w c.args.number c.args.lane.now.script c.args.done c.args.call c.args.step act call step in
    c.act_of_claim.ensures g.called c.args.lane.now.script c.args.done (w.books c.args.number) g.is
    ∙ sym (claim_made z w c.args.number c.args.lane.now.script c.args.done c.args.call c.args.step act g c.in-Claim.generation c.in-Claim.is)

pub returns-in-Take : goal.returns-in-Take
returns-in-Take c = IfOk-weaker c.act_of_take.result _ _ (λ made f w act draft call step legal.
    let z = c.args.self.now.shape in
    let g = going z w c.args.number c.args.lane.now.script c.args.done c.args.call c.args.step act call step in
    f w.words (caller z c.args.number (w.books c.args.number)) act
    (subst (λ (words : Words). IsTable z words c.args.self.now.words) (sym draft.words) draft.table) (g.makes kinds.Take c.in-Take.is) refl) c.act_of_take.ensures

pub returns-in-Link : goal.returns-in-Link
returns-in-Link c = λ w act draft call step legal.
    let z = c.args.self.now.shape in
    let g = going z w c.args.number c.args.lane.now.script c.args.done c.args.call c.args.step act call step in
    ⊎_elim
    (λ (is : (expected : ℕ) × (c.args.step.kind ≡ kinds.Link expected)). sym (g.makes (kinds.Link is.0) is.1))
    (λ (is : c.args.step.kind ≡ kinds.Follow). sym (g.makes kinds.Follow is)) c.in-Link.is
