-- A get that hits shows the content of its place.
use Rattle.std.proofs.Common.{ℕ, List, ◌≡◌, Option, Some, ap, sym, ◌∙◌}
use Rattle.keybits.specs.Shapes.{is_place}
use Rattle.seqpool.specs.declared.act.Act.TheVariants as acts
use Rattle.seqpool.specs.Pool.{pool_after}
use Rattle.traces.specs.Following.{row_content}
use Rattle.coresteps.proofs.StepLemmas.{enter_hits, enter_misses}
use Rattle.coresteps.proofs.shared.Shared.act_of_enter.Goals as goal
use Rattle.coresteps.proofs.shared.Shared.act_of_enter.Goals.{then-is_hit+in_ok-content-in-Get, else-is_hit}

pub content-requires-clause-draft : goal.content-requires-clause-draft
content-requires-clause-draft c =
    let r = c.requires.draft in
    let s = enter_hits c.args.self.now.shape r.0.history r.3 r.1 r.2 r.4 r.5 r.6 c.args.before c.args.call c.in-Get.key c.in-Get.is r.8 r.9 r.10
    (sym c.is_hit.ensures ∙ c.if-is_hit.true) in
    (r.0, s.text, r.7, ap (λ (p : ℕ). row_content (pool_after c.args.self.now.shape r.0.history p).phase) c.place_of.ensures.place ∙ s.row)

pub content-requires-clause-place : goal.content-requires-clause-place
content-requires-clause-place c =
    let r = c.requires.draft in
    let s = enter_hits c.args.self.now.shape r.0.history r.3 r.1 r.2 r.4 r.5 r.6 c.args.before c.args.call c.in-Get.key c.in-Get.is r.8 r.9 r.10
    (sym c.is_hit.ensures ∙ c.if-is_hit.true) in
    ap (is_place c.args.self.now.shape) c.place_of.ensures.place ∙ s.inside

pub returns-after-is_hit : goal.returns-after-is_hit
returns-after-is_hit c = λ w called act caller script done b draft is makes lane legal.
    elim c.if-is_hit.branch [
      | then-is_hit+in_ok-content-in-Get x ↦
          let s = enter_hits c.args.self.now.shape w.history caller called act script done b c.args.before c.args.call c.in-Get.key c.in-Get.is is makes legal
          (sym c.is_hit.ensures ∙ x.if-is_hit.true) in
          let same : x.in_ok-content-in-Get.field-0 ≡ s.text = x.in_ok-content-in-Get.ensures w s.text draft
          (ap (λ (p : ℕ). row_content (pool_after c.args.self.now.shape w.history p).phase) x.place_of.ensures.place ∙ s.row) in
          ap (λ (t : ℕ × Option (List ℕ)). Some (acts.Get t.0 c.in-Get.key t.1)) (λ i. (sym lane i, (x.reply-is ∙ ap Some same) i)) ∙ sym s.is
      | else-is_hit x ↦
          ap (λ (t : ℕ × Option (List ℕ)). Some (acts.Get t.0 c.in-Get.key t.1)) (λ i. (sym lane i, x.reply-is i))
          ∙ sym (enter_misses c.args.self.now.shape w.history caller called act script done b c.args.before c.args.call c.in-Get.key c.in-Get.is is makes
          (sym c.is_hit.ensures ∙ x.if-is_hit.false))
    ]
