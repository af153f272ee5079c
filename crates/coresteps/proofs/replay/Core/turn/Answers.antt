-- A turn of a lane that isn't finished is its next, and after it the core keeps what some turns made.
use Rattle.std.proofs.Common.{◌≡◌, ◌∙◌, ℕ, true, false, sym, subst}
use Rattle.std.specs.Prelude.{IfOk, OnErr}
use Rattle.traces.specs.Lawful.{World, is_finished}
use Rattle.coresteps.specs.declared.progress.Most.{Most}
use Rattle.coresteps.specs.Kept.{CoreState, IsCore, Turns}
use Rattle.coresteps.proofs.CoreLemmas.{empty_turns, turns_from, same_cores, still_core}
use Rattle.coresteps.proofs.replay.Core.turn.Goals as goal

pub returns-then-finished-clause-ok : goal.returns-then-finished-clause-ok
returns-then-finished-clause-ok c = λ w most k.
    empty_turns c.args.self.now w most c.args.lane c.empty.result k (sym (c.finished.ensures w most k) ∙ c.if-finished.true) c.empty.ensures

pub next_turn-requires : goal.next_turn-requires
next_turn-requires c =
    let old : CoreState = record { shared = c.self.inside.shared; lanes = c.self.inside.lanes.items } in
    let told : (w : World) (most : ℕ → Most) → IsCore w most old → c.finished.result ≡ is_finished old.shared.shape w c.args.lane =
    subst (λ (s : CoreState). (w : World) (most : ℕ → Most) → IsCore w most s → c.finished.result ≡ is_finished s.shared.shape w c.args.lane)
    (sym c.self.view_is) c.finished.ensures in
    let open_now : (w : World) (most : ℕ → Most) → IsCore w most old → is_finished old.shared.shape w c.args.lane ≡ false =
    λ w most k. sym (told w most k) ∙ c.if-finished.false in
    (c.self.invariant.0, c.self.invariant.1, c.self.invariant.2, open_now c.self.invariant.0 c.self.invariant.1 c.self.invariant.2)

pub invariant_of-self : goal.invariant_of-self
invariant_of-self c =
    let old : CoreState = record { shared = c.self.inside.shared; lanes = c.self.inside.lanes.items } in
    let told : (w : World) (most : ℕ → Most) → IsCore w most old → c.finished.result ≡ is_finished old.shared.shape w c.args.lane =
    subst (λ (s : CoreState). (w : World) (most : ℕ → Most) → IsCore w most s → c.finished.result ≡ is_finished s.shared.shape w c.args.lane)
    (sym c.self.view_is) c.finished.ensures in
    let open_now : (w : World) (most : ℕ → Most) → IsCore w most old → is_finished old.shared.shape w c.args.lane ≡ false =
    λ w most k. sym (told w most k) ∙ c.if-finished.false in
    let new : CoreState = record { shared = c.next_turn.new.shared; lanes = c.next_turn.new.lanes.items } in
    still_core old new c.args.lane c.next_turn.result c.self.invariant.0 c.self.invariant.1 c.self.invariant.2
    (open_now c.self.invariant.0 c.self.invariant.1 c.self.invariant.2) c.next_turn.ensures.ok
    (same_cores old new c.next_turn.result c.next_turn.ensures.same)

pub returns-clause-ok : goal.returns-clause-ok
returns-clause-ok c =
    let old : CoreState = record { shared = c.self.inside.shared; lanes = c.self.inside.lanes.items } in
    let told : (w : World) (most : ℕ → Most) → IsCore w most old → c.finished.result ≡ is_finished old.shared.shape w c.args.lane =
    subst (λ (s : CoreState). (w : World) (most : ℕ → Most) → IsCore w most s → c.finished.result ≡ is_finished s.shared.shape w c.args.lane)
    (sym c.self.view_is) c.finished.ensures in
    let open_now : (w : World) (most : ℕ → Most) → IsCore w most old → is_finished old.shared.shape w c.args.lane ≡ false =
    λ w most k. sym (told w most k) ∙ c.if-finished.false in
    let new : CoreState = record { shared = c.next_turn.new.shared; lanes = c.next_turn.new.lanes.items } in
    subst (λ (s : CoreState). IfOk c.next_turn.result (λ turn. (w : World) (most : ℕ → Most) → IsCore w most s → Turns s w most c.args.lane turn new))
    c.self.view_is (turns_from old new c.args.lane c.next_turn.result open_now c.next_turn.ensures.ok)

pub returns-clause-finished : goal.returns-clause-finished
returns-clause-finished c = λ w most k over.
    let bad : true ≡ false = sym over ∙ (sym (c.finished.ensures w most k) ∙ c.if-finished.false) in absurd (cc bad)

pub returns-clause-err : goal.returns-clause-err
returns-clause-err c =
    let old : CoreState = record { shared = c.self.inside.shared; lanes = c.self.inside.lanes.items } in
    let new : CoreState = record { shared = c.next_turn.new.shared; lanes = c.next_turn.new.lanes.items } in
    subst (λ (s : CoreState). OnErr c.next_turn.result ((w : World) (most : ℕ → Most) → IsCore w most s → IsCore w most new))
    c.self.view_is (same_cores old new c.next_turn.result c.next_turn.ensures.same)
