-- Each call over the hand is that of the lane.
use Rattle.std.proofs.Common.{ℕ, sym, ap, ◌∙◌, subst}
use Rattle.keybits.specs.declared.shape.Shape.{Shape}
use Rattle.steplaws.specs.Calls.{Call}
use Rattle.steplaws.specs.Calls.Call.{Releasing}
use Rattle.shardpool.specs.Halted.{CalledWithin}
use Rattle.shardpool.specs.declared.halt.LastCall.{LastCall}
use Rattle.shardpool.specs.declared.halt.LastCall.TheVariants.{Get, Clear, Release, Create}
use Rattle.shardpool.specs.Creates.{creating}
use Rattle.shardpool.specs.Halts.{HaltedOf, HaltsIn}
use Rattle.shardpool.specs.LaneStates.{Fits}
use Rattle.shardpool.proofs.calls.Halts.{halts-by}
use Rattle.shardpool.proofs.pool.Pool.halt.Goals.{in-Get, in-Clear, in-Release, in-Create}
use Rattle.shardpool.proofs.pool.Pool.halt.Goals as goal

pub returns-clause-same : goal.returns-clause-same
returns-clause-same g c =
    let table = ap (λ l. l.table) c.lane.view_is in
    let shape = ap (λ l. l.shape) c.lane.view_is in
    let number = ap (λ l. l.number) c.lane.view_is in elim c.match-call.branch [
      | in-Get w ↦
          (ap (λ h. h.table_id) w.hand-is ∙ (w.halt_get.ensures.table ∙ table), ap (λ s. s.shape) w.state-is ∙ shape, ap (λ s. s.number) w.state-is ∙ number)
      | in-Clear w ↦
          (ap (λ h. h.table_id) w.hand-is ∙ (w.halt_clear.ensures.table ∙ table), ap (λ s. s.shape) w.state-is ∙ shape, ap (λ s. s.number) w.state-is ∙ number)
      | in-Release w ↦ (
        ap (λ h. h.table_id) w.hand-is ∙ (w.halt_release.ensures.table ∙ table),
        ap (λ s. s.shape) w.state-is ∙ (ap (λ s. s.shape) w.halt_release.ensures.state ∙ shape),
        ap (λ s. s.number) w.state-is ∙ (ap (λ s. s.number) w.halt_release.ensures.state ∙ number),
      )
      | in-Create w ↦
          (ap (λ h. h.table_id) w.hand-is ∙ (w.halt_create.ensures.table ∙ table), ap (λ s. s.shape) w.state-is ∙ shape, ap (λ s. s.number) w.state-is ∙ number)
    ]

pub returns-clause-halts : goal.returns-clause-halts
returns-clause-halts g c =
    let lane = c.args.lane in
    let z = c.args.self.now.shape in
    let limit : ℕ = c.args.limit in
    let last = c.match-call.hand.me.0 in
    let halted : HaltedOf = record { table = c.match-call.hand.table_id; shape = c.match-call.state.shape; number = c.match-call.state.number; book = last } in
    let before = ap (λ l. l.book) c.lane.view_is in
    let shape = c.requires.owns.1 in elim c.match-call.branch [
      | in-Get w ↦
          subst (λ (call : LastCall g.row.T.Denot). HaltsIn lane call limit halted) (sym w.in-Get.is)
          (halts-by shape before (ap (λ h. h.me.0) w.hand-is) (Get w.in-Get.key) w.halt_get.ensures.outside w.halt_get.ensures.called)
      | in-Clear w ↦
          subst (λ (call : LastCall g.row.T.Denot). HaltsIn lane call limit halted) (sym w.in-Clear.is)
          (halts-by shape before (ap (λ h. h.me.0) w.hand-is) (Clear w.in-Clear.key) w.halt_clear.ensures.outside w.halt_clear.ensures.called)
      | in-Release w ↦
          subst (λ (call : LastCall g.row.T.Denot). HaltsIn lane call limit halted) (sym w.in-Release.is)
          (halts-by shape before (ap (λ h. h.me.0) w.hand-is) (Release w.in-Release.reference) (λ none. absurd none)
          (subst (λ (key : ℕ). CalledWithin z (Releasing key) limit c.lane.inside.hand.me w.halt_release.new.hand.me) w.spend.ensures w.halt_release.ensures.called))
      | in-Create w ↦
          subst (λ (call : LastCall g.row.T.Denot). HaltsIn lane call limit halted) (sym w.in-Create.is)
          (halts-by shape before (ap (λ h. h.me.0) w.hand-is) Create (λ none. absurd none)
          (subst (λ (call : Call). CalledWithin z call limit c.lane.inside.hand.me w.halt_create.new.hand.me) (ap creating c.lane.view_is) w.halt_create.ensures.called))
    ]

-- ---- the hand and the state are the lane's

pub halt_get-requires-clause-parts : goal.halt_get-requires-clause-parts
halt_get-requires-clause-parts g c =
    record {
      table = ap (λ l. l.table) c.lane.view_is ∙ c.requires.owns.0;
      directory = ap (λ l. l.directory) c.lane.view_is ∙ c.requires.owns.2;
      bare = c.lane.invariant.0;
      fits = subst (λ (z : Shape). Fits g.T.Clear.content g.T.Clear.room z c.lane.inside.hand.me.0 c.lane.inside.state) (ap (λ l. l.shape) c.lane.view_is ∙ c.requires.owns.1) c.lane.invariant.1;
    }

pub halt_clear-requires : goal.halt_clear-requires
halt_clear-requires g c = record {
  parts = record {
    table = ap (λ l. l.table) c.lane.view_is ∙ c.requires.owns.0;
    directory = ap (λ l. l.directory) c.lane.view_is ∙ c.requires.owns.2;
    bare = c.lane.invariant.0;
    fits = subst (λ (z : Shape). Fits g.T.Clear.content g.T.Clear.room z c.lane.inside.hand.me.0 c.lane.inside.state) (ap (λ l. l.shape) c.lane.view_is ∙ c.requires.owns.1) c.lane.invariant.1;
  };
}

pub halt_release-requires-clause-parts : goal.halt_release-requires-clause-parts
halt_release-requires-clause-parts g c =
    record {
      table = ap (λ l. l.table) c.lane.view_is ∙ c.requires.owns.0;
      directory = ap (λ l. l.directory) c.lane.view_is ∙ c.requires.owns.2;
      bare = c.lane.invariant.0;
      fits = subst (λ (z : Shape). Fits g.T.Clear.content g.T.Clear.room z c.lane.inside.hand.me.0 c.lane.inside.state) (ap (λ l. l.shape) c.lane.view_is ∙ c.requires.owns.1) c.lane.invariant.1;
    }

pub halt_create-requires : goal.halt_create-requires
halt_create-requires g c = record {
  parts = record {
    table = ap (λ l. l.table) c.lane.view_is ∙ c.requires.owns.0;
    directory = ap (λ l. l.directory) c.lane.view_is ∙ c.requires.owns.2;
    bare = c.lane.invariant.0;
    fits = subst (λ (z : Shape). Fits g.T.Clear.content g.T.Clear.room z c.lane.inside.hand.me.0 c.lane.inside.state) (ap (λ l. l.shape) c.lane.view_is ∙ c.requires.owns.1) c.lane.invariant.1;
  };
}
