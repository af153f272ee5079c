-- What was written into the created object is published.
use Rattle.std.proofs.Common.{◌∙◌, ap, sym, subst, inl, inr, refl}
use Rattle.std.proofs.lemmas.Result.{IfOk-from_err, err_from_is_err_and}
use Rattle.guards.proofs.Seating.{goes-further, on-ok, on-err, puts}
use Rattle.shardpool.specs.Tokens.{LaneOf}
use Rattle.shardpool.specs.Creates.{Gives}
use Rattle.guards.proofs.seats.Seat.put.Given.{Over}
use Rattle.guards.proofs.seats.Seat.put.Goals.{After-self-1}
use Rattle.guards.proofs.seats.Seat.put.Goals as goal

pub write-requires : goal.write-requires
write-requires g c = ap g.T.Clear.content c.value_mut.ensures.object ∙ c.in_ok-filling.ensures.empty

pub publish-requires : goal.publish-requires
publish-requires g c =
    let made = c.in_ok-filling.ensures.made in record { made = record { table = made.table; directory = made.directory; start = made.start; place = made.place; may = made.may; emptied = made.emptied } }

pub leave-requires : goal.leave-requires
leave-requires g c =
    let made = c.in_ok-filling.ensures.made in record { table = made.table; directory = made.directory; start = made.start; place = made.place; may = made.may; emptied = made.emptied }

pub returns-clause-number : goal.returns-clause-number
returns-clause-number g c = c.publish.ensures.number ∙ c.create.ensures.number

pub returns-clause-goes : goal.returns-clause-goes
returns-clause-goes g c = goes-further {between = c.create.new.self.lane} c.create.ensures.goes c.publish.ensures.goes

pub returns-in_err-filling-clause-published : goal.returns-in_err-filling-clause-published
returns-in_err-filling-clause-published g c = IfOk-from_err c.from_residual.result _ c.from_residual.ensures.0

pub returns-clause-puts : goal.returns-clause-puts
returns-clause-puts g c =
    puts g.T.Clear.content g.T.Clear.room c.args.self.now.lane c.create.new.self.lane c.publish.new.self.lane c.in_ok-filling.filling c.write.new.object c.publish.result
    (g.C.Contents.content c.args.contents.now) c.in_ok-filling.ensures.gives c.create.ensures.number c.publish.ensures.key
    (on-ok c.write.result _ (c.if-is_err.ensures.value) c.write.ensures.ok) c.publish.ensures.called c.publish.ensures.publishes c.publish.ensures.room

pub returns-clause-keeps : goal.returns-clause-keeps
returns-clause-keeps g c =
    let first = c.create.ensures.keeps in record {
      fillings = λ other made. c.publish.ensures.fillings other (c.in_ok-filling.ensures.apart other made) (first.fillings other made);
      held = λ key. c.publish.ensures.held key ∙ first.held key;
    }

-- ---- nothing is published

-- the lane is as it was when the filling is left
left-so : (g : Over) (c : After-self-1 g) → Gives g.T.Clear.content g.T.Clear.room c.args.self.now.lane c.create.new.self.lane c.in_ok-filling.filling
    → Gives g.T.Clear.content g.T.Clear.room c.args.self.now.lane c.leave.new.self c.in_ok-filling.filling
left-so g c gives = subst (λ (lane : LaneOf). Gives g.T.Clear.content g.T.Clear.room c.args.self.now.lane lane c.in_ok-filling.filling) (sym c.leave.ensures) gives

pub returns-in_err-filling-clause-none : goal.returns-in_err-filling-clause-none
returns-in_err-filling-clause-none g c = λ err. inl (c.in_err-filling.ensures.none refl)

pub returns-then-is_err-clause-none : goal.returns-then-is_err-clause-none
returns-then-is_err-clause-none g c = λ err. inr (c.in_ok-filling.filling, left-so g c c.in_ok-filling.ensures.gives)

pub returns-in_err-filling-clause-full : goal.returns-in_err-filling-clause-full
returns-in_err-filling-clause-full g c =
    let left = err_from_is_err_and c.from_residual.result c.from_residual.ensures.1 in rw (left.1, left.2) (λ err. (c.in_err-filling.ensures.none refl, c.in_err-filling.ensures.full (cc err)))

pub returns-in_err-filling-clause-memory : goal.returns-in_err-filling-clause-memory
returns-in_err-filling-clause-memory g c =
    let left = err_from_is_err_and c.from_residual.result c.from_residual.ensures.1 in rw (left.1, left.2) (λ err. inl (c.in_err-filling.ensures.none refl, c.in_err-filling.ensures.memory (cc err)))

pub returns-then-is_err-clause-full : goal.returns-then-is_err-clause-full
returns-then-is_err-clause-full g c = λ err. absurd (cc err)

pub returns-then-is_err-clause-memory : goal.returns-then-is_err-clause-memory
returns-then-is_err-clause-memory g c = λ err.
    let refused = on-err c.write.result _ (c.if-is_err.ensures.value) c.write.ensures.err in
    inr (c.in_ok-filling.filling, left-so g c c.in_ok-filling.ensures.gives, subst (g.C.Contents.may_refuse c.args.contents.now) c.value_mut.ensures.object refused)

-- ---- nothing is cleared

pub returns-clause-none_cleared : goal.returns-clause-none_cleared
returns-clause-none_cleared g c = c.publish.ensures.none_cleared ∙ c.create.ensures.none_cleared
