use Rattle.std.proofs.Common.{true, refl, sym, ◌∙◌}
use Rattle.std.proofs.lemmas.Result.{IfOk-from_err, err_from_is_err_and}
use Rattle.std.specs.Fn.{FnOnceReturnsAtMut}
use mathlib.Core.Bool.{true≢false}
use Rattle.poolsteps.proofs.ViewLemmas.{prefix-trans}
use Rattle.guards.proofs.Guarding.{creates}
use Rattle.guards.proofs.closures.create_with.Goals as goal

pub returns-clause-creates : goal.returns-clause-creates
returns-clause-creates g c =
    let ran : FnOnceReturnsAtMut g.F.FnOnce c.args.f c.in_ok-filling.filling.object tt c.f.new.arg2 = record {
      shown = c.value_mut.result;
      shows = c.value_mut.ensures.object;
      left = _;
      met = c.f.ensures;
      leaves = refl;
    } in
    creates c.in_ok-filling.ensures.gives g.F.FnOnce c.args.f c.args.pool.now.shape c.publish.new.lane c.f.new.arg2 c.publish.result ran c.publish.ensures.key c.requires.owns.1
    c.publish.ensures.called c.publish.ensures.publishes c.publish.ensures.published c.publish.ensures.room

pub returns-clause-refs : goal.returns-clause-refs
returns-clause-refs g c = c.publish.ensures.refs ∙ c.in_ok-filling.ensures.refs

pub returns-clause-holds : goal.returns-clause-holds
returns-clause-holds g c key = c.publish.ensures.held key ∙ c.in_ok-filling.ensures.held key

pub returns-clause-fillings : goal.returns-clause-fillings
returns-clause-fillings g c filling made =
    c.publish.ensures.fillings filling (c.in_ok-filling.ensures.apart filling made) (c.in_ok-filling.ensures.fillings filling made)

pub returns-clause-seen : goal.returns-clause-seen
returns-clause-seen g c = prefix-trans _ _ _ c.in_ok-filling.ensures.seen c.publish.ensures.seen

pub create-requires : goal.create-requires
create-requires g c = record { owns = c.requires.owns }

-- ---- no place was given

pub returns-in_err-filling-clause-owns : goal.returns-in_err-filling-clause-owns
returns-in_err-filling-clause-owns g c = c.in_err-filling.ensures.owns

pub returns-in_err-filling-clause-same : goal.returns-in_err-filling-clause-same
returns-in_err-filling-clause-same g c = (c.in_err-filling.ensures.none refl).created.same

pub returns-in_err-filling-clause-creates : goal.returns-in_err-filling-clause-creates
returns-in_err-filling-clause-creates g c = IfOk-from_err c.from_residual.result _ c.from_residual.ensures.0

pub returns-in_err-filling-clause-seen : goal.returns-in_err-filling-clause-seen
returns-in_err-filling-clause-seen g c = c.in_err-filling.ensures.seen

pub returns-in_err-filling-clause-none : goal.returns-in_err-filling-clause-none
returns-in_err-filling-clause-none g c = λ err. c.in_err-filling.ensures.none refl

pub returns-in_err-filling-clause-full : goal.returns-in_err-filling-clause-full
returns-in_err-filling-clause-full g c = λ is.
    let left = err_from_is_err_and c.from_residual.result c.from_residual.ensures.1 in
    let same = left.1 in let from = left.2 in c.in_err-filling.ensures.full (cc (is, same, from))

pub returns-in_err-filling-clause-memory : goal.returns-in_err-filling-clause-memory
returns-in_err-filling-clause-memory g c = λ is.
    let left = err_from_is_err_and c.from_residual.result c.from_residual.ensures.1 in
    let same = left.1 in let from = left.2 in c.in_err-filling.ensures.memory (cc (is, same, from))

pub returns-in_err-filling-clause-succeeds : goal.returns-in_err-filling-clause-succeeds
returns-in_err-filling-clause-succeeds g c = λ some. absurd (true≢false (sym (c.in_err-filling.ensures.succeeds some)))

pub returns-in_err-filling-clause-refs : goal.returns-in_err-filling-clause-refs
returns-in_err-filling-clause-refs g c = c.in_err-filling.ensures.refs

pub returns-in_err-filling-clause-holds : goal.returns-in_err-filling-clause-holds
returns-in_err-filling-clause-holds g c = c.in_err-filling.ensures.held

pub returns-in_err-filling-clause-fillings : goal.returns-in_err-filling-clause-fillings
returns-in_err-filling-clause-fillings g c = c.in_err-filling.ensures.fillings

-- ---- what its parts ask for

pub f-requires : goal.f-requires
f-requires g c = c.requires.may c.in_ok-filling.filling.object c.in_ok-filling.ensures.gives.empty c.value_mut.result c.value_mut.ensures.object

pub publish-requires-clause-owns : goal.publish-requires-clause-owns
publish-requires-clause-owns g c = c.in_ok-filling.ensures.owns

pub publish-requires-clause-made : goal.publish-requires-clause-made
publish-requires-clause-made g c =
    let made = c.in_ok-filling.ensures.gives.made in record { table = made.table; directory = made.directory; start = made.start; place = made.place; may = made.may; emptied = made.emptied }

-- ---- a place was given

pub returns-clause-owns : goal.returns-clause-owns
returns-clause-owns g c = c.publish.ensures.owns

pub returns-clause-same : goal.returns-clause-same
returns-clause-same g c =
    let first = c.in_ok-filling.ensures.gives.created.same in
    let then = c.publish.ensures.publishes.same in (then.0 ∙ first.0, then.1 ∙ first.1, then.2 ∙ first.2, then.3 ∙ first.3)

pub returns-clause-none : goal.returns-clause-none
returns-clause-none g c = λ err. absurd (cc err)

pub returns-clause-full : goal.returns-clause-full
returns-clause-full g c = λ err. absurd (cc err)

pub returns-clause-memory : goal.returns-clause-memory
returns-clause-memory g c = λ err. absurd (cc err)

pub returns-clause-succeeds : goal.returns-clause-succeeds
returns-clause-succeeds g c = λ some. refl {a = true}
