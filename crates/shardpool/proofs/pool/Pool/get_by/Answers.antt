-- The pool's table is the guest's.
use Rattle.std.proofs.Common.{◌≡◌, true, sym, ◌∙◌, subst}
use Rattle.std.specs.Prelude.{IfOk}
use denote.RawPtr.{Ptr}
use Rattle.keybits.specs.Keys.{is_key}
use Rattle.shardpool.proofs.pool.Pool.get_by.Goals as goal

pub get-requires : goal.get-requires
get-requires g c = record { of = (c.requires.owns.0 ∙ (λ i. (sym c.self.view_is i).table), c.requires.owns.1 ∙ (λ i. (sym c.self.view_is i).shape)) }

pub returns-clause-key : goal.returns-clause-key
returns-clause-key g c =
    let at : c.self.inside.grid.objects.ptr ≡ c.args.self.now.directory = λ i. (c.self.view_is i).directory in
    subst (λ (d : Ptr). IfOk c.get.result (λ reference. (is_key c.args.guest.shape c.args.key ≡ true) × (reference.key ≡ c.args.key) × (reference.directory ≡ d))) at c.get.ensures.key
