-- The pool's table is the guest's.
use Rattle.std.proofs.Common.{◌≡◌, sym, ◌∙◌, subst, [], ◌∷◌}
use denote.RawPtr.{Ptr}
use Rattle.keybits.specs.Keys.{place_of}
use Rattle.seqpool.specs.declared.act.Act.TheVariants as acts
use Rattle.seatcalls.specs.Endings.{Ends}
use Rattle.shardpool.proofs.pool.Pool.release_or_keep_of.Goals as goal

pub release_or_keep-requires : goal.release_or_keep-requires
release_or_keep-requires g c = record { of = (c.requires.owns.0 ∙ (λ i. (sym c.self.view_is i).table), c.requires.owns.1 ∙ (λ i. (sym c.self.view_is i).shape), c.requires.directory ∙ (λ i. (sym c.self.view_is i).directory)) }

pub returns : goal.returns
returns g c =
    let at : c.self.inside.grid.objects.ptr ≡ c.args.self.now.directory = λ i. (c.self.view_is i).directory in
    subst (λ (d : Ptr). Ends g.T.Clear.content g.T.Clear.room d (place_of c.args.reference.key)
    (acts.Release c.args.reference.guest.number c.args.reference.key ∷ []) 2 4 c.args.reference.guest c.release_or_keep.result) at c.release_or_keep.ensures
