-- The pool's table is the guest's.
use Rattle.std.proofs.Common.{◌≡◌, true, sym, ◌∙◌, subst, [], ◌∷◌}
use denote.RawPtr.{Ptr}
use Rattle.keybits.specs.Keys.{is_key, place_of}
use Rattle.seqpool.specs.declared.act.Act.TheVariants as acts
use Rattle.seatcalls.specs.Endings.{Ends}
use Rattle.shardpool.proofs.pool.Pool.clear_or_keep_by.Goals as goal

pub clear_or_keep-requires : goal.clear_or_keep-requires
clear_or_keep-requires g c = record { of = (c.requires.owns.0 ∙ (λ i. (sym c.self.view_is i).table), c.requires.owns.1 ∙ (λ i. (sym c.self.view_is i).shape)) }

pub returns-clause-clears : goal.returns-clause-clears
returns-clause-clears g c =
    let at : c.self.inside.grid.objects.ptr ≡ c.args.self.now.directory = λ i. (c.self.view_is i).directory in
    subst (λ (d : Ptr). is_key c.args.guest.shape c.args.key ≡ true
    → Ends g.T.Clear.content g.T.Clear.room d (place_of c.args.key) (acts.Clear c.args.guest.number c.args.key c.clear_or_keep.result.0 ∷ []) 4 4 c.args.guest c.clear_or_keep.result.1) at c.clear_or_keep.ensures.clears
