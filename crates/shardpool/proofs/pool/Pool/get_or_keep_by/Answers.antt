-- The pool's table is the guest's.
use Rattle.std.proofs.Common.{◌≡◌, true, sym, ◌∙◌, subst, [], ◌∷◌}
use Rattle.std.specs.Prelude.{IfOk, IfErr, None}
use denote.RawPtr.{Ptr}
use Rattle.keybits.specs.Keys.{is_key, place_of}
use Rattle.seqpool.specs.declared.act.Act.TheVariants as acts
use Rattle.seatcalls.specs.Endings.{Ends}
use Rattle.shardpool.proofs.pool.Pool.get_or_keep_by.Goals as goal

pub get_or_keep-requires : goal.get_or_keep-requires
get_or_keep-requires g c = record { of = (c.requires.owns.0 ∙ (λ i. (sym c.self.view_is i).table), c.requires.owns.1 ∙ (λ i. (sym c.self.view_is i).shape)) }

pub returns-clause-key : goal.returns-clause-key
returns-clause-key g c =
    let at : c.self.inside.grid.objects.ptr ≡ c.args.self.now.directory = λ i. (c.self.view_is i).directory in
    subst (λ (d : Ptr). IfOk c.get_or_keep.result (λ reference. (is_key c.args.guest.shape c.args.key ≡ true) × (reference.key ≡ c.args.key) × (reference.directory ≡ d))) at c.get_or_keep.ensures.key

pub returns-clause-misses : goal.returns-clause-misses
returns-clause-misses g c =
    let at : c.self.inside.grid.objects.ptr ≡ c.args.self.now.directory = λ i. (c.self.view_is i).directory in
    subst (λ (d : Ptr). IfErr c.get_or_keep.result (λ ended. is_key c.args.guest.shape c.args.key ≡ true
    → Ends g.T.Clear.content g.T.Clear.room d (place_of c.args.key) (acts.Get c.args.guest.number c.args.key None ∷ []) 3 2 c.args.guest ended)) at c.get_or_keep.ensures.misses
