-- The machine value of a `HeldLease`, and that it says the same to every thread.
use Rattle.std.proofs.Common.{◌≡◌, ◌^◌, ◌<◌, List, [], ◌∷◌, ◌++◌, ap, ◌∙◌}
use mir.Val.{Val, vstruct, of_list}
use denote.RattleType.{RattleType}
use denote.Laws.{Is}
use denote.Param.Send.{IsSend, Frees}
use Rattle.core.specs.Mem.Slots.{lease_ptr, lease_len}
use Rattle.core.specs.declared.alloc.Allocator.{Ghosts}
use Rattle.atomic_table.proofs.Rights.{right_val, lease_told}
use Rattle.poolsteps.specs.contracts.memory.HeldLease as held_lease

module _ (R Z : RattleType) (g : Ghosts Z.Denot) where
  pub held_lease_told : (d : (held_lease.the_row R Z g).Denot) (vs : List Val) → Is (held_lease.the_row R Z g) d vs → (vs ≡ right_val (lease_ptr d.lease) (lease_len d.lease) ∷ []) × (lease_len d.lease < 2 ^ 64)
  held_lease_told d vs so = let is = so.0 in let inner = lease_told R Z g d.lease is.0.0 is.1.1.0 in (is.1.0 ∙ ap (λ (ws : List Val). vstruct (of_list (ws ++ [])) ∷ []) inner.0, inner.1)

  pub held_lease_send : Frees g g.dealloc_token → IsSend (held_lease.the_row R Z g)
  held_lease_send f = record { owned = λ d vs. ((λ vss. (tt, (((λ uss. (tt, (tt, ((tt, tt), ((λ wss. (tt, tt)), tt))))), f.frees _ _ _), tt))), tt); leaving = λ k x vs. (tt, tt) }
