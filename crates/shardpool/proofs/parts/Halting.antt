-- The calls of a key, up to so many steps.
use Rattle.std.proofs.Common.{◌≡◌, inl, inr, ℕ, ◌+◌, ◌-◌, List, [], ◌∷◌, length, Some, None, refl, sym, ap, ◌∙◌, subst, arith, append-nil, length-append}
use Rattle.atomic_table.specs.Table.{Me}
use Rattle.keybits.specs.declared.shape.Shape.{Shape}
use Rattle.keybits.specs.declared.step.Kind.TheVariants as kinds
use Rattle.keybits.specs.declared.step.Word.TheVariants.{Life}
use Rattle.keybits.specs.declared.step.Step.{Step}
use Rattle.keybits.specs.Keys.{place_of}
use Rattle.seqpool.specs.declared.act.Act.{Act}
use Rattle.steplaws.specs.declared.pending.Pending.TheVariants.{Undo}
use Rattle.steplaws.specs.Calls.{Call, aim, next_step, key_in, LeaveMakes}
use Rattle.steplaws.specs.Calls.Call.{Releasing}
use Rattle.poolsteps.specs.declared.view.View.{View}
use Rattle.poolsteps.specs.Views.{the_lane, IsOne}
use Rattle.poolsteps.specs.Told.{IsIdle}
use Rattle.seatcalls.specs.Called.{caller_of, IsLawful}
use Rattle.seatcalls.proofs.parts.Calling.{Opens, GoesOnAsEnd, life-step, opens-first, opens-more}
use Rattle.shardpool.specs.Halted.{CalledWithin, LeavesWithin}
use Rattle.shardpool.proofs.parts.Within.{called-not, called-part, called-on}

-- one that goes on as an end after its first steps, of which the last is to be undone
pub called-undoes : {S : Type 0} {z : Shape} {call : Call} {made : List Act} {more : ℕ} {a b c : Me S View} (done : List Step) → Opens z call done made a b
    → GoesOnAsEnd (caller_of z a.0) call done → LeaveMakes (caller_of z a.0) call None → (hit : _) → (the_lane b.0).under ≡ Undo (key_in call) hit
    → LeavesWithin z (key_in call) more b c → (limit : ℕ) → length done + more ≡ limit → CalledWithin z call limit a c
called-undoes {z = z} {call = call} {more = more} {a = a} {b = b} {c = c} done opens follows makes hit under leaves limit sum = elim leaves [
  | inl none ↦
      let zero = none.0 in
      subst (λ (n : ℕ). CalledWithin z call n a c) (omega (arith, sum, zero))
      (subst (λ (last : Me _ View). CalledWithin z call (length done) a last) (sym none.1) (called-part opens))
  | inr told ↦
      let leave : Step = life-step kinds.Leave (key_in call) told.0 (told.0 - 4) in
      let next : next_step (caller_of z a.0) call done ≡ Some (aim kinds.Leave (Life (place_of (key_in call))))
      = ap (next_step (caller_of z a.0) call) (sym (append-nil done)) ∙ follows [] in
      let some = told.2 in
      let all = length-append done (leave ∷ []) in
      subst (λ (n : ℕ). CalledWithin z call n a c) (omega (arith, sum, some, all))
      (called-on done leave (more - 1) (opens-more (told.3.1 hit under) opens next makes) follows (told.4 leave refl))
]

-- a release
pub called-releases : {S : Type 0} {z : Shape} {key : ℕ} {a c : Me S View} (limit : ℕ) → IsOne a.0 → IsLawful z a.0 → IsIdle a.0 → LeavesWithin z key limit a c
    → CalledWithin z (Releasing key) limit a c
called-releases {z = z} {key = key} {a = a} {c = c} limit one seen idle leaves = elim leaves [
  | inl none ↦
      subst (λ (last : Me _ View). CalledWithin z (Releasing key) limit a last) (sym none.1) (called-not (Releasing key) limit none.0 one seen)
  | inr told ↦
      let leave : Step = life-step kinds.Leave key told.0 (told.0 - 4) in
      let some = told.2 in
      subst (λ (n : ℕ). CalledWithin z (Releasing key) n a c) (omega (arith, some))
      (called-on [] leave (limit - 1) (opens-first (told.3.0 idle) (Releasing key) refl refl) (λ s. refl) (told.4 leave refl))
]
