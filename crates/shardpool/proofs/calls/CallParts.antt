-- Calls as contracts see them: by their views alone, with moves in front, and in as many looks as are allowed.
use Rattle.std.proofs.Common.{◌≡◌, ℕ, ◌+◌, ◌≤◌, [], None, refl, subst, arith}
use Rattle.atomic_table.specs.Table.{Me}
use Rattle.keybits.specs.declared.shape.Shape.{Shape}
use Rattle.keybits.specs.Keys.{place_of}
use Rattle.steplaws.specs.Calls.{Call, Caller, key_in, next_step, AreSteps}
use Rattle.poolsteps.specs.declared.view.View.{View}
use Rattle.poolsteps.specs.Views.{the_lane}
use Rattle.seatcalls.specs.Called.{caller_of, Make, Did, Called}
use Rattle.seatcalls.proofs.parts.Doing.{did-more, same-caller}
use Rattle.shardpool.specs.Lanes.{Calls}

-- a call in no more looks than these is one of the pool
pub calls-more : {S : Type 0} {z : Shape} {call : Call} {looks : ℕ} {a b : Me S View} → Called z call looks a b → looks ≤ 64 → Calls z call a.0 b.0
calls-more called most =
    let did = called.did in
    let looked = did.looked in record {
      steps = called.steps;
      made = called.made;
      are = called.are;
      all = called.all;
      make = called.make;
      did = record {
        acted = did.acted;
        held = refl;
        stepped = did.stepped;
        looked = omega (arith, looked, most);
        chain = did.chain;
        deeds = did.deeds;
        cells = did.cells;
      };
      few = called.few;
      idle = called.idle;
    }

-- moves of the place's shares in front of a call
pub calls-behind : {S : Type 0} {z : Shape} {call : Call} {l looks : ℕ} {a b c : Me S View} → Did z (place_of (key_in call)) [] 0 l a b
    → (the_lane b.0).pushed ≡ (the_lane a.0).pushed → Called z call looks b c → Called z call (l + looks) a c
calls-behind {z = z} {call = call} {l = l} {looks = looks} {a = a} {b = b} {c = c} moves pushed called =
    let same : caller_of z b.0 ≡ caller_of z a.0 = same-caller z a.0 b.0 moves.acted.lane pushed in record {
      steps = called.steps;
      made = called.made;
      are = subst (λ (x : Caller). AreSteps x call [] called.steps) same called.are;
      all = subst (λ (x : Caller). next_step x call called.steps ≡ None) same called.all;
      make = subst (λ (x : Caller). Make z x call called.steps called.made) same called.make;
      did = subst (λ (n : ℕ). Did z (place_of (key_in call)) called.made n (l + looks) a c) (omega arith) (did-more moves called.did);
      few = called.few;
      idle = called.idle;
    }
