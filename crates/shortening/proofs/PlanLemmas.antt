-- Two tests that hold.
use Rattle.std.proofs.Common.{◌≡◌, ◌∙◌, ◌&&◌, Bool, true, false, refl, ap}

pub one-holds : (one other : Bool) → (one && other) ≡ true → one ≡ true
one-holds true other both = refl
one-holds false other both = cc both

pub other-holds : (one other : Bool) → (one && other) ≡ true → other ≡ true
other-holds true other both = both
other-holds false other both = cc both

pub both-hold : (one other : Bool) → one ≡ true → other ≡ true → (one && other) ≡ true
both-hold one other is that = ap (λ (b : Bool). b && other) is ∙ that
