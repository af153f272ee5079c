-- A place is in one part at most.
use Rattle.std.proofs.Common.{refl, ⊎_elim, arith}
use Rattle.shardpool.specs.declared.census.Part.TheVariants.{Free, Unopened, Filling, Present, Marked, Retired}
use Rattle.shardpool.specs.Closings.{PartsLaw}

pub one-part : PartsLaw
one-part h lane place Free Free a b = refl
one-part h lane place Free Unopened a b = absurd (⊎_elim (λ at. cc (at, b.0)) (λ kept. omega (arith, kept.1, b.1)) a)
one-part h lane place Free Filling a b = absurd (⊎_elim (λ at. cc (at, b.0)) (λ kept. ⊎_elim b.2 b.3 kept.2) a)
one-part h lane place Free Present a b = absurd (⊎_elim (λ at. cc (at, b.2)) (λ kept. cc (kept.0, b.2)) a)
one-part h lane place Free Marked a b = absurd (⊎_elim (λ at. cc (at, b.2)) (λ kept. cc (kept.0, b.2)) a)
one-part h lane place Free Retired a b = absurd (⊎_elim (λ at. cc (at, b)) (λ kept. cc (kept.0, b)) a)
one-part h lane place Unopened Free a b = absurd (⊎_elim (λ at. cc (at, a.0)) (λ kept. omega (arith, kept.1, a.1)) b)
one-part h lane place Unopened Unopened a b = refl
one-part h lane place Unopened Filling a b = absurd (omega (arith, a.1, b.1))
one-part h lane place Unopened Present a b = absurd (cc (a.0, b.2))
one-part h lane place Unopened Marked a b = absurd (cc (a.0, b.2))
one-part h lane place Unopened Retired a b = absurd (cc (a.0, b))
one-part h lane place Filling Free a b = absurd (⊎_elim (λ at. cc (at, a.0)) (λ kept. ⊎_elim a.2 a.3 kept.2) b)
one-part h lane place Filling Unopened a b = absurd (omega (arith, b.1, a.1))
one-part h lane place Filling Filling a b = refl
one-part h lane place Filling Present a b = absurd (cc (a.0, b.2))
one-part h lane place Filling Marked a b = absurd (cc (a.0, b.2))
one-part h lane place Filling Retired a b = absurd (cc (a.0, b))
one-part h lane place Present Free a b = absurd (⊎_elim (λ at. cc (at, a.2)) (λ kept. cc (kept.0, a.2)) b)
one-part h lane place Present Unopened a b = absurd (cc (b.0, a.2))
one-part h lane place Present Filling a b = absurd (cc (b.0, a.2))
one-part h lane place Present Present a b = refl
one-part h lane place Present Marked a b = absurd (cc (a.2, b.2))
one-part h lane place Present Retired a b = absurd (cc (a.2, b))
one-part h lane place Marked Free a b = absurd (⊎_elim (λ at. cc (at, a.2)) (λ kept. cc (kept.0, a.2)) b)
one-part h lane place Marked Unopened a b = absurd (cc (b.0, a.2))
one-part h lane place Marked Filling a b = absurd (cc (b.0, a.2))
one-part h lane place Marked Present a b = absurd (cc (b.2, a.2))
one-part h lane place Marked Marked a b = refl
one-part h lane place Marked Retired a b = absurd (cc (a.2, b))
one-part h lane place Retired Free a b = absurd (⊎_elim (λ at. cc (at, a)) (λ kept. cc (kept.0, a)) b)
one-part h lane place Retired Unopened a b = absurd (cc (b.0, a))
one-part h lane place Retired Filling a b = absurd (cc (b.0, a))
one-part h lane place Retired Present a b = absurd (cc (b.2, a))
one-part h lane place Retired Marked a b = absurd (cc (b.2, a))
one-part h lane place Retired Retired a b = refl
