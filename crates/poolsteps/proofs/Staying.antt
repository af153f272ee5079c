-- A place that is with a lane stays as it is while others act.
use Rattle.std.proofs.Common.{◌≡◌, ℕ, List, [], ◌∷◌, ◌++◌, refl, sym, ◌∙◌, subst}
use Rattle.keybits.specs.declared.shape.Shape.{Shape}
use Rattle.seqpool.specs.declared.act.Act.{Act}
use Rattle.seqpool.specs.Pool.{with, Pool, after, fresh, pool_from, pool_after, LegalFrom, IsLegal}
use Rattle.seqpool.specs.Histories.{acts_of}
use Rattle.seqpool.proofs.Growth.{pool-append, legal-rest, others-first}
use Rattle.seqpool.proofs.Owns.{with-stays, generation-stays}

module _ (z : Shape) (lane place : ℕ) where
  -- the place stays with the lane, and keeps its generation
  spot-stays : (P : Pool) (more : List Act) → LegalFrom z P more → acts_of lane more ≡ [] → (P place).phase ≡ with lane
      → ((pool_from z P more place).phase ≡ with lane) × ((pool_from z P more place).generation ≡ (P place).generation)
  spot-stays P [] legal none is = (is, refl)
  spot-stays P (act ∷ more) legal none is =
      let first = others-first lane act more none in
      let still = (with-stays z lane P act place legal.1 first.0).0 is in
      let rest = spot-stays (after z act P) more legal.2 first.1 still in
      (rest.0, rest.1 ∙ generation-stays z lane P act place legal.1 is)

  pub place-stays : (seen between : List Act) → IsLegal z (seen ++ between) → acts_of lane between ≡ [] → (pool_after z seen place).phase ≡ with lane
      → ((pool_after z (seen ++ between) place).phase ≡ with lane) × ((pool_after z (seen ++ between) place).generation ≡ (pool_after z seen place).generation)
  place-stays seen between legal none is =
      subst (λ (P : Pool). ((P place).phase ≡ with lane) × ((P place).generation ≡ (pool_after z seen place).generation))
      (sym (pool-append z fresh seen between)) (spot-stays (pool_after z seen) between (legal-rest z fresh seen between legal) none is)
