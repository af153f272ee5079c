-- A home place was returned by a lane of the shape, of another shard.
use Rattle.std.proofs.Common.{◌≡◌, ◌≢◌, ⊎_elim, ℕ, ◌<◌, true, false, List, [], ◌∷◌, ap, sym, ◌∙◌, subst, ne_eqb}
use Rattle.keybits.specs.Shapes.{callers}
use Rattle.std.proofs.lemmas.Bool.{cases_Bool}
use mathlib.Core.Logic.{dite}
use native.Mathlib.Decide.{ℕ_discrete}
use Rattle.keybits.specs.declared.shape.Shape.{Shape}
use Rattle.keybits.specs.Places.{shard_of}
use Rattle.seqpool.specs.declared.act.Act.{Act}
use Rattle.seqpool.specs.declared.act.Act.TheVariants as acts
use Rattle.seqpool.specs.Pool.{with, home, Spot, Pool, has, lane_of, Allowed, after, fresh, pool_from, LegalFrom, IsLegal}
use Rattle.seqpool.proofs.Growth.{after-here, after-else}
use Rattle.steplaws.specs.Facts.{is_home, home_in, returner_after, returners_after, returner}
use Rattle.steplaws.proofs.Updates.{at-here, at-else}
use Rattle.steplaws.proofs.HomePlaces.{home-is, home-parts}
use Rattle.steplaws.proofs.Acts.{IsLife, life-homes, life-returner}

module _ (z : Shape) (place : ℕ) where
  -- where the place is home, a lane of the shape returned it, and another than its shard's
  abbrev pub IsReturned : Pool → (ℕ → ℕ) → Type 0
  IsReturned pool returners = (pool place).phase ≡ home → (returners place < (callers z)) × (returners place ≢ shard_of place)

  module _ (pool : Pool) (returners : ℕ → ℕ) (so : IsReturned pool returners) where
    abbrev Stays : Act → Type 0
    Stays act = IsReturned (after z act pool) (returner_after act returners)

    by-life : (act : Act) → Allowed z pool act → IsLife act → Stays act
    by-life act ok life is =
        subst (λ (f : ℕ → ℕ). (f place < (callers z)) × (f place ≢ shard_of place)) (sym (life-returner returners act life))
        (so (home-is (pool place).phase (sym (life-homes z pool place act ok life) ∙ ap is_home is)))

    over : (act : Act) → lane_of act < (callers z) → Allowed z pool act → Stays act
    over (acts.Publish l key content with_ref) inside ok is = by-life (acts.Publish l key content with_ref) ok tt is
    over (acts.Get l key reply) inside ok is = by-life (acts.Get l key reply) ok tt is
    over (acts.Release l key) inside ok is = by-life (acts.Release l key) ok tt is
    over (acts.Clear l key reply) inside ok is = by-life (acts.Clear l key reply) ok tt is
    over (acts.Reclaim l key) inside ok is = by-life (acts.Reclaim l key) ok tt is
    over (acts.Home l one) inside ok is = dite (ℕ_discrete place one)
        (λ e. subst (λ (r : ℕ). (r < (callers z)) × (r ≢ shard_of place)) (sym (at-here returners one l place e))
        (inside, λ same. ok.2 (sym (same ∙ ap shard_of e))))
        (λ n. subst (λ (r : ℕ). (r < (callers z)) × (r ≢ shard_of place)) (sym (at-else returners one l place n))
        (so (sym (ap (λ (s : Spot). s.phase) (after-else z pool (acts.Home l one) place (ne_eqb place one n))) ∙ is)))
    over (acts.Collect l places) inside ok is = ⊎_elim
        (λ (in_it : has places place ≡ true).
        let bad : with l ≡ home = sym (ap (λ (s : Spot). s.phase) (after-here z pool (acts.Collect l places) place in_it)) ∙ is in absurd (cc bad))
        (λ (isnt : has places place ≡ false).
        so (sym (ap (λ (s : Spot). s.phase) (after-else z pool (acts.Collect l places) place isnt)) ∙ is))
        (cases_Bool (has places place))

  returned-from : (pool : Pool) (returners : ℕ → ℕ) (history : List Act) → LegalFrom z pool history → IsReturned pool returners
      → IsReturned (pool_from z pool history) (returners_after returners history)
  returned-from pool returners [] legal so = so
  returned-from pool returners (act ∷ more) legal so =
      returned-from (after z act pool) (returner_after act returners) more legal.2 (over pool returners so act legal.0 legal.1)

  returned : (history : List Act) → LegalFrom z fresh history → IsReturned (pool_from z fresh history) (returner history)
  returned history legal = returned-from fresh (λ _. 0) history legal (λ is. absurd (cc is))

-- a home place of a shard was returned by a lane of the shape, and another than the shard's
pub home-returned : (z : Shape) (history : List Act) (shard place : ℕ) → IsLegal z history → home_in z history shard place ≡ true
    → (returner history place < (callers z)) × (returner history place ≢ shard)
home-returned z history shard place legal is =
    let parts = home-parts z history shard place is in
    let bound = returned z place history legal parts.home in
    (bound.0, λ same. bound.1 (same ∙ sym parts.own))
