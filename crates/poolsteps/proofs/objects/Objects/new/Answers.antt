-- No right is here.
use Rattle.std.proofs.Common.{◌≡◌, ◌+◌, ◌≤◌, ℕ, List, map, replicate, refl, ap, ◌∙◌, arith}
use Rattle.std.specs.Prelude.{take}
use Rattle.std.proofs.lemmas.List.{length-replicate, take-replicate}
use Rattle.poolsteps.specs.declared.layout.TheConstants.{SHARDS_APART}
use Rattle.poolsteps.specs.declared.rows.Own.{Own}
use Rattle.poolsteps.specs.declared.rows.Own.TheVariants.{Away}
use Rattle.poolsteps.specs.Rows.{object_in, is_here}
use Rattle.poolsteps.proofs.own_rows.RowLemmas.{replicate-each, map-same}
use Rattle.poolsteps.proofs.objects.Objects.new.Goals as goal

module _ {T B : Type 0} (f : Own T → B) where
  all-away : (places n : ℕ) (row : List (Own T)) → places ≤ n → row ≡ replicate n Away → take places (map f row) ≡ replicate places (f Away)
  all-away places n row room is =
      let away : Own T = Away in
      let all = ap (map f) is ∙ (map-same f (f Away) (replicate n Away) (λ j z at. ap f (replicate-each n Away j z at)) ∙ ap (λ (k : ℕ). replicate k (f Away)) (length-replicate n away)) in
      ap (take places) all ∙ take-replicate places n (f Away) room

pub returns : goal.returns
returns g c =
    let more : c.args.places ≤ c.args.places + SHARDS_APART = omega arith in (
      refl,
      refl,
      all-away object_in c.args.places (c.args.places + SHARDS_APART) c.in_ok-row.row.items more c.in_ok-row.ensures,
      all-away is_here c.args.places (c.args.places + SHARDS_APART) c.in_ok-row.row.items more c.in_ok-row.ensures,
    )
