-- Lanes that stand by falling number are all lanes.
use Rattle.std.proofs.Common.{rules, ◌≡◌, ◌≢◌, ◌↔◌, ℕ, ◌+◌, ◌<◌, List, Some, length, slice_get, slice_index_or, refl, sym, ap, ◌∙◌, subst, arith, ⊎_elim}
use Rattle.std.proofs.lemmas.List.Elements.{All-get_or}
use Rattle.std.proofs.lemmas.Option.{slice_get_cases, slice_get_within, slice_get_read, get_or_from_slice_get}
use Rattle.std.specs.List.{All}
use mathlib.Core.Logic.{dite}
use native.Mathlib.Decide.{ℕ_discrete}
use Rattle.shardpool.specs.Tokens.{PoolOf, LaneOf}
use Rattle.shardpool.specs.Lanes.{Owns}
use Rattle.shardpool.specs.Closings.{AreLanes}
use Rattle.poolhandle.specs.Closed.{AreInOrder}
use Rattle.poolhandle.proofs.closing.close_lanes.Goals as goal

module _ (lanes : List LaneOf) (count : ℕ) where
  abbrev AreNumbered : ℕ → Type 0
  AreNumbered index = (i : ℕ) (lane : LaneOf) → i < index → slice_get lanes i ≡ Some lane → lane.number ≡ i

  one-more : (index : ℕ) (at : LaneOf) → at ≡ slice_index_or lanes index at → at.number ≡ index → AreNumbered index → AreNumbered (index + 1)
  one-more index at here is before i lane low there = dite (ℕ_discrete i index)
      (λ (same : i ≡ index).
      let one : lane ≡ at = sym (get_or_from_slice_get lanes i lane at there) ∙ (ap (λ (n : ℕ). slice_index_or lanes n at) same ∙ sym here) in
      ap (λ (l : LaneOf). l.number) one ∙ (is ∙ sym same))
      (λ differs. before i lane (omega (arith, low, differs)) there)

  all-lanes : (pool : PoolOf) → pool.shape.guests ≡ 0 → length lanes ≡ count → count ≡ pool.shape.lanes → All (λ lane. Owns pool lane) lanes → AreNumbered count → AreLanes pool lanes
  all-lanes pool alone long is own numbered = record {
    alone = alone;
    count = long ∙ is;
    owned = λ index lane at. subst (Owns pool) (get_or_from_slice_get lanes index lane lane at)
        (All-get_or (λ l. Owns pool l) lanes index lane (slice_get_within lanes index lane at) own);
    all = λ number low.
        let index : ℕ = number in
        ⊎_elim
        (λ there. let falls = numbered index there.0 (omega (arith, low, is)) there.2 in (index, there.0, there.2, falls))
        (λ past. let high = past.0 in absurd (omega (arith, high, low, long, is)))
        (slice_get_cases lanes index).1;
  }

  in-order : (pool : PoolOf) → length lanes ≡ count → count ≡ pool.shape.lanes → AreNumbered count → AreInOrder pool lanes
  in-order pool long is numbered = record {
    count = long ∙ is;
    each = λ index lane at. let within = slice_get_within lanes index lane at in numbered index lane (omega (arith, within, long)) at;
  }

  another-number : (pool : PoolOf) (index : ℕ) (at : LaneOf) → index < length lanes → at ≡ slice_index_or lanes index at → at.number ≢ index
      → AreInOrder pool lanes → ⊥
  another-number pool index at low is other order = other (order.each index at (slice_get_read lanes (length lanes) index at refl low is))

pub loop-index-init : goal.loop-index-init
loop-index-init g c = λ i lane low there. absurd (omega (arith, low))

pub loop-index-preserved : goal.loop-index-preserved
loop-index-preserved g c =
    one-more c.args.lanes.items c.len-count.result c.loop-index.index c.index.result.now c.index.ensures (search rules) c.loop-index.invariant

pub close-requires : goal.close-requires
close-requires g c =
    let end : c.loop-index.index ≡ c.len-count.result = omega arith in
    record {
      lanes = all-lanes c.args.lanes.items c.len-count.result c.args.pool c.requires.alone (search rules) (search rules) c.requires.owned
          (subst (AreNumbered c.args.lanes.items c.len-count.result) end c.loop-index.invariant);
    }

pub returns-clause-some : goal.returns-clause-some
returns-clause-some g c =
    let end : c.loop-index.index ≡ c.len-count.result = omega arith in (
      λ is. in-order c.args.lanes.items c.len-count.result c.args.pool (search rules) (search rules)
          (subst (AreNumbered c.args.lanes.items c.len-count.result) end c.loop-index.invariant),
      λ order. refl,
    )

pub returns-clause-closes : goal.returns-clause-closes
returns-clause-closes g c =
    let end : c.loop-index.index ≡ c.len-count.result = omega arith in (
      all-lanes c.args.lanes.items c.len-count.result c.args.pool c.requires.alone (search rules) (search rules) c.requires.owned
          (subst (AreNumbered c.args.lanes.items c.len-count.result) end c.loop-index.invariant),
      c.close.ensures.closes,
    )
