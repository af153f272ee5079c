-- The generation of a place stays within those of the shape, so a place and its generation make a key.
use Rattle.std.proofs.Common.{◌≡◌, ◌≢◌, ℕ, ◌+◌, ◌<◌, ◌≤◌, Bool, true, false, cond, eqb, List, [], ◌∷◌, Some, None, refl, sym, ◌∙◌, arith, eq-eqb}
use Rattle.keybits.specs.declared.shape.Shape.{Shape}
use Rattle.keybits.specs.Shapes.{IsShape, is_place}
use Rattle.keybits.specs.Keys.{place_of, generation_of, is_key, key_number}
use Rattle.seqpool.specs.declared.act.Act.{Act}
use Rattle.seqpool.specs.declared.act.Act.TheVariants as acts
use Rattle.keybits.proofs.ShapeLemmas.{place_bounds}
use Rattle.keybits.proofs.KeyLemmas.{is_key-key_number, place_of-key_number, generation_of-key_number}
use Rattle.seqpool.specs.Pool.{with, retired, Spot, spot, Pool, touches, changed, after, fresh, pool_from, pool_after}

module _ (z : Shape) where
  abbrev pub Within : Spot → Type 0
  Within s = (1 ≤ s.generation) × (s.generation ≤ z.last_generation)

  reclaimed-within : (b : Bool) (l : ℕ) (s : Spot) → eqb s.generation z.last_generation ≡ b → Within s → Within (cond b (spot s.generation retired) (spot (s.generation + 1) (with l)))
  reclaimed-within true l s e w = w
  reclaimed-within false l s e w =
      let n : s.generation ≢ z.last_generation = λ same. let bad : true ≡ false = sym (eq-eqb s.generation z.last_generation same) ∙ e in absurd (cc bad) in
      let top = w.1 in (omega arith, omega arith)

  changed-within : (act : Act) (s : Spot) → Within s → Within (changed z.last_generation act s)
  changed-within (acts.Publish l key content with_ref) s w = w
  changed-within (acts.Get l key None) s w = w
  changed-within (acts.Get l key (Some content)) s w = w
  changed-within (acts.Release l key) s w = w
  changed-within (acts.Clear l key true) s w = w
  changed-within (acts.Clear l key false) s w = w
  changed-within (acts.Reclaim l key) s w = reclaimed-within (eqb s.generation z.last_generation) l s refl w
  changed-within (acts.Home l place) s w = w
  changed-within (acts.Collect l places) s w = w

  either-within : (b : Bool) (s t : Spot) → Within s → Within t → Within (cond b s t)
  either-within true s t a b = a
  either-within false s t a b = b

  all-within : (P : Pool) (h : List Act) → ((p : ℕ) → Within (P p)) → (p : ℕ) → Within (pool_from z P h p)
  all-within P [] w p = w p
  all-within P (a ∷ more) w p = all-within (after z a P) more
      (λ q. either-within (touches a q) (changed z.last_generation a (P q)) (P q) (changed-within a (P q) (w q)) (w q)) p

-- the key that a place stands for now
pub key_now : (z : Shape) → IsShape z → z.last_generation < 4294967296 → (h : List Act) (place : ℕ) → is_place z place ≡ true
    → let key : ℕ = key_number z.tag place (pool_after z h place).generation in
    (is_key z key ≡ true) × (place_of key ≡ place) × (generation_of key ≡ (pool_after z h place).generation)
key_now z ok wide h place inside =
    let first = ok.generations in
    let w = all-within z fresh h (λ p. (omega arith, first)) place in
    let top = w.1 in
    let small = (place_bounds z ok place inside).number in (
      is_key-key_number z ok wide place (pool_after z h place).generation inside w.0 w.1,
      place_of-key_number z.tag place (pool_after z h place).generation small,
      generation_of-key_number z.tag place (pool_after z h place).generation small (omega arith),
    )
