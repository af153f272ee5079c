-- A lane's references, by its view: what its own acts make of them.
use Rattle.std.proofs.Common.{◌≡◌, ◌≢◌, ℕ, ◌+◌, ◌-◌, ◌<◌, Bool, true, false, cond, ◌==◌, List, [], ◌∷◌, ◌++◌, Some, None, refl, sym, ap, ◌∙◌, subst, arith, eq-eqb, ne_eqb, inl, inr, append_assoc}
use Rattle.keybits.specs.Shapes.{callers}
use Rattle.std.proofs.lemmas.Bool.{cases_Bool}
use Rattle.std.proofs.lemmas.List.Sums.{sum_by-cons}
use mathlib.Core.Logic.{dite}
use native.Mathlib.Decide.{ℕ_discrete}
use Rattle.keybits.specs.declared.shape.Shape.{Shape}
use Rattle.keybits.specs.Keys.{place_of}
use Rattle.seqpool.specs.declared.act.Act.{Act}
use Rattle.seqpool.specs.declared.act.Act.TheVariants.{Publish, Get, Release, Clear, Reclaim, Home, Collect}
use Rattle.seqpool.specs.Pool.{Phase, with, Pool, references_in, is_current, references, lane_of, Allowed, after, fresh, pool_from, LegalFrom, pool_after, IsLegal}
use Rattle.seqpool.specs.Histories.{acts_of, made_by, released_by}
use Rattle.seqpool.proofs.Growth.{pool-append, legal-rest, acts-append}
use Rattle.seqpool.proofs.Tallies.{one_if, tally}
use Rattle.poolsteps.specs.declared.view.LaneRecord.{LaneRecord}
use Rattle.poolsteps.specs.Views.{head_record, the_lane}
use Rattle.poolsteps.specs.ViewLaws.{references_with, references_made, ReferencesLaw, ActsLaw}

module _ (z : Shape) (key lane : ℕ) where
  -- nobody has a reference to the key of a place that is with a lane
  pub none-with : (P : Pool) (l : ℕ) → (P (place_of key)).phase ≡ with l → references z P lane key ≡ 0
  none-with P l is = elim (cases_Bool (is_current z P key)) [
    | inl here ↦ ap (λ b. cond b (references_in (P (place_of key)).phase lane) 0) here ∙ ap (λ (f : Phase). references_in f lane) is
    | inr gone ↦ ap (λ b. cond b (references_in (P (place_of key)).phase lane) 0) gone
  ]

  -- an act on this key, and one on another
  of-key : (k n m made : ℕ) → (k ≡ key → made ≡ m) → (k ≢ key → made ≡ n) → made ≡ cond (k == key) m n
  of-key k n m made this other = dite (ℕ_discrete k key)
      (λ same. this same ∙ ap (λ b. cond b m n) (sym (eq-eqb k key same)))
      (λ differ. other differ ∙ ap (λ b. cond b m n) (sym (ne_eqb k key differ)))

  -- the lane's act counts where it is on the key
  counts-here : (l k : ℕ) → l ≡ lane → k ≡ key → one_if (l == lane) (k == key) ≡ 1
  counts-here l k mine same = ap (λ b. one_if b (k == key)) (eq-eqb l lane mine) ∙ ap (λ b. one_if true b) (eq-eqb k key same)

  counts-else : (l k : ℕ) → l ≡ lane → k ≢ key → one_if (l == lane) (k == key) ≡ 0
  counts-else l k mine differ = ap (λ b. one_if b (k == key)) (eq-eqb l lane mine) ∙ ap (λ b. one_if true b) (ne_eqb k key differ)

  -- what the lane has after an act with what it gave back is what it had with what it made
  one-act : (P : Pool) (act : Act) → lane_of act < (callers z) → Allowed z P act
      → references z (after z act P) lane key + released_by lane key act ≡ references z P lane key + made_by lane key act
  one-act P act inside ok =
      let total = tally z key lane P (act ∷ []) (inside, ok, tt) in
      let made = sum_by-cons (made_by lane key) act [] in let released = sum_by-cons (released_by lane key) act [] in omega arith

  -- each allowed act of the lane
  by-act : (P : Pool) (act : Act) → lane_of act < (callers z) → Allowed z P act → lane_of act ≡ lane
      → references z (after z act P) lane key ≡ references_with act key (references z P lane key)
  by-act P (Publish l k content true) inside ok mine =
      let had : ℕ = references z P lane key in
      let total = one-act P (Publish l k content true) inside ok in
      of-key k had 1 (references z (after z (Publish l k content true) P) lane key)
      (λ same. let none = none-with P l (ap (λ (x : ℕ). (P (place_of x)).phase) (sym same) ∙ ok.1) in let one = counts-here l k mine same in omega arith)
      (λ differ. let none = counts-else l k mine differ in omega arith)
  by-act P (Publish l k content false) inside ok mine =
      let had : ℕ = references z P lane key in
      let total = one-act P (Publish l k content false) inside ok in
      of-key k had 0 (references z (after z (Publish l k content false) P) lane key)
      (λ same. let none = none-with P l (ap (λ (x : ℕ). (P (place_of x)).phase) (sym same) ∙ ok.1) in omega arith)
      (λ differ. omega arith)
  by-act P (Get l k None) inside ok mine = let total = one-act P (Get l k None) inside ok in omega arith
  by-act P (Get l k (Some content)) inside ok mine =
      let had : ℕ = references z P lane key in
      let total = one-act P (Get l k (Some content)) inside ok in
      of-key k had (had + 1) (references z (after z (Get l k (Some content)) P) lane key)
      (λ same. let one = counts-here l k mine same in omega arith)
      (λ differ. let none = counts-else l k mine differ in omega arith)
  by-act P (Release l k) inside ok mine =
      let had : ℕ = references z P lane key in
      let total = one-act P (Release l k) inside ok in
      of-key k had (had - 1) (references z (after z (Release l k) P) lane key)
      (λ same. let one = counts-here l k mine same in omega arith)
      (λ differ. let none = counts-else l k mine differ in omega arith)
  by-act P (Clear l k reply) inside ok mine = let total = one-act P (Clear l k reply) inside ok in omega arith
  by-act P (Reclaim l k) inside ok mine = let total = one-act P (Reclaim l k) inside ok in omega arith
  by-act P (Home l place) inside ok mine = let total = one-act P (Home l place) inside ok in omega arith
  by-act P (Collect l places) inside ok mine = let total = one-act P (Collect l places) inside ok in omega arith

  -- no act of another lane gives the lane a reference, or takes one
  none-made : (act : Act) → lane_of act ≢ lane → (made_by lane key act ≡ 0) × (released_by lane key act ≡ 0)
  none-made (Publish l k content true) other = (ap (λ b. one_if b (k == key)) (ne_eqb l lane other), refl)
  none-made (Publish l k content false) other = (refl, refl)
  none-made (Get l k None) other = (refl, refl)
  none-made (Get l k (Some content)) other = (ap (λ b. one_if b (k == key)) (ne_eqb l lane other), refl)
  none-made (Release l k) other = (refl, ap (λ b. one_if b (k == key)) (ne_eqb l lane other))
  none-made (Clear l k reply) other = (refl, refl)
  none-made (Reclaim l k) other = (refl, refl)
  none-made (Home l place) other = (refl, refl)
  none-made (Collect l places) other = (refl, refl)

  -- acts of any lanes, one after another
  by-acts : (P : Pool) (more : List Act) → LegalFrom z P more
      → references z (pool_from z P more) lane key ≡ references_made (acts_of lane more) key (references z P lane key)
  by-acts P [] legal = refl
  by-acts P (act ∷ more) legal =
      let rest = by-acts (after z act P) more legal.2 in dite (ℕ_discrete (lane_of act) lane)
      (λ mine.
      rest ∙ (ap (λ (n : ℕ). references_made (acts_of lane more) key n) (by-act P act legal.0 legal.1 mine)
      ∙ ap (λ (b : Bool). references_made (cond b (act ∷ acts_of lane more) (acts_of lane more)) key (references z P lane key)) (sym (eq-eqb (lane_of act) lane mine))))
      (λ other.
      let one = one-act P act legal.0 legal.1 in
      let none = none-made act other in
      let same : references z (after z act P) lane key ≡ references z P lane key = omega (arith, one, none.0, none.1) in
      rest ∙ (ap (λ (n : ℕ). references_made (acts_of lane more) key n) same
      ∙ ap (λ (b : Bool). references_made (cond b (act ∷ acts_of lane more) (acts_of lane more)) key (references z P lane key)) (sym (ne_eqb (lane_of act) lane other))))

-- what stands behind equal beginnings is equal
same-behind : (xs ys zs : List Act) → xs ++ ys ≡ xs ++ zs → ys ≡ zs
same-behind [] ys zs e = e
same-behind (x ∷ xs) ys zs e = same-behind xs ys zs (cc e)

pub acts-law : ActsLaw
acts-law z before after made further legal same acts key =
    let lane : ℕ = (the_lane before).lane in
    let more : List Act = further.0 in
    let mine : acts_of lane more ≡ made = same-behind (acts_of lane before.seen) (acts_of lane more) made
    (sym (acts-append lane before.seen more) ∙ (ap (acts_of lane) further.1 ∙ acts)) in
    ap (λ (l : ℕ). references z (pool_after z after.seen) l key) same
    ∙ (ap (λ (history : List Act). references z (pool_after z history) lane key) (sym further.1)
    ∙ (ap (λ (P : Pool). references z P lane key) (pool-append z fresh before.seen more)
    ∙ (by-acts z key lane (pool_after z before.seen) more (legal-rest z fresh before.seen more (subst (IsLegal z) (sym further.1) legal))
    ∙ ap (λ (list : List Act). references_made list key (references z (pool_after z before.seen) lane key)) mine)))

-- a step's acts are such acts
pub references-law : ReferencesLaw
references-law z before after made rooms r goes same all key =
    let lane : ℕ = (the_lane before).lane in
    let seen : after.seen ≡ before.seen ++ (goes.between ++ made) = goes.seen ∙ append_assoc before.seen goes.between made in
    let none : acts_of lane goes.between ≡ [] = ap (λ (l : ℕ). acts_of l goes.between) (sym same) ∙ goes.others in
    let own : acts_of lane made ≡ made = ap (λ (l : ℕ). acts_of l made) (sym same) ∙ all in
    acts-law z before after made (goes.between ++ made, sym seen) goes.legal (ap (λ (lanes : List LaneRecord). (head_record lanes).lane) goes.lanes ∙ same)
    (ap (acts_of lane) seen ∙ (acts-append lane before.seen (goes.between ++ made)
    ∙ ap (λ (list : List Act). acts_of lane before.seen ++ list)
    (acts-append lane goes.between made ∙ (ap (λ (list : List Act). list ++ acts_of lane made) none ∙ own)))) key
