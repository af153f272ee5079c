-- Histories that grow by an act or by a history, and what an act leaves as it was.
use Rattle.std.proofs.Common.{◌≡◌, ◌≢◌, ℕ, zero, suc, ◌<◌, Bool, true, false, cond, eqb, List, [], ◌∷◌, ◌++◌, take, refl, sym, ap, ◌∙◌, subst, eq-eqb, ne_eqb, append-nil}
use Rattle.keybits.specs.declared.shape.Shape.{Shape}
use Rattle.keybits.specs.Shapes.{callers}
use Rattle.seqpool.specs.declared.act.Act.{Act}
use Rattle.seqpool.specs.Pool.{Pool, lane_of, Allowed, touches, changed, after, pool_from, LegalFrom}
use Rattle.seqpool.specs.Histories.{acts_of, At}

module _ (z : Shape) where
  pub pool-snoc : (P : Pool) (history : List Act) (act : Act) → pool_from z P (history ++ act ∷ []) ≡ after z act (pool_from z P history)
  pool-snoc P [] act = refl
  pool-snoc P (b ∷ more) act = pool-snoc (after z b P) more act

  pub legal-snoc : (P : Pool) (history : List Act) (act : Act)
      → LegalFrom z P history → lane_of act < callers z → Allowed z (pool_from z P history) act → LegalFrom z P (history ++ act ∷ [])
  legal-snoc P [] act legal inside ok = (inside, ok, tt)
  legal-snoc P (b ∷ more) act legal inside ok = (legal.0, legal.1, legal-snoc (after z b P) more act legal.2 inside ok)

  -- the pool after two histories, one behind the other
  pub pool-append : (P : Pool) (xs ys : List Act) → pool_from z P (xs ++ ys) ≡ pool_from z (pool_from z P xs) ys
  pool-append P [] ys = refl
  pool-append P (x ∷ xs) ys = pool-append (after z x P) xs ys

  pub legal-append : (P : Pool) (xs ys : List Act) → LegalFrom z P xs → LegalFrom z (pool_from z P xs) ys → LegalFrom z P (xs ++ ys)
  legal-append P [] ys front rest = rest
  legal-append P (x ∷ xs) ys front rest = (front.0, front.1, legal-append (after z x P) xs ys front.2 rest)

  -- the front and the rest of a legal history are legal
  pub legal-front : (P : Pool) (xs ys : List Act) → LegalFrom z P (xs ++ ys) → LegalFrom z P xs
  legal-front P [] ys legal = tt
  legal-front P (x ∷ xs) ys legal = (legal.0, legal.1, legal-front (after z x P) xs ys legal.2)

  pub legal-rest : (P : Pool) (xs ys : List Act) → LegalFrom z P (xs ++ ys) → LegalFrom z (pool_from z P xs) ys
  legal-rest P [] ys legal = legal
  legal-rest P (x ∷ xs) ys legal = legal-rest (after z x P) xs ys legal.2

  pub legal-take : (P : Pool) (history : List Act) (i : ℕ) → LegalFrom z P history → LegalFrom z P (take i history)
  legal-take P history zero legal = tt
  legal-take P [] (suc i) legal = tt
  legal-take P (x ∷ xs) (suc i) legal = (legal.0, legal.1, legal-take (after z x P) xs i legal.2)

  -- the act at a position is allowed after those before it
  pub legal-at : (P : Pool) (history : List Act) (i : ℕ) (act : Act) → LegalFrom z P history → At history i act
      → (lane_of act < callers z) × Allowed z (pool_from z P (take i history)) act
  legal-at P [] i act legal at = absurd (cc at)
  legal-at P (x ∷ xs) zero act legal at =
      let same : x ≡ act = cc at in subst (λ (a : Act). (lane_of a < callers z) × Allowed z P a) same (legal.0, legal.1)
  legal-at P (x ∷ xs) (suc i) act legal at = legal-at (after z x P) xs i act legal.2 at

  -- a place that the act is of, and one that it isn't of
  pub after-here : (P : Pool) (act : Act) (place : ℕ) → touches act place ≡ true → after z act P place ≡ changed z.last_generation act (P place)
  after-here P act place is = ap (λ b. cond b (changed z.last_generation act (P place)) (P place)) is

  pub after-else : (P : Pool) (act : Act) (place : ℕ) → touches act place ≡ false → after z act P place ≡ P place
  after-else P act place isnt = ap (λ b. cond b (changed z.last_generation act (P place)) (P place)) isnt

acts-cond : (b : Bool) (x : Act) (xs ys : List Act) → cond b (x ∷ (xs ++ ys)) (xs ++ ys) ≡ cond b (x ∷ xs) xs ++ ys
acts-cond true x xs ys = refl
acts-cond false x xs ys = refl

-- a lane's acts in two histories, one behind the other
pub acts-append : (lane : ℕ) (xs ys : List Act) → acts_of lane (xs ++ ys) ≡ acts_of lane xs ++ acts_of lane ys
acts-append lane [] ys = refl
acts-append lane (x ∷ xs) ys =
    ap (λ (r : List Act). cond (eqb (lane_of x) lane) (x ∷ r) r) (acts-append lane xs ys) ∙ acts-cond (eqb (lane_of x) lane) x (acts_of lane xs) (acts_of lane ys)

-- one more act, of the lane and of another
pub acts-mine : (lane : ℕ) (history : List Act) (act : Act) → lane_of act ≡ lane → acts_of lane (history ++ act ∷ []) ≡ acts_of lane history ++ act ∷ []
acts-mine lane history act is =
    acts-append lane history (act ∷ []) ∙ ap (λ b. acts_of lane history ++ cond b (act ∷ []) []) (eq-eqb (lane_of act) lane is)

pub acts-others : (lane : ℕ) (history : List Act) (act : Act) → lane_of act ≢ lane → acts_of lane (history ++ act ∷ []) ≡ acts_of lane history
acts-others lane history act isnt =
    acts-append lane history (act ∷ []) ∙ (ap (λ b. acts_of lane history ++ cond b (act ∷ []) []) (ne_eqb (lane_of act) lane isnt) ∙ append-nil (acts_of lane history))

-- where a lane has none of these acts, the first is another's
pub others-first : (lane : ℕ) (act : Act) (more : List Act) → acts_of lane (act ∷ more) ≡ [] → (lane_of act ≢ lane) × (acts_of lane more ≡ [])
others-first lane act more none =
    let here : (b : Bool) → eqb (lane_of act) lane ≡ b → cond b (act ∷ acts_of lane more) (acts_of lane more) ≡ [] =
    λ b is. sym (ap (λ (c : Bool). cond c (act ∷ acts_of lane more) (acts_of lane more)) is) ∙ none in
    let other : lane_of act ≢ lane = λ same. cc (here true (eq-eqb (lane_of act) lane same)) in
    (other, here false (ne_eqb (lane_of act) lane other))
