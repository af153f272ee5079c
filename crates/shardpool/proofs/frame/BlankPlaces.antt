-- A place that a lane reclaimed below its last generation is with the lane.
use Rattle.std.proofs.Common.{◌≡◌, ◌≢◌, ◌==◌, ℕ, ◌+◌, Bool, true, false, cond, List, [], ◌∷◌, ◌++◌, refl, ap, sym, ◌∙◌, subst, ⊎_elim, ne_eqb, eq-eqb, append_assoc}
use Rattle.std.proofs.lemmas.Bool.{cases_Bool}
use Rattle.keybits.specs.declared.shape.Shape.{Shape}
use Rattle.keybits.specs.Keys.{place_of, generation_of}
use Rattle.seqpool.specs.declared.act.Act.{Act}
use Rattle.seqpool.specs.declared.act.Act.TheVariants as acts
use Rattle.seqpool.specs.Pool.{with, retired, Spot, spot, lane_of, fresh, pool_after, IsLegal}
use Rattle.seqpool.specs.Histories.{acts_of}
use Rattle.seqpool.proofs.Growth.{pool-snoc, legal-rest, after-here}
use Rattle.seqpool.proofs.Ranks.{current-key}
use Rattle.poolsteps.proofs.Staying.{place-stays}

-- the last act of a lane stands in the history, and behind it none of the lane's
pub record LastOf (lane : ℕ) (history : List Act) (act : Act) : Type 0 where
  pub before : List Act
  pub behind : List Act
  pub is : history ≡ before ++ act ∷ behind
  pub none : acts_of lane behind ≡ []

one-before : {lane : ℕ} {history : List Act} {act : Act} (first : Act) → LastOf lane history act → LastOf lane (first ∷ history) act
one-before first last = record { before = first ∷ last.before; behind = last.behind; is = ap (λ (xs : List Act). first ∷ xs) last.is; none = last.none }

own-first : (lane : ℕ) (first : Act) (history mine : List Act) (act : Act) → ((rest : List Act) → acts_of lane history ≡ rest ++ act ∷ [] → LastOf lane history act)
    → first ∷ acts_of lane history ≡ mine ++ act ∷ [] → LastOf lane (first ∷ history) act
own-first lane first history [] act more is =
    let one : first ≡ act = cc is in
    let none : acts_of lane history ≡ [] = cc is in
    record { before = []; behind = history; is = ap (λ (x : Act). x ∷ history) one; none = none }
own-first lane first history (x ∷ mine) act more is = let rest : acts_of lane history ≡ mine ++ act ∷ [] = cc is in one-before first (more mine rest)

pub last-of : (lane : ℕ) (history mine : List Act) (act : Act) → acts_of lane history ≡ mine ++ act ∷ [] → LastOf lane history act
last-of lane [] [] act same = absurd (cc same)
last-of lane [] (x ∷ mine) act same = absurd (cc same)
last-of lane (first ∷ history) mine act same = ⊎_elim
    (λ (own : lane_of first == lane ≡ true). own-first lane first history mine act (λ rest e. last-of lane history rest act e)
    (sym (ap (λ (b : Bool). cond b (first ∷ acts_of lane history) (acts_of lane history)) own) ∙ same))
    (λ (other : lane_of first == lane ≡ false).
    one-before first (last-of lane history mine act (sym (ap (λ (b : Bool). cond b (first ∷ acts_of lane history) (acts_of lane history)) other) ∙ same)))
    (cases_Bool (lane_of first == lane))

-- where a lane's last act reclaimed a place below the last generation, the place is with it
pub reclaimed-with : (z : Shape) (lane key : ℕ) (history mine : List Act) → IsLegal z history → acts_of lane history ≡ mine ++ acts.Reclaim lane key ∷ []
    → generation_of key ≢ z.last_generation → (pool_after z history (place_of key)).phase ≡ with lane
reclaimed-with z lane key history mine legal same below =
    let last = last-of lane history mine (acts.Reclaim lane key) same in
    let act : Act = acts.Reclaim lane key in
    let first : List Act = last.before in
    let parts : IsLegal z (first ++ act ∷ last.behind) = subst (IsLegal z) last.is legal in
    let now = current-key z (pool_after z first) key (legal-rest z fresh first (act ∷ last.behind) parts).1.0 in
    let s : Spot = pool_after z first (place_of key) in
    let off : s.generation == z.last_generation ≡ false = ne_eqb s.generation z.last_generation (λ is. below (sym now.1 ∙ is)) in
    let then : pool_after z (first ++ act ∷ []) (place_of key) ≡ spot (s.generation + 1) (with lane) =
    ap (λ pool. pool (place_of key)) (pool-snoc z fresh first act)
    ∙ (after-here z (pool_after z first) act (place_of key) (eq-eqb (place_of key) (place_of key) refl)
    ∙ ap (λ (b : Bool). cond b (spot s.generation retired) (spot (s.generation + 1) (with lane))) off) in
    let joined : (first ++ act ∷ []) ++ last.behind ≡ first ++ act ∷ last.behind = append_assoc first (act ∷ []) last.behind in
    let stays = place-stays z lane (place_of key) (first ++ act ∷ []) last.behind (subst (IsLegal z) (sym joined) parts) last.none (ap (λ (x : Spot). x.phase) then) in
    subst (λ (h : List Act). (pool_after z h (place_of key)).phase ≡ with lane) (joined ∙ sym last.is) stays.0
