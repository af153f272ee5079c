-- Acts of other lanes leave what is a lane's own, and no act changes the generation of a place that is with a lane.
use Rattle.std.proofs.Common.{◌≡◌, ◌≢◌, ◌↔◌, ℕ, zero, suc, ◌+◌, Bool, true, false, cond, eqb, ◌==◌, List, [], ◌∷◌, take, Some, None, refl, sym, ap, ◌∙◌, subst, eq-eqb, ne_eqb, add-one, inl, inr}
use Rattle.std.proofs.lemmas.Bool.{cases_Bool}
use mathlib.Core.Logic.{dite}
use native.Mathlib.Decide.{ℕ_discrete}
use Rattle.keybits.specs.declared.shape.Shape.{Shape}
use Rattle.keybits.specs.Keys.{place_of}
use Rattle.seqpool.specs.declared.act.Act.{Act}
use Rattle.seqpool.specs.declared.act.Act.TheVariants.{Publish, Get, Release, Clear, Reclaim, Home, Collect}
use Rattle.seqpool.specs.Pool.{Phase, with, published, home, retired, Spot, Pool, spot, is_marked, references, gained, lost, marked, has, lane_of, Allowed, touches, changed, after, fresh, pool_from}
use Rattle.seqpool.specs.Histories.{At}
use Rattle.seqpool.specs.Laws.{OwnLaw}
use Rattle.seqpool.proofs.Growth.{after-here, after-else, legal-at}
use Rattle.seqpool.proofs.Ranks.{all-home}
use Rattle.seqpool.proofs.Tallies.{references-stay}

-- both or neither of the two are with the lane
abbrev pub Alike : ℕ → Phase → Phase → Type 0
Alike lane f g = (f ≡ with lane) ↔ (g ≡ with lane)

alike-same : (lane : ℕ) (f g : Phase) → g ≡ f → Alike lane f g
alike-same lane f g same = (λ is. same ∙ is, λ is. sym same ∙ is)

gained-alike : (lane l : ℕ) (f : Phase) → Alike lane f (gained l f)
gained-alike lane l (with k) = (λ is. is, λ is. is)
gained-alike lane l (published c references mark) = (λ is. absurd (cc is), λ is. absurd (cc is))
gained-alike lane l home = (λ is. is, λ is. is)
gained-alike lane l retired = (λ is. is, λ is. is)

lost-alike : (lane l : ℕ) (f : Phase) → Alike lane f (lost l f)
lost-alike lane l (with k) = (λ is. is, λ is. is)
lost-alike lane l (published c references mark) = (λ is. absurd (cc is), λ is. absurd (cc is))
lost-alike lane l home = (λ is. is, λ is. is)
lost-alike lane l retired = (λ is. is, λ is. is)

marked-alike : (lane : ℕ) (f : Phase) → Alike lane f (marked f)
marked-alike lane (with k) = (λ is. is, λ is. is)
marked-alike lane (published c references mark) = (λ is. absurd (cc is), λ is. absurd (cc is))
marked-alike lane home = (λ is. is, λ is. is)
marked-alike lane retired = (λ is. is, λ is. is)

other-with : (l lane : ℕ) → l ≢ lane → with l ≡ with lane → ⊥
other-with l lane other is = let same : l ≡ lane = cc is in other same

reclaimed-not : (b : Bool) (s : Spot) (l lane : ℕ) → l ≢ lane → (cond b (spot s.generation retired) (spot (s.generation + 1) (with l))).phase ≡ with lane → ⊥
reclaimed-not true s l lane other is = cc is
reclaimed-not false s l lane other is = other-with l lane other is

-- of two spots of the same generation, either has it
either-generation : (b : Bool) (s t : Spot) → s.generation ≡ t.generation → (cond b s t).generation ≡ t.generation
either-generation true s t same = same
either-generation false s t same = refl

module _ (z : Shape) (lane : ℕ) where
  at-one : (P : Pool) (act : Act) (place one : ℕ) → ((x : ℕ) → touches act x ≡ (x == one))
      → Alike lane (P one).phase (changed z.last_generation act (P one)).phase → Alike lane (P place).phase (after z act P place).phase
  at-one P act place one of there = dite (ℕ_discrete place one)
      (λ here. subst (λ (p : ℕ). Alike lane (P p).phase (after z act P p).phase) (sym here)
      (subst (λ (t : Spot). Alike lane (P one).phase t.phase) (sym (after-here z P act one (of one ∙ eq-eqb one one refl))) there))
      (λ other. alike-same lane (P place).phase (after z act P place).phase (ap (λ (s : Spot). s.phase) (after-else z P act place (of place ∙ ne_eqb place one other))))

  pub with-stays : (P : Pool) (act : Act) (place : ℕ) → Allowed z P act → lane_of act ≢ lane → Alike lane (P place).phase (after z act P place).phase
  with-stays P (Publish l key content with_ref) place ok other =
      at-one P (Publish l key content with_ref) place (place_of key) (λ x. refl)
      (λ is. absurd (other-with l lane other (sym ok.1 ∙ is)), λ is. absurd (cc is))
  with-stays P (Get l key None) place ok other = at-one P (Get l key None) place (place_of key) (λ x. refl) (λ is. is, λ is. is)
  with-stays P (Get l key (Some content)) place ok other =
      at-one P (Get l key (Some content)) place (place_of key) (λ x. refl) (gained-alike lane l (P (place_of key)).phase)
  with-stays P (Release l key) place ok other = at-one P (Release l key) place (place_of key) (λ x. refl) (lost-alike lane l (P (place_of key)).phase)
  with-stays P (Clear l key true) place ok other = at-one P (Clear l key true) place (place_of key) (λ x. refl) (marked-alike lane (P (place_of key)).phase)
  with-stays P (Clear l key false) place ok other = at-one P (Clear l key false) place (place_of key) (λ x. refl) (λ is. is, λ is. is)
  with-stays P (Reclaim l key) place ok other =
      at-one P (Reclaim l key) place (place_of key) (λ x. refl) (
        λ is. let bad : false ≡ true = sym (ap is_marked is) ∙ ok.1 in absurd (cc bad),
        λ is. absurd (reclaimed-not (eqb (P (place_of key)).generation z.last_generation) (P (place_of key)) l lane other is),
      )
  with-stays P (Home l at) place ok other =
      at-one P (Home l at) place at (λ x. refl) (λ is. absurd (other-with l lane other (sym ok.1 ∙ is)), λ is. absurd (cc is))
  with-stays P (Collect l places) place ok other = elim (cases_Bool (has places place)) [
    | inl in_it ↦ subst (λ (t : Spot). Alike lane (P place).phase t.phase) (sym (after-here z P (Collect l places) place in_it))
        (λ is. let bad : home ≡ with lane = sym (all-home z P l places place ok.2 in_it) ∙ is in absurd (cc bad), λ is. absurd (other-with l lane other is))
    | inr not_in ↦ alike-same lane (P place).phase (after z (Collect l places) P place).phase
        (ap (λ (s : Spot). s.phase) (after-else z P (Collect l places) place not_in))
  ]

  -- a place keeps its generation where what the act makes of it has the same
  generation-same : (P : Pool) (act : Act) (place : ℕ) → (changed z.last_generation act (P place)).generation ≡ (P place).generation
      → (after z act P place).generation ≡ (P place).generation
  generation-same P act place same = either-generation (touches act place) (changed z.last_generation act (P place)) (P place) same

  -- an act leaves the generation of a place that is with a lane: only that of a marked place changes
  pub generation-stays : (P : Pool) (act : Act) (place : ℕ) → Allowed z P act → (P place).phase ≡ with lane
      → (after z act P place).generation ≡ (P place).generation
  generation-stays P (Publish l key content with_ref) place ok is = generation-same P (Publish l key content with_ref) place refl
  generation-stays P (Get l key None) place ok is = generation-same P (Get l key None) place refl
  generation-stays P (Get l key (Some content)) place ok is = generation-same P (Get l key (Some content)) place refl
  generation-stays P (Release l key) place ok is = generation-same P (Release l key) place refl
  generation-stays P (Clear l key true) place ok is = generation-same P (Clear l key true) place refl
  generation-stays P (Clear l key false) place ok is = generation-same P (Clear l key false) place refl
  generation-stays P (Reclaim l key) place ok is =
      let other : place ≢ place_of key = λ here.
      let bad : true ≡ false = sym ok.1 ∙ (ap (λ (p : ℕ). is_marked (P p).phase) (sym here) ∙ ap is_marked is) in cc bad in
      ap (λ (s : Spot). s.generation) (after-else z P (Reclaim l key) place (ne_eqb place (place_of key) other))
  generation-stays P (Home l at) place ok is = generation-same P (Home l at) place refl
  generation-stays P (Collect l places) place ok is = generation-same P (Collect l places) place refl

  -- one act more
  pub pool-take-more : (P : Pool) (history : List Act) (i : ℕ) (act : Act) → At history i act
      → pool_from z P (take (suc i) history) ≡ after z act (pool_from z P (take i history))
  pool-take-more P [] i act at = absurd (cc at)
  pool-take-more P (x ∷ xs) zero act at = let same : x ≡ act = cc at in ap (λ (a : Act). after z a P) same
  pool-take-more P (x ∷ xs) (suc i) act at = pool-take-more (after z x P) xs i act at

pub own-law : OwnLaw
own-law z history legal i lane act at other =
    let P : Pool = pool_from z fresh (take i history) in
    let ok = legal-at z fresh history i act legal at in
    let more : pool_from z fresh (take (i + 1) history) ≡ after z act P
    = ap (λ (n : ℕ). pool_from z fresh (take n history)) (add-one i) ∙ pool-take-more z lane fresh history i act at in (
      λ place. subst (λ (Q : Pool). Alike lane (P place).phase (Q place).phase) (sym more) (with-stays z lane P act place ok.1 other),
      λ key. subst (λ (Q : Pool). references z Q lane key ≡ references z P lane key) (sym more) (references-stay z key lane P act ok.1 other),
    )
