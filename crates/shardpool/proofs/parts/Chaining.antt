-- Link words that lead through the places of a list, one after another.
use Rattle.std.proofs.Common.{◌≡◌, ◌≢◌, ◌==◌, ℕ, ◌<◌, Bool, true, false, cond, List, [], ◌∷◌, refl, sym, ap, ◌∙◌, subst, eq-eqb, ne_eqb, if◌then◌else◌}
use Rattle.keybits.specs.declared.shape.Shape.{Shape}
use Rattle.keybits.specs.Places.{shard_of}
use Rattle.keybits.specs.Counts.{times}
use Rattle.keybits.specs.Links.{link_to, linked_place, Leads}
use Rattle.keybits.proofs.LeadLemmas.{leads-same}
use Rattle.keybits.proofs.LinkLemmas.{linked_place-link_to, link_to-positive}
use Rattle.seqpool.specs.Pool.{has, NoRepeats}
use Rattle.steplaws.proofs.HomePlaces.{has-some}
use Rattle.poolsteps.specs.Returned.{LeadsTo}

-- the word that leads to the first of these places; 0 where there is none
abbrev pub first_word : List ℕ → ℕ
first_word [] = 0
first_word (place ∷ more) = link_to place

-- the link word of each of these places leads to the next, and that of the last is 0
abbrev pub links_of : List ℕ → ℕ → ℕ
links_of [] p = 0
links_of (place ∷ more) p = if p == place then first_word more else links_of more p

-- each of these places is of the shard
abbrev pub AreOf : ℕ → List ℕ → Type 0
AreOf shard places = (place : ℕ) → has places place ≡ true → shard_of place ≡ shard

-- a word leads to the first of these places
abbrev pub Begins : ℕ → ℕ → List ℕ → Type 0
Begins shard word [] = word ≡ 0
Begins shard word (place ∷ more) = (0 < word) × (place ≡ linked_place shard word)

has-first : (place : ℕ) (more : List ℕ) → has (place ∷ more) place ≡ true
has-first place more = ap (λ (b : Bool). cond b true (has more place)) (eq-eqb place place refl)

has-later : (place : ℕ) (more : List ℕ) (p : ℕ) → has more p ≡ true → has (place ∷ more) p ≡ true
has-later place more p is = ap (λ (b : Bool). cond (p == place) true b) is ∙ either (p == place)
  where
    either : (b : Bool) → cond b true true ≡ true
    either true = refl
    either false = refl

first-begins : (shard : ℕ) (places : List ℕ) → AreOf shard places → Begins shard (first_word places) places
first-begins shard [] own = refl
first-begins shard (place ∷ more) own =
    let here : shard_of place ≡ shard = own place (has-first place more) in
    (link_to-positive place, sym (ap (λ (s : ℕ). linked_place s (link_to place)) (sym here) ∙ linked_place-link_to place))

-- so they lead through all of them
leads-through : (shard word : ℕ) (places : List ℕ) → NoRepeats places → AreOf shard places → Begins shard word places → Leads (links_of places) shard word places
leads-through shard word [] once own begins = begins
leads-through shard word (place ∷ more) once own begins =
    let rest : AreOf shard more = λ p is. own p (has-later place more p is) in
    let on : Leads (links_of more) shard (first_word more) more = leads-through shard (first_word more) more once.1 rest (first-begins shard more rest) in
    let other : (p : ℕ) → 0 < times p more → p ≢ place
    = λ p some same. let bad : true ≡ false = sym (has-some place more (subst (λ (n : ℕ). 0 < times n more) same some)) ∙ once.0 in absurd (cc bad) in
    let here : links_of (place ∷ more) place ≡ first_word more = ap (λ (b : Bool). cond b (first_word more) (links_of more place)) (eq-eqb place place refl) in
    let beside : (p : ℕ) → 0 < times p more → links_of (place ∷ more) p ≡ links_of more p
    = λ p some. ap (λ (b : Bool). cond b (first_word more) (links_of more p)) (ne_eqb p place (other p some)) in (
      begins.0,
      begins.1,
      subst (λ (w : ℕ). Leads (links_of (place ∷ more)) shard w more) (sym here) (leads-same (links_of more) (links_of (place ∷ more)) shard (first_word more) more beside on),
    )

begins-from : (z : Shape) (shard word : ℕ) (places : List ℕ) → LeadsTo z shard word places → Begins shard word places
begins-from z shard word [] leads = leads
begins-from z shard word (place ∷ more) leads = (leads.0, leads.2)

-- where a word leads to the first of a shard's places, without repeats, some link words lead from it through all
pub chain-leads : (z : Shape) (shard word : ℕ) (places : List ℕ) → NoRepeats places → AreOf shard places → LeadsTo z shard word places
    → Leads (links_of places) shard word places
chain-leads z shard word places once own leads = leads-through shard word places once own (begins-from z shard word places leads)
