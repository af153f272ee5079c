-- Links that lead through a list of places.
use Rattle.std.proofs.Common.{◌≡◌, ℕ, ◌<◌, ◌≤◌, List, [], ◌∷◌, ◌++◌, refl, sym, ◌∙◌, subst, arith}
use Rattle.keybits.specs.Places.{shard_of}
use Rattle.keybits.specs.Links.{linked_place, Leads}
use Rattle.keybits.specs.Counts.{times}
use Rattle.keybits.proofs.CountLemmas.{times-head}

-- links lead through the same list where the link words of its places are the same
pub leads-same : (f g : ℕ → ℕ) (shard word : ℕ) (places : List ℕ) → ((x : ℕ) → 0 < times x places → g x ≡ f x)
    → Leads f shard word places → Leads g shard word places
leads-same f g shard word [] same h = h
leads-same f g shard word (x ∷ more) same h =
    let at_x : g x ≡ f x = same x (times-head x more) in
    let rest : Leads g shard (f x) more = leads-same f g shard (f x) more (λ y some. same y (omega arith)) h.2 in
    (h.0, h.1, subst (λ v. Leads g shard v more) (sym at_x) rest)

-- where the link word of the last place is changed, and that of none before it, the list goes on from there
pub leads-on : (f g : ℕ → ℕ) (shard word : ℕ) (front : List ℕ) (last : ℕ) (rest : List ℕ) → ((x : ℕ) → 0 < times x front → g x ≡ f x)
    → Leads f shard word (front ++ last ∷ []) → Leads g shard (g last) rest → Leads g shard word (front ++ last ∷ rest)
leads-on f g shard word [] last rest same h on = (h.0, h.1, on)
leads-on f g shard word (x ∷ front) last rest same h on =
    let at_x : g x ≡ f x = same x (times-head x front) in
    let more : Leads g shard (f x) (front ++ last ∷ rest) = leads-on f g shard (f x) front last rest (λ y some. same y (omega arith)) h.2 on in
    (h.0, h.1, subst (λ v. Leads g shard v (front ++ last ∷ rest)) (sym at_x) more)

-- from a word the links lead through one list alone
pub leads-one : (f : ℕ → ℕ) (shard word : ℕ) (xs ys : List ℕ) → Leads f shard word xs → Leads f shard word ys → xs ≡ ys
leads-one f shard word [] [] h k = refl
leads-one f shard word [] (y ∷ ys) h k = let some : 0 < word = k.0 in absurd (omega arith)
leads-one f shard word (x ∷ xs) [] h k = let some : 0 < word = h.0 in absurd (omega arith)
leads-one f shard word (x ∷ xs) (y ∷ ys) h k =
    let same : x ≡ y = h.1 ∙ sym k.1 in
    let rest : xs ≡ ys = leads-one f shard (f x) xs ys h.2 (subst (λ v. Leads f shard (f v) ys) (sym same) k.2) in
    λ i. same i ∷ rest i

-- from 0 the links lead nowhere
pub leads-zero : (f : ℕ → ℕ) (shard word : ℕ) (places : List ℕ) → word ≡ 0 → Leads f shard word places → places ≡ []
leads-zero f shard word [] none h = refl
leads-zero f shard word (x ∷ more) none h = let some : 0 < word = h.0 in absurd (omega arith)

-- a word from which the links lead through places of the shard is a link word
pub leads-word : (f : ℕ → ℕ) (shard word : ℕ) (places : List ℕ) → ((x : ℕ) → 0 < times x places → shard_of x ≡ shard)
    → Leads f shard word places → word ≤ 65536
leads-word f shard word [] own h = omega arith
leads-word f shard word (x ∷ more) own h =
    let here : shard_of x ≡ shard = own x (times-head x more) in
    let some : 0 < word = h.0 in
    let is : x ≡ linked_place shard word = h.1 in
    omega arith
