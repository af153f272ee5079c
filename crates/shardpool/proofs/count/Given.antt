-- The places whose bits are set in rows of a shard: those that guests returned.
use Rattle.std.proofs.Common.{◌≡◌, ◌≢◌, ⊎_elim, ℕ, zero, suc, ◌+◌, ◌-◌, ◌*◌, ◌/◌, ◌%◌, ◌^◌, ◌<◌, ◌≤◌, Bool, true, false, cond, nat_le, List, [], ◌∷◌, length, ap, sym, ◌∙◌, subst, arith, lit<}
use Rattle.std.proofs.lemmas.Bool.{cases_Bool, leb-true, le-leb, and_from, lt-ltb}
use Rattle.std.specs.Prelude.{nat_lt}
use mathlib.Core.Logic.{dite}
use native.Mathlib.Decide.{ℕ_discrete}
use Rattle.core.specs.declared.slots.Slots.{Slots}
use Rattle.core.specs.Mem.Slots.{slots_items}
use Rattle.keybits.specs.declared.shape.Shape.{Shape}
use Rattle.keybits.specs.Places.{shard_of, page_of, slot_of}
use Rattle.keybits.specs.Shapes.{is_place}
use Rattle.keybits.specs.Counts.{times}
use Rattle.keybits.specs.Rows.{row_place, row_word, row_places, set_places}
use Rattle.keybits.proofs.CountLemmas.{times-append, none_at, no_times}
use Rattle.seqpool.specs.Pool.{has}
use Rattle.steplaws.proofs.HomePlaces.{has-none}
use Rattle.keybits.proofs.RowLemmas.{places-from, places-once, set-places-are}
use Rattle.keybits.proofs.ShapeLemmas.{is_place-parts}
use Rattle.keybits.proofs.PlaceLemmas.{place_at-parts}
use Rattle.poolsteps.specs.Layout.{row_count, has_row, words_in}
use Rattle.shardpool.specs.Marks.{rows_of_page, row_given, pages_given}

-- the words of a shard's rows of bits
abbrev pub shard_bits : Shape → Slots ℕ → ℕ → ℕ → ℕ
shard_bits z words shard = (words_in z (slots_items words)).bits shard

-- ---- the places of one word

no-le : (a b : ℕ) → b < a → nat_le a b ≡ false
no-le a b high = ⊎_elim (λ (low : nat_le a b ≡ true). let bad = leb-true a b low in absurd (omega (arith, bad, high))) (λ (not : nat_le a b ≡ false). not) (cases_Bool (nat_le a b))

double : (n : ℕ) → 2 ^ suc n ≡ 2 ^ n + 2 ^ n
double n = omega arith

power-rises : (n k : ℕ) → 2 ^ n ≤ 2 ^ (k + n)
power-rises n zero = let same : zero + n ≡ n = omega arith in subst (λ (m : ℕ). 2 ^ n ≤ 2 ^ m) (sym same) (omega arith)
power-rises n (suc k) =
    let rest = power-rises n k in let same : suc k + n ≡ suc (k + n) = omega arith in let twice = double (k + n) in
    subst (λ (m : ℕ). 2 ^ n ≤ 2 ^ m) (sym same) (omega (arith, rest, twice))

module _ (shard row : ℕ) where
  -- no bit from the n-th on is set
  skip : (k n word : ℕ) → word < 2 ^ n → row_places shard row word (k + n) ≡ row_places shard row word n
  skip zero n word low = ap (row_places shard row word) (omega arith)
  skip (suc k) n word low =
      let rises = power-rises n k in
      ap (row_places shard row word) (let same : suc k + n ≡ suc (k + n) = omega arith in same)
      ∙ (ap (λ (b : Bool). cond b (row_place shard row (k + n) ∷ row_places shard row (word - 2 ^ (k + n)) (k + n)) (row_places shard row word (k + n)))
      (no-le (2 ^ (k + n)) word (omega (arith, low, rises))) ∙ skip k n word low)

  -- a bit of a word of 64 bits is a number of 64 bits
  pub bit-fits : (n : ℕ) → n < 64 → 2 ^ n < 2 ^ 64
  bit-fits n low =
      let rises = power-rises (suc n) (63 - n) in
      let same : (63 - n) + suc n ≡ 64 = omega (arith, low) in
      let most : 2 ^ suc n ≤ 2 ^ 64 = subst (λ (m : ℕ). 2 ^ suc n ≤ 2 ^ m) same rises in
      let twice = double n in
      let some = power-rises 0 n in
      let at : 2 ^ (n + 0) ≡ 2 ^ n = ap (λ (m : ℕ). 2 ^ m) (omega arith) in
      omega (arith, most, twice, some, at)

  -- of the highest bit that is set
  first : (n word : ℕ) → 2 ^ n ≤ word → word < 2 * 2 ^ n → row_places shard row word (suc n) ≡ row_place shard row n ∷ row_places shard row (word - 2 ^ n) n
  first n word some low =
      ap (λ (b : Bool). cond b (row_place shard row n ∷ row_places shard row (word - 2 ^ n) n) (row_places shard row word n)) (le-leb (2 ^ n) word some)

  all-bits : (n most word : ℕ) → n ≤ most → word < 2 ^ n → row_places shard row word most ≡ row_places shard row word n
  all-bits n most word few low =
      let same : most ≡ (most - n) + n = omega arith in ap (row_places shard row word) same ∙ skip (most - n) n word low

  -- the place of the highest bit is the first, and the others are those of the word without it
  pub set-first : (n word : ℕ) → n < 64 → 2 ^ n ≤ word → word < 2 * 2 ^ n → set_places shard row word ≡ row_place shard row n ∷ set_places shard row (word - 2 ^ n)
  set-first n word few some low =
      let twice = double n in
      let rest : word - 2 ^ n < 2 ^ n = omega (arith, some, low) in
      set-places-are shard row word
      ∙ (all-bits (suc n) 64 word (omega arith) (omega (arith, low, twice))
      ∙ (first n word some low ∙ ap (λ (places : List ℕ). row_place shard row n ∷ places)
      (sym (set-places-are shard row (word - 2 ^ n) ∙ all-bits n 64 (word - 2 ^ n) (omega arith) rest))))

  -- each place of the lowest bits has one of these
  low-bits : (n word q : ℕ) → 0 < times q (row_places shard row word n) → (bit : ℕ) × (bit < n) × (q ≡ row_place shard row bit)
  low-bits zero word q some = absurd (omega (arith, some))
  low-bits (suc n) word q some = ⊎_elim
      (λ (on : nat_le (2 ^ n) word ≡ true).
      let is : row_places shard row word (suc n) ≡ row_place shard row n ∷ row_places shard row (word - 2 ^ n) n =
      ap (λ (b : Bool). cond b (row_place shard row n ∷ row_places shard row (word - 2 ^ n) n) (row_places shard row word n)) on in
      let more : 0 < times q (row_place shard row n ∷ row_places shard row (word - 2 ^ n) n) = subst (λ (l : List ℕ). 0 < times q l) is some in
      dite (ℕ_discrete (row_place shard row n) q)
      (λ (here : row_place shard row n ≡ q). (n, omega arith, sym here))
      (λ (other : row_place shard row n ≢ q).
      let none = none_at (row_place shard row n) q other in
      let r = low-bits n (word - 2 ^ n) q (omega (arith, more, none)) in let low = r.1 in (r.0, omega (arith, low), r.2)))
      (λ (off : nat_le (2 ^ n) word ≡ false).
      let is : row_places shard row word (suc n) ≡ row_places shard row word n =
      ap (λ (b : Bool). cond b (row_place shard row n ∷ row_places shard row (word - 2 ^ n) n) (row_places shard row word n)) off in
      let r = low-bits n word q (subst (λ (l : List ℕ). 0 < times q l) is some) in let low = r.1 in (r.0, omega (arith, low), r.2))
      (cases_Bool (nat_le (2 ^ n) word))

  -- so the place of the highest bit is none of the others
  pub set-once : (n word : ℕ) → n < 64 → 2 ^ n ≤ word → word < 2 * 2 ^ n → has (set_places shard row (word - 2 ^ n)) (row_place shard row n) ≡ false
  set-once n word few some low =
      let twice = double n in
      let rest : word - 2 ^ n < 2 ^ n = omega (arith, some, low) in
      let is : set_places shard row (word - 2 ^ n) ≡ row_places shard row (word - 2 ^ n) n =
      set-places-are shard row (word - 2 ^ n) ∙ all-bits n 64 (word - 2 ^ n) (omega (arith, few)) rest in
      let none : times (row_place shard row n) (row_places shard row (word - 2 ^ n) n) ≡ 0 =
      no_times (times (row_place shard row n) (row_places shard row (word - 2 ^ n) n)) (λ among.
      let r = low-bits n (word - 2 ^ n) (row_place shard row n) among in let below = r.1 in let same = r.2 in omega (arith, below, same)) in
      has-none (row_place shard row n) (set_places shard row (word - 2 ^ n)) (ap (times (row_place shard row n)) is ∙ none)

  -- there are no more than bits
  few-bits : (n word : ℕ) → length (row_places shard row word n) ≤ n
  few-bits zero word = omega arith
  few-bits (suc n) word = ⊎_elim
      (λ (on : nat_le (2 ^ n) word ≡ true).
      let is = ap (λ (b : Bool). length (cond b (row_place shard row n ∷ row_places shard row (word - 2 ^ n) n) (row_places shard row word n))) on in
      let rest = few-bits n (word - 2 ^ n) in omega (arith, is, rest))
      (λ (off : nat_le (2 ^ n) word ≡ false).
      let is = ap (λ (b : Bool). length (cond b (row_place shard row n ∷ row_places shard row (word - 2 ^ n) n) (row_places shard row word n))) off in
      let rest = few-bits n word in omega (arith, is, rest))
      (cases_Bool (nat_le (2 ^ n) word))

  pub set-few : (word : ℕ) → length (set_places shard row word) ≤ 64
  set-few word = subst (λ (n : ℕ). n ≤ 64) (sym (ap length (set-places-are shard row word))) (few-bits 64 word)

  -- a word of 0 has none
  pub set-none : (word : ℕ) → word ≡ 0 → set_places shard row word ≡ []
  set-none word none = set-places-are shard row word ∙ all-bits 0 64 word (omega arith) (omega (arith, none))

  -- those of a row's word are just those whose bits it is of
  pub set-from : (home : ℕ → Bool) (q : ℕ) → 0 < times q (set_places shard row (row_word shard row home)) → home q ≡ true
  set-from home q some =
      let r = places-from shard row 64 (λ bit. home (row_place shard row bit)) q
      (subst (λ (places : List ℕ). 0 < times q places) (set-places-are shard row (row_word shard row home)) some) in
      ap home r.is ∙ r.set_is

  pub set-has : (home : ℕ → Bool) (bit : ℕ) → bit < 64 → home (row_place shard row bit) ≡ true
      → 0 < times (row_place shard row bit) (set_places shard row (row_word shard row home))
  set-has home bit below is =
      let one = places-once shard row 64 (λ k. home (row_place shard row k)) bit below is in
      subst (λ (places : List ℕ). 0 < times (row_place shard row bit) places) (sym (set-places-are shard row (row_word shard row home)))
      (subst (λ (n : ℕ). 0 < n) (sym one) (lit< tt))

-- ---- the places of rows

module _ (shard : ℕ) (bits : ℕ → ℕ) where
  -- those of a row among them
  pub row-among : (first rows row : ℕ) → row < rows → (q : ℕ) → 0 < times q (set_places shard (first + row) (bits (first + row)))
      → 0 < times q (row_given shard bits first rows)
  row-among first zero row low q some = absurd (omega (arith, low))
  row-among first (suc rows) row low q some =
      let both = times-append q (row_given shard bits first rows) (set_places shard (first + rows) (bits (first + rows))) in
      dite (ℕ_discrete row rows)
      (λ (here : row ≡ rows).
      let last : 0 < times q (set_places shard (first + rows) (bits (first + rows))) = subst (λ (n : ℕ). 0 < times q (set_places shard (first + n) (bits (first + n)))) here some in
      omega (arith, both, last))
      (λ (other : row ≢ rows). let rest = row-among first rows row (omega (arith, low, other)) q some in omega (arith, both, rest))

  -- each is of a row
  pub among-row : (first rows q : ℕ) → 0 < times q (row_given shard bits first rows)
      → (row : ℕ) × (row < rows) × (0 < times q (set_places shard (first + row) (bits (first + row))))
  among-row first zero q some = absurd (omega (arith, some))
  among-row first (suc rows) q some =
      let both = times-append q (row_given shard bits first rows) (set_places shard (first + rows) (bits (first + rows))) in
      dite (ℕ_discrete (times q (row_given shard bits first rows)) 0)
      (λ (none : times q (row_given shard bits first rows) ≡ 0). (rows, omega arith, omega (arith, both, none, some)))
      (λ (more : times q (row_given shard bits first rows) ≢ 0).
      let r = among-row first rows q (omega (arith, more)) in let low = r.1 in (r.0, omega (arith, low), r.2))

  module _ (z : Shape) where
    pub page-among : (pages page : ℕ) → page < pages → (q : ℕ) → 0 < times q (row_given shard bits (64 * page) (rows_of_page z page)) → 0 < times q (pages_given z shard bits pages)
    page-among zero page low q some = absurd (omega (arith, low))
    page-among (suc pages) page low q some =
        let both = times-append q (pages_given z shard bits pages) (row_given shard bits (64 * pages) (rows_of_page z pages)) in
        dite (ℕ_discrete page pages)
        (λ (here : page ≡ pages).
        let last : 0 < times q (row_given shard bits (64 * pages) (rows_of_page z pages)) = subst (λ (n : ℕ). 0 < times q (row_given shard bits (64 * n) (rows_of_page z n))) here some in
        omega (arith, both, last))
        (λ (other : page ≢ pages). let rest = page-among pages page (omega (arith, low, other)) q some in omega (arith, both, rest))

    pub among-page : (pages q : ℕ) → 0 < times q (pages_given z shard bits pages)
        → (page : ℕ) × (page < pages) × (0 < times q (row_given shard bits (64 * page) (rows_of_page z page)))
    among-page zero q some = absurd (omega (arith, some))
    among-page (suc pages) q some =
        let both = times-append q (pages_given z shard bits pages) (row_given shard bits (64 * pages) (rows_of_page z pages)) in
        dite (ℕ_discrete (times q (pages_given z shard bits pages)) 0)
        (λ (none : times q (pages_given z shard bits pages) ≡ 0). (pages, omega arith, omega (arith, both, none, some)))
        (λ (more : times q (pages_given z shard bits pages) ≢ 0).
        let r = among-page pages q (omega (arith, more)) in let low = r.1 in (r.0, omega (arith, low), r.2))

-- ---- the row and the bit of a place

pub at-row : (place : ℕ) → row_place (shard_of place) (64 * page_of place + slot_of place / 64) (slot_of place % 64) ≡ place
at-row place = let parts = place_at-parts place in omega (arith, parts)

pub row-in-page : (z : Shape) (place : ℕ) → is_place z place ≡ true → slot_of place / 64 < rows_of_page z (page_of place)
row-in-page z place inside = let low = (is_place-parts z place inside).2 in omega (arith, low)

module _ (z : Shape) (shard : ℕ) (bits : ℕ → ℕ) (home : ℕ → Bool) (are : (row : ℕ) → bits row ≡ row_word shard row home) where
  -- each place that they tell of is home
  pub given-home : (pages q : ℕ) → 0 < times q (pages_given z shard bits pages) → home q ≡ true
  given-home pages q some =
      let p = among-page shard bits z pages q some in
      let r = among-row shard bits (64 * p.0) (rows_of_page z p.0) q p.2 in
      let row : ℕ = 64 * p.0 + r.0 in
      set-from shard row home q (subst (λ (word : ℕ). 0 < times q (set_places shard row word)) (are row) r.2)

  -- and each home place of these pages is among them
  pub home-given : (pages q : ℕ) → is_place z q ≡ true → shard_of q ≡ shard → page_of q < pages → home q ≡ true → 0 < times q (pages_given z shard bits pages)
  home-given pages q inside own low is =
      let row : ℕ = 64 * page_of q + slot_of q / 64 in
      let bit : ℕ = slot_of q % 64 in
      let at : row_place shard row bit ≡ q = ap (λ (s : ℕ). row_place s row bit) (sym own) ∙ at-row q in
      let here = set-has shard row home bit (omega arith) (ap home at ∙ is) in
      let there : 0 < times q (set_places shard row (bits row)) =
      subst (λ (word : ℕ). 0 < times q (set_places shard row word)) (sym (are row)) (subst (λ (p : ℕ). 0 < times p (set_places shard row (row_word shard row home))) at here) in
      page-among shard bits z pages (page_of q) low q (row-among shard bits (64 * page_of q) (rows_of_page z (page_of q)) (slot_of q / 64) (row-in-page z q inside) q there)

-- ---- fewer rows and pages

pub rows-among : (shard : ℕ) (bits : ℕ → ℕ) (first some rows : ℕ) → some ≤ rows → (q : ℕ) → 0 < times q (row_given shard bits first some) → 0 < times q (row_given shard bits first rows)
rows-among shard bits first some rows few q is =
    let r = among-row shard bits first some q is in let low = r.1 in row-among shard bits first rows r.0 (omega (arith, low, few)) q r.2

pub all-pages-among : (shard : ℕ) (bits : ℕ → ℕ) (z : Shape) (some pages : ℕ) → some ≤ pages → (q : ℕ) → 0 < times q (pages_given z shard bits some) → 0 < times q (pages_given z shard bits pages)
all-pages-among shard bits z some pages few q is =
    let p = among-page shard bits z some q is in let low = p.1 in page-among shard bits z pages p.0 (omega (arith, low, few)) q p.2

-- the pool has a row that is below the number of rows
pub has-row : (z : Shape) (shard row : ℕ) → shard < z.lanes → row < row_count z → has_row z shard row ≡ true
has-row z shard row low below = and_from (nat_lt shard z.lanes) (nat_lt row (row_count z)) (lt-ltb shard z.lanes low) (lt-ltb row (row_count z) below)
