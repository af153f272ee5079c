-- What items become: one after the other, beside others, and in another order.
use Rattle.std.proofs.Common.{◌≡◌, ◌⊎◌, inl, inr, ℕ, ◌+◌, ◌*◌, List, [], ◌∷◌, ◌++◌, Option, length, refl, ap, sym, ◌∙◌, subst, arith, length-append}
use Rattle.keybits.specs.declared.shape.Shape.{Shape}
use Rattle.traces.specs.declared.script.Command.{Command}
use Rattle.traces.specs.declared.reply.Reply.{Reply}
use Rattle.outcomes.specs.Among.{IsIn, AreAll, IsCount}
use Rattle.outcomes.specs.Schedules.{IsUpTo}
use Rattle.outcomes.specs.Search.{Item, Goes, Ends, came, weight, weighed, AreCounts, Become}
use Rattle.outcomes.proofs.AmongLemmas.{in-front, in-behind, in-either, once-append, count-none, count-same, fronted, fronted-length, in-fronted, from-fronted, fronted-once}
use Rattle.outcomes.proofs.ScheduleLemmas.{upto-refl, upto-trans}

-- sums of counts
swap-sum : (a b c : ℕ) → a + (b + c) ≡ b + (a + c)
swap-sum a b c = omega arith

-- a number times a sum, and a sum times a number
times-sum : (a b c : ℕ) → a * (b + c) ≡ a * b + a * c
times-sum a b c = grind arith

sum-times : (a b c : ℕ) → (a + b) * c ≡ a * c + b * c
sum-times a b c = grind arith

times-none : (a b : ℕ) → a * 0 + b ≡ b
times-none a b = grind arith

module _ (z : Shape) (scripts : List (List Command)) where
  -- how a run of an item is found among others
  abbrev Found : List Item → Item → List ℕ → List (List Reply) → Type 0
  Found others item schedule replies = (other : Item) × IsIn other others × ((shorter : List ℕ) × Goes z scripts other shorter replies
      × IsUpTo (came other ++ shorter) (came item ++ schedule))

  pub become-refl : (xs : List Item) → Become z scripts xs xs
  become-refl xs = record {
    runs = λ item is schedule replies goes. (item, is, (schedule, goes, upto-refl (came item ++ schedule)));
    counts = λ wanted counts are. (counts, are, refl);
  }

  pub become-trans : (xs ys zs : List Item) → Become z scripts xs ys → Become z scripts ys zs → Become z scripts xs zs
  become-trans xs ys zs f g = record {
    runs = λ item is schedule replies goes.
        let one = f.runs item is schedule replies goes in
        let two = g.runs one.0 one.1 one.2.0 replies one.2.1 in (
          two.0,
          two.1,
          (
            two.2.0,
            two.2.1,
            upto-trans (came two.0 ++ two.2.0) (came one.0 ++ one.2.0) (came item ++ schedule) two.2.2 one.2.2,
          ),
        );
    counts = λ wanted counts are.
        let two = g.counts wanted counts are in
        let one = f.counts wanted two.0 two.1 in
        (one.0, one.1, one.2 ∙ two.2);
  }

  cons-runs : (x : Item) (xs ys : List Item) → Become z scripts xs ys
      → (item : Item) → IsIn item (x ∷ xs) → (schedule : List ℕ) (replies : List (List Reply)) → Goes z scripts item schedule replies
      → Found (x ∷ ys) item schedule replies
  cons-runs x xs ys f item (inl e) schedule replies goes = (item, inl e, (schedule, goes, upto-refl (came item ++ schedule)))
  cons-runs x xs ys f item (inr is) schedule replies goes =
      let one = f.runs item is schedule replies goes in (one.0, inr one.1, one.2)

  cons-counts : (x : Item) (xs ys : List Item) → Become z scripts xs ys
      → (wanted : Option (List (List Reply))) (counts : List ℕ) → AreCounts z scripts wanted (x ∷ ys) counts
      → (before : List ℕ) × AreCounts z scripts wanted (x ∷ xs) before × (weighed (x ∷ xs) before ≡ weighed (x ∷ ys) counts)
  cons-counts x xs ys f wanted [] are = absurd are
  cons-counts x xs ys f wanted (count ∷ counts) are =
      let rest = f.counts wanted counts are.1 in
      (count ∷ rest.0, (are.0, rest.1), ap (λ (n : ℕ). weight x * count + n) rest.2)

  pub become-cons : (x : Item) (xs ys : List Item) → Become z scripts xs ys → Become z scripts (x ∷ xs) (x ∷ ys)
  become-cons x xs ys f = record { runs = cons-runs x xs ys f; counts = cons-counts x xs ys f }

  swap-in : (x y item : Item) (xs : List Item) → IsIn item (x ∷ y ∷ xs) → IsIn item (y ∷ x ∷ xs)
  swap-in x y item xs (inl e) = inr (inl e)
  swap-in x y item xs (inr (inl e)) = inl e
  swap-in x y item xs (inr (inr is)) = inr (inr is)

  swap-counts : (x y : Item) (xs : List Item) (wanted : Option (List (List Reply))) (counts : List ℕ)
      → AreCounts z scripts wanted (y ∷ x ∷ xs) counts
      → (before : List ℕ) × AreCounts z scripts wanted (x ∷ y ∷ xs) before × (weighed (x ∷ y ∷ xs) before ≡ weighed (y ∷ x ∷ xs) counts)
  swap-counts x y xs wanted [] are = absurd are
  swap-counts x y xs wanted (m ∷ []) are = absurd are.1
  swap-counts x y xs wanted (m ∷ n ∷ counts) are =
      (n ∷ m ∷ counts, (are.1.0, (are.0, are.1.1)), swap-sum (weight x * n) (weight y * m) (weighed xs counts))

  pub become-swap : (x y : Item) (xs : List Item) → Become z scripts (x ∷ y ∷ xs) (y ∷ x ∷ xs)
  become-swap x y xs = record {
    runs = λ item is schedule replies goes.
        (item, swap-in x y item xs is, (schedule, goes, upto-refl (came item ++ schedule)));
    counts = swap-counts x y xs;
  }

  -- the runs of an item are those of another, which was come to by no later schedule
  pub record StandsFor (x y : Item) : Type 0 where
    pub to : (schedule : List ℕ) (replies : List (List Reply)) → Goes z scripts x schedule replies → Goes z scripts y schedule replies
    pub back : (schedule : List ℕ) (replies : List (List Reply)) → Goes z scripts y schedule replies → Goes z scripts x schedule replies
    pub first : (schedule : List ℕ) (replies : List (List Reply)) → Goes z scripts x schedule replies
        → IsUpTo (came y ++ schedule) (came x ++ schedule)

  same-count : (x y : Item) (count : ℕ) (wanted : Option (List (List Reply))) → StandsFor x y → IsCount (Ends z scripts wanted y) count
      → IsCount (Ends z scripts wanted x) count
  same-count x y count wanted s is = count-same (Ends z scripts wanted x) (Ends z scripts wanted y) count
      (λ schedule e. (e.0, e.1, s.to schedule e.0 e.2)) (λ schedule e. (e.0, e.1, s.back schedule e.0 e.2)) is

  merge-runs : (x y m : Item) (xs : List Item) → StandsFor x m → StandsFor y m
      → (item : Item) → IsIn item (x ∷ y ∷ xs) → (schedule : List ℕ) (replies : List (List Reply)) → Goes z scripts item schedule replies
      → Found (m ∷ xs) item schedule replies
  merge-runs x y m xs s t item (inl e) schedule replies goes =
      subst (λ (i : Item). Found (m ∷ xs) i schedule replies) (sym e)
      (let g = subst (λ (i : Item). Goes z scripts i schedule replies) e goes in
      (m, inl refl, (schedule, s.to schedule replies g, s.first schedule replies g)))
  merge-runs x y m xs s t item (inr (inl e)) schedule replies goes =
      subst (λ (i : Item). Found (m ∷ xs) i schedule replies) (sym e)
      (let g = subst (λ (i : Item). Goes z scripts i schedule replies) e goes in
      (m, inl refl, (schedule, t.to schedule replies g, t.first schedule replies g)))
  merge-runs x y m xs s t item (inr (inr is)) schedule replies goes =
      (item, inr is, (schedule, goes, upto-refl (came item ++ schedule)))

  merge-weights : (a b m n w : ℕ) → m ≡ a + b → a * n + (b * n + w) ≡ m * n + w
  merge-weights a b m n w e = let t = sum-times a b n in
      let u : m * n ≡ (a + b) * n = ap (λ (k : ℕ). k * n) e in omega arith

  merge-counts : (x y m : Item) (xs : List Item) → StandsFor x m → StandsFor y m → weight m ≡ weight x + weight y
      → (wanted : Option (List (List Reply))) (counts : List ℕ) → AreCounts z scripts wanted (m ∷ xs) counts
      → (before : List ℕ) × AreCounts z scripts wanted (x ∷ y ∷ xs) before × (weighed (x ∷ y ∷ xs) before ≡ weighed (m ∷ xs) counts)
  merge-counts x y m xs s t e wanted [] are = absurd are
  merge-counts x y m xs s t e wanted (n ∷ counts) are = (
    n ∷ n ∷ counts,
    (same-count x m n wanted s are.0, (same-count y m n wanted t are.0, are.1)),
    merge-weights (weight x) (weight y) (weight m) n (weighed xs counts) e,
  )

  pub become-merged : (x y m : Item) (xs : List Item) → StandsFor x m → StandsFor y m → weight m ≡ weight x + weight y
      → Become z scripts (x ∷ y ∷ xs) (m ∷ xs)
  become-merged x y m xs s t e = record { runs = merge-runs x y m xs s t; counts = merge-counts x y m xs s t e }

  same-runs : (x y : Item) (xs : List Item) → StandsFor x y
      → (item : Item) → IsIn item (x ∷ xs) → (schedule : List ℕ) (replies : List (List Reply)) → Goes z scripts item schedule replies
      → Found (y ∷ xs) item schedule replies
  same-runs x y xs s item (inl e) schedule replies goes =
      subst (λ (i : Item). Found (y ∷ xs) i schedule replies) (sym e)
      (let g = subst (λ (i : Item). Goes z scripts i schedule replies) e goes in
      (y, inl refl, (schedule, s.to schedule replies g, s.first schedule replies g)))
  same-runs x y xs s item (inr is) schedule replies goes = (item, inr is, (schedule, goes, upto-refl (came item ++ schedule)))

  same-counts : (x y : Item) (xs : List Item) → StandsFor x y → weight y ≡ weight x
      → (wanted : Option (List (List Reply))) (counts : List ℕ) → AreCounts z scripts wanted (y ∷ xs) counts
      → (before : List ℕ) × AreCounts z scripts wanted (x ∷ xs) before × (weighed (x ∷ xs) before ≡ weighed (y ∷ xs) counts)
  same-counts x y xs s e wanted [] are = absurd are
  same-counts x y xs s e wanted (n ∷ counts) are = (
    n ∷ counts,
    (same-count x y n wanted s are.0, are.1),
    ap (λ (w : ℕ). w * n + weighed xs counts) (sym e),
  )

  pub become-same : (x y : Item) (xs : List Item) → StandsFor x y → weight y ≡ weight x → Become z scripts (x ∷ xs) (y ∷ xs)
  become-same x y xs s e = record { runs = same-runs x y xs s; counts = same-counts x y xs s e }

  drop-runs : (x : Item) (xs : List Item) → ((schedule : List ℕ) (replies : List (List Reply)) → Goes z scripts x schedule replies → ⊥)
      → (item : Item) → IsIn item (x ∷ xs) → (schedule : List ℕ) (replies : List (List Reply)) → Goes z scripts item schedule replies
      → Found xs item schedule replies
  drop-runs x xs none item (inl e) schedule replies goes =
      absurd (none schedule replies (subst (λ (i : Item). Goes z scripts i schedule replies) e goes))
  drop-runs x xs none item (inr is) schedule replies goes = (item, is, (schedule, goes, upto-refl (came item ++ schedule)))

  -- an item without runs
  pub become-dropped : (x : Item) (xs : List Item)
      → ((schedule : List ℕ) (replies : List (List Reply)) → Goes z scripts x schedule replies → ⊥) → Become z scripts (x ∷ xs) xs
  become-dropped x xs none = record {
    runs = drop-runs x xs none;
    counts = λ wanted counts are. (
      0 ∷ counts,
      (count-none (Ends z scripts wanted x) (λ schedule e. none schedule e.0 e.2), are),
      times-none (weight x) (weighed xs counts),
    );
  }

  -- the runs of an item are those of another behind a turn of a lane, and those of a third
  pub record SplitsInto (lane : ℕ) (x c y : Item) : Type 0 where
    pub to : (schedule : List ℕ) (replies : List (List Reply)) → Goes z scripts x schedule replies
        → ((rest : List ℕ) × (schedule ≡ lane ∷ rest) × Goes z scripts c rest replies) ⊎ Goes z scripts y schedule replies
    pub led : (schedule : List ℕ) (replies : List (List Reply)) → Goes z scripts c schedule replies
        → Goes z scripts x (lane ∷ schedule) replies
    pub left : (schedule : List ℕ) (replies : List (List Reply)) → Goes z scripts y schedule replies → Goes z scripts x schedule replies
    pub apart : (schedule : List ℕ) (replies : List (List Reply)) → Goes z scripts y (lane ∷ schedule) replies → ⊥
    pub came_by : (schedule : List ℕ) → came c ++ schedule ≡ came x ++ (lane ∷ schedule)
    pub came_same : came y ≡ came x
    pub weight_led : weight c ≡ weight x
    pub weight_left : weight y ≡ weight x

  split-head : (lane : ℕ) (x c y : Item) (xs : List Item) → SplitsInto lane x c y
      → (schedule : List ℕ) (replies : List (List Reply)) → Goes z scripts x schedule replies → Found (c ∷ y ∷ xs) x schedule replies
  split-head lane x c y xs s schedule replies goes =
      elim (s.to schedule replies goes) as (λ _. Found (c ∷ y ∷ xs) x schedule replies) [
        | inl led ↦ (
          c,
          inl refl,
          (
            led.0,
            led.2,
            subst (λ (whole : List ℕ). IsUpTo (came c ++ led.0) (came x ++ whole)) (sym led.1)
                (subst (λ (whole : List ℕ). IsUpTo (came c ++ led.0) whole) (s.came_by led.0) (upto-refl (came c ++ led.0))),
          ),
        )
        | inr left ↦ (
          y,
          inr (inl refl),
          (
            schedule,
            left,
            subst (λ (by : List ℕ). IsUpTo (came y ++ schedule) (by ++ schedule)) s.came_same (upto-refl (came y ++ schedule)),
          ),
        )
      ]

  split-runs : (lane : ℕ) (x c y : Item) (xs : List Item) → SplitsInto lane x c y
      → (item : Item) → IsIn item (x ∷ xs) → (schedule : List ℕ) (replies : List (List Reply)) → Goes z scripts item schedule replies
      → Found (c ∷ y ∷ xs) item schedule replies
  split-runs lane x c y xs s item (inl e) schedule replies goes =
      subst (λ (i : Item). Found (c ∷ y ∷ xs) i schedule replies) (sym e)
      (split-head lane x c y xs s schedule replies (subst (λ (i : Item). Goes z scripts i schedule replies) e goes))
  split-runs lane x c y xs s item (inr is) schedule replies goes =
      (item, inr (inr is), (schedule, goes, upto-refl (came item ++ schedule)))

  split-whole : (lane : ℕ) (x c y : Item) (wanted : Option (List (List Reply))) (led left : List (List ℕ)) → SplitsInto lane x c y
      → AreAll (List ℕ) (Ends z scripts wanted c) led → AreAll (List ℕ) (Ends z scripts wanted y) left
      → (schedule : List ℕ) → Ends z scripts wanted x schedule → IsIn schedule (fronted lane led ++ left)
  split-whole lane x c y wanted led left s f g schedule e =
      elim (s.to schedule e.0 e.2) as (λ _. IsIn schedule (fronted lane led ++ left)) [
        | inl by ↦ subst (λ (whole : List ℕ). IsIn whole (fronted lane led ++ left)) (sym by.1)
            (in-front (lane ∷ by.0) (fronted lane led) left (in-fronted lane by.0 led (f.whole by.0 (e.0, e.1, by.2))))
        | inr on ↦ in-behind schedule (fronted lane led) left (g.whole schedule (e.0, e.1, on))
      ]

  split-each : (lane : ℕ) (x c y : Item) (wanted : Option (List (List Reply))) (led left : List (List ℕ)) → SplitsInto lane x c y
      → AreAll (List ℕ) (Ends z scripts wanted c) led → AreAll (List ℕ) (Ends z scripts wanted y) left
      → (schedule : List ℕ) → IsIn schedule (fronted lane led ++ left) → Ends z scripts wanted x schedule
  split-each lane x c y wanted led left s f g schedule is =
      elim (in-either schedule (fronted lane led) left is) as (λ _. Ends z scripts wanted x schedule) [
        | inl here ↦
            let by = from-fronted lane schedule led here in
            let e = f.each by.0 by.2 in
            subst (Ends z scripts wanted x) (sym by.1) (e.0, e.1, s.led by.0 e.0 e.2)
        | inr there ↦ let e = g.each schedule there in (e.0, e.1, s.left schedule e.0 e.2)
      ]

  split-count : (lane : ℕ) (x c y : Item) (wanted : Option (List (List Reply))) (m n : ℕ) → SplitsInto lane x c y
      → IsCount (Ends z scripts wanted c) m → IsCount (Ends z scripts wanted y) n → IsCount (Ends z scripts wanted x) (m + n)
  split-count lane x c y wanted m n s f g = (
    fronted lane f.0 ++ g.0,
    record {
      each = split-each lane x c y wanted f.0 g.0 s f.1 g.1;
      whole = split-whole lane x c y wanted f.0 g.0 s f.1 g.1;
      once = once-append (fronted lane f.0) g.0 (fronted-once lane f.0 f.1.once) g.1.once (λ schedule here there.
          let by = from-fronted lane schedule f.0 here in
          let e = subst (Ends z scripts wanted y) by.1 (g.1.each schedule there) in
          s.apart by.0 e.0 e.2);
    },
    length-append (fronted lane f.0) g.0 ∙ ap (λ (k : ℕ). k + length g.0) (fronted-length lane f.0 ∙ f.2) ∙ ap (λ (k : ℕ). m + k) g.2,
  )

  split-weights : (a b c m n w : ℕ) → b ≡ a → c ≡ a → a * (m + n) + w ≡ b * m + (c * n + w)
  split-weights a b c m n w e f =
      let t = times-sum a m n in
      let u : b * m ≡ a * m = ap (λ (k : ℕ). k * m) e in
      let v : c * n ≡ a * n = ap (λ (k : ℕ). k * n) f in
      omega arith

  split-counts : (lane : ℕ) (x c y : Item) (xs : List Item) → SplitsInto lane x c y
      → (wanted : Option (List (List Reply))) (counts : List ℕ) → AreCounts z scripts wanted (c ∷ y ∷ xs) counts
      → (before : List ℕ) × AreCounts z scripts wanted (x ∷ xs) before × (weighed (x ∷ xs) before ≡ weighed (c ∷ y ∷ xs) counts)
  split-counts lane x c y xs s wanted [] are = absurd are
  split-counts lane x c y xs s wanted (m ∷ []) are = absurd are.1
  split-counts lane x c y xs s wanted (m ∷ n ∷ counts) are = (
    (m + n) ∷ counts,
    (split-count lane x c y wanted m n s are.0 are.1.0, are.1.1),
    split-weights (weight x) (weight c) (weight y) m n (weighed xs counts) s.weight_led s.weight_left,
  )

  pub become-split : (lane : ℕ) (x c y : Item) (xs : List Item) → SplitsInto lane x c y → Become z scripts (x ∷ xs) (c ∷ y ∷ xs)
  become-split lane x c y xs s = record { runs = split-runs lane x c y xs s; counts = split-counts lane x c y xs s }
