-- What lanes replied in turns behind others.
use Rattle.std.proofs.Common.{◌≡◌, ◌==◌, ℕ, zero, suc, ◌+◌, ◌<◌, Bool, true, false, cond, List, [], ◌∷◌, ◌++◌, Some, length, refl, ap, sym, ◌∙◌, arith}
use Rattle.std.specs.Prelude.{slice_get}
use Rattle.keybits.specs.declared.shape.Shape.{Shape}
use Rattle.traces.specs.declared.reply.Reply.{Reply}
use Rattle.traces.specs.declared.trace.Turn.{Turn}
use Rattle.traces.specs.TurnLaws.{turns_of, all_replies}
use Rattle.outcomes.specs.Outcomes.{AreReplied}

assoc : (xs ys zs : List Reply) → xs ++ (ys ++ zs) ≡ (xs ++ ys) ++ zs
assoc [] ys zs = refl
assoc (x ∷ xs) ys zs = ap (λ (us : List Reply). x ∷ us) (assoc xs ys zs)

pub replies-append : (ts us : List Turn) → all_replies (ts ++ us) ≡ all_replies ts ++ all_replies us
replies-append [] us = refl
replies-append (t ∷ ts) us =
    ap (λ (rs : List Reply). (t.before ++ t.after) ++ rs) (replies-append ts us)
    ∙ assoc (t.before ++ t.after) (all_replies ts) (all_replies us)

turns-cond : (b : Bool) (t : Turn) (ts us : List Turn) → cond b (t ∷ (ts ++ us)) (ts ++ us) ≡ cond b (t ∷ ts) ts ++ us
turns-cond true t ts us = refl
turns-cond false t ts us = refl

pub turns-of-append : (lane : ℕ) (ts us : List Turn) → turns_of lane (ts ++ us) ≡ turns_of lane ts ++ turns_of lane us
turns-of-append lane [] us = refl
turns-of-append lane (t ∷ ts) us =
    ap (λ (more : List Turn). cond (t.lane == lane) (t ∷ more) more) (turns-of-append lane ts us)
    ∙ turns-cond (t.lane == lane) t (turns_of lane ts) (turns_of lane us)

pub lane-replies-append : (lane : ℕ) (ts us : List Turn)
    → all_replies (turns_of lane (ts ++ us)) ≡ all_replies (turns_of lane ts) ++ all_replies (turns_of lane us)
lane-replies-append lane ts us = ap all_replies (turns-of-append lane ts us) ∙ replies-append (turns_of lane ts) (turns_of lane us)

-- lists with the same items at the same places
same-at : (xs ys : List (List Reply)) → length xs ≡ length ys → ((i : ℕ) → i < length xs → slice_get xs i ≡ slice_get ys i) → xs ≡ ys
same-at [] [] same at = refl
same-at [] (y ∷ ys) same at = absurd (omega (arith, same))
same-at (x ∷ xs) [] same at = absurd (omega (arith, same))
same-at (x ∷ xs) (y ∷ ys) same at =
    let head : Some x ≡ Some y = at 0 (omega arith) in
    let e : x ≡ y = cc in
    let more : xs ≡ ys = same-at xs ys (omega (arith, same)) (λ i within. at (suc i) (omega arith)) in
    cc

module _ (z : Shape) where
  -- a trace has one row of replies
  pub one-row : (trace : List Turn) (rows others : List (List Reply)) → AreReplied z trace rows → AreReplied z trace others → rows ≡ others
  one-row trace rows others a b = same-at rows others (a.count ∙ sym b.count) (λ i within.
      let inside : i < z.lanes = omega (arith, a.count) in a.each i inside ∙ sym (b.each i inside))

  -- where all lanes replied the same, they do with the same turns behind
  pub same-rows : (past other made : List Turn) (rows : List (List Reply))
      → ((lane : ℕ) → lane < z.lanes → all_replies (turns_of lane past) ≡ all_replies (turns_of lane other))
      → AreReplied z (past ++ made) rows → AreReplied z (other ++ made) rows
  same-rows past other made rows same a = record {
    count = a.count;
    each = λ lane inside. a.each lane inside ∙ ap (λ (rs : List Reply). Some rs)
        (lane-replies-append lane past made ∙ ap (λ (rs : List Reply). rs ++ all_replies (turns_of lane made)) (same lane inside)
        ∙ sym (lane-replies-append lane other made));
  }

  -- the rows of so many lanes, from one on
  abbrev rows_from : List Turn → ℕ → ℕ → List (List Reply)
  rows_from trace lane zero = []
  rows_from trace lane (suc more) = all_replies (turns_of lane trace) ∷ rows_from trace (suc lane) more

  rows-length : (trace : List Turn) (lane more : ℕ) → length (rows_from trace lane more) ≡ more
  rows-length trace lane zero = refl
  rows-length trace lane (suc more) = ap suc (rows-length trace (suc lane) more)

  rows-at : (trace : List Turn) (lane more i : ℕ) → i < more
      → slice_get (rows_from trace lane more) i ≡ Some (all_replies (turns_of (lane + i) trace))
  rows-at trace lane zero i within = absurd (omega arith)
  rows-at trace lane (suc more) zero within =
      let e : lane ≡ lane + 0 = omega arith in ap (λ (k : ℕ). Some (all_replies (turns_of k trace))) e
  rows-at trace lane (suc more) (suc i) within =
      let e : suc lane + i ≡ lane + suc i = omega arith in
      rows-at trace (suc lane) more i (omega arith) ∙ ap (λ (k : ℕ). Some (all_replies (turns_of k trace))) e

  -- each trace has its rows
  pub some-rows : (trace : List Turn) → (rows : List (List Reply)) × AreReplied z trace rows
  some-rows trace = (
    rows_from trace 0 z.lanes,
    record {
      count = rows-length trace 0 z.lanes;
      each = λ lane inside.
          let e : 0 + lane ≡ lane = omega arith in
          rows-at trace 0 z.lanes lane inside ∙ ap (λ (k : ℕ). Some (all_replies (turns_of k trace))) e;
    },
  )
