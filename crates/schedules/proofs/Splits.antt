-- The first part of a text.
use Rattle.std.proofs.Common.{◌≡◌, ℕ, suc, ◌+◌, ◌<◌, ◌≤◌, List, [], ◌∷◌, length, take, drop, Bool, true, false, nat_eq, nat_lt, cond, Some, None, position, refl, ap, ◌∙◌, arith, add-one}
use Rattle.std.specs.List.{position_or_len}
use Rattle.std.proofs.lemmas.Bool.{ltb-true, ltb-false}
use Rattle.schedules.specs.Parts.{onto, parts_of}

onto-some : (byte : ℕ) (parts : List (List ℕ)) → (parts ≡ [] → ⊥) → onto byte parts ≡ [] → ⊥
onto-some byte [] some e = some refl
onto-some byte (part ∷ parts) some e = cc

-- a text has a part
pub parts_of-some : (separator : ℕ) (text : List ℕ) → parts_of separator text ≡ [] → ⊥
parts_of-some separator [] e = cc
parts_of-some separator (byte ∷ more) e = at (nat_eq byte separator) (parts_of-some separator more) e
  where
    at : (b : Bool) → (parts_of separator more ≡ [] → ⊥) → cond b ([] ∷ parts_of separator more) (onto byte (parts_of separator more)) ≡ [] → ⊥
    at true some is = cc
    at false some is = onto-some byte (parts_of separator more) some is

-- the first part ends at this place, where a separator stands
pub record SplitsAt (separator : ℕ) (text : List ℕ) (end : ℕ) : Type 0 where
  pub within : end < length text
  pub parts : parts_of separator text ≡ take end text ∷ parts_of separator (drop (end + 1) text)

module _ (separator : ℕ) where
  -- how many bytes come before the first separator
  abbrev before : List ℕ → ℕ
  before text = position_or_len (λ byte. nat_eq byte separator) text

  parts_of-here : (byte : ℕ) (more : List ℕ) → nat_eq byte separator ≡ true → parts_of separator (byte ∷ more) ≡ [] ∷ parts_of separator more
  parts_of-here byte more e = rw e refl

  parts_of-other : (byte : ℕ) (more : List ℕ) → nat_eq byte separator ≡ false → parts_of separator (byte ∷ more) ≡ onto byte (parts_of separator more)
  parts_of-other byte more e = rw e refl

  before-here : (byte : ℕ) (more : List ℕ) → nat_eq byte separator ≡ true → before (byte ∷ more) ≡ 0
  before-here byte more e = rw e refl

  before-other : (byte : ℕ) (more : List ℕ) → nat_eq byte separator ≡ false → before (byte ∷ more) ≡ 1 + before more
  before-other byte more e = rw e refl

  splits-further : (byte : ℕ) (more : List ℕ) (end : ℕ) → nat_eq byte separator ≡ false → SplitsAt separator more end → SplitsAt separator (byte ∷ more) (suc end)
  splits-further byte more end e there = record {
    within = let h = there.within in omega arith;
    parts = parts_of-other byte more e ∙ ap (onto byte) there.parts ∙ rw (add-one (suc end), add-one end) refl;
  }

  splits : (text : List ℕ) → before text < length text → SplitsAt separator text (before text)
  splits [] within = absurd (omega arith)
  splits (byte ∷ more) within = at (nat_eq byte separator) refl (λ h. splits more h)
    where
      at : (b : Bool) → nat_eq byte separator ≡ b → (before more < length more → SplitsAt separator more (before more)) → SplitsAt separator (byte ∷ more) (before (byte ∷ more))
      at true e later = rw (before-here byte more e) (record { within = omega arith; parts = parts_of-here byte more e })
      at false e later =
          let here : before (byte ∷ more) ≡ suc (before more) = before-other byte more e ∙ omega arith in
          rw here (splits-further byte more (before more) e (later (omega (arith, here, within))))

  one-part : (text : List ℕ) → length text ≤ before text → parts_of separator text ≡ text ∷ []
  one-part [] past = refl
  one-part (byte ∷ more) past = at (nat_eq byte separator) refl (λ h. one-part more h)
    where
      at : (b : Bool) → nat_eq byte separator ≡ b → (length more ≤ before more → parts_of separator more ≡ more ∷ []) → parts_of separator (byte ∷ more) ≡ (byte ∷ more) ∷ []
      at true e later = let here = before-here byte more e in absurd (omega (arith, here, past))
      at false e later =
          let here : before (byte ∷ more) ≡ suc (before more) = before-other byte more e ∙ omega arith in
          parts_of-other byte more e ∙ ap (onto byte) (later (omega (arith, here, past)))

  -- the place that `position` finds
  pub splits-at : (text : List ℕ) (end : ℕ) → Some end ≡ position (λ byte. nat_eq byte separator) text → SplitsAt separator text end
  splits-at text end e = at (nat_lt (before text) (length text)) refl e
    where
      at : (b : Bool) → nat_lt (before text) (length text) ≡ b → Some end ≡ cond b (Some (before text)) None → SplitsAt separator text end
      at true lt is = let same : end ≡ before text = cc in rw same (splits text (ltb-true _ _ lt))
      at false lt is = absurd (cc)

  pub one-alone : (text : List ℕ) → None ≡ position (λ byte. nat_eq byte separator) text → parts_of separator text ≡ text ∷ []
  one-alone text e = at (nat_lt (before text) (length text)) refl e
    where
      at : (b : Bool) → nat_lt (before text) (length text) ≡ b → None ≡ cond b (Some (before text)) None → parts_of separator text ≡ text ∷ []
      at true lt is = absurd (cc)
      at false lt is = one-part text (ltb-false _ _ lt)
