-- Parts of a text, and what is read of them one after another.
use Rattle.std.proofs.Common.{◌≡◌, ◌≢◌, ℕ, suc, ◌+◌, ◌<◌, ◌≤◌, List, [], ◌∷◌, ◌++◌, length, take, drop, Bool, true, false, nat_eq, nat_lt, cond, Some, None, position, refl, sym, ap, ◌∙◌, subst, arith, add-one, append_assoc, append-nil, length-append}
use Rattle.std.specs.List.{position_or_len}
use Rattle.std.proofs.lemmas.Bool.{ltb-true, ltb-false, eqb-true, eqb-false}
use Rattle.seqpool.specs.declared.acts_fault.ActsFault.{ActsFault}
use Rattle.seqpool.specs.declared.acts_fault.ActsFault.TheVariants as acts_faults
use Rattle.seqpool.specs.ReadTexts.{Without, spaced, NothingHas, Refuses}

-- how many bytes come before the first such byte
abbrev before : ℕ → List ℕ → ℕ
before separator text = position_or_len (λ byte. nat_eq byte separator) text

before-here : (separator byte : ℕ) (more : List ℕ) → nat_eq byte separator ≡ true → before separator (byte ∷ more) ≡ 0
before-here separator byte more e = rw e refl

before-there : (separator byte : ℕ) (more : List ℕ) → nat_eq byte separator ≡ false → before separator (byte ∷ more) ≡ 1 + before separator more
before-there separator byte more e = rw e refl

-- the first such byte of the text is between these parts
abbrev pub IsCut : ℕ → List ℕ → List ℕ → List ℕ → Type 0
IsCut separator text a b = (text ≡ a ++ separator ∷ b) × Without separator a

-- the first such byte stands behind so many others
abbrev pub IsCutAt : ℕ → List ℕ → ℕ → Type 0
IsCutAt separator text end = IsCut separator text (take end text) (drop (end + 1) text)

cut-more : (separator byte end : ℕ) (more : List ℕ) → byte ≢ separator → IsCutAt separator more end → IsCutAt separator (byte ∷ more) (suc end)
cut-more separator byte end more other (is, none) =
    let is' : more ≡ take end more ++ separator ∷ drop (suc end) more = rw (sym (add-one end)) is in
    rw (add-one (suc end)) (ap (λ (xs : List ℕ). byte ∷ xs) is', (other, none))

cut-at : (separator : ℕ) (text : List ℕ) → before separator text < length text → IsCutAt separator text (before separator text)
cut-at separator [] within = absurd (omega arith)
cut-at separator (byte ∷ more) within = at (nat_eq byte separator) refl (λ h. cut-at separator more h)
  where
    at : (b : Bool) → nat_eq byte separator ≡ b → (before separator more < length more → IsCutAt separator more (before separator more))
        → IsCutAt separator (byte ∷ more) (before separator (byte ∷ more))
    at true e later =
        subst (λ (n : ℕ). IsCutAt separator (byte ∷ more) n) (sym (before-here separator byte more e))
        (ap (λ (b : ℕ). b ∷ more) (eqb-true byte separator e), tt)
    at false e later =
        let here : before separator (byte ∷ more) ≡ suc (before separator more) = before-there separator byte more e ∙ omega arith in
        subst (λ (n : ℕ). IsCutAt separator (byte ∷ more) n) (sym here)
        (cut-more separator byte (before separator more) more (eqb-false byte separator e) (later (omega (arith, here, within))))

cut-past : (separator : ℕ) (text : List ℕ) → length text ≤ before separator text → Without separator text
cut-past separator [] past = tt
cut-past separator (byte ∷ more) past = at (nat_eq byte separator) refl (λ h. cut-past separator more h)
  where
    at : (b : Bool) → nat_eq byte separator ≡ b → (length more ≤ before separator more → Without separator more)
        → Without separator (byte ∷ more)
    at true e later = let here = before-here separator byte more e in absurd (omega (arith, here, past))
    at false e later =
        let here : before separator (byte ∷ more) ≡ suc (before separator more) = before-there separator byte more e ∙ omega arith in
        (eqb-false byte separator e, later (omega (arith, here, past)))

-- the place that `position` finds
pub cut-position : (separator : ℕ) (text : List ℕ) (end : ℕ) → Some end ≡ position (λ byte. nat_eq byte separator) text
    → IsCutAt separator text end
cut-position separator text end e = at (nat_lt (before separator text) (length text)) refl e
  where
    at : (b : Bool) → nat_lt (before separator text) (length text) ≡ b → Some end ≡ cond b (Some (before separator text)) None
        → IsCutAt separator text end
    at true lt is =
        let same : before separator text ≡ end = cc in
        subst (λ (n : ℕ). IsCutAt separator text n) same (cut-at separator text (ltb-true _ _ lt))
    at false lt is = absurd (cc)

pub cut-no_position : (separator : ℕ) (text : List ℕ) → None ≡ position (λ byte. nat_eq byte separator) text → Without separator text
cut-no_position separator text e = at (nat_lt (before separator text) (length text)) refl e
  where
    at : (b : Bool) → nat_lt (before separator text) (length text) ≡ b → None ≡ cond b (Some (before separator text)) None → Without separator text
    at true lt is = absurd (cc)
    at false lt is = cut-past separator text (ltb-false _ _ lt)

-- a text has one first such byte
pub one-cut : (separator : ℕ) (a b c d : List ℕ) → Without separator a → Without separator c → a ++ separator ∷ b ≡ c ++ separator ∷ d
    → (a ≡ c) × (b ≡ d)
one-cut separator [] b [] d one two e = (refl, cc)
one-cut separator [] b (y ∷ c) d one two e = absurd (two.0 (cc))
one-cut separator (x ∷ a) b [] d one two e = absurd (one.0 (cc))
one-cut separator (x ∷ a) b (y ∷ c) d one two e =
    let first : x ≡ y = cc in
    let others : a ++ separator ∷ b ≡ c ++ separator ∷ d = cc in
    let (front, back) = one-cut separator a b c d one.1 two.1 others in
    (ap (λ (byte : ℕ). byte ∷ a) first ∙ ap (λ (xs : List ℕ). y ∷ xs) front, back)

-- a text with such a byte has it
pub uncut : (separator : ℕ) (text a b : List ℕ) → Without separator text → text ≡ a ++ separator ∷ b → ⊥
uncut separator text a b none is = at a (subst (λ (xs : List ℕ). Without separator xs) is none)
  where
    at : (a : List ℕ) → Without separator (a ++ separator ∷ b) → ⊥
    at [] w = w.0 refl
    at (x ∷ xs) w = at xs w.1

pub Without-append : (separator : ℕ) (xs ys : List ℕ) → Without separator xs → Without separator ys → Without separator (xs ++ ys)
Without-append separator [] ys one two = two
Without-append separator (x ∷ xs) ys one two = (one.0, Without-append separator xs ys one.1 two)

pub spaced-Without : (separator : ℕ) (a b : List ℕ) → separator < 32 → Without separator a → Without separator b → Without separator (spaced a b)
spaced-Without separator a b low one two = Without-append separator a (32 ∷ b) one ((λ same. omega (arith, same)), two)

-- a test for bytes that are written out
abbrev pub lacks : ℕ → List ℕ → Bool
lacks separator [] = true
lacks separator (byte ∷ more) = cond (nat_eq byte separator) false (lacks separator more)

pub lacks-Without : (separator : ℕ) (text : List ℕ) → lacks separator text ≡ true → Without separator text
lacks-Without separator [] e = tt
lacks-Without separator (byte ∷ more) e = at (nat_eq byte separator) refl e (lacks-Without separator more)
  where
    at : (b : Bool) → nat_eq byte separator ≡ b → cond b false (lacks separator more) ≡ true
        → (lacks separator more ≡ true → Without separator more) → Without separator (byte ∷ more)
    at true test found later = absurd (cc)
    at false test found later = (eqb-false byte separator test, later found)

pub cut-shorter : (separator : ℕ) (text a b : List ℕ) → text ≡ a ++ separator ∷ b → length b < length text
cut-shorter separator text a b is =
    let long : length text ≡ length (a ++ separator ∷ b) = ap length is in
    omega (arith, long, length-append a (separator ∷ b))

-- what has the rest's text stands behind what is read already, and nothing else has the whole text
pub record IsReadUpTo {T : Type 0} (Have : List T → List ℕ → Type 0) (done : List T) (rest text : List ℕ) : Type 0 where
  pub on : (more : List T) → Have more rest → Have (done ++ more) text
  pub only : (all : List T) → Have all text → (more : List T) × (all ≡ done ++ more) × Have more rest

-- a first value stands in front of what has the rest's text, and nothing else has the text
pub record IsFirst {T : Type 0} (Have : List T → List ℕ → Type 0) (x : T) (text rest : List ℕ) : Type 0 where
  pub on : (more : List T) → Have more rest → Have (x ∷ more) text
  pub only : (all : List T) → Have all text → (more : List T) × (all ≡ x ∷ more) × Have more rest

pub read-none : {T : Type 0} (Have : List T → List ℕ → Type 0) (done : List T) (text : List ℕ) → done ≡ [] → IsReadUpTo Have done text text
read-none {T} Have done text none =
    subst (λ (xs : List T). IsReadUpTo Have xs text text) (sym none) (record { on = λ more h. h; only = λ all h. (all, refl, h) })

-- one more value is read
pub read-next : {T : Type 0} (Have : List T → List ℕ → Type 0) (done next : List T) (x : T) (s rest text : List ℕ)
    → IsReadUpTo Have done s text → IsFirst Have x s rest → next ≡ done ++ x ∷ [] → IsReadUpTo Have next rest text
read-next {T} Have done next x s rest text so_far first is = subst (λ (xs : List T). IsReadUpTo Have xs rest text) (sym is) (record {
  on = λ more h. subst (λ (xs : List T). Have xs text) (sym (append_assoc done (x ∷ []) more)) (so_far.on (x ∷ more) (first.on more h));
  only = λ all h.
      let (others, all-is, there) = so_far.only all h in
      let (more, others-are, last) = first.only others there in
      (more, all-is ∙ (ap (λ (xs : List T). done ++ xs) others-are ∙ sym (append_assoc done (x ∷ []) more)), last);
})

-- no text is left
pub read-end : {T : Type 0} (Have : List T → List ℕ → Type 0) (done : List T) (rest text : List ℕ) → IsReadUpTo Have done rest text
    → Have [] rest → Have done text
read-end {T} Have done rest text so_far last = subst (λ (xs : List T). Have xs text) (append-nil done) (so_far.on [] last)

-- the rest can't be read
pub read-stop : {T : Type 0} (Have : List T → List ℕ → Type 0) (done : List T) (rest text : List ℕ) → IsReadUpTo Have done rest text
    → NothingHas Have rest → NothingHas Have text
read-stop Have done rest text so_far never = λ all h. let (more, is, there) = so_far.only all h in never more there

-- a part is refused as a part of it is
pub refuses-as : {X Y : Type 0} (Has : X → List ℕ → Type 0) (Is : Y → List ℕ → Type 0) (part text : List ℕ)
    → (NothingHas Has part → NothingHas Is text) → (fault : ActsFault) → Refuses Has part fault → Refuses Is text fault
refuses-as Has Is part text never acts_faults.ActsLine refused = never refused
refuses-as Has Is part text never (acts_faults.Shape fault) refused = absurd refused
refuses-as Has Is part text never acts_faults.Memory refused = tt
