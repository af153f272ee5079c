-- The acts that a call has made.
use Rattle.std.proofs.Common.{◌≡◌, ◌≢◌, ◌⊎◌, inl, inr, ⊎_elim, ℕ, Bool, true, false, cond, eqb, not, ◌&&◌, List, [], ◌∷◌, ◌++◌, refl, ap, sym, ◌∙◌, subst, eq-eqb, ne_eqb, Option, Some, None, is_some}
use mathlib.Core.Logic.{dite}
use native.Mathlib.Decide.{ℕ_discrete}
use Rattle.std.proofs.lemmas.Bool.{eqb-true}
use Rattle.keybits.specs.declared.shape.Shape.{Shape}
use Rattle.keybits.specs.declared.step.Step.{Step}
use Rattle.keybits.specs.declared.step.Kind.{Kind}
use Rattle.keybits.specs.declared.step.Kind.TheVariants as kinds
use Rattle.keybits.specs.declared.step.Word.{Word}
use Rattle.keybits.specs.declared.step.Word.TheVariants as words
use Rattle.keybits.specs.Places.{shard_of}
use Rattle.keybits.specs.Keys.{key_number, place_of, is_key}
use Rattle.keybits.specs.Words.{generation_in}
use Rattle.keybits.specs.Links.{link_to, Leads}
use Rattle.seqpool.specs.declared.act.Act.{Act}
use Rattle.seqpool.specs.declared.act.Act.TheVariants as acts
use Rattle.steplaws.specs.Calls.{Call, Publishing, Getting, Releasing, Clearing, Creating, Caller, Aim, aim, is_hit, owes_claim, is_claimed, end_next, mark_next, follow_next, next_lane, first_lane, take_next, next_step, AreSteps, key_in, place_in, KindMakes}
use Rattle.traces.specs.Books.{act_list}
use Rattle.traces.specs.Making.{IsMade, AreMade}
use Rattle.traces.specs.Keeping.{IsFound, AreFound}

-- ---- tests

abbrev pub kind_in : Option Aim → Kind
kind_in None = kinds.Enter
kind_in (Some a) = a.kind

abbrev pub word_in : Option Aim → Word
word_in None = words.Life 0
word_in (Some a) = a.word

-- a step is of the kind, and on the word, that were aimed at
pub same_kind : (kind : Kind) (word : Word) (step : Step) → Some (aim kind word) ≡ Some (aim step.kind step.word) → step.kind ≡ kind
same_kind kind word step e = sym (ap kind_in e)

pub same_word : (kind : Kind) (word : Word) (step : Step) → Some (aim kind word) ≡ Some (aim step.kind step.word) → step.word ≡ word
same_word kind word step e = sym (ap word_in e)

-- a step that comes where a test holds, and none where it doesn't
pub if_some : (b : Bool) (x y : Aim) → cond b (Some x) None ≡ Some y → (b ≡ true) × (Some x ≡ Some y)
if_some true x y e = (refl, e)
if_some false x y e = absurd (cc e)

pub else_some : (b : Bool) (x y : Option Aim) (a : Aim) → x ≡ None → cond b x y ≡ Some a → (b ≡ false) × (y ≡ Some a)
else_some true x y a none e = let bad : None ≡ Some a = sym none ∙ e in absurd (cc bad)
else_some false x y a none e = (refl, e)

module _ (generation last shard lane : ℕ) (claimed : Bool) where
  abbrev moves_on : Bool
  moves_on = claimed && not (eqb generation last) && not (eqb shard lane)

  -- a place that was claimed below the last generation and isn't the lane's own is returned
  goes_on : moves_on ≡ true → (claimed ≡ true) × (generation ≢ last) × (shard ≢ lane)
  goes_on e = by_parts claimed (eqb generation last) (eqb shard lane) refl refl refl
    where
      by_parts : (a b c : Bool) → claimed ≡ a → eqb generation last ≡ b → eqb shard lane ≡ c → (claimed ≡ true) × (generation ≢ last) × (shard ≢ lane)
      by_parts true false false f g h = (
        f,
        λ same. let bad : false ≡ true = sym g ∙ eq-eqb generation last same in cc bad,
        λ same. let bad : false ≡ true = sym h ∙ eq-eqb shard lane same in cc bad,
      )
      by_parts false b c f g h = let bad : false ≡ true = sym (ap (λ (t : Bool). t && not (eqb generation last) && not (eqb shard lane)) f) ∙ e in
          absurd (cc bad)
      by_parts true true c f g h = let bad : false ≡ true = sym ((λ i. f i && not (g i) && not (eqb shard lane))) ∙ e in absurd (cc bad)
      by_parts true false true f g h = let bad : false ≡ true = sym ((λ i. f i && not (g i) && not (h i))) ∙ e in absurd (cc bad)

  -- where it isn't to be returned, it was of the last generation or is the lane's own
  stays : (x : Aim) → claimed ≡ true → cond moves_on (Some x) None ≡ None → (generation ≡ last) ⊎ (shard ≡ lane)
  stays x f e = by_parts (eqb generation last) (eqb shard lane) refl refl
    where
      by_parts : (b c : Bool) → eqb generation last ≡ b → eqb shard lane ≡ c → (generation ≡ last) ⊎ (shard ≡ lane)
      by_parts true c g h = inl (eqb-true generation last g)
      by_parts false true g h = inr (eqb-true shard lane h)
      by_parts false false g h = let bad : Some x ≡ None = sym (λ i. cond (f i && not (g i) && not (h i)) (Some x) None) ∙ e in absurd (cc bad)

-- ---- one step

-- what a step of this kind made
pub made_by : (c : Caller) (call : Call) (step : Step) (act : Option Act) (kind : Kind) → step.kind ≡ kind → (m : IsMade c call step act)
    → KindMakes kind c call m.links step.word step.before act
made_by c call step act kind e m = subst (λ (k : Kind). KindMakes k c call m.links step.word step.before act) e m.makes

-- ---- an END

-- the steps made so far of an END, each the next one
abbrev pub EndSteps : Caller → ℕ → List Step → List Step → Type 0
EndSteps c place made [] = Unit {0}
EndSteps c place made (step ∷ more) = (end_next c place made ≡ Some (aim step.kind step.word)) × EndSteps c place (made ++ step ∷ []) more

-- the acts of an END behind its LEAVE: none; or a claim that succeeded, and in the end the return of the place where it is another shard's
pub data Tail (z : Shape) (lane place : ℕ) (Over : Type 0) (rest : List Act) : Type 0 where
  unclaimed : rest ≡ [] → Tail z lane place Over rest
  reclaims : (generation : ℕ) → rest ≡ acts.Reclaim lane (key_number z.tag place generation) ∷ []
      → (Over → (generation ≡ z.last_generation) ⊎ (shard_of place ≡ lane)) → Tail z lane place Over rest
  returns : (generation : ℕ) → rest ≡ acts.Reclaim lane (key_number z.tag place generation) ∷ acts.Home lane place ∷ []
      → generation ≢ z.last_generation → shard_of place ≢ lane → Tail z lane place Over rest

-- the same of the same acts, where more is known at the end
tail_same : {z : Shape} {lane place : ℕ} (Over More : Type 0) (rest left : List Act) → (More → Over) → left ≡ rest → Tail z lane place Over rest
    → Tail z lane place More left
tail_same Over More rest left f s (unclaimed e) = unclaimed (s ∙ e)
tail_same Over More rest left f s (reclaims generation e only) = reclaims generation (s ∙ e) (λ over. only (f over))
tail_same Over More rest left f s (returns generation e below other) = returns generation (s ∙ e) below other

no_some : {A : Type 0} (x : A) → Some x ≡ None → ⊥
no_some x e = cc e

module _ (c : Caller) (call : Call) (place : ℕ) (at : place_of (key_in call) ≡ place) where
  -- a PUSH makes Home where it succeeded
  push_act : (push : Step) (act : Option Act) (expected link : ℕ) → push.kind ≡ kinds.Push expected link → IsMade c call push act
      → act ≡ cond (eqb push.before expected) (Some (acts.Home c.lane place)) None
  push_act push act expected link e m = made_by c call push act (kinds.Push expected link) e m
      ∙ ap (λ (p : ℕ). cond (eqb push.before expected) (Some (acts.Home c.lane p)) None) at

  module _ (leave : Step) where
    abbrev claimed_key : ℕ
    claimed_key = key_number c.shape.tag place (generation_in leave.before)

    -- a CLAIM makes Reclaim where it succeeded
    claim_act : (claim : Step) (act : Option Act) → claim.kind ≡ kinds.Claim (generation_in leave.before) → claim.word ≡ words.Life place
        → IsMade c call claim act
        → act ≡ cond (is_claimed (generation_in leave.before) claim.before) (Some (acts.Reclaim c.lane claimed_key)) None
    claim_act claim act e f m = made_by c call claim act (kinds.Claim (generation_in leave.before)) e m
        ∙ ap (λ (w : Word). cond (is_claimed (generation_in leave.before) claim.before)
        (Some (acts.Reclaim c.lane (key_number c.shape.tag (place_in w) (generation_in leave.before)))) None) f

    module _ (claim link : Step) (below : generation_in leave.before ≢ c.shape.last_generation) (other : shard_of place ≢ c.lane) where
      -- the acts behind the first LINK
      return_tail : (more : List Step) (rest : List Act) → EndSteps c place (leave ∷ claim ∷ link ∷ []) more → AreMade c call more rest
          → Tail c.shape c.lane place (AreFound more × (end_next c place (leave ∷ claim ∷ link ∷ more) ≡ None)) (acts.Reclaim c.lane claimed_key ∷ rest)
      return_tail [] rest a m = reclaims (generation_in leave.before) (ap (λ (r : List Act). acts.Reclaim c.lane claimed_key ∷ r) m)
          (λ over. absurd (no_some _ over.1))
      return_tail (push ∷ []) rest a m = by_test (eqb push.before (c.pushed (shard_of place))) refl
        where
          kind : push.kind ≡ kinds.Push (c.pushed (shard_of place)) (link_to place)
          kind = same_kind _ _ push a.0

          made : rest ≡ act_list (cond (eqb push.before (c.pushed (shard_of place))) (Some (acts.Home c.lane place)) None) ++ []
          made = m.3 ∙ (λ i. act_list (push_act push m.0 _ _ kind m.2 i) ++ m.4 i)

          by_test : (b : Bool) → eqb push.before (c.pushed (shard_of place)) ≡ b
              → Tail c.shape c.lane place (AreFound (push ∷ []) × (end_next c place (leave ∷ claim ∷ link ∷ push ∷ []) ≡ None))
              (acts.Reclaim c.lane claimed_key ∷ rest)
          by_test true e = returns (generation_in leave.before)
              (ap (λ (r : List Act). acts.Reclaim c.lane claimed_key ∷ r)
              (made ∙ ap (λ (b : Bool). act_list (cond b (Some (acts.Home c.lane place)) None) ++ []) e)) below other
          by_test false e = reclaims (generation_in leave.before)
              (ap (λ (r : List Act). acts.Reclaim c.lane claimed_key ∷ r)
              (made ∙ ap (λ (b : Bool). act_list (cond b (Some (acts.Home c.lane place)) None) ++ []) e))
              (λ over. absurd (no_some _ (sym (ap (λ (b : Bool). cond b None (Some (aim (kinds.Link 0) (words.Link place)))) e) ∙ over.1)))
      return_tail (push ∷ again ∷ []) rest a m =
          let failed = else_some (eqb push.before (c.pushed (shard_of place))) None (Some (aim (kinds.Link 0) (words.Link place)))
          (aim again.kind again.word) refl a.1.0 in
          let none : m.0 ≡ None = push_act push m.0 _ _ (same_kind _ _ push a.0) m.2
          ∙ ap (λ (b : Bool). cond b (Some (acts.Home c.lane place)) None) failed.0 in
          let none_again : m.4.0 ≡ None = made_by c call again m.4.0 (kinds.Link 0) (same_kind _ _ again failed.1) m.4.2 in
          reclaims (generation_in leave.before)
          (ap (λ (r : List Act). acts.Reclaim c.lane claimed_key ∷ r)
          (m.3 ∙ (λ i. act_list (none i) ++ (m.4.3 ∙ (λ j. act_list (none_again j) ++ m.4.4 j)) i)))
          (λ over. absurd (no_some _ over.1))
      return_tail (push ∷ again ∷ last ∷ []) rest a m = by_test (eqb last.before 0) refl
        where
          failed : (eqb push.before (c.pushed (shard_of place)) ≡ false) ×
              (Some (aim (kinds.Link 0) (words.Link place)) ≡ Some (aim again.kind again.word))
          failed = else_some (eqb push.before (c.pushed (shard_of place))) None (Some (aim (kinds.Link 0) (words.Link place)))
              (aim again.kind again.word) refl a.1.0

          none : m.0 ≡ None
          none = push_act push m.0 _ _ (same_kind _ _ push a.0) m.2 ∙ ap (λ (b : Bool). cond b (Some (acts.Home c.lane place)) None) failed.0

          none_again : m.4.0 ≡ None
          none_again = made_by c call again m.4.0 (kinds.Link 0) (same_kind _ _ again failed.1) m.4.2

          kind : last.kind ≡ kinds.Push 0 (link_to place)
          kind = same_kind _ _ last a.1.1.0

          made : rest ≡ act_list (cond (eqb last.before 0) (Some (acts.Home c.lane place)) None) ++ []
          made = m.3 ∙ (λ i. act_list (none i) ++
              (m.4.3 ∙ (λ j. act_list (none_again j) ++ (m.4.4.3 ∙ (λ k. act_list (push_act last m.4.4.0 0 _ kind m.4.4.2 k) ++ m.4.4.4 k)) j)) i)

          by_test : (b : Bool) → eqb last.before 0 ≡ b
              → Tail c.shape c.lane place (AreFound (push ∷ again ∷ last ∷ []) ×
              (end_next c place (leave ∷ claim ∷ link ∷ push ∷ again ∷ last ∷ []) ≡ None))
              (acts.Reclaim c.lane claimed_key ∷ rest)
          by_test true e = returns (generation_in leave.before)
              (ap (λ (r : List Act). acts.Reclaim c.lane claimed_key ∷ r)
              (made ∙ ap (λ (b : Bool). act_list (cond b (Some (acts.Home c.lane place)) None) ++ []) e)) below other
          by_test false e = reclaims (generation_in leave.before)
              (ap (λ (r : List Act). acts.Reclaim c.lane claimed_key ∷ r)
              (made ∙ ap (λ (b : Bool). act_list (cond b (Some (acts.Home c.lane place)) None) ++ []) e))
              (λ over. let empty : last.before ≡ 0 = subst (λ (k : Kind). IsFound k last.before) kind over.0.1.1.0 refl in
              let bad : true ≡ false = sym (eq-eqb last.before 0 empty) ∙ e in absurd (cc bad))
      return_tail (push ∷ again ∷ last ∷ extra ∷ more) rest a m = let bad = a.1.1.1.0 in absurd (cc bad)

    -- the acts behind the LEAVE
    end_tail : (more : List Step) (rest : List Act) → EndSteps c place (leave ∷ []) more → AreMade c call more rest
        → Tail c.shape c.lane place (AreFound more × (end_next c place (leave ∷ more) ≡ None)) rest
    end_tail [] rest a m = unclaimed m
    end_tail (claim ∷ []) rest a m = by_test (is_claimed (generation_in leave.before) claim.before) refl
      where
        aimed : Some (aim (kinds.Claim (generation_in leave.before)) (words.Life place)) ≡ Some (aim claim.kind claim.word)
        aimed = (if_some (owes_claim leave.before) _ _ a.0).1

        made : rest ≡ act_list (cond (is_claimed (generation_in leave.before) claim.before) (Some (acts.Reclaim c.lane claimed_key)) None) ++ []
        made = m.3 ∙ (λ i. act_list (claim_act claim m.0 (same_kind _ _ claim aimed) (same_word _ _ claim aimed) m.2 i) ++ m.4 i)

        by_test : (b : Bool) → is_claimed (generation_in leave.before) claim.before ≡ b
            → Tail c.shape c.lane place (AreFound (claim ∷ []) × (end_next c place (leave ∷ claim ∷ []) ≡ None)) rest
        by_test true e = reclaims (generation_in leave.before)
            (made ∙ ap (λ (b : Bool). act_list (cond b (Some (acts.Reclaim c.lane claimed_key)) None) ++ []) e)
            (λ over. stays (generation_in leave.before) c.shape.last_generation (shard_of place) c.lane
            (is_claimed (generation_in leave.before) claim.before) _ e over.1)
        by_test false e = unclaimed (made ∙ ap (λ (b : Bool). act_list (cond b (Some (acts.Reclaim c.lane claimed_key)) None) ++ []) e)
    end_tail (claim ∷ link ∷ more) rest a m =
        let owed = (if_some (owes_claim leave.before) _ _ a.0).1 in
        let moved = if_some (moves_on (generation_in leave.before) c.shape.last_generation (shard_of place) c.lane
        (is_claimed (generation_in leave.before) claim.before)) _ _ a.1.0 in
        let goes = goes_on (generation_in leave.before) c.shape.last_generation (shard_of place) c.lane
        (is_claimed (generation_in leave.before) claim.before) moved.0 in
        let claims : m.0 ≡ Some (acts.Reclaim c.lane claimed_key) = claim_act claim m.0 (same_kind _ _ claim owed) (same_word _ _ claim owed) m.2
        ∙ ap (λ (b : Bool). cond b (Some (acts.Reclaim c.lane claimed_key)) None) goes.0 in
        let none : m.4.0 ≡ None = made_by c call link m.4.0 _ (same_kind _ _ link moved.1) m.4.2 in
        tail_same (AreFound more × (end_next c place (leave ∷ claim ∷ link ∷ more) ≡ None)) _ (acts.Reclaim c.lane claimed_key ∷ m.4.1) rest
        (λ over. (over.0.1.1, over.1)) (m.3 ∙ (λ i. act_list (claims i) ++ (m.4.3 ∙ (λ j. act_list (none j) ++ m.4.1)) i))
        (return_tail claim link goes.1 goes.2 more m.4.1 a.1.1 m.4.4)

-- ---- whole calls

-- at the end of a call: it makes no further step, and its PUSHes onto an empty stack succeeded
abbrev pub IsOver : Caller → Call → List Step → Type 0
IsOver c call steps = AreFound steps × (next_step c call steps ≡ None)

-- an END in a call that isn't a release: its LEAVE makes no act
quiet_end : (c : Caller) (call : Call) (place : ℕ) → place_of (key_in call) ≡ place
    → ((act : Option Act) → KindMakes kinds.Leave c call (λ _. 0) (words.Life place) 0 act → act ≡ None)
    → (steps : List Step) (rest : List Act) → EndSteps c place [] steps → AreMade c call steps rest
    → Tail c.shape c.lane place (AreFound steps × (end_next c place steps ≡ None)) rest
quiet_end c call place at quiet [] rest a m = unclaimed m
quiet_end c call place at quiet (leave ∷ more) rest a m =
    let none : m.0 ≡ None = quiet m.0 (made_by c call leave m.0 kinds.Leave (same_kind _ _ leave a.0) m.2) in
    tail_same (AreFound more × (end_next c place (leave ∷ more) ≡ None)) _ m.1 rest (λ over. (over.0.1, over.1))
    (m.3 ∙ ap (λ (o : Option Act). act_list o ++ m.1) none)
    (end_tail c call place at leave more m.1 a.1 m.4)

-- the acts of a publish: the one, in the end
pub publish_acts : (c : Caller) (key : ℕ) (content : List ℕ) (with_ref : Bool) (steps : List Step) (made : List Act)
    → AreSteps c (Publishing key content with_ref) [] steps → AreMade c (Publishing key content with_ref) steps made
    → ((made ≡ []) × (next_step c (Publishing key content with_ref) steps ≡ None → ⊥))
    ⊎ ((made ≡ acts.Publish c.lane key content with_ref ∷ []) × (next_step c (Publishing key content with_ref) steps ≡ None))
publish_acts c key content with_ref [] made a m = inl (m, λ e. no_some _ e)
publish_acts c key content with_ref (publish ∷ []) made a m =
    let act : m.0 ≡ Some (acts.Publish c.lane key content with_ref) = made_by c _ publish m.0 (kinds.Publish with_ref) (same_kind _ _ publish a.0) m.2 in
    inr (m.3 ∙ (λ i. act_list (act i) ++ m.4 i), refl)
publish_acts c key content with_ref (publish ∷ other ∷ more) made a m = let bad = a.1.0 in absurd (cc bad)

pub release_steps : (c : Caller) (key : ℕ) (made more : List Step) → AreSteps c (Releasing key) made more → EndSteps c (place_of key) made more
release_steps c key made [] a = tt
release_steps c key made (step ∷ more) a = (a.0, release_steps c key (made ++ step ∷ []) more a.1)

-- the acts of a release: its own, and those of the END
pub release_acts : (c : Caller) (key : ℕ) (steps : List Step) (made : List Act) → AreSteps c (Releasing key) [] steps
    → AreMade c (Releasing key) steps made
    → ((made ≡ []) × (next_step c (Releasing key) steps ≡ None → ⊥))
    ⊎ ((rest : List Act) × (made ≡ acts.Release c.lane key ∷ rest) × Tail c.shape c.lane (place_of key) (IsOver c (Releasing key) steps) rest)
release_acts c key [] made a m = inl (m, λ e. no_some _ e)
release_acts c key (leave ∷ more) made a m =
    let act : m.0 ≡ Some (acts.Release c.lane key) = made_by c _ leave m.0 kinds.Leave (same_kind _ _ leave a.0) m.2 in
    inr (
      m.1,
      m.3 ∙ ap (λ (o : Option Act). act_list o ++ m.1) act,
      tail_same (AreFound more × (end_next c (place_of key) (leave ∷ more) ≡ None)) _ m.1 m.1 (λ over. (over.0.1, over.1)) refl
          (end_tail c (Releasing key) (place_of key) refl leave more m.1 (release_steps c key (leave ∷ []) more a.1) m.4),
    )

pub get_steps : (c : Caller) (key : ℕ) (enter : Step) → is_hit key enter.before ≡ false → (made more : List Step)
    → AreSteps c (Getting key) (enter ∷ made) more → EndSteps c (place_of key) made more
get_steps c key enter miss made [] a = tt
get_steps c key enter miss made (step ∷ more) a =
    (sym (ap (λ (b : Bool). cond b None (end_next c (place_of key) made)) miss) ∙ a.0, get_steps c key enter miss (made ++ step ∷ []) more a.1)

-- what a get's act shows
pub shown_as : (reply : Option (List ℕ)) → is_some reply ≡ true → (content : List ℕ) × (reply ≡ Some content)
shown_as (Some content) e = (content, refl)
shown_as None e = absurd (cc e)

pub hidden_as : (reply : Option (List ℕ)) → is_some reply ≡ false → reply ≡ None
hidden_as (Some content) e = absurd (cc e)
hidden_as None e = refl

-- the acts of a get: none yet, or for a key outside the shape; a content; or none, and the acts of the END
pub data GetActs (c : Caller) (key : ℕ) (Over : Type 0) (made : List Act) : Type 0 where
  unasked : made ≡ [] → GetActs c key Over made
  shows : (content : List ℕ) → made ≡ acts.Get c.lane key (Some content) ∷ [] → is_key c.shape key ≡ true → GetActs c key Over made
  misses : (rest : List Act) → made ≡ acts.Get c.lane key None ∷ rest → Tail c.shape c.lane (place_of key) Over rest → GetActs c key Over made

pub get_acts : (c : Caller) (key : ℕ) (steps : List Step) (made : List Act) → AreSteps c (Getting key) [] steps → AreMade c (Getting key) steps made
    → GetActs c key (IsOver c (Getting key) steps) made
get_acts c key [] made a m = unasked m
get_acts c key (enter ∷ more) made a m = by_test (is_hit key enter.before) refl more m.1 a.1 m.4 m.3
  where
    asked : (is_key c.shape key ≡ true) × (Some (aim kinds.Enter (words.Life (place_of key))) ≡ Some (aim enter.kind enter.word))
    asked = if_some (is_key c.shape key) _ _ a.0

    act : (reply : Option (List ℕ)) × (is_some reply ≡ is_hit key enter.before) × (m.0 ≡ Some (acts.Get c.lane key reply))
    act = made_by c (Getting key) enter m.0 kinds.Enter (same_kind _ _ enter asked.1) m.2

    by_test : (b : Bool) → is_hit key enter.before ≡ b → (more : List Step) (rest : List Act) → AreSteps c (Getting key) (enter ∷ []) more
        → AreMade c (Getting key) more rest → made ≡ act_list m.0 ++ rest → GetActs c key (IsOver c (Getting key) (enter ∷ more)) made
    by_test true hit [] rest a m e =
        let some_content = shown_as act.0 (act.1 ∙ hit) in
        shows some_content.0 (e ∙ (λ i. act_list ((act.2 ∙ ap (λ (r : Option (List ℕ)). Some (acts.Get c.lane key r)) some_content.1) i) ++ m i)) asked.0
    by_test true hit (other ∷ more) rest a m e =
        let bad : true ≡ false = sym hit ∙ (else_some (is_hit key enter.before) None _ _ refl a.0).0 in absurd (cc bad)
    by_test false miss more rest a m e =
        misses rest (e ∙ ap (λ (o : Option Act). act_list o ++ rest)
        (act.2 ∙ ap (λ (r : Option (List ℕ)). Some (acts.Get c.lane key r)) (hidden_as act.0 (act.1 ∙ miss))))
        (tail_same (AreFound more × (end_next c (place_of key) more ≡ None)) _ rest rest
        (λ over. (over.0.1, sym (ap (λ (b : Bool). cond b None (end_next c (place_of key) more)) miss) ∙ over.1)) refl
        (quiet_end c (Getting key) (place_of key) refl (λ o e. e) more rest (get_steps c key enter miss [] more a) m))

pub clear_steps : (c : Caller) (key : ℕ) (enter : Step) → is_hit key enter.before ≡ false → (made more : List Step)
    → AreSteps c (Clearing key) (enter ∷ made) more → EndSteps c (place_of key) made more
clear_steps c key enter miss made [] a = tt
clear_steps c key enter miss made (step ∷ more) a = (
  sym (ap (λ (b : Bool). cond b (mark_next c (place_of key) made) (end_next c (place_of key) made)) miss)
      ∙ a.0,
  clear_steps c key enter miss (made ++ step ∷ []) more a.1,
)

pub mark_steps : (c : Caller) (key : ℕ) (enter mark : Step) → is_hit key enter.before ≡ true → (made more : List Step)
    → AreSteps c (Clearing key) (enter ∷ mark ∷ made) more → EndSteps c (place_of key) made more
mark_steps c key enter mark hit made [] a = tt
mark_steps c key enter mark hit made (step ∷ more) a = (
  sym (ap (λ (b : Bool). cond b (end_next c (place_of key) made) (end_next c (place_of key) (mark ∷ made))) hit)
      ∙ a.0,
  mark_steps c key enter mark hit (made ++ step ∷ []) more a.1,
)

-- the acts of a clear: none before its own, then that, and those of the END
pub clear_acts : (c : Caller) (key : ℕ) (steps : List Step) (made : List Act) → AreSteps c (Clearing key) [] steps → AreMade c (Clearing key) steps made
    → (made ≡ [])
    ⊎ ((reply : Bool) × (rest : List Act) × (made ≡ acts.Clear c.lane key reply ∷ rest) × Tail c.shape c.lane (place_of key)
    (IsOver c (Clearing key) steps) rest)
clear_acts c key [] made a m = inl m
clear_acts c key (enter ∷ more) made a m = by_test (is_hit key enter.before) refl more m.1 a.1 m.4 m.3
  where
    asked : (is_key c.shape key ≡ true) × (Some (aim kinds.Enter (words.Life (place_of key))) ≡ Some (aim enter.kind enter.word))
    asked = if_some (is_key c.shape key) _ _ a.0

    act : m.0 ≡ cond (is_hit key enter.before) None (Some (acts.Clear c.lane key false))
    act = made_by c (Clearing key) enter m.0 kinds.Enter (same_kind _ _ enter asked.1) m.2

    by_test : (b : Bool) → is_hit key enter.before ≡ b → (more : List Step) (rest : List Act) → AreSteps c (Clearing key) (enter ∷ []) more
        → AreMade c (Clearing key) more rest → made ≡ act_list m.0 ++ rest
        → (made ≡ []) ⊎ ((reply : Bool) × (rest : List Act) × (made ≡ acts.Clear c.lane key reply ∷ rest)
        × Tail c.shape c.lane (place_of key) (IsOver c (Clearing key) (enter ∷ more)) rest)
    by_test true hit [] rest a m e =
        inl (e ∙ (λ i. act_list ((act ∙ ap (λ (b : Bool). cond b None (Some (acts.Clear c.lane key false))) hit) i) ++ m i))
    by_test true hit (mark ∷ more) rest a m e =
        let aimed : Some (aim kinds.Mark (words.Life (place_of key))) ≡ Some (aim mark.kind mark.word)
        = sym (ap (λ (b : Bool). cond b (mark_next c (place_of key) []) (end_next c (place_of key) [])) hit) ∙ a.0 in
        let marks : m.0 ≡ Some (acts.Clear c.lane key _) = made_by c (Clearing key) mark m.0 kinds.Mark (same_kind _ _ mark aimed) m.2 in
        inr (
          _,
          m.1,
          e ∙ (λ i. act_list ((act ∙ ap (λ (b : Bool). cond b None (Some (acts.Clear c.lane key false))) hit) i) ++
              (m.3 ∙ ap (λ (o : Option Act). act_list o ++ m.1) marks) i),
          tail_same (AreFound more × (end_next c (place_of key) more ≡ None)) _ m.1 m.1
              (λ over. (
                over.0.1.1,
                sym (ap (λ (b : Bool). cond b (end_next c (place_of key) more) (end_next c (place_of key) (mark ∷ more))) hit)
                    ∙ over.1,
              )) refl
              (quiet_end c (Clearing key) (place_of key) refl (λ o e. e) more m.1 (mark_steps c key enter mark hit [] more a.1) m.4),
        )
    by_test false miss more rest a m e =
        inr (
          false,
          rest,
          e ∙ ap (λ (o : Option Act). act_list o ++ rest)
              (act ∙ ap (λ (b : Bool). cond b None (Some (acts.Clear c.lane key false))) miss),
          tail_same (AreFound more × (end_next c (place_of key) more ≡ None)) _ rest rest
              (λ over. (over.0.1, sym (ap (λ (b : Bool). cond b (mark_next c (place_of key) more) (end_next c (place_of key) more)) miss) ∙ over.1)) refl
              (quiet_end c (Clearing key) (place_of key) refl (λ o e. e) more rest (clear_steps c key enter miss [] more a) m),
        )

-- the steps made so far of the TAKEs from this lane on, each the next one
abbrev pub TakeSteps : Caller → ℕ → List Step → List Step → Type 0
TakeSteps c lane made [] = Unit {0}
TakeSteps c lane made (step ∷ more) = (take_next c lane made ≡ Some (aim step.kind step.word)) × TakeSteps c lane (made ++ step ∷ []) more

pub create_steps : (c : Caller) (opened : ℕ) → eqb opened 0 ≡ false → (made more : List Step) → AreSteps c (Creating [] [] opened) made more
    → TakeSteps c (first_lane c.lane) made more
create_steps c opened some_page made [] a = tt
create_steps c opened some_page made (step ∷ more) a = (
  sym (ap (λ (b : Bool). cond b None (take_next c (first_lane c.lane) made)) some_page)
      ∙ a.0,
  create_steps c opened some_page (made ++ step ∷ []) more a.1,
)

pub empty_steps : (c : Caller) (lane : ℕ) (take : Step) → take.before ≡ 0 → (made more : List Step) → TakeSteps c lane (take ∷ made) more
    → TakeSteps c (next_lane c.lane lane) made more
empty_steps c lane take none made [] a = tt
empty_steps c lane take none made (step ∷ more) a = (
  sym (ap (λ (b : Bool). cond b (take_next c (next_lane c.lane lane) made) (follow_next c.lane take.before made)) (eq-eqb take.before 0 none)) ∙ a.0,
  empty_steps c lane take none (made ++ step ∷ []) more a.1,
)

-- what TAKEs made: nothing, or one Collect
take_acts : (c : Caller) (call : Call) (lane : ℕ) (steps : List Step) (made : List Act) → TakeSteps c lane [] steps → AreMade c call steps made
    → (made ≡ []) ⊎ ((places : List ℕ) × (made ≡ acts.Collect c.lane places ∷ []))
take_acts c call lane [] made a m = inl m
take_acts c call lane (take ∷ more) made a m = dite (ℕ_discrete take.before 0)
    (λ none. let no_act : m.0 ≡ None = takes.0 none in
    let same : made ≡ m.1 = m.3 ∙ ap (λ (o : Option Act). act_list o ++ m.1) no_act in
    ⊎_elim (λ (e : m.1 ≡ []). inl (same ∙ e)) (λ t. inr (t.0, same ∙ t.1))
    (take_acts c call (next_lane c.lane lane) more m.1 (empty_steps c lane take none [] more a.1) m.4))
    (λ found. let t = takes.1 found in
    inr (t.0, m.3 ∙ (λ i. act_list (t.2 i) ++ followed more m.1 a.1 m.4 found i)))
  where
    takes : (take.before ≡ 0 → m.0 ≡ None)
        × ((take.before ≡ 0 → ⊥) → (places : List ℕ) × Leads m.2.links c.lane take.before places × (m.0 ≡ Some (acts.Collect c.lane places)))
    takes = made_by c call take m.0 kinds.Take (same_kind _ _ take (if_some _ _ _ a.0).1) m.2

    follows : (more : List Step) (o : Option Aim) → take.before ≢ 0 → take_next c lane (take ∷ more) ≡ o → follow_next c.lane take.before more ≡ o
    follows more o found e = sym
        (ap (λ (b : Bool). cond b (take_next c (next_lane c.lane lane) more) (follow_next c.lane take.before more)) (ne_eqb take.before 0 found)) ∙ e

    followed : (more : List Step) (rest : List Act) → TakeSteps c lane (take ∷ []) more → AreMade c call more rest → take.before ≢ 0 → rest ≡ []
    followed [] rest a m found = m
    followed (follow ∷ []) rest a m found =
        let none : m.0 ≡ None = made_by c call follow m.0 kinds.Follow (same_kind _ _ follow (follows [] _ found a.0)) m.2 in
        m.3 ∙ (λ i. act_list (none i) ++ m.4 i)
    followed (follow ∷ other ∷ more) rest a m found = let bad = follows (follow ∷ []) _ found a.1.0 in absurd (cc bad)

-- the acts of a create: none, or where it had neither list nor chain one Collect
pub create_acts : (c : Caller) (own chain : List ℕ) (opened : ℕ) (steps : List Step) (made : List Act)
    → AreSteps c (Creating own chain opened) [] steps → AreMade c (Creating own chain opened) steps made
    → (made ≡ []) ⊎ ((places : List ℕ) × (made ≡ acts.Collect c.lane places ∷ []) × (own ≡ []) × (chain ≡ []))
create_acts c (place ∷ own) chain opened [] made a m = inl m
create_acts c (place ∷ own) chain opened (step ∷ more) made a m = let bad = a.0 in absurd (cc bad)
create_acts c [] (place ∷ chain) opened [] made a m = inl m
create_acts c [] (place ∷ chain) opened (follow ∷ []) made a m =
    let none : m.0 ≡ None = made_by c _ follow m.0 kinds.Follow (same_kind _ _ follow a.0) m.2 in inl (m.3 ∙ (λ i. act_list (none i) ++ m.4 i))
create_acts c [] (place ∷ chain) opened (follow ∷ other ∷ more) made a m = let bad = a.1.0 in absurd (cc bad)
create_acts c [] [] opened [] made a m = inl m
create_acts c [] [] opened (step ∷ more) made a m =
    let unopened = else_some (eqb opened 0) None _ _ refl a.0 in
    ⊎_elim (λ (e : made ≡ []). inl e) (λ t. inr (t.0, t.1, refl, refl))
    (take_acts c _ (first_lane c.lane) (step ∷ more) made (create_steps c opened unopened.0 [] (step ∷ more) a) m)
