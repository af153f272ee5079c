-- What the calls of commands that are done made and replied.
use Rattle.std.proofs.Common.{◌≡◌, ◌⊎◌, inl, inr, ℕ, Bool, true, false, cond, eqb, List, [], ◌∷◌, ◌++◌, Option, Some, None, is_some, refl, ap, sym, ◌∙◌, subst}
use Rattle.keybits.specs.declared.step.Kind.{Kind}
use Rattle.keybits.specs.declared.step.Kind.TheVariants as kinds
use Rattle.keybits.specs.declared.step.Word.TheVariants.{Life}
use Rattle.keybits.specs.declared.step.Step.{Step}
use Rattle.keybits.specs.Keys.{place_of, is_key}
use Rattle.keybits.specs.Words.{state_in}
use Rattle.seqpool.specs.declared.act.Act.{Act}
use Rattle.seqpool.specs.declared.act.Act.TheVariants as acts
use Rattle.steplaws.specs.Calls.{Call, Publishing, Getting, Releasing, Clearing, Caller, Aim, aim, is_hit, end_next, next_step, AreSteps, EnterMakes, KindMakes}
use Rattle.traces.specs.declared.reply.Reply.TheVariants as replies
use Rattle.traces.specs.Books.{act_list, shown, cleared}
use Rattle.traces.specs.Following.{get_reply}
use Rattle.traces.specs.Making.{IsMade, AreMade}
use Rattle.traces.specs.TurnLaws.{key_got, GetReplies, ClearReplies}

-- the kind of the next step
kind_next : Option Aim → Kind
kind_next None = kinds.Take
kind_next (Some next) = next.kind

kind_is : (kind other : Kind) (next more : Aim) → next.kind ≡ kind → more.kind ≡ other → Some next ≡ Some more → other ≡ kind
unfolding kind_next
kind_is kind other next more a b e = sym b ∙ (ap kind_next (sym e) ∙ a)

-- the act that a step of a known kind makes
makes_of : (c : Caller) (call : Call) (step : Step) (act : Option Act) (kind : Kind) → step.kind ≡ kind → (made : IsMade c call step act)
    → KindMakes kind c call made.links step.word step.before act
makes_of c call step act kind e made = subst (λ (k : Kind). KindMakes k c call made.links step.word step.before act) e made.makes

-- no further step, and so no further act
none_more : (c : Caller) (call : Call) (so_far more : List Step) (rest : List Act) → next_step c call so_far ≡ None → AreSteps c call so_far more → AreMade c call more rest
    → rest ≡ []
none_more c call so_far [] rest last are made = made
none_more c call so_far (step ∷ more) rest last are made = let bad : None ≡ Some (aim step.kind step.word) = sym last ∙ are.0 in absurd (cc bad)

module _ (c : Caller) (key : ℕ) where
  -- a publish that is whole made its Publish
  pub publish_made : (content : List ℕ) (with_ref : Bool) (steps : List Step) (made : List Act) → AreSteps c (Publishing key content with_ref) [] steps
      → AreMade c (Publishing key content with_ref) steps made → next_step c (Publishing key content with_ref) steps ≡ None
      → made ≡ acts.Publish c.lane key content with_ref ∷ []
  publish_made content with_ref [] made are were last = absurd (cc last)
  publish_made content with_ref (step ∷ more) made are (act, rest, one, is, later) last =
      let call = Publishing key content with_ref in
      let kind : step.kind ≡ kinds.Publish with_ref = kind_is (kinds.Publish with_ref) step.kind (aim (kinds.Publish with_ref) (Life (place_of key))) (aim step.kind step.word) refl refl are.0 in
      let act_is : act ≡ Some (acts.Publish c.lane key content with_ref) = makes_of c call step act (kinds.Publish with_ref) kind one in
      let nothing : rest ≡ [] = none_more c call (step ∷ []) more rest refl are.1 later in
      is ∙ ap (λ (t : Option Act × List Act). act_list t.0 ++ t.1) (λ i. (act_is i, nothing i))

  -- a release that is whole made its Release first
  pub release_made : (steps : List Step) (made : List Act) → AreSteps c (Releasing key) [] steps → AreMade c (Releasing key) steps made
      → next_step c (Releasing key) steps ≡ None → (rest : List Act) × (made ≡ acts.Release c.lane key ∷ rest)
  release_made [] made are were last = absurd (cc last)
  release_made (step ∷ more) made are (act, rest, one, is, later) last =
      let kind : step.kind ≡ kinds.Leave = kind_is kinds.Leave step.kind (aim kinds.Leave (Life (place_of key))) (aim step.kind step.word) refl refl are.0 in
      let act_is : act ≡ Some (acts.Release c.lane key) = makes_of c (Releasing key) step act kinds.Leave kind one in
      (rest, is ∙ ap (λ (o : Option Act). act_list o ++ rest) act_is)

  -- a get that has made an act made its Get first, and no other where that found the key
  Got : List Act → Type 0
  Got made = (reply : Option (List ℕ)) × (rest : List Act) × (made ≡ acts.Get c.lane key reply ∷ rest) × (is_some reply ≡ true → rest ≡ [])

  first_got : (step : Step) (more : List Step) (act : Option Act) (rest made : List Act) → is_key c.shape key ≡ true → AreSteps c (Getting key) [] (step ∷ more)
      → IsMade c (Getting key) step act → made ≡ act_list act ++ rest → AreMade c (Getting key) more rest → Got made
  unfolding Got
  first_got step more act rest made inside are one is later =
      let enters : Some (aim kinds.Enter (Life (place_of key))) ≡ Some (aim step.kind step.word) =
      ap (λ (b : Bool). cond b (Some (aim kinds.Enter (Life (place_of key)))) None) (sym inside) ∙ are.0 in
      let kind : step.kind ≡ kinds.Enter = kind_is kinds.Enter step.kind (aim kinds.Enter (Life (place_of key))) (aim step.kind step.word) refl refl enters in
      let makes : EnterMakes c (Getting key) step.before act = makes_of c (Getting key) step act kinds.Enter kind one in (
        makes.0,
        rest,
        is ∙ ap (λ (o : Option Act). act_list o ++ rest) makes.2,
        λ found. none_more c (Getting key) (step ∷ []) more rest
            (ap (λ (b : Bool). cond b None (end_next c (place_of key) [])) (sym makes.1 ∙ found)) are.1 later,
      )

  got_or_not : (steps : List Step) (made : List Act) → AreSteps c (Getting key) [] steps → AreMade c (Getting key) steps made
      → ((steps ≡ []) × (made ≡ [])) ⊎ Got made
  got_or_not [] made are were = inl (refl, were)
  got_or_not (step ∷ more) made are (act, rest, one, is, later) = by_test (is_key c.shape key) refl
    where
      by_test : (b : Bool) → is_key c.shape key ≡ b → (((step ∷ more) ≡ []) × (made ≡ [])) ⊎ Got made
      by_test true e = inr (first_got step more act rest made e are one is later)
      by_test false e =
          let bad : None ≡ Some (aim step.kind step.word) = ap (λ (b : Bool). cond b (Some (aim kinds.Enter (Life (place_of key)))) None) (sym e) ∙ are.0 in absurd (cc bad)

  -- what is shown is the Get's
  pub shown_key : (steps : List Step) (made : List Act) → AreSteps c (Getting key) [] steps → AreMade c (Getting key) steps made
      → (content : List ℕ) → shown made ≡ Some content → key_got made ≡ Some key
  unfolding Got
  shown_key steps made are were content e = elim (got_or_not steps made are were) [
    | inl none ↦ let bad : None ≡ Some content = sym (ap shown none.1) ∙ e in absurd (cc bad)
    | inr got ↦ ap key_got got.2
  ]

  outside : next_step c (Getting key) [] ≡ None → is_key c.shape key ≡ false
  outside last = by_test (is_key c.shape key) refl
    where
      by_test : (b : Bool) → is_key c.shape key ≡ b → is_key c.shape key ≡ false
      by_test true e =
          let bad : Some (aim kinds.Enter (Life (place_of key))) ≡ None = ap (λ (b : Bool). cond b (Some (aim kinds.Enter (Life (place_of key)))) None) (sym e) ∙ last in absurd (cc bad)
      by_test false e = e

  got_replies : (reply : Option (List ℕ)) (rest made : List Act) → made ≡ acts.Get c.lane key reply ∷ rest → (is_some reply ≡ true → rest ≡ [])
      → GetReplies c.shape c.lane key made (get_reply reply)
  got_replies None rest made is alone = inr (inl (rest, is, refl))
  got_replies (Some content) rest made is alone =
      inl (content, is ∙ ap (λ (r : List Act). acts.Get c.lane key (Some content) ∷ r) (alone refl), refl)

  -- the reply of a get that is whole
  pub get_replies : (steps : List Step) (made : List Act) → AreSteps c (Getting key) [] steps → AreMade c (Getting key) steps made
      → next_step c (Getting key) steps ≡ None → GetReplies c.shape c.lane key made (get_reply (shown made))
  unfolding Got
  get_replies steps made are were last = elim (got_or_not steps made are were) [
    | inl none ↦ inr (inr (outside (ap (next_step c (Getting key)) (sym none.0) ∙ last), none.1, ap (λ (m : List Act). get_reply (shown m)) none.1))
    | inr got ↦ subst (λ (o : Option (List ℕ)). GetReplies c.shape c.lane key made (get_reply o)) (sym (ap shown got.2)) (got_replies got.0 got.1 made got.2 got.3)
  ]

  -- a clear that is whole made its Clear first: at its ENTER where it missed, at its MARK where it hit
  clear_missed : (step : Step) (more : List Step) (act : Option Act) (rest made : List Act) → made ≡ act_list act ++ rest → act ≡ Some (acts.Clear c.lane key false)
      → ClearReplies c.shape c.lane key made (replies.Cleared (cleared made))
  clear_missed step more act rest made is act_is =
      let first : made ≡ acts.Clear c.lane key false ∷ rest = is ∙ ap (λ (o : Option Act). act_list o ++ rest) act_is in
      inl (false, rest, first, ap (λ (m : List Act). replies.Cleared (cleared m)) first)

  clear_hit : (enter : Step) (more : List Step) (made : List Act) → is_hit key enter.before ≡ true → AreSteps c (Clearing key) (enter ∷ []) more
      → AreMade c (Clearing key) more made → next_step c (Clearing key) (enter ∷ more) ≡ None → ClearReplies c.shape c.lane key made (replies.Cleared (cleared made))
  clear_hit enter [] made hit are were last =
      let bad : Some (aim kinds.Mark (Life (place_of key))) ≡ None =
      ap (λ (b : Bool). cond b (Some (aim kinds.Mark (Life (place_of key)))) (end_next c (place_of key) [])) (sym hit) ∙ last in absurd (cc bad)
  clear_hit enter (mark ∷ more) made hit are (act, rest, one, is, later) last =
      let marks : Some (aim kinds.Mark (Life (place_of key))) ≡ Some (aim mark.kind mark.word) =
      ap (λ (b : Bool). cond b (Some (aim kinds.Mark (Life (place_of key)))) (end_next c (place_of key) [])) (sym hit) ∙ are.0 in
      let kind : mark.kind ≡ kinds.Mark = kind_is kinds.Mark mark.kind (aim kinds.Mark (Life (place_of key))) (aim mark.kind mark.word) refl refl marks in
      let act_is : act ≡ Some (acts.Clear c.lane key (eqb (state_in mark.before) 1)) = makes_of c (Clearing key) mark act kinds.Mark kind one in
      let first : made ≡ acts.Clear c.lane key (eqb (state_in mark.before) 1) ∷ rest = is ∙ ap (λ (o : Option Act). act_list o ++ rest) act_is in
      inl (eqb (state_in mark.before) 1, rest, first, ap (λ (m : List Act). replies.Cleared (cleared m)) first)

  clear_entered : (step : Step) (more : List Step) (act : Option Act) (rest made : List Act) (hit : Bool) → is_hit key step.before ≡ hit
      → act ≡ cond hit None (Some (acts.Clear c.lane key false)) → made ≡ act_list act ++ rest → AreSteps c (Clearing key) (step ∷ []) more
      → AreMade c (Clearing key) more rest → next_step c (Clearing key) (step ∷ more) ≡ None → ClearReplies c.shape c.lane key made (replies.Cleared (cleared made))
  clear_entered step more act rest made true e act_is is are later last =
      let same : made ≡ rest = is ∙ ap (λ (o : Option Act). act_list o ++ rest) act_is in
      subst (λ (m : List Act). ClearReplies c.shape c.lane key m (replies.Cleared (cleared m))) (sym same) (clear_hit step more rest e are later last)
  clear_entered step more act rest made false e act_is is are later last = clear_missed step more act rest made is act_is

  -- the reply of a clear that is whole
  pub clear_replies : (steps : List Step) (made : List Act) → AreSteps c (Clearing key) [] steps → AreMade c (Clearing key) steps made
      → next_step c (Clearing key) steps ≡ None → ClearReplies c.shape c.lane key made (replies.Cleared (cleared made))
  clear_replies [] made are were last = inr (outside last, were, ap (λ (m : List Act). replies.Cleared (cleared m)) were)
  clear_replies (step ∷ more) made are (act, rest, one, is, later) last = by_test (is_key c.shape key) refl
    where
      by_test : (b : Bool) → is_key c.shape key ≡ b → ClearReplies c.shape c.lane key made (replies.Cleared (cleared made))
      by_test true e =
          let enters : Some (aim kinds.Enter (Life (place_of key))) ≡ Some (aim step.kind step.word) =
          ap (λ (b : Bool). cond b (Some (aim kinds.Enter (Life (place_of key)))) None) (sym e) ∙ are.0 in
          let kind : step.kind ≡ kinds.Enter = kind_is kinds.Enter step.kind (aim kinds.Enter (Life (place_of key))) (aim step.kind step.word) refl refl enters in
          let makes : EnterMakes c (Clearing key) step.before act = makes_of c (Clearing key) step act kinds.Enter kind one in
          clear_entered step more act rest made (is_hit key step.before) refl makes is are.1 later last
      by_test false e =
          let bad : None ≡ Some (aim step.kind step.word) = ap (λ (b : Bool). cond b (Some (aim kinds.Enter (Life (place_of key)))) None) (sym e) ∙ are.0 in absurd (cc bad)
