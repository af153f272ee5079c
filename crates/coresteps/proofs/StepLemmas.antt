-- The word and the act of a lane's next step.
use Rattle.std.proofs.Common.{◌≡◌, ◌≢◌, ◌⊎◌, inr, ⊎_elim, ℕ, ◌<◌, ◌≤◌, Bool, true, false, cond, eqb, ltb, not, ◌&&◌, List, [], ◌∷◌, ◌++◌, length, drop, append_assoc, append-nil, get_or, lit<, refl, ap, sym, ◌∙◌, subst, arith, eq-eqb, Option, Some, None, slice_get}
use Rattle.std.proofs.lemmas.Bool.{eqb-false}
use Rattle.keybits.specs.declared.shape.Shape.{Shape}
use Rattle.keybits.specs.declared.step.Kind.{Kind}
use Rattle.keybits.specs.declared.step.Kind.TheVariants as kinds
use Rattle.keybits.specs.declared.step.Word.{Word}
use Rattle.keybits.specs.declared.step.Word.TheVariants.{Life, Link, Stack}
use Rattle.keybits.specs.declared.step.Step.{Step}
use Rattle.keybits.specs.Places.{shard_of}
use Rattle.keybits.specs.Shapes.{IsShape, is_place}
use Rattle.keybits.specs.Keys.{key_number, place_of, generation_of, is_key}
use Rattle.keybits.specs.Counts.{times}
use Rattle.keybits.specs.Words.{generation_in, claimable}
use Rattle.keybits.specs.Links.{linked_place, Leads}
use Rattle.keybits.specs.Steps.{Changes}
use Rattle.keybits.proofs.KeyLemmas.{key_parts, place_of-key_number, generation_of-key_number, place_of-lt}
use Rattle.keybits.proofs.CountLemmas.{one_at, none_at, times-append, times-head, length_le}
use Rattle.keybits.proofs.LeadLemmas.{leads-same, leads-one, leads-word}
use Rattle.keybits.proofs.ShapeLemmas.{place_bounds, is_place-parts}
use Rattle.keybits.proofs.ChangeLemmas.{changes-one}
use Rattle.seqpool.specs.declared.act.Act.{Act}
use Rattle.seqpool.specs.declared.act.Act.TheVariants as acts
use Rattle.seqpool.specs.Pool.{Pool, Phase, with, published, home, retired, content_in, is_current, found, has, NoRepeats, AllHome, Allowed, fresh, pool_after, IsLegal}
use Rattle.seqpool.proofs.Growth.{legal-rest}
use Rattle.seqpool.proofs.Ranks.{current-key}
use Rattle.steplaws.specs.Calls.{Call, Publishing, Getting, Releasing, Clearing, Creating, Caller, Aim, aim, is_hit, owes_claim, is_claimed, first_lane, next_lane, end_next, mark_next, follow_next, take_next, next_step, AreSteps, key_in, place_in, EnterMakes, LeaveMakes, PublishMakes, TakeMakes, MarkMakes, Makes, KindMakes}
use Rattle.steplaws.specs.Facts.{Words, value_of}
use Rattle.steplaws.proofs.HomePlaces.{has-some}
use Rattle.traces.specs.Books.{Book, caller, call_of, call_under_way, next_in, next_aim, act_list}
use Rattle.traces.specs.Following.{row_content}
use Rattle.traces.specs.Lawful.{World, CallMakes, IsStep}
use Rattle.traces.specs.Making.{AreMade, HasMade}
use Rattle.traces.specs.Owning.{collected, IsHolding, IsOwned}
use Rattle.traces.specs.Keeping.{IsKept}
use Rattle.traces.proofs.StepCalls.{IsCalled, called, reference_key, next_where, next_unless, no_next, same_some, take_kind, take_stack, first_apart, holding_of}
use Rattle.traces.proofs.CallActs.{shown_as, hidden_as}
use Rattle.coresteps.specs.declared.progress.Call.{Call as CoreCall}
use Rattle.coresteps.specs.declared.progress.Call.TheVariants as calls
use Rattle.coresteps.specs.declared.words.Table.{Table}
use Rattle.coresteps.specs.Lanes.{IsCall, written_since}
use Rattle.coresteps.specs.Kept.{IsWordOf, IsTable, IsPublished}
use Rattle.coresteps.proofs.CountLemmas.{NotCreating}
use Rattle.coresteps.proofs.AimLemmas.{under_way}
use Rattle.traces.specs.declared.script.Command.{Command}
use Rattle.std.proofs.lemmas.Option.{slice_get-get_or, slice_get_within, get_or_from_slice_get}
use Rattle.std.proofs.lemmas.List.{get_or_append_left}
use Rattle.std.proofs.Math.Seq.{get_or-append_seam}
use Rattle.std.proofs.Common.{length-append}
use mathlib.Core.Logic.{dite}
use native.Mathlib.Decide.{ℕ_discrete}

-- ---- the word of an aim

-- a step on the words of this place, or on the stack to which it is returned
abbrev pub IsOfPlace : Caller → ℕ → Kind → Word → Type 0
IsOfPlace c place kinds.Enter word = word ≡ Life place
IsOfPlace c place kinds.Leave word = word ≡ Life place
IsOfPlace c place (kinds.Publish with_ref) word = word ≡ Life place
IsOfPlace c place kinds.Mark word = word ≡ Life place
IsOfPlace c place (kinds.Claim generation) word = word ≡ Life place
IsOfPlace c place (kinds.Link top) word = word ≡ Link place
IsOfPlace c place (kinds.Push top link) word = word ≡ Stack (shard_of place) c.lane
IsOfPlace c place kinds.Take word = ⊥
IsOfPlace c place kinds.Follow word = ⊥

-- the same of an aim, if there is one
abbrev MayBeOfPlace : Caller → ℕ → Option Aim → Type 0
MayBeOfPlace c place None = Unit {0}
MayBeOfPlace c place (Some next) = IsOfPlace c place next.kind next.word

module _ (c : Caller) (place : ℕ) where
  may_if : (t : Bool) (x y : Option Aim) → MayBeOfPlace c place x → MayBeOfPlace c place y → MayBeOfPlace c place (cond t x y)
  may_if true x y p q = p
  may_if false x y p q = q

  end_of : (made : List Step) → MayBeOfPlace c place (end_next c place made)
  end_of [] = refl
  end_of (leave ∷ []) = may_if (owes_claim leave.before) (Some (aim (kinds.Claim (generation_in leave.before)) (Life place))) None refl tt
  end_of (leave ∷ claim ∷ []) = may_if
      (is_claimed (generation_in leave.before) claim.before && not (eqb (generation_in leave.before) c.shape.last_generation)
      && not (eqb (shard_of place) c.lane))
      (Some (aim (kinds.Link (c.pushed (shard_of place))) (Link place))) None refl tt
  end_of (leave ∷ claim ∷ link ∷ []) = refl
  end_of (leave ∷ claim ∷ link ∷ push ∷ []) = may_if (eqb push.before (c.pushed (shard_of place))) None (Some (aim (kinds.Link 0) (Link place))) tt refl
  end_of (leave ∷ claim ∷ link ∷ push ∷ again ∷ []) = refl
  end_of (leave ∷ claim ∷ link ∷ push ∷ again ∷ last ∷ more) = tt

  mark_of : (made : List Step) → MayBeOfPlace c place (mark_next c place made)
  mark_of [] = refl
  mark_of (mark ∷ more) = end_of more

-- a step of a create is a TAKE or a FOLLOW, and one of another call is of the place of its key
abbrev pub IsAimOf : Caller → Call → Kind → Word → Type 0
IsAimOf c (Publishing key content with_ref) kind word = IsOfPlace c (place_of key) kind word
IsAimOf c (Getting key) kind word = IsOfPlace c (place_of key) kind word
IsAimOf c (Releasing key) kind word = IsOfPlace c (place_of key) kind word
IsAimOf c (Clearing key) kind word = IsOfPlace c (place_of key) kind word
IsAimOf c (Creating own chain opened) kind word = (kind ≡ kinds.Take) ⊎ (kind ≡ kinds.Follow)

-- a create's next step
create_aim : (c : Caller) (own chain : List ℕ) (opened : ℕ) (steps : List Step) (next : Aim) → next_step c (Creating own chain opened) steps ≡ Some next
    → (next.kind ≡ kinds.Take) ⊎ (next.kind ≡ kinds.Follow)
create_aim c (one ∷ own) chain opened steps next e = no_next next e
create_aim c [] (one ∷ chain) opened [] next e = inr (sym (ap (λ (a : Aim). a.kind) (same_some (aim kinds.Follow (Link one)) next e)))
create_aim c [] (one ∷ chain) opened (follow ∷ more) next e = no_next next e
create_aim c [] [] opened steps next e = take_kind c (first_lane c.lane) steps next (next_unless (eqb opened 0) (take_next c (first_lane c.lane) steps) next e).1

pub aim_is : (c : Caller) (call : Call) (steps : List Step) (next : Aim) → next_step c call steps ≡ Some next → IsAimOf c call next.kind next.word
aim_is c (Publishing key content with_ref) [] next e = subst (MayBeOfPlace c (place_of key)) e refl
aim_is c (Publishing key content with_ref) (publish ∷ more) next e = no_next next e
aim_is c (Getting key) [] next e = subst (MayBeOfPlace c (place_of key)) e
    (may_if c (place_of key) (is_key c.shape key) (Some (aim kinds.Enter (Life (place_of key)))) None refl tt)
aim_is c (Getting key) (enter ∷ more) next e = subst (MayBeOfPlace c (place_of key)) e
    (may_if c (place_of key) (is_hit key enter.before) None (end_next c (place_of key) more) tt (end_of c (place_of key) more))
aim_is c (Releasing key) steps next e = subst (MayBeOfPlace c (place_of key)) e (end_of c (place_of key) steps)
aim_is c (Clearing key) [] next e = subst (MayBeOfPlace c (place_of key)) e
    (may_if c (place_of key) (is_key c.shape key) (Some (aim kinds.Enter (Life (place_of key)))) None refl tt)
aim_is c (Clearing key) (enter ∷ more) next e = subst (MayBeOfPlace c (place_of key)) e
    (may_if c (place_of key) (is_hit key enter.before) (mark_next c (place_of key) more) (end_next c (place_of key) more)
    (mark_of c (place_of key) more) (end_of c (place_of key) more))
aim_is c (Creating own chain opened) steps next e = create_aim c own chain opened steps next e

-- ---- the key of a call

-- the key of a call with a next step is one of the shape
called_key : (z : Shape) (pool : Pool) (lane : ℕ) (b : Book) (call : Call) → IsOwned z pool lane b → NotCreating call → IsCalled b call
    → AreSteps (caller z lane b) call [] b.steps → (next : Aim) → next_step (caller z lane b) call b.steps ≡ Some next → is_key z (key_in call) ≡ true
called_key z pool lane b (Publishing key content with_ref) o keyed is are next e =
    (subst (IsHolding z pool b.acts) is.1 (holding_of z pool b.acts b.registers is.0 o.holding)).0
called_key z pool lane b (Getting key) o keyed is are next e = by_steps b.steps are e
  where
    by_steps : (steps : List Step) → AreSteps (caller z lane b) (Getting key) [] steps → next_step (caller z lane b) (Getting key) steps ≡ Some next
        → is_key z key ≡ true
    by_steps [] are e = (next_where (is_key z key) (aim kinds.Enter (Life (place_of key))) next e).0
    by_steps (enter ∷ more) are e = (next_where (is_key z key) (aim kinds.Enter (Life (place_of key))) (aim enter.kind enter.word) are.0).0
called_key z pool lane b (Releasing key) o keyed is are next e = reference_key z pool lane b o is.0 key is.1 is.2
called_key z pool lane b (Clearing key) o keyed is are next e = by_steps b.steps are e
  where
    by_steps : (steps : List Step) → AreSteps (caller z lane b) (Clearing key) [] steps → next_step (caller z lane b) (Clearing key) steps ≡ Some next
        → is_key z key ≡ true
    by_steps [] are e = (next_where (is_key z key) (aim kinds.Enter (Life (place_of key))) next e).0
    by_steps (enter ∷ more) are e = (next_where (is_key z key) (aim kinds.Enter (Life (place_of key))) (aim enter.kind enter.word) are.0).0
called_key z pool lane b (Creating own chain opened) o keyed is are next e = absurd keyed

-- ---- the FOLLOW of a chain that was just taken

-- what is collected later stands among all that is
collected_more : (p : ℕ) (a : Option Act) (rest : List Act) → times p (collected rest) ≤ times p (collected (act_list a ++ rest))
collected_more p None rest = omega arith
collected_more p (Some (acts.Publish lane key content with_ref)) rest = omega arith
collected_more p (Some (acts.Get lane key reply)) rest = omega arith
collected_more p (Some (acts.Release lane key)) rest = omega arith
collected_more p (Some (acts.Clear lane key reply)) rest = omega arith
collected_more p (Some (acts.Reclaim lane key)) rest = omega arith
collected_more p (Some (acts.Home lane place)) rest = omega arith
collected_more p (Some (acts.Collect lane places)) rest = let all = times-append p places (collected rest) in omega arith

-- the word of a FOLLOW is that of a place that was collected
abbrev IsCollected : Word → List Act → Type 0
IsCollected word told = (p : ℕ) × (word ≡ Link p) × (0 < times p (collected told))

leads_first : (links : ℕ → ℕ) (lane word : ℕ) (places : List ℕ) (rest : List Act) → word ≢ 0 → Leads links lane word places
    → 0 < times (linked_place lane word) (collected (acts.Collect lane places ∷ rest))
leads_first links lane word [] rest some leads = absurd (some leads)
leads_first links lane word (p ∷ places) rest some leads =
    let here = times-head p (places ++ collected rest) in
    subst (λ (x : ℕ). 0 < times x (p ∷ (places ++ collected rest))) leads.1 here

follow_word : (shard word : ℕ) (steps : List Step) (at : Word) → follow_next shard word steps ≡ Some (aim kinds.Follow at) → at ≡ Link (linked_place shard word)
follow_word shard word [] at e = sym (ap (λ (a : Aim). a.word) (same_some (aim kinds.Follow (Link (linked_place shard word))) (aim kinds.Follow at) e))
follow_word shard word (follow ∷ more) at e = no_next (aim kinds.Follow at) e

no_take_follow : (at : Word) (word : Word) → aim kinds.Take at ≡ aim kinds.Follow word → ⊥
no_take_follow at word e = let bad : kinds.Take ≡ kinds.Follow = ap (λ (a : Aim). a.kind) e in absurd (cc bad)

follow_taken : (c : Caller) (call : Call) (so_far : List Step) (from : ℕ) (steps : List Step) (told : List Act) (word : Word)
    → ((more : List Step) → next_step c call (so_far ++ more) ≡ take_next c from more)
    → AreSteps c call so_far steps → AreMade c call steps told → take_next c from steps ≡ Some (aim kinds.Follow word) → IsCollected word told
follow_taken c call so_far from [] told word goes are were e =
    absurd (no_take_follow (Stack c.lane from) word (next_where (ltb from c.shape.lanes) (aim kinds.Take (Stack c.lane from)) (aim kinds.Follow word) e).1)
follow_taken c call so_far from (first ∷ more) told word goes are were e = by_test (eqb first.before 0) refl
    (λ none. follow_taken c call (so_far ++ first ∷ []) (next_lane c.lane from) more were.1 word
    (λ steps. ap (next_step c call) (append_assoc so_far (first ∷ []) steps) ∙ (goes (first ∷ steps)
    ∙ ap (λ (b : Bool). cond b (take_next c (next_lane c.lane from) steps) (follow_next c.lane first.before steps)) none))
    are.1 were.4
    (sym (ap (λ (b : Bool). cond b (take_next c (next_lane c.lane from) more) (follow_next c.lane first.before more)) none) ∙ e))
  where
    by_test : (t : Bool) → eqb first.before 0 ≡ t → (eqb first.before 0 ≡ true → IsCollected word were.1) → IsCollected word told
    by_test true none rest =
        let later = rest none in
        let more_of = collected_more later.0 were.0 were.1 in
        let some = later.2 in
        (later.0, later.1, subst (λ (xs : List Act). 0 < times later.0 (collected xs)) (sym were.3) (omega arith))
    by_test false some rest =
        let this : cond (ltb from c.shape.lanes) (Some (aim kinds.Take (Stack c.lane from))) None ≡ Some (aim first.kind first.word)
        = sym (goes []) ∙ (ap (next_step c call) (append-nil so_far) ∙ are.0) in
        let is = next_where (ltb from c.shape.lanes) (aim kinds.Take (Stack c.lane from)) (aim first.kind first.word) this in
        let kind : kinds.Take ≡ first.kind = ap (λ (a : Aim). a.kind) is.1 in
        let full : first.before ≢ 0 = eqb-false first.before 0 some in
        let does = (subst (λ (k : Kind). KindMakes k c call were.2.links first.word first.before were.0) (sym kind) were.2.makes).1 full in
        let at : word ≡ Link (linked_place c.lane first.before) = follow_word c.lane first.before more word
        (sym (ap (λ (b : Bool). cond b (take_next c (next_lane c.lane from) more) (follow_next c.lane first.before more)) some) ∙ e) in
        let told_is : told ≡ acts.Collect c.lane does.0 ∷ were.1 = were.3 ∙ ap (λ (o : Option Act). act_list o ++ were.1) does.2 in (
          linked_place c.lane first.before,
          at,
          subst (λ (xs : List Act). 0 < times (linked_place c.lane first.before) (collected xs)) (sym told_is)
              (leads_first were.2.links c.lane first.before does.0 were.1 full does.1),
        )

-- ---- the aim's word is of the shape

module _ (z : Shape) (pool : Pool) (lane : ℕ) (b : Book) (o : IsOwned z pool lane b) (below : lane < z.lanes) where
  word_of_place : (place : ℕ) (kind : Kind) (word : Word) → is_place z place ≡ true → IsOfPlace (caller z lane b) place kind word → IsWordOf z word
  word_of_place place kinds.Enter word inside is = subst (IsWordOf z) (sym is) inside
  word_of_place place kinds.Leave word inside is = subst (IsWordOf z) (sym is) inside
  word_of_place place (kinds.Publish with_ref) word inside is = subst (IsWordOf z) (sym is) inside
  word_of_place place kinds.Mark word inside is = subst (IsWordOf z) (sym is) inside
  word_of_place place (kinds.Claim generation) word inside is = subst (IsWordOf z) (sym is) inside
  word_of_place place (kinds.Link top) word inside is = subst (IsWordOf z) (sym is) inside
  word_of_place place (kinds.Push top link) word inside is = subst (IsWordOf z) (sym is) ((is_place-parts z place inside).0, below)
  word_of_place place kinds.Take word inside is = absurd is
  word_of_place place kinds.Follow word inside is = absurd is

  create_inside : (own chain : List ℕ) (opened : ℕ) (steps : List Step) (told : List Act) (next : Aim) → chain ≡ b.chain
      → AreSteps (caller z lane b) (Creating own chain opened) [] steps → AreMade (caller z lane b) (Creating own chain opened) steps told → told ≡ b.acts
      → next_step (caller z lane b) (Creating own chain opened) steps ≡ Some next → IsWordOf z next.word
  create_inside (one ∷ own) chain opened steps told next chained are were is e = no_next next e
  create_inside [] (one ∷ chain) opened [] told next chained are were is e =
      let at : Link one ≡ next.word = ap (λ (a : Aim). a.word) (same_some (aim kinds.Follow (Link one)) next e) in
      let head = times-head one chain in
      let some : 0 < times one b.chain = subst (λ (xs : List ℕ). 0 < times one xs) chained head in
      subst (IsWordOf z) at (o.inside one (omega arith))
  create_inside [] (one ∷ chain) opened (follow ∷ more) told next chained are were is e = no_next next e
  create_inside [] [] opened steps told next chained are were is e =
      let c : Caller = caller z lane b in
      let n = next_unless (eqb opened 0) (take_next c (first_lane lane) steps) next e in
      ⊎_elim
      (λ (k : next.kind ≡ kinds.Take).
      let t = take_stack c (first_lane lane) steps next.word (first_apart lane) (n.1 ∙ ap (λ (k : Kind). Some (aim k next.word)) k) in
      subst (IsWordOf z) t.1 (below, t.2))
      (λ (k : next.kind ≡ kinds.Follow).
      let f = follow_taken c (Creating [] [] opened) [] (first_lane lane) steps told next.word
      (λ more. ap (λ (t : Bool). cond t None (take_next c (first_lane lane) more)) n.0) are were (n.1 ∙ ap (λ (k : Kind). Some (aim k next.word)) k) in
      let some : 0 < times f.0 (collected b.acts) = subst (λ (xs : List Act). 0 < times f.0 (collected xs)) is f.2 in
      subst (IsWordOf z) (sym f.1) (o.inside f.0 (omega arith)))
      (take_kind c (first_lane lane) steps next n.1)

  -- by the call under way
  inside_by : (call : Call) → IsCalled b call → AreSteps (caller z lane b) call [] b.steps → AreMade (caller z lane b) call b.steps b.acts
      → (next : Aim) → next_step (caller z lane b) call b.steps ≡ Some next → IsWordOf z next.word
  inside_by (Publishing key content with_ref) is are were next e = word_of_place (place_of key) next.kind next.word
      (key_parts z key (called_key z pool lane b (Publishing key content with_ref) o tt is are next e)).place (aim_is (caller z lane b) (Publishing key content with_ref) b.steps next e)
  inside_by (Getting key) is are were next e = word_of_place (place_of key) next.kind next.word
      (key_parts z key (called_key z pool lane b (Getting key) o tt is are next e)).place (aim_is (caller z lane b) (Getting key) b.steps next e)
  inside_by (Releasing key) is are were next e = word_of_place (place_of key) next.kind next.word
      (key_parts z key (called_key z pool lane b (Releasing key) o tt is are next e)).place (aim_is (caller z lane b) (Releasing key) b.steps next e)
  inside_by (Clearing key) is are were next e = word_of_place (place_of key) next.kind next.word
      (key_parts z key (called_key z pool lane b (Clearing key) o tt is are next e)).place (aim_is (caller z lane b) (Clearing key) b.steps next e)
  inside_by (Creating own chain opened) is are were next e = create_inside own chain opened b.steps b.acts next is are were refl e

-- a call under way, where there is a next step
pub record IsUnder (z : Shape) (lane : ℕ) (b : Book) (aimed : Aim) : Type 0 where
  pub call : Call
  pub under : call_under_way b ≡ Some call
  pub is : IsCalled b call
  pub are : AreSteps (caller z lane b) call [] b.steps
  pub were : AreMade (caller z lane b) call b.steps b.acts
  pub next : next_step (caller z lane b) call b.steps ≡ Some aimed

pub under_is : (z : Shape) (pool : Pool) (lane : ℕ) (b : Book) (next : Aim) → IsOwned z pool lane b → next_aim z lane b ≡ Some next → IsUnder z lane b next
under_is z pool lane b next o e = by_call (call_under_way b) refl
  where
    by_call : (x : Option Call) → call_under_way b ≡ x → IsUnder z lane b next
    by_call None u = no_next next (sym (ap (next_in (caller z lane b) b.steps) u) ∙ e)
    by_call (Some call) u =
        let made : AreSteps (caller z lane b) call [] b.steps × AreMade (caller z lane b) call b.steps b.acts
        = subst (λ (x : Option Call). HasMade (caller z lane b) x b.steps b.acts) u o.call in
        record {
          call = call;
          under = u;
          is = called b call b.left u;
          are = made.0;
          were = made.1;
          next = sym (ap (next_in (caller z lane b) b.steps) u) ∙ e;
        }

-- the word of the next step is of the shape
pub word_inside : (z : Shape) (w : World) (number : ℕ) (next : Aim) → IsKept z w → number < z.lanes → next_aim z number (w.books number) ≡ Some next
    → IsWordOf z next.word
word_inside z w number next k below e =
    let o = k.holds.owned number below in
    let u = under_is z (pool_after z w.history) number (w.books number) next o e in
    inside_by z (pool_after z w.history) number (w.books number) o below u.call u.is u.are u.were next u.next

-- ---- acts that are allowed

-- the last act of a legal history is allowed
pub last_allowed : (z : Shape) (history : List Act) (act : Act) → IsLegal z (history ++ act ∷ []) → Allowed z (pool_after z history) act
last_allowed z history act legal = (legal-rest z fresh history (act ∷ []) legal).1

-- the content of an unmarked place is the content of its row
row_of : (f : Phase) (text : List ℕ) → Some text ≡ content_in f → row_content f ≡ Some text
row_of (with lane) text e = absurd (cc e)
row_of (published content references true) text e = absurd (cc e)
row_of (published content references false) text e = sym e
row_of home text e = absurd (cc e)
row_of retired text e = absurd (cc e)

-- what a get shows is the content of its key, whose place is of the shape
pub shown_content : (z : Shape) (pool : Pool) (key : ℕ) (text : List ℕ) → Some text ≡ found z pool key
    → (is_place z (place_of key) ≡ true) × (row_content (pool (place_of key)).phase ≡ Some text)
shown_content z pool key text e = by_test (is_current z pool key) refl
  where
    by_test : (t : Bool) → is_current z pool key ≡ t
        → (is_place z (place_of key) ≡ true) × (row_content (pool (place_of key)).phase ≡ Some text)
    by_test true is = (
      (key_parts z key (current-key z pool key is).0).place,
      row_of (pool (place_of key)).phase text (e ∙ ap (λ (b : Bool). cond b (content_in (pool (place_of key)).phase) None) is),
    )
    by_test false is = let bad : Some text ≡ None = e ∙ ap (λ (b : Bool). cond b (content_in (pool (place_of key)).phase) None) is in absurd (cc bad)

-- a get that hits shows the content of its place
pub record Shows (z : Shape) (history : List Act) (lane key : ℕ) (act : Option Act) : Type 0 where
  pub text : List ℕ
  pub is : act ≡ Some (acts.Get lane key (Some text))
  pub inside : is_place z (place_of key) ≡ true
  pub row : row_content (pool_after z history (place_of key)).phase ≡ Some text

module _ (z : Shape) (history : List Act) (c : Caller) (called : Call) (act : Option Act) (script : List Command) (done : ℕ) (b : Book) (before : ℕ) where
  enters : (call : CoreCall) (key : ℕ) → call ≡ calls.Get key → IsCall script done b (Some call) (Some called) → EnterMakes c called before act
      → EnterMakes c (Getting key) before act
  enters call key is under makes =
      let same : Some called ≡ Some (Getting key) = subst (λ (x : CoreCall). IsCall script done b (Some x) (Some called)) is under in
      subst (λ (x : Call). EnterMakes c x before act) (same_some called (Getting key) same) makes

  pub enter_hits : (call : CoreCall) (key : ℕ) → call ≡ calls.Get key → IsCall script done b (Some call) (Some called) → EnterMakes c called before act
      → IsLegal z (history ++ act_list act) → is_hit key before ≡ true → Shows z history c.lane key act
  enter_hits call key is under makes legal hit =
      let does = enters call key is under makes in
      let some = shown_as does.0 (does.1 ∙ hit) in
      let act_is : act ≡ Some (acts.Get c.lane key (Some some.0)) = does.2 ∙ ap (λ (r : Option (List ℕ)). Some (acts.Get c.lane key r)) some.1 in
      let allowed = last_allowed z history (acts.Get c.lane key (Some some.0)) (subst (λ (o : Option Act). IsLegal z (history ++ act_list o)) act_is legal) in
      let shown = shown_content z (pool_after z history) key some.0 allowed in
      record { text = some.0; is = act_is; inside = shown.0; row = shown.1 }

  pub enter_misses : (call : CoreCall) (key : ℕ) → call ≡ calls.Get key → IsCall script done b (Some call) (Some called) → EnterMakes c called before act
      → is_hit key before ≡ false → act ≡ Some (acts.Get c.lane key None)
  enter_misses call key is under makes miss =
      let does = enters call key is under makes in
      does.2 ∙ ap (λ (r : Option (List ℕ)). Some (acts.Get c.lane key r)) (hidden_as does.0 (does.1 ∙ miss))

-- ---- the content of a place

-- what was published by an act of the history, and by the one behind it
pub published_front : (items more : List Act) (index : ℕ) (text : List ℕ) (x : Act) → IsPublished (items ++ more) index text → index < length items
    → x ≡ get_or items index x → (lane key : ℕ) × (with_ref : Bool) × (x ≡ acts.Publish lane key text with_ref)
published_front items more index text x p less is = (
  p.0,
  p.1,
  p.2,
  is ∙ (sym (get_or_append_left items more x index less)
      ∙ get_or_from_slice_get (items ++ more) index (acts.Publish p.0 p.1 text p.2) x p.3),
)

pub published_last : (items : List Act) (act : Act) (index : ℕ) (text : List ℕ) → IsPublished (items ++ act ∷ []) index text → length items ≤ index
    → (lane key : ℕ) × (with_ref : Bool) × (act ≡ acts.Publish lane key text with_ref)
published_last items act index text p past =
    let less = slice_get_within (items ++ act ∷ []) index (acts.Publish p.0 p.1 text p.2) p.3 in
    let all = length-append items (act ∷ []) in
    let at : index ≡ length items = omega arith in (
      p.0,
      p.1,
      p.2,
      sym (get_or-append_seam items act [] act) ∙ (ap (λ (n : ℕ). get_or (items ++ act ∷ []) n act) (sym at)
          ∙ get_or_from_slice_get (items ++ act ∷ []) index (acts.Publish p.0 p.1 text p.2) act p.3),
    )

pub published_none : (items : List Act) (index : ℕ) (text : List ℕ) → IsPublished (items ++ []) index text → length items ≤ index → ⊥
published_none items index text p past =
    let less = slice_get_within (items ++ []) index (acts.Publish p.0 p.1 text p.2) p.3 in
    let all = length-append items [] in
    absurd (omega arith)

-- ---- the places of a chain

module _ (z : Shape) (pool : Pool) (shard : ℕ) where
  -- each place of a list of home places
  home_each : (places : List ℕ) → AllHome z pool shard places → (x : ℕ) → 0 < times x places → (is_place z x ≡ true) × (shard_of x ≡ shard)
  home_each [] all x some = absurd (omega arith)
  home_each (p ∷ more) all x some = dite (ℕ_discrete p x)
      (λ e. (subst (λ (n : ℕ). is_place z n ≡ true) e all.0, ap shard_of (sym e) ∙ all.1))
      (λ d. let none = none_at p x d in home_each more all.3 x (omega arith))

  -- so are the places behind the first
  home_rest : (front rest : List ℕ) → AllHome z pool shard (front ++ rest) → AllHome z pool shard rest
  home_rest [] rest all = all
  home_rest (p ∷ front) rest all = home_rest front rest all.3

-- a list without repeats has each number once at most
has_times : (x : ℕ) (xs : List ℕ) → has xs x ≡ false → times x xs ≡ 0
has_times x xs none = dite (ℕ_discrete (times x xs) 0) (λ e. e)
    (λ some. let bad : true ≡ false = sym (has-some x xs (omega arith)) ∙ none in absurd (cc bad))

once_each : (xs : List ℕ) → NoRepeats xs → (x : ℕ) → times x xs ≤ 1
once_each [] once x = omega arith
once_each (y ∷ ys) once x = dite (ℕ_discrete y x)
    (λ e. let one = one_at y x e in let none = has_times x ys (ap (has ys) (sym e) ∙ once.0) in omega arith)
    (λ d. let none = none_at y x d in let rest = once_each ys once.1 x in omega arith)

-- the link word of a place that was found leads through the rest
pub record NextLink (z : Shape) (links : ℕ → ℕ) (shard word : ℕ) (front rest : List ℕ) : Type 0 where
  pub more : List ℕ
  pub is : rest ≡ linked_place shard word ∷ more
  pub on : Leads links shard (links (linked_place shard word)) more
  pub small : word ≤ 65536
  pub inside : is_place z (linked_place shard word) ≡ true
  pub few : length front < 16777216

pub next_link : (z : Shape) → IsShape z → (pool : Pool) (links : ℕ → ℕ) (shard word : ℕ) (front rest : List ℕ) → NoRepeats (front ++ rest)
    → AllHome z pool shard (front ++ rest) → Leads links shard word rest → word ≢ 0 → NextLink z links shard word front rest
next_link z shape pool links shard word front [] once all leads some = absurd (some leads)
next_link z shape pool links shard word front (p ∷ more) once all leads some =
    let each = home_each z pool shard (p ∷ more) (home_rest z pool shard front (p ∷ more) all) in
    let here = each p (times-head p more) in
    let most = length_le 16777216 (front ++ p ∷ more)
    (λ x in_it. (place_bounds z shape x (home_each z pool shard (front ++ p ∷ more) all x in_it).0).number) (once_each (front ++ p ∷ more) once) in
    let sum = length-append front (p ∷ more) in record {
      more = more;
      is = λ i. leads.1 i ∷ more;
      on = subst (λ (n : ℕ). Leads links shard (links n) more) leads.1 leads.2;
      small = leads-word links shard word (p ∷ more) (λ x in_it. (each x in_it).1) leads;
      inside = subst (λ (n : ℕ). is_place z n ≡ true) leads.1 here.0;
      few = omega arith;
    }

-- from the same table's words the links lead through the same places
pub same_places : (z : Shape) (table : Table) (words others : Words) (pool : Pool) (shard stack : ℕ) (places found : List ℕ)
    → IsTable z words table → IsTable z others table → AllHome z pool shard places → Leads words.link shard stack places
    → Leads others.link shard stack found → places ≡ found
same_places z table words others pool shard stack places found t u all leads on =
    leads-one others.link shard stack places found
    (leads-same words.link others.link shard stack places
    (λ x in_it. let inside = (home_each z pool shard places all x in_it).0 in sym (u.links x inside) ∙ t.links x inside) leads) on

-- ---- the act of a step

-- a claim that succeeded was of a generation of the shape
pub reclaim_facts : (z : Shape) (history : List Act) (lane p g : ℕ) → p < 16777216 → IsLegal z (history ++ acts.Reclaim lane (key_number z.tag p g) ∷ [])
    → (is_place z p ≡ true) × (1 ≤ g) × (g < 4294967296 → g ≤ z.last_generation)
reclaim_facts z history lane p g small legal =
    let k : ℕ = key_number z.tag p g in
    let allowed = last_allowed z history (acts.Reclaim lane k) legal in
    let parts = key_parts z k (current-key z (pool_after z history) k allowed.0).0 in
    let first = parts.first in
    let last = parts.last in (
      ap (is_place z) (sym (place_of-key_number z.tag p g small)) ∙ parts.place,
      dite (ℕ_discrete g 0)
          (λ e. let none : generation_of (key_number z.tag p g) ≡ 0
          = ap (λ (n : ℕ). generation_of (key_number z.tag p n)) e ∙ generation_of-key_number z.tag p 0 small (lit< tt) in absurd (omega arith))
          (λ d. omega arith),
      (λ fits. let same = generation_of-key_number z.tag p g small fits in omega arith),
    )

-- the core's call stands for one
called_of : (script : List Command) (done : ℕ) (b : Book) (call : CoreCall) (o : Option Call) → IsCall script done b (Some call) o
    → (called : Call) × (o ≡ Some called)
called_of script done b (calls.Publish register key created with_ref) o is = (Publishing key (written_since script created done register.number) with_ref, is.1)
called_of script done b (calls.Get key) o is = (Getting key, is)
called_of script done b (calls.Release key) o is = (Releasing key, is)
called_of script done b (calls.Clear key) o is = (Clearing key, is)
called_of script done b calls.Create o is = (Creating b.own b.chain b.opened, is)

-- the word of a claim
claim_word : (c : Caller) (call : Call) (g : ℕ) (word : Word) → IsAimOf c call (kinds.Claim g) word → word ≡ Life (place_of (key_in call))
claim_word c (Publishing key content with_ref) g word is = is
claim_word c (Getting key) g word is = is
claim_word c (Releasing key) g word is = is
claim_word c (Clearing key) g word is = is
claim_word c (Creating own chain opened) g word is = absurd (⊎_elim (λ (e : kinds.Claim g ≡ kinds.Take). no_claim_take e) (λ (e : kinds.Claim g ≡ kinds.Follow). no_claim_follow e) is)
  where
    no_claim_take : kinds.Claim g ≡ kinds.Take → ⊥
    no_claim_take e = cc e

    no_claim_follow : kinds.Claim g ≡ kinds.Follow → ⊥
    no_claim_follow e = cc e

-- a claim makes the act of the place of the call's key, and where it succeeds this is of the shape
module _ (z : Shape) (w : World) (number : ℕ) (step : Step) (act : Option Act) (called : Call) (generation : ℕ)
    (makes : KindMakes (kinds.Claim generation) (caller z number (w.books number)) called w.words.link step.word step.before act)
    (aims : IsAimOf (caller z number (w.books number)) called (kinds.Claim generation) step.word) where
  claim_by : act ≡ cond (is_claimed generation step.before) (Some (acts.Reclaim number (key_number z.tag (place_of (key_in called)) generation))) None
  claim_by = makes
      ∙ ap (λ (x : Word). cond (is_claimed generation step.before) (Some (acts.Reclaim number (key_number z.tag (place_in x) generation))) None)
      (claim_word (caller z number (w.books number)) called generation step.word aims)

  claim_of : IsLegal z (w.history ++ act_list act) → is_claimed generation step.before ≡ true
      → (is_place z (place_of (key_in called)) ≡ true) × (1 ≤ generation) × (generation < 4294967296 → generation ≤ z.last_generation)
  claim_of legal hit =
      let p : ℕ = place_of (key_in called) in
      let made : act ≡ Some (acts.Reclaim number (key_number z.tag p generation))
      = claim_by ∙ ap (λ (t : Bool). cond t (Some (acts.Reclaim number (key_number z.tag p generation))) None) hit in
      reclaim_facts z w.history number p generation (place_of-lt (key_in called)) (subst (λ (o : Option Act). IsLegal z (w.history ++ act_list o)) made legal)

-- what a step of the core's call makes
pub record IsGoing (z : Shape) (w : World) (number : ℕ) (script : List Command) (done : ℕ) (call : CoreCall) (step : Step) (act : Option Act) : Type 0 where
  pub called : Call
  pub is : IsCall script done (w.books number) (Some call) (Some called)
  pub makes : (kind : Kind) → step.kind ≡ kind → KindMakes kind (caller z number (w.books number)) called w.words.link step.word step.before act
  pub aims : (kind : Kind) → step.kind ≡ kind → IsAimOf (caller z number (w.books number)) called kind step.word

module _ (z : Shape) (w : World) (number : ℕ) (script : List Command) (done : ℕ) (call : CoreCall) (step : Step) (act : Option Act) where
  pub going : IsCall script done (w.books number) (Some call) (call_under_way (w.books number)) → IsStep z number w.words (w.books number) step act
      → IsGoing z w number script done call step act
  going is made =
      let b : Book = w.books number in
      let c : Caller = caller z number b in
      let u = called_of script done b call (call_under_way b) is in
      let makes : Makes c u.0 w.words.link step act = subst (λ (o : Option Call). CallMakes c o w.words.link step act) u.1 made.makes in
      let aims = aim_is c u.0 b.steps (aim step.kind step.word) (sym (ap (next_in c b.steps) u.1) ∙ made.next) in record {
        called = u.0;
        is = subst (λ (o : Option Call). IsCall script done b (Some call) o) u.1 is;
        makes = λ kind e. subst (λ (k : Kind). KindMakes k c u.0 w.words.link step.word step.before act) e makes;
        aims = λ kind e. subst (λ (k : Kind). IsAimOf c u.0 k step.word) e aims;
      }

  -- the place of a claim is that of the call's key
  pub claim_made : (g : IsGoing z w number script done call step act) (generation : ℕ) → step.kind ≡ kinds.Claim generation
      → act ≡ cond (is_claimed generation step.before) (Some (acts.Reclaim number (key_number z.tag (place_of (key_in g.called)) generation))) None
  claim_made g generation is = claim_by z w number step act g.called generation (g.makes (kinds.Claim generation) is) (g.aims (kinds.Claim generation) is)

  pub claim_facts : (g : IsGoing z w number script done call step act) (generation : ℕ) → step.kind ≡ kinds.Claim generation
      → IsLegal z (w.history ++ act_list act) → is_claimed generation step.before ≡ true
      → (is_place z (place_of (key_in g.called)) ≡ true) × (1 ≤ generation) × (generation < 4294967296 → generation ≤ z.last_generation)
  claim_facts g generation is legal hit =
      claim_of z w number step act g.called generation (g.makes (kinds.Claim generation) is) (g.aims (kinds.Claim generation) is) legal hit

-- a claim that succeeds is of a generation up to the last
pub claim_within : (z : Shape) (w : World) (number : ℕ) (step : Step) (act : Option Act) (generation : ℕ) → IsKept z w → number < z.lanes
    → IsStep z number w.words (w.books number) step act → IsLegal z (w.history ++ act_list act) → step.kind ≡ kinds.Claim generation
    → step.before ≡ claimable generation → generation < 4294967296 → generation ≤ z.last_generation
claim_within z w number step act generation k below made legal kind found fits =
    let b : Book = w.books number in
    let c : Caller = caller z number b in
    let u = under_is z (pool_after z w.history) number b (aim step.kind step.word) (k.holds.owned number below) made.next in
    let makes : Makes c u.call w.words.link step act = subst (λ (o : Option Call). CallMakes c o w.words.link step act) u.under made.makes in
    let aims = aim_is c u.call b.steps (aim step.kind step.word) u.next in
    (claim_of z w number step act u.call generation
    (subst (λ (x : Kind). KindMakes x c u.call w.words.link step.word step.before act) kind makes)
    (subst (λ (x : Kind). IsAimOf c u.call x step.word) kind aims) legal (eq-eqb step.before (claimable generation) found)).2 fits

-- ---- the step

-- the step of a value that its kind may leave
pub step_with : (z : Shape) (w : World) (number : ℕ) (next : Aim) (value before after : ℕ) (act : Option Act)
    → IsStep z number w.words (w.books number) (record { kind = next.kind; word = next.word; before = value_of w.words next.word; after = value }) act
    → before ≡ value_of w.words next.word → Changes z.last_generation next.kind before after
    → IsStep z number w.words (w.books number) (record { kind = next.kind; word = next.word; before = before; after = after }) act
step_with z w number next value before after act is at changes =
    let same : after ≡ value = changes-one z.last_generation next.kind before after value changes
    (subst (λ (n : ℕ). Changes z.last_generation next.kind n value) (sym at) is.changes) in
    subst (λ (t : ℕ × ℕ). IsStep z number w.words (w.books number) (record { kind = next.kind; word = next.word; before = t.0; after = t.1 }) act)
    (λ i. (sym at i, sym same i)) is

-- without a call there is no step
pub no_step : (z : Shape) (w : World) (number : ℕ) (step : Step) (act : Option Act) → call_under_way (w.books number) ≡ None
    → IsStep z number w.words (w.books number) step act → ⊥
no_step z w number step act none is =
    subst (λ (o : Option Call). CallMakes (caller z number (w.books number)) o w.words.link step act) none is.makes

-- the call under way is that of the next command
pub next_called : (script commands : List Command) (done : ℕ) (command : Command) (b : Book) → commands ≡ script → done < length commands
    → ((other : Command) → command ≡ get_or commands done other) → drop done script ≡ b.left → call_under_way b ≡ call_of b command
next_called script commands done command b same inside at left =
    under_way b script done command left (subst (λ (xs : List Command). slice_get xs done ≡ Some command) same
    (slice_get-get_or commands done command inside ∙ ap Some (sym (at command))))

-- ---- the place of a publish

-- only a publish publishes
publish_by_enter : (c : Caller) (call : Call) (word lane key : ℕ) (content : List ℕ) (with_ref : Bool)
    → EnterMakes c call word (Some (acts.Publish lane key content with_ref)) → ⊥
publish_by_enter c (Getting at) word lane key content with_ref (reply, shows, e) = absurd (cc e)
publish_by_enter c (Clearing at) word lane key content with_ref e = no_clear (is_hit at word) e
  where
    no_clear : (t : Bool) → Some (acts.Publish lane key content with_ref) ≡ cond t None (Some (acts.Clear c.lane at false)) → ⊥
    no_clear true e = absurd (cc e)
    no_clear false e = absurd (cc e)
publish_by_enter c (Publishing at text ref) word lane key content with_ref e = e
publish_by_enter c (Releasing at) word lane key content with_ref e = e
publish_by_enter c (Creating own chain opened) word lane key content with_ref e = e

publish_by_leave : (c : Caller) (call : Call) (lane key : ℕ) (content : List ℕ) (with_ref : Bool)
    → LeaveMakes c call (Some (acts.Publish lane key content with_ref)) → ⊥
publish_by_leave c (Releasing at) lane key content with_ref e = absurd (cc e)
publish_by_leave c (Getting at) lane key content with_ref e = absurd (cc e)
publish_by_leave c (Clearing at) lane key content with_ref e = absurd (cc e)
publish_by_leave c (Publishing at text ref) lane key content with_ref e = e
publish_by_leave c (Creating own chain opened) lane key content with_ref e = e

publish_by_mark : (c : Caller) (call : Call) (word lane key : ℕ) (content : List ℕ) (with_ref : Bool)
    → MarkMakes c call word (Some (acts.Publish lane key content with_ref)) → ⊥
publish_by_mark c (Clearing at) word lane key content with_ref e = absurd (cc e)
publish_by_mark c (Releasing at) word lane key content with_ref e = e
publish_by_mark c (Getting at) word lane key content with_ref e = e
publish_by_mark c (Publishing at text ref) word lane key content with_ref e = e
publish_by_mark c (Creating own chain opened) word lane key content with_ref e = e

publish_by_test : (t : Bool) (act : Act) (lane key : ℕ) (content : List ℕ) (with_ref : Bool) → (acts.Publish lane key content with_ref ≡ act → ⊥)
    → Some (acts.Publish lane key content with_ref) ≡ cond t (Some act) None → ⊥
publish_by_test true act lane key content with_ref other e = other (same_some (acts.Publish lane key content with_ref) act e)
publish_by_test false act lane key content with_ref other e = absurd (cc e)

publish_by_take : (c : Caller) (links : ℕ → ℕ) (word lane key : ℕ) (content : List ℕ) (with_ref : Bool)
    → TakeMakes c links word (Some (acts.Publish lane key content with_ref)) → ⊥
publish_by_take c links word lane key content with_ref t = dite (ℕ_discrete word 0)
    (λ e. let bad : Some (acts.Publish lane key content with_ref) ≡ None = t.0 e in absurd (cc bad))
    (λ d. let bad : Some (acts.Publish lane key content with_ref) ≡ Some (acts.Collect c.lane (t.1 d).0) = (t.1 d).2 in absurd (cc bad))

-- the key of the call that publishes
publish_key : (c : Caller) (call : Call) (lane key : ℕ) (content : List ℕ) (with_ref : Bool)
    → PublishMakes c call (Some (acts.Publish lane key content with_ref)) → NotCreating call × (key_in call ≡ key)
publish_key c (Publishing at text ref) lane key content with_ref e = (tt, cc e)
publish_key c (Getting at) lane key content with_ref e = absurd e
publish_key c (Releasing at) lane key content with_ref e = absurd e
publish_key c (Clearing at) lane key content with_ref e = absurd e
publish_key c (Creating own chain opened) lane key content with_ref e = absurd e

published_key : (kind : Kind) (c : Caller) (call : Call) (links : ℕ → ℕ) (word : Word) (before lane key : ℕ) (content : List ℕ) (with_ref : Bool)
    → KindMakes kind c call links word before (Some (acts.Publish lane key content with_ref)) → NotCreating call × (key_in call ≡ key)
published_key kinds.Enter c call links word before lane key content with_ref makes = absurd (publish_by_enter c call before lane key content with_ref makes)
published_key kinds.Leave c call links word before lane key content with_ref makes = absurd (publish_by_leave c call lane key content with_ref makes)
published_key (kinds.Publish ref) c call links word before lane key content with_ref makes = publish_key c call lane key content with_ref makes
published_key kinds.Mark c call links word before lane key content with_ref makes = absurd (publish_by_mark c call before lane key content with_ref makes)
published_key (kinds.Claim g) c call links word before lane key content with_ref makes =
    absurd (publish_by_test (is_claimed g before) (acts.Reclaim c.lane (key_number c.shape.tag (place_in word) g)) lane key content with_ref
    (λ (e : acts.Publish lane key content with_ref ≡ acts.Reclaim c.lane (key_number c.shape.tag (place_in word) g)). cc e) makes)
published_key (kinds.Link top) c call links word before lane key content with_ref makes = absurd (cc makes)
published_key (kinds.Push top link) c call links word before lane key content with_ref makes =
    absurd (publish_by_test (eqb before top) (acts.Home c.lane (place_of (key_in call))) lane key content with_ref
    (λ (e : acts.Publish lane key content with_ref ≡ acts.Home c.lane (place_of (key_in call))). cc e) makes)
published_key kinds.Take c call links word before lane key content with_ref makes = absurd (publish_by_take c links before lane key content with_ref makes)
published_key kinds.Follow c call links word before lane key content with_ref makes = absurd (cc makes)

-- the place of the key that a step publishes is of the shape
pub published_inside : (z : Shape) (w : World) (number : ℕ) (step : Step) (lane key : ℕ) (content : List ℕ) (with_ref : Bool) → IsKept z w
    → number < z.lanes → IsStep z number w.words (w.books number) step (Some (acts.Publish lane key content with_ref)) → is_place z (place_of key) ≡ true
published_inside z w number step lane key content with_ref k below is =
    let b : Book = w.books number in
    let c : Caller = caller z number b in
    let o = k.holds.owned number below in
    let u = under_is z (pool_after z w.history) number b (aim step.kind step.word) o is.next in
    let makes : Makes c u.call w.words.link step (Some (acts.Publish lane key content with_ref))
    = subst (λ (x : Option Call). CallMakes c x w.words.link step (Some (acts.Publish lane key content with_ref))) u.under is.makes in
    let p = published_key step.kind c u.call w.words.link step.word step.before lane key content with_ref makes in
    ap (λ (n : ℕ). is_place z (place_of n)) (sym p.1)
    ∙ (key_parts z (key_in u.call) (called_key z (pool_after z w.history) number b u.call o p.0 u.is u.are (aim step.kind step.word) u.next)).place
