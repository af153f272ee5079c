-- What a call under way tells of its lane's book, and what its steps so far tell of an END.
use Rattle.std.proofs.Common.{◌≡◌, ℕ, zero, suc, ◌≢◌, ◌⊎◌, inl, inr, ◌+◌, ◌<◌, ◌≤◌, Bool, true, false, cond, eqb, ltb, not, ◌&&◌, List, [], ◌∷◌, ◌++◌, length, refl, ap, sym, ◌∙◌, subst, arith, append_assoc, append-nil, Option, Some, None}
use Rattle.std.proofs.lemmas.Bool.{eqb-true, eqb-false, ltb-true}
use Rattle.keybits.specs.declared.shape.Shape.{Shape}
use Rattle.keybits.specs.declared.step.Kind.{Kind}
use Rattle.keybits.specs.declared.step.Kind.TheVariants as kinds
use Rattle.keybits.specs.declared.step.Word.{Word}
use Rattle.keybits.specs.declared.step.Word.TheVariants.{Life, Link, Stack}
use Rattle.keybits.specs.declared.step.Step.{Step}
use Rattle.keybits.specs.Places.{shard_of}
use Rattle.keybits.specs.Keys.{key_number, place_of, is_key}
use Rattle.keybits.specs.Links.{linked_place}
use Rattle.keybits.specs.Counts.{times}
use Rattle.keybits.specs.Words.{generation_in}
use Rattle.keybits.proofs.KeyLemmas.{key_parts}
use Rattle.keybits.proofs.CountLemmas.{one_at, times-append}
use Rattle.seqpool.specs.declared.act.Act.{Act}
use Rattle.seqpool.specs.declared.act.Act.TheVariants as acts
use Rattle.seqpool.specs.Pool.{Pool, Phase, with, published, home, retired, is_current, references, pool_after}
use Rattle.steplaws.specs.Calls.{Call, Publishing, Getting, Releasing, Clearing, Creating, Caller, Aim, aim, owes_claim, is_claimed, first_lane, next_lane, end_next, follow_next, take_next, next_step, AreSteps, key_in, place_in, Makes, KindMakes, LeaveMakes}
use Rattle.steplaws.specs.Facts.{most_references, Moment}
use Rattle.steplaws.specs.StepLaws.{with_act}
use Rattle.traces.specs.declared.script.Command.{Command}
use Rattle.traces.specs.declared.script.Command.TheVariants as commands
use Rattle.traces.specs.declared.registers.RegisterState.{RegisterState}
use Rattle.traces.specs.declared.registers.Holding.{Holding}
use Rattle.traces.specs.declared.registers.Holding.TheVariants.{Empty, Filling, Reference}
use Rattle.traces.specs.Registers.{operand_key, register_at, fills, refers, fillings, held_references}
use Rattle.traces.specs.Books.{Book, publishing, releasing, creating, getting, clearing, holding_at, call_of, call_of_first, returned, taken, act_list}
use Rattle.traces.specs.Parts.{count_if, under_end, under_miss, under_mark}
use Rattle.traces.specs.Making.{AreMade}
use Rattle.traces.specs.Owning.{is_with, publishes, gains, releases, IsHolding, AreHolding, IsOwned}
use Rattle.traces.proofs.Ends.{AreEndSteps, IsLeaving}

pub same_some : {A : Type 0} (x y : A) → Some x ≡ Some y → x ≡ y
same_some x y e = cc e

-- the history with an act
pub with_act-list : (history : List Act) (act : Option Act) → with_act history act ≡ history ++ act_list act
with_act-list history None = sym (append-nil history)
with_act-list history (Some act) = refl

-- ---- the call under way

-- what the register, or the chain, of a call under way is
abbrev pub IsCalled : Book → Call → Type 0
IsCalled b (Publishing key content with_ref) = (number : ℕ) × (holding_at b number ≡ Filling key content)
IsCalled b (Getting key) = Unit {0}
IsCalled b (Releasing key) = (number : ℕ) × (content : List ℕ) × (holding_at b number ≡ Reference key content)
IsCalled b (Clearing key) = Unit {0}
IsCalled b (Creating own chain opened) = chain ≡ b.chain

module _ (b : Book) (call : Call) where
  called_publishing : (number : ℕ) (with_ref : Bool) (h : Holding) → holding_at b number ≡ h → publishing with_ref h ≡ Some call → IsCalled b call
  called_publishing number with_ref Empty holds e = absurd (cc e)
  called_publishing number with_ref (Filling key content) holds e = subst (IsCalled b) (same_some (Publishing key content with_ref) call e)
      (number, holds)
  called_publishing number with_ref (Reference key content) holds e = absurd (cc e)

  called_releasing : (number : ℕ) (h : Holding) → holding_at b number ≡ h → releasing h ≡ Some call → IsCalled b call
  called_releasing number Empty holds e = absurd (cc e)
  called_releasing number (Filling key content) holds e = absurd (cc e)
  called_releasing number (Reference key content) holds e = subst (IsCalled b) (same_some (Releasing key) call e) (number, content, holds)

  called_creating : (h : Holding) → creating b h ≡ Some call → IsCalled b call
  called_creating Empty e = subst (IsCalled b) (same_some (Creating b.own b.chain b.opened) call e) refl
  called_creating (Filling key content) e = absurd (cc e)
  called_creating (Reference key content) e = absurd (cc e)

  called_getting : (o : Option ℕ) (h : Holding) → getting o h ≡ Some call → IsCalled b call
  called_getting (Some key) Empty e = subst (IsCalled b) (same_some (Getting key) call e) tt
  called_getting (Some key) (Filling at content) e = absurd (cc e)
  called_getting (Some key) (Reference at content) e = absurd (cc e)
  called_getting None h e = absurd (cc e)

  called_clearing : (o : Option ℕ) → clearing o ≡ Some call → IsCalled b call
  called_clearing (Some key) e = subst (IsCalled b) (same_some (Clearing key) call e) tt
  called_clearing None e = absurd (cc e)

  called_by : (command : Command) → call_of b command ≡ Some call → IsCalled b call
  called_by (commands.Create r) e = called_creating (holding_at b r.number) e
  called_by (commands.Write r bytes) e = absurd (cc e)
  called_by (commands.Publish r) e = called_publishing r.number false (holding_at b r.number) refl e
  called_by (commands.Downgrade r) e = called_publishing r.number true (holding_at b r.number) refl e
  called_by (commands.Get r key) e = called_getting (operand_key b.registers key) (holding_at b r.number) e
  called_by (commands.Read r) e = absurd (cc e)
  called_by (commands.Release r) e = called_releasing r.number (holding_at b r.number) refl e
  called_by (commands.Clear key) e = called_clearing (operand_key b.registers key) e

  pub called : (left : List Command) → call_of_first b left ≡ Some call → IsCalled b call
  called [] e = absurd (cc e)
  called (command ∷ more) e = called_by command e

-- ---- the registers

-- what a register has is among what all have
fills-le : (place : ℕ) (xs : List RegisterState) (i : ℕ) → fills place (register_at xs i).holding ≤ fillings place xs
fills-le place [] i = omega arith
fills-le place (x ∷ xs) zero = omega arith
fills-le place (x ∷ xs) (suc i) = let r = fills-le place xs i in omega arith

refers-le : (key : ℕ) (xs : List RegisterState) (i : ℕ) → refers key (register_at xs i).holding ≤ held_references key xs
refers-le key [] i = omega arith
refers-le key (x ∷ xs) zero = omega arith
refers-le key (x ∷ xs) (suc i) = let r = refers-le key xs i in omega arith

one_if : (b : Bool) → count_if b ≤ 1
one_if true = omega arith
one_if false = omega arith

refers-one : (key : ℕ) (h : Holding) → refers key h ≤ 1
refers-one key Empty = omega arith
refers-one key (Filling at content) = omega arith
refers-one key (Reference at content) = one_if (eqb at key)

-- no more registers have a reference than there are
held-le : (key : ℕ) (xs : List RegisterState) → held_references key xs ≤ length xs
held-le key [] = omega arith
held-le key (x ∷ xs) = let one = refers-one key x.holding in let r = held-le key xs in omega arith

pub holding_of : (z : Shape) (pool : Pool) (made : List Act) (xs : List RegisterState) (i : ℕ) → AreHolding z pool made xs
    → IsHolding z pool made (register_at xs i).holding
holding_of z pool made [] i all = tt
holding_of z pool made (x ∷ xs) zero all = all.0
holding_of z pool made (x ∷ xs) (suc i) all = holding_of z pool made xs i all.1

with_is : (lane : ℕ) (f : Phase) → 0 < count_if (is_with lane f) → f ≡ with lane
with_is lane (with other) some = by_test (eqb other lane) refl some
  where
    by_test : (t : Bool) → eqb other lane ≡ t → 0 < count_if t → with other ≡ with lane
    by_test true e some = ap with (eqb-true other lane e)
    by_test false e some = absurd (omega arith)
with_is lane (published content refs mark) some = absurd (omega arith)
with_is lane home some = absurd (omega arith)
with_is lane retired some = absurd (omega arith)

-- ---- a call that has made no step

-- before a call's first step the lane and the pool agree, without any act in between
module _ (z : Shape) (pool : Pool) (lane : ℕ) (b : Book) (o : IsOwned z pool lane b) (idle : b.acts ≡ []) where
  -- a filling's place is with the lane, current, and not on its chain
  pub filling_facts : (number key : ℕ) (content : List ℕ) → holding_at b number ≡ Filling key content
      → (is_current z pool key ≡ true) × ((pool (place_of key)).phase ≡ with lane) × (times (place_of key) (b.chain ++ taken b.acts) ≡ 0)
  filling_facts number key content holds =
      let p : ℕ = place_of key in
      let held : IsHolding z pool b.acts (Filling key content) = subst (IsHolding z pool b.acts) holds
      (holding_of z pool b.acts b.registers number o.holding) in
      let one : fills p (register_at b.registers number).holding ≡ 1 = ap (fills p) holds ∙ one_at p p refl in
      let least = fills-le p b.registers number in
      let places = o.places p (key_parts z key held.0).place in
      let returns : times p (returned b.acts) ≡ 0 = ap (λ (made : List Act). times p (returned made)) idle in
      let publishes_none : times p (publishes b.acts) ≡ 0 = ap (λ (made : List Act). times p (publishes made)) idle in
      let takes : times p (taken b.acts) ≡ 0 = ap (λ (made : List Act). times p (taken made)) idle in
      let most = one_if (is_with lane (pool p).phase) in
      let both = times-append p b.chain (taken b.acts) in (
        held.1 publishes_none,
        with_is lane (pool p).phase (omega arith),
        omega arith,
      )

  -- a reference in a register is the lane's, and its key one of the shape
  pub reference_facts : (number key : ℕ) (content : List ℕ) → holding_at b number ≡ Reference key content → 0 < references z pool lane key
  reference_facts number key content holds =
      let one : refers key (register_at b.registers number).holding ≡ 1 = ap (refers key) holds ∙ one_at key key refl in
      let least = refers-le key b.registers number in
      let same = o.references key in
      let none : times key (releases b.acts) ≡ 0 = ap (λ (made : List Act). times key (releases made)) idle in
      omega arith

  -- the lane has no more references than registers
  pub fewer : (key : ℕ) → references z pool lane key < most_references
  fewer key =
      let most = held-le key b.registers in
      let same = o.references key in
      let sixteen = o.sixteen in
      let none : times key (gains b.acts) ≡ 0 = ap (λ (made : List Act). times key (gains made)) idle in
      omega arith

-- the key of a reference is one of the shape
pub reference_key : (z : Shape) (pool : Pool) (lane : ℕ) (b : Book) → IsOwned z pool lane b → (number key : ℕ) (content : List ℕ)
    → holding_at b number ≡ Reference key content → is_key z key ≡ true
reference_key z pool lane b o number key content holds =
    subst (IsHolding z pool b.acts) holds (holding_of z pool b.acts b.registers number o.holding)

-- ---- the steps so far

-- where a call goes on by an END after these steps, those behind them are the END's
pub end_steps : (c : Caller) (call : Call) (place : ℕ) (so_far made more : List Step) (told : List Act)
    → ((steps : List Step) → next_step c call (so_far ++ steps) ≡ end_next c place steps)
    → AreSteps c call (so_far ++ made) more → AreMade c call more told → AreEndSteps c place made more
end_steps c call place so_far made [] told ends are were = tt
end_steps c call place so_far made (step ∷ more) told ends are were = (
  sym (ends made) ∙ are.0,
  were.2.changes,
  end_steps c call place so_far (made ++ step ∷ []) more were.1 ends
      (subst (λ (steps : List Step). AreSteps c call steps more) (append_assoc so_far made (step ∷ [])) are.1) were.4,
)

-- what is under way at the steps of an END
module _ (z : Shape) (m : Moment) (lane : ℕ) where
  pub get_missed : (key : ℕ) (more : List Step) → m.lanes.under lane ≡ under_miss z lane key more → IsLeaving z m lane (Getting key) more
  get_missed key [] under = (false, under)
  get_missed key (x ∷ more) under = under

  pub clear_missed : (key : ℕ) (more : List Step) → m.lanes.under lane ≡ under_miss z lane key more → IsLeaving z m lane (Clearing key) more
  clear_missed key [] under = (false, under)
  clear_missed key (x ∷ more) under = under

  pub clear_marked : (key : ℕ) (mark : Step) (more : List Step) → m.lanes.under lane ≡ under_mark z lane key (mark ∷ more)
      → IsLeaving z m lane (Clearing key) more
  clear_marked key mark [] under = (true, under)
  clear_marked key mark (x ∷ more) under = under

  pub release_leaving : (c : Caller) (key : ℕ) (steps : List Step) (told : List Act) → m.lanes.under lane ≡ under_end z lane (place_of key) steps
      → AreMade c (Releasing key) steps told → (told ≡ [] → 0 < references z (pool_after z m.history) lane key)
      → IsLeaving z m lane (Releasing key) steps
  release_leaving c key [] told under were some = (under, some were)
  release_leaving c key (x ∷ more) told under were some = under

-- which kinds an END makes
abbrev pub is_end : Kind → Bool
is_end kinds.Leave = true
is_end (kinds.Claim generation) = true
is_end (kinds.Link expected) = true
is_end (kinds.Push expected link) = true
is_end kind = false

-- the step is one of an END, if there is one
abbrev IsEndAim : Option Aim → Type 0
IsEndAim None = Unit {0}
IsEndAim (Some next) = is_end next.kind ≡ true

end_where : (b : Bool) (next : Aim) → is_end next.kind ≡ true → IsEndAim (cond b (Some next) None)
end_where true next is = is
end_where false next is = tt

end_unless : (b : Bool) (next : Aim) → is_end next.kind ≡ true → IsEndAim (cond b None (Some next))
end_unless true next is = tt
end_unless false next is = is

end_aim : (c : Caller) (place : ℕ) (made : List Step) → IsEndAim (end_next c place made)
end_aim c place [] = refl
end_aim c place (leave ∷ []) = end_where (owes_claim leave.before) (aim (kinds.Claim (generation_in leave.before)) (Life place)) refl
end_aim c place (leave ∷ claim ∷ []) = end_where
    (is_claimed (generation_in leave.before) claim.before && not (eqb (generation_in leave.before) c.shape.last_generation)
    && not (eqb (shard_of place) c.lane))
    (aim (kinds.Link (c.pushed (shard_of place))) (Link place)) refl
end_aim c place (leave ∷ claim ∷ link ∷ []) = refl
end_aim c place (leave ∷ claim ∷ link ∷ push ∷ []) = end_unless (eqb push.before (c.pushed (shard_of place))) (aim (kinds.Link 0) (Link place)) refl
end_aim c place (leave ∷ claim ∷ link ∷ push ∷ again ∷ []) = refl
end_aim c place (leave ∷ claim ∷ link ∷ push ∷ again ∷ last ∷ more) = tt

pub end_kind : (c : Caller) (place : ℕ) (made : List Step) (kind : Kind) (word : Word) → end_next c place made ≡ Some (aim kind word)
    → is_end kind ≡ true
end_kind c place made kind word e = subst IsEndAim e (end_aim c place made)

-- no step of an END collects
leave_takes_none : (c : Caller) (call : Call) (act : Option Act) → LeaveMakes c call act → taken (act_list act) ≡ []
leave_takes_none c (Releasing key) act made = ap (λ (o : Option Act). taken (act_list o)) made
leave_takes_none c (Getting key) act made = ap (λ (o : Option Act). taken (act_list o)) made
leave_takes_none c (Clearing key) act made = ap (λ (o : Option Act). taken (act_list o)) made
leave_takes_none c (Publishing key content with_ref) act made = absurd made
leave_takes_none c (Creating own chain opened) act made = absurd made

if_takes_none : (b : Bool) (act : Act) → taken (act ∷ []) ≡ [] → taken (act_list (cond b (Some act) None)) ≡ []
if_takes_none true act none = none
if_takes_none false act none = refl

pub end_takes_none : (kind : Kind) (c : Caller) (call : Call) (links : ℕ → ℕ) (word : Word) (before : ℕ) (act : Option Act)
    → is_end kind ≡ true → KindMakes kind c call links word before act → taken (act_list act) ≡ []
end_takes_none kinds.Leave c call links word before act is made = leave_takes_none c call act made
end_takes_none (kinds.Claim generation) c call links word before act is made = ap (λ (o : Option Act). taken (act_list o)) made
    ∙ if_takes_none (is_claimed generation before) (acts.Reclaim c.lane (key_number c.shape.tag (place_in word) generation)) refl
end_takes_none (kinds.Link expected) c call links word before act is made = ap (λ (o : Option Act). taken (act_list o)) made
end_takes_none (kinds.Push expected link) c call links word before act is made = ap (λ (o : Option Act). taken (act_list o)) made
    ∙ if_takes_none (eqb before expected) (acts.Home c.lane (place_of (key_in call))) refl
end_takes_none kinds.Enter c call links word before act is made = absurd (cc is)
end_takes_none (kinds.Publish with_ref) c call links word before act is made = absurd (cc is)
end_takes_none kinds.Mark c call links word before act is made = absurd (cc is)
end_takes_none kinds.Take c call links word before act is made = absurd (cc is)
end_takes_none kinds.Follow c call links word before act is made = absurd (cc is)

-- ---- what comes next

-- a step that comes next where a test holds, and where it fails
pub next_where : (b : Bool) (x y : Aim) → cond b (Some x) None ≡ Some y → (b ≡ true) × (x ≡ y)
next_where true x y e = (refl, same_some x y e)
next_where false x y e = absurd (cc e)

pub next_unless : (b : Bool) (x : Option Aim) (y : Aim) → cond b None x ≡ Some y → (b ≡ false) × (x ≡ Some y)
next_unless true x y e = absurd (cc e)
next_unless false x y e = (refl, e)

pub no_next : {A : Type 0} (y : Aim) → None ≡ Some y → A
no_next y e = absurd (cc e)

-- ---- TAKE

-- the step is a TAKE or a FOLLOW, if there is one
abbrev IsTakeAim : Option Aim → Type 0
IsTakeAim None = Unit {0}
IsTakeAim (Some next) = (next.kind ≡ kinds.Take) ⊎ (next.kind ≡ kinds.Follow)

take_aim_if : (b : Bool) (x y : Option Aim) → IsTakeAim x → IsTakeAim y → IsTakeAim (cond b x y)
take_aim_if true x y p q = p
take_aim_if false x y p q = q

follow_aim : (shard word : ℕ) (steps : List Step) → IsTakeAim (follow_next shard word steps)
follow_aim shard word [] = inr refl
follow_aim shard word (follow ∷ more) = tt

take_aim : (c : Caller) (from : ℕ) (steps : List Step) → IsTakeAim (take_next c from steps)
take_aim c from [] = take_aim_if (ltb from c.shape.lanes) (Some (aim kinds.Take (Stack c.lane from))) None (inl refl) tt
take_aim c from (take ∷ more) = take_aim_if (eqb take.before 0) (take_next c (next_lane c.lane from) more) (follow_next c.lane take.before more)
    (take_aim c (next_lane c.lane from) more) (follow_aim c.lane take.before more)

pub take_kind : (c : Caller) (from : ℕ) (steps : List Step) (next : Aim) → take_next c from steps ≡ Some next
    → (next.kind ≡ kinds.Take) ⊎ (next.kind ≡ kinds.Follow)
take_kind c from steps next e = subst IsTakeAim e (take_aim c from steps)

-- after a TAKE that found a chain comes no other
no_take : (shard word : ℕ) (steps : List Step) (at : Word) → follow_next shard word steps ≡ Some (aim kinds.Take at) → ⊥
no_take shard word [] at e =
    let bad : kinds.Follow ≡ kinds.Take = ap (λ (a : Aim). a.kind)
    (same_some (aim kinds.Follow (Link (linked_place shard word))) (aim kinds.Take at) e) in absurd (cc bad)
no_take shard word (follow ∷ more) at e = no_next (aim kinds.Take at) e

first_of : (b : Bool) (x y : Option Aim) (at : Aim) → (y ≡ Some at → ⊥) → cond b x y ≡ Some at → (b ≡ true) × (x ≡ Some at)
first_of true x y at never e = (refl, e)
first_of false x y at never e = absurd (never e)

-- where a TAKE comes next, the TAKEs so far found nothing
take_again : (c : Caller) (from : ℕ) (take : Step) (more : List Step) (at : Word) → take_next c from (take ∷ more) ≡ Some (aim kinds.Take at)
    → (eqb take.before 0 ≡ true) × (take_next c (next_lane c.lane from) more ≡ Some (aim kinds.Take at))
take_again c from take more at e = first_of (eqb take.before 0) (take_next c (next_lane c.lane from) more) (follow_next c.lane take.before more)
    (aim kinds.Take at) (no_take c.lane take.before more at) e

next_apart : (own lane : ℕ) → next_lane own lane ≢ own
next_apart own lane = by_test (eqb (lane + 1) own) refl
  where
    by_test : (t : Bool) → eqb (lane + 1) own ≡ t → cond t (lane + 2) (lane + 1) ≢ own
    by_test true e = let is = eqb-true (lane + 1) own e in omega arith
    by_test false e = eqb-false (lane + 1) own e

pub first_apart : (own : ℕ) → first_lane own ≢ own
first_apart own = by_test (eqb own 0) refl
  where
    by_test : (t : Bool) → eqb own 0 ≡ t → cond t 1 0 ≢ own
    by_test true e = let is = eqb-true own 0 e in omega arith
    by_test false e = let is = eqb-false own 0 e in omega arith

-- a TAKE is of the stack of another lane of the shape
pub take_stack : (c : Caller) (from : ℕ) (steps : List Step) (at : Word) → from ≢ c.lane → take_next c from steps ≡ Some (aim kinds.Take at)
    → (other : ℕ) × (Stack c.lane other ≡ at) × (other < c.shape.lanes) × (other ≢ c.lane)
take_stack c from [] at apart e =
    let n = next_where (ltb from c.shape.lanes) (aim kinds.Take (Stack c.lane from)) (aim kinds.Take at) e in
    (from, ap (λ (a : Aim). a.word) n.1, ltb-true from c.shape.lanes n.0, apart)
take_stack c from (take ∷ more) at apart e =
    take_stack c (next_lane c.lane from) more at (next_apart c.lane from) (take_again c from take more at e).1

-- a TAKE that found nothing made no act
took_none : (c : Caller) (call : Call) (links : ℕ → ℕ) (take : Step) (act : Option Act) → kinds.Take ≡ take.kind → take.before ≡ 0
    → Makes c call links take act → act ≡ None
took_none c call links take act is none made = (subst (λ (k : Kind). KindMakes k c call links take.word take.before act) (sym is) made).0 none

-- where a TAKE comes next, there is no act yet
pub takes_none : (c : Caller) (call : Call) (so_far : List Step) (from : ℕ) (steps : List Step) (told : List Act) (at : Word)
    → ((more : List Step) → next_step c call (so_far ++ more) ≡ take_next c from more)
    → AreSteps c call so_far steps → AreMade c call steps told → take_next c from steps ≡ Some (aim kinds.Take at) → told ≡ []
takes_none c call so_far from [] told at goes are were e = were
takes_none c call so_far from (take ∷ more) told at goes are were e =
    let n = take_again c from take more at e in
    let this : cond (ltb from c.shape.lanes) (Some (aim kinds.Take (Stack c.lane from))) None ≡ Some (aim take.kind take.word)
    = sym (goes []) ∙ (ap (next_step c call) (append-nil so_far) ∙ are.0) in
    let is = next_where (ltb from c.shape.lanes) (aim kinds.Take (Stack c.lane from)) (aim take.kind take.word) this in
    let rest : were.1 ≡ [] = takes_none c call (so_far ++ take ∷ []) (next_lane c.lane from) more were.1 at
    (λ steps. ap (next_step c call) (append_assoc so_far (take ∷ []) steps) ∙ (goes (take ∷ steps)
    ∙ ap (λ (b : Bool). cond b (take_next c (next_lane c.lane from) steps) (follow_next c.lane take.before steps)) n.0))
    are.1 were.4 n.1 in
    let none : were.0 ≡ None = took_none c call were.2.links take were.0 (ap (λ (a : Aim). a.kind) is.1) (eqb-true take.before 0 n.0) were.2.makes in
    were.3 ∙ ap (λ (t : Option Act × List Act). act_list t.0 ++ t.1) (λ i. (none i, rest i))
