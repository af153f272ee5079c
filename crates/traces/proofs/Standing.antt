-- Where each lane stands at a step or between two commands, what holds before each step tells what stands after each turn.
use Rattle.std.proofs.Common.{◌≡◌, ◌≢◌, ◌⊎◌, inl, inr, ℕ, ◌+◌, ◌-◌, ◌<◌, ◌≤◌, Bool, true, false, not, cond, eqb, ltb, ◌&&◌, List, [], ◌∷◌, Option, Some, None, is_some, refl, ap, sym, ◌∙◌, subst, arith, eq-eqb, ne_eqb}
use borrow.Author.Tests.{lt-ltb}
use Rattle.keybits.specs.declared.shape.Shape.{Shape}
use Rattle.keybits.specs.declared.step.Step.{Step}
use Rattle.keybits.specs.Places.{shard_of, page_of}
use Rattle.keybits.specs.Shapes.{is_place}
use Rattle.keybits.specs.Counts.{sum_below, times}
use Rattle.keybits.proofs.ShapeLemmas.{is_place-parts}
use Rattle.keybits.proofs.CountLemmas.{sum-none, sum-add, sum-same, sum-at}
use Rattle.seqpool.specs.declared.act.Act.{Act}
use Rattle.seqpool.specs.declared.act.Act.TheVariants.{Publish, Get, Release, Clear, Reclaim, Home, Collect}
use Rattle.seqpool.specs.Pool.{Phase, with, published, home, retired, Spot, Pool, spot, is_published, gained, lost, marked, lane_of, touches, changed, after, fresh, pool_from, pool_after, LegalFrom}
use Rattle.steplaws.specs.Calls.{Call, Caller, next_step}
use Rattle.steplaws.specs.declared.pending.Pending.{Pending}
use Rattle.steplaws.specs.declared.pending.Pending.TheVariants.{Nothing}
use Rattle.steplaws.specs.Facts.{Words, moment, is_home, Rule}
use Rattle.steplaws.proofs.Counts.{quiet-law}
use Rattle.traces.specs.declared.script.Command.{Command}
use Rattle.traces.specs.Registers.{fillings}
use Rattle.traces.specs.Books.{Book, caller, call_of_first, call_under_way, next_in, next_aim, taken, reclaimed, returned, pushed_after}
use Rattle.traces.specs.Lawful.{World, at_end, is_finished, IsAtRest}
use Rattle.traces.specs.Parts.{count_if, unopened, listed, under_clear, is_retired, parts, under_first, under_way, chain_of, moment_of, Stands}
use Rattle.traces.specs.Making.{AreMade, HasMade}
use Rattle.traces.specs.Keeping.{IsResting}
use Rattle.traces.specs.Owning.{is_with, publishes, collected, unopened_of, IsOwned, Holds}
use Rattle.traces.proofs.Ends.{still_pushed}
use Rattle.traces.proofs.SoundLemmas.{made_keyed}
use Rattle.traces.proofs.ReplyLemmas.{returned_le, one_collect, unpublished}

-- a call that has made no step has made no act
pub no_acts : (c : Caller) (o : Option Call) (steps : List Step) (made : List Act) → HasMade c o steps made → steps ≡ [] → made ≡ []
no_acts c None steps made h none = h.1
no_acts c (Some call) steps made h none = subst (λ (t : List Step). AreMade c call t made) none h.1

-- what there is of an option that has something
pub something : {A : Type 0} (o : Option A) → is_some o ≡ true → (x : A) × (o ≡ Some x)
something (Some x) e = (x, refl)
something None e = absurd (cc e)

-- at the script's end the lane has made no step
pub ended : (c : Caller) (b : Book) (left : List Command) (steps : List Step) (made : List Act) → at_end left ≡ true
    → HasMade c (call_of_first b left) steps made → steps ≡ []
ended c b [] steps made e h = h.0
ended c b (command ∷ more) steps made e h = absurd (cc e)

pub resting : (z : Shape) (lane : ℕ) (b : Book) → HasMade (caller z lane b) (call_under_way b) b.steps b.acts → IsAtRest z lane b → IsResting z lane b
resting z lane b made (inl e) = inl (ended (caller z lane b) b b.left b.steps b.acts e made)
resting z lane b made (inr e) = inr e

step_pushed : (c : Caller) (o : Option Call) (steps : List Step) (made : List Act) → HasMade c o steps made → is_some (next_in c steps o) ≡ true
    → (shard : ℕ) → pushed_after steps c.pushed shard ≡ c.pushed shard
step_pushed c None steps made h e shard = absurd (cc e)
step_pushed c (Some call) steps made h e shard = let next = something (next_step c call steps) e in still_pushed c call steps h.0 next.0 next.1 shard

module _ (z : Shape) (lane : ℕ) (b : Book) (made : HasMade (caller z lane b) (call_under_way b) b.steps b.acts) where
  -- the call under way has pushed nothing, and has published nothing
  resting_pushed : IsResting z lane b → (shard : ℕ) → pushed_after b.steps b.pushed shard ≡ b.pushed shard
  resting_pushed (inl none) shard = ap (λ (t : List Step). pushed_after t b.pushed shard) none
  resting_pushed (inr e) shard = step_pushed (caller z lane b) (call_under_way b) b.steps b.acts made e shard

  resting_published : IsResting z lane b → publishes b.acts ≡ []
  resting_published (inl none) = ap publishes (no_acts (caller z lane b) (call_under_way b) b.steps b.acts made none)
  resting_published (inr e) = let next = something (next_aim z lane b) e in unpublished z lane b made next.0 next.1

-- ---- each place is in one part

lane_sum : (closed own chain fill cleared collects is_here home_again out found : ℕ)
    → closed + own + chain + fill + cleared + collects ≡ is_here + home_again + out → out ≡ 0 → home_again ≤ cleared → found ≡ collects
    → closed + (own + chain + found) + fill + (cleared - home_again) ≡ is_here
lane_sum closed own chain fill cleared collects is_here home_again out found sum none less same = omega arith

-- how often a lane has the place, by its book and the call under way
abbrev had : Shape → ℕ → ℕ → Book → ℕ
had z place lane b = unopened_of place lane b.opened + listed place b + fillings place b.registers + under_clear z place b

lane_has : (z : Shape) (P : Pool) (lane place : ℕ) (b : Book) → is_place z place ≡ true → IsOwned z P lane b → IsResting z lane b
    → had z place lane b ≡ count_if (is_with lane (P place).phase)
lane_has z P lane place b is o rest =
    lane_sum (unopened_of place lane b.opened) (times place b.own) (times place b.chain) (fillings place b.registers)
    (times place (reclaimed z.last_generation b.acts)) (times place (collected b.acts)) (count_if (is_with lane (P place).phase))
    (times place (returned b.acts)) (times place (publishes b.acts)) (times place (taken b.acts))
    (o.places place is) (ap (times place) (resting_published z lane b o.call rest))
    (returned_le z lane b o.call (made_keyed (caller z lane b) (call_under_way b) b.steps b.acts o.call) place) (one_collect z lane b o.call place)

sum_four : (n : ℕ) (f g h k : ℕ → ℕ) → sum_below n (λ l. f l + g l + h l + k l) ≡ sum_below n f + sum_below n g + sum_below n h + sum_below n k
sum_four n f g h k =
    let a = sum-add n (λ l. f l + g l + h l) k in
    let b = sum-add n (λ l. f l + g l) h in
    let c = sum-add n f g in
    omega arith

-- a sum with one part that isn't 0
sum_only : (n at : ℕ) (f : ℕ → ℕ) → at < n → ((k : ℕ) → k ≢ at → f k ≡ 0) → sum_below n f ≡ f at
sum_only n at f below none =
    let a = sum-at n at f (λ k. 0) below (λ k less other. none k other) in
    let b = sum-none n in
    omega arith

-- of all lanes it is the one of its shard that may have the place unopened
unopened_sum : (n place : ℕ) (opened : ℕ → ℕ) → shard_of place < n
    → sum_below n (λ lane. unopened_of place lane (opened lane)) ≡ count_if (not (ltb (page_of place) (opened (shard_of place))))
unopened_sum n place opened below =
    sum_only n (shard_of place) (λ lane. unopened_of place lane (opened lane)) below
    (λ k other. ap (λ (t : Bool). count_if (t && not (ltb (page_of place) (opened k)))) (ne_eqb (shard_of place) k (λ e. other (sym e))))
    ∙ ap (λ (t : Bool). count_if (t && not (ltb (page_of place) (opened (shard_of place))))) (eq-eqb (shard_of place) (shard_of place) refl)

-- a place that is with a lane is with one of the shape
abbrev IsInside : ℕ → Phase → Type 0
IsInside n (with lane) = lane < n
IsInside n (published content references mark) = Unit {0}
IsInside n home = Unit {0}
IsInside n retired = Unit {0}

gained_inside : (n lane : ℕ) (f : Phase) → IsInside n f → IsInside n (gained lane f)
gained_inside n lane (with k) h = h
gained_inside n lane (published content references mark) h = tt
gained_inside n lane home h = tt
gained_inside n lane retired h = tt

lost_inside : (n lane : ℕ) (f : Phase) → IsInside n f → IsInside n (lost lane f)
lost_inside n lane (with k) h = h
lost_inside n lane (published content references mark) h = tt
lost_inside n lane home h = tt
lost_inside n lane retired h = tt

marked_inside : (n : ℕ) (f : Phase) → IsInside n f → IsInside n (marked f)
marked_inside n (with k) h = h
marked_inside n (published content references mark) h = tt
marked_inside n home h = tt
marked_inside n retired h = tt

either_inside : (n : ℕ) (t : Bool) (r s : Spot) → IsInside n r.phase → IsInside n s.phase → IsInside n (cond t r s).phase
either_inside n true r s a b = a
either_inside n false r s a b = b

changed_inside : (n last : ℕ) (act : Act) (s : Spot) → lane_of act < n → IsInside n s.phase → IsInside n (changed last act s).phase
changed_inside n last (Publish lane key content with_ref) s below h = tt
changed_inside n last (Get lane key None) s below h = h
changed_inside n last (Get lane key (Some content)) s below h = gained_inside n lane s.phase h
changed_inside n last (Release lane key) s below h = lost_inside n lane s.phase h
changed_inside n last (Clear lane key true) s below h = marked_inside n s.phase h
changed_inside n last (Clear lane key false) s below h = h
changed_inside n last (Reclaim lane key) s below h =
    either_inside n (eqb s.generation last) (spot s.generation retired) (spot (s.generation + 1) (with lane)) tt below
changed_inside n last (Home lane place) s below h = tt
changed_inside n last (Collect lane places) s below h = below

pool_inside : (z : Shape) → z.guests ≡ 0 → (P : Pool) (history : List Act) (place : ℕ) → LegalFrom z P history → IsInside z.lanes (P place).phase
    → IsInside z.lanes (pool_from z P history place).phase
pool_inside z alone P [] place legal h = h
pool_inside z alone P (act ∷ more) place legal h = pool_inside z alone (after z act P) more place legal.2
    (either_inside z.lanes (touches act place) (changed z.last_generation act (P place)) (P place)
    (changed_inside z.lanes z.last_generation act (P place) (omega (arith, legal.0, alone)) h) h)

-- a place is with one lane, or home, or published, or retired
one_phase : (n : ℕ) (f : Phase) → IsInside n f
    → sum_below n (λ lane. count_if (is_with lane f)) + count_if (is_home f) + count_if (is_published f) + count_if (is_retired f) ≡ 1
one_phase n (with k) below =
    let sum = sum_only n k (λ lane. count_if (eqb k lane)) below (λ l other. ap count_if (ne_eqb k l (λ e. other (sym e)))) in
    let one : count_if (eqb k k) ≡ 1 = ap count_if (eq-eqb k k refl) in
    omega arith
one_phase n (published content references mark) h = let none = sum-none n in omega arith
one_phase n home h = let none = sum-none n in omega arith
one_phase n retired h = let none = sum-none n in omega arith

parts_sum : (closed lists at_home fill clear in_map at_last withs all : ℕ)
    → all ≡ closed + lists + fill + clear → all ≡ withs → withs + at_home + in_map + at_last ≡ 1
    → closed + lists + at_home + fill + clear + in_map + at_last ≡ 1
parts_sum closed lists at_home fill clear in_map at_last withs all a b c = omega arith

module _ (z : Shape) (w : World) (h : Holds z w) (rest : (lane : ℕ) → lane < z.lanes → IsResting z lane (w.books lane)) (alone : z.guests ≡ 0) where
  one_part : (place : ℕ) → is_place z place ≡ true → parts z w place ≡ 1
  one_part place is =
      let P = pool_after z w.history in
      let f = (P place).phase in
      let below : shard_of place < z.lanes = (is_place-parts z place is).0 in
      let u = unopened_sum z.lanes place (λ lane. (w.books lane).opened) below in
      let all = sum_four z.lanes (λ lane. unopened_of place lane (w.books lane).opened) (λ lane. listed place (w.books lane))
      (λ lane. fillings place (w.books lane).registers) (λ lane. under_clear z place (w.books lane)) in
      parts_sum (unopened w place) (sum_below z.lanes (λ lane. listed place (w.books lane))) (count_if (is_home f))
      (sum_below z.lanes (λ lane. fillings place (w.books lane).registers)) (sum_below z.lanes (λ lane. under_clear z place (w.books lane)))
      (count_if (is_published f)) (count_if (is_retired f)) (sum_below z.lanes (λ lane. count_if (is_with lane f)))
      (sum_below z.lanes (λ lane. had z place lane (w.books lane)))
      (all ∙ ap (λ (n : ℕ). n + sum_below z.lanes (λ lane. listed place (w.books lane))
      + sum_below z.lanes (λ lane. fillings place (w.books lane).registers)
      + sum_below z.lanes (λ lane. under_clear z place (w.books lane))) u)
      (sum-same z.lanes (λ lane. had z place lane (w.books lane)) (λ lane. count_if (is_with lane f))
      (λ lane less. lane_has z P lane place (w.books lane) is (h.owned lane less) (rest lane less)))
      (one_phase z.lanes f (pool_inside z alone fresh w.history place h.rule.legal below))

-- ---- the rule

-- the rule asks only for what the lanes of the shape have last pushed
repushed : (z : Shape) (words : Words) (history : List Act) (under : ℕ → Pending) (pushed last : ℕ → ℕ → ℕ) (chain : ℕ → List ℕ)
    → Rule z (moment words history (record { under = under; pushed = pushed; chain = chain }))
    → ((shard lane : ℕ) → lane < z.lanes → pushed shard lane ≡ last shard lane)
    → Rule z (moment words history (record { under = under; pushed = last; chain = chain }))
repushed z words history under pushed last chain rule same = record {
  limits = rule.limits;
  wide = rule.wide;
  legal = rule.legal;
  count = rule.count;
  pinned = rule.pinned;
  state = rule.state;
  owed = rule.owed;
  home = record {
    stacks = rule.home.stacks;
    returned = rule.home.returned;
    bits = rule.home.bits;
    last_pushed = λ shard lane inside below apart.
        subst (λ (n : ℕ). (words.stack shard lane ≡ 0) ⊎ (words.stack shard lane ≡ n)) (same shard lane below)
        (rule.home.last_pushed shard lane inside below apart);
    returning = rule.home.returning;
    chained = rule.home.chained;
  };
  few = rule.few;
}

-- a lane that is finished has nothing under way
ended_idle : (z : Shape) (lane : ℕ) (b : Book) (left : List Command) (steps : List Step) → at_end left ≡ true
    → under_first z lane (call_of_first b left) steps ≡ Nothing
ended_idle z lane b [] steps e = refl
ended_idle z lane b (command ∷ more) steps e = absurd (cc e)

finished_idle : (z : Shape) (w : World) (lane : ℕ) → lane < z.lanes → is_finished z w lane ≡ true → under_way z w lane ≡ Nothing
finished_idle z w lane below finished = ended_idle z lane (w.books lane) (w.books lane).left (w.books lane).steps
    (sym (ap (λ (t : Bool). cond t (at_end (w.books lane).left) true) (lt-ltb lane z.lanes below)) ∙ finished)

pub stands : (z : Shape) → z.guests ≡ 0 → (w : World) → Holds z w → ((lane : ℕ) → lane < z.lanes → IsResting z lane (w.books lane)) → Stands z w
stands z alone w h rest =
    let rule : Rule z (moment_of z w) = repushed z w.words w.history (under_way z w)
    (λ shard lane. pushed_after (w.books lane).steps (w.books lane).pushed shard)
    (λ shard lane. (w.books lane).pushed shard) (chain_of w) h.rule
    (λ shard lane below. resting_pushed z lane (w.books lane) (h.owned lane below).call (rest lane below) shard) in
    record {
      one_part = one_part z w h rest alone;
      rule = rule;
      referred = λ finished place inside is.
          let some = quiet-law z (moment_of z w) rule (λ lane below. finished_idle z w lane (omega (arith, below, alone)) (finished lane)) place inside is in
          (some.0, omega (arith, some.1, alone), some.2);
    }
