-- What an unfinished call's steps and acts tell beside HasMade is kept: a PUSH that expects an empty stack finds one, and what is published
-- is no longer with its lane.
use Rattle.std.proofs.Common.{◌≡◌, ◌≢◌, ◌⊎◌, inl, inr, ⊎_elim, ℕ, ◌<◌, ◌≤◌, Bool, true, false, cond, eqb, ltb, List, [], ◌∷◌, ◌++◌, Option, Some, None, refl, ap, sym, ◌∙◌, subst, arith}
use Rattle.keybits.specs.declared.shape.Shape.{Shape}
use Rattle.keybits.specs.declared.step.Step.{Step}
use Rattle.keybits.specs.declared.step.Kind.{Kind}
use Rattle.keybits.specs.declared.step.Kind.TheVariants as kinds
use Rattle.keybits.specs.declared.step.Word.{Word}
use Rattle.keybits.specs.declared.step.Word.TheVariants.{Life, Link, Stack}
use Rattle.keybits.specs.Places.{shard_of}
use Rattle.keybits.specs.Keys.{place_of, is_key}
use Rattle.keybits.specs.Words.{generation_in}
use Rattle.keybits.specs.Counts.{times}
use Rattle.keybits.specs.Links.{link_to, linked_place}
use Rattle.keybits.proofs.ShapeLemmas.{is_place-parts}
use Rattle.seqpool.specs.declared.act.Act.{Act}
use Rattle.seqpool.specs.declared.act.Act.TheVariants as acts
use Rattle.seqpool.specs.Pool.{Pool, fresh, pool_from, LegalFrom, IsLegal, pool_after}
use Rattle.seqpool.proofs.Growth.{pool-append, legal-rest}
use Rattle.steplaws.specs.Calls.{Call, Publishing, Getting, Releasing, Clearing, Creating, Caller, Aim, aim, is_hit, owes_claim, end_next, mark_next, follow_next, next_lane, first_lane, take_next, next_step}
use Rattle.steplaws.specs.declared.pending.Pending.{Pending}
use Rattle.steplaws.specs.declared.pending.Pending.TheVariants.{Nothing, Returns}
use Rattle.steplaws.specs.Facts.{value_of, IsReturning}
use Rattle.traces.specs.declared.script.Command.{Command}
use Rattle.traces.specs.declared.reply.Reply.{Reply}
use Rattle.traces.specs.Books.{Book, caller, call_under_way, next_in, next_aim, reclaimed, pushed_after, act_list, stepped, answered_first, answered}
use Rattle.traces.specs.Following.{FirstReplies, IsReply}
use Rattle.traces.specs.Lawful.{World, IsStep}
use Rattle.traces.specs.Parts.{count_if, under_end, under_mark, under_miss, under_call, under_first}
use Rattle.traces.specs.Making.{AreMade, HasMade}
use Rattle.traces.specs.Owning.{is_with, publishes, collected, Holds}
use Rattle.traces.proofs.Ends.{still_pushed}
use Rattle.traces.proofs.Moves.{publishes-append, IsBy, moves, leaves, reclaims_key}
use Rattle.traces.proofs.Owns.{is_by}
use Rattle.traces.specs.Keeping.{AreKeyed, IsFound, AreFound, IsSound}
use Rattle.traces.proofs.ReplyLemmas.{unpublished}
use Rattle.traces.proofs.Idles.{same_kind, chosen_some}

-- ---- a PUSH

-- a kind that is no PUSH
abbrev NoPush : Kind → Type 0
NoPush kinds.Enter = Unit {0}
NoPush kinds.Leave = Unit {0}
NoPush (kinds.Publish with_ref) = Unit {0}
NoPush kinds.Mark = Unit {0}
NoPush (kinds.Claim generation) = Unit {0}
NoPush (kinds.Link expected) = Unit {0}
NoPush (kinds.Push expected link) = ⊥
NoPush kinds.Take = Unit {0}
NoPush kinds.Follow = Unit {0}

-- another step is no PUSH
other_step : (a : Aim) (expected link : ℕ) (word : Word) → NoPush a.kind → Some a ≡ Some (aim (kinds.Push expected link) word) → ⊥
other_step a expected link word isnt e = subst NoPush (same_kind a (aim (kinds.Push expected link) word) e) isnt

other_chosen : (t : Bool) (a : Aim) (expected link : ℕ) (word : Word) → NoPush a.kind
    → cond t (Some a) None ≡ Some (aim (kinds.Push expected link) word) → ⊥
other_chosen t a expected link word isnt e = subst NoPush (chosen_some t a (aim (kinds.Push expected link) word) e) isnt

other_last : (t : Bool) (a : Aim) (expected link : ℕ) (word : Word) → NoPush a.kind
    → cond t None (Some a) ≡ Some (aim (kinds.Push expected link) word) → ⊥
other_last true a expected link word isnt e = cc e
other_last false a expected link word isnt e = other_step a expected link word isnt e

abbrev word_or : Word → Option Aim → Word
word_or other (Some a) = a.word
word_or other None = other

abbrev expected_or : ℕ → Kind → ℕ
expected_or other kinds.Enter = other
expected_or other kinds.Leave = other
expected_or other (kinds.Publish with_ref) = other
expected_or other kinds.Mark = other
expected_or other (kinds.Claim generation) = other
expected_or other (kinds.Link expected) = other
expected_or other (kinds.Push expected link) = expected
expected_or other kinds.Take = other
expected_or other kinds.Follow = other

-- a PUSH is of a place to return, onto the lane's stack there; it expects what the lane last pushed there, or a PUSH of it failed before
record IsPush (lane : ℕ) (pushed : ℕ → ℕ) (pending : Pending) (expected : ℕ) (word : Word) : Type 0 where
  place : ℕ
  linked : Option ℕ
  failed : Bool
  under : pending ≡ Returns place linked failed
  on : word ≡ Stack (shard_of place) lane
  expects : (failed ≡ true) ⊎ (expected ≡ pushed (shard_of place))

module _ (z : Shape) (lane : ℕ) (pushed : ℕ → ℕ) (expected link : ℕ) (word : Word) where
  abbrev me : Caller
  me = record { shape = z; lane = lane; pushed = pushed }

  -- this is the PUSH
  abbrev push : Option Aim
  push = Some (aim (kinds.Push expected link) word)

  end_push : (place : ℕ) (steps : List Step) → end_next me place steps ≡ push → IsPush lane pushed (under_end z lane place steps) expected word
  end_push place [] e = absurd (other_step (aim kinds.Leave (Life place)) expected link word tt e)
  end_push place (leave ∷ []) e =
      absurd (other_chosen (owes_claim leave.before) (aim (kinds.Claim (generation_in leave.before)) (Life place)) expected link word tt e)
  end_push place (leave ∷ claim ∷ []) e = absurd (other_chosen _ (aim (kinds.Link (pushed (shard_of place))) (Link place)) expected link word tt e)
  end_push place (leave ∷ claim ∷ first ∷ []) e =
      let same = same_kind (aim (kinds.Push (pushed (shard_of place)) (link_to place)) (Stack (shard_of place) lane))
      (aim (kinds.Push expected link) word) e in
      record {
        place = place;
        linked = Some first.after;
        failed = false;
        under = refl;
        on = sym (ap (word_or word) e);
        expects = inr (sym (ap (expected_or expected) same));
      }
  end_push place (leave ∷ claim ∷ first ∷ last ∷ []) e =
      absurd (other_last (eqb last.before (pushed (shard_of place))) (aim (kinds.Link 0) (Link place)) expected link word tt e)
  end_push place (leave ∷ claim ∷ first ∷ last ∷ again ∷ []) e =
      record { place = place; linked = Some again.after; failed = true; under = refl; on = sym (ap (word_or word) e); expects = inl refl }
  end_push place (leave ∷ claim ∷ first ∷ last ∷ again ∷ more ∷ rest) e = absurd (cc e)

  miss_push : (key : ℕ) (steps : List Step) → end_next me (place_of key) steps ≡ push → IsPush lane pushed (under_miss z lane key steps) expected word
  miss_push key [] e = absurd (other_step (aim kinds.Leave (Life (place_of key))) expected link word tt e)
  miss_push key (leave ∷ more) e = end_push (place_of key) (leave ∷ more) e

  mark_push : (key : ℕ) (steps : List Step) → mark_next me (place_of key) steps ≡ push → IsPush lane pushed (under_mark z lane key steps) expected word
  mark_push key [] e = absurd (other_step (aim kinds.Mark (Life (place_of key))) expected link word tt e)
  mark_push key (mark ∷ []) e = absurd (other_step (aim kinds.Leave (Life (place_of key))) expected link word tt e)
  mark_push key (mark ∷ leave ∷ more) e = end_push (place_of key) (leave ∷ more) e

  get_push : (t : Bool) (key : ℕ) (steps : List Step) → cond t None (end_next me (place_of key) steps) ≡ push
      → IsPush lane pushed (cond t Nothing (under_miss z lane key steps)) expected word
  get_push true key steps e = absurd (cc e)
  get_push false key steps e = miss_push key steps e

  clear_push : (t : Bool) (key : ℕ) (steps : List Step) → cond t (mark_next me (place_of key) steps) (end_next me (place_of key) steps) ≡ push
      → IsPush lane pushed (cond t (under_mark z lane key steps) (under_miss z lane key steps)) expected word
  clear_push true key steps e = mark_push key steps e
  clear_push false key steps e = miss_push key steps e

  follow_no_push : (shard found : ℕ) (steps : List Step) → follow_next shard found steps ≡ push → ⊥
  follow_no_push shard found [] e = other_step (aim kinds.Follow (Link (linked_place shard found))) expected link word tt e
  follow_no_push shard found (follow ∷ more) e = cc e

  either_no_push : (t : Bool) (o p : Option Aim) → (o ≡ push → ⊥) → (p ≡ push → ⊥) → cond t o p ≡ push → ⊥
  either_no_push true o p first second e = first e
  either_no_push false o p first second e = second e

  take_no_push : (from : ℕ) (steps : List Step) → take_next me from steps ≡ push → ⊥
  take_no_push from [] e = other_chosen (ltb from z.lanes) (aim kinds.Take (Stack lane from)) expected link word tt e
  take_no_push from (take ∷ more) e =
      either_no_push (eqb take.before 0) (take_next me (next_lane lane from) more) (follow_next lane take.before more)
      (take_no_push (next_lane lane from) more) (follow_no_push lane take.before more) e

  create_no_push : (own chain : List ℕ) (opened : ℕ) (steps : List Step) → next_step me (Creating own chain opened) steps ≡ push → ⊥
  create_no_push (p ∷ own) chain opened steps e = cc e
  create_no_push [] (p ∷ chain) opened [] e = other_step (aim kinds.Follow (Link p)) expected link word tt e
  create_no_push [] (p ∷ chain) opened (follow ∷ more) e = cc e
  create_no_push [] [] opened steps e =
      either_no_push (eqb opened 0) None (take_next me (first_lane lane) steps) (λ bad. cc bad) (take_no_push (first_lane lane) steps) e

  call_push : (call : Call) (steps : List Step) → next_step me call steps ≡ push → IsPush lane pushed (under_call z lane call steps) expected word
  call_push (Publishing key content with_ref) [] e = absurd (other_step (aim (kinds.Publish with_ref) (Life (place_of key))) expected link word tt e)
  call_push (Publishing key content with_ref) (publish ∷ more) e = absurd (cc e)
  call_push (Getting key) [] e = absurd (other_chosen (is_key z key) (aim kinds.Enter (Life (place_of key))) expected link word tt e)
  call_push (Getting key) (enter ∷ steps) e = get_push (is_hit key enter.before) key steps e
  call_push (Releasing key) steps e = end_push (place_of key) steps e
  call_push (Clearing key) [] e = absurd (other_chosen (is_key z key) (aim kinds.Enter (Life (place_of key))) expected link word tt e)
  call_push (Clearing key) (enter ∷ steps) e = clear_push (is_hit key enter.before) key steps e
  call_push (Creating own chain opened) steps e = absurd (create_no_push own chain opened steps e)

  first_push : (o : Option Call) (steps : List Step) → next_in me steps o ≡ push → IsPush lane pushed (under_first z lane o steps) expected word
  first_push None steps e = absurd (cc e)
  first_push (Some call) steps e = call_push call steps e

-- the words last pushed are those that the call began with
next_pushed : (c : Caller) (o : Option Call) (steps : List Step) (made : List Act) (next : Aim) → HasMade c o steps made → next_in c steps o ≡ Some next
    → (shard : ℕ) → pushed_after steps c.pushed shard ≡ c.pushed shard
next_pushed c None steps made next h e shard = absurd (cc e)
next_pushed c (Some call) steps made next h e shard = still_pushed c call steps h.0 next e shard

-- a PUSH that expects an empty stack finds one
empty_push : (z : Shape) (w : World) (lane expected link : ℕ) (word : Word) → Holds z w → lane < z.lanes
    → next_aim z lane (w.books lane) ≡ Some (aim (kinds.Push expected link) word) → expected ≡ 0 → value_of w.words word ≡ 0
empty_push z w lane expected link word h below next none =
    let b = w.books lane in
    let p = first_push z lane b.pushed expected link word (call_under_way b) b.steps next in
    let home = h.rule.home in
    let r = subst (IsReturning z w.words w.history lane) p.under (home.returning lane (omega (arith, below))) in
    let inside : shard_of p.place < z.lanes = (is_place-parts z p.place r.inside).0 in
    let on = ap (value_of w.words) p.on in
    let same = next_pushed (caller z lane b) (call_under_way b) b.steps b.acts (aim (kinds.Push expected link) word)
    (h.owned lane below).call next (shard_of p.place) in
    ⊎_elim (λ (e : p.failed ≡ true). on ∙ r.emptied e)
    (λ (e : expected ≡ b.pushed (shard_of p.place)).
    ⊎_elim (λ (empty : w.words.stack (shard_of p.place) lane ≡ 0). on ∙ empty)
    (λ (last : w.words.stack (shard_of p.place) lane ≡ pushed_after b.steps b.pushed (shard_of p.place)). on ∙ (last ∙ (same ∙ (sym e ∙ none))))
    (home.last_pushed (shard_of p.place) lane inside below (λ s. r.apart (sym s))))
    p.expects

found_by : (kind : Kind) (word : Word) (before : ℕ)
    → ((expected link : ℕ) → kind ≡ kinds.Push expected link → expected ≡ 0 → before ≡ 0) → IsFound kind before
found_by kinds.Enter word before h = tt
found_by kinds.Leave word before h = tt
found_by (kinds.Publish with_ref) word before h = tt
found_by kinds.Mark word before h = tt
found_by (kinds.Claim generation) word before h = tt
found_by (kinds.Link expected) word before h = tt
found_by (kinds.Push expected link) word before h = h expected link refl
found_by kinds.Take word before h = tt
found_by kinds.Follow word before h = tt

found-snoc : (steps : List Step) (step : Step) → AreFound steps → IsFound step.kind step.before → AreFound (steps ++ step ∷ [])
found-snoc [] step are is = (is, tt)
found-snoc (x ∷ more) step are is = (are.0, found-snoc more step are.1 is)

-- ---- keys

keyed-append : (z : Shape) (xs ys : List Act) → AreKeyed z xs → AreKeyed z ys → AreKeyed z (xs ++ ys)
keyed-append z [] ys are is = is
keyed-append z (acts.Reclaim lane key ∷ more) ys are is = (are.0, keyed-append z more ys are.1 is)
keyed-append z (acts.Publish lane key content with_ref ∷ more) ys are is = keyed-append z more ys are is
keyed-append z (acts.Get lane key reply ∷ more) ys are is = keyed-append z more ys are is
keyed-append z (acts.Release lane key ∷ more) ys are is = keyed-append z more ys are is
keyed-append z (acts.Clear lane key reply ∷ more) ys are is = keyed-append z more ys are is
keyed-append z (acts.Home lane place ∷ more) ys are is = keyed-append z more ys are is
keyed-append z (acts.Collect lane places ∷ more) ys are is = keyed-append z more ys are is

keyed_by : (z : Shape) (act : Option Act) → ((lane key : ℕ) → act ≡ Some (acts.Reclaim lane key) → is_key z key ≡ true) → AreKeyed z (act_list act)
keyed_by z None h = tt
keyed_by z (Some (acts.Reclaim lane key)) h = (h lane key refl, tt)
keyed_by z (Some (acts.Publish lane key content with_ref)) h = tt
keyed_by z (Some (acts.Get lane key reply)) h = tt
keyed_by z (Some (acts.Release lane key)) h = tt
keyed_by z (Some (acts.Clear lane key reply)) h = tt
keyed_by z (Some (acts.Home lane place)) h = tt
keyed_by z (Some (acts.Collect lane places)) h = tt

-- what a call has reclaimed are keys of the shape
call_keyed : (c : Caller) (call : Call) (steps : List Step) (made : List Act) → AreMade c call steps made → AreKeyed c.shape made
call_keyed c call [] made m = subst (AreKeyed c.shape) (sym m) tt
call_keyed c call (step ∷ more) made (act, rest, is, e, m) =
    subst (AreKeyed c.shape) (sym e) (keyed-append c.shape (act_list act) rest (keyed_by c.shape act is.reclaims) (call_keyed c call more rest m))

pub made_keyed : (c : Caller) (o : Option Call) (steps : List Step) (made : List Act) → HasMade c o steps made → AreKeyed c.shape made
made_keyed c None steps made h = subst (AreKeyed c.shape) (sym h.1) tt
made_keyed c (Some call) steps made h = call_keyed c call steps made h.1

-- ---- what is published

uncounted : (t : Bool) → count_if t ≡ 0 → t ≡ false
uncounted true e = absurd (omega arith)
uncounted false e = refl

pub count_le : (t : Bool) → count_if t ≤ 1
count_le true = omega arith
count_le false = omega arith

-- an act that publishes brings no place
only_publishes : (last : ℕ) (act : Option Act) (place : ℕ) → 0 < times place (publishes (act_list act))
    → (times place (reclaimed last (act_list act)) ≡ 0) × (times place (collected (act_list act)) ≡ 0)
only_publishes last None place some = absurd (omega arith)
only_publishes last (Some (acts.Publish lane key content with_ref)) place some = (refl, refl)
only_publishes last (Some (acts.Get lane key reply)) place some = absurd (omega arith)
only_publishes last (Some (acts.Release lane key)) place some = absurd (omega arith)
only_publishes last (Some (acts.Clear lane key reply)) place some = absurd (omega arith)
only_publishes last (Some (acts.Reclaim lane key)) place some = absurd (omega arith)
only_publishes last (Some (acts.Home lane at)) place some = absurd (omega arith)
only_publishes last (Some (acts.Collect lane places)) place some = absurd (omega arith)

-- a place that the lane publishes is no longer with it
published_apart : (z : Shape) (P : Pool) (lane place : ℕ) (act : Option Act) → IsBy lane act → LegalFrom z P (act_list act)
    → 0 < times place (publishes (act_list act)) → is_with lane (pool_from z P (act_list act) place).phase ≡ false
published_apart z P lane place act mine legal some =
    let m = (moves z P lane act mine legal).places place in
    let none = only_publishes z.last_generation act place some in
    let none_reclaimed = none.0 in
    let none_collected = none.1 in
    let most = count_le (is_with lane (P place).phase) in
    uncounted (is_with lane (pool_from z P (act_list act) place).phase) (omega arith)

-- ---- the book

-- before the first step
pub sound_start : (z : Shape) (pool : Pool) (lane : ℕ) (b : Book) → b.steps ≡ [] → b.acts ≡ [] → IsSound z pool lane b
sound_start z pool lane b no_steps no_acts = record {
  keyed = subst (AreKeyed z) (sym no_acts) tt;
  found = subst AreFound (sym no_steps) tt;
  apart = λ place some.
      let none : times place (publishes b.acts) ≡ 0 = ap (λ (made : List Act). times place (publishes made)) no_acts in absurd (omega arith);
}

first_answered : (z : Shape) (pool : Pool) (lane : ℕ) (b : Book) (left : List Command) (reply : Reply) → FirstReplies z pool lane b left reply
    → IsSound z pool lane (answered_first z lane b left reply)
first_answered z pool lane b [] reply e = absurd e
first_answered z pool lane b (command ∷ more) reply e = sound_start z pool lane (answered_first z lane b (command ∷ more) reply) refl refl

-- after a reply
pub sound_reply : (z : Shape) (lane : ℕ) (pool : Pool) (b : Book) (reply : Reply)
    → IsReply z pool lane b reply → IsSound z pool lane (answered z lane b reply)
sound_reply z lane pool b reply is = first_answered z pool lane b b.left reply is.1

-- after a step of the lane
pub sound_step : (z : Shape) (w : World) (lane : ℕ) (step : Step) (act : Option Act) → Holds z w → lane < z.lanes
    → IsLegal z (w.history ++ act_list act)
    → IsStep z lane w.words (w.books lane) step act → IsSound z (pool_after z w.history) lane (w.books lane)
    → IsSound z (pool_after z (w.history ++ act_list act)) lane (stepped (w.books lane) step act)
sound_step z w lane step act h below legal is sound =
    let b = w.books lane in
    let P = pool_after z w.history in
    let last : LegalFrom z P (act_list act) = legal-rest z fresh w.history (act_list act) legal in
    let mine : IsBy lane act = is_by (caller z lane b) (call_under_way b) w.words.link step act is.makes in
    let none : publishes b.acts ≡ [] = unpublished z lane b (h.owned lane below).call (aim step.kind step.word) is.next in
    let all : publishes (b.acts ++ act_list act) ≡ publishes (act_list act) =
    publishes-append b.acts (act_list act) ∙ ap (λ (ps : List ℕ). ps ++ publishes (act_list act)) none in
    record {
      keyed = keyed-append z b.acts (act_list act) sound.keyed (keyed_by z act (λ l key e. reclaims_key z P act l key last e));
      found = found-snoc b.steps step sound.found (found_by step.kind step.word step.before (λ expected link e empty.
          is.before ∙ empty_push z w lane expected link step.word h below (is.next ∙ ap (λ (k : Kind). Some (aim k step.word)) e) empty));
      apart = λ place some. ap (λ (Q : Pool). is_with lane (Q place).phase) (pool-append z fresh w.history (act_list act))
          ∙ published_apart z P lane place act mine last (subst (λ (ps : List ℕ). 0 < times place ps) all some);
    }

-- after a step of another lane
pub sound_else : (z : Shape) (w : World) (lane other : ℕ) (step : Step) (act : Option Act) → IsLegal z (w.history ++ act_list act)
    → IsStep z lane w.words (w.books lane) step act → other ≢ lane → IsSound z (pool_after z w.history) other (w.books other)
    → IsSound z (pool_after z (w.history ++ act_list act)) other (w.books other)
sound_else z w lane other step act legal is apart sound =
    let P = pool_after z w.history in
    let last : LegalFrom z P (act_list act) = legal-rest z fresh w.history (act_list act) legal in
    let by_lane : IsBy lane act = is_by (caller z lane (w.books lane)) (call_under_way (w.books lane)) w.words.link step act is.makes in
    let same = (leaves z P lane other act by_lane apart last).places in
    record {
      keyed = sound.keyed;
      found = sound.found;
      apart = λ place some. ap (λ (Q : Pool). is_with other (Q place).phase) (pool-append z fresh w.history (act_list act))
          ∙ uncounted (is_with other (pool_from z P (act_list act) place).phase) (same place ∙ ap count_if (sound.apart place some));
    }
