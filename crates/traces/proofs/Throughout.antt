-- Whatever the schedule, what holds before each step and each reply is kept from the first world through all turns.
use Rattle.std.proofs.Common.{◌≡◌, inl, inr, ℕ, zero, suc, ◌^◌, ◌<◌, ◌≤◌, Bool, true, false, not, cond, eqb, ltb, ◌&&◌, List, [], ◌∷◌, ◌++◌, replicate, slice_get, append-nil, Option, Some, None, refl, ap, sym, ◌∙◌, subst, arith}
use borrow.Author.Tests.{ltb-true}
use Rattle.std.proofs.lemmas.Bool.{eqb-true}
use mathlib.Core.Path.{fun_ext}
use Rattle.keybits.specs.declared.shape.Shape.{Shape}
use Rattle.keybits.specs.declared.step.Step.{Step}
use Rattle.keybits.specs.Places.{shard_of, page_of}
use Rattle.keybits.specs.Shapes.{IsShape, is_place}
use Rattle.keybits.specs.Keys.{key_number}
use Rattle.keybits.proofs.KeyLemmas.{key_parts}
use Rattle.seqpool.specs.declared.act.Act.{Act}
use Rattle.seqpool.specs.Pool.{Pool, fresh, is_current, pool_after, IsLegal}
use Rattle.seqpool.proofs.Growth.{legal-front}
use Rattle.steplaws.specs.Calls.{Call, Caller}
use Rattle.steplaws.specs.Facts.{Words, Lanes, moment, with_value, Rule}
use Rattle.steplaws.specs.MomentLaws.{first_lanes}
use Rattle.steplaws.proofs.Generations.{key_now}
use Rattle.steplaws.proofs.Starts.{start-law}
use Rattle.steplaws.proofs.Updates.{at-here, at-lane}
use Rattle.traces.specs.declared.script.Command.{Command}
use Rattle.traces.specs.declared.reply.Reply.{Reply}
use Rattle.traces.specs.declared.trace.Turn.{Turn}
use Rattle.traces.specs.Registers.{empty_register, fillings, held_references}
use Rattle.traces.specs.Books.{Book, first_book, caller, call_under_way, answered, all_answered, act_list, stepped}
use Rattle.traces.specs.Following.{IsReply, AreReplies}
use Rattle.traces.specs.Lawful.{World, first_words, script_or_none, first_world, words_after, book_after_step, book_before, book_after, with_book, world_after, at_end, is_finished, IsStep, StepAndReplies, IsNextTurn, AreTurns, world_from}
use Rattle.traces.specs.Parts.{count_if, StandsThroughout}
use Rattle.traces.specs.Making.{HasMade}
use Rattle.traces.specs.Owning.{unopened_of, AreHolding, IsOwned, lanes_now, Holds}
use Rattle.traces.specs.Keeping.{IsSound, IsKept, IsResting, AreResting}
use Rattle.traces.specs.TraceLaws.{StandsLaw, HoldsLaw}
use Rattle.traces.proofs.Idles.{under_start}
use Rattle.traces.proofs.Worlds.{after_step, after_reply}
use Rattle.traces.proofs.ReplyRules.{rule_reply}
use Rattle.traces.proofs.StepRules.{rule_step}
use Rattle.traces.proofs.Owns.{AreReturns, owned_step, owned_else}
use Rattle.traces.proofs.ReplyLemmas.{owned_reply, returned_le}
use Rattle.traces.proofs.SoundLemmas.{made_keyed, sound_start, sound_reply, sound_step, sound_else}
use Rattle.traces.proofs.Standing.{resting, stands}

-- ---- the first world

first_lanes_now : (z : Shape) (scripts : List (List Command)) → lanes_now z (first_world scripts) ≡ first_lanes
first_lanes_now z scripts = λ i. record {
  under = λ lane. under_start z lane (call_under_way (first_book (script_or_none (slice_get scripts lane)))) i;
  pushed = λ shard lane. 0;
  chain = λ lane. [];
}

no_fillings : (place n : ℕ) → fillings place (replicate n empty_register) ≡ 0
no_fillings place zero = refl
no_fillings place (suc n) = let rest = no_fillings place n in omega arith

no_references : (key n : ℕ) → held_references key (replicate n empty_register) ≡ 0
no_references key zero = refl
no_references key (suc n) = let rest = no_references key n in omega arith

none_holding : (z : Shape) (P : Pool) (n : ℕ) → AreHolding z P [] (replicate n empty_register)
none_holding z P zero = tt
none_holding z P (suc n) = (tt, none_holding z P n)

first_made : (c : Caller) (o : Option Call) → HasMade c o [] []
first_made c None = (refl, refl)
first_made c (Some call) = (tt, refl)

none_below : (n : ℕ) → ltb n 0 ≡ false
none_below n = by_test (ltb n 0) refl
  where
    by_test : (t : Bool) → ltb n 0 ≡ t → ltb n 0 ≡ false
    by_test true e = let less = ltb-true n 0 e in absurd (omega arith)
    by_test false e = e

all_unopened : (place lane : ℕ) → unopened_of place lane 0 ≡ count_if (eqb (shard_of place) lane)
all_unopened place lane = ap (λ (t : Bool). count_if (eqb (shard_of place) lane && not t)) (none_below (page_of place)) ∙ go (eqb (shard_of place) lane)
  where
    go : (t : Bool) → count_if (t && true) ≡ count_if t
    go true = refl
    go false = refl

same_either : (t : Bool) (n : ℕ) → cond t n n ≡ n
same_either true n = refl
same_either false n = refl

first_owned : (z : Shape) (lane : ℕ) (script : List Command) → IsOwned z fresh lane (first_book script)
first_owned z lane script = record {
  call = first_made (caller z lane (first_book script)) (call_under_way (first_book script));
  places = λ place is. let a = all_unopened place lane in let b = no_fillings place 16 in omega arith;
  references = λ key. let a = no_references key 16 in let b = same_either (is_current z fresh key) 0 in omega arith;
  inside = λ place some. absurd (omega arith);
  sixteen = refl;
  holding = none_holding z fresh 16;
}

pub holds_first : (z : Shape) (scripts : List (List Command)) → IsShape z → z.last_generation < 2 ^ 32 → Holds z (first_world scripts)
holds_first z scripts shape wide = record {
  rule = subst (λ (lanes : Lanes). Rule z (moment first_words [] lanes)) (sym (first_lanes_now z scripts))
      (start-law z first_words shape wide record { life = λ place is. refl; stack = λ shard lane. refl; bits = λ shard row. refl });
  owned = λ lane below. first_owned z lane (script_or_none (slice_get scripts lane));
}

-- ---- one lane's book changes

-- the world with this history, these words and these books
abbrev pub world_with : List Act → Words → (ℕ → Book) → World
world_with history words books = record { history = history; words = words; books = books }

-- the world, but this is the lane's book
abbrev pub with_lane : World → ℕ → Book → World
with_lane w lane b = world_with w.history w.words (with_book w.books lane b)

same_book : (books : ℕ → Book) (lane other : ℕ) (t : Bool) → eqb other lane ≡ t → cond t (books lane) (books other) ≡ books other
same_book books lane other true e = ap books (sym (eqb-true other lane e))
same_book books lane other false e = refl

twice : (t : Bool) (b c x : Book) → cond t c (cond t b x) ≡ cond t c x
twice true b c x = refl
twice false b c x = refl

module _ (books : ℕ → Book) (lane : ℕ) where
  pub book_here : (b : Book) → with_book books lane b lane ≡ b
  book_here b = at-here books lane b lane refl

  -- its own book again
  pub own_book : with_book books lane (books lane) ≡ books
  own_book = fun_ext (λ other. same_book books lane other (eqb other lane) refl)

  -- a book made from the one that was put there
  pub rebooked : (b : Book) (f : Book → Book) → with_book (with_book books lane b) lane (f (with_book books lane b lane)) ≡ with_book books lane (f b)
  rebooked b f = ap (λ (x : Book). with_book (with_book books lane b) lane (f x)) (book_here b)
      ∙ fun_ext (λ other. twice (eqb other lane) b (f b) (books other))

-- the generation of a place is of the shape
pub generation_within : (z : Shape) (w : World) → Holds z w → (place : ℕ) → is_place z place ≡ true
    → (1 ≤ (pool_after z w.history place).generation) × ((pool_after z w.history place).generation ≤ z.last_generation)
generation_within z w h place is =
    let k = key_now z h.rule.limits h.rule.wide w.history place is in
    let parts = key_parts z (key_number z.tag place (pool_after z w.history place).generation) k.0 in
    (subst (λ (n : ℕ). 1 ≤ n) k.2 parts.first, subst (λ (n : ℕ). n ≤ z.last_generation) k.2 parts.last)

pub keep_reply : (z : Shape) (w : World) (lane : ℕ) (reply : Reply) → IsKept z w → lane < z.lanes
    → IsReply z (pool_after z w.history) lane (w.books lane) reply
    → IsKept z (after_reply z w lane reply)
keep_reply z w lane reply k below is =
    let h = k.holds in
    let P = pool_after z w.history in
    let b = w.books lane in
    let next = answered z lane b reply in
    record {
      holds = record {
        rule = rule_reply z w lane reply h below is;
        owned = λ other less. at-lane w.books lane next (λ n x. IsOwned z P n x) other
            (owned_reply z lane P b reply h.rule.limits h.rule.wide below (generation_within z w h) (h.owned lane below) (k.sound lane below) is)
            (λ apart. h.owned other less);
      };
      sound = λ other less. at-lane w.books lane next (λ n x. IsSound z P n x) other (sound_reply z lane P b reply is) (λ apart. k.sound other less);
    }

-- no place was returned more often than it was reclaimed
returns_within : (z : Shape) (P : Pool) (lane : ℕ) (b : Book) → IsOwned z P lane b → AreReturns z.last_generation b.acts
returns_within z P lane b o = returned_le z lane b o.call (made_keyed (caller z lane b) (call_under_way b) b.steps b.acts o.call)

pub keep_step : (z : Shape) (w : World) (lane : ℕ) (step : Step) (act : Option Act) → IsKept z w → lane < z.lanes
    → IsStep z lane w.words (w.books lane) step act
    → IsLegal z (w.history ++ act_list act) → IsKept z (after_step z w lane step act)
keep_step z w lane step act k below is legal =
    let h = k.holds in
    let shape = h.rule.limits in
    let P = pool_after z w.history in
    let Q = pool_after z (w.history ++ act_list act) in
    let next = stepped (w.books lane) step act in
    record {
      holds = record {
        rule = rule_step z w lane step act h below is legal;
        owned = λ other less. at-lane w.books lane next (λ n x. IsOwned z Q n x) other
            (owned_step z w lane step act shape legal is (returns_within z P lane (w.books lane) (h.owned lane below)) (h.owned lane below))
            (λ apart. owned_else z w lane other step act shape legal is apart
            (returns_within z P other (w.books other) (h.owned other less)) (h.owned other less));
      };
      sound = λ other less. at-lane w.books lane next (λ n x. IsSound z Q n x) other
          (sound_step z w lane step act h below legal is (k.sound lane below))
          (λ apart. sound_else z w lane other step act legal is apart (k.sound other less));
    }

-- the same world by other books
pub rekeep : (z : Shape) (w : World) (books : ℕ → Book) → w.books ≡ books → IsKept z w
    → IsKept z (world_with w.history w.words books)
rekeep z w books e h = subst (λ (bs : ℕ → Book). IsKept z (world_with w.history w.words bs)) e h

pub keep_replies : (z : Shape) (lane : ℕ) (below : lane < z.lanes) (rs : List Reply) (w : World) → IsKept z w
    → AreReplies z (pool_after z w.history) lane (w.books lane) rs
    → IsKept z (with_lane w lane (all_answered z lane (w.books lane) rs))
keep_replies z lane below [] w h are = rekeep z w (with_book w.books lane (w.books lane)) (sym (own_book w.books lane)) h
keep_replies z lane below (r ∷ rs) w h are =
    let b = answered z lane (w.books lane) r in
    let made = keep_replies z lane below rs (after_reply z w lane r) (keep_reply z w lane r h below are.0)
    (subst (λ (x : Book). AreReplies z (pool_after z w.history) lane x rs) (sym (book_here w.books lane b)) are.1) in
    rekeep z (with_lane (after_reply z w lane r) lane (all_answered z lane (with_book w.books lane b lane) rs))
    (with_book w.books lane (all_answered z lane b rs))
    (rebooked w.books lane b (λ x. all_answered z lane x rs)) made

-- ---- a turn

module _ (z : Shape) (w : World) (lane : ℕ) (below : lane < z.lanes) (b : Book) (h : IsKept z (with_lane w lane b)) where
  -- a step, and the replies behind it
  pub keep_both : (step : Step) (act : Option Act) (rs : List Reply) → IsStep z lane w.words b step act → IsLegal z (w.history ++ act_list act)
      → AreReplies z (pool_after z (w.history ++ act_list act)) lane (stepped b step act) rs
      → IsKept z (world_with (w.history ++ act_list act) (with_value w.words step.word step.after)
      (with_book w.books lane (all_answered z lane (stepped b step act) rs)))
  keep_both step act rs is legal are =
      let next = stepped b step act in
      let made = keep_step z (with_lane w lane b) lane step act h below
      (subst (λ (x : Book). IsStep z lane w.words x step act) (sym (book_here w.books lane b)) is) legal in
      let w2 : World = world_with (w.history ++ act_list act) (with_value w.words step.word step.after) (with_book w.books lane next) in
      let h2 : IsKept z w2 = rekeep z (record {
        history = w.history ++ act_list act;
        words = with_value w.words step.word step.after;
        books = with_book (with_book w.books lane b) lane (stepped (with_book w.books lane b lane) step act);
      })
      (with_book w.books lane next) (rebooked w.books lane b (λ x. stepped x step act)) made in
      let last = keep_replies z lane below rs w2 h2
      (subst (λ (x : Book). AreReplies z (pool_after z (w.history ++ act_list act)) lane x rs) (sym (book_here w.books lane next)) are) in
      rekeep z (with_lane w2 lane (all_answered z lane (with_book w.books lane next lane) rs)) (with_book w.books lane (all_answered z lane next rs))
      (rebooked w.books lane next (λ x. all_answered z lane x rs)) last

  pub keep_rest : (step : Option Step) (act : Option Act) (rs : List Reply) → StepAndReplies z w lane b step act rs → IsLegal z (w.history ++ act_list act)
      → IsKept z (world_with (w.history ++ act_list act) (words_after w.words step)
      (with_book w.books lane (all_answered z lane (book_after_step b step act) rs)))
  keep_rest None act rs is legal =
      subst (λ (x : Option Act × List Reply). IsKept z (world_with (w.history ++ act_list x.0) w.words
      (with_book w.books lane (all_answered z lane b x.1))))
      (λ i. (sym is.1 i, sym is.2 i))
      (subst (λ (acts : List Act). IsKept z (world_with acts w.words (with_book w.books lane b))) (sym (append-nil w.history)) h)
  keep_rest (Some step) act rs is legal = keep_both step act rs is.0 legal is.1

-- a turn is of a lane of the shape
pub turn_below : (z : Shape) (w : World) (lane : ℕ) → is_finished z w lane ≡ false → lane < z.lanes
turn_below z w lane e = by_test (ltb lane z.lanes) refl
  where
    by_test : (t : Bool) → ltb lane z.lanes ≡ t → lane < z.lanes
    by_test true less = ltb-true lane z.lanes less
    by_test false more = let bad : true ≡ false = sym (ap (λ (t : Bool). cond t (at_end (w.books lane).left) true) more) ∙ e in absurd (cc bad)

pub keep_turn : (z : Shape) (w : World) (t : Turn) → IsKept z w → IsNextTurn z w t → IsLegal z (world_after z w t).history → IsKept z (world_after z w t)
keep_turn z w t h is legal =
    let below = turn_below z w t.lane is.unfinished in
    keep_rest z w t.lane below (book_before z w t) (keep_replies z t.lane below t.before w h is.replies) t.step t.act t.after is.step legal

pub rest_turn : (z : Shape) (w : World) (t : Turn) → AreResting z w → IsNextTurn z w t → IsKept z (world_after z w t) → AreResting z (world_after z w t)
rest_turn z w t rest is h lane below = at-lane w.books t.lane (book_after z w t) (λ n b. IsResting z n b) lane
    (let inside = turn_below z w t.lane is.unfinished in
    let o = subst (λ (x : Book). IsOwned z (pool_after z (world_after z w t).history) t.lane x)
    (book_here w.books t.lane (book_after z w t)) (h.holds.owned t.lane inside) in
    resting z t.lane (book_after z w t) o.call is.rest)
    (λ apart. rest lane below)

-- ---- all turns

-- what some turns have made begins with what there was
legal_now : (z : Shape) (w : World) (ts : List Turn) → IsLegal z (world_from z w ts).history → IsLegal z w.history
legal_now z w [] legal = legal
legal_now z w (t ∷ more) legal = legal-front z fresh w.history (act_list t.act) (legal_now z (world_after z w t) more legal)

all_turns : (z : Shape) → z.guests ≡ 0 → (schedule : List ℕ) (ts : List Turn) (w : World) → IsKept z w → AreResting z w → AreTurns z w schedule ts
    → IsLegal z (world_from z w ts).history
    → StandsThroughout z w ts × IsKept z (world_from z w ts)
all_turns z alone [] [] w h rest are legal = (stands z alone w h.holds rest, h)
all_turns z alone [] (t ∷ more) w h rest are legal = absurd are
all_turns z alone (lane ∷ schedule) [] w h rest are legal = all_turns z alone schedule [] w h rest are.1 legal
all_turns z alone (lane ∷ schedule) (t ∷ more) w h rest (inl are) legal = all_turns z alone schedule (t ∷ more) w h rest are.1 legal
all_turns z alone (lane ∷ schedule) (t ∷ more) w h rest (inr are) legal =
    let next = keep_turn z w t h are.1 (legal_now z (world_after z w t) more legal) in
    let later = all_turns z alone schedule more (world_after z w t) next (rest_turn z w t rest are.1 next) are.2 legal in
    ((stands z alone w h.holds rest, later.0), later.1)

pub keeps_first : (z : Shape) (scripts : List (List Command)) → IsShape z → z.last_generation < 2 ^ 32 → IsKept z (first_world scripts)
keeps_first z scripts shape wide = record {
  holds = holds_first z scripts shape wide;
  sound = λ lane below. sound_start z fresh lane (first_book (script_or_none (slice_get scripts lane))) refl refl;
}

pub first_rest : (z : Shape) (scripts : List (List Command)) → AreResting z (first_world scripts)
first_rest z scripts lane below = inl refl

-- ---- the laws

pub stands-law : StandsLaw
stands-law z scripts schedule trace shape alone wide lawful =
    (all_turns z alone schedule trace (first_world scripts) (keeps_first z scripts shape wide) (first_rest z scripts) lawful.turns lawful.legal).0

pub holds-law : HoldsLaw
holds-law z scripts schedule trace shape alone wide lawful =
    (all_turns z alone schedule trace (first_world scripts) (keeps_first z scripts shape wide) (first_rest z scripts) lawful.turns lawful.legal).1.holds
