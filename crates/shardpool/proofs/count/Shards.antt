-- What a place is, by the last words, of which those of the free places are 0.
use Rattle.std.proofs.Common.{◌≡◌, ◌≢◌, ⊎_elim, ℕ, ◌+◌, ◌<◌, ◌≤◌, Bool, true, false, cond, eqb, List, ◌++◌, map, refl, ap, sym, ◌∙◌, subst, arith, eq-eqb, ne_eqb, inl, inr}
use Rattle.steplaws.proofs.HomePlaces.{lane-part, lane-from, guest-part, guest-from}
use Rattle.steplaws.specs.Facts.{lane_home, guest_home, returner}
use Rattle.std.specs.Prelude.{min}
use Rattle.std.proofs.lemmas.Bool.{lt-leb, cases_lt}
use Rattle.std.specs.List.{Contains}
use mathlib.Core.Logic.{dite}
use native.Mathlib.Decide.{ℕ_discrete}
use Rattle.keybits.specs.declared.shape.Shape.{Shape}
use Rattle.keybits.specs.Places.{shard_of, page_of, number_of}
use Rattle.keybits.specs.Shapes.{is_place}
use Rattle.keybits.specs.Counts.{times}
use Rattle.keybits.specs.Words.{state_in, generation_in}
use Rattle.keybits.specs.Homes.{times_stacked, AreHomeBy}
use Rattle.keybits.proofs.CountLemmas.{count_if, sum-some, times-append}
use Rattle.keybits.proofs.HomeLemmas.{home_on}
use Rattle.keybits.proofs.ShapeLemmas.{is_place-parts}
use Rattle.freelists.specs.Queues.{FreePlaces}
use Rattle.freelists.specs.Shards.{ShardPages}
use Rattle.seqpool.specs.declared.act.Act.{Act}
use Rattle.seqpool.specs.Pool.{Phase, with, published, home, retired, fresh, pool_after}
use Rattle.seqpool.proofs.Ranks.{level-le, rank-rises}
use Rattle.steplaws.specs.Facts.{bits_of}
use Rattle.steplaws.proofs.HomePlaces.{has-some, has-none, home-parts, home-from}
use Rattle.poolsteps.specs.Views.{the_lane}
use Rattle.poolsteps.specs.Layout.{words_in}
use Rattle.shardpool.specs.declared.census.Part.TheVariants.{Free, Unopened}
use Rattle.shardpool.specs.declared.pool.LaneState.{LaneState}
use Rattle.shardpool.specs.LaneStates.{IsFirst}
use Rattle.shardpool.specs.Tokens.{LaneOf}
use Rattle.shardpool.specs.Lanes.{IsKept}
use Rattle.shardpool.specs.Closings.{phase_at, IsPart, IsLast, AreLast}
use Rattle.shardpool.specs.Marks.{stacked, pages_given, AreFreePlaces, free_places, part_by, part_in}
use Rattle.shardpool.proofs.count.Given.{given-home, home-given}
use Rattle.shardpool.proofs.count.Counts.{part-unopened}
use Rattle.shardpool.proofs.count.Lists.{number-among, among-number, stands-on, on-stacks}

-- ---- the tests, one after another

pub part-free : (opened page word : ℕ) → page < opened → word ≡ 0 → part_in opened page word ≡ Free
part-free opened page word h none =
    ap (λ (b : Bool). cond b Unopened (cond (eqb word 0) Free (part_by (state_in word)))) (lt-leb opened page h)
    ∙ ap (λ (b : Bool). cond b Free (part_by (state_in word))) (eq-eqb word 0 none)

pub part-else : (opened page word : ℕ) → page < opened → word ≢ 0 → part_in opened page word ≡ part_by (state_in word)
part-else opened page word h some =
    ap (λ (b : Bool). cond b Unopened (cond (eqb word 0) Free (part_by (state_in word)))) (lt-leb opened page h)
    ∙ ap (λ (b : Bool). cond b Free (part_by (state_in word))) (ne_eqb word 0 some)

-- ---- one lane

module _ {T : Type 0} (z : Shape) (history : List Act) (lanes : List LaneOf) (states : List (LaneState T)) (words : List ℕ)
    (last : AreLast z history lanes states (words_in z words)) (lane : LaneOf) (state : LaneState T) (own : IsLast z history (words_in z words) lane state) where
  -- the places on the stacks of the lane's shard
  abbrev pub threads_of : ℕ → List ℕ
  threads_of = (last.homes lane.number own.below).0

  homes : AreHomeBy threads_of z lane.number (words_in z words).link ((words_in z words).stack lane.number) (lane_home z history lane.number)
  homes = (last.homes lane.number own.below).1

  -- the places that guests returned to the lane's shard
  abbrev pub given_of : List ℕ
  given_of = pages_given z lane.number ((words_in z words).bits lane.number) (min state.pages.opened z.pages)

  -- they are home
  given-part : (place : ℕ) → 0 < times place given_of → guest_home z history lane.number place ≡ true
  given-part place some = given-home z lane.number ((words_in z words).bits lane.number) (guest_home z history lane.number) (last.bits lane.number own.below) (min state.pages.opened z.pages) place some

  -- the lane's free places, as they stand
  pub free-stand : AreFreePlaces z words lane.number state.pages.opened state.free (the_lane lane.book).chain threads_of given_of
  free-stand = record {
    listed = λ place within. (own.listed place (subst (λ (f : FreePlaces). Contains f.own place) own.free_is within)).inside;
    first = subst (λ (f : FreePlaces). IsFirst f.chain (the_lane lane.book).chain) (sym own.free_is) own.first;
    chained = (
      own.leads.0,
      record {
        leads = own.leads.1;
        inside = λ place some. let kept = own.chained place (has-some place (the_lane lane.book).chain some) in (kept.inside, kept.own);
      },
    );
    returned = λ other below apart. record {
      leads = homes.leads other below apart;
      inside = λ place some. homes.inside place (home_on threads_of z lane.number (words_in z words).link ((words_in z words).stack lane.number) (lane_home z history lane.number) homes
          other place below apart some);
    };
    given_are = record {
      list = refl;
      inside = λ place some. let at = home-parts z history lane.number place (guest-part z history lane.number place (given-part place some)).0 in (at.inside, at.own);
    };
  }

  -- a phase, as the lane's shape tells it
  lane-phase : (place : ℕ) (phase : Phase) → (pool_after z history place).phase ≡ phase → phase_at history lane place ≡ phase
  lane-phase place phase is = ap (λ (s : Shape). (pool_after s history place).phase) own.shape_is.0 ∙ is

  kept-phase : (place : ℕ) → IsKept z history lane place → phase_at history lane place ≡ with lane.number
  kept-phase place kept = lane-phase place (with lane.number) kept.with_lane

  -- all free places of the shard
  abbrev pub all_free : List ℕ
  all_free = free_places z lane.number state.free (the_lane lane.book).chain threads_of given_of

  listed-free : (place : ℕ) → 0 < times place (map number_of state.free.own) → IsPart history lane place Free
  listed-free place some =
      let on = among-number state.free.own place some in
      let within = subst (λ (f : FreePlaces). Contains f.own on.at) own.free_is on.within in
      let kept = subst (IsKept z history lane) on.is (own.listed on.at within) in
      inr (kept-phase place kept, kept.opened, inl (on.at, within, on.is))

  chained-free : (place : ℕ) → 0 < times place (the_lane lane.book).chain → IsPart history lane place Free
  chained-free place some =
      let on = has-some place (the_lane lane.book).chain some in
      let kept = own.chained place on in
      inr (kept-phase place kept, kept.opened, inr on)

  pub stacked-home : (place : ℕ) → 0 < times place (stacked lane.number threads_of z.lanes) → (pool_after z history place).phase ≡ home
  stacked-home place some =
      let on = stands-on lane.number z.lanes threads_of place some in
      (home-parts z history lane.number place (lane-part z history lane.number place (home_on threads_of z lane.number (words_in z words).link ((words_in z words).stack lane.number) (lane_home z history lane.number) homes
      on.lane place on.below on.apart on.among)).0).home

  pub given-at-home : (place : ℕ) → 0 < times place given_of → (pool_after z history place).phase ≡ home
  given-at-home place some = (home-parts z history lane.number place (guest-part z history lane.number place (given-part place some)).0).home

  -- how often a place stands among the free ones
  pub times-free : (place : ℕ) → times place all_free
      ≡ times place (the_lane lane.book).chain + times place (stacked lane.number threads_of z.lanes) + times place given_of + times place (map number_of state.free.own)
  times-free place =
      let front = times-append place (the_lane lane.book).chain (stacked lane.number threads_of z.lanes) in
      let mid = times-append place ((the_lane lane.book).chain ++ stacked lane.number threads_of z.lanes) given_of in
      let whole = times-append place (((the_lane lane.book).chain ++ stacked lane.number threads_of z.lanes) ++ given_of) (map number_of state.free.own) in
      omega (arith, front, mid, whole)

  -- a place of the lists is free
  pub listed-part : (place : ℕ) → 0 < times place all_free → IsPart history lane place Free
  listed-part place some =
      let whole = times-free place in
      dite (ℕ_discrete (times place (map number_of state.free.own)) 0)
      (λ (unlisted : times place (map number_of state.free.own) ≡ 0). dite (ℕ_discrete (times place (the_lane lane.book).chain) 0)
      (λ (unchained : times place (the_lane lane.book).chain ≡ 0). dite (ℕ_discrete (times place given_of) 0)
      (λ (ungiven : times place given_of ≡ 0). inl (lane-phase place home (stacked-home place (omega (arith, some, whole, unlisted, unchained, ungiven)))))
      (λ (given : times place given_of ≢ 0). inl (lane-phase place home (given-at-home place (omega (arith, given))))))
      (λ (chained : times place (the_lane lane.book).chain ≢ 0). chained-free place (omega (arith, chained))))
      (λ (listed : times place (map number_of state.free.own) ≢ 0). listed-free place (omega (arith, listed)))

  -- a home place of the shard that a lane returned stands on a stack
  lane-stacked : (place : ℕ) → lane_home z history lane.number place ≡ true → 0 < times place (stacked lane.number threads_of z.lanes)
  lane-stacked place is =
      let one : times_stacked z.lanes lane.number threads_of place ≡ 1 = homes.each_once place ∙ ap count_if is in
      let some = sum-some z.lanes (λ other. cond (eqb other lane.number) 0 (times place (threads_of other))) (omega arith) in
      dite (ℕ_discrete some.0 lane.number)
      (λ same.
      let none : cond (eqb some.0 lane.number) 0 (times place (threads_of some.0)) ≡ 0 = ap (λ (b : Bool). cond b 0 (times place (threads_of some.0))) (eq-eqb some.0 lane.number same) in
      let bad = some.2 in absurd (omega arith))
      (λ apart.
      let same : cond (eqb some.0 lane.number) 0 (times place (threads_of some.0)) ≡ times place (threads_of some.0)
      = ap (λ (b : Bool). cond b 0 (times place (threads_of some.0))) (ne_eqb some.0 lane.number apart) in
      let more = some.2 in
      on-stacks lane.number z.lanes some.0 threads_of place some.1 apart (omega arith))

  -- a home place is of an opened page
  home-opened : (place : ℕ) → is_place z place ≡ true → shard_of place ≡ lane.number → (pool_after z history place).phase ≡ home → page_of place < min state.pages.opened z.pages
  home-opened place inside of_shard is =
      let same : state.pages.opened ≡ lane.pages.opened = ap (λ (p : ShardPages). p.opened) own.pages_is in
      let page = (is_place-parts z place inside).1 in
      ⊎_elim
      (λ (opened : page_of place < lane.pages.opened). omega (arith, opened, same, page))
      (λ (unopened : lane.pages.opened ≤ page_of place).
      let at : home ≡ with lane.number = sym is ∙ own.unopened place inside of_shard unopened in absurd (cc at))
      (cases_lt (page_of place) lane.pages.opened)

  -- so a home place of the shard stands on a stack, or its bit is set
  pub home-returned : (place : ℕ) → is_place z place ≡ true → shard_of place ≡ lane.number → (pool_after z history place).phase ≡ home
      → 0 < times place (stacked lane.number threads_of z.lanes) + times place given_of
  home-returned place inside of_shard is =
      let at = home-from z history lane.number place inside of_shard is in
      ⊎_elim
      (λ (low : returner history place < z.lanes). let on = lane-stacked place (lane-from z history lane.number place at low) in omega (arith, on))
      (λ (high : z.lanes ≤ returner history place).
      let on = home-given z lane.number ((words_in z words).bits lane.number) (guest_home z history lane.number) (last.bits lane.number own.below) (min state.pages.opened z.pages) place
      inside of_shard (home-opened place inside of_shard is) (guest-from z history lane.number place at high) in omega (arith, on))
      (cases_lt (returner history place) z.lanes)

  -- no word of a place is 0
  pub word-some : (place : ℕ) → is_place z place ≡ true → (words_in z words).life place ≢ 0
  word-some place inside none =
      let rises = rank-rises z fresh history place last.legal in
      let most = level-le (pool_after z history place).phase in
      let generation = (last.state place inside).1 in
      let zero_generation = ap generation_in none in
      absurd (omega arith)

  -- by the phase of a place that isn't free
  by-phase : (place : ℕ) (phase : Phase) → is_place z place ≡ true → shard_of place ≡ lane.number → page_of place < lane.pages.opened → times place all_free ≡ 0
      → (pool_after z history place).phase ≡ phase → IsPart history lane place (part_by (bits_of phase))
  by-phase place (with owner) inside of_shard opened none is =
      let whole = times-free place in
      let mine : owner ≡ lane.number = sym (last.alone place owner inside is) ∙ of_shard in (
        lane-phase place (with lane.number) (is ∙ ap with mine),
        opened,
        λ listed.
            let within = subst (λ (f : FreePlaces). Contains f.own listed.0) (sym own.free_is) listed.1 in
            let among = subst (λ (n : ℕ). 0 < times n (map number_of state.free.own)) listed.2 (number-among state.free.own listed.0 within) in
            absurd (omega arith),
        λ chained. dite (ℕ_discrete (times place (the_lane lane.book).chain) 0)
            (λ unchained. absurd (cc (sym chained ∙ has-none place (the_lane lane.book).chain unchained)))
            (λ more. absurd (omega arith)),
      )
  by-phase place (published content references false) inside of_shard opened none is = (content, references, lane-phase place (published content references false) is)
  by-phase place (published content references true) inside of_shard opened none is = (content, references, lane-phase place (published content references true) is)
  by-phase place home inside of_shard opened none is =
      let on = home-returned place inside of_shard is in
      let whole = times-free place in
      absurd (omega (arith, on, whole, none))
  by-phase place retired inside of_shard opened none is = lane-phase place retired is

  -- what a place of the shard is by its word, which is 0 where the place is free, and else the last
  pub part-is : (place word : ℕ) → is_place z place ≡ true → shard_of place ≡ lane.number → (0 < times place all_free → word ≡ 0)
      → (times place all_free ≡ 0 → word ≡ (words_in z words).life place) → IsPart history lane place (part_in state.pages.opened (page_of place) word)
  part-is place word inside of_shard marked unmarked =
      let same : state.pages.opened ≡ lane.pages.opened = ap (λ (p : ShardPages). p.opened) own.pages_is in
      ⊎_elim
      (λ (opened : page_of place < state.pages.opened). dite (ℕ_discrete (times place all_free) 0)
      (λ none.
      let is : word ≡ (words_in z words).life place = unmarked none in
      let state_bits_are = (last.state place inside).0 in
      subst (IsPart history lane place)
      (sym (part-else state.pages.opened (page_of place) word opened (λ e. word-some place inside (sym is ∙ e)) ∙ ap part_by (ap state_in is ∙ state_bits_are)))
      (by-phase place (pool_after z history place).phase inside of_shard (omega arith) none refl))
      (λ some. subst (IsPart history lane place) (sym (part-free state.pages.opened (page_of place) word opened (marked (omega arith)))) (listed-part place (omega arith))))
      (λ (unopened : state.pages.opened ≤ page_of place). subst (IsPart history lane place) (sym (part-unopened state.pages.opened (page_of place) word unopened))
      (lane-phase place (with lane.number) (own.unopened place inside of_shard (omega arith)), omega arith))
      (cases_lt (page_of place) state.pages.opened)
