-- Where turns of a state lead: to its next states, or nowhere.
use Rattle.std.proofs.Common.{◌≡◌, inl, inr, ℕ, suc, ◌+◌, ◌<◌, ◌≤◌, true, false, cond, nat_lt, List, [], ◌∷◌, ◌++◌, length, refl, ap, sym, ◌∙◌, subst, arith, length-append}
use Rattle.keybits.specs.declared.shape.Shape.{Shape}
use Rattle.seqpool.specs.Pool.{IsLegal}
use Rattle.traces.specs.declared.script.Command.{Command}
use Rattle.traces.specs.declared.reply.Reply.{Reply}
use Rattle.traces.specs.declared.trace.Turn.{Turn}
use Rattle.traces.specs.Books.{Book}
use Rattle.traces.specs.Lawful.{World, first_world, world_of, world_from, world_after, is_finished, at_end, IsNextTurn, AreTurns, IsLawful}
use Rattle.onetrace.specs.Decided.{GoOn}
use Rattle.onetrace.proofs.Turns.{legal_before, one-trace-law}
use Rattle.onetrace.proofs.Onward.{onward-law}
use Rattle.standings.specs.Behind.{AreSameBehind}
use Rattle.outcomes.specs.declared.reached.Reached.{Reached}
use Rattle.outcomes.specs.Outcomes.{AreReplied}
use Rattle.outcomes.specs.Search.{IsReached, IsNext, Leads}
use Rattle.outcomes.proofs.TurnLemmas.{world-append, turns-few, longer-is, MakesMore, makes_none, makes_one, lawful-more}
use Rattle.outcomes.proofs.ReplyLemmas.{same-rows}

module _ (z : Shape) (scripts : List (List Command)) where
  -- the turns of a complete run from a world
  record Completes (w : World) (schedule : List ℕ) (made : List Turn) : Type 0 where
    on : GoOn z w schedule made
    ended : (lane : ℕ) → is_finished z (world_from z w made) lane ≡ true

  leads-back : (past : List Turn) (w : World) (schedule : List ℕ) (made : List Turn) (rows : List (List Reply)) → w ≡ world_of z scripts past
      → Completes w schedule made → length made ≡ length schedule → AreReplied z (past ++ made) rows → Leads z scripts past schedule rows
  leads-back past w schedule made rows e c turns replied =
      let d : Completes (world_of z scripts past) schedule made = subst (λ (v : World). Completes v schedule made) e c in
      record { made = made; on = d.on; turns = turns; ended = d.ended; replied = replied }

  no-turn : (w : World) (lane : ℕ) (schedule : List ℕ) (made : List Turn) → is_finished z w lane ≡ true
      → AreTurns z w (lane ∷ schedule) made → length made ≡ suc (length schedule) → ⊥
  no-turn w lane schedule [] finished are turns = omega (arith, turns)
  no-turn w lane schedule (t ∷ ts) finished (inl are) turns =
      let few = turns-few z w schedule (t ∷ ts) are.1 in omega (arith, few, turns)
  no-turn w lane schedule (t ∷ ts) finished (inr are) turns =
      let bad : false ≡ true = sym are.1.unfinished ∙ ap (is_finished z w) are.0 ∙ finished in cc bad

  -- a finished lane leads nowhere
  pub finished-leads : (past : List Turn) (lane : ℕ) (schedule : List ℕ) (rows : List (List Reply))
      → is_finished z (world_of z scripts past) lane ≡ true → Leads z scripts past (lane ∷ schedule) rows → ⊥
  finished-leads past lane schedule rows finished l = no-turn (world_of z scripts past) lane schedule l.made finished l.on.made l.turns

  no-more : (w : World) (made : List Turn) → AreTurns z w [] made → made ≡ []
  no-more w [] are = refl
  no-more w (t ∷ ts) are = absurd are

  assoc : (xs ys zs : List Turn) → (xs ++ ys) ++ zs ≡ xs ++ (ys ++ zs)
  assoc [] ys zs = refl
  assoc (x ∷ xs) ys zs = ap (λ (us : List Turn). x ∷ us) (assoc xs ys zs)

  end-nil : (xs : List Turn) → xs ++ [] ≡ xs
  end-nil [] = refl
  end-nil (x ∷ xs) = ap (λ (us : List Turn). x ∷ us) (end-nil xs)

  -- where a state leads by no turn, every lane is finished
  pub empty-ended : (past : List Turn) (rows : List (List Reply)) → Leads z scripts past [] rows
      → (lane : ℕ) → is_finished z (world_of z scripts past) lane ≡ true
  empty-ended past rows l lane =
      subst (λ (ts : List Turn). is_finished z (world_from z (world_of z scripts past) ts) lane ≡ true)
      (no-more (world_of z scripts past) l.made l.on.made) (l.ended lane)

  pub empty-replied : (past : List Turn) (rows : List (List Reply)) → Leads z scripts past [] rows → AreReplied z past rows
  empty-replied past rows l =
      subst (λ (ts : List Turn). AreReplied z ts rows) (end-nil past)
      (subst (λ (ts : List Turn). AreReplied z (past ++ ts) rows) (no-more (world_of z scripts past) l.made l.on.made) l.replied)

  pub leads-empty : (schedule : List ℕ) (past : List Turn) (rows : List (List Reply)) → IsLawful z scripts schedule past
      → ((lane : ℕ) → is_finished z (world_of z scripts past) lane ≡ true) → AreReplied z past rows → Leads z scripts past [] rows
  leads-empty schedule past rows lawful ended replied = record {
    made = [];
    on = record { made = tt; legal = lawful.legal };
    turns = refl;
    ended = ended;
    replied = subst (λ (ts : List Turn). AreReplied z ts rows) (sym (end-nil past)) replied;
  }

  -- the first turn of a complete run by a lane
  record FirstTurn (w : World) (lane : ℕ) (schedule : List ℕ) (made : List Turn) : Type 0 where
    turn : Turn
    rest : List Turn
    is : made ≡ turn ∷ rest
    lane_is : turn.lane ≡ lane
    next : IsNextTurn z w turn
    more : AreTurns z (world_after z w turn) schedule rest

  first-turn : (w : World) (lane : ℕ) (schedule : List ℕ) (made : List Turn) → AreTurns z w (lane ∷ schedule) made
      → length made ≡ suc (length schedule) → FirstTurn w lane schedule made
  first-turn w lane schedule [] are turns = absurd (omega (arith, turns))
  first-turn w lane schedule (t ∷ ts) (inl are) turns =
      let few = turns-few z w schedule (t ∷ ts) are.1 in absurd (omega (arith, few, turns))
  first-turn w lane schedule (t ∷ ts) (inr are) turns =
      record { turn = t; rest = ts; is = refl; lane_is = are.0; next = are.1; more = are.2 }

  next-lawful : (size : ℕ) (from : Reached) (lane : ℕ) (next : Reached) → IsNext z scripts size from lane next
      → IsLawful z scripts (from.schedule.items ++ lane ∷ []) next.trace
  next-lawful size from lane next n = subst (λ (s : List ℕ). IsLawful z scripts s next.trace) n.schedule n.reached.lawful

  -- a turn of a complete run leads to the next state
  pub leads-on : (size : ℕ) (from : Reached) (lane : ℕ) (next : Reached) (schedule : List ℕ) (rows : List (List Reply))
      → IsReached z scripts size from → IsNext z scripts size from lane next
      → Leads z scripts from.trace (lane ∷ schedule) rows → Leads z scripts next.trace schedule rows
  leads-on size from lane next schedule rows r n l =
      let w = world_of z scripts from.trace in
      let f = first-turn w lane schedule l.made l.on.made l.turns in
      let t = f.turn in
      let v = world_after z w t in
      let legal : IsLegal z (world_from z v f.rest).history =
      subst (λ (ts : List Turn). IsLegal z (world_from z w ts).history) f.is l.on.legal in
      let lawful : IsLawful z scripts (from.schedule.items ++ lane ∷ []) (from.trace ++ t ∷ []) =
      subst (λ (k : ℕ). IsLawful z scripts (from.schedule.items ++ k ∷ []) (from.trace ++ t ∷ [])) f.lane_is
      (lawful-more z scripts from.schedule.items from.trace t r.lawful f.next (legal_before z v f.rest legal)) in
      let same : from.trace ++ t ∷ [] ≡ next.trace =
      one-trace-law z scripts (from.schedule.items ++ lane ∷ []) (from.trace ++ t ∷ []) next.trace lawful (next-lawful size from lane next n) in
      let count : suc (length f.rest) ≡ suc (length schedule) = sym (ap length f.is) ∙ l.turns in
      let c : Completes v schedule f.rest = record {
        on = record { made = f.more; legal = legal };
        ended = λ k. subst (λ (ts : List Turn). is_finished z (world_from z w ts) k ≡ true) f.is (l.ended k);
      } in
      subst (λ (ts : List Turn). Leads z scripts ts schedule rows) same
      (leads-back (from.trace ++ t ∷ []) v schedule f.rest rows (sym (world-append z (first_world scripts) from.trace (t ∷ []))) c
      (omega (arith, count))
      (subst (λ (ts : List Turn). AreReplied z ts rows) (sym (assoc from.trace (t ∷ []) f.rest))
      (subst (λ (ts : List Turn). AreReplied z (from.trace ++ ts) rows) f.is l.replied)))

  -- the turn that leads to the next state
  record NextTurn (from : Reached) (lane : ℕ) (next : Reached) : Type 0 where
    turn : Turn
    is : next.trace ≡ from.trace ++ turn ∷ []
    lane_is : turn.lane ≡ lane
    made : IsNextTurn z (world_of z scripts from.trace) turn

  next-makes : (size : ℕ) (from : Reached) (lane : ℕ) (next : Reached) (more : List Turn) → IsReached z scripts size from
      → IsNext z scripts size from lane next → next.trace ≡ from.trace ++ more → MakesMore z (world_of z scripts from.trace) lane more
      → NextTurn from lane next
  next-makes size from lane next more r n is (makes_none e finished) =
      let count : length next.trace ≡ length from.trace = ap length (is ∙ ap (λ (ts : List Turn). from.trace ++ ts) e ∙ end-nil from.trace) in
      absurd (omega (arith, count, r.turns, n.reached.turns))
  next-makes size from lane next more r n is (makes_one t e lane_is made) =
      record { turn = t; is = is ∙ ap (λ (ts : List Turn). from.trace ++ ts) e; lane_is = lane_is; made = made }

  next-turn : (size : ℕ) (from : Reached) (lane : ℕ) (next : Reached) → IsReached z scripts size from
      → IsNext z scripts size from lane next → NextTurn from lane next
  next-turn size from lane next r n =
      let longer = longer-is z scripts from.schedule.items from.trace next.trace lane r.lawful (next-lawful size from lane next n) in
      next-makes size from lane next longer.more r n longer.is longer.makes

  pub next-unfinished : (size : ℕ) (from : Reached) (lane : ℕ) (next : Reached) → IsReached z scripts size from
      → IsNext z scripts size from lane next → is_finished z (world_of z scripts from.trace) lane ≡ false
  next-unfinished size from lane next r n =
      let f = next-turn size from lane next r n in
      sym (ap (is_finished z (world_of z scripts from.trace)) f.lane_is) ∙ f.made.unfinished

  -- a complete run from the next state is one from before the turn
  pub leads-from : (size : ℕ) (from : Reached) (lane : ℕ) (next : Reached) (schedule : List ℕ) (rows : List (List Reply))
      → IsReached z scripts size from → IsNext z scripts size from lane next
      → Leads z scripts next.trace schedule rows → Leads z scripts from.trace (lane ∷ schedule) rows
  leads-from size from lane next schedule rows r n led =
      let w = world_of z scripts from.trace in
      let f = next-turn size from lane next r n in
      let t = f.turn in
      let l : Leads z scripts (from.trace ++ t ∷ []) schedule rows =
      subst (λ (ts : List Turn). Leads z scripts ts schedule rows) f.is led in
      let before : Completes (world_of z scripts (from.trace ++ t ∷ [])) schedule l.made = record { on = l.on; ended = l.ended } in
      let c : Completes (world_after z w t) schedule l.made =
      subst (λ (v : World). Completes v schedule l.made) (world-append z (first_world scripts) from.trace (t ∷ [])) before in
      record {
        made = t ∷ l.made;
        on = record { made = inr (f.lane_is, f.made, c.on.made); legal = c.on.legal };
        turns = ap suc l.turns;
        ended = c.ended;
        replied = subst (λ (ts : List Turn). AreReplied z ts rows) (assoc from.trace (t ∷ []) l.made) l.replied;
      }

  short-makes : (trace longer more : List Turn) (lane : ℕ) → longer ≡ trace ++ more
      → MakesMore z (world_of z scripts trace) lane more → length longer ≤ length trace
      → is_finished z (world_of z scripts trace) lane ≡ true
  short-makes trace longer more lane is (makes_none e finished) short = finished
  short-makes trace longer more lane is (makes_one t e lane_is made) short =
      let count : length longer ≡ length trace + 1 =
      ap length (is ∙ ap (λ (ts : List Turn). trace ++ ts) e) ∙ length-append trace (t ∷ []) in
      absurd (omega (arith, count))

  -- where nothing came of an entry more, its lane is finished
  pub short-finished : (schedule : List ℕ) (trace longer : List Turn) (lane : ℕ) → IsLawful z scripts schedule trace
      → IsLawful z scripts (schedule ++ lane ∷ []) longer → length longer ≤ length trace
      → is_finished z (world_of z scripts trace) lane ≡ true
  short-finished schedule trace longer lane lawful after short =
      let l = longer-is z scripts schedule trace longer lane lawful after in
      short-makes trace longer l.more lane l.is l.makes short

  -- a state by an entry more that made a turn
  pub next-reached : (size : ℕ) (from : Reached) (lane : ℕ) (next : Reached) → IsReached z scripts size from
      → next.schedule.items ≡ from.schedule.items ++ lane ∷ [] → IsLawful z scripts next.schedule.items next.trace
      → length next.schedule.items ≤ length next.trace → next.ways ≡ from.ways → IsNext z scripts size from lane next
  next-reached size from lane next r e lawful enough ways =
      let few = turns-few z (first_world scripts) next.schedule.items next.trace lawful.turns in
      let count : length next.schedule.items ≡ length from.schedule.items + 1 = ap length e ∙ length-append from.schedule.items (lane ∷ []) in
      record {
        schedule = e;
        ways = ways;
        reached = record {
          lawful = lawful;
          turns = omega (arith, few, enough, count, r.entries);
          entries = omega (arith, count, r.entries);
        };
      }

  -- a lane by whose entry no turn was made
  pub none-reached : (size : ℕ) (from : Reached) (lane : ℕ) (schedule : List ℕ) (longer : List Turn) → IsReached z scripts size from
      → schedule ≡ from.schedule.items ++ lane ∷ [] → IsLawful z scripts schedule longer → length longer < length schedule
      → is_finished z (world_of z scripts from.trace) lane ≡ true
  none-reached size from lane schedule longer r e lawful short =
      let count : length schedule ≡ length from.schedule.items + 1 = ap length e ∙ length-append from.schedule.items (lane ∷ []) in
      short-finished from.schedule.items from.trace longer lane r.lawful (subst (λ (s : List ℕ). IsLawful z scripts s longer) e lawful)
      (omega (arith, count, short, r.entries, r.turns))

  -- complete runs go on from each state that stands the same
  pub leads-same : (one other : List ℕ) (past next : List Turn) (schedule : List ℕ) (rows : List (List Reply))
      → AreSameBehind z past next → IsLawful z scripts one past → IsLawful z scripts other next
      → Leads z scripts past schedule rows → Leads z scripts next schedule rows
  leads-same one other past next schedule rows same a b l =
      let on = onward-law z (world_of z scripts past) (world_of z scripts next) schedule l.made (same.standing scripts one other a b) b.legal l.on in
      record {
        made = l.made;
        on = on.0;
        turns = l.turns;
        ended = λ lane. subst (λ (books : ℕ → Book). cond (nat_lt lane z.lanes) (at_end (books lane).left) true ≡ true) on.1.books (l.ended lane);
        replied = same-rows z past next l.made rows same.replies l.replied;
      }

pub same-back : (z : Shape) (past next : List Turn) → AreSameBehind z past next → AreSameBehind z next past
same-back z past next same = record {
  standing = λ scripts one other a b.
      let s = same.standing scripts other one b a in record { pool = sym s.pool; words = sym s.words; books = sym s.books };
  replies = λ lane inside. sym (same.replies lane inside);
}
