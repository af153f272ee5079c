-- Turns of a schedule and of another behind it, and the worlds between them.
use Rattle.std.proofs.Common.{◌≡◌, inl, inr, ℕ, ◌≤◌, true, List, [], ◌∷◌, ◌++◌, length, refl, ap, sym, ◌∙◌, subst, arith}
use Rattle.keybits.specs.declared.shape.Shape.{Shape}
use Rattle.seqpool.specs.Pool.{IsLegal}
use Rattle.traces.specs.declared.script.Command.{Command}
use Rattle.traces.specs.declared.trace.Turn.{Turn}
use Rattle.traces.specs.Lawful.{World, first_world, world_of, world_from, world_after, is_finished, IsNextTurn, AreTurns, IsLawful}
use Rattle.onetrace.proofs.Turns.{legal_before, one-trace-law}

module _ (z : Shape) where
  pub world-append : (w : World) (ts us : List Turn) → world_from z w (ts ++ us) ≡ world_from z (world_from z w ts) us
  world-append w [] us = refl
  world-append w (t ∷ ts) us = world-append (world_after z w t) ts us

  pub turns-few : (w : World) (schedule : List ℕ) (ts : List Turn) → AreTurns z w schedule ts → length ts ≤ length schedule
  turns-few w [] [] are = omega arith
  turns-few w [] (t ∷ ts) are = absurd are
  turns-few w (lane ∷ schedule) [] are = omega arith
  turns-few w (lane ∷ schedule) (t ∷ ts) (inl are) = let few = turns-few w schedule (t ∷ ts) are.1 in omega arith
  turns-few w (lane ∷ schedule) (t ∷ ts) (inr are) = let few = turns-few (world_after z w t) schedule ts are.2 in omega arith

  -- an entry of a finished lane makes no turn
  pub turns-skip : (w : World) (lane : ℕ) (schedule : List ℕ) (ts : List Turn) → is_finished z w lane ≡ true → AreTurns z w schedule ts
      → AreTurns z w (lane ∷ schedule) ts
  turns-skip w lane schedule [] finished are = (finished, are)
  turns-skip w lane schedule (t ∷ ts) finished are = inl (finished, are)

  pub turns-join : (w : World) (front rest : List ℕ) (ts us : List Turn) → AreTurns z w front ts → AreTurns z (world_from z w ts) rest us
      → AreTurns z w (front ++ rest) (ts ++ us)
  turns-join w [] rest [] us are more = more
  turns-join w [] rest (t ∷ ts) us are more = absurd are
  turns-join w (lane ∷ front) rest [] us are more =
      turns-skip w lane (front ++ rest) us are.0 (turns-join w front rest [] us are.1 more)
  turns-join w (lane ∷ front) rest (t ∷ ts) us (inl are) more =
      turns-skip w lane (front ++ rest) (t ∷ (ts ++ us)) are.0 (turns-join w front rest (t ∷ ts) us are.1 more)
  turns-join w (lane ∷ front) rest (t ∷ ts) us (inr are) more =
      inr (are.0, are.1, turns-join (world_after z w t) front rest ts us are.2 more)

  -- turns in two parts
  pub record InParts (w : World) (front rest : List ℕ) (ts : List Turn) : Type 0 where
    pub first : List Turn
    pub second : List Turn
    pub whole : ts ≡ first ++ second
    pub are_first : AreTurns z w front first
    pub are_second : AreTurns z (world_from z w first) rest second

  pub turns-split : (w : World) (front rest : List ℕ) (ts : List Turn) → AreTurns z w (front ++ rest) ts → InParts w front rest ts
  turns-split w [] rest ts are = record { first = []; second = ts; whole = refl; are_first = tt; are_second = are }
  turns-split w (lane ∷ front) rest [] are =
      let p = turns-split w front rest [] are.1 in
      record {
        first = p.first;
        second = p.second;
        whole = p.whole;
        are_first = turns-skip w lane front p.first are.0 p.are_first;
        are_second = p.are_second;
      }
  turns-split w (lane ∷ front) rest (t ∷ ts) (inl are) =
      let p = turns-split w front rest (t ∷ ts) are.1 in
      record {
        first = p.first;
        second = p.second;
        whole = p.whole;
        are_first = turns-skip w lane front p.first are.0 p.are_first;
        are_second = p.are_second;
      }
  turns-split w (lane ∷ front) rest (t ∷ ts) (inr are) =
      let p = turns-split (world_after z w t) front rest ts are.2 in
      record {
        first = t ∷ p.first;
        second = p.second;
        whole = ap (λ (us : List Turn). t ∷ us) p.whole;
        are_first = inr (are.0, are.1, p.are_first);
        are_second = p.are_second;
      }

  -- what one entry more makes: nothing, as its lane is finished; or its lane's next turn
  pub data MakesMore (w : World) (lane : ℕ) (us : List Turn) : Type 0 where
    makes_none : us ≡ [] → is_finished z w lane ≡ true → MakesMore w lane us
    makes_one : (t : Turn) → us ≡ t ∷ [] → t.lane ≡ lane → IsNextTurn z w t → MakesMore w lane us

  pub makes-more : (w : World) (lane : ℕ) (us : List Turn) → AreTurns z w (lane ∷ []) us → MakesMore w lane us
  makes-more w lane [] are = makes_none refl are.0
  makes-more w lane (t ∷ us) (inl are) = absurd are.1
  makes-more w lane (t ∷ []) (inr are) = makes_one t refl are.0 are.1
  makes-more w lane (t ∷ u ∷ us) (inr are) = absurd are.2

  module _ (scripts : List (List Command)) where
    -- the turns of a lawful trace over an entry more
    pub record Longer (trace longer : List Turn) (lane : ℕ) : Type 0 where
      pub more : List Turn
      pub is : longer ≡ trace ++ more
      pub makes : MakesMore (world_of z scripts trace) lane more

    pub longer-is : (schedule : List ℕ) (trace longer : List Turn) (lane : ℕ) → IsLawful z scripts schedule trace
        → IsLawful z scripts (schedule ++ lane ∷ []) longer → Longer trace longer lane
    longer-is schedule trace longer lane lawful after =
        let p = turns-split (first_world scripts) schedule (lane ∷ []) longer after.turns in
        let legal : IsLegal z (world_from z (world_of z scripts p.first) p.second).history =
        subst (λ (w : World). IsLegal z w.history) (world-append (first_world scripts) p.first p.second)
        (subst (λ (ts : List Turn). IsLegal z (world_of z scripts ts).history) p.whole after.legal) in
        let same : p.first ≡ trace = one-trace-law z scripts schedule p.first trace
        (record { turns = p.are_first; legal = legal_before z (world_of z scripts p.first) p.second legal }) lawful in
        record {
          more = p.second;
          is = p.whole ∙ ap (λ (ts : List Turn). ts ++ p.second) same;
          makes = makes-more (world_of z scripts trace) lane p.second
              (subst (λ (ts : List Turn). AreTurns z (world_of z scripts ts) (lane ∷ []) p.second) same p.are_second);
        }

    -- one turn more makes a lawful trace over one entry more
    pub lawful-more : (schedule : List ℕ) (trace : List Turn) (t : Turn) → IsLawful z scripts schedule trace
        → IsNextTurn z (world_of z scripts trace) t → IsLegal z (world_after z (world_of z scripts trace) t).history
        → IsLawful z scripts (schedule ++ t.lane ∷ []) (trace ++ t ∷ [])
    lawful-more schedule trace t lawful next legal = record {
      turns = turns-join (first_world scripts) schedule (t.lane ∷ []) trace (t ∷ []) lawful.turns (inr (refl, next, tt));
      legal = subst (λ (w : World). IsLegal z w.history) (sym (world-append (first_world scripts) trace (t ∷ []))) legal;
    }
