-- One line more.
use Rattle.std.proofs.Common.{◌≡◌, ◌≢◌, ℕ, ◌+◌, ◌<◌, Bool, true, min, List, [], ◌∷◌, ◌++◌, length, take, get_or, refl, sym, ap, ◌∙◌, subst, arith}
use Rattle.std.proofs.lemmas.List.{take_more, length_push}
use mathlib.Core.Logic.{dite}
use native.Mathlib.Decide.{ℕ_discrete}
use Rattle.traces.specs.declared.script.Command.{Command}
use Rattle.traces.specs.declared.reply.Reply.{Reply}
use Rattle.poolsteps.proofs.ViewLemmas.{prefix-self, prefix-trans}
use Rattle.shardpool.specs.Tokens.{PoolOf}
use Rattle.workers.specs.Lines.{Desk, IsLine, AreLines}
use Rattle.workers.specs.Tidy.{Tidy, Runs}
use Rattle.workers.specs.Steps.{RunsOn}

lines-more : (old between new : Desk) (commands : List Command) (replies : List Reply) (command : Command) (reply : Reply) → AreLines old commands replies between
    → IsLine between command reply new → AreLines old (commands ++ command ∷ []) (replies ++ reply ∷ []) new
lines-more old between new [] [] command reply are line = (new, subst (λ (d : Desk). IsLine d command reply new) are line, refl)
lines-more old between new [] (r ∷ replies) command reply are line = absurd are
lines-more old between new (c ∷ commands) [] command reply are line = absurd are
lines-more old between new (c ∷ commands) (r ∷ replies) command reply (first, is, rest) line =
    (first, is, lines-more first between new commands replies command reply rest line)

-- before the first
pub runs-none : (pool : PoolOf) (at : Desk) (commands : List Command) → Tidy pool at → RunsOn pool at commands 0 [] at
runs-none pool at commands tidy = record { lines = refl; tidy = tidy; same = (refl, refl, refl, refl); seen = prefix-self at.lane.book.seen }

-- one more, and its reply behind the others
module _ (pool : PoolOf) (old between new : Desk) (commands : List Command) (ran : ℕ) (replies now : List Reply) (command : Command) (reply : Reply)
    (now_is : now ≡ replies ++ reply ∷ []) where
  pub count-more : length replies ≡ ran → length now ≡ ran + 1
  count-more count =
      let both = ap (λ (rs : List Reply). length rs) now_is in
      let more = length_push replies reply in omega (arith, both, more, count)

  pub runs-more : RunsOn pool old commands ran replies between → ran < length commands → command ≡ get_or commands ran command → Runs pool between command reply new
      → RunsOn pool old commands (ran + 1) now new
  runs-more on inside is runs =
      let front : take (ran + 1) commands ≡ take ran commands ++ command ∷ [] =
      take_more commands ran command inside ∙ ap (λ (c : Command). take ran commands ++ c ∷ []) (sym is) in record {
        lines = subst (λ (rs : List Reply). AreLines old (take (ran + 1) commands) rs new) (sym now_is)
            (subst (λ (cs : List Command). AreLines old cs (replies ++ reply ∷ []) new) (sym front)
            (lines-more old between new (take ran commands) replies command reply on.lines runs.line));
        tidy = runs.tidy;
        same = (runs.same.0 ∙ on.same.0, runs.same.1 ∙ on.same.1, runs.same.2 ∙ on.same.2, runs.same.3 ∙ on.same.3);
        seen = prefix-trans old.lane.book.seen between.lane.book.seen new.lane.book.seen on.seen runs.seen;
      }

-- the gate let one line more pass
pub passed-more : (says : ℕ → ℕ → Bool → Type 0) (number now ran line : ℕ) → now ≡ number → line ≡ min ran 4294967295 → says now line true
    → ((i : ℕ) → i < ran → says number (min i 4294967295) true) → (i : ℕ) → i < ran + 1 → says number (min i 4294967295) true
passed-more says number now ran line same is let_pass before i below = dite (ℕ_discrete i ran)
    (λ (here : i ≡ ran). subst (λ (n : ℕ). says n (min i 4294967295) true) same (subst (λ (l : ℕ). says now l true) (is ∙ ap (λ (n : ℕ). min n 4294967295) (sym here)) let_pass))
    (λ (there : i ≢ ran). before i (omega (arith, below, there)))
