-- The lanes after a step of one of them.
use Rattle.std.proofs.Common.{◌≡◌, ℕ, Bool, true, false, cond, eqb, List, [], ◌∷◌, ◌++◌, refl, ap, sym, ◌∙◌, Option}
use Rattle.std.proofs.lemmas.Bool.{eqb-true}
use Rattle.keybits.specs.declared.shape.Shape.{Shape}
use Rattle.keybits.specs.declared.step.Step.{Step}
use Rattle.seqpool.specs.declared.act.Act.{Act}
use Rattle.seqpool.specs.declared.act.Act.TheVariants as acts
use Rattle.steplaws.specs.declared.pending.Pending.{Pending}
use Rattle.steplaws.specs.Calls.{Call}
use Rattle.steplaws.specs.Facts.{put_at, Lanes}
use Rattle.traces.specs.declared.script.Command.{Command}
use Rattle.traces.specs.declared.script.Command.TheVariants as commands
use Rattle.traces.specs.declared.registers.Holding.{Holding}
use Rattle.traces.specs.declared.registers.Holding.TheVariants.{Empty, Filling, Reference}
use Rattle.traces.specs.Books.{Book, creating, holding_at, call_of, call_of_first, call_under_way, taken, pushed_by, pushed_after, stepped}
use Rattle.traces.specs.Lawful.{World}
use Rattle.traces.specs.Parts.{under_first, under_way, chain_of}
use Rattle.traces.specs.Owning.{lanes_now}
use Rattle.traces.proofs.Worlds.{after_step}

-- the lanes, but the one has this under way, has last pushed these words, and has this taken chain
abbrev pub lanes_at : Lanes → ℕ → Pending → (ℕ → ℕ) → List ℕ → Lanes
lanes_at lanes lane pending pushed chain = record {
  under = put_at lanes.under lane pending;
  pushed = λ shard other. cond (eqb other lane) (pushed shard) (lanes.pushed shard other);
  chain = put_at lanes.chain lane chain;
}

-- a value put where it stood
pub put_self : {A : Type 0} (f : ℕ → A) (lane : ℕ) (x : A) → x ≡ f lane → (other : ℕ) (t : Bool) → eqb other lane ≡ t → f other ≡ cond t x (f other)
put_self f lane x e other true is = ap f (eqb-true other lane is) ∙ sym e
put_self f lane x e other false is = refl

-- the words last pushed, after one step more
pub pushed_after-snoc : (steps : List Step) (step : Step) (pushed : ℕ → ℕ)
    → pushed_after (steps ++ step ∷ []) pushed ≡ pushed_by step step.kind step.word (pushed_after steps pushed)
pushed_after-snoc [] step pushed = refl
pushed_after-snoc (x ∷ more) step pushed = pushed_after-snoc more step (pushed_by x x.kind x.word pushed)

-- acts that collect nothing add nothing to what was found
pub taken-more : (xs ys : List Act) → taken ys ≡ [] → taken (xs ++ ys) ≡ taken xs
taken-more [] ys none = none
taken-more (acts.Collect lane places ∷ more) ys none = refl
taken-more (acts.Publish lane key content with_ref ∷ more) ys none = taken-more more ys none
taken-more (acts.Get lane key reply ∷ more) ys none = taken-more more ys none
taken-more (acts.Release lane key ∷ more) ys none = taken-more more ys none
taken-more (acts.Clear lane key reply ∷ more) ys none = taken-more more ys none
taken-more (acts.Reclaim lane key ∷ more) ys none = taken-more more ys none
taken-more (acts.Home lane place ∷ more) ys none = taken-more more ys none

-- a step leaves the call under way as it is
module _ (b : Book) (step : Step) (act : Option Act) where
  same_creating : (h : Holding) → creating (stepped b step act) h ≡ creating b h
  same_creating Empty = refl
  same_creating (Filling key content) = refl
  same_creating (Reference key content) = refl

  same_call_of : (command : Command) → call_of (stepped b step act) command ≡ call_of b command
  same_call_of (commands.Create r) = same_creating (holding_at b r.number)
  same_call_of (commands.Write r bytes) = refl
  same_call_of (commands.Publish r) = refl
  same_call_of (commands.Downgrade r) = refl
  same_call_of (commands.Get r key) = refl
  same_call_of (commands.Read r) = refl
  same_call_of (commands.Release r) = refl
  same_call_of (commands.Clear key) = refl

  same_first : (left : List Command) → call_of_first (stepped b step act) left ≡ call_of_first b left
  same_first [] = refl
  same_first (command ∷ more) = same_call_of command

  pub same_call : call_under_way (stepped b step act) ≡ call_under_way b
  same_call = same_first b.left

-- the lanes after a step of the one
module _ (z : Shape) (w : World) (lane : ℕ) (step : Step) (act : Option Act) where
  abbrev next : Book
  next = stepped (w.books lane) step act

  module _ (pending : Pending) (pushed : ℕ → ℕ) (chain : List ℕ)
      (under : under_first z lane (call_under_way (w.books lane)) ((w.books lane).steps ++ step ∷ []) ≡ pending)
      (last : (shard : ℕ) → pushed_after ((w.books lane).steps ++ step ∷ []) (w.books lane).pushed shard ≡ pushed shard)
      (found : (w.books lane).chain ++ taken next.acts ≡ chain) where
    under_at : (other : ℕ) (t : Bool) → eqb other lane ≡ t
        → under_first z other (call_under_way (cond t next (w.books other))) (cond t next (w.books other)).steps
        ≡ cond t pending (under_way z w other)
    under_at other true e = ap (λ (n : ℕ). under_first z n (call_under_way next) next.steps) (eqb-true other lane e)
        ∙ (ap (λ (o : Option Call). under_first z lane o next.steps) (same_call (w.books lane) step act) ∙ under)
    under_at other false e = refl

    pushed_at : (shard other : ℕ) (t : Bool) → eqb other lane ≡ t
        → pushed_after (cond t next (w.books other)).steps (cond t next (w.books other)).pushed shard
        ≡ cond t (pushed shard) (pushed_after (w.books other).steps (w.books other).pushed shard)
    pushed_at shard other true e = last shard
    pushed_at shard other false e = refl

    chain_at : (other : ℕ) (t : Bool) → eqb other lane ≡ t
        → (cond t next (w.books other)).chain ++ taken (cond t next (w.books other)).acts ≡ cond t chain (chain_of w other)
    chain_at other true e = found
    chain_at other false e = refl

    pub lanes_stepped : lanes_now z (after_step z w lane step act) ≡ lanes_at (lanes_now z w) lane pending pushed chain
    lanes_stepped = λ i. record {
      under = λ other. under_at other (eqb other lane) refl i;
      pushed = λ shard other. pushed_at shard other (eqb other lane) refl i;
      chain = λ other. chain_at other (eqb other lane) refl i;
    }
