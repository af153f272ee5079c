-- A clear makes one Clear alone: behind it the acts of the call clear nothing.
use Rattle.std.proofs.Common.{◌≡◌, ℕ, Bool, true, false, cond, eqb, not, ◌&&◌, List, [], ◌∷◌, ◌++◌, Option, Some, None, refl, sym, ap, ◌∙◌, subst}
use Rattle.keybits.specs.declared.shape.Shape.{Shape}
use Rattle.keybits.specs.declared.step.Kind.{Kind}
use Rattle.keybits.specs.declared.step.Kind.TheVariants as kinds
use Rattle.keybits.specs.declared.step.Word.TheVariants.{Life}
use Rattle.keybits.specs.declared.step.Step.{Step}
use Rattle.keybits.specs.Places.{shard_of}
use Rattle.keybits.specs.Keys.{place_of, is_key}
use Rattle.keybits.specs.Words.{generation_in}
use Rattle.seqpool.specs.declared.act.Act.{Act}
use Rattle.seqpool.specs.declared.act.Act.TheVariants as acts
use Rattle.steplaws.specs.Calls.{Clearing, Caller, Aim, aim, is_hit, owes_claim, is_claimed, end_next, mark_next, AreSteps, KindMakes}
use Rattle.poolsteps.specs.Views.{acts_in}
use Rattle.seatcalls.specs.Called.{Make}
use Rattle.poollaws.specs.Cleared.{cleared_in}
use Rattle.poollaws.proofs.ClearActs.{IsMaker, kind-calm, calm-more}

-- the next step makes no Clear, if there is one
abbrev MakesNone : Option Aim → Type 0
MakesNone None = Unit {0}
MakesNone (Some next) = IsMaker next.kind → ⊥

none-either : (b : Bool) (x y : Option Aim) → MakesNone x → MakesNone y → MakesNone (cond b x y)
none-either true x y this that = this
none-either false x y this that = that

end-none : (c : Caller) (place : ℕ) (done : List Step) → MakesNone (end_next c place done)
end-none c place [] = λ maker. maker
end-none c place (leave ∷ []) = none-either (owes_claim leave.before) _ None (λ maker. maker) tt
end-none c place (leave ∷ claim ∷ []) = none-either
    (is_claimed (generation_in leave.before) claim.before && not (eqb (generation_in leave.before) c.shape.last_generation)
    && not (eqb (shard_of place) c.lane)) _ None (λ maker. maker) tt
end-none c place (leave ∷ claim ∷ link ∷ []) = λ maker. maker
end-none c place (leave ∷ claim ∷ link ∷ push ∷ []) = none-either (eqb push.before (c.pushed (shard_of place))) None _ tt (λ maker. maker)
end-none c place (leave ∷ claim ∷ link ∷ push ∷ again ∷ []) = λ maker. maker
end-none c place (leave ∷ claim ∷ link ∷ push ∷ again ∷ last ∷ more) = tt

next-where : (b : Bool) (x next : Aim) → cond b (Some x) None ≡ Some next → x.kind ≡ next.kind
next-where true x next is = let same : x ≡ next = cc is in ap (λ (a : Aim). a.kind) same
next-where false x next is = absurd (cc is)

module _ (z : Shape) (c : Caller) (key : ℕ) where
  -- the call's steps behind its first two clear nothing
  rest-calm : (enter second : Step) (done steps : List Step) (made : List Act) → AreSteps c (Clearing key) (enter ∷ second ∷ done) steps
      → Make z c (Clearing key) steps made → cleared_in made ≡ []
  rest-calm enter second done [] made are make = ap cleared_in make
  rest-calm enter second done (step ∷ more) made are (act, links, after, changes, makes, make, is) =
      let none = subst MakesNone are.0 (none-either (is_hit key enter.before) _ _ (end-none c (place_of key) done) (end-none c (place_of key) (second ∷ done))) in
      calm-more made after act (kind-calm step.kind c (Clearing key) links step.word step.before act (λ maker. absurd (none maker)) makes) is
      ∙ rest-calm enter second (done ++ step ∷ []) more after are.1 make

  -- behind an ENTER that missed all steps clear nothing, and behind one that hit all but the MARK
  missed : (enter : Step) (steps : List Step) (made : List Act) → is_hit key enter.before ≡ false → AreSteps c (Clearing key) (enter ∷ []) steps
      → Make z c (Clearing key) steps made → cleared_in made ≡ []
  missed enter [] made miss are make = ap cleared_in make
  missed enter (step ∷ more) made miss are (act, links, after, changes, makes, make, is) =
      let none = subst MakesNone (sym (ap (λ (b : Bool). cond b (mark_next c (place_of key) []) (end_next c (place_of key) [])) miss) ∙ are.0) (end-none c (place_of key) []) in
      calm-more made after act (kind-calm step.kind c (Clearing key) links step.word step.before act (λ maker. absurd (none maker)) makes) is
      ∙ rest-calm enter step [] more after are.1 make

  hit : (enter : Step) (steps : List Step) (made rest : List Act) (first : Act) → is_hit key enter.before ≡ true → AreSteps c (Clearing key) (enter ∷ []) steps
      → Make z c (Clearing key) steps made → made ≡ first ∷ rest → cleared_in rest ≡ []
  hit enter [] made rest first hits are make is = absurd (cc (make, is))
  hit enter (mark ∷ more) made rest first hits are (act, links, after, changes, makes, make, is) split =
      let marks : Some (aim kinds.Mark (Life (place_of key))) ≡ Some (aim mark.kind mark.word)
      = sym (ap (λ (b : Bool). cond b (mark_next c (place_of key) []) (end_next c (place_of key) [])) hits) ∙ are.0 in
      let kind = next-where true (aim kinds.Mark (Life (place_of key))) (aim mark.kind mark.word) marks in
      let does = subst (λ (k : Kind). KindMakes k c (Clearing key) links mark.word mark.before act) (sym kind) makes in
      let same : after ≡ rest = cc (ap (λ (a : Option Act). acts_in a ++ after) does, is, split) in
      ap cleared_in (sym same) ∙ rest-calm enter mark [] more after are.1 make

  -- by whether the ENTER hit
  entered : (b : Bool) (enter : Step) (more : List Step) (made after rest : List Act) (first : Act) (act : Option Act) → is_hit key enter.before ≡ b
      → act ≡ cond b None (Some (acts.Clear c.lane key false)) → AreSteps c (Clearing key) (enter ∷ []) more → Make z c (Clearing key) more after
      → made ≡ acts_in act ++ after → made ≡ first ∷ rest → cleared_in rest ≡ []
  entered true enter more made after rest first act hits none are make is split =
      hit enter more after rest first hits are make (ap (λ (a : Option Act). acts_in a ++ after) (sym none) ∙ (sym is ∙ split))
  entered false enter more made after rest first act misses some are make is split =
      let same : after ≡ rest = cc (ap (λ (a : Option Act). acts_in a ++ after) some, is, split) in
      ap cleared_in (sym same) ∙ missed enter more after misses are make

  pub clear-alone : (steps : List Step) (made rest : List Act) (first : Act) → AreSteps c (Clearing key) [] steps → Make z c (Clearing key) steps made
      → made ≡ first ∷ rest → cleared_in rest ≡ []
  clear-alone [] made rest first are make is = absurd (cc (make, is))
  clear-alone (enter ∷ more) made rest first are (act, links, after, changes, makes, make, is) split =
      let kind = next-where (is_key c.shape key) (aim kinds.Enter (Life (place_of key))) (aim enter.kind enter.word) are.0 in
      let does = subst (λ (k : Kind). KindMakes k c (Clearing key) links enter.word enter.before act) (sym kind) makes in
      entered (is_hit key enter.before) enter more made after rest first act refl does are.1 make is split
