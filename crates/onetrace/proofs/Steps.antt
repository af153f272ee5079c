-- A lane's next step is decided, and so is its act.
use Rattle.std.proofs.Common.{◌≡◌, ℕ, zero, suc, List, [], ◌∷◌, Option, Some, None, refl, ap, sym, ◌∙◌, subst, arith}
use Rattle.keybits.specs.declared.step.Step.{Step}
use Rattle.keybits.specs.declared.step.Kind.{Kind}
use Rattle.keybits.specs.declared.step.Kind.TheVariants as kinds
use Rattle.keybits.specs.declared.step.Word.{Word}
use Rattle.keybits.specs.Steps.{Changes}
use Rattle.keybits.specs.Links.{Leads}
use Rattle.keybits.specs.declared.shape.Shape.{Shape}
use Rattle.seqpool.specs.declared.act.Act.{Act}
use Rattle.seqpool.specs.declared.act.Act.TheVariants as acts
use Rattle.seqpool.specs.Pool.{Pool, LegalFrom}
use Rattle.steplaws.specs.Calls.{Call, Publishing, Getting, Releasing, Clearing, Creating, Caller, Aim, aim, EnterMakes, LeaveMakes, PublishMakes, MarkMakes, TakeMakes, KindMakes}
use Rattle.steplaws.specs.Facts.{Words, value_of}
use Rattle.traces.specs.Books.{Book, caller, call_under_way, act_list}
use Rattle.traces.specs.Lawful.{CallMakes, IsStep}
use Rattle.traces.proofs.StepCalls.{same_some}

-- what a step leaves
one_after : (last : ℕ) (kind : Kind) (before a b : ℕ) → Changes last kind before a → Changes last kind before b → a ≡ b
one_after last kinds.Enter before a b x y = x ∙ sym y
one_after last kinds.Leave before a b x y = let p = x.1 in let q = y.1 in omega arith
one_after last (kinds.Publish with_ref) before a b x y = x.1 ∙ sym y.1
one_after last kinds.Mark before a b x y = let p = x.2 in let q = y.2 in omega arith
one_after last (kinds.Claim generation) before a b x y = x ∙ sym y
one_after last (kinds.Link expected) before a b x y = x ∙ sym y
one_after last (kinds.Push expected link) before a b x y = x ∙ sym y
one_after last kinds.Take before a b x y = x ∙ sym y
one_after last kinds.Follow before a b x y = x ∙ sym y

-- where links lead
one_lead : (links : ℕ → ℕ) (shard : ℕ) (ps qs : List ℕ) (word : ℕ) → Leads links shard word ps → Leads links shard word qs → ps ≡ qs
one_lead links shard [] [] word x y = refl
one_lead links shard [] (q ∷ qs) word x y = let p = y.0 in absurd (omega arith)
one_lead links shard (p ∷ ps) [] word x y = let q = x.0 in absurd (omega arith)
one_lead links shard (p ∷ ps) (q ∷ qs) word x y =
    let e : p ≡ q = x.1 ∙ sym y.1 in
    let more : ps ≡ qs = one_lead links shard ps qs (links p) x.2
    (subst (λ (n : ℕ). Leads links shard (links n) qs) (sym e) y.2) in
    λ i. e i ∷ more i

-- the act of a step, after which the history is legal
module _ (z : Shape) (P : Pool) (c : Caller) (made other : Option Act) (legal : LegalFrom z P (act_list made)) (legal_too : LegalFrom z P (act_list other)) where
  one_enter : (call : Call) (word : ℕ) → EnterMakes c call word made → EnterMakes c call word other → made ≡ other
  one_enter (Publishing key content with_ref) word x y = absurd x
  one_enter (Getting key) word x y =
      let p = subst (λ (o : Option Act). LegalFrom z P (act_list o)) x.2 legal in
      let q = subst (λ (o : Option Act). LegalFrom z P (act_list o)) y.2 legal_too in
      x.2 ∙ ap (λ (reply : Option (List ℕ)). Some (acts.Get c.lane key reply)) (p.1 ∙ sym q.1) ∙ sym y.2
  one_enter (Releasing key) word x y = absurd x
  one_enter (Clearing key) word x y = x ∙ sym y
  one_enter (Creating own chain opened) word x y = absurd x

  one_leave : (call : Call) → LeaveMakes c call made → LeaveMakes c call other → made ≡ other
  one_leave (Publishing key content with_ref) x y = absurd x
  one_leave (Getting key) x y = x ∙ sym y
  one_leave (Releasing key) x y = x ∙ sym y
  one_leave (Clearing key) x y = x ∙ sym y
  one_leave (Creating own chain opened) x y = absurd x

  one_publish : (call : Call) → PublishMakes c call made → PublishMakes c call other → made ≡ other
  one_publish (Publishing key content with_ref) x y = x ∙ sym y
  one_publish (Getting key) x y = absurd x
  one_publish (Releasing key) x y = absurd x
  one_publish (Clearing key) x y = absurd x
  one_publish (Creating own chain opened) x y = absurd x

  one_mark : (call : Call) (word : ℕ) → MarkMakes c call word made → MarkMakes c call word other → made ≡ other
  one_mark (Publishing key content with_ref) word x y = absurd x
  one_mark (Getting key) word x y = absurd x
  one_mark (Releasing key) word x y = absurd x
  one_mark (Clearing key) word x y = x ∙ sym y
  one_mark (Creating own chain opened) word x y = absurd x

  one_take : (links : ℕ → ℕ) (word : ℕ) → TakeMakes c links word made → TakeMakes c links word other → made ≡ other
  one_take links zero x y = x.0 refl ∙ sym (y.0 refl)
  one_take links (suc n) x y =
      let p = x.1 (λ e. cc e) in
      let q = y.1 (λ e. cc e) in
      p.2 ∙ ap (λ (places : List ℕ). Some (acts.Collect c.lane places)) (one_lead links c.lane p.0 q.0 (suc n) p.1 q.1) ∙ sym q.2

  one_act : (kind : Kind) (call : Call) (links : ℕ → ℕ) (word : Word) (before : ℕ) → KindMakes kind c call links word before made
      → KindMakes kind c call links word before other → made ≡ other
  one_act kinds.Enter call links word before x y = one_enter call before x y
  one_act kinds.Leave call links word before x y = one_leave call x y
  one_act (kinds.Publish with_ref) call links word before x y = one_publish call x y
  one_act kinds.Mark call links word before x y = one_mark call before x y
  one_act (kinds.Claim generation) call links word before x y = x ∙ sym y
  one_act (kinds.Link expected) call links word before x y = x ∙ sym y
  one_act (kinds.Push expected link) call links word before x y = x ∙ sym y
  one_act kinds.Take call links word before x y = one_take links before x y
  one_act kinds.Follow call links word before x y = x ∙ sym y

  one_made : (o : Option Call) (links : ℕ → ℕ) (step : Step) → CallMakes c o links step made → CallMakes c o links step other → made ≡ other
  one_made (Some call) links step x y = one_act step.kind call links step.word step.before x y
  one_made None links step x y = absurd x

module _ (z : Shape) (lane : ℕ) (words : Words) (b : Book) where
  same_aim : (step other : Step) (made more : Option Act) → IsStep z lane words b step made → IsStep z lane words b other more
      → aim step.kind step.word ≡ aim other.kind other.word
  same_aim step other made more x y = same_some (aim step.kind step.word) (aim other.kind other.word) (sym x.next ∙ y.next)

  pub one_step : (step other : Step) (made more : Option Act) → IsStep z lane words b step made → IsStep z lane words b other more → step ≡ other
  one_step step other made more x y =
      let e = same_aim step other made more x y in
      let kind : step.kind ≡ other.kind = ap (λ (a : Aim). a.kind) e in
      let word : step.word ≡ other.word = ap (λ (a : Aim). a.word) e in
      let before : step.before ≡ other.before = x.before ∙ ap (value_of words) word ∙ sym y.before in
      let changes : Changes z.last_generation step.kind step.before other.after =
      subst (λ (k : Kind). Changes z.last_generation k step.before other.after) (sym kind)
      (subst (λ (n : ℕ). Changes z.last_generation other.kind n other.after) (sym before) y.changes) in
      let after : step.after ≡ other.after = one_after z.last_generation step.kind step.before step.after other.after x.changes changes in
      λ i. record { kind = kind i; word = word i; before = before i; after = after i }

  pub one_act_of : (P : Pool) (step other : Step) (made more : Option Act) → LegalFrom z P (act_list made) → LegalFrom z P (act_list more)
      → IsStep z lane words b step made → IsStep z lane words b other more → made ≡ more
  one_act_of P step other made more legal legal_too x y =
      one_made z P (caller z lane b) made more legal legal_too (call_under_way b) words.link step x.makes
      (subst (λ (s : Step). CallMakes (caller z lane b) (call_under_way b) words.link s more) (sym (one_step step other made more x y)) y.makes)
