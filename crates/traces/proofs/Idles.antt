-- A call that has made all its steps has nothing under way; and only a create takes a chain.
use Rattle.std.proofs.Common.{◌≡◌, ℕ, Bool, true, false, not, cond, eqb, ◌&&◌, List, [], ◌∷◌, ◌++◌, Option, Some, None, refl, ap, sym, ◌∙◌, subst}
use Rattle.keybits.specs.declared.shape.Shape.{Shape}
use Rattle.keybits.specs.declared.step.Kind.{Kind}
use Rattle.keybits.specs.declared.step.Kind.TheVariants as kinds
use Rattle.keybits.specs.declared.step.Word.{Word}
use Rattle.keybits.specs.declared.step.Word.TheVariants.{Life, Link}
use Rattle.keybits.specs.declared.step.Step.{Step}
use Rattle.keybits.specs.Places.{shard_of}
use Rattle.keybits.specs.Keys.{key_number, place_of, is_key}
use Rattle.keybits.specs.Words.{generation_in}
use Rattle.keybits.specs.Steps.{Changes}
use Rattle.seqpool.specs.declared.act.Act.{Act}
use Rattle.seqpool.specs.declared.act.Act.TheVariants as acts
use Rattle.steplaws.specs.Calls.{Call, Publishing, Getting, Releasing, Clearing, Creating, Caller, Aim, aim, is_hit, owes_claim, is_claimed, end_next, mark_next, next_step, AreSteps, place_in, key_in, KindMakes}
use Rattle.steplaws.specs.declared.pending.Pending.{Pending}
use Rattle.steplaws.specs.declared.pending.Pending.TheVariants.{Nothing, Owes, Returns}
use Rattle.traces.specs.Books.{taken, act_list, next_in}
use Rattle.traces.specs.Parts.{under_end, under_mark, under_miss, under_call, under_first}
use Rattle.traces.specs.Making.{AreMade, HasMade}

-- a call that has made no step has nothing under way
pub under_start : (z : Shape) (lane : ℕ) (o : Option Call) → under_first z lane o [] ≡ Nothing
under_start z lane None = refl
under_start z lane (Some (Publishing key content with_ref)) = refl
under_start z lane (Some (Getting key)) = refl
under_start z lane (Some (Releasing key)) = refl
under_start z lane (Some (Clearing key)) = refl
under_start z lane (Some (Creating own chain opened)) = refl

-- the kind that is aimed at
abbrev kind_or : Kind → Option Aim → Kind
kind_or other (Some a) = a.kind
kind_or other None = other

pub same_kind : (a b : Aim) → Some a ≡ Some b → a.kind ≡ b.kind
same_kind a b e = ap (kind_or a.kind) e

-- a test that chooses between a step and none
chosen_none : (t : Bool) (a : Aim) (x y : Pending) → cond t (Some a) None ≡ None → cond t x y ≡ y
chosen_none true a x y e = absurd (cc e)
chosen_none false a x y e = refl

pub chosen_some : (t : Bool) (a next : Aim) → cond t (Some a) None ≡ Some next → a.kind ≡ next.kind
chosen_some true a next e = same_kind a next e
chosen_some false a next e = absurd (cc e)

chosen_last : (t : Bool) (a : Aim) (x y : Pending) → cond t None (Some a) ≡ None → cond t x y ≡ x
chosen_last true a x y e = refl
chosen_last false a x y e = absurd (cc e)

-- the first LINK of an END stores this word
abbrev LinksTo : ℕ → List Step → Type 0
LinksTo top [] = Unit {0}
LinksTo top (leave ∷ []) = Unit {0}
LinksTo top (leave ∷ claim ∷ []) = Unit {0}
LinksTo top (leave ∷ claim ∷ link ∷ more) = link.after ≡ top

-- a LINK that an END aims at
linked : (last : ℕ) (t : Bool) (top place : ℕ) (link : Step) → cond t (Some (aim (kinds.Link top) (Link place))) None ≡ Some (aim link.kind link.word)
    → Changes last link.kind link.before link.after → link.after ≡ top
linked last t top place link e changes =
    let kind : kinds.Link top ≡ link.kind = chosen_some t (aim (kinds.Link top) (Link place)) (aim link.kind link.word) e in
    subst (λ (k : Kind). Changes last k link.before link.after) (sym kind) changes

-- whether a place is to be returned after its LEAVE and its CLAIM
abbrev returns_after : Shape → ℕ → ℕ → Step → Step → Bool
returns_after z lane place leave claim =
    is_claimed (generation_in leave.before) claim.before && not (eqb (generation_in leave.before) z.last_generation)
    && not (eqb (shard_of place) lane)

module _ (z : Shape) (lane : ℕ) (pushed : ℕ → ℕ) where
  abbrev me : Caller
  me = record { shape = z; lane = lane; pushed = pushed }

  -- an END that has made its last step has nothing under way
  end_idle : (place : ℕ) (steps : List Step) → LinksTo (pushed (shard_of place)) steps → end_next me place steps ≡ None
      → under_end z lane place steps ≡ Nothing
  end_idle place [] links e = absurd (cc e)
  end_idle place (leave ∷ []) links e =
      chosen_none (owes_claim leave.before) (aim (kinds.Claim (generation_in leave.before)) (Life place))
      (Owes place (generation_in leave.before)) Nothing e
  end_idle place (leave ∷ claim ∷ []) links e =
      chosen_none (returns_after z lane place leave claim) (aim (kinds.Link (pushed (shard_of place))) (Link place))
      (Returns place None false) Nothing e
  end_idle place (leave ∷ claim ∷ link ∷ []) links e = absurd (cc e)
  end_idle place (leave ∷ claim ∷ link ∷ push ∷ []) links e =
      ap (λ (top : ℕ). cond (eqb push.before top) Nothing (Returns place None true)) links
      ∙ chosen_last (eqb push.before (pushed (shard_of place))) (aim (kinds.Link 0) (Link place)) Nothing (Returns place None true) e
  end_idle place (leave ∷ claim ∷ link ∷ push ∷ again ∷ []) links e = absurd (cc e)
  end_idle place (leave ∷ claim ∷ link ∷ push ∷ again ∷ last ∷ more) links e = refl

  -- so has one after an ENTER that missed
  miss_idle : (key : ℕ) (steps : List Step) → LinksTo (pushed (shard_of (place_of key))) steps → end_next me (place_of key) steps ≡ None
      → under_miss z lane key steps ≡ Nothing
  miss_idle key [] links e = absurd (cc e)
  miss_idle key (leave ∷ more) links e = end_idle (place_of key) (leave ∷ more) links e

  -- the last step of three that a call has made, where a test chooses its LINK
  third : (call : Call) (a b link : Step) (t : Bool) (top place : ℕ) (made : List Act) (more : List Step) → AreMade me call (a ∷ b ∷ link ∷ more) made
      → cond t (Some (aim (kinds.Link top) (Link place))) None ≡ Some (aim link.kind link.word) → link.after ≡ top
  third call a b link t top place made more m e = linked z.last_generation t top place link e m.4.4.2.changes

  release_links : (key : ℕ) (steps : List Step) (made : List Act) → AreSteps me (Releasing key) [] steps → AreMade me (Releasing key) steps made
      → LinksTo (pushed (shard_of (place_of key))) steps
  release_links key [] made s m = tt
  release_links key (leave ∷ []) made s m = tt
  release_links key (leave ∷ claim ∷ []) made s m = tt
  release_links key (leave ∷ claim ∷ link ∷ more) made s m =
      third (Releasing key) leave claim link (returns_after z lane (place_of key) leave claim)
      (pushed (shard_of (place_of key))) (place_of key) made more m s.1.1.0

  -- what comes after a test that failed
  behind : (t : Bool) (o : Option Aim) (e : Option Aim) → t ≡ false → cond t None o ≡ e → o ≡ e
  behind true o e isnt is = absurd (cc isnt)
  behind false o e isnt is = is

  behind_two : (t : Bool) (o p : Option Aim) (e : Option Aim) → t ≡ false → cond t p o ≡ e → o ≡ e
  behind_two true o p e isnt is = absurd (cc isnt)
  behind_two false o p e isnt is = is

  before_two : (t : Bool) (o p : Option Aim) (e : Option Aim) → t ≡ true → cond t p o ≡ e → p ≡ e
  before_two true o p e does is = is
  before_two false o p e does is = absurd (cc does)

  get_links : (key : ℕ) (enter : Step) (steps : List Step) (made : List Act) → is_hit key enter.before ≡ false
      → AreSteps me (Getting key) [] (enter ∷ steps) → AreMade me (Getting key) (enter ∷ steps) made → LinksTo (pushed (shard_of (place_of key))) steps
  get_links key enter [] made miss s m = tt
  get_links key enter (leave ∷ []) made miss s m = tt
  get_links key enter (leave ∷ claim ∷ []) made miss s m = tt
  get_links key enter (leave ∷ claim ∷ link ∷ more) made miss s m =
      third (Getting key) leave claim link (returns_after z lane (place_of key) leave claim)
      (pushed (shard_of (place_of key))) (place_of key) m.1 more m.4
      (behind (is_hit key enter.before) (end_next me (place_of key) (leave ∷ claim ∷ [])) (Some (aim link.kind link.word)) miss s.1.1.1.0)

  miss_links : (key : ℕ) (enter : Step) (steps : List Step) (made : List Act) → is_hit key enter.before ≡ false
      → AreSteps me (Clearing key) [] (enter ∷ steps) → AreMade me (Clearing key) (enter ∷ steps) made
      → LinksTo (pushed (shard_of (place_of key))) steps
  miss_links key enter [] made miss s m = tt
  miss_links key enter (leave ∷ []) made miss s m = tt
  miss_links key enter (leave ∷ claim ∷ []) made miss s m = tt
  miss_links key enter (leave ∷ claim ∷ link ∷ more) made miss s m =
      third (Clearing key) leave claim link (returns_after z lane (place_of key) leave claim)
      (pushed (shard_of (place_of key))) (place_of key) m.1 more m.4
      (behind_two (is_hit key enter.before) (end_next me (place_of key) (leave ∷ claim ∷ [])) (mark_next me (place_of key) (leave ∷ claim ∷ []))
      (Some (aim link.kind link.word)) miss s.1.1.1.0)

  hit_links : (key : ℕ) (enter mark : Step) (steps : List Step) (made : List Act) → is_hit key enter.before ≡ true
      → AreSteps me (Clearing key) [] (enter ∷ mark ∷ steps) → AreMade me (Clearing key) (enter ∷ mark ∷ steps) made
      → LinksTo (pushed (shard_of (place_of key))) steps
  hit_links key enter mark [] made hit s m = tt
  hit_links key enter mark (leave ∷ []) made hit s m = tt
  hit_links key enter mark (leave ∷ claim ∷ []) made hit s m = tt
  hit_links key enter mark (leave ∷ claim ∷ link ∷ more) made hit s m =
      third (Clearing key) leave claim link (returns_after z lane (place_of key) leave claim)
      (pushed (shard_of (place_of key))) (place_of key) m.4.1 more m.4.4
      (before_two (is_hit key enter.before) (end_next me (place_of key) (mark ∷ leave ∷ claim ∷ []))
      (mark_next me (place_of key) (mark ∷ leave ∷ claim ∷ []))
      (Some (aim link.kind link.word)) hit s.1.1.1.1.0)

  get_idle : (key : ℕ) (enter : Step) (steps : List Step) (made : List Act) → AreSteps me (Getting key) [] (enter ∷ steps)
      → AreMade me (Getting key) (enter ∷ steps) made
      → next_step me (Getting key) (enter ∷ steps) ≡ None → under_call z lane (Getting key) (enter ∷ steps) ≡ Nothing
  get_idle key enter steps made s m e = by_test (is_hit key enter.before) refl
    where
      by_test : (t : Bool) → is_hit key enter.before ≡ t → under_call z lane (Getting key) (enter ∷ steps) ≡ Nothing
      by_test true hit = ap (λ (t : Bool). cond t Nothing (under_miss z lane key steps)) hit
      by_test false miss = ap (λ (t : Bool). cond t Nothing (under_miss z lane key steps)) miss
          ∙ miss_idle key steps (get_links key enter steps made miss s m)
          (behind (is_hit key enter.before) (end_next me (place_of key) steps) None miss e)

  mark_idle : (key : ℕ) (enter : Step) (steps : List Step) (made : List Act) → is_hit key enter.before ≡ true
      → AreSteps me (Clearing key) [] (enter ∷ steps) → AreMade me (Clearing key) (enter ∷ steps) made → mark_next me (place_of key) steps ≡ None
      → under_mark z lane key steps ≡ Nothing
  mark_idle key enter [] made hit s m e = absurd (cc e)
  mark_idle key enter (mark ∷ []) made hit s m e = absurd (cc e)
  mark_idle key enter (mark ∷ leave ∷ more) made hit s m e =
      end_idle (place_of key) (leave ∷ more) (hit_links key enter mark (leave ∷ more) made hit s m) e

  clear_idle : (key : ℕ) (enter : Step) (steps : List Step) (made : List Act) → AreSteps me (Clearing key) [] (enter ∷ steps)
      → AreMade me (Clearing key) (enter ∷ steps) made
      → next_step me (Clearing key) (enter ∷ steps) ≡ None → under_call z lane (Clearing key) (enter ∷ steps) ≡ Nothing
  clear_idle key enter steps made s m e = by_test (is_hit key enter.before) refl
    where
      by_test : (t : Bool) → is_hit key enter.before ≡ t → under_call z lane (Clearing key) (enter ∷ steps) ≡ Nothing
      by_test true hit = ap (λ (t : Bool). cond t (under_mark z lane key steps) (under_miss z lane key steps)) hit
          ∙ mark_idle key enter steps made hit s m
          (before_two (is_hit key enter.before) (end_next me (place_of key) steps) (mark_next me (place_of key) steps) None hit e)
      by_test false miss = ap (λ (t : Bool). cond t (under_mark z lane key steps) (under_miss z lane key steps)) miss
          ∙ miss_idle key steps (miss_links key enter steps made miss s m)
          (behind_two (is_hit key enter.before) (end_next me (place_of key) steps) (mark_next me (place_of key) steps) None miss e)

  call_idle : (call : Call) (steps : List Step) (made : List Act) → AreSteps me call [] steps → AreMade me call steps made
      → next_step me call steps ≡ None → under_call z lane call steps ≡ Nothing
  call_idle (Publishing key content with_ref) steps made s m e = refl
  call_idle (Getting key) [] made s m e = refl
  call_idle (Getting key) (enter ∷ steps) made s m e = get_idle key enter steps made s m e
  call_idle (Releasing key) steps made s m e = end_idle (place_of key) steps (release_links key steps made s m) e
  call_idle (Clearing key) [] made s m e = refl
  call_idle (Clearing key) (enter ∷ steps) made s m e = clear_idle key enter steps made s m e
  call_idle (Creating own chain opened) steps made s m e = refl

  -- where no step is next, nothing is under way
  pub idle : (o : Option Call) (steps : List Step) (made : List Act) → HasMade me o steps made → next_in me steps o ≡ None
      → under_first z lane o steps ≡ Nothing
  idle None steps made h e = refl
  idle (Some call) steps made h e = call_idle call steps made h.0 h.1 e

-- ---- chains

-- a kind that is no TAKE
abbrev NoTake : Kind → Type 0
NoTake kinds.Enter = Unit {0}
NoTake kinds.Leave = Unit {0}
NoTake (kinds.Publish with_ref) = Unit {0}
NoTake kinds.Mark = Unit {0}
NoTake (kinds.Claim generation) = Unit {0}
NoTake (kinds.Link expected) = Unit {0}
NoTake (kinds.Push expected link) = Unit {0}
NoTake kinds.Take = ⊥
NoTake kinds.Follow = Unit {0}

-- a call that is no create
abbrev pub NoCreate : Option Call → Type 0
NoCreate None = Unit {0}
NoCreate (Some (Publishing key content with_ref)) = Unit {0}
NoCreate (Some (Getting key)) = Unit {0}
NoCreate (Some (Releasing key)) = Unit {0}
NoCreate (Some (Clearing key)) = Unit {0}
NoCreate (Some (Creating own chain opened)) = ⊥

aimed : (a next : Aim) → NoTake a.kind → Some a ≡ Some next → NoTake next.kind
aimed a next ok e = subst NoTake (same_kind a next e) ok

aimed_if : (t : Bool) (a next : Aim) → NoTake a.kind → cond t (Some a) None ≡ Some next → NoTake next.kind
aimed_if t a next ok e = subst NoTake (chosen_some t a next e) ok

aimed_else : (t : Bool) (a next : Aim) → NoTake a.kind → cond t None (Some a) ≡ Some next → NoTake next.kind
aimed_else true a next ok e = absurd (cc e)
aimed_else false a next ok e = aimed a next ok e

end_no_take : (c : Caller) (place : ℕ) (steps : List Step) (next : Aim) → end_next c place steps ≡ Some next → NoTake next.kind
end_no_take c place [] next e = aimed (aim kinds.Leave (Life place)) next tt e
end_no_take c place (leave ∷ []) next e = aimed_if (owes_claim leave.before) (aim (kinds.Claim (generation_in leave.before)) (Life place)) next tt e
end_no_take c place (leave ∷ claim ∷ []) next e =
    aimed_if (returns_after c.shape c.lane place leave claim) (aim (kinds.Link (c.pushed (shard_of place))) (Link place)) next tt e
end_no_take c place (leave ∷ claim ∷ link ∷ []) next e = subst NoTake (ap (kind_or kinds.Leave) e) tt
end_no_take c place (leave ∷ claim ∷ link ∷ push ∷ []) next e =
    aimed_else (eqb push.before (c.pushed (shard_of place))) (aim (kinds.Link 0) (Link place)) next tt e
end_no_take c place (leave ∷ claim ∷ link ∷ push ∷ again ∷ []) next e = subst NoTake (ap (kind_or kinds.Leave) e) tt
end_no_take c place (leave ∷ claim ∷ link ∷ push ∷ again ∷ last ∷ more) next e = absurd (cc e)

mark_no_take : (c : Caller) (place : ℕ) (steps : List Step) (next : Aim) → mark_next c place steps ≡ Some next → NoTake next.kind
mark_no_take c place [] next e = aimed (aim kinds.Mark (Life place)) next tt e
mark_no_take c place (mark ∷ more) next e = end_no_take c place more next e

else_no_take : (t : Bool) (o : Option Aim) (next : Aim) → (o ≡ Some next → NoTake next.kind) → cond t None o ≡ Some next → NoTake next.kind
else_no_take true o next ok e = absurd (cc e)
else_no_take false o next ok e = ok e

either_no_take : (t : Bool) (o p : Option Aim) (next : Aim) → (o ≡ Some next → NoTake next.kind) → (p ≡ Some next → NoTake next.kind)
    → cond t o p ≡ Some next → NoTake next.kind
either_no_take true o p next ok also e = ok e
either_no_take false o p next ok also e = also e

next_no_take : (c : Caller) (call : Call) (steps : List Step) (next : Aim) → NoCreate (Some call) → next_step c call steps ≡ Some next
    → NoTake next.kind
next_no_take c (Publishing key content with_ref) [] next isnt e = aimed (aim (kinds.Publish with_ref) (Life (place_of key))) next tt e
next_no_take c (Publishing key content with_ref) (publish ∷ more) next isnt e = absurd (cc e)
next_no_take c (Getting key) [] next isnt e = aimed_if (is_key c.shape key) (aim kinds.Enter (Life (place_of key))) next tt e
next_no_take c (Getting key) (enter ∷ more) next isnt e =
    else_no_take (is_hit key enter.before) (end_next c (place_of key) more) next (end_no_take c (place_of key) more next) e
next_no_take c (Releasing key) steps next isnt e = end_no_take c (place_of key) steps next e
next_no_take c (Clearing key) [] next isnt e = aimed_if (is_key c.shape key) (aim kinds.Enter (Life (place_of key))) next tt e
next_no_take c (Clearing key) (enter ∷ more) next isnt e =
    either_no_take (is_hit key enter.before) (mark_next c (place_of key) more) (end_next c (place_of key) more) next
    (mark_no_take c (place_of key) more next) (end_no_take c (place_of key) more next) e
next_no_take c (Creating own chain opened) steps next isnt e = absurd isnt

-- an act that is no Collect
abbrev NoCollect : Option Act → Type 0
NoCollect None = Unit {0}
NoCollect (Some (acts.Publish lane key content with_ref)) = Unit {0}
NoCollect (Some (acts.Get lane key reply)) = Unit {0}
NoCollect (Some (acts.Release lane key)) = Unit {0}
NoCollect (Some (acts.Clear lane key reply)) = Unit {0}
NoCollect (Some (acts.Reclaim lane key)) = Unit {0}
NoCollect (Some (acts.Home lane place)) = Unit {0}
NoCollect (Some (acts.Collect lane places)) = ⊥

none_or : (t : Bool) (o p act : Option Act) → NoCollect o → NoCollect p → act ≡ cond t o p → NoCollect act
none_or true o p act ok also e = subst NoCollect (sym e) ok
none_or false o p act ok also e = subst NoCollect (sym e) also

kind_no_collect : (kind : Kind) (c : Caller) (call : Call) (links : ℕ → ℕ) (word : Word) (before : ℕ) (act : Option Act) → NoTake kind
    → KindMakes kind c call links word before act → NoCollect act
kind_no_collect kinds.Enter c (Getting key) links word before act isnt (reply, hit, e) = subst NoCollect (sym e) tt
kind_no_collect kinds.Enter c (Clearing key) links word before act isnt e =
    none_or (is_hit key before) None (Some (acts.Clear c.lane key false)) act tt tt e
kind_no_collect kinds.Enter c (Publishing key content with_ref) links word before act isnt e = absurd e
kind_no_collect kinds.Enter c (Releasing key) links word before act isnt e = absurd e
kind_no_collect kinds.Enter c (Creating own chain opened) links word before act isnt e = absurd e
kind_no_collect kinds.Leave c (Releasing key) links word before act isnt e = subst NoCollect (sym e) tt
kind_no_collect kinds.Leave c (Getting key) links word before act isnt e = subst NoCollect (sym e) tt
kind_no_collect kinds.Leave c (Clearing key) links word before act isnt e = subst NoCollect (sym e) tt
kind_no_collect kinds.Leave c (Publishing key content with_ref) links word before act isnt e = absurd e
kind_no_collect kinds.Leave c (Creating own chain opened) links word before act isnt e = absurd e
kind_no_collect (kinds.Publish r) c (Publishing key content with_ref) links word before act isnt e = subst NoCollect (sym e) tt
kind_no_collect (kinds.Publish r) c (Getting key) links word before act isnt e = absurd e
kind_no_collect (kinds.Publish r) c (Releasing key) links word before act isnt e = absurd e
kind_no_collect (kinds.Publish r) c (Clearing key) links word before act isnt e = absurd e
kind_no_collect (kinds.Publish r) c (Creating own chain opened) links word before act isnt e = absurd e
kind_no_collect kinds.Mark c (Clearing key) links word before act isnt e = subst NoCollect (sym e) tt
kind_no_collect kinds.Mark c (Getting key) links word before act isnt e = absurd e
kind_no_collect kinds.Mark c (Releasing key) links word before act isnt e = absurd e
kind_no_collect kinds.Mark c (Publishing key content with_ref) links word before act isnt e = absurd e
kind_no_collect kinds.Mark c (Creating own chain opened) links word before act isnt e = absurd e
kind_no_collect (kinds.Claim generation) c call links word before act isnt e =
    none_or (is_claimed generation before)
    (Some (acts.Reclaim c.lane (key_number c.shape.tag (place_in word) generation))) None act tt tt e
kind_no_collect (kinds.Link expected) c call links word before act isnt e = subst NoCollect (sym e) tt
kind_no_collect (kinds.Push expected link) c call links word before act isnt e =
    none_or (eqb before expected) (Some (acts.Home c.lane (place_of (key_in call)))) None act tt tt e
kind_no_collect kinds.Take c call links word before act isnt e = absurd isnt
kind_no_collect kinds.Follow c call links word before act isnt e = subst NoCollect (sym e) tt

taken_behind : (act : Option Act) (rest : List Act) → NoCollect act → taken (act_list act ++ rest) ≡ taken rest
taken_behind None rest isnt = refl
taken_behind (Some (acts.Publish lane key content with_ref)) rest isnt = refl
taken_behind (Some (acts.Get lane key reply)) rest isnt = refl
taken_behind (Some (acts.Release lane key)) rest isnt = refl
taken_behind (Some (acts.Clear lane key reply)) rest isnt = refl
taken_behind (Some (acts.Reclaim lane key)) rest isnt = refl
taken_behind (Some (acts.Home lane place)) rest isnt = refl
taken_behind (Some (acts.Collect lane places)) rest isnt = absurd isnt

call_takes_none : (c : Caller) (call : Call) (before steps : List Step) (made : List Act) → NoCreate (Some call) → AreSteps c call before steps
    → AreMade c call steps made → taken made ≡ []
call_takes_none c call before [] made isnt s m = ap taken m
call_takes_none c call before (step ∷ more) made isnt s (act, rest, is, e, m) =
    ap taken e ∙ (taken_behind act rest (kind_no_collect step.kind c call is.links step.word step.before act
    (next_no_take c call before (aim step.kind step.word) isnt s.0) is.makes)
    ∙ call_takes_none c call (before ++ step ∷ []) more rest isnt s.1 m)

-- a call that is no create has taken no chain
pub takes_none : (c : Caller) (o : Option Call) (steps : List Step) (made : List Act) → NoCreate o → HasMade c o steps made → taken made ≡ []
takes_none c None steps made isnt h = ap taken h.1
takes_none c (Some call) steps made isnt h = call_takes_none c call [] steps made isnt h.0 h.1

follows_none : (c : Caller) (call : Call) (step : Step) (made : List Act) (kind : Kind) → kind ≡ step.kind
    → AreMade c call (step ∷ []) made → NoTake kind → taken made ≡ []
follows_none c call step made kind same (act, rest, is, e, m) isnt =
    ap taken e ∙ (taken_behind act rest
    (kind_no_collect step.kind c call is.links step.word step.before act (subst NoTake same isnt) is.makes) ∙ ap taken m)

-- a create takes a chain only where it has neither a place of its own nor a chain
pub create_takes : (c : Caller) (own chain : List ℕ) (opened : ℕ) (steps : List Step) (made : List Act)
    → HasMade c (Some (Creating own chain opened)) steps made
    → (own ++ chain ≡ [] → ⊥) → taken made ≡ []
create_takes c (p ∷ own) chain opened [] made h some = ap taken h.1
create_takes c (p ∷ own) chain opened (step ∷ more) made h some = absurd (cc h.0.0)
create_takes c [] (p ∷ chain) opened [] made h some = ap taken h.1
create_takes c [] (p ∷ chain) opened (step ∷ []) made h some =
    follows_none c (Creating [] (p ∷ chain) opened) step made kinds.Follow
    (same_kind (aim kinds.Follow (Link p)) (aim step.kind step.word) h.0.0) h.1 tt
create_takes c [] (p ∷ chain) opened (step ∷ next ∷ more) made h some = absurd (cc h.0.1.0)
create_takes c [] [] opened steps made h some = absurd (some refl)
