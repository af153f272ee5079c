-- Replies that change registers alone.
use Rattle.std.proofs.Common.{◌≡◌, ◌≢◌, ℕ, zero, suc, ◌+◌, ◌-◌, ◌<◌, ◌≤◌, Bool, true, false, cond, List, [], ◌∷◌, ◌++◌, length, set, take, drop, Option, Some, None, is_some, refl, ap, sym, ◌∙◌, subst, arith, eq-eqb, ne_eqb, length-set, append-nil}
use Rattle.std.specs.List.{flat_map}
use Rattle.std.proofs.lemmas.List.{drop-drop}
use Rattle.std.proofs.lemmas.Grind.{flat_map-append}
use Rattle.std.proofs.Math.Seq.{take-add}
use mathlib.Core.Logic.{dite}
use native.Mathlib.Decide.{ℕ_discrete}
use Rattle.keybits.specs.declared.shape.Shape.{Shape}
use Rattle.keybits.specs.declared.step.Kind.{Kind}
use Rattle.keybits.specs.declared.step.Kind.TheVariants as kinds
use Rattle.keybits.specs.declared.step.Word.TheVariants.{Life}
use Rattle.keybits.specs.declared.step.Step.{Step}
use Rattle.keybits.specs.Shapes.{is_place}
use Rattle.keybits.specs.Keys.{place_of, is_key}
use Rattle.keybits.proofs.KeyLemmas.{key_parts}
use Rattle.seqpool.specs.declared.act.Act.{Act}
use Rattle.seqpool.specs.declared.act.Act.TheVariants as acts
use Rattle.seqpool.specs.Pool.{Pool, Phase, with, published, home, retired, is_current, references_in, references, pool_after}
use Rattle.seqpool.proofs.Ranks.{current-key}
use Rattle.steplaws.specs.Calls.{Call, Getting, Caller, Aim, aim, is_hit, end_next, next_step, AreSteps}
use Rattle.traces.specs.declared.script.Register.{Register}
use Rattle.traces.specs.declared.script.Operand.{Operand}
use Rattle.traces.specs.declared.script.Command.{Command}
use Rattle.traces.specs.declared.script.Command.TheVariants as commands
use Rattle.traces.specs.declared.reply.Reply.{Reply}
use Rattle.traces.specs.declared.reply.Reply.TheVariants as replies
use Rattle.traces.specs.declared.registers.RegisterState.{RegisterState}
use Rattle.traces.specs.declared.registers.Holding.{Holding}
use Rattle.traces.specs.declared.registers.Holding.TheVariants as holdings
use Rattle.traces.specs.Registers.{register_with, register_at, operand_key}
use Rattle.traces.specs.Books.{Book, caller, call_of, call_of_first, call_under_way, publishing, releasing, getting, clearing, holding_at, next_in, next_aim, taken, shown, cleared, act_list, reclaimed, of_shard, written, kept, got, registers_after, Free, free_with, free_after}
use Rattle.traces.specs.Following.{row_content, HasContent, get_reply, WhereEmpty, WhereFilling, WhereReference, WhereKey, CommandReplies}
use Rattle.traces.specs.Lawful.{World}
use Rattle.traces.specs.Keeping.{IsKept}
use Rattle.traces.specs.Making.{AreMade, HasMade}
use Rattle.traces.proofs.Idles.{NoCreate, takes_none}
use Rattle.traces.proofs.StepCalls.{reference_facts, is_end, end_kind, next_where, next_unless}
use Rattle.traces.proofs.CallActs.{EndSteps, get_steps, made_by, shown_as, hidden_as}
use Rattle.traces.proofs.TurnLawsRegisters.{register_at-same, register_at-other}
use Rattle.coresteps.specs.declared.lane.Lane.{Lane}
use Rattle.coresteps.specs.declared.progress.Held.{Held}
use Rattle.coresteps.specs.declared.progress.Held.TheVariants as held
use Rattle.coresteps.specs.declared.progress.KeptRegister.{KeptRegister}
use Rattle.coresteps.specs.declared.progress.Progress.{Progress}
use Rattle.coresteps.specs.Lanes.{written_by, written_since, slot_at, IsHeld, IsSlot, AreSlots, last_step, IsChained}
use Rattle.coresteps.specs.Kept.{IsLaneAt, IsReplied}

-- ---- lists

-- one slot is set
pub slot_at-same : (xs : List KeptRegister) (i : ℕ) (y : KeptRegister) → i < length xs → slot_at (set xs i y) i ≡ y
slot_at-same [] i y inside = absurd (omega arith)
slot_at-same (x ∷ xs) zero y inside = refl
slot_at-same (x ∷ xs) (suc i) y inside = slot_at-same xs i y (omega arith)

pub slot_at-other : (xs : List KeptRegister) (i j : ℕ) (y : KeptRegister) → j ≢ i → slot_at (set xs i y) j ≡ slot_at xs j
slot_at-other [] zero j y other = refl
slot_at-other [] (suc i) j y other = refl
slot_at-other (x ∷ xs) zero zero y other = absurd (other refl)
slot_at-other (x ∷ xs) zero (suc j) y other = refl
slot_at-other (x ∷ xs) (suc i) zero y other = refl
slot_at-other (x ∷ xs) (suc i) (suc j) y other = slot_at-other xs i j y (λ e. other (ap (λ (k : ℕ). suc k) e))

-- one element more is taken
flat_map-one : {A : Type 0} (f : Command → List A) (n : ℕ) (xs more : List Command) (x : Command) → drop n xs ≡ x ∷ more
    → flat_map f (take (n + 1) xs) ≡ flat_map f (take n xs) ++ f x
flat_map-one f n xs more x at =
    ap (flat_map f) (take-add n 1 xs) ∙ flat_map-append f (take n xs) (take 1 (drop n xs))
    ∙ ap (λ (ys : List Command). flat_map f (take n xs) ++ flat_map f (take 1 ys)) at
    ∙ ap (λ (bytes : List _). flat_map f (take n xs) ++ bytes) (append-nil (f x))

-- what was written grows by what the next command writes
pub written_since-more : (script more : List Command) (created done number : ℕ) (command : Command) → created ≤ done → drop done script ≡ command ∷ more
    → written_since script created (done + 1) number ≡ written_since script created done number ++ written_by number command
written_since-more script more created done number command before at =
    let n : done + 1 - created ≡ done - created + 1 = omega arith in
    let same : created + (done - created) ≡ done = omega arith in
    let next : drop (done - created) (drop created script) ≡ command ∷ more
    = drop-drop (done - created) created script ∙ ap (λ (k : ℕ). drop k script) same ∙ at in
    ap (λ (k : ℕ). flat_map (written_by number) (take k (drop created script))) n
    ∙ flat_map-one (written_by number) (done - created) (drop created script) more command next

-- ---- slots

-- no bytes change nothing
written_none : (h : Holding) → written [] h ≡ h
written_none holdings.Empty = refl
written_none (holdings.Filling key content) = ap (holdings.Filling key) (append-nil content)
written_none (holdings.Reference key content) = refl

-- what isn't a filling isn't written
abbrev pub NoFilling : Held → Type 0
NoFilling held.Empty = Unit {0}
NoFilling (held.Filling key created) = ⊥
NoFilling (held.Reference key) = Unit {0}

written_not : (script : List Command) (done number : ℕ) (bytes : List ℕ) (h : Held) (holding : Holding) → NoFilling h → IsHeld script done number h holding
    → written bytes holding ≡ holding
written_not script done number bytes held.Empty holding isnt is = ap (written bytes) is ∙ sym is
written_not script done number bytes (held.Filling key created) holding isnt is = absurd isnt
written_not script done number bytes (held.Reference key) holding isnt is = ap (written bytes) is.1 ∙ sym is.1

module _ (script : List Command) (done : ℕ) (command : Command) (more : List Command) (next : drop done script ≡ command ∷ more) where
  -- what is held, one command later
  held_next : (number : ℕ) (h : Held) (holding : Holding) → IsHeld script done number h holding
      → IsHeld script (done + 1) number h (written (written_by number command) holding)
  held_next number held.Empty holding is = ap (written (written_by number command)) is
  held_next number (held.Filling key created) holding is = (
    let before = is.0 in omega arith,
    ap (written (written_by number command)) is.1
        ∙ ap (holdings.Filling key) (sym (written_since-more script more created done number command is.0 next)),
  )
  held_next number (held.Reference key) holding is = (is.0, ap (written (written_by number command)) is.1)

  module _ (slots : List KeptRegister) (registers : List RegisterState) (are : AreSlots script done slots registers) where
    -- the slots stand for the registers, in each of which the command's bytes for it are written
    pub slots_next : (after : List RegisterState) → length after ≡ 16
        → ((number : ℕ) → number < 16 → ((register_at after number).last_key ≡ (register_at registers number).last_key)
        × ((register_at after number).holding ≡ written (written_by number command) (register_at registers number).holding))
        → AreSlots script (done + 1) slots after
    slots_next after registers_count each = record {
      count = are.count;
      register_count = registers_count;
      each = λ number small. let was = are.each number small in let is = each number small in (
        was.0 ∙ sym is.0,
        subst (IsHeld script (done + 1) number (slot_at slots number).held) (sym is.1)
            (held_next number (slot_at slots number).held (register_at registers number).holding was.1),
      );
    }

    -- a command that writes nothing leaves them
    pub slots_stay : ((number : ℕ) → written_by number command ≡ []) → AreSlots script (done + 1) slots registers
    slots_stay none = slots_next registers are.register_count (λ number small. (
      refl,
      sym (ap (λ (bytes : List ℕ). written bytes (register_at registers number).holding) (none number)
          ∙ written_none (register_at registers number).holding),
    ))

    -- one that writes nothing may set one of them
    pub slots_set : ((number : ℕ) → written_by number command ≡ []) → (i : ℕ) → i < 16 → (slot : KeptRegister) (register : RegisterState)
        → IsSlot script (done + 1) i slot register → AreSlots script (done + 1) (set slots i slot) (set registers i register)
    slots_set none i small slot register is = record {
      count = length-set slots i slot ∙ are.count;
      register_count = length-set registers i register ∙ are.register_count;
      each = λ number below. dite (ℕ_discrete number i)
          (λ same. let count = are.count in let registers_count = are.register_count in
          let a : slot_at (set slots i slot) number ≡ slot = ap (slot_at (set slots i slot)) same ∙ slot_at-same slots i slot (omega arith) in
          let b : register_at (set registers i register) number ≡ register
          = ap (register_at (set registers i register)) same ∙ register_at-same registers i register (omega arith) in
          subst (λ (k : ℕ). IsSlot script (done + 1) k (slot_at (set slots i slot) number) (register_at (set registers i register) number)) (sym same)
          (subst (λ (s : KeptRegister). IsSlot script (done + 1) i s (register_at (set registers i register) number)) (sym a)
          (subst (IsSlot script (done + 1) i slot) (sym b) is)))
          (λ other. subst (λ (s : KeptRegister). IsSlot script (done + 1) number s (register_at (set registers i register) number))
          (sym (slot_at-other slots i number slot other))
          (subst (IsSlot script (done + 1) number (slot_at slots number)) (sym (register_at-other registers i number register other))
          ((slots_stay none).each number below)));
    }

-- ---- a write

-- the bytes for the register that a write names, and for another
written_by-same : (number : ℕ) (register : Register) (bytes : List ℕ) → register.number ≡ number → written_by number (commands.Write register bytes) ≡ bytes
written_by-same number register bytes same = ap (λ (b : Bool). cond b bytes []) (eq-eqb register.number number same)

written_by-other : (number : ℕ) (register : Register) (bytes : List ℕ) → register.number ≢ number → written_by number (commands.Write register bytes) ≡ []
written_by-other number register bytes other = ap (λ (b : Bool). cond b bytes []) (ne_eqb register.number number other)

module _ (script : List Command) (done : ℕ) (register : Register) (bytes : List ℕ) (more : List Command)
    (next : drop done script ≡ commands.Write register bytes ∷ more) (slots : List KeptRegister) (registers : List RegisterState)
    (are : AreSlots script done slots registers) (small : register.number < 16) where
  abbrev was : RegisterState
  was = register_at registers register.number

  abbrev now : RegisterState
  now = register_with (written bytes was.holding) was.last_key

  -- the bytes go to the filling of the register
  pub slots_written : AreSlots script (done + 1) slots (set registers register.number now)
  slots_written = slots_next script done (commands.Write register bytes) more next slots registers are (set registers register.number now)
      (length-set registers register.number now ∙ are.register_count)
      (λ number below. dite (ℕ_discrete register.number number)
      (λ same. let count = are.register_count in
      let here : register_at (set registers register.number now) number ≡ now
      = ap (register_at (set registers register.number now)) (sym same) ∙ register_at-same registers register.number now (omega arith) in (
        ap (λ (r : RegisterState). r.last_key) here ∙ ap (λ (k : ℕ). (register_at registers k).last_key) same,
        ap (λ (r : RegisterState). r.holding) here ∙ ap (λ (k : ℕ). written bytes (register_at registers k).holding) same
            ∙ ap (λ (text : List ℕ). written text (register_at registers number).holding) (sym (written_by-same number register bytes same)),
      ))
      (λ other.
      let there : register_at (set registers register.number now) number ≡ register_at registers number
      = register_at-other registers register.number number now (λ e. other (sym e)) in (
        ap (λ (r : RegisterState). r.last_key) there,
        ap (λ (r : RegisterState). r.holding) there ∙ sym (written_none (register_at registers number).holding)
            ∙ ap (λ (text : List ℕ). written text (register_at registers number).holding) (sym (written_by-other number register bytes other)),
      )))

  -- where the register has no filling nothing changes
  pub slots_unwritten : NoFilling (slot_at slots register.number).held → AreSlots script (done + 1) slots registers
  slots_unwritten none = slots_next script done (commands.Write register bytes) more next slots registers are registers are.register_count
      (λ number below. (
        refl,
        dite (ℕ_discrete register.number number)
            (λ same. sym (written_not script done number (written_by number (commands.Write register bytes)) (slot_at slots number).held
            (register_at registers number).holding (subst (λ (k : ℕ). NoFilling (slot_at slots k).held) same none) (are.each number below).1))
            (λ other. sym (ap (λ (text : List ℕ). written text (register_at registers number).holding) (written_by-other number register bytes other)
            ∙ written_none (register_at registers number).holding)),
      ))

-- ---- what a lane holds

-- a reference of a lane is to a key that is in the map
content_of : (f : Phase) (lane : ℕ) → 0 < references_in f lane → (content : List ℕ) × (row_content f ≡ Some content)
content_of (with k) lane some = absurd (omega arith)
content_of (published content refs mark) lane some = (content, refl)
content_of home lane some = absurd (omega arith)
content_of retired lane some = absurd (omega arith)

has_content : (z : Shape) (pool : Pool) (lane key : ℕ) → 0 < references z pool lane key → (content : List ℕ) × HasContent z pool key content
has_content z pool lane key some = by_test (is_current z pool key) refl some
  where
    by_test : (t : Bool) → is_current z pool key ≡ t → 0 < cond t (references_in (pool (place_of key)).phase lane) 0
        → (content : List ℕ) × HasContent z pool key content
    by_test true now some = let c = content_of (pool (place_of key)).phase lane some in (c.0, (now, c.1))
    by_test false now some = absurd (omega arith)

-- which variants a slot doesn't hold
abbrev pub NoEmpty : Held → Type 0
NoEmpty held.Empty = ⊥
NoEmpty (held.Filling key created) = Unit {0}
NoEmpty (held.Reference key) = Unit {0}

abbrev pub NoReference : Held → Type 0
NoReference held.Empty = Unit {0}
NoReference (held.Filling key created) = Unit {0}
NoReference (held.Reference key) = ⊥

no_empty : (h : Held) → (h ≡ held.Empty → ⊥) → NoEmpty h
no_empty held.Empty isnt = isnt refl
no_empty (held.Filling key created) isnt = tt
no_empty (held.Reference key) isnt = tt

no_filling : (h : Held) → ((key created : ℕ) → h ≡ held.Filling key created → ⊥) → NoFilling h
no_filling held.Empty isnt = tt
no_filling (held.Filling key created) isnt = isnt key created refl
no_filling (held.Reference key) isnt = tt

no_reference : (h : Held) → ((key : ℕ) → h ≡ held.Reference key → ⊥) → NoReference h
no_reference held.Empty isnt = tt
no_reference (held.Filling key created) isnt = tt
no_reference (held.Reference key) isnt = isnt key refl

module _ (script : List Command) (done number : ℕ) where
  where_not_empty : (h : Held) (holding : Holding) (Says : Type 0) → NoEmpty h → IsHeld script done number h holding
      → WhereEmpty holding replies.Skip Says
  where_not_empty held.Empty holding Says isnt is = absurd isnt
  where_not_empty (held.Filling key created) holding Says isnt is = subst (λ (h : Holding). WhereEmpty h replies.Skip Says) (sym is.1) refl
  where_not_empty (held.Reference key) holding Says isnt is = subst (λ (h : Holding). WhereEmpty h replies.Skip Says) (sym is.1) refl

  where_no_filling : (h : Held) (holding : Holding) (Says : ℕ → Type 0) → NoFilling h → IsHeld script done number h holding
      → WhereFilling holding replies.Skip Says
  where_no_filling held.Empty holding Says isnt is = subst (λ (h : Holding). WhereFilling h replies.Skip Says) (sym is) refl
  where_no_filling (held.Filling key created) holding Says isnt is = absurd isnt
  where_no_filling (held.Reference key) holding Says isnt is = subst (λ (h : Holding). WhereFilling h replies.Skip Says) (sym is.1) refl

  where_no_reference : (h : Held) (holding : Holding) (Says : ℕ → Type 0) → NoReference h → IsHeld script done number h holding
      → WhereReference holding replies.Skip Says
  where_no_reference held.Empty holding Says isnt is = subst (λ (h : Holding). WhereReference h replies.Skip Says) (sym is) refl
  where_no_reference (held.Filling key created) holding Says isnt is = subst (λ (h : Holding). WhereReference h replies.Skip Says) (sym is.1) refl
  where_no_reference (held.Reference key) holding Says isnt is = absurd isnt

-- ---- what a get has shown

-- no step of an END is an ENTER
no_enter : (kind : Kind) → kind ≡ kinds.Enter → is_end kind ≡ true → ⊥
no_enter kind e is = let bad : is_end kinds.Enter ≡ true = sym (ap is_end e) ∙ is in cc bad

end_last : (c : Caller) (place : ℕ) (made more : List Step) (step : Step) → EndSteps c place made more → last_step more ≡ Some step
    → step.kind ≡ kinds.Enter → ⊥
end_last c place made [] step ends last enters = cc last
end_last c place made (only ∷ []) step ends last enters =
    let same : only ≡ step = cc last in
    no_enter only.kind (ap (λ (s : Step). s.kind) same ∙ enters) (end_kind c place made only.kind only.word ends.0)
end_last c place made (first ∷ next ∷ more) step ends last enters = end_last c place (made ++ first ∷ []) (next ∷ more) step ends.1 last enters

module _ (c : Caller) (key : ℕ) where
  entered : (enter : Step) → next_step c (Getting key) [] ≡ Some (aim enter.kind enter.word) → (is_key c.shape key ≡ true) × (kinds.Enter ≡ enter.kind)
  entered enter e = let found = next_where (is_key c.shape key) (aim kinds.Enter (Life (place_of key))) (aim enter.kind enter.word) e in
      (found.0, ap (λ (a : Aim). a.kind) found.1)

  -- a call that went on after its ENTER missed
  missed : (enter next : Step) (more : List Step) → AreSteps c (Getting key) [] (enter ∷ next ∷ more) → is_hit key enter.before ≡ false
  missed enter next more steps = (next_unless (is_hit key enter.before) (end_next c (place_of key) []) (aim next.kind next.word) steps.1.0).0

  -- where its last step is an ENTER a get shows a content
  pub get_shown : (steps : List Step) (made : List Act) (step : Step) → AreSteps c (Getting key) [] steps → AreMade c (Getting key) steps made
      → next_step c (Getting key) steps ≡ None → last_step steps ≡ Some step → step.kind ≡ kinds.Enter
      → (content : List ℕ) × (shown made ≡ Some content) × (is_key c.shape key ≡ true)
  get_shown [] made step are is over last enters = absurd (cc last)
  get_shown (enter ∷ []) made step are (act, rest, is, e, m) over last enters = by_test (is_hit key enter.before) refl over
    where
      begun : (is_key c.shape key ≡ true) × (kinds.Enter ≡ enter.kind)
      begun = entered enter are.0

      makes : (reply : Option (List ℕ)) × (is_some reply ≡ is_hit key enter.before) × (act ≡ Some (acts.Get c.lane key reply))
      makes = made_by c (Getting key) enter act kinds.Enter (sym begun.1) is

      by_test : (t : Bool) → is_hit key enter.before ≡ t → cond t None (end_next c (place_of key) []) ≡ None
          → (content : List ℕ) × (shown made ≡ Some content) × (is_key c.shape key ≡ true)
      by_test true hit over = let told = shown_as makes.0 (makes.1 ∙ hit) in (
        told.0,
        ap shown e ∙ (λ i. shown (act_list (makes.2 i) ++ rest)) ∙ told.1,
        begun.0,
      )
      by_test false miss over = absurd (cc over)
  get_shown (enter ∷ next ∷ more) made step are is over last enters =
      absurd (end_last c (place_of key) [] (next ∷ more) step
      (get_steps c key enter (missed enter next more are) [] (next ∷ more) are.1) last enters)

  -- and else it shows none
  pub get_hidden : (steps : List Step) (made : List Act) → AreSteps c (Getting key) [] steps → AreMade c (Getting key) steps made
      → ((step : Step) → last_step steps ≡ Some step → step.kind ≡ kinds.Enter → ⊥) → shown made ≡ None
  get_hidden [] made are is hidden = ap shown is
  get_hidden (enter ∷ []) made are is hidden = absurd (hidden enter refl (sym (entered enter are.0).1))
  get_hidden (enter ∷ next ∷ more) made are (act, rest, is, e, m) hidden =
      let begun = entered enter are.0 in
      let makes : (reply : Option (List ℕ)) × (is_some reply ≡ is_hit key enter.before) × (act ≡ Some (acts.Get c.lane key reply))
      = made_by c (Getting key) enter act kinds.Enter (sym begun.1) is in
      ap shown e ∙ (λ i. shown (act_list (makes.2 i) ++ rest)) ∙ hidden_as makes.0 (makes.1 ∙ missed enter next more are)

-- ---- replies

-- a command that is no create
abbrev pub IsNoCreate : Command → Type 0
IsNoCreate (commands.Create register) = ⊥
IsNoCreate command = Unit {0}

-- one that is no write either
abbrev pub IsNoWrite : Command → Type 0
IsNoWrite (commands.Create register) = ⊥
IsNoWrite (commands.Write register bytes) = ⊥
IsNoWrite command = Unit {0}

writes_none : (command : Command) → IsNoWrite command → (number : ℕ) → written_by number command ≡ []
writes_none (commands.Create register) isnt number = refl
writes_none (commands.Write register bytes) isnt number = absurd isnt
writes_none (commands.Publish register) isnt number = refl
writes_none (commands.Downgrade register) isnt number = refl
writes_none (commands.Get register operand) isnt number = refl
writes_none (commands.Read register) isnt number = refl
writes_none (commands.Release register) isnt number = refl
writes_none (commands.Clear operand) isnt number = refl

-- its call is none of a create
pub no_create : (b : Book) (command : Command) → IsNoCreate command → NoCreate (call_of b command)
no_create b (commands.Create register) isnt = absurd isnt
no_create b (commands.Write register bytes) isnt = tt
no_create b (commands.Publish register) isnt = by_holding (holding_at b register.number)
  where
    by_holding : (h : Holding) → NoCreate (publishing false h)
    by_holding holdings.Empty = tt
    by_holding (holdings.Filling key content) = tt
    by_holding (holdings.Reference key content) = tt
no_create b (commands.Downgrade register) isnt = by_holding (holding_at b register.number)
  where
    by_holding : (h : Holding) → NoCreate (publishing true h)
    by_holding holdings.Empty = tt
    by_holding (holdings.Filling key content) = tt
    by_holding (holdings.Reference key content) = tt
no_create b (commands.Get register operand) isnt = by_key (operand_key b.registers operand) (holding_at b register.number)
  where
    by_key : (o : Option ℕ) (h : Holding) → NoCreate (getting o h)
    by_key None h = tt
    by_key (Some key) holdings.Empty = tt
    by_key (Some key) (holdings.Filling at content) = tt
    by_key (Some key) (holdings.Reference at content) = tt
no_create b (commands.Read register) isnt = tt
no_create b (commands.Release register) isnt = by_holding (holding_at b register.number)
  where
    by_holding : (h : Holding) → NoCreate (releasing h)
    by_holding holdings.Empty = tt
    by_holding (holdings.Filling key content) = tt
    by_holding (holdings.Reference key content) = tt
no_create b (commands.Clear operand) isnt = by_key (operand_key b.registers operand)
  where
    by_key : (o : Option ℕ) → NoCreate (clearing o)
    by_key None = tt
    by_key (Some key) = tt

free_same : (z : Shape) (lane : ℕ) (b : Book) (command : Command) (reply : Reply) → IsNoCreate command
    → free_after z lane b command reply ≡ free_with b.own b.chain b.opened
free_same z lane b (commands.Create register) reply isnt = absurd isnt
free_same z lane b (commands.Write register bytes) reply isnt = refl
free_same z lane b (commands.Publish register) reply isnt = refl
free_same z lane b (commands.Downgrade register) reply isnt = refl
free_same z lane b (commands.Get register operand) reply isnt = refl
free_same z lane b (commands.Read register) reply isnt = refl
free_same z lane b (commands.Release register) reply isnt = refl
free_same z lane b (commands.Clear operand) reply isnt = refl

module _ (z : Shape) (w : World) (number : ℕ) (lane : Lane) (more : List Command) (facts : IsKept z w) (below : number < z.lanes) (p : Progress)
    (at : IsLaneAt z w.history number lane p (w.books number)) where
  abbrev the_book : Book
  the_book = w.books number

  abbrev the_pool : Pool
  the_pool = pool_after z w.history

  abbrev Replies : Command → Reply → Progress → Type 0
  Replies command reply new = CommandReplies z the_pool number the_book command reply × IsReplied z w.history number lane the_book command reply p new

  -- the progress that a register's setting leaves
  becomes : (command : Command) (reply : Reply) (set_one new : Progress) → new ≡ set_one → Replies command reply set_one → Replies command reply new
  becomes command reply set_one new same = subst (Replies command reply) (sym same)

  -- the lists stay
  replied : (command : Command) → IsNoCreate command → the_book.left ≡ command ∷ more → (reply : Reply) (slots : List KeptRegister)
      → AreSlots lane.script (p.done + 1) slots (registers_after the_book command reply)
      → IsReplied z w.history number lane the_book command reply p (record p { slots = slots })
  replied command isnt left reply slots are =
      let free = free_same z number the_book command reply isnt in
      let none : taken the_book.acts ≡ [] = takes_none (caller z number the_book) (call_under_way the_book) the_book.steps the_book.acts
      (subst (λ (o : List Command). NoCreate (call_of_first the_book o)) (sym left) (no_create the_book command isnt))
      (facts.holds.owned number below).call in
      record {
        done = refl;
        slots = are;
        list = at.list;
        own = at.own ∙ ap (λ (f : Free). f.own ++ of_shard number (reclaimed z.last_generation the_book.acts)) (sym free);
        chain = subst (IsChained w.history p.chain)
            (ap (λ (places : List ℕ). the_book.chain ++ places) none ∙ append-nil the_book.chain ∙ ap (λ (f : Free). f.chain) (sym free)) at.chain;
        opened = at.opened ∙ ap (λ (f : Free). f.opened) (sym free);
        pushed = refl;
        most = refl;
        settled = λ e. e;
      }

  -- the registers stay too
  stays : (command : Command) → IsNoCreate command → IsNoWrite command → the_book.left ≡ command ∷ more → (reply : Reply)
      → registers_after the_book command reply ≡ the_book.registers → IsReplied z w.history number lane the_book command reply p p
  stays command isnt writes left reply same = replied command isnt left reply p.slots
      (subst (AreSlots lane.script (p.done + 1) p.slots) (sym same)
      (slots_stay lane.script p.done command more (at.left ∙ left) p.slots the_book.registers at.slots (writes_none command writes)))

  module _ (register : Register) where
    abbrev mine : KeptRegister
    mine = slot_at p.slots register.number

    abbrev theirs : RegisterState
    theirs = register_at the_book.registers register.number

    -- a register is set, and the others stay
    sets : (command : Command) → IsNoCreate command → IsNoWrite command → the_book.left ≡ command ∷ more → register.number < 16
        → (reply : Reply) (slot : KeptRegister) (state : RegisterState) → registers_after the_book command reply ≡ set the_book.registers register.number state
        → IsSlot lane.script (p.done + 1) register.number slot state
        → IsReplied z w.history number lane the_book command reply p (record p { slots = set p.slots register.number slot })
    sets command isnt writes left small reply slot state same is = replied command isnt left reply (set p.slots register.number slot)
        (subst (AreSlots lane.script (p.done + 1) (set p.slots register.number slot)) (sym same)
        (slots_set lane.script p.done command more (at.left ∙ left) p.slots the_book.registers at.slots (writes_none command writes)
        register.number small slot state is))

    -- what the register holds, where the slot holds this
    holds : register.number < 16 → (slot : KeptRegister) → slot ≡ mine → (h : Held) → slot.held ≡ h
        → IsHeld lane.script p.done register.number h (holding_at the_book register.number)
    holds small slot same h e = subst (λ (x : Held). IsHeld lane.script p.done register.number x (holding_at the_book register.number))
        (sym (ap (λ (s : KeptRegister). s.held) same) ∙ e) (at.slots.each register.number small).1

    holds_own : register.number < 16 → (slot : KeptRegister) → slot ≡ mine
        → IsHeld lane.script p.done register.number slot.held (holding_at the_book register.number)
    holds_own small slot same = holds small slot same slot.held refl

    last_key : register.number < 16 → (slot : KeptRegister) → slot ≡ mine → slot.last_key ≡ theirs.last_key
    last_key small slot same = ap (λ (s : KeptRegister). s.last_key) same ∙ (at.slots.each register.number small).0

    -- ---- of each command

    module _ (small : register.number < 16) (slot : KeptRegister) (same : slot ≡ mine) where
      pub write_done : (bytes : List ℕ) (key created : ℕ) → slot.held ≡ held.Filling key created
          → the_book.left ≡ commands.Write register bytes ∷ more → Replies (commands.Write register bytes) replies.Done p
      write_done bytes key created e left = (
        subst (λ (h : Holding). WhereFilling h replies.Done (λ key. replies.Done ≡ replies.Done))
            (sym (holds small slot same (held.Filling key created) e).1) refl,
        replied (commands.Write register bytes) tt left replies.Done p.slots
            (slots_written lane.script p.done register bytes more (at.left ∙ left) p.slots the_book.registers at.slots small),
      )

      pub write_skips : (bytes : List ℕ) → ((key created : ℕ) → slot.held ≡ held.Filling key created → ⊥)
          → the_book.left ≡ commands.Write register bytes ∷ more → Replies (commands.Write register bytes) replies.Skip p
      write_skips bytes isnt left = let none = no_filling slot.held isnt in (
        where_no_filling lane.script p.done register.number slot.held (holding_at the_book register.number)
            (λ key. replies.Skip ≡ replies.Done) none (holds_own small slot same),
        replied (commands.Write register bytes) tt left replies.Skip p.slots
            (slots_unwritten lane.script p.done register bytes more (at.left ∙ left) p.slots the_book.registers at.slots small
            (subst (λ (s : KeptRegister). NoFilling s.held) same none)),
      )

      pub publish_done : (key created : ℕ) → slot.held ≡ held.Filling key created → the_book.left ≡ commands.Publish register ∷ more
          → (new : Progress) → new ≡ record p { slots = set p.slots register.number (record { held = held.Empty; last_key = slot.last_key }) }
          → Replies (commands.Publish register) (replies.Key key) new
      publish_done key created e left new is_new = becomes (commands.Publish register) (replies.Key key)
          (record p { slots = set p.slots register.number (record { held = held.Empty; last_key = slot.last_key }) }) new is_new (
            subst (λ (h : Holding). WhereFilling h (replies.Key key) (λ at. replies.Key key ≡ replies.Key at))
                (sym (holds small slot same (held.Filling key created) e).1) refl,
            sets (commands.Publish register) tt tt left small (replies.Key key) (record { held = held.Empty; last_key = slot.last_key })
                (register_with holdings.Empty theirs.last_key) refl (last_key small slot same, refl),
          )

      pub publish_skips : ((key created : ℕ) → slot.held ≡ held.Filling key created → ⊥) → the_book.left ≡ commands.Publish register ∷ more
          → Replies (commands.Publish register) replies.Skip p
      publish_skips isnt left = (
        where_no_filling lane.script p.done register.number slot.held (holding_at the_book register.number)
            (λ key. replies.Skip ≡ replies.Key key) (no_filling slot.held isnt) (holds_own small slot same),
        stays (commands.Publish register) tt tt left replies.Skip refl,
      )

      pub downgrade_done : (key created : ℕ) → slot.held ≡ held.Filling key created → the_book.left ≡ commands.Downgrade register ∷ more
          → (new : Progress) → new ≡ record p { slots = set p.slots register.number (record { held = held.Reference key; last_key = slot.last_key }) }
          → Replies (commands.Downgrade register) (replies.Key key) new
      downgrade_done key created e left new is_new = let is = holds small slot same (held.Filling key created) e in
          becomes (commands.Downgrade register) (replies.Key key)
          (record p { slots = set p.slots register.number (record { held = held.Reference key; last_key = slot.last_key }) }) new is_new (
            subst (λ (h : Holding). WhereFilling h (replies.Key key) (λ at. replies.Key key ≡ replies.Key at)) (sym is.1) refl,
            sets (commands.Downgrade register) tt tt left small (replies.Key key) (record { held = held.Reference key; last_key = slot.last_key })
                (register_with (kept theirs.holding) theirs.last_key) refl
                (last_key small slot same, (written_since lane.script created p.done register.number, ap kept is.1)),
          )

      pub downgrade_skips : ((key created : ℕ) → slot.held ≡ held.Filling key created → ⊥) → the_book.left ≡ commands.Downgrade register ∷ more
          → Replies (commands.Downgrade register) replies.Skip p
      downgrade_skips isnt left = (
        where_no_filling lane.script p.done register.number slot.held (holding_at the_book register.number)
            (λ key. replies.Skip ≡ replies.Key key) (no_filling slot.held isnt) (holds_own small slot same),
        stays (commands.Downgrade register) tt tt left replies.Skip refl,
      )

      pub release_done : (key : ℕ) → slot.held ≡ held.Reference key → the_book.left ≡ commands.Release register ∷ more
          → (new : Progress) → new ≡ record p { slots = set p.slots register.number (record { held = held.Empty; last_key = slot.last_key }) }
          → Replies (commands.Release register) replies.Done new
      release_done key e left new is_new = becomes (commands.Release register) replies.Done
          (record p { slots = set p.slots register.number (record { held = held.Empty; last_key = slot.last_key }) }) new is_new (
            subst (λ (h : Holding). WhereReference h replies.Done (λ at. replies.Done ≡ replies.Done))
                (sym (holds small slot same (held.Reference key) e).1) refl,
            sets (commands.Release register) tt tt left small replies.Done (record { held = held.Empty; last_key = slot.last_key })
                (register_with holdings.Empty theirs.last_key) refl (last_key small slot same, refl),
          )

      pub release_skips : ((key : ℕ) → slot.held ≡ held.Reference key → ⊥) → the_book.left ≡ commands.Release register ∷ more
          → Replies (commands.Release register) replies.Skip p
      release_skips isnt left = (
        where_no_reference lane.script p.done register.number slot.held (holding_at the_book register.number)
            (λ key. replies.Skip ≡ replies.Done) (no_reference slot.held isnt) (holds_own small slot same),
        stays (commands.Release register) tt tt left replies.Skip refl,
      )

      pub read_skips : ((key : ℕ) → slot.held ≡ held.Reference key → ⊥) → the_book.left ≡ commands.Read register ∷ more
          → Replies (commands.Read register) replies.Skip p
      read_skips isnt left = (
        where_no_reference lane.script p.done register.number slot.held (holding_at the_book register.number)
            (λ key. (content : List ℕ) × HasContent z the_pool key content × (replies.Skip ≡ replies.Content content))
            (no_reference slot.held isnt) (holds_own small slot same),
        stays (commands.Read register) tt tt left replies.Skip refl,
      )

      -- what a read reads is in the map
      pub read_has : (key : ℕ) → slot.held ≡ held.Reference key → the_book.left ≡ commands.Read register ∷ more
          → (content : List ℕ) × HasContent z the_pool key content
      read_has key e left =
          let is = holds small slot same (held.Reference key) e in
          let owned = facts.holds.owned number below in
          let made = subst (λ (o : List Command). HasMade (caller z number the_book) (call_of_first the_book o) the_book.steps the_book.acts) left owned.call in
          has_content z the_pool number key (reference_facts z the_pool number the_book owned made.1 register.number key is.0 is.1)

      pub read_place : (key : ℕ) → slot.held ≡ held.Reference key → the_book.left ≡ commands.Read register ∷ more
          → is_place z (place_of key) ≡ true
      read_place key e left = (key_parts z key (current-key z the_pool key (read_has key e left).1.0).0).place

      pub read_done : (key : ℕ) → slot.held ≡ held.Reference key → (left : the_book.left ≡ commands.Read register ∷ more)
          → (bytes : List ℕ) → ((text : List ℕ) → row_content (the_pool (place_of key)).phase ≡ Some text → bytes ≡ text)
          → Replies (commands.Read register) (replies.Content bytes) p
      read_done key e left bytes is_text =
          let has = read_has key e left in (
            subst (λ (h : Holding). WhereReference h (replies.Content bytes) (λ key.
                (content : List ℕ) × HasContent z the_pool key content × (replies.Content bytes ≡ replies.Content content)))
                (sym (holds small slot same (held.Reference key) e).1) (has.0, has.1, ap replies.Content (is_text has.0 has.1.1)),
            stays (commands.Read register) tt tt left (replies.Content bytes) refl,
          )

      -- a get

      pub get_full : (operand : Operand) → (slot.held ≡ held.Empty → ⊥) → the_book.left ≡ commands.Get register operand ∷ more
          → Replies (commands.Get register operand) replies.Skip p
      get_full operand isnt left = (
        where_not_empty lane.script p.done register.number slot.held (holding_at the_book register.number)
            (WhereKey (operand_key the_book.registers operand) replies.Skip (λ at. replies.Skip ≡ get_reply (shown the_book.acts)))
            (no_empty slot.held isnt) (holds_own small slot same),
        stays (commands.Get register operand) tt tt left replies.Skip refl,
      )

      -- the reply of a get into an empty register, for what its operand names
      says_got : (operand : Operand) (reply : Reply) (named : Option ℕ) → slot.held ≡ held.Empty → operand_key the_book.registers operand ≡ named
          → WhereKey named reply (λ at. reply ≡ get_reply (shown the_book.acts))
          → CommandReplies z the_pool number the_book (commands.Get register operand) reply
      says_got operand reply named e names says =
          subst (λ (h : Holding). WhereEmpty h reply (WhereKey (operand_key the_book.registers operand) reply (λ at. reply ≡ get_reply (shown the_book.acts))))
          (sym (holds small slot same held.Empty e))
          (subst (λ (o : Option ℕ). WhereKey o reply (λ at. reply ≡ get_reply (shown the_book.acts))) (sym names) says)

      pub get_unnamed : (operand : Operand) → slot.held ≡ held.Empty → operand_key the_book.registers operand ≡ None
          → the_book.left ≡ commands.Get register operand ∷ more → Replies (commands.Get register operand) replies.Skip p
      get_unnamed operand e names left =
          (says_got operand replies.Skip None e names refl, stays (commands.Get register operand) tt tt left replies.Skip refl)

      module _ (operand : Operand) (key : ℕ) (e : slot.held ≡ held.Empty) (names : operand_key the_book.registers operand ≡ Some key)
          (left : the_book.left ≡ commands.Get register operand ∷ more) (over : next_aim z number the_book ≡ None) where
        calls : call_under_way the_book ≡ Some (Getting key)
        calls = ap (call_of_first the_book) left ∙ (λ i. getting (names i) (holds small slot same held.Empty e i))

        made : HasMade (caller z number the_book) (Some (Getting key)) the_book.steps the_book.acts
        made = subst (λ (o : Option Call). HasMade (caller z number the_book) o the_book.steps the_book.acts) calls (facts.holds.owned number below).call

        ended : next_step (caller z number the_book) (Getting key) the_book.steps ≡ None
        ended = sym (ap (next_in (caller z number the_book) the_book.steps) calls) ∙ over

        -- where its last step is an ENTER it shows the content of its key
        pub get_text : (step : Step) → p.last ≡ Some step → step.kind ≡ kinds.Enter
            → (content : List ℕ) × (shown the_book.acts ≡ Some content) × (is_place z (place_of key) ≡ true)
            × (row_content (the_pool (place_of key)).phase ≡ Some content)
        get_text step last enters =
            let told = get_shown (caller z number the_book) key the_book.steps the_book.acts step made.0 made.1 ended (sym at.last ∙ last) enters in
            (told.0, told.1, (key_parts z key told.2).place, at.shows key told.0 calls told.1)

        pub get_found : (step : Step) → p.last ≡ Some step → step.kind ≡ kinds.Enter → (bytes : List ℕ)
            → ((text : List ℕ) → row_content (the_pool (place_of key)).phase ≡ Some text → bytes ≡ text)
            → (new : Progress) → new ≡ record p { slots = set p.slots register.number (record { held = held.Reference key; last_key = Some key }) }
            → Replies (commands.Get register operand) (replies.Found bytes) new
        get_found step last enters bytes is_text new is_new =
            let text = get_text step last enters in
            becomes (commands.Get register operand) (replies.Found bytes)
            (record p { slots = set p.slots register.number (record { held = held.Reference key; last_key = Some key }) }) new is_new (
              says_got operand (replies.Found bytes) (Some key) e names (ap replies.Found (is_text text.0 text.3) ∙ sym (ap get_reply text.1)),
              sets (commands.Get register operand) tt tt left small (replies.Found bytes) (record { held = held.Reference key; last_key = Some key })
                  (register_with (holdings.Reference key bytes) (Some key))
                  (ap (λ (o : Option ℕ). set the_book.registers register.number (got o bytes theirs)) names) (refl, (bytes, refl)),
            )

        -- and else it misses
        pub get_missing : ((step : Step) → p.last ≡ Some step → step.kind ≡ kinds.Enter → ⊥) → Replies (commands.Get register operand) replies.Missing p
        get_missing isnt =
            let none : shown the_book.acts ≡ None = get_hidden (caller z number the_book) key the_book.steps the_book.acts made.0 made.1
            (λ step last. isnt step (at.last ∙ last)) in (
              says_got operand replies.Missing (Some key) e names (sym (ap get_reply none)),
              stays (commands.Get register operand) tt tt left replies.Missing refl,
            )

  -- a clear

  pub clear_done : (operand : Operand) (key : ℕ) → Some key ≡ operand_key the_book.registers operand → the_book.left ≡ commands.Clear operand ∷ more
      → Replies (commands.Clear operand) (replies.Cleared p.cleared) p
  clear_done operand key names left = (
    subst (λ (o : Option ℕ). WhereKey o (replies.Cleared p.cleared) (λ at. replies.Cleared p.cleared ≡ replies.Cleared (cleared the_book.acts))) names
        (ap replies.Cleared at.cleared),
    stays (commands.Clear operand) tt tt left (replies.Cleared p.cleared) refl,
  )

  pub clear_skips : (operand : Operand) → None ≡ operand_key the_book.registers operand → the_book.left ≡ commands.Clear operand ∷ more
      → Replies (commands.Clear operand) replies.Skip p
  clear_skips operand names left = (
    subst (λ (o : Option ℕ). WhereKey o replies.Skip (λ at. replies.Skip ≡ replies.Cleared (cleared the_book.acts))) names refl,
    stays (commands.Clear operand) tt tt left replies.Skip refl,
  )

-- ---- the last step

pub one_last : {o : Option Step} {step other : Step} → o ≡ Some step → o ≡ Some other → step ≡ other
one_last is also = cc

pub no_last : {o : Option Step} {step : Step} → o ≡ None → o ≡ Some step → ⊥
no_last none is = cc
