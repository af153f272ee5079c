-- What the registers hold, as the commands that are done tell it.
use Rattle.std.proofs.Common.{◌≡◌, ◌≢◌, ℕ, zero, suc, ◌<◌, Bool, cond, eqb, List, [], ◌∷◌, ◌++◌, length, set, Option, Some, None, refl, ap, sym, ◌∙◌, subst, arith, eq-eqb, ne_eqb, length-set, append_assoc, append-nil}
use mathlib.Core.Logic.{dite}
use native.Mathlib.Decide.{ℕ_discrete}
use Rattle.keybits.specs.declared.shape.Shape.{Shape}
use Rattle.keybits.specs.declared.step.Step.{Step}
use Rattle.seqpool.specs.declared.act.Act.{Act}
use Rattle.seqpool.specs.Pool.{Pool}
use Rattle.traces.specs.declared.script.Register.{Register}
use Rattle.traces.specs.declared.script.Operand.{Operand}
use Rattle.traces.specs.declared.script.Operand.TheVariants.{Number, LastOf}
use Rattle.traces.specs.declared.script.Command.{Command}
use Rattle.traces.specs.declared.script.Command.TheVariants as commands
use Rattle.traces.specs.declared.reply.Reply.{Reply}
use Rattle.traces.specs.declared.reply.Reply.TheVariants as replies
use Rattle.traces.specs.declared.registers.RegisterState.{RegisterState}
use Rattle.traces.specs.declared.registers.Holding.{Holding}
use Rattle.traces.specs.declared.registers.Holding.TheVariants.{Empty, Filling, Reference}
use Rattle.traces.specs.Registers.{register_with, register_at, operand_key}
use Rattle.traces.specs.Books.{Book, holding_at, written, kept, got, registers_after}
use Rattle.traces.specs.Following.{CreateReply, WhereEmpty, WhereFilling, WhereReference, WhereKey, get_reply}
use Rattle.traces.specs.TurnLaws.{DoneCommand, key_got, given_by, given, GiveNone, HasLast, bytes_to, all_bytes_to, Creates, IsWritten, Names, Usage, unused, has_filling, has_reference, usage_by, usage_after, usage_of}

-- one register is set
pub register_at-same : (xs : List RegisterState) (i : ℕ) (y : RegisterState) → i < length xs → register_at (set xs i y) i ≡ y
register_at-same [] i y inside = absurd (omega arith)
register_at-same (x ∷ xs) zero y inside = refl
register_at-same (x ∷ xs) (suc i) y inside = register_at-same xs i y (omega arith)

pub register_at-other : (xs : List RegisterState) (i j : ℕ) (y : RegisterState) → j ≢ i → register_at (set xs i y) j ≡ register_at xs j
register_at-other [] zero j y other = refl
register_at-other [] (suc i) j y other = refl
register_at-other (x ∷ xs) zero zero y other = absurd (other refl)
register_at-other (x ∷ xs) zero (suc j) y other = refl
register_at-other (x ∷ xs) (suc i) zero y other = refl
register_at-other (x ∷ xs) (suc i) (suc j) y other = register_at-other xs i j y (λ e. other (ap (λ (k : ℕ). suc k) e))

-- ---- one command more

none_more : (n : ℕ) (between : List DoneCommand) (d : DoneCommand) → GiveNone n between → given n d ≡ None → GiveNone n (between ++ d ∷ [])
none_more n [] d none e = (e, tt)
none_more n (x ∷ xs) d none e = (none.0, none_more n xs d none.1 e)

bytes_more : (n : ℕ) (between : List DoneCommand) (d : DoneCommand) → all_bytes_to n (between ++ d ∷ []) ≡ all_bytes_to n between ++ bytes_to n d.command
bytes_more n [] d = append-nil (bytes_to n d.command)
bytes_more n (x ∷ xs) d =
    ap (λ (r : List ℕ). bytes_to n x.command ++ r) (bytes_more n xs d) ∙ sym (append_assoc (bytes_to n x.command) (all_bytes_to n xs) (bytes_to n d.command))

module _ (older : List DoneCommand) (d : DoneCommand) (n key : ℕ) where
  last_stays : HasLast older n key → given n d ≡ None → HasLast (older ++ d ∷ []) n key
  last_stays (before, giver, between, is, gives, none) e = (
    before,
    giver,
    between ++ d ∷ [],
    ap (λ (xs : List DoneCommand). xs ++ d ∷ []) is ∙ append_assoc before (giver ∷ between) (d ∷ []),
    gives,
    none_more n between d none e,
  )

  last_gives : given n d ≡ Some key → HasLast (older ++ d ∷ []) n key
  last_gives e = (older, d, [], refl, e, tt)

  written_more : (content more : List ℕ) → IsWritten older n key content → given n d ≡ None → more ≡ content ++ bytes_to n d.command
      → IsWritten (older ++ d ∷ []) n key more
  written_more content more (before, creator, between, is, creates, none, bytes) e grown = (
    before,
    creator,
    between ++ d ∷ [],
    ap (λ (xs : List DoneCommand). xs ++ d ∷ []) is ∙ append_assoc before (creator ∷ between) (d ∷ []),
    creates,
    none_more n between d none e,
    grown ∙ (ap (λ (r : List ℕ). r ++ bytes_to n d.command) bytes ∙ sym (bytes_more n between d)),
  )

usage_more : (n : ℕ) (usage : Usage) (xs : List DoneCommand) (d : DoneCommand) → usage_after n usage (xs ++ d ∷ []) ≡ usage_by n d.command d.reply (usage_after n usage xs)
usage_more n usage [] d = refl
usage_more n usage (x ∷ xs) d = usage_more n (usage_by n x.command x.reply usage) xs d

-- the use of this register, or of another
this_use : (k : ℕ) (new old : Usage) → cond (eqb k k) new old ≡ new
this_use k new old = ap (λ (t : Bool). cond t new old) (eq-eqb k k refl)

other_use : (k n : ℕ) (new old : Usage) → n ≢ k → cond (eqb k n) new old ≡ old
other_use k n new old other = ap (λ (t : Bool). cond t new old) (ne_eqb k n (λ e. other (sym e)))

created_gives : (n key : ℕ) (d : DoneCommand) → Creates n key d → given n d ≡ Some key
created_gives n key d (register, command, number, reply) =
    ap (λ (c : Command). given_by n c d.reply d.acts) command
    ∙ (ap (λ (r : Reply). given_by n (commands.Create register) r d.acts) reply ∙ ap (λ (b : Bool). cond b (Some key) None) (eq-eqb register.number n number))

written_last : (older : List DoneCommand) (n key : ℕ) (content : List ℕ) → IsWritten older n key content → HasLast older n key
written_last older n key content (before, creator, between, is, creates, none, bytes) =
    (before, creator, between, is, created_gives n key creator creates, none)

-- ---- the registers

-- the last key of a register, and what it holds, as the commands tell them
abbrev pub Keyed : List DoneCommand → ℕ → Option ℕ → Type 0
Keyed older n None = GiveNone n older
Keyed older n (Some key) = HasLast older n key

abbrev pub Held : List DoneCommand → ℕ → Holding → Type 0
Held older n Empty = Unit {0}
Held older n (Filling key content) = IsWritten older n key content
Held older n (Reference key content) = HasLast older n key

-- the use of a register that holds this
abbrev pub usage_in : Holding → Usage
usage_in Empty = unused
usage_in (Filling key content) = has_filling
usage_in (Reference key content) = has_reference

abbrev pub Fits : List DoneCommand → ℕ → RegisterState → Type 0
Fits older n register = Keyed older n register.last_key × Held older n register.holding × (usage_of older n ≡ usage_in register.holding)

abbrev pub AllFit : List DoneCommand → List RegisterState → Type 0
AllFit older registers = (n : ℕ) → n < 16 → Fits older n (register_at registers n)

-- no byte is written to what is held
abbrev Still : ℕ → Command → Holding → Type 0
Still n command Empty = Unit {0}
Still n command (Filling key content) = bytes_to n command ≡ []
Still n command (Reference key content) = Unit {0}

still : (n : ℕ) (command : Command) (h : Holding) → bytes_to n command ≡ [] → Still n command h
still n command Empty e = tt
still n command (Filling key content) e = e
still n command (Reference key content) e = tt

keyed_stays : (older : List DoneCommand) (d : DoneCommand) (n : ℕ) (k : Option ℕ) → Keyed older n k → given n d ≡ None → Keyed (older ++ d ∷ []) n k
keyed_stays older d n None h e = none_more n older d h e
keyed_stays older d n (Some key) h e = last_stays older d n key h e

held_stays : (older : List DoneCommand) (d : DoneCommand) (n : ℕ) (h : Holding) → Held older n h → given n d ≡ None → Still n d.command h → Held (older ++ d ∷ []) n h
held_stays older d n Empty h e s = tt
held_stays older d n (Filling key content) h e s =
    written_more older d n key content content h e (sym (append-nil content) ∙ ap (λ (r : List ℕ). content ++ r) (sym s))
held_stays older d n (Reference key content) h e s = last_stays older d n key h e

-- what holds of the registers after a command
abbrev pub AllFitAfter : List DoneCommand → DoneCommand → List RegisterState → Type 0
AllFitAfter older d registers = AllFit (older ++ d ∷ []) registers × (length registers ≡ 16)

abbrev pub did : Command → List Step → List Act → Reply → DoneCommand
did command steps made reply = record { command = command; steps = steps; acts = made; reply = reply }

module _ (older : List DoneCommand) (registers : List RegisterState) (fit : AllFit older registers) (sixteen : length registers ≡ 16) where
  -- the registers stay; or one is set
  stay : (d : DoneCommand) → ((n : ℕ) → given n d ≡ None) → ((n : ℕ) (u : Usage) → usage_by n d.command d.reply u ≡ u)
      → ((n : ℕ) → Still n d.command (register_at registers n).holding) → AllFitAfter older d registers
  stay d none uses same = (
    λ n inside. (
      keyed_stays older d n (register_at registers n).last_key (fit n inside).0 (none n),
      held_stays older d n (register_at registers n).holding (fit n inside).1 (none n) (same n),
      usage_more n unused older d ∙ (uses n (usage_of older n) ∙ (fit n inside).2),
    ),
    sixteen,
  )

  put_in : (d : DoneCommand) (k : ℕ) (x : RegisterState) → k < 16
      → ((n : ℕ) → n ≢ k → (given n d ≡ None) × (bytes_to n d.command ≡ []) × ((u : Usage) → usage_by n d.command d.reply u ≡ u))
      → Fits (older ++ d ∷ []) k x → AllFitAfter older d (set registers k x)
  put_in d k x inside none here = (
    λ n within. dite (ℕ_discrete n k)
        (λ same. subst (λ (m : ℕ). Fits (older ++ d ∷ []) m (register_at (set registers k x) m)) (sym same)
        (subst (λ (y : RegisterState). Fits (older ++ d ∷ []) k y) (sym (register_at-same registers k x (omega arith))) here))
        (λ other. subst (λ (y : RegisterState). Fits (older ++ d ∷ []) n y) (sym (register_at-other registers k n x other)) (
          keyed_stays older d n (register_at registers n).last_key (fit n within).0 (none n other).0,
          held_stays older d n (register_at registers n).holding (fit n within).1 (none n other).0
              (still n d.command (register_at registers n).holding (none n other).1),
          usage_more n unused older d ∙ ((none n other).2 (usage_of older n) ∙ (fit n within).2),
        )),
    length-set registers k x ∙ sixteen,
  )

-- the key that an operand has, as the commands tell it
pub names : (older : List DoneCommand) (registers : List RegisterState) → AllFit older registers → (operand : Operand) (key : ℕ) → operand_key registers operand ≡ Some key
    → Names older operand key
names older registers fit (Number number) key e = let same : number ≡ key = cc e in sym same
names older registers fit (LastOf register) key e = subst (λ (k : Option ℕ). Keyed older register.number k) e (fit register.number register.small).0

none_or_some : (older : List DoneCommand) (n key : ℕ) → GiveNone n older → HasLast older n key → ⊥
none_or_some older n key none (before, giver, between, is, gives, later) = go before (subst (GiveNone n) is none)
  where
    go : (before : List DoneCommand) → GiveNone n (before ++ giver ∷ between) → ⊥
    go [] none = let bad : None ≡ Some key = sym none.0 ∙ gives in absurd (cc bad)
    go (x ∷ xs) none = go xs none.1

pub no_name : (older : List DoneCommand) (registers : List RegisterState) → AllFit older registers → (operand : Operand) → operand_key registers operand ≡ None
    → (key : ℕ) × Names older operand key → ⊥
no_name older registers fit (Number number) e named = absurd (cc e)
no_name older registers fit (LastOf register) e (key, last) =
    none_or_some older register.number key (subst (λ (k : Option ℕ). Keyed older register.number k) e (fit register.number register.small).0) last

module _ (older : List DoneCommand) (b : Book) (fit : AllFit older b.registers) (sixteen : length b.registers ≡ 16) (s : List Step) (m : List Act) where
  -- a command that writes nothing leaves the registers
  untouched : (command : Command) (reply : Reply) → ((n : ℕ) → given n (did command s m reply) ≡ None) → ((n : ℕ) → bytes_to n command ≡ [])
      → ((n : ℕ) (u : Usage) → usage_by n command reply u ≡ u) → AllFitAfter older (did command s m reply) b.registers
  untouched command reply none silent uses =
      stay older b.registers fit sixteen (did command s m reply) none uses (λ n. still n command (register_at b.registers n).holding (silent n))

  -- a command empties its register
  emptied : (command : Command) (reply : Reply) (r : Register) → ((n : ℕ) → given n (did command s m reply) ≡ None) → ((n : ℕ) → bytes_to n command ≡ [])
      → ((n : ℕ) → n ≢ r.number → (u : Usage) → usage_by n command reply u ≡ u) → ((u : Usage) → usage_by r.number command reply u ≡ unused)
      → AllFitAfter older (did command s m reply) (set b.registers r.number (register_with Empty (register_at b.registers r.number).last_key))
  emptied command reply r none silent uses frees =
      let d = did command s m reply in
      put_in older b.registers fit sixteen d r.number (register_with Empty (register_at b.registers r.number).last_key) r.small
      (λ n other. (none n, silent n, uses n other)) (
        keyed_stays older d r.number (register_at b.registers r.number).last_key (fit r.number r.small).0 (none r.number),
        tt,
        usage_more r.number unused older d ∙ frees (usage_of older r.number),
      )

  module _ (r : Register) where
    AfterCreate : Reply → Type 0
    AfterCreate reply = AllFitAfter older (did (commands.Create r) s m reply) (registers_after b (commands.Create r) reply)

    made_filling : (key : ℕ) → AfterCreate (replies.Filling key)
    unfolding AfterCreate
    made_filling key =
        let d = did (commands.Create r) s m (replies.Filling key) in
        put_in older b.registers fit sixteen d r.number (register_with (Filling key []) (Some key)) r.small
        (λ n other. (ap (λ (t : Bool). cond t (Some key) None) (ne_eqb r.number n (λ e. other (sym e))), refl, λ u. other_use r.number n has_filling u other)) (
          last_gives older d r.number key (ap (λ (t : Bool). cond t (Some key) None) (eq-eqb r.number r.number refl)),
          (older, d, [], refl, (r, refl, refl, refl), tt, refl),
          usage_more r.number unused older d ∙ this_use r.number has_filling (usage_of older r.number),
        )

    pub after_create : (z : Shape) (P : Pool) (lane : ℕ) (reply : Reply) (h : Holding) (o : Option ℕ) → WhereEmpty h reply (CreateReply z P lane o reply)
        → AllFitAfter older (did (commands.Create r) s m reply) (registers_after b (commands.Create r) reply)
    unfolding AfterCreate
    after_create z P lane reply Empty None says = subst AfterCreate (sym says) (untouched (commands.Create r) replies.Full (λ n. refl) (λ n. refl) (λ n u. refl))
    after_create z P lane reply Empty (Some place) says = subst AfterCreate (sym says.0) (made_filling _)
    after_create z P lane reply (Filling key content) o says = subst AfterCreate (sym says) (untouched (commands.Create r) replies.Skip (λ n. refl) (λ n. refl) (λ n u. refl))
    after_create z P lane reply (Reference key content) o says = subst AfterCreate (sym says) (untouched (commands.Create r) replies.Skip (λ n. refl) (λ n. refl) (λ n u. refl))

  module _ (r : Register) (bytes : List ℕ) where
    AfterWrite : Reply → Type 0
    AfterWrite reply = AllFitAfter older (did (commands.Write r bytes) s m reply) (registers_after b (commands.Write r bytes) reply)

    elsewhere : (n : ℕ) → n ≢ r.number → bytes_to n (commands.Write r bytes) ≡ []
    elsewhere n other = ap (λ (t : Bool). cond t bytes []) (ne_eqb r.number n (λ e. other (sym e)))

    not_written : (h : Holding) → holding_at b r.number ≡ h → Still r.number (commands.Write r bytes) h → AfterWrite replies.Skip
    unfolding AfterWrite
    not_written h e quiet = stay older b.registers fit sixteen (did (commands.Write r bytes) s m replies.Skip) (λ n. refl) (λ n u. refl) (λ n. dite (ℕ_discrete n r.number)
        (λ same. subst (λ (k : ℕ). Still k (commands.Write r bytes) (register_at b.registers k).holding) (sym same)
        (subst (λ (x : Holding). Still r.number (commands.Write r bytes) x) (sym e) quiet))
        (λ other. still n (commands.Write r bytes) (register_at b.registers n).holding (elsewhere n other)))

    was_written : (key : ℕ) (content : List ℕ) → holding_at b r.number ≡ Filling key content → AfterWrite replies.Done
    unfolding AfterWrite
    was_written key content e =
        let d = did (commands.Write r bytes) s m replies.Done in
        let old = register_at b.registers r.number in
        put_in older b.registers fit sixteen d r.number (register_with (written bytes old.holding) old.last_key) r.small
        (λ n other. (refl, elsewhere n other, λ u. refl)) (
          keyed_stays older d r.number old.last_key (fit r.number r.small).0 refl,
          subst (λ (x : Holding). Held (older ++ d ∷ []) r.number (written bytes x)) (sym e)
              (written_more older d r.number key content (content ++ bytes) (subst (λ (x : Holding). Held older r.number x) e (fit r.number r.small).1) refl
              (ap (λ (t : Bool). content ++ cond t bytes []) (sym (eq-eqb r.number r.number refl)))),
          usage_more r.number unused older d ∙ ((fit r.number r.small).2 ∙ (ap usage_in e ∙ sym (ap (λ (x : Holding). usage_in (written bytes x)) e))),
        )

    pub after_write : (reply : Reply) (h : Holding) → holding_at b r.number ≡ h → WhereFilling h reply (λ key. reply ≡ replies.Done)
        → AllFitAfter older (did (commands.Write r bytes) s m reply) (registers_after b (commands.Write r bytes) reply)
    unfolding AfterWrite
    after_write reply Empty e says = subst AfterWrite (sym says) (not_written Empty e tt)
    after_write reply (Filling key content) e says = subst AfterWrite (sym says) (was_written key content e)
    after_write reply (Reference key content) e says = subst AfterWrite (sym says) (not_written (Reference key content) e tt)

  module _ (r : Register) where
    AfterPublish : Reply → Type 0
    AfterPublish reply = AllFitAfter older (did (commands.Publish r) s m reply) (registers_after b (commands.Publish r) reply)

    pub after_publish : (reply : Reply) (h : Holding) → WhereFilling h reply (λ key. reply ≡ replies.Key key)
        → AllFitAfter older (did (commands.Publish r) s m reply) (registers_after b (commands.Publish r) reply)
    unfolding AfterPublish
    after_publish reply Empty says = subst AfterPublish (sym says) (untouched (commands.Publish r) replies.Skip (λ n. refl) (λ n. refl) (λ n u. refl))
    after_publish reply (Filling key content) says = subst AfterPublish (sym says) (emptied (commands.Publish r) (replies.Key key) r (λ n. refl) (λ n. refl)
        (λ n other u. other_use r.number n unused u other) (λ u. this_use r.number unused u))
    after_publish reply (Reference key content) says = subst AfterPublish (sym says) (untouched (commands.Publish r) replies.Skip (λ n. refl) (λ n. refl) (λ n u. refl))

    AfterDowngrade : Reply → Type 0
    AfterDowngrade reply = AllFitAfter older (did (commands.Downgrade r) s m reply) (registers_after b (commands.Downgrade r) reply)

    was_kept : (key : ℕ) (content : List ℕ) → holding_at b r.number ≡ Filling key content → AfterDowngrade (replies.Key key)
    unfolding AfterDowngrade
    was_kept key content e =
        let d = did (commands.Downgrade r) s m (replies.Key key) in
        let old = register_at b.registers r.number in
        put_in older b.registers fit sixteen d r.number (register_with (kept old.holding) old.last_key) r.small
        (λ n other. (refl, refl, λ u. other_use r.number n has_reference u other)) (
          keyed_stays older d r.number old.last_key (fit r.number r.small).0 refl,
          subst (λ (x : Holding). Held (older ++ d ∷ []) r.number (kept x)) (sym e)
              (last_stays older d r.number key (written_last older r.number key content (subst (λ (x : Holding). Held older r.number x) e (fit r.number r.small).1)) refl),
          usage_more r.number unused older d
              ∙ (this_use r.number has_reference (usage_of older r.number) ∙ sym (ap (λ (x : Holding). usage_in (kept x)) e)),
        )

    pub after_downgrade : (reply : Reply) (h : Holding) → holding_at b r.number ≡ h → WhereFilling h reply (λ key. reply ≡ replies.Key key)
        → AllFitAfter older (did (commands.Downgrade r) s m reply) (registers_after b (commands.Downgrade r) reply)
    unfolding AfterDowngrade
    after_downgrade reply Empty e says = subst AfterDowngrade (sym says) (untouched (commands.Downgrade r) replies.Skip (λ n. refl) (λ n. refl) (λ n u. refl))
    after_downgrade reply (Filling key content) e says = subst AfterDowngrade (sym says) (was_kept key content e)
    after_downgrade reply (Reference key content) e says = subst AfterDowngrade (sym says) (untouched (commands.Downgrade r) replies.Skip (λ n. refl) (λ n. refl) (λ n u. refl))

    AfterRelease : Reply → Type 0
    AfterRelease reply = AllFitAfter older (did (commands.Release r) s m reply) (registers_after b (commands.Release r) reply)

    pub after_release : (reply : Reply) (h : Holding) → WhereReference h reply (λ key. reply ≡ replies.Done)
        → AllFitAfter older (did (commands.Release r) s m reply) (registers_after b (commands.Release r) reply)
    unfolding AfterRelease
    after_release reply Empty says = subst AfterRelease (sym says) (untouched (commands.Release r) replies.Skip (λ n. refl) (λ n. refl) (λ n u. refl))
    after_release reply (Filling key content) says = subst AfterRelease (sym says) (untouched (commands.Release r) replies.Skip (λ n. refl) (λ n. refl) (λ n u. refl))
    after_release reply (Reference key content) says = subst AfterRelease (sym says) (emptied (commands.Release r) replies.Done r (λ n. refl) (λ n. refl)
        (λ n other u. other_use r.number n unused u other) (λ u. this_use r.number unused u))

    AfterRead : Reply → Type 0
    AfterRead reply = AllFitAfter older (did (commands.Read r) s m reply) (registers_after b (commands.Read r) reply)

    pub after_read : (reply : Reply) (h : Holding) (Says : ℕ → List ℕ → Type 0) → WhereReference h reply (λ key. (content : List ℕ) × Says key content × (reply ≡ replies.Content content))
        → AllFitAfter older (did (commands.Read r) s m reply) (registers_after b (commands.Read r) reply)
    unfolding AfterRead
    after_read reply Empty Says says = subst AfterRead (sym says) (untouched (commands.Read r) replies.Skip (λ n. refl) (λ n. refl) (λ n u. refl))
    after_read reply (Filling key content) Says says = subst AfterRead (sym says) (untouched (commands.Read r) replies.Skip (λ n. refl) (λ n. refl) (λ n u. refl))
    after_read reply (Reference key content) Says says =
        subst AfterRead (sym says.2) (untouched (commands.Read r) (replies.Content says.0) (λ n. refl) (λ n. refl) (λ n u. refl))

  module _ (operand : Operand) where
    AfterClear : Reply → Type 0
    AfterClear reply = AllFitAfter older (did (commands.Clear operand) s m reply) (registers_after b (commands.Clear operand) reply)

    pub after_clear : (reply : Reply) (o : Option ℕ) (done : Bool) → WhereKey o reply (λ at. reply ≡ replies.Cleared done)
        → AllFitAfter older (did (commands.Clear operand) s m reply) (registers_after b (commands.Clear operand) reply)
    unfolding AfterClear
    after_clear reply None done says = subst AfterClear (sym says) (untouched (commands.Clear operand) replies.Skip (λ n. refl) (λ n. refl) (λ n u. refl))
    after_clear reply (Some key) done says = subst AfterClear (sym says) (untouched (commands.Clear operand) (replies.Cleared done) (λ n. refl) (λ n. refl) (λ n u. refl))

  module _ (r : Register) (operand : Operand) where
    AfterGet : Reply → Type 0
    AfterGet reply = AllFitAfter older (did (commands.Get r operand) s m reply) (registers_after b (commands.Get r operand) reply)

    was_got : (key : ℕ) (content : List ℕ) → operand_key b.registers operand ≡ Some key → key_got m ≡ Some key → AfterGet (replies.Found content)
    unfolding AfterGet
    was_got key content op gets =
        let d = did (commands.Get r operand) s m (replies.Found content) in
        subst (λ (o : Option ℕ). AllFitAfter older d (set b.registers r.number (got o content (register_at b.registers r.number)))) (sym op)
        (put_in older b.registers fit sixteen d r.number (register_with (Reference key content) (Some key)) r.small
        (λ n other. (ap (λ (t : Bool). cond t (key_got m) None) (ne_eqb r.number n (λ e. other (sym e))), refl, λ u. other_use r.number n has_reference u other))
        (let last = last_gives older d r.number key (ap (λ (t : Bool). cond t (key_got m) None) (eq-eqb r.number r.number refl) ∙ gets) in
        (last, last, usage_more r.number unused older d ∙ this_use r.number has_reference (usage_of older r.number))))

    by_shown : (key : ℕ) (shows : Option (List ℕ)) → operand_key b.registers operand ≡ Some key
        → ((content : List ℕ) → shows ≡ Some content → key_got m ≡ Some key) → AfterGet (get_reply shows)
    unfolding AfterGet
    by_shown key None op gets = untouched (commands.Get r operand) replies.Missing (λ n. refl) (λ n. refl) (λ n u. refl)
    by_shown key (Some content) op gets = was_got key content op (gets content refl)

    pub after_get : (reply : Reply) (h : Holding) (o : Option ℕ) (shows : Option (List ℕ)) → operand_key b.registers operand ≡ o
        → ((key : ℕ) → o ≡ Some key → h ≡ Empty → (content : List ℕ) → shows ≡ Some content → key_got m ≡ Some key)
        → WhereEmpty h reply (WhereKey o reply (λ at. reply ≡ get_reply shows))
        → AllFitAfter older (did (commands.Get r operand) s m reply) (registers_after b (commands.Get r operand) reply)
    unfolding AfterGet
    after_get reply Empty None shows op gets says = subst AfterGet (sym says) (untouched (commands.Get r operand) replies.Skip (λ n. refl) (λ n. refl) (λ n u. refl))
    after_get reply Empty (Some key) shows op gets says = subst AfterGet (sym says) (by_shown key shows op (gets key refl refl))
    after_get reply (Filling key content) o shows op gets says = subst AfterGet (sym says) (untouched (commands.Get r operand) replies.Skip (λ n. refl) (λ n. refl) (λ n u. refl))
    after_get reply (Reference key content) o shows op gets says = subst AfterGet (sym says) (untouched (commands.Get r operand) replies.Skip (λ n. refl) (λ n. refl) (λ n u. refl))
