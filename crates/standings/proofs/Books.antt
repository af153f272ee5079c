-- Books that are alike stay so over the same replies and over alike steps.
use Rattle.std.proofs.Common.{◌≡◌, ◌≢◌, ℕ, ◌+◌, ◌≤◌, cond, eqb, List, [], ◌∷◌, ◌++◌, length, Option, Some, None, refl, ap, sym, ◌∙◌, subst, arith}
use Rattle.std.specs.Prelude.{slice_set}
use Rattle.keybits.specs.declared.shape.Shape.{Shape}
use Rattle.keybits.specs.declared.step.Step.{Step}
use Rattle.keybits.specs.declared.step.Kind.{Kind}
use Rattle.keybits.specs.declared.step.Kind.TheVariants as kinds
use Rattle.keybits.specs.declared.step.Word.{Word}
use Rattle.keybits.specs.declared.step.Word.TheVariants as words
use Rattle.seqpool.specs.declared.act.Act.{Act}
use Rattle.seqpool.specs.Pool.{put}
use Rattle.traces.specs.declared.script.Command.{Command}
use Rattle.traces.specs.declared.script.Command.TheVariants.{Create, Write, Publish, Downgrade, Get, Read, Release, Clear}
use Rattle.traces.specs.declared.reply.Reply.{Reply}
use Rattle.traces.specs.declared.reply.Reply.TheVariants as replies
use Rattle.traces.specs.declared.registers.RegisterState.{RegisterState}
use Rattle.traces.specs.declared.registers.Holding.TheVariants.{Empty, Filling}
use Rattle.traces.specs.Registers.{register_with, register_at, operand_key}
use Rattle.traces.specs.Books.{Book, reclaimed, of_shard, Free, free_with, free_left, free_after, written, kept, got, registers_after, pushed_by, pushed_after, answered_first, answered, all_answered, act_list}
use Rattle.traces.specs.Lawful.{book_after_step}
use Rattle.standings.specs.Alike.{PushAlike, IsAlike, AreAlikeSteps}

-- steps one by one alike
abbrev pub AlikeList : List Step → List Step → Type 0
AlikeList [] [] = Unit {0}
AlikeList (s ∷ ss) (r ∷ rs) = IsAlike s r × AlikeList ss rs
AlikeList [] (r ∷ rs) = ⊥
AlikeList (s ∷ ss) [] = ⊥

-- the books are the same but for what the steps of the call under way found
pub record IsAlikeBook (b c : Book) : Type 0 where
  pub left : b.left ≡ c.left
  pub registers : b.registers ≡ c.registers
  pub own : b.own ≡ c.own
  pub chain : b.chain ≡ c.chain
  pub opened : b.opened ≡ c.opened
  pub pushed : b.pushed ≡ c.pushed
  pub steps : AlikeList b.steps c.steps
  pub acts : b.acts ≡ c.acts

alike_here : (ss : List Step) → AlikeList ss ss
alike_here [] = tt
alike_here (s ∷ ss) = (record { kind = refl; word = refl; push = same s.kind s }, alike_here ss)
  where
    same : (k : Kind) (s : Step) → PushAlike k s s
    same kinds.Enter s = tt
    same kinds.Leave s = tt
    same (kinds.Publish with_ref) s = tt
    same kinds.Mark s = tt
    same (kinds.Claim generation) s = tt
    same (kinds.Link expected) s = tt
    same (kinds.Push expected link) s = refl
    same kinds.Take s = tt
    same kinds.Follow s = tt

pub alike_book : (b : Book) → IsAlikeBook b b
alike_book b = record { left = refl; registers = refl; own = refl; chain = refl; opened = refl; pushed = refl; steps = alike_here b.steps; acts = refl }

-- with the same steps they are the same
pub one_book : (b c : Book) → IsAlikeBook b c → b.steps ≡ c.steps → b ≡ c
one_book b c a steps = λ i. record {
  left = a.left i;
  registers = a.registers i;
  own = a.own i;
  chain = a.chain i;
  opened = a.opened i;
  pushed = a.pushed i;
  steps = steps i;
  acts = a.acts i;
}

-- ---- what was pushed

module _ (s r : Step) (f : ℕ → ℕ) where
  by_kind : (k : Kind) (w : Word) → PushAlike k s r → pushed_by s k w f ≡ pushed_by r k w f
  by_kind (kinds.Push expected link) (words.Stack shard lane) p = ap (λ (n : ℕ). cond (eqb n expected) (put f shard link) f) p
  by_kind (kinds.Push expected link) (words.Life place) p = refl
  by_kind (kinds.Push expected link) (words.Link place) p = refl
  by_kind kinds.Enter w p = refl
  by_kind kinds.Leave w p = refl
  by_kind (kinds.Publish with_ref) w p = refl
  by_kind kinds.Mark w p = refl
  by_kind (kinds.Claim generation) w p = refl
  by_kind (kinds.Link expected) w p = refl
  by_kind kinds.Take w p = refl
  by_kind kinds.Follow w p = refl

  by_alike : IsAlike s r → pushed_by s s.kind s.word f ≡ pushed_by r r.kind r.word f
  by_alike a = by_kind s.kind s.word a.push ∙ (λ i. pushed_by r (a.kind i) (a.word i) f)

pushed_alike : (ss rs : List Step) (f : ℕ → ℕ) → AlikeList ss rs → pushed_after ss f ≡ pushed_after rs f
pushed_alike [] [] f a = refl
pushed_alike [] (r ∷ rs) f a = absurd a
pushed_alike (s ∷ ss) [] f a = absurd a
pushed_alike (s ∷ ss) (r ∷ rs) f a =
    pushed_alike ss rs (pushed_by s s.kind s.word f) a.1 ∙ ap (pushed_after rs) (by_alike s r f a.0)

append_alike : (ss rs : List Step) (s r : Step) → AlikeList ss rs → IsAlike s r → AlikeList (ss ++ s ∷ []) (rs ++ r ∷ [])
append_alike [] [] s r a one = (one, tt)
append_alike [] (q ∷ rs) s r a one = absurd a
append_alike (p ∷ ss) [] s r a one = absurd a
append_alike (p ∷ ss) (q ∷ rs) s r a one = (a.0, append_alike ss rs s r a.1 one)

-- ---- a reply

module _ (b c : Book) (e : b.registers ≡ c.registers) where
  registers_same : (command : Command) (reply : Reply) → registers_after b command reply ≡ registers_after c command reply
  registers_same (Create r) (replies.Filling key) = ap (λ (rs : List RegisterState). slice_set rs r.number (register_with (Filling key []) (Some key))) e
  registers_same (Create r) replies.Full = e
  registers_same (Create r) replies.Memory = e
  registers_same (Create r) replies.Done = e
  registers_same (Create r) (replies.Key key) = e
  registers_same (Create r) (replies.Found content) = e
  registers_same (Create r) replies.Missing = e
  registers_same (Create r) (replies.Content content) = e
  registers_same (Create r) (replies.Cleared flag) = e
  registers_same (Create r) replies.Skip = e
  registers_same (Write r bytes) (replies.Filling key) = e
  registers_same (Write r bytes) replies.Full = e
  registers_same (Write r bytes) replies.Memory = e
  registers_same (Write r bytes) replies.Done = ap (λ (rs : List RegisterState). slice_set rs r.number (let old = register_at rs r.number in register_with (written bytes old.holding) old.last_key)) e
  registers_same (Write r bytes) (replies.Key key) = e
  registers_same (Write r bytes) (replies.Found content) = e
  registers_same (Write r bytes) replies.Missing = e
  registers_same (Write r bytes) (replies.Content content) = e
  registers_same (Write r bytes) (replies.Cleared flag) = e
  registers_same (Write r bytes) replies.Skip = e
  registers_same (Publish r) (replies.Filling key) = e
  registers_same (Publish r) replies.Full = e
  registers_same (Publish r) replies.Memory = e
  registers_same (Publish r) replies.Done = e
  registers_same (Publish r) (replies.Key key) = ap (λ (rs : List RegisterState). slice_set rs r.number (let old = register_at rs r.number in register_with Empty old.last_key)) e
  registers_same (Publish r) (replies.Found content) = e
  registers_same (Publish r) replies.Missing = e
  registers_same (Publish r) (replies.Content content) = e
  registers_same (Publish r) (replies.Cleared flag) = e
  registers_same (Publish r) replies.Skip = e
  registers_same (Downgrade r) (replies.Filling key) = e
  registers_same (Downgrade r) replies.Full = e
  registers_same (Downgrade r) replies.Memory = e
  registers_same (Downgrade r) replies.Done = e
  registers_same (Downgrade r) (replies.Key key) = ap (λ (rs : List RegisterState). slice_set rs r.number (let old = register_at rs r.number in register_with (kept old.holding) old.last_key)) e
  registers_same (Downgrade r) (replies.Found content) = e
  registers_same (Downgrade r) replies.Missing = e
  registers_same (Downgrade r) (replies.Content content) = e
  registers_same (Downgrade r) (replies.Cleared flag) = e
  registers_same (Downgrade r) replies.Skip = e
  registers_same (Get r operand) (replies.Filling key) = e
  registers_same (Get r operand) replies.Full = e
  registers_same (Get r operand) replies.Memory = e
  registers_same (Get r operand) replies.Done = e
  registers_same (Get r operand) (replies.Key key) = e
  registers_same (Get r operand) (replies.Found content) = ap (λ (rs : List RegisterState). slice_set rs r.number (got (operand_key rs operand) content (register_at rs r.number))) e
  registers_same (Get r operand) replies.Missing = e
  registers_same (Get r operand) (replies.Content content) = e
  registers_same (Get r operand) (replies.Cleared flag) = e
  registers_same (Get r operand) replies.Skip = e
  registers_same (Read r) reply = e
  registers_same (Release r) (replies.Filling key) = e
  registers_same (Release r) replies.Full = e
  registers_same (Release r) replies.Memory = e
  registers_same (Release r) replies.Done = ap (λ (rs : List RegisterState). slice_set rs r.number (let old = register_at rs r.number in register_with Empty old.last_key)) e
  registers_same (Release r) (replies.Key key) = e
  registers_same (Release r) (replies.Found content) = e
  registers_same (Release r) replies.Missing = e
  registers_same (Release r) (replies.Content content) = e
  registers_same (Release r) (replies.Cleared flag) = e
  registers_same (Release r) replies.Skip = e
  registers_same (Clear operand) reply = e

module _ (z : Shape) (lane : ℕ) where
  module _ (b c : Book) (reply : Reply) (a : IsAlikeBook b c) where
    free_same : (command : Command) → free_after z lane b command reply ≡ free_after z lane c command reply
    free_same command = λ i. free_left z lane (free_with (a.own i) (a.chain i) (a.opened i)) command reply (a.acts i)

    first_alike : (left : List Command) → IsAlikeBook (answered_first z lane b left reply) (answered_first z lane c left reply)
    first_alike [] = a
    first_alike (command ∷ more) =
        let f = free_same command in
        record {
          left = refl;
          registers = registers_same b c a.registers command reply;
          own = λ i. (f i).own ++ of_shard lane (reclaimed z.last_generation (a.acts i));
          chain = ap (λ (free : Free). free.chain) f;
          opened = ap (λ (free : Free). free.opened) f;
          pushed = pushed_alike b.steps c.steps b.pushed a.steps ∙ ap (pushed_after c.steps) a.pushed;
          steps = tt;
          acts = refl;
        }

    answered_alike : IsAlikeBook (answered z lane b reply) (answered z lane c reply)
    answered_alike =
        subst (λ (left : List Command). IsAlikeBook (answered z lane b reply) (answered_first z lane c left reply)) a.left (first_alike b.left)

  pub replies_alike : (rs : List Reply) (b c : Book) → IsAlikeBook b c → IsAlikeBook (all_answered z lane b rs) (all_answered z lane c rs)
  replies_alike [] b c a = a
  replies_alike (r ∷ rs) b c a = replies_alike rs (answered z lane b r) (answered z lane c r) (answered_alike b c r a)

  -- a reply to a command ends it
  record Ends (b : Book) (left : List Command) (reply : Reply) : Type 0 where
    steps : (answered_first z lane b left reply).steps ≡ []
    fewer : length (answered_first z lane b left reply).left + 1 ≡ length left

  ends : (b : Book) (left : List Command) (reply : Reply) → 1 ≤ length left → Ends b left reply
  ends b [] reply some = absurd (omega arith)
  ends b (command ∷ more) reply some = record { steps = refl; fewer = omega arith }

  pub left_behind : (rs : List Reply) (b : Book) → length rs ≤ length b.left → length (all_answered z lane b rs).left + length rs ≡ length b.left
  left_behind [] b fits = omega arith
  left_behind (r ∷ rs) b fits =
      let e = (ends b b.left r (omega arith)).fewer in
      let more = left_behind rs (answered z lane b r) (omega arith) in
      omega arith

  none_still : (rs : List Reply) (b : Book) → b.steps ≡ [] → length rs ≤ length b.left → (all_answered z lane b rs).steps ≡ []
  none_still [] b none fits = none
  none_still (r ∷ rs) b none fits =
      let e = ends b b.left r (omega arith) in
      let fewer = e.fewer in
      none_still rs (answered z lane b r) e.steps (omega arith)

  pub none_behind : (rs : List Reply) (b : Book) → rs ≢ [] → length rs ≤ length b.left → (all_answered z lane b rs).steps ≡ []
  none_behind [] b some fits = absurd (some refl)
  none_behind (r ∷ rs) b some fits =
      let e = ends b b.left r (omega arith) in
      let fewer = e.fewer in
      none_still rs (answered z lane b r) e.steps (omega arith)

  -- the same steps stay the same
  pub steps_behind : (rs : List Reply) (b c : Book) → b.steps ≡ c.steps → length rs ≤ length b.left → length rs ≤ length c.left
      → (all_answered z lane b rs).steps ≡ (all_answered z lane c rs).steps
  steps_behind [] b c same f g = same
  steps_behind (r ∷ rs) b c same f g = none_behind (r ∷ rs) b (λ e. cc e) f ∙ sym (none_behind (r ∷ rs) c (λ e. cc e) g)

-- ---- a step

pub step_alike : (b c : Book) (step other : Option Step) (act : Option Act) → AreAlikeSteps step other → IsAlikeBook b c
    → IsAlikeBook (book_after_step b step act) (book_after_step c other act)
step_alike b c None None act are a = a
step_alike b c None (Some other) act are a = absurd are
step_alike b c (Some step) None act are a = absurd are
step_alike b c (Some step) (Some other) act are a = record {
  left = a.left;
  registers = a.registers;
  own = a.own;
  chain = a.chain;
  opened = a.opened;
  pushed = a.pushed;
  steps = append_alike b.steps c.steps step other a.steps are;
  acts = ap (λ (acts : List Act). acts ++ act_list act) a.acts;
}

pub step_left : (b : Book) (step : Option Step) (act : Option Act) → (book_after_step b step act).left ≡ b.left
step_left b None act = refl
step_left b (Some step) act = refl

pub step_same : (b c : Book) (step : Option Step) (act : Option Act) → b.steps ≡ c.steps → (book_after_step b step act).steps ≡ (book_after_step c step act).steps
step_same b c None act same = same
step_same b c (Some step) act same = ap (λ (steps : List Step). steps ++ step ∷ []) same
