-- The replies that a lane makes by itself are decided: by the pool, its book and where it comes to rest.
use Rattle.std.proofs.Common.{◌≡◌, inl, inr, ℕ, true, false, List, [], ◌∷◌, Option, Some, None, refl, ap, sym, ◌∙◌, subst}
use Rattle.std.specs.Prelude.{is_some}
use Rattle.keybits.specs.declared.shape.Shape.{Shape}
use Rattle.seqpool.specs.Pool.{Pool}
use Rattle.traces.specs.declared.script.Command.{Command}
use Rattle.traces.specs.declared.script.Command.TheVariants.{Create, Write, Publish, Downgrade, Get, Read, Release, Clear}
use Rattle.traces.specs.declared.reply.Reply.{Reply}
use Rattle.traces.specs.declared.reply.Reply.TheVariants as replies
use Rattle.traces.specs.declared.registers.Holding.{Holding}
use Rattle.traces.specs.declared.registers.Holding.TheVariants.{Empty, Filling, Reference}
use Rattle.traces.specs.Registers.{operand_key}
use Rattle.traces.specs.Books.{Book, holding_at, handed_out, shown, cleared, answered, all_answered}
use Rattle.traces.specs.Following.{HasContent, CreateReply, get_reply, WhereEmpty, WhereFilling, WhereReference, WhereKey, CommandReplies, FirstReplies, IsReply, AreReplies}
use Rattle.traces.specs.Lawful.{at_end, IsAtRest}
use Rattle.traces.proofs.StepCalls.{same_some}

-- two replies are the same, if one says so and the other does where a register is as it is
module _ (r s : Reply) where
  where_empty : (h : Holding) (A B : Type 0) → (A → B → r ≡ s) → WhereEmpty h r A → WhereEmpty h s B → r ≡ s
  where_empty Empty A B one x y = one x y
  where_empty (Filling key content) A B one x y = x ∙ sym y
  where_empty (Reference key content) A B one x y = x ∙ sym y

  where_filling : (h : Holding) (A B : ℕ → Type 0) → ((key : ℕ) → A key → B key → r ≡ s) → WhereFilling h r A → WhereFilling h s B → r ≡ s
  where_filling Empty A B one x y = x ∙ sym y
  where_filling (Filling key content) A B one x y = one key x y
  where_filling (Reference key content) A B one x y = x ∙ sym y

  where_reference : (h : Holding) (A B : ℕ → Type 0) → ((key : ℕ) → A key → B key → r ≡ s) → WhereReference h r A → WhereReference h s B
      → r ≡ s
  where_reference Empty A B one x y = x ∙ sym y
  where_reference (Filling key content) A B one x y = x ∙ sym y
  where_reference (Reference key content) A B one x y = one key x y

  where_key : (o : Option ℕ) (A B : ℕ → Type 0) → ((key : ℕ) → A key → B key → r ≡ s) → WhereKey o r A → WhereKey o s B → r ≡ s
  where_key None A B one x y = x ∙ sym y
  where_key (Some key) A B one x y = one key x y

  module _ (z : Shape) (P : Pool) (lane : ℕ) (b : Book) where
    one_create : (o : Option ℕ) → CreateReply z P lane o r → CreateReply z P lane o s → r ≡ s
    one_create (Some place) x y = x.0 ∙ sym y.0
    one_create None x y = x ∙ sym y

    abbrev Reads : Reply → ℕ → Type 0
    Reads reply key = (content : List ℕ) × HasContent z P key content × (reply ≡ replies.Content content)

    one_read : (key : ℕ) → Reads r key → Reads s key → r ≡ s
    one_read key x y = x.2 ∙ ap replies.Content (same_some x.0 y.0 (sym x.1.1 ∙ y.1.1)) ∙ sym y.2

    one_reply : (command : Command) → CommandReplies z P lane b command r → CommandReplies z P lane b command s → r ≡ s
    one_reply (Create register) x y =
        where_empty (holding_at b register.number) (CreateReply z P lane (handed_out z lane b) r) (CreateReply z P lane (handed_out z lane b) s)
        (one_create (handed_out z lane b)) x y
    one_reply (Write register bytes) x y =
        where_filling (holding_at b register.number) (λ key. r ≡ replies.Done) (λ key. s ≡ replies.Done) (λ key e f. e ∙ sym f) x y
    one_reply (Publish register) x y =
        where_filling (holding_at b register.number) (λ key. r ≡ replies.Key key) (λ key. s ≡ replies.Key key) (λ key e f. e ∙ sym f) x y
    one_reply (Downgrade register) x y =
        where_filling (holding_at b register.number) (λ key. r ≡ replies.Key key) (λ key. s ≡ replies.Key key) (λ key e f. e ∙ sym f) x y
    one_reply (Get register operand) x y =
        where_empty (holding_at b register.number) (WhereKey (operand_key b.registers operand) r (λ at. r ≡ get_reply (shown b.acts)))
        (WhereKey (operand_key b.registers operand) s (λ at. s ≡ get_reply (shown b.acts)))
        (where_key (operand_key b.registers operand) (λ at. r ≡ get_reply (shown b.acts)) (λ at. s ≡ get_reply (shown b.acts))
        (λ key e f. e ∙ sym f)) x y
    one_reply (Read register) x y = where_reference (holding_at b register.number) (Reads r) (Reads s) one_read x y
    one_reply (Release register) x y =
        where_reference (holding_at b register.number) (λ key. r ≡ replies.Done) (λ key. s ≡ replies.Done) (λ key e f. e ∙ sym f) x y
    one_reply (Clear operand) x y =
        where_key (operand_key b.registers operand) (λ at. r ≡ replies.Cleared (cleared b.acts)) (λ at. s ≡ replies.Cleared (cleared b.acts))
        (λ key e f. e ∙ sym f) x y

    first_one : (left : List Command) → FirstReplies z P lane b left r → FirstReplies z P lane b left s → r ≡ s
    first_one [] x y = absurd x
    first_one (command ∷ more) x y = one_reply command x y

module _ (z : Shape) (P : Pool) (lane : ℕ) where
  none_left : (b : Book) (r : Reply) (left : List Command) → at_end left ≡ true → FirstReplies z P lane b left r → ⊥
  none_left b r [] end is = is
  none_left b r (command ∷ more) end is = cc end

  -- where a lane is at rest, its next is no reply
  at_rest : (b : Book) (r : Reply) → IsAtRest z lane b → IsReply z P lane b r → ⊥
  at_rest b r (inl end) is = none_left b r b.left end is.1
  at_rest b r (inr some) is = let bad : false ≡ true = sym (ap is_some is.0) ∙ some in cc bad

  pub one_replies : (rs ss : List Reply) (b : Book) → AreReplies z P lane b rs → AreReplies z P lane b ss
      → IsAtRest z lane (all_answered z lane b rs) → IsAtRest z lane (all_answered z lane b ss) → rs ≡ ss
  one_replies [] [] b x y m n = refl
  one_replies [] (s ∷ ss) b x y m n = absurd (at_rest b s m y.0)
  one_replies (r ∷ rs) [] b x y m n = absurd (at_rest b r n x.0)
  one_replies (r ∷ rs) (s ∷ ss) b x y m n =
      let e : r ≡ s = first_one r s z P lane b b.left x.0.1 y.0.1 in
      let more : rs ≡ ss = one_replies rs ss (answered z lane b r) x.1
      (subst (λ (t : Reply). AreReplies z P lane (answered z lane b t) ss) (sym e) y.1) m
      (subst (λ (t : Reply). IsAtRest z lane (all_answered z lane (answered z lane b t) ss)) (sym e) n) in
      λ i. e i ∷ more i
