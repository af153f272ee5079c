-- A reply keeps the rule of the steps: its call has nothing under way, and only a create that hands out the first of the chain follows it.
use Rattle.std.proofs.Common.{◌≡◌, ℕ, ◌+◌, ◌<◌, drop, Bool, true, false, cond, eqb, ltb, List, [], ◌∷◌, ◌++◌, append-nil, Option, Some, None, refl, ap, sym, ◌∙◌, subst}
use Rattle.std.proofs.lemmas.Bool.{eqb-true}
use Rattle.keybits.specs.declared.shape.Shape.{Shape}
use Rattle.keybits.specs.Places.{place_at}
use Rattle.seqpool.specs.Pool.{Pool, pool_after}
use Rattle.steplaws.specs.Calls.{Call}
use Rattle.steplaws.specs.declared.pending.Pending.TheVariants.{Nothing}
use Rattle.steplaws.specs.Facts.{Lanes, moment, with_chain, Rule}
use Rattle.steplaws.proofs.TakeLaws.{follow_rule}
use Rattle.traces.specs.declared.script.Register.{Register}
use Rattle.traces.specs.declared.script.Command.{Command}
use Rattle.traces.specs.declared.script.Command.TheVariants.{Create, Write, Publish, Downgrade, Get, Read, Release, Clear}
use Rattle.traces.specs.declared.reply.Reply.{Reply}
use Rattle.traces.specs.declared.registers.Holding.{Holding}
use Rattle.traces.specs.declared.registers.Holding.TheVariants.{Empty, Filling, Reference}
use Rattle.traces.specs.Registers.{operand_key}
use Rattle.traces.specs.Books.{Book, publishing, releasing, creating, getting, clearing, holding_at, call_of_first, call_under_way, caller, taken, handed_first, handed_out, page_places, Free, free_with, after_own, after_opening, pushed_after, answered_first, answered}
use Rattle.traces.specs.Following.{CreateReply, WhereEmpty, FirstReplies, IsReply}
use Rattle.traces.specs.Lawful.{World}
use Rattle.traces.specs.Parts.{under_first, under_way, chain_of}
use Rattle.traces.specs.Making.{HasMade}
use Rattle.traces.specs.Owning.{lanes_now, Holds}
use Rattle.traces.proofs.Worlds.{after_reply}
use Rattle.traces.proofs.Idles.{under_start, idle, NoCreate, takes_none, create_takes}

-- the places still to be followed stay, or the first of them is followed
data Followed (old new : List ℕ) : Type 0 where
  same : new ≡ old → Followed old new
  first : (place : ℕ) → old ≡ place ∷ new → Followed old new

-- what is left to follow after a create, where a TAKE is made only without a place of the own list or the chain
module _ (z : Shape) (lane opened : ℕ) where
  opened_chain : (after_opening z lane opened).chain ≡ []
  opened_chain = either (ltb opened z.pages) (drop 1 (page_places z lane opened))
    where
      either : (t : Bool) (own : List ℕ) → (cond {A = Free} t (free_with own [] (opened + 1)) (free_with [] [] opened)).chain ≡ []
      either true own = refl
      either false own = refl

  created_chain : (own chain found : List ℕ) → ((own ++ chain ≡ [] → ⊥) → found ≡ [])
      → Followed (chain ++ found) ((after_own z lane opened found chain own).chain ++ [])
  created_chain (p ∷ own) chain found none = same (ap (λ (xs : List ℕ). chain ++ xs) (sym (none (λ e. cc e))))
  created_chain [] (p ∷ chain) found none = first p (ap (λ (xs : List ℕ). p ∷ (chain ++ xs)) (none (λ e. cc e)))
  created_chain [] [] (p ∷ found) none = first p (ap (λ (xs : List ℕ). p ∷ xs) (sym (append-nil found)))
  created_chain [] [] [] none = same (ap (λ (xs : List ℕ). xs ++ []) opened_chain)

-- where create hands out nothing, its TAKEs found nothing
none_found : (own chain found : List ℕ) (other : Option ℕ) → handed_first own (handed_first chain (handed_first found other)) ≡ None → found ≡ []
none_found (p ∷ own) chain found other e = absurd (cc e)
none_found [] (p ∷ chain) found other e = absurd (cc e)
none_found [] [] (p ∷ found) other e = absurd (cc e)
none_found [] [] [] other e = refl

module _ (z : Shape) (lane : ℕ) (P : Pool) (b : Book) where
  abbrev chain_in : Book → List ℕ
  chain_in x = x.chain ++ taken x.acts

  unmoved : taken b.acts ≡ [] → Followed (chain_in b) (b.chain ++ [])
  unmoved none = same (ap (λ (xs : List ℕ). b.chain ++ xs) (sym none))

  handed_chain : (r : Register) (more : List Command) (reply : Reply) → ((b.own ++ b.chain ≡ [] → ⊥) → taken b.acts ≡ [])
      → (o : Option ℕ) → handed_out z lane b ≡ o → CreateReply z P lane o reply
      → Followed (chain_in b) (chain_in (answered_first z lane b (Create r ∷ more) reply))
  handed_chain r more reply none (Some p) out (e, free) =
      subst (λ (y : Reply). Followed (chain_in b) (chain_in (answered_first z lane b (Create r ∷ more) y))) (sym e)
      (created_chain z lane b.opened b.own b.chain (taken b.acts) none)
  handed_chain r more reply none None out e =
      subst (λ (y : Reply). Followed (chain_in b) (chain_in (answered_first z lane b (Create r ∷ more) y))) (sym e)
      (unmoved (none_found b.own b.chain (taken b.acts) (cond (ltb b.opened z.pages) (Some (place_at lane b.opened 0)) None) out))

  create_chain : (r : Register) (more : List Command) (reply : Reply) (h : Holding) → HasMade (caller z lane b) (creating b h) b.steps b.acts
      → WhereEmpty h reply (CreateReply z P lane (handed_out z lane b) reply)
      → Followed (chain_in b) (chain_in (answered_first z lane b (Create r ∷ more) reply))
  create_chain r more reply (Filling key content) made e =
      subst (λ (y : Reply). Followed (chain_in b) (chain_in (answered_first z lane b (Create r ∷ more) y))) (sym e) (unmoved (ap taken made.1))
  create_chain r more reply (Reference key content) made e =
      subst (λ (y : Reply). Followed (chain_in b) (chain_in (answered_first z lane b (Create r ∷ more) y))) (sym e) (unmoved (ap taken made.1))
  create_chain r more reply Empty made e =
      handed_chain r more reply (create_takes (caller z lane b) b.own b.chain b.opened b.steps b.acts made) (handed_out z lane b) refl e

  publish_creates_none : (with_ref : Bool) (h : Holding) → NoCreate (publishing with_ref h)
  publish_creates_none with_ref Empty = tt
  publish_creates_none with_ref (Filling key content) = tt
  publish_creates_none with_ref (Reference key content) = tt

  release_creates_none : (h : Holding) → NoCreate (releasing h)
  release_creates_none Empty = tt
  release_creates_none (Filling key content) = tt
  release_creates_none (Reference key content) = tt

  get_creates_none : (o : Option ℕ) (h : Holding) → NoCreate (getting o h)
  get_creates_none (Some key) Empty = tt
  get_creates_none (Some key) (Filling at content) = tt
  get_creates_none (Some key) (Reference at content) = tt
  get_creates_none None h = tt

  clear_creates_none : (o : Option ℕ) → NoCreate (clearing o)
  clear_creates_none (Some key) = tt
  clear_creates_none None = tt

  untaken : (o : Option Call) → NoCreate o → HasMade (caller z lane b) o b.steps b.acts → Followed (chain_in b) (b.chain ++ [])
  untaken o isnt made = unmoved (takes_none (caller z lane b) o b.steps b.acts isnt made)

  reply_chain : (left : List Command) (reply : Reply) → HasMade (caller z lane b) (call_of_first b left) b.steps b.acts
      → FirstReplies z P lane b left reply
      → Followed (chain_in b) (chain_in (answered_first z lane b left reply))
  reply_chain [] reply made e = absurd e
  reply_chain (Create r ∷ more) reply made e = create_chain r more reply (holding_at b r.number) made e
  reply_chain (Write r bytes ∷ more) reply made e = untaken None tt made
  reply_chain (Publish r ∷ more) reply made e =
      untaken (publishing false (holding_at b r.number)) (publish_creates_none false (holding_at b r.number)) made
  reply_chain (Downgrade r ∷ more) reply made e =
      untaken (publishing true (holding_at b r.number)) (publish_creates_none true (holding_at b r.number)) made
  reply_chain (Get r operand ∷ more) reply made e =
      untaken (getting (operand_key b.registers operand) (holding_at b r.number))
      (get_creates_none (operand_key b.registers operand) (holding_at b r.number)) made
  reply_chain (Read r ∷ more) reply made e = untaken None tt made
  reply_chain (Release r ∷ more) reply made e = untaken (releasing (holding_at b r.number)) (release_creates_none (holding_at b r.number)) made
  reply_chain (Clear operand ∷ more) reply made e =
      untaken (clearing (operand_key b.registers operand)) (clear_creates_none (operand_key b.registers operand)) made

  -- after a reply the lane has nothing under way, and has last pushed what it had
  reply_under : (left : List Command) (reply : Reply) → FirstReplies z P lane b left reply
      → under_first z lane (call_under_way (answered_first z lane b left reply)) (answered_first z lane b left reply).steps ≡ Nothing
  reply_under [] reply e = absurd e
  reply_under (command ∷ more) reply e = under_start z lane (call_under_way (answered_first z lane b (command ∷ more) reply))

  reply_pushed : (left : List Command) (reply : Reply) → FirstReplies z P lane b left reply → (shard : ℕ)
      → pushed_after (answered_first z lane b left reply).steps (answered_first z lane b left reply).pushed shard ≡ pushed_after b.steps b.pushed shard
  reply_pushed [] reply e shard = absurd e
  reply_pushed (command ∷ more) reply e shard = refl

-- the lanes after a change of one lane's book by which only its chain changes
module _ (z : Shape) (w : World) (lane : ℕ) (reply : Reply) where
  abbrev next_book : Book
  next_book = answered z lane (w.books lane) reply

  module _ (under : under_first z lane (call_under_way next_book) next_book.steps ≡ under_way z w lane)
      (pushed : (shard : ℕ) → pushed_after next_book.steps next_book.pushed shard ≡ pushed_after (w.books lane).steps (w.books lane).pushed shard) where
    under_next : (other : ℕ) (t : Bool) → eqb other lane ≡ t
        → under_first z other (call_under_way (cond t next_book (w.books other))) (cond t next_book (w.books other)).steps ≡ under_way z w other
    under_next other true e = let same : other ≡ lane = eqb-true other lane e in
        ap (λ (n : ℕ). under_first z n (call_under_way next_book) next_book.steps) same ∙ (under ∙ sym (ap (under_way z w) same))
    under_next other false e = refl

    pushed_next : (shard other : ℕ) (t : Bool) → eqb other lane ≡ t
        → pushed_after (cond t next_book (w.books other)).steps (cond t next_book (w.books other)).pushed shard
        ≡ pushed_after (w.books other).steps (w.books other).pushed shard
    pushed_next shard other true e = let same : other ≡ lane = eqb-true other lane e in
        pushed shard ∙ sym (ap (λ (n : ℕ). pushed_after (w.books n).steps (w.books n).pushed shard) same)
    pushed_next shard other false e = refl

    chain_next : (other : ℕ) (t : Bool) → eqb other lane ≡ t
        → (cond t next_book (w.books other)).chain ++ taken (cond t next_book (w.books other)).acts
        ≡ cond t (next_book.chain ++ taken next_book.acts) (chain_of w other)
    chain_next other true e = refl
    chain_next other false e = refl

    lanes_next : lanes_now z (after_reply z w lane reply) ≡ with_chain (lanes_now z w) lane (next_book.chain ++ taken next_book.acts)
    lanes_next = λ i. record {
      under = λ other. under_next other (eqb other lane) refl i;
      pushed = λ shard other. pushed_next shard other (eqb other lane) refl i;
      chain = λ other. chain_next other (eqb other lane) refl i;
    }

    chain_still : next_book.chain ++ taken next_book.acts ≡ chain_of w lane → (other : ℕ) (t : Bool) → eqb other lane ≡ t
        → chain_of w other ≡ cond t (next_book.chain ++ taken next_book.acts) (chain_of w other)
    chain_still e other true at = ap (chain_of w) (eqb-true other lane at) ∙ sym e
    chain_still e other false at = refl

    lanes_still : next_book.chain ++ taken next_book.acts ≡ chain_of w lane
        → lanes_now z w ≡ with_chain (lanes_now z w) lane (next_book.chain ++ taken next_book.acts)
    lanes_still e = λ i. record {
      under = (lanes_now z w).under;
      pushed = (lanes_now z w).pushed;
      chain = λ other. chain_still e other (eqb other lane) refl i;
    }

    rule_followed : Rule z (moment w.words w.history (lanes_now z w)) → lane < z.lanes
        → Followed (chain_of w lane) (next_book.chain ++ taken next_book.acts)
        → Rule z (moment w.words w.history (with_chain (lanes_now z w) lane (next_book.chain ++ taken next_book.acts)))
    rule_followed rule below (same e) = subst (λ (lanes : Lanes). Rule z (moment w.words w.history lanes)) (lanes_still e) rule
    rule_followed rule below (first place e) =
        (follow_rule z w.words w.history (lanes_now z w) rule lane place (next_book.chain ++ taken next_book.acts) below e).0

    rule_next : Rule z (moment w.words w.history (lanes_now z w)) → lane < z.lanes
        → Followed (chain_of w lane) (next_book.chain ++ taken next_book.acts)
        → Rule z (moment w.words w.history (lanes_now z (after_reply z w lane reply)))
    rule_next rule below followed =
        subst (λ (lanes : Lanes). Rule z (moment w.words w.history lanes)) (sym lanes_next) (rule_followed rule below followed)

-- a reply keeps the rule
pub rule_reply : (z : Shape) (w : World) (lane : ℕ) (reply : Reply) → Holds z w → lane < z.lanes
    → IsReply z (pool_after z w.history) lane (w.books lane) reply
    → Rule z (moment w.words w.history (lanes_now z (after_reply z w lane reply)))
rule_reply z w lane reply h below is =
    let o = h.owned lane below in
    let b = w.books lane in
    let P = pool_after z w.history in
    rule_next z w lane reply
    (reply_under z lane P b b.left reply is.1 ∙ sym (idle z lane b.pushed (call_under_way b) b.steps b.acts o.call is.0))
    (reply_pushed z lane P b b.left reply is.1)
    h.rule below (reply_chain z lane P b b.left reply o.call is.1)
