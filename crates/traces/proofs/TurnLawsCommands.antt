-- A command that has its reply is done, as its call made its steps.
use Rattle.std.proofs.Common.{◌≡◌, ℕ, Bool, true, false, List, ◌++◌, length, Option, Some, None, refl, ap, sym, ◌∙◌, subst}
use Rattle.std.specs.Prelude.{flat_map}
use Rattle.keybits.specs.declared.shape.Shape.{Shape}
use Rattle.keybits.specs.Keys.{key_number}
use Rattle.seqpool.specs.declared.act.Act.{Act}
use Rattle.seqpool.specs.Pool.{Pool}
use Rattle.steplaws.specs.Calls.{Call, Publishing, Getting, Releasing, Clearing, Creating, Caller}
use Rattle.traces.specs.declared.script.Register.{Register}
use Rattle.traces.specs.declared.script.Operand.{Operand}
use Rattle.traces.specs.declared.script.Command.{Command}
use Rattle.traces.specs.declared.script.Command.TheVariants as commands
use Rattle.traces.specs.declared.reply.Reply.{Reply}
use Rattle.traces.specs.declared.reply.Reply.TheVariants as replies
use Rattle.traces.specs.declared.registers.Holding.{Holding}
use Rattle.traces.specs.declared.registers.Holding.TheVariants.{Empty, Filling, Reference}
use Rattle.traces.specs.Registers.{operand_key}
use Rattle.traces.specs.Books.{Book, free_with, caller, holding_at, publishing, releasing, creating, getting, clearing, call_of, next_in, handed_out, shown, cleared, registers_after}
use Rattle.traces.specs.Following.{HasContent, CreateReply, get_reply, WhereEmpty, WhereFilling, WhereReference, WhereKey, CommandReplies}
use Rattle.traces.specs.Making.{HasMade}
use Rattle.traces.specs.TurnLaws.{DoneCommand, Usage, unused, has_filling, has_reference, usage_of, Needs, free_of, IsCallOf, caller_after, CreateReplies, CallReplies, IsDone, skipped, at_once, by_call}
use Rattle.traces.proofs.TurnLawsCalls.{publish_made, release_made, shown_key, get_replies, clear_replies}
use Rattle.traces.proofs.TurnLawsReads.{IsPoolAt}
use Rattle.traces.proofs.TurnLawsRegisters.{Held, AllFit, AllFitAfter, usage_in, did, names, no_name, after_create, after_write, after_publish, after_downgrade, after_get, after_read, after_release, after_clear}

module _ (older : List DoneCommand) (b : Book) (fit : AllFit older b.registers) where
  -- what a register holds, as the commands tell it
  held : (r : Register) (h : Holding) → holding_at b r.number ≡ h → Held older r.number h
  held r h e = subst (λ (x : Holding). Held older r.number x) e (fit r.number r.small).1

  use_is : (r : Register) (h : Holding) → holding_at b r.number ≡ h → usage_of older r.number ≡ usage_in h
  use_is r h e = (fit r.number r.small).2 ∙ ap usage_in e

  use_isnt : (r : Register) (h : Holding) (u : Usage) → holding_at b r.number ≡ h → (u ≡ usage_in h → ⊥) → usage_of older r.number ≡ u → ⊥
  use_isnt r h u e apart is = apart (sym is ∙ use_is r h e)

  -- a command that makes a call has what it needs
  publish_has : (r : Register) (with_ref : Bool) (h : Holding) (call : Call) → holding_at b r.number ≡ h → publishing with_ref h ≡ Some call → usage_of older r.number ≡ has_filling
  publish_has r with_ref Empty call e is = absurd (cc is)
  publish_has r with_ref (Filling key content) call e is = use_is r (Filling key content) e
  publish_has r with_ref (Reference key content) call e is = absurd (cc is)

  release_has : (r : Register) (h : Holding) (call : Call) → holding_at b r.number ≡ h → releasing h ≡ Some call → usage_of older r.number ≡ has_reference
  release_has r Empty call e is = absurd (cc is)
  release_has r (Filling key content) call e is = absurd (cc is)
  release_has r (Reference key content) call e is = use_is r (Reference key content) e

  create_has : (r : Register) (h : Holding) (call : Call) → holding_at b r.number ≡ h → creating b h ≡ Some call → usage_of older r.number ≡ unused
  create_has r Empty call e is = use_is r Empty e
  create_has r (Filling key content) call e is = absurd (cc is)
  create_has r (Reference key content) call e is = absurd (cc is)

  get_has : (r : Register) (operand : Operand) (o : Option ℕ) (h : Holding) (call : Call) → operand_key b.registers operand ≡ o → holding_at b r.number ≡ h
      → getting o h ≡ Some call → Needs older (commands.Get r operand)
  get_has r operand None h call op e is = absurd (cc is)
  get_has r operand (Some key) Empty call op e is = (use_is r Empty e, (key, names older b.registers fit operand key op))
  get_has r operand (Some key) (Filling at content) call op e is = absurd (cc is)
  get_has r operand (Some key) (Reference at content) call op e is = absurd (cc is)

  clear_has : (operand : Operand) (o : Option ℕ) (call : Call) → operand_key b.registers operand ≡ o → clearing o ≡ Some call → Needs older (commands.Clear operand)
  clear_has operand None call op is = absurd (cc is)
  clear_has operand (Some key) call op is = (key, names older b.registers fit operand key op)

  pub needs_fit : (command : Command) (call : Call) → call_of b command ≡ Some call → Needs older command
  needs_fit (commands.Create r) call is = create_has r (holding_at b r.number) call refl is
  needs_fit (commands.Write r bytes) call is = absurd (cc is)
  needs_fit (commands.Publish r) call is = publish_has r false (holding_at b r.number) call refl is
  needs_fit (commands.Downgrade r) call is = publish_has r true (holding_at b r.number) call refl is
  needs_fit (commands.Get r operand) call is = get_has r operand (operand_key b.registers operand) (holding_at b r.number) call refl refl is
  needs_fit (commands.Read r) call is = absurd (cc is)
  needs_fit (commands.Release r) call is = release_has r (holding_at b r.number) call refl is
  needs_fit (commands.Clear operand) call is = clear_has operand (operand_key b.registers operand) call refl is

  module _ (z : Shape) (lane : ℕ) (free : free_of z lane older ≡ free_with b.own b.chain b.opened) where
    -- the call of a command is one that the commands before it tell
    publish_fits : (r : Register) (h : Holding) (call : Call) → holding_at b r.number ≡ h → publishing false h ≡ Some call → IsCallOf z lane older (commands.Publish r) call
    publish_fits r Empty call e is = absurd (cc is)
    publish_fits r (Filling key content) call e is =
        let same : Publishing key content false ≡ call = cc is in subst (λ (c : Call). IsCallOf z lane older (commands.Publish r) c) same (held r (Filling key content) e, refl)
    publish_fits r (Reference key content) call e is = absurd (cc is)

    downgrade_fits : (r : Register) (h : Holding) (call : Call) → holding_at b r.number ≡ h → publishing true h ≡ Some call → IsCallOf z lane older (commands.Downgrade r) call
    downgrade_fits r Empty call e is = absurd (cc is)
    downgrade_fits r (Filling key content) call e is =
        let same : Publishing key content true ≡ call = cc is in subst (λ (c : Call). IsCallOf z lane older (commands.Downgrade r) c) same (held r (Filling key content) e, refl)
    downgrade_fits r (Reference key content) call e is = absurd (cc is)

    release_fits : (r : Register) (h : Holding) (call : Call) → holding_at b r.number ≡ h → releasing h ≡ Some call → IsCallOf z lane older (commands.Release r) call
    release_fits r Empty call e is = absurd (cc is)
    release_fits r (Filling key content) call e is = absurd (cc is)
    release_fits r (Reference key content) call e is =
        let same : Releasing key ≡ call = cc is in subst (λ (c : Call). IsCallOf z lane older (commands.Release r) c) same (held r (Reference key content) e)

    create_fits : (r : Register) (h : Holding) (call : Call) → creating b h ≡ Some call → IsCallOf z lane older (commands.Create r) call
    create_fits r Empty call is =
        let same : Creating b.own b.chain b.opened ≡ call = cc is in subst (λ (c : Call). IsCallOf z lane older (commands.Create r) c) same free
    create_fits r (Filling key content) call is = absurd (cc is)
    create_fits r (Reference key content) call is = absurd (cc is)

    get_fits : (r : Register) (operand : Operand) (o : Option ℕ) (h : Holding) (call : Call) → operand_key b.registers operand ≡ o → getting o h ≡ Some call
        → IsCallOf z lane older (commands.Get r operand) call
    get_fits r operand None h call e is = absurd (cc is)
    get_fits r operand (Some key) Empty call e is =
        let same : Getting key ≡ call = cc is in subst (λ (c : Call). IsCallOf z lane older (commands.Get r operand) c) same (names older b.registers fit operand key e)
    get_fits r operand (Some key) (Filling at content) call e is = absurd (cc is)
    get_fits r operand (Some key) (Reference at content) call e is = absurd (cc is)

    clear_fits : (operand : Operand) (o : Option ℕ) (call : Call) → operand_key b.registers operand ≡ o → clearing o ≡ Some call → IsCallOf z lane older (commands.Clear operand) call
    clear_fits operand None call e is = absurd (cc is)
    clear_fits operand (Some key) call e is =
        let same : Clearing key ≡ call = cc is in subst (λ (c : Call). IsCallOf z lane older (commands.Clear operand) c) same (names older b.registers fit operand key e)

    pub call_fits : (command : Command) (call : Call) → call_of b command ≡ Some call → IsCallOf z lane older command call
    call_fits (commands.Create r) call is = create_fits r (holding_at b r.number) call is
    call_fits (commands.Write r bytes) call is = absurd (cc is)
    call_fits (commands.Publish r) call is = publish_fits r (holding_at b r.number) call refl is
    call_fits (commands.Downgrade r) call is = downgrade_fits r (holding_at b r.number) call refl is
    call_fits (commands.Get r operand) call is = get_fits r operand (operand_key b.registers operand) (holding_at b r.number) call refl is
    call_fits (commands.Read r) call is = absurd (cc is)
    call_fits (commands.Release r) call is = release_fits r (holding_at b r.number) call refl is
    call_fits (commands.Clear operand) call is = clear_fits operand (operand_key b.registers operand) call refl is

  -- a command that has its reply
  module _ (z : Shape) (history : List Act) (lane : ℕ) (P : Pool) (at : IsPoolAt z history lane (flat_map (λ (o : DoneCommand). o.acts) older ++ b.acts) P)
      (free : free_of z lane older ≡ free_with b.own b.chain b.opened) (reply : Reply) (same : caller z lane b ≡ caller_after z lane older) where
    IsNow : Command → Type 0
    IsNow command = IsDone z history lane older (did command b.steps b.acts reply)

    Whole : Option Call → Type 0
    Whole call = HasMade (caller_after z lane older) call b.steps b.acts × (next_in (caller_after z lane older) b.steps call ≡ None)

    created : (place : Option ℕ) → CreateReply z P lane place reply
        → CreateReplies z history lane (flat_map (λ (o : DoneCommand). o.acts) older ++ b.acts) place reply
    created None says = says
    created (Some place) says = (
      at.past,
      at.moment,
      ap (λ (p : Pool). (p place).phase) (sym at.is) ∙ says.1,
      says.0 ∙ ap (λ (p : Pool). replies.Filling (key_number z.tag place (p place).generation)) at.is,
    )

    create_now : (r : Register) (h : Holding) → holding_at b r.number ≡ h → Whole (creating b h) → WhereEmpty h reply (CreateReply z P lane (handed_out z lane b) reply)
        → IsNow (commands.Create r)
    unfolding IsNow Whole
    create_now r Empty e w says =
        by_call (use_is r Empty e) (Creating b.own b.chain b.opened) free (w.0.0, w.0.1, w.1) (created (handed_out z lane b) says)
    create_now r (Filling key content) e w says = skipped (use_isnt r (Filling key content) unused e (λ x. absurd (cc x))) w.0.0 w.0.1 says
    create_now r (Reference key content) e w says = skipped (use_isnt r (Reference key content) unused e (λ x. absurd (cc x))) w.0.0 w.0.1 says

    write_now : (r : Register) (bytes : List ℕ) (h : Holding) → holding_at b r.number ≡ h → Whole None → WhereFilling h reply (λ key. reply ≡ replies.Done)
        → IsNow (commands.Write r bytes)
    unfolding IsNow Whole
    write_now r bytes Empty e w says = skipped (use_isnt r Empty has_filling e (λ x. absurd (cc x))) w.0.0 w.0.1 says
    write_now r bytes (Filling key content) e w says = at_once (use_is r (Filling key content) e) w.0.0 w.0.1 says
    write_now r bytes (Reference key content) e w says = skipped (use_isnt r (Reference key content) has_filling e (λ x. absurd (cc x))) w.0.0 w.0.1 says

    publish_now : (r : Register) (h : Holding) → holding_at b r.number ≡ h → Whole (publishing false h) → WhereFilling h reply (λ key. reply ≡ replies.Key key)
        → IsNow (commands.Publish r)
    unfolding IsNow Whole
    publish_now r Empty e w says = skipped (use_isnt r Empty has_filling e (λ x. absurd (cc x))) w.0.0 w.0.1 says
    publish_now r (Filling key content) e w says =
        by_call (use_is r (Filling key content) e) (Publishing key content false) (held r (Filling key content) e, refl) (w.0.0, w.0.1, w.1)
        (publish_made (caller_after z lane older) key content false b.steps b.acts w.0.0 w.0.1 w.1, says)
    publish_now r (Reference key content) e w says = skipped (use_isnt r (Reference key content) has_filling e (λ x. absurd (cc x))) w.0.0 w.0.1 says

    downgrade_now : (r : Register) (h : Holding) → holding_at b r.number ≡ h → Whole (publishing true h) → WhereFilling h reply (λ key. reply ≡ replies.Key key)
        → IsNow (commands.Downgrade r)
    unfolding IsNow Whole
    downgrade_now r Empty e w says = skipped (use_isnt r Empty has_filling e (λ x. absurd (cc x))) w.0.0 w.0.1 says
    downgrade_now r (Filling key content) e w says =
        by_call (use_is r (Filling key content) e) (Publishing key content true) (held r (Filling key content) e, refl) (w.0.0, w.0.1, w.1)
        (publish_made (caller_after z lane older) key content true b.steps b.acts w.0.0 w.0.1 w.1, says)
    downgrade_now r (Reference key content) e w says = skipped (use_isnt r (Reference key content) has_filling e (λ x. absurd (cc x))) w.0.0 w.0.1 says

    get_now : (r : Register) (operand : Operand) (o : Option ℕ) (h : Holding) → operand_key b.registers operand ≡ o → holding_at b r.number ≡ h → Whole (getting o h)
        → WhereEmpty h reply (WhereKey o reply (λ at. reply ≡ get_reply (shown b.acts))) → IsNow (commands.Get r operand)
    unfolding IsNow Whole
    get_now r operand None Empty op e w says = skipped (λ needs. no_name older b.registers fit operand op needs.1) w.0.0 w.0.1 says
    get_now r operand None (Filling at content) op e w says = skipped (λ needs. no_name older b.registers fit operand op needs.1) w.0.0 w.0.1 says
    get_now r operand None (Reference at content) op e w says = skipped (λ needs. no_name older b.registers fit operand op needs.1) w.0.0 w.0.1 says
    get_now r operand (Some key) Empty op e w says =
        by_call (use_is r Empty e, (key, names older b.registers fit operand key op)) (Getting key) (names older b.registers fit operand key op) (w.0.0, w.0.1, w.1)
        (subst (λ (x : Reply). CallReplies z history lane (flat_map (λ (o : DoneCommand). o.acts) older) (Getting key) b.acts x) (sym says) (get_replies (caller_after z lane older) key b.steps b.acts w.0.0 w.0.1 w.1))
    get_now r operand (Some key) (Filling at content) op e w says =
        skipped (λ needs. use_isnt r (Filling at content) unused e (λ x. absurd (cc x)) needs.0) w.0.0 w.0.1 says
    get_now r operand (Some key) (Reference at content) op e w says =
        skipped (λ needs. use_isnt r (Reference at content) unused e (λ x. absurd (cc x)) needs.0) w.0.0 w.0.1 says

    read_now : (r : Register) (h : Holding) → holding_at b r.number ≡ h → Whole None
        → WhereReference h reply (λ key. (content : List ℕ) × HasContent z P key content × (reply ≡ replies.Content content)) → IsNow (commands.Read r)
    unfolding IsNow Whole
    read_now r Empty e w says = skipped (use_isnt r Empty has_reference e (λ x. absurd (cc x))) w.0.0 w.0.1 says
    read_now r (Filling key content) e w says = skipped (use_isnt r (Filling key content) has_reference e (λ x. absurd (cc x))) w.0.0 w.0.1 says
    read_now r (Reference key kept_content) e w (content, has, is) =
        at_once (use_is r (Reference key kept_content) e) w.0.0 w.0.1 (key, content, held r (Reference key kept_content) e, at.published key content has, is)

    release_now : (r : Register) (h : Holding) → holding_at b r.number ≡ h → Whole (releasing h) → WhereReference h reply (λ key. reply ≡ replies.Done)
        → IsNow (commands.Release r)
    unfolding IsNow Whole
    release_now r Empty e w says = skipped (use_isnt r Empty has_reference e (λ x. absurd (cc x))) w.0.0 w.0.1 says
    release_now r (Filling key content) e w says = skipped (use_isnt r (Filling key content) has_reference e (λ x. absurd (cc x))) w.0.0 w.0.1 says
    release_now r (Reference key content) e w says =
        by_call (use_is r (Reference key content) e) (Releasing key) (held r (Reference key content) e) (w.0.0, w.0.1, w.1)
        (release_made (caller_after z lane older) key b.steps b.acts w.0.0 w.0.1 w.1, says)

    clear_now : (operand : Operand) (o : Option ℕ) → operand_key b.registers operand ≡ o → Whole (clearing o)
        → WhereKey o reply (λ at. reply ≡ replies.Cleared (cleared b.acts)) → IsNow (commands.Clear operand)
    unfolding IsNow Whole
    clear_now operand None e w says = skipped (no_name older b.registers fit operand e) w.0.0 w.0.1 says
    clear_now operand (Some key) e w says =
        by_call (key, names older b.registers fit operand key e) (Clearing key) (names older b.registers fit operand key e) (w.0.0, w.0.1, w.1)
        (subst (λ (x : Reply). CallReplies z history lane (flat_map (λ (o : DoneCommand). o.acts) older) (Clearing key) b.acts x) (sym says) (clear_replies (caller_after z lane older) key b.steps b.acts w.0.0 w.0.1 w.1))

    by_whole : (command : Command) → Whole (call_of b command) → CommandReplies z P lane b command reply → IsNow command
    unfolding IsNow Whole
    by_whole (commands.Create r) w says = create_now r (holding_at b r.number) refl w says
    by_whole (commands.Write r bytes) w says = write_now r bytes (holding_at b r.number) refl w says
    by_whole (commands.Publish r) w says = publish_now r (holding_at b r.number) refl w says
    by_whole (commands.Downgrade r) w says = downgrade_now r (holding_at b r.number) refl w says
    by_whole (commands.Get r operand) w says = get_now r operand (operand_key b.registers operand) (holding_at b r.number) refl refl w says
    by_whole (commands.Read r) w says = read_now r (holding_at b r.number) refl w says
    by_whole (commands.Release r) w says = release_now r (holding_at b r.number) refl w says
    by_whole (commands.Clear operand) w says = clear_now operand (operand_key b.registers operand) refl w says

    pub is_now : (command : Command) → HasMade (caller z lane b) (call_of b command) b.steps b.acts → next_in (caller z lane b) b.steps (call_of b command) ≡ None
        → CommandReplies z P lane b command reply → IsDone z history lane older (did command b.steps b.acts reply)
    unfolding IsNow Whole
    is_now command made last says = by_whole command
        (subst (λ (c : Caller). HasMade c (call_of b command) b.steps b.acts × (next_in c b.steps (call_of b command) ≡ None)) same (made, last)) says

-- the registers after a command that has its reply
pub fit_after : (z : Shape) (lane : ℕ) (P : Pool) (older : List DoneCommand) (b : Book) → AllFit older b.registers → length b.registers ≡ 16 → (command : Command) (reply : Reply)
    → HasMade (caller z lane b) (call_of b command) b.steps b.acts → CommandReplies z P lane b command reply
    → AllFitAfter older (did command b.steps b.acts reply) (registers_after b command reply)
fit_after z lane P older b fit sixteen (commands.Create r) reply made says =
    after_create older b fit sixteen b.steps b.acts r z P lane reply (holding_at b r.number) (handed_out z lane b) says
fit_after z lane P older b fit sixteen (commands.Write r bytes) reply made says =
    after_write older b fit sixteen b.steps b.acts r bytes reply (holding_at b r.number) refl says
fit_after z lane P older b fit sixteen (commands.Publish r) reply made says = after_publish older b fit sixteen b.steps b.acts r reply (holding_at b r.number) says
fit_after z lane P older b fit sixteen (commands.Downgrade r) reply made says =
    after_downgrade older b fit sixteen b.steps b.acts r reply (holding_at b r.number) refl says
fit_after z lane P older b fit sixteen (commands.Get r operand) reply made says =
    after_get older b fit sixteen b.steps b.acts r operand reply (holding_at b r.number) (operand_key b.registers operand) (shown b.acts) refl
    (λ key op empty content shows.
    let m : HasMade (caller z lane b) (Some (Getting key)) b.steps b.acts =
    subst (λ (t : Option ℕ × Holding). HasMade (caller z lane b) (getting t.0 t.1) b.steps b.acts) (λ i. (op i, empty i)) made in
    shown_key (caller z lane b) key b.steps b.acts m.0 m.1 content shows) says
fit_after z lane P older b fit sixteen (commands.Read r) reply made says =
    after_read older b fit sixteen b.steps b.acts r reply (holding_at b r.number) (λ key content. HasContent z P key content) says
fit_after z lane P older b fit sixteen (commands.Release r) reply made says = after_release older b fit sixteen b.steps b.acts r reply (holding_at b r.number) says
fit_after z lane P older b fit sixteen (commands.Clear operand) reply made says =
    after_clear older b fit sixteen b.steps b.acts operand reply (operand_key b.registers operand) (cleared b.acts) says
