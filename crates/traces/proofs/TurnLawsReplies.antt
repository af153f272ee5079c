-- What the reply of a command that is done tells.
use Rattle.std.proofs.Common.{◌≡◌, inl, inr, ℕ, Bool, true, false, cond, List, [], ◌∷◌, Option, Some, None, ap, sym, ◌∙◌, subst}
use Rattle.std.specs.Prelude.{flat_map}
use Rattle.keybits.specs.declared.shape.Shape.{Shape}
use Rattle.seqpool.specs.declared.act.Act.{Act}
use Rattle.seqpool.specs.declared.act.Act.TheVariants as acts
use Rattle.seqpool.specs.Histories.{PublishedAt}
use Rattle.steplaws.specs.Calls.{Call, Publishing, Getting, Releasing, Clearing, Creating}
use Rattle.traces.specs.declared.script.Register.{Register}
use Rattle.traces.specs.declared.script.Operand.{Operand}
use Rattle.traces.specs.declared.script.Command.{Command}
use Rattle.traces.specs.declared.script.Command.TheVariants as commands
use Rattle.traces.specs.declared.reply.Reply.{Reply}
use Rattle.traces.specs.declared.reply.Reply.TheVariants as replies
use Rattle.traces.specs.TurnLaws.{DoneCommand, IsWritten, Names, IsCallOf, CreateReplies, GetReplies, ClearReplies, CallReplies, RepliesAtOnce, skipped, at_once, by_call, SkipLaw, PublishedLaw, ReadLaw, FoundLaw}

-- ---- skip

created_no_skip : (z : Shape) (history : List Act) (lane : ℕ) (own : List Act) (place : Option ℕ) (reply : Reply) → CreateReplies z history lane own place reply
    → reply ≡ replies.Skip → ⊥
created_no_skip z history lane own None reply says skip = let bad : replies.Full ≡ replies.Skip = sym says ∙ skip in absurd (cc bad)
created_no_skip z history lane own (Some place) reply (past, moment, is_with, says) skip = let bad = sym says ∙ skip in absurd (cc bad)

got_no_skip : (z : Shape) (lane key : ℕ) (made : List Act) (reply : Reply) → GetReplies z lane key made reply → reply ≡ replies.Skip → ⊥
got_no_skip z lane key made reply (inl found) skip = let bad : replies.Found found.0 ≡ replies.Skip = sym found.2 ∙ skip in absurd (cc bad)
got_no_skip z lane key made reply (inr (inl missed)) skip = let bad : replies.Missing ≡ replies.Skip = sym missed.2 ∙ skip in absurd (cc bad)
got_no_skip z lane key made reply (inr (inr outside)) skip = let bad : replies.Missing ≡ replies.Skip = sym outside.2 ∙ skip in absurd (cc bad)

cleared_no_skip : (z : Shape) (lane key : ℕ) (made : List Act) (reply : Reply) → ClearReplies z lane key made reply → reply ≡ replies.Skip → ⊥
cleared_no_skip z lane key made reply (inl marks) skip = let bad : replies.Cleared marks.0 ≡ replies.Skip = sym marks.3 ∙ skip in absurd (cc bad)
cleared_no_skip z lane key made reply (inr outside) skip = let bad : replies.Cleared false ≡ replies.Skip = sym outside.2 ∙ skip in absurd (cc bad)

call_no_skip : (z : Shape) (history : List Act) (lane : ℕ) (before : List Act) (call : Call) (made : List Act) (reply : Reply) → CallReplies z history lane before call made reply → reply ≡ replies.Skip → ⊥
call_no_skip z history lane before (Publishing key content with_ref) made reply says skip = let bad : replies.Key key ≡ replies.Skip = sym says.1 ∙ skip in absurd (cc bad)
call_no_skip z history lane before (Getting key) made reply says skip = got_no_skip z lane key made reply says skip
call_no_skip z history lane before (Releasing key) made reply says skip = let bad : replies.Done ≡ replies.Skip = sym says.1 ∙ skip in absurd (cc bad)
call_no_skip z history lane before (Clearing key) made reply says skip = cleared_no_skip z lane key made reply says skip
call_no_skip z history lane before (Creating own chain opened) made reply says skip = created_no_skip z history lane _ _ reply says skip

at_once_no_skip : (history : List Act) (older : List DoneCommand) (command : Command) (reply : Reply) → RepliesAtOnce history older command reply → reply ≡ replies.Skip → ⊥
at_once_no_skip history older (commands.Create r) reply says skip = absurd says
at_once_no_skip history older (commands.Write r bytes) reply says skip = let bad : replies.Done ≡ replies.Skip = sym says ∙ skip in absurd (cc bad)
at_once_no_skip history older (commands.Publish r) reply says skip = absurd says
at_once_no_skip history older (commands.Downgrade r) reply says skip = absurd says
at_once_no_skip history older (commands.Get r operand) reply says skip = absurd says
at_once_no_skip history older (commands.Read r) reply says skip = let bad : replies.Content says.1 ≡ replies.Skip = sym says.4 ∙ skip in absurd (cc bad)
at_once_no_skip history older (commands.Release r) reply says skip = absurd says
at_once_no_skip history older (commands.Clear operand) reply says skip = absurd says

pub skip-law : SkipLaw
skip-law z history lane older d (skipped needs steps made reply) = (λ is. needs, λ none. reply)
skip-law z history lane older d (at_once needs steps made says) =
    (λ is. absurd (at_once_no_skip history older d.command d.reply says is), λ none. absurd (none needs))
skip-law z history lane older d (by_call needs call fits whole says) =
    (λ is. absurd (call_no_skip z history lane _ call d.acts d.reply says is), λ none. absurd (none needs))

-- ---- publish

publish_call : (z : Shape) (history : List Act) (lane : ℕ) (before : List Act) (older : List DoneCommand) (register : Register) (key : ℕ) (with_ref : Bool) (call : Call) (made : List Act)
    → IsCallOf z lane older (cond with_ref (commands.Downgrade register) (commands.Publish register)) call → CallReplies z history lane before call made (replies.Key key)
    → (content : List ℕ) × IsWritten older register.number key content × (made ≡ acts.Publish lane key content with_ref ∷ [])
publish_call z history lane before older register key true (Publishing at content with_ref) made fits says =
    let same : at ≡ key = let e : replies.Key key ≡ replies.Key at = says.1 in cc e in
    (content, subst (λ (k : ℕ). IsWritten older register.number k content) same fits.0, says.0 ∙ (λ i. acts.Publish lane (same i) content (fits.1 i) ∷ []))
publish_call z history lane before older register key true (Getting at) made fits says = absurd fits
publish_call z history lane before older register key true (Releasing at) made fits says = absurd fits
publish_call z history lane before older register key true (Clearing at) made fits says = absurd fits
publish_call z history lane before older register key true (Creating own chain opened) made fits says = absurd fits
publish_call z history lane before older register key false (Publishing at content with_ref) made fits says =
    let same : at ≡ key = let e : replies.Key key ≡ replies.Key at = says.1 in cc e in
    (content, subst (λ (k : ℕ). IsWritten older register.number k content) same fits.0, says.0 ∙ (λ i. acts.Publish lane (same i) content (fits.1 i) ∷ []))
publish_call z history lane before older register key false (Getting at) made fits says = absurd fits
publish_call z history lane before older register key false (Releasing at) made fits says = absurd fits
publish_call z history lane before older register key false (Clearing at) made fits says = absurd fits
publish_call z history lane before older register key false (Creating own chain opened) made fits says = absurd fits

publish_at_once : (history : List Act) (older : List DoneCommand) (register : Register) (with_ref : Bool) (reply : Reply)
    → RepliesAtOnce history older (cond with_ref (commands.Downgrade register) (commands.Publish register)) reply → ⊥
publish_at_once history older register true reply says = says
publish_at_once history older register false reply says = says

pub published-law : PublishedLaw
published-law z history lane older d (skipped needs steps made skip) register key with_ref command reply =
    let bad : replies.Skip ≡ replies.Key key = sym skip ∙ reply in absurd (cc bad)
published-law z history lane older d (at_once needs steps made says) register key with_ref command reply =
    absurd (publish_at_once history older register with_ref d.reply (subst (λ (c : Command). RepliesAtOnce history older c d.reply) command says))
published-law z history lane older d (by_call needs call fits whole says) register key with_ref command reply =
    publish_call z history lane (flat_map (λ (o : DoneCommand). o.acts) older) older register key with_ref call d.acts (subst (λ (c : Command). IsCallOf z lane older c call) command fits)
    (subst (λ (r : Reply). CallReplies z history lane (flat_map (λ (o : DoneCommand). o.acts) older) call d.acts r) reply says)

-- ---- read

no_read_call : (z : Shape) (lane : ℕ) (older : List DoneCommand) (register : Register) (call : Call) → IsCallOf z lane older (commands.Read register) call → ⊥
no_read_call z lane older register (Publishing key content with_ref) fits = fits
no_read_call z lane older register (Getting key) fits = fits
no_read_call z lane older register (Releasing key) fits = fits
no_read_call z lane older register (Clearing key) fits = fits
no_read_call z lane older register (Creating own chain opened) fits = fits

pub read-law : ReadLaw
read-law z history lane older d (skipped needs steps made skip) register content command reply =
    let bad : replies.Skip ≡ replies.Content content = sym skip ∙ reply in absurd (cc bad)
read-law z history lane older d (at_once needs steps made says) register content command reply =
    let r : RepliesAtOnce history older (commands.Read register) d.reply = subst (λ (c : Command). RepliesAtOnce history older c d.reply) command says in
    let same : r.1 ≡ content = let e : replies.Content r.1 ≡ replies.Content content = sym r.4 ∙ reply in cc e in
    (r.0, r.2, (r.3.0, subst (λ (c : List ℕ). PublishedAt history r.3.0 r.0 c) same r.3.1))
read-law z history lane older d (by_call needs call fits whole says) register content command reply =
    absurd (no_read_call z lane older register call (subst (λ (c : Command). IsCallOf z lane older c call) command fits))

-- ---- get

got_found : (z : Shape) (lane key : ℕ) (made : List Act) (reply : Reply) (content : List ℕ) → GetReplies z lane key made reply → reply ≡ replies.Found content
    → made ≡ acts.Get lane key (Some content) ∷ []
got_found z lane key made reply content (inl found) is =
    let same : found.0 ≡ content = let e : replies.Found found.0 ≡ replies.Found content = sym found.2 ∙ is in cc e in
    found.1 ∙ ap (λ (c : List ℕ). acts.Get lane key (Some c) ∷ []) same
got_found z lane key made reply content (inr (inl missed)) is = let bad : replies.Missing ≡ replies.Found content = sym missed.2 ∙ is in absurd (cc bad)
got_found z lane key made reply content (inr (inr outside)) is = let bad : replies.Missing ≡ replies.Found content = sym outside.2 ∙ is in absurd (cc bad)

-- what the first act shows, if that is a Get
first_shown : List Act → Option (List ℕ)
first_shown [] = None
first_shown (acts.Get lane key reply ∷ more) = reply
first_shown (act ∷ more) = None

found_got : (z : Shape) (lane key other : ℕ) (made : List Act) (reply : Reply) (content : List ℕ) → GetReplies z lane key made reply
    → made ≡ acts.Get lane other (Some content) ∷ [] → reply ≡ replies.Found content
unfolding first_shown
found_got z lane key other made reply content (inl found) is =
    let e : Some found.0 ≡ Some content = ap first_shown (sym found.1 ∙ is) in
    let same : found.0 ≡ content = cc e in found.2 ∙ ap (λ (c : List ℕ). replies.Found c) same
found_got z lane key other made reply content (inr (inl missed)) is =
    let bad : None ≡ Some content = ap first_shown (sym missed.1 ∙ is) in absurd (cc bad)
found_got z lane key other made reply content (inr (inr outside)) is =
    let bad : None ≡ Some content = ap first_shown (sym outside.1 ∙ is) in absurd (cc bad)

get_call : (z : Shape) (history : List Act) (lane : ℕ) (before : List Act) (older : List DoneCommand) (register : Register) (operand : Operand) (call : Call) (made : List Act) (reply : Reply) (content : List ℕ)
    → IsCallOf z lane older (commands.Get register operand) call → CallReplies z history lane before call made reply
    → (reply ≡ replies.Found content → (key : ℕ) × Names older operand key × (made ≡ acts.Get lane key (Some content) ∷ []))
    × ((other : ℕ) → made ≡ acts.Get lane other (Some content) ∷ [] → reply ≡ replies.Found content)
get_call z history lane before older register operand (Publishing key c with_ref) made reply content fits says = absurd fits
get_call z history lane before older register operand (Getting key) made reply content fits says =
    (λ is. (key, fits, got_found z lane key made reply content says is), λ other is. found_got z lane key other made reply content says is)
get_call z history lane before older register operand (Releasing key) made reply content fits says = absurd fits
get_call z history lane before older register operand (Clearing key) made reply content fits says = absurd fits
get_call z history lane before older register operand (Creating own chain opened) made reply content fits says = absurd fits

pub found-law : FoundLaw
unfolding first_shown
found-law z history lane older d (skipped needs steps made skip) register operand content command = (
  λ reply. let bad : replies.Skip ≡ replies.Found content = sym skip ∙ reply in absurd (cc bad),
  λ shows. let bad : None ≡ Some content = ap first_shown (sym made ∙ shows.2) in absurd (cc bad),
)
found-law z history lane older d (at_once needs steps made says) register operand content command =
    absurd (subst (λ (c : Command). RepliesAtOnce history older c d.reply) command says)
found-law z history lane older d (by_call needs call fits whole says) register operand content command =
    let g = get_call z history lane (flat_map (λ (o : DoneCommand). o.acts) older) older register operand call d.acts d.reply content (subst (λ (c : Command). IsCallOf z lane older c call) command fits) says in
    (g.0, λ shows. g.1 shows.0 shows.2)
