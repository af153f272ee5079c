-- The act stands in the history, or it is the one past its end.
use Rattle.std.proofs.Common.{◌≡◌, ◌∙◌, ℕ, zero, suc, ◌<◌, ◌≤◌, true, false, ltb, List, [], ◌∷◌, ◌++◌, length, get_or, slice_get, Option, Some, None, option_copied, sym, subst, refl, arith, Bor}
use Rattle.std.specs.Prelude.{is_some, IfSome}
use Rattle.std.proofs.lemmas.Option.{slice_get_read, slice_get_within}
use borrow.Author.Tests.{lt-ltb}
use Rattle.seqpool.specs.declared.act.Act.{Act}
use Rattle.traces.specs.Books.{act_list}
use Rattle.coresteps.specs.declared.shared.Made.{Made}
use Rattle.coresteps.specs.Kept.{made_acts}
use Rattle.coresteps.proofs.shared.Shared.act_at.Goals as goal

-- ---- an act of a history, and the one past its end

in_front : (history more : List Act) (i : ℕ) (act : Act) → i < length history → slice_get (history ++ more) i ≡ Some act → slice_get history i ≡ Some act
in_front [] more i act low e = absurd (omega arith)
in_front (x ∷ history) more zero act low e = e
in_front (x ∷ history) more (suc i) act low e = in_front history more i act (omega arith) e

past : (history : List Act) (made : Option Act) (i : ℕ) (act : Act) → length history ≤ i → slice_get (history ++ act_list made) i ≡ Some act → made ≡ Some act
past [] None i act beyond e = e
past [] (Some made) zero act beyond e = e
past [] (Some made) (suc i) act beyond e = absurd (cc e)
past (x ∷ history) made zero act beyond e = absurd (omega arith)
past (x ∷ history) made (suc i) act beyond e = past history made i act (omega arith) e

read : (history : List Act) (i : ℕ) (act : Act) (got : Option (Bor Act)) → is_some got ≡ ltb i (length history)
    → IfSome got (λ x. x.now ≡ get_or history i x.now) → slice_get history i ≡ Some act → option_copied got ≡ Some act
read history i act None is at e =
    let bad : false ≡ true = is ∙ lt-ltb i (length history) (slice_get_within history i act e) in absurd (cc bad)
read history i act (Some x) is at e =
    sym (slice_get_read history (length history) i x.now refl (slice_get_within history i act e) at) ∙ e

pub returns-then-index-len : goal.returns-then-index-len
returns-then-index-len c = λ act e.
    let history = c.args.self.now.acts.items in
    let low = subst (λ (n : ℕ). c.args.index < n) (c.len.ensures ∙ c.args.self.now.acts.ok.0) c.if-index-len.true in
    let same = c.deref.ensures.value in
    read c.deref.result.now c.args.index act c.get.result c.get.ensures.lookup.0 c.get.ensures.lookup.1
    (subst (λ (xs : List Act). slice_get xs c.args.index ≡ Some act) (sym same)
    (in_front history (made_acts (option_copied c.args.made)) c.args.index act low e))

pub returns-in-Some : goal.returns-in-Some
returns-in-Some c = λ act e.
    let history = c.args.self.now.acts.items in
    let beyond = subst (λ (n : ℕ). n ≤ c.args.index) (c.len.ensures ∙ c.args.self.now.acts.ok.0) c.if-index-len.false in
    c.as_ref.ensures.value ∙ past history c.in-Some.made.now.act c.args.index act beyond
    (subst (λ (made : Option (Bor Made)). slice_get (history ++ made_acts (option_copied made)) c.args.index ≡ Some act) c.in-Some.is e)

pub returns-in-None : goal.returns-in-None
returns-in-None c = λ act e.
    let history = c.args.self.now.acts.items in
    let beyond = subst (λ (n : ℕ). n ≤ c.args.index) (c.len.ensures ∙ c.args.self.now.acts.ok.0) c.if-index-len.false in
    past history None c.args.index act beyond
    (subst (λ (made : Option (Bor Made)). slice_get (history ++ made_acts (option_copied made)) c.args.index ≡ Some act) c.in-None.is e)
