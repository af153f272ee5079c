-- The act that published the key of a place has its content.
use Rattle.std.proofs.Common.{ℕ, ◌<◌, ◌≤◌, List, [], ◌∷◌, ◌++◌, ◌≡◌, ap, sym, ◌∙◌, subst, length, Option, Bor, arith}
use Rattle.std.specs.Option.{option_copied}
use Rattle.std.proofs.lemmas.Result.{IfOk-weaker}
use Rattle.seqpool.specs.declared.act.Act.{Act}
use Rattle.coresteps.specs.Kept.{made_acts, IsPublished}
use Rattle.traces.specs.Books.{act_list}
use Rattle.coresteps.specs.declared.shared.Made.{Made}
use Rattle.coresteps.proofs.StepLemmas.{published_front, published_last, published_none}
use Rattle.coresteps.proofs.shared.Shared.content.Goals as goal

pub returns-then-index-len : goal.returns-then-index-len
returns-then-index-len c = IfOk-weaker c.copied_content.result _ _ (λ bytes copied w text d row.
    let s = c.args.self.now in
    let p : IsPublished (s.acts.items ++ made_acts (option_copied c.args.made)) c.index_of_publish-index.result text
    = subst (λ (t : List Act × ℕ). IsPublished t.0 t.1 text) (λ i. (d.history i, sym c.index_of_publish-index.ensures i))
    (d.published c.args.place text c.requires.place row) in
    let less : c.index_of_publish-index.result < length s.acts.items = omega arith in
    let f = published_front s.acts.items (made_acts (option_copied c.args.made)) c.index_of_publish-index.result text c.index.result.now p less c.index.ensures in
    copied f.0 f.1 text f.2 f.3) c.copied_content.ensures

pub returns-in-Some-act : goal.returns-in-Some-act
returns-in-Some-act c = IfOk-weaker c.copied_content-in-Some-act.result _ _ (λ bytes copied w text d row.
    let s = c.args.self.now in
    let is : made_acts (option_copied c.args.made) ≡ c.in-Some-act.act ∷ []
    = ap (λ (o : Option (Bor Made)). made_acts (option_copied o)) c.in-Some.is ∙ ap act_list c.in-Some-act.is in
    let p : IsPublished (s.acts.items ++ c.in-Some-act.act ∷ []) c.index_of_publish-index.result text
    = subst (λ (t : List Act × ℕ). IsPublished t.0 t.1 text)
    (λ i. ((d.history ∙ ap (λ (xs : List Act). s.acts.items ++ xs) is) i, sym c.index_of_publish-index.ensures i))
    (d.published c.args.place text c.requires.place row) in
    let past : length s.acts.items ≤ c.index_of_publish-index.result = omega arith in
    let f = published_last s.acts.items c.in-Some-act.act c.index_of_publish-index.result text p past in
    copied f.0 f.1 text f.2 f.3) c.copied_content-in-Some-act.ensures

pub returns-in-None : goal.returns-in-None
returns-in-None c = λ w text d row.
    let s = c.args.self.now in
    let is : made_acts (option_copied c.args.made) ≡ []
    = ap (λ (o : Option (Bor Made)). made_acts (option_copied o)) c.in-Some.is ∙ ap act_list c.in-None.is in
    let p : IsPublished (s.acts.items ++ []) c.index_of_publish-index.result text
    = subst (λ (t : List Act × ℕ). IsPublished t.0 t.1 text)
    (λ i. ((d.history ∙ ap (λ (xs : List Act). s.acts.items ++ xs) is) i, sym c.index_of_publish-index.ensures i))
    (d.published c.args.place text c.requires.place row) in
    let past : length s.acts.items ≤ c.index_of_publish-index.result = omega arith in
    absurd (published_none s.acts.items c.index_of_publish-index.result text p past)

pub returns-in_default : goal.returns-in_default
returns-in_default c = λ w text d row.
    let s = c.args.self.now in
    let is : made_acts (option_copied c.args.made) ≡ [] = ap (λ (o : Option (Bor Made)). made_acts (option_copied o)) c.in_default.is in
    let p : IsPublished (s.acts.items ++ []) c.index_of_publish-index.result text
    = subst (λ (t : List Act × ℕ). IsPublished t.0 t.1 text)
    (λ i. ((d.history ∙ ap (λ (xs : List Act). s.acts.items ++ xs) is) i, sym c.index_of_publish-index.ensures i))
    (d.published c.args.place text c.requires.place row) in
    let past : length s.acts.items ≤ c.index_of_publish-index.result = omega arith in
    absurd (published_none s.acts.items c.index_of_publish-index.result text p past)
