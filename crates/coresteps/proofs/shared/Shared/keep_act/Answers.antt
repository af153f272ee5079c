-- The act joins the history, and the place of a key that is published has the act's index.
use Rattle.std.proofs.Common.{◌≡◌, ◌∙◌, ◌++◌, ◌∷◌, [], ℕ, Result, Ok, Err, length, length-set, ap, sym, subst, refl, true, ◌<◌, set, get_or, arith}
use Rattle.std.specs.Result.{OnOk, OnErr, IsErr}
use Rattle.keybits.specs.Shapes.{position_of, is_place}
use Rattle.keybits.specs.Keys.{place_of}
use Rattle.seqpool.specs.declared.act.Act.{Act}
use Rattle.coresteps.specs.Kept.{index_of_publish}
use Rattle.coresteps.proofs.TableLemmas.{published_row}
use Rattle.coresteps.proofs.shared.Shared.keep_act.Goals as goal

pub returns-in-Publish-clause-history : goal.returns-in-Publish-clause-history
returns-in-Publish-clause-history c =
    c.in_ok-push.ensures.items ∙ ap (λ (act : Act). c.args.self.now.acts.items ++ act ∷ []) c.in_ok-copy.ensures

pub returns-in-Publish-clause-published : goal.returns-in-Publish-clause-published
returns-in-Publish-clause-published c = λ place is.
    let old = c.args.self.now in
    let z = old.shape in
    let rows = old.published.items in
    let a = c.in-Publish in
    let at : c.position.result ≡ position_of z (place_of a.key) = c.position.ensures.position ∙ ap (position_of z) c.place_of.ensures.place in
    let count : c.len-index.result ≡ length old.acts.items = omega (arith, old.acts.ok.0) in
    ap (λ (t : ℕ × ℕ). get_or (set rows t.0 t.1) (position_of z place) 0) (λ i. (at i, count i))
    ∙ (published_row z c.requires.shape rows (length old.acts.items) a.lane a.key a.content a.with_ref c.requires.rows (c.requires.place a.lane a.key a.content a.with_ref a.is) place is
    ∙ ap (λ (act : Act). index_of_publish z rows (length old.acts.items) (act ∷ []) place) (sym a.is))

pub returns-in-Publish-clause-same : goal.returns-in-Publish-clause-same
returns-in-Publish-clause-same c = tt

pub returns-in-Publish-clause-rows : goal.returns-in-Publish-clause-rows
returns-in-Publish-clause-rows c = length-set c.args.self.now.published.items c.position.result c.len-index.result

pub returns-in-Publish-clause-words : goal.returns-in-Publish-clause-words
returns-in-Publish-clause-words c = refl

pub returns-in-Publish-clause-shape : goal.returns-in-Publish-clause-shape
returns-in-Publish-clause-shape c = refl

pub returns-in_default-clause-history : goal.returns-in_default-clause-history
returns-in_default-clause-history c =
    c.in_ok-push.ensures.items ∙ ap (λ (act : Act). c.args.self.now.acts.items ++ act ∷ []) c.in_ok-copy.ensures

pub returns-in_default-clause-same : goal.returns-in_default-clause-same
returns-in_default-clause-same c = tt

pub returns-in_default-clause-rows : goal.returns-in_default-clause-rows
returns-in_default-clause-rows c = refl

pub returns-in_default-clause-words : goal.returns-in_default-clause-words
returns-in_default-clause-words c = refl

pub returns-in_default-clause-shape : goal.returns-in_default-clause-shape
returns-in_default-clause-shape c = refl

-- after a refusal nothing was answered
none_ok : {T E : Type 0} (r : Result T E) (P : Type 0) → IsErr r → OnOk r P
none_ok (Ok x) P is = absurd (cc is)
none_ok (Err e) P is = tt

in_err : {T E : Type 0} (r : Result T E) (P : Type 0) → P → OnErr r P
in_err (Ok x) P p = tt
in_err (Err e) P p = p

pub returns-in_err-copy : goal.returns-in_err-copy
returns-in_err-copy c = record {
  history = none_ok c.from_residual.result _ c.from_residual.ensures.0;
  published = none_ok c.from_residual.result _ c.from_residual.ensures.0;
  same = in_err c.from_residual.result _ (refl, refl, refl, refl);
  rows = refl;
  words = refl;
  shape = refl;
}

pub returns-in_err-push-clause-history : goal.returns-in_err-push-clause-history
returns-in_err-push-clause-history c = none_ok c.from_residual-in_err-push.result _ c.from_residual-in_err-push.ensures.0

pub returns-in_err-push-clause-published : goal.returns-in_err-push-clause-published
returns-in_err-push-clause-published c = none_ok c.from_residual-in_err-push.result _ c.from_residual-in_err-push.ensures.0

pub returns-in_err-push-clause-rows : goal.returns-in_err-push-clause-rows
returns-in_err-push-clause-rows c = refl

pub returns-in_err-push-clause-words : goal.returns-in_err-push-clause-words
returns-in_err-push-clause-words c = refl

pub returns-in_err-push-clause-shape : goal.returns-in_err-push-clause-shape
returns-in_err-push-clause-shape c = refl

pub returns-in_err-push-clause-same : goal.returns-in_err-push-clause-same
returns-in_err-push-clause-same c = in_err c.from_residual-in_err-push.result _ (refl, refl, refl, c.in_err-push.ensures.items)

pub position-requires-clause-shape : goal.position-requires-clause-shape
position-requires-clause-shape c = c.requires.shape

pub position-requires-clause-place : goal.position-requires-clause-place
position-requires-clause-place c =
    let a = c.in-Publish in
    subst (λ (place : ℕ). is_place c.args.self.now.shape place ≡ true) (sym c.place_of.ensures.place)
    (c.requires.place a.lane a.key a.content a.with_ref a.is)

pub index_mut-requires : goal.index_mut-requires
index_mut-requires c =
    subst (λ (n : ℕ). c.position.result < n) (sym (c.args.self.now.published.ok.0 ∙ c.requires.rows)) c.position.ensures.below
