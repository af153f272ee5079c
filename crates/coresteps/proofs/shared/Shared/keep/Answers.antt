-- A step is made: its act joins the history, and its word has the value after it.
use Rattle.std.proofs.Common.{◌≡◌, ◌∙◌, ap, sym, subst, refl, Some, Result, Ok, Err}
use Rattle.std.specs.Result.{OnOk, OnErr, IsErr}
use Rattle.keybits.specs.declared.shape.Shape.{Shape}
use Rattle.keybits.specs.Shapes.{IsShape}
use Rattle.coresteps.specs.declared.shared.Shared.{Shared}
use Rattle.coresteps.specs.declared.words.Table.{Table}
use Rattle.coresteps.specs.Kept.{IsTable, IsWordOf}
use Rattle.coresteps.proofs.TableLemmas.{step_kept, joined_none, joined_some}
use Rattle.coresteps.proofs.shared.Shared.keep.Goals as goal
use Rattle.coresteps.proofs.shared.Shared.keep.Goals.{in-Some+in_ok-keep_act, in_default}

pub keep_act-requires-clause-place : goal.keep_act-requires-clause-place
keep_act-requires-clause-place c = λ lane key content with_ref e. c.requires.place lane key content with_ref (c.in-Some.is ∙ ap Some e)

pub returns-clause-ok : goal.returns-clause-ok
returns-clause-ok c = λ w draft.
    let old = c.args.self.now in
    let made = c.args.made.now in
    step_kept old c.match-made.self _ w made
    (elim c.match-made.branch [
      | in-Some+in_ok-keep_act v ↦
          let e = v.in_ok-keep_act.ensures in
          joined_some old c.match-made.self v.keep_act.new.self made.act v.in-Some.act v.in-Some.is v.self-is
          record { shape = e.shape; words = e.words; acts_are = e.history; places = e.rows; rows = e.published }
      | in_default v ↦ joined_none old c.match-made.self made.act v.in_default.is v.self-is
    ])
    c.store.ensures refl refl refl draft

-- after a refusal nothing was answered
none_ok : {T E : Type 0} (r : Result T E) (P : Type 0) → IsErr r → OnOk r P
none_ok (Ok x) P is = absurd (cc is)
none_ok (Err e) P is = tt

in_err : {T E : Type 0} (r : Result T E) (P : Type 0) → P → OnErr r P
in_err (Ok x) P p = tt
in_err (Err e) P p = p

pub keep_act-requires-clause-shape : goal.keep_act-requires-clause-shape
keep_act-requires-clause-shape c = c.requires.draft.1.kept.holds.rule.limits

pub keep_act-requires-clause-rows : goal.keep_act-requires-clause-rows
keep_act-requires-clause-rows c = c.requires.draft.1.places

pub returns-in_err-keep_act : goal.returns-in_err-keep_act
returns-in_err-keep_act c = record {
  ok = none_ok c.from_residual.result _ c.from_residual.ensures.0;
  same = in_err c.from_residual.result _ c.in_err-keep_act.ensures.same;
  shape = c.in_err-keep_act.ensures.shape;
}

pub store-requires-clause-shape : goal.store-requires-clause-shape
store-requires-clause-shape c =
    let same : c.match-made.self.shape ≡ c.args.self.now.shape = elim c.match-made.branch [
      | in-Some+in_ok-keep_act v ↦ ap (λ (s : Shared). s.shape) v.self-is ∙ v.in_ok-keep_act.ensures.shape
      | in_default v ↦ ap (λ (s : Shared). s.shape) v.self-is
    ] in
    subst (λ (z : Shape). IsShape z) (sym same) c.requires.draft.1.kept.holds.rule.limits

pub store-requires-clause-inside : goal.store-requires-clause-inside
store-requires-clause-inside c =
    let same : c.match-made.self.shape ≡ c.args.self.now.shape = elim c.match-made.branch [
      | in-Some+in_ok-keep_act v ↦ ap (λ (s : Shared). s.shape) v.self-is ∙ v.in_ok-keep_act.ensures.shape
      | in_default v ↦ ap (λ (s : Shared). s.shape) v.self-is
    ] in
    subst (λ (z : Shape). IsWordOf z c.args.made.now.step.word) (sym same) c.requires.word

pub store-requires-clause-table : goal.store-requires-clause-table
store-requires-clause-table c =
    let old = c.args.self.now in
    let new = c.match-made.self in
    let d = c.requires.draft.1 in
    let same : (old.shape ≡ new.shape) × (old.words ≡ new.words) = elim c.match-made.branch [
      | in-Some+in_ok-keep_act v ↦
          let e = v.in_ok-keep_act.ensures in
          (sym (ap (λ (s : Shared). s.shape) v.self-is ∙ e.shape), sym (ap (λ (s : Shared). s.words) v.self-is ∙ e.words))
      | in_default v ↦ (sym (ap (λ (s : Shared). s.shape) v.self-is), sym (ap (λ (s : Shared). s.words) v.self-is))
    ] in
    (d.before, subst (λ (t : Shape × Table). IsTable t.0 d.before t.1) (λ i. (same.0 i, same.1 i)) d.table)

pub returns-clause-same : goal.returns-clause-same
returns-clause-same c = tt

pub returns-clause-shape : goal.returns-clause-shape
returns-clause-shape c =
    let same : c.match-made.self.shape ≡ c.args.self.now.shape = elim c.match-made.branch [
      | in-Some+in_ok-keep_act v ↦ ap (λ (s : Shared). s.shape) v.self-is ∙ v.in_ok-keep_act.ensures.shape
      | in_default v ↦ ap (λ (s : Shared). s.shape) v.self-is
    ] in
    same
