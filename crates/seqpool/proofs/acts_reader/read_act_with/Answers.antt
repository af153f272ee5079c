use Rattle.std.proofs.Common.{◌∙◌, List, ℕ, decimal, sym, ap, arith}
use Rattle.std.proofs.lemmas.Result.{err_from_is_err_and}
use Rattle.seqpool.specs.declared.act.Act.TheVariants.{Release, Reclaim, Home, Collect}
use Rattle.seqpool.specs.declared.act.ActName.TheVariants as names
use Rattle.seqpool.specs.ReadTexts.{spaced, name_text, ArePlaces, HasOperands}
use Rattle.seqpool.proofs.Parts.{refuses-as}
use Rattle.seqpool.proofs.ActTexts.{act_line-parts}
use Rattle.seqpool.proofs.ActRefusals.{release-unkeyed, reclaim-unkeyed, home-unplaced, collect-unplaced}
use Rattle.seqpool.proofs.acts_reader.read_act_with.Goals as goal

pub returns-in-Publish : goal.returns-in-Publish
returns-in-Publish c = rw c.in-Publish.is c.read_publish.ensures

pub returns-in-Get : goal.returns-in-Get
returns-in-Get c = rw c.in-Get.is c.read_get.ensures

pub returns-in-Some : goal.returns-in-Some
returns-in-Some c =
    let line : List ℕ → List ℕ = λ xs. spaced (decimal c.args.lane) (spaced (name_text names.Release) xs) in
    rw c.in-Release.is
    ((omega arith, c.in-Some.ensures.0), act_line-parts (Release c.args.lane c.in-Some.key) ∙ ap line (sym c.in-Some.ensures.1))

pub returns-in-Some-read_key : goal.returns-in-Some-read_key
returns-in-Some-read_key c =
    let line : List ℕ → List ℕ = λ xs. spaced (decimal c.args.lane) (spaced (name_text names.Reclaim) xs) in
    let found = c.in-Some-read_key.ensures in
    rw c.in-Reclaim.is ((omega arith, found.0), act_line-parts (Reclaim c.args.lane c.in-Some-read_key.key) ∙ ap line (sym found.1))

pub returns-in-Some-read_place : goal.returns-in-Some-read_place
returns-in-Some-read_place c =
    let line : List ℕ → List ℕ = λ xs. spaced (decimal c.args.lane) (spaced (name_text names.Home) xs) in
    let found = c.in-Some-read_place.ensures in
    rw c.in-Home.is ((omega arith, found.0), act_line-parts (Home c.args.lane c.in-Some-read_place.place) ∙ ap line (sym found.1))

pub returns-in_ok-places-in-Collect : goal.returns-in_ok-places-in-Collect
returns-in_ok-places-in-Collect c =
    let line : List ℕ → List ℕ = λ xs. spaced (decimal c.args.lane) (spaced (name_text names.Collect) xs) in
    let are = c.in_ok-places-in-Collect.ensures {u = tt} in
    rw c.in-Collect.is
    ((omega arith, are.0, are.1), act_line-parts (Collect c.args.lane c.in_ok-places-in-Collect.places) ∙ ap line (sym are.2))

pub returns-in_default : goal.returns-in_default
returns-in_default c = rw c.in-Release.is (release-unkeyed c.args.lane c.args.operands.now (omega arith) c.in_default.ensures)

pub returns-in_default-read_key : goal.returns-in_default-read_key
returns-in_default-read_key c = rw c.in-Reclaim.is (reclaim-unkeyed c.args.lane c.args.operands.now (omega arith) c.in_default-read_key.ensures)

pub returns-in_default-read_place : goal.returns-in_default-read_place
returns-in_default-read_place c = rw c.in-Home.is (home-unplaced c.args.lane c.args.operands.now (omega arith) c.in_default-read_place.ensures)

pub returns-in_err-places-in-Collect : goal.returns-in_err-places-in-Collect
returns-in_err-places-in-Collect c =
    let p = err_from_is_err_and c.from_residual.result c.from_residual.ensures.1 in
    rw (c.in-Collect.is, p.1, p.2)
    (refuses-as ArePlaces (HasOperands c.args.lane names.Collect) c.args.operands.now c.args.operands.now
    (collect-unplaced c.args.lane c.args.operands.now (omega arith))
    c.in_err-places-in-Collect.field-0.0 (c.in_err-places-in-Collect.ensures {u = tt}))
