use Rattle.std.proofs.Common.{◌≡◌, ◌∙◌, ℕ, ◌<◌, ◌≤◌, List, [], ◌∷◌, ◌++◌, length, ap, subst, arith}
use Rattle.traces.specs.Lawful.{IsLawful}
use Rattle.outcomes.proofs.LeadLemmas.{next-reached, none-reached}
use Rattle.outcomes.proofs.follow.follow.Goals as goal

pub returns-then-as_slice-len : goal.returns-then-as_slice-len
returns-then-as_slice-len c = λ size r.
    let z = c.args.shape.now in
    let schedule = c.in_ok-schedule.schedule.items in
    let trace = c.in_ok-trace.trace in
    let is : schedule ≡ c.args.from.now.schedule.items ++ c.args.lane ∷ [] =
    c.in_ok-schedule.ensures ∙ ap (λ (s : List ℕ). s ++ c.args.lane ∷ []) c.as_slice.ensures.value in
    let lawful : IsLawful z c.args.scripts.now schedule trace =
    subst (λ (s : List ℕ). IsLawful z c.args.scripts.now s trace) c.as_slice-2.ensures.value c.in_ok-trace.ensures in
    let short : length trace < length schedule = omega (arith, ap length c.as_slice-3.ensures) in
    none-reached z c.args.scripts.now size c.args.from.now c.args.lane schedule trace r is lawful short

pub returns : goal.returns
returns c = λ size r.
    let z = c.args.shape.now in
    let schedule = c.in_ok-schedule.schedule.items in
    let trace = c.in_ok-trace.trace in
    let is : schedule ≡ c.args.from.now.schedule.items ++ c.args.lane ∷ [] =
    c.in_ok-schedule.ensures ∙ ap (λ (s : List ℕ). s ++ c.args.lane ∷ []) c.as_slice.ensures.value in
    let lawful : IsLawful z c.args.scripts.now schedule trace =
    subst (λ (s : List ℕ). IsLawful z c.args.scripts.now s trace) c.as_slice-2.ensures.value c.in_ok-trace.ensures in
    let enough : length schedule ≤ length trace = omega (arith, ap length c.as_slice-3.ensures) in
    next-reached z c.args.scripts.now size c.args.from.now c.args.lane _ r is lawful enough c.in_ok-ways.ensures
