use Rattle.std.proofs.Common.{◌+◌, ◌++◌, ℕ, codes, decimal, refl, subst}
use Rattle.traceviews.specs.Pages.{Grows}
use Rattle.traceviews.proofs.PageLemmas.{grows_more}
use Rattle.traceviews.proofs.events.push_lane.Goals as goal

pub returns : goal.returns
returns c =
    let p0 = c.args.out.now in
    let p1 = c.named.new.self in
    let p2 = c.named-2.new.self in
    let track = codes ",\n{\"ph\":\"M\",\"pid\":1,\"name\":\"thread_name\",\"tid\":" in
    let name = codes ",\"args\":{\"name\":\"lane " in
    let t1 = track ++ decimal (c.args.lane + 1) in
    let t2 = name ++ decimal c.args.lane in
    let first : Grows p0 p1 t1 = subst (λ (n : ℕ). Grows p0 p1 (track ++ decimal (n + 1))) c.from.ensures c.named.ensures in
    let second : Grows p1 p2 t2 = subst (λ (n : ℕ). Grows p1 p2 (name ++ decimal n)) c.from-2.ensures c.named-2.ensures in
    let both = grows_more p0 p1 p2 t1 t2 (t1 ++ t2) first second refl in
    grows_more p0 p2 c.text.new.self (t1 ++ t2) (codes "\"}}") _ both c.text.ensures refl
