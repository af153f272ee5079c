-- The lane that comes first is among them.
use Rattle.std.proofs.Common.{rules, ◌≡◌, List, [], ◌∷◌, ◌++◌, All, Contains, Option, Some, None, sym, ap, subst, ◌∙◌}
use Rattle.std.specs.Prelude.{IfSome}
use Rattle.std.proofs.lemmas.List.Elements.{All-nil, All-push, Contains-push}
use Rattle.shardpool.specs.Tokens.{LaneOf}
use Rattle.shardpool.specs.Lanes.{Owns}
use Rattle.lanestore.proofs.closing.gathered.Goals as goal

pub taken_out-requires-clause-row : goal.taken_out-requires-clause-row
taken_out-requires-clause-row g c =
    let Mine = λ (other : LaneOf). Owns c.args.pool.now other in
    let items : c.push.new.self.items ≡ c.args.row.items ++ c.args.lane ∷ [] = search rules in
    let whole : c.push.new.self.items ≡ [] ++ c.args.lane ∷ [] = items ∙ ap (λ (lanes : List LaneOf). lanes ++ c.args.lane ∷ []) c.requires.row in
    subst (All Mine) (sym whole) (All-push Mine [] c.args.lane (All-nil Mine) c.requires.lane)

-- two facts on a value, if there is one
both : {X : Type 0} (r : Option X) (P Q R : X → Type 0) → IfSome r P → IfSome r Q → ((x : X) → P x → Q x → R x) → IfSome r R
both None P Q R p q r = tt
both (Some x) P Q R p q r = r x p q

pub returns : goal.returns
returns g c =
    let Mine = λ (other : LaneOf). Owns c.args.pool.now other in
    let items : c.push.new.self.items ≡ c.args.row.items ++ c.args.lane ∷ [] = search rules in
    let whole : c.push.new.self.items ≡ [] ++ c.args.lane ∷ [] = items ∙ ap (λ (lanes : List LaneOf). lanes ++ c.args.lane ∷ []) c.requires.row in
    let here = subst (λ (all : List LaneOf). Contains all c.args.lane) (sym whole) (Contains-push [] c.args.lane) in
    both c.taken_out.result _ _ _ c.taken_out.ensures.owned c.taken_out.ensures.kept (λ lanes owned kept. (kept c.args.lane here, owned))
