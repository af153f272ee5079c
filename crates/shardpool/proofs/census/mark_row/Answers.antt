-- The place of each bit is the next of the row.
use Rattle.std.proofs.Common.{◌≡◌, ◌<◌, ℕ, List, [], ◌∷◌, ◌++◌, refl, sym, ap, ◌∙◌, subst, arith, append_assoc, append-nil}
use Rattle.keybits.specs.Counts.{times}
use Rattle.keybits.specs.Rows.{set_places}
use Rattle.keybits.proofs.CountLemmas.{times-head, times-append}
use Rattle.shardpool.specs.Marks.{Blanks}
use Rattle.shardpool.proofs.count.Marks.{blanks-none, blanks-then}
use Rattle.shardpool.proofs.count.Given.{set-none}
use Rattle.shardpool.proofs.census.mark_row.Goals as goal
use Rattle.shardpool.proofs.census.mark_row.Goals.{After-next_place-place}

pub loop-word-init : goal.loop-word-init
loop-word-init c = ([], refl, blanks-none c.args.shape.now c.args.words.now c.requires.row)

pub next_place-place-requires-clause-shard : goal.next_place-place-requires-clause-shard
next_place-place-requires-clause-shard c = let low = c.requires.shard in let most = c.requires.shape.lanes.1 in omega (arith, low, most)

pub next_place-place-requires-clause-row : goal.next_place-place-requires-clause-row
next_place-place-requires-clause-row c = let low = c.requires.number in let most = c.requires.shape.pages.1 in omega (arith, low, most)

-- the places that are left, of which this is the first
split : (c : After-next_place-place) → c.loop-word.invariant.0 ++ (c.next_place-place.result ∷ set_places c.args.shard c.args.row c.next_place-place.new.word) ≡ set_places c.args.shard c.args.row c.args.word
split c = ap (λ (l : List ℕ). c.loop-word.invariant.0 ++ l) (sym c.next_place-place.ensures.place) ∙ c.loop-word.invariant.1

pub mark-requires-clause-place : goal.mark-requires-clause-place
mark-requires-clause-place c =
    let at = (goal.at.mark-requires-clause-place c).After-next_place-place in
    let rest : List ℕ = c.next_place-place.result ∷ set_places c.args.shard c.args.row c.next_place-place.new.word in
    let head = times-head c.next_place-place.result (set_places c.args.shard c.args.row c.next_place-place.new.word) in
    let both = times-append c.next_place-place.result c.loop-word.invariant.0 rest in
    let among : 0 < times c.next_place-place.result (c.loop-word.invariant.0 ++ rest) = omega (arith, head, both) in
    (c.requires.places c.next_place-place.result (subst (λ (l : List ℕ). 0 < times c.next_place-place.result l) (split at) among)).0

pub loop-word-preserved : goal.loop-word-preserved
loop-word-preserved c =
    let done : List ℕ = c.loop-word.invariant.0 in
    let place : ℕ = c.next_place-place.result in (
      done ++ place ∷ [],
      append_assoc done (place ∷ []) (set_places c.args.shard c.args.row c.next_place-place.new.word) ∙ split (goal.at.loop-word-preserved c).After-next_place-place,
      blanks-then c.args.shape.now done (place ∷ []) c.args.words.now c.loop-word.words c.mark.new.words c.loop-word.invariant.2 c.mark.ensures,
    )

pub returns : goal.returns
returns c =
    let none = set-none c.args.shard c.args.row c.loop-word.word c.loop-word-test.false in
    let all : c.loop-word.invariant.0 ≡ set_places c.args.shard c.args.row c.args.word =
    sym (append-nil c.loop-word.invariant.0) ∙ (ap (λ (l : List ℕ). c.loop-word.invariant.0 ++ l) (sym none) ∙ c.loop-word.invariant.1) in
    subst (λ (l : List ℕ). Blanks c.args.shape.now l c.args.words.now c.loop-word.words) all c.loop-word.invariant.2
