-- Each round lists one place of the row more.
use Rattle.std.proofs.Common.{◌≡◌, ◌+◌, ◌*◌, ℕ, true, false, cond, Bool, List, [], ◌∷◌, ◌++◌, length, refl, sym, ap, ◌∙◌, subst, arith, append_assoc, append-nil, length-append, eq-eqb, ne_eqb}
use Rattle.keybits.specs.declared.shape.Shape.{Shape}
use Rattle.keybits.specs.Rows.{set_places}
use Rattle.seqpool.specs.declared.act.Act.{Act}
use Rattle.seqpool.specs.Pool.{has}
use Rattle.shardpool.specs.Tokens.{LaneOf}
use Rattle.shardpool.specs.Gathers.{Brings, gather_acts}
use Rattle.shardpool.proofs.count.Given.{set-none, set-few}
use Rattle.shardpool.proofs.free.Gathers.{brings-none, brings-more}
use Rattle.shardpool.proofs.pool.Pool.gather.Goals as goal

pub loop-word-init : goal.loop-word-init
loop-word-init g c =
    let row = c.gather_row-word.ensures.gathers in
    let number : c.lane.inside.state.number ≡ c.args.lane.now.number = (λ i. (c.lane.view_is i).number) ∙ row.brings.same.2 in record {
      done = [];
      split = refl;
      counts = refl;
      brings = brings-none c.gather_row-word.new.lane row.brings.goes.legal;
      left = λ p in_it. row.gathered p (ap (λ (n : ℕ). has (set_places n c.args.row c.gather_row-word.result) p) (sym number) ∙ in_it);
      steps = refl;
      looks = omega arith;
      fillings = λ filling made. made;
    }

pub next_place-place-requires-clause-shard : goal.next_place-place-requires-clause-shard
next_place-place-requires-clause-shard g c = let seat = c.lane.invariant.1.seat in let low = seat.below in let most = seat.shape.lanes.1 in omega (arith, low, most)

pub next_place-place-requires-clause-row : goal.next_place-place-requires-clause-row
next_place-place-requires-clause-row g c =
    let low = c.requires.row in
    let most = c.lane.invariant.1.seat.shape.pages.1 in
    let shape : c.lane.inside.state.shape ≡ c.args.self.now.shape = (λ i. (c.lane.view_is i).shape) ∙ (c.gather_row-word.ensures.gathers.brings.same.1 ∙ c.requires.owns.1) in
    let pages = ap (λ (z : Shape). z.pages) shape in
    omega (arith, low, most, pages)

pub list_gathered-requires-clause-owns : goal.list_gathered-requires-clause-owns
list_gathered-requires-clause-owns g c =
    let first = c.gather_row-word.ensures.gathers.brings.same in
    let then = c.loop-word.invariant.brings.same in
    (then.0 ∙ (first.0 ∙ c.requires.owns.0), then.1 ∙ (first.1 ∙ c.requires.owns.1), then.3 ∙ (first.3 ∙ c.requires.owns.2))

pub list_gathered-requires-clause-gathered : goal.list_gathered-requires-clause-gathered
list_gathered-requires-clause-gathered g c =
    let place : ℕ = c.next_place-place.result in
    let rest : List ℕ = set_places c.lane.inside.state.number c.args.row c.next_place-place.new.word in
    c.loop-word.invariant.left place (ap (λ (l : List ℕ). has l place) c.next_place-place.ensures.place
    ∙ ap (λ (b : Bool). cond b true (has rest place)) (eq-eqb place place refl))

pub overflow_add-count : goal.overflow_add-count
overflow_add-count g c =
    let was = c.loop-word.invariant in
    let rest : List ℕ = c.next_place-place.result ∷ set_places c.lane.inside.state.number c.args.row c.next_place-place.new.word in
    let split = ap (λ (l : List ℕ). was.done ++ l) (sym c.next_place-place.ensures.place) ∙ was.split in
    let all = sym (length-append was.done rest) ∙ ap length split in
    let few = set-few c.lane.inside.state.number c.args.row c.gather_row-word.result in
    let count = was.counts in
    omega (arith, all, few, count)

pub loop-word-preserved : goal.loop-word-preserved
loop-word-preserved g c =
    let was = c.loop-word.invariant in
    let place : ℕ = c.next_place-place.result in
    let rest : List ℕ = set_places c.lane.inside.state.number c.args.row c.next_place-place.new.word in
    let lists = c.list_gathered.ensures.lists in record {
      done = was.done ++ place ∷ [];
      split = append_assoc was.done (place ∷ []) rest ∙ (ap (λ (l : List ℕ). was.done ++ l) (sym c.next_place-place.ensures.place) ∙ was.split);
      counts = length-append was.done (place ∷ []) ∙ ap (λ (n : ℕ). n + 1) was.counts;
      brings = brings-more was.brings lists.brings;
      left = λ p in_it.
          let other : p ≡ place → ⊥ = λ same. let bad : true ≡ false = sym in_it ∙ (ap (has rest) same ∙ c.next_place-place.ensures.once) in cc bad in
          lists.others p other (was.left p (ap (λ (l : List ℕ). has l p) c.next_place-place.ensures.place
          ∙ (ap (λ (b : Bool). cond b true (has rest p)) (ne_eqb p place other) ∙ in_it)));
      steps = lists.steps ∙ was.steps;
      looks = let before = was.looks in let two = lists.looks in omega (arith, before, two);
      fillings = λ filling made. c.list_gathered.ensures.fillings filling (was.fillings filling made);
    }

pub returns-clause-gathers : goal.returns-clause-gathers
returns-clause-gathers g c =
    let was = c.loop-word.invariant in
    let row = c.gather_row-word.ensures.gathers in
    let old : LaneOf = c.args.lane.now in
    let number : c.lane.inside.state.number ≡ old.number = (λ i. (c.lane.view_is i).number) ∙ row.brings.same.2 in
    let word : ℕ = c.gather_row-word.result in
    let none = set-none c.lane.inside.state.number c.args.row c.loop-word.word c.loop-word-test.false in
    let all : was.done ≡ set_places old.number c.args.row word =
    sym (append-nil was.done) ∙ (ap (λ (l : List ℕ). was.done ++ l) (sym none) ∙ (was.split ∙ ap (λ (n : ℕ). set_places n c.args.row word) number)) in record {
      word = word;
      counts = sym (ap length all) ∙ was.counts;
      given = row.given;
      brings = subst (λ (both : List Act × List ℕ). Brings both.0 both.1 old c.loop-word.lane) (λ i. (append-nil (gather_acts old.number c.args.row word) i, all i))
          (brings-more row.brings was.brings);
      steps = was.steps ∙ row.steps;
      looks = was.looks ∙ ap (λ (n : ℕ). n + 2 * c.loop-word.count) row.looks;
    }

pub returns-clause-fillings : goal.returns-clause-fillings
returns-clause-fillings g c = λ filling made. c.loop-word.invariant.fillings filling (c.gather_row-word.ensures.fillings filling made)
