-- A word is read where the table has it.
use Rattle.std.proofs.Common.{◌≡◌, ◌∙◌, ℕ, ◌+◌, ◌*◌, ◌<◌, List, length, get_or, ap, sym, subst}
use Rattle.std.specs.Vec.{vec_len}
use Rattle.std.proofs.lemmas.List.{get_or_read_under}
use Rattle.keybits.specs.declared.step.Word.{Word}
use Rattle.keybits.specs.Shapes.{all_places, position_of}
use Rattle.steplaws.specs.Facts.{value_of}
use Rattle.coresteps.specs.Kept.{IsWordOf}
use Rattle.coresteps.proofs.TableLemmas.{stack_below}
use Rattle.coresteps.proofs.words.Table.load.Goals as goal

pub index-requires : goal.index-requires
index-requires c =
    let t = c.requires.table.1 in
    subst (λ (n : ℕ). c.position.result < n) (sym (c.args.self.now.life.ok.0 ∙ t.life_length)) c.position.ensures.below

pub index-requires-in-Link : goal.index-requires-in-Link
index-requires-in-Link c =
    let t = c.requires.table.1 in
    subst (λ (n : ℕ). c.position-in-Link.result < n) (sym (c.args.self.now.links.ok.0 ∙ t.links_length)) c.position-in-Link.ensures.below

pub index-requires-in-Stack : goal.index-requires-in-Stack
index-requires-in-Stack c =
    let t = c.requires.table.1 in
    let is = subst (λ (w : Word). IsWordOf c.args.shape.now w) c.in-Stack.is c.requires.inside in
    let below = stack_below c.args.shape.now.lanes c.in-Stack.shard c.in-Stack.lane is.0 is.1 in
    subst (λ (n : ℕ). n < vec_len c.args.self.now.stacks) (sym c.stack_position.ensures)
    (subst (λ (n : ℕ). c.in-Stack.shard * c.args.shape.now.lanes + c.in-Stack.lane < n) (sym (c.args.self.now.stacks.ok.0 ∙ t.stacks_length)) below)

pub stack_position-requires-clause-inside : goal.stack_position-requires-clause-inside
stack_position-requires-clause-inside c = subst (λ (w : Word). IsWordOf c.args.shape.now w) c.in-Stack.is c.requires.inside

-- what was read at an index, where the index and the list's length are told
read : (xs : List ℕ) (i j n x y : ℕ) → x ≡ get_or xs i x → i ≡ j → i < n → length xs ≡ n → get_or xs j 0 ≡ y → x ≡ y
read xs i j n x y got same below long is =
    get_or_read_under xs i n x 0 got below (sym long) ∙ (ap (λ (k : ℕ). get_or xs k 0) same ∙ is)

pub returns-in-Life : goal.returns-in-Life
returns-in-Life c = λ words t.
    let z = c.args.shape.now in
    let is = subst (λ (w : Word). IsWordOf z w) c.in-Life.is c.requires.inside in
    read c.args.self.now.life.items c.position.result (position_of z c.in-Life.place) (all_places z) c.index.result.now (words.life c.in-Life.place)
    c.index.ensures c.position.ensures.position c.position.ensures.below t.life_length (t.life c.in-Life.place is)
    ∙ sym (ap (value_of words) c.in-Life.is)

pub returns-in-Link : goal.returns-in-Link
returns-in-Link c = λ words t.
    let z = c.args.shape.now in
    let is = subst (λ (w : Word). IsWordOf z w) c.in-Link.is c.requires.inside in
    read c.args.self.now.links.items c.position-in-Link.result (position_of z c.in-Link.place) (all_places z) c.index-in-Link.result.now (words.link c.in-Link.place)
    c.index-in-Link.ensures c.position-in-Link.ensures.position c.position-in-Link.ensures.below t.links_length (t.links c.in-Link.place is)
    ∙ sym (ap (value_of words) c.in-Link.is)

pub returns-in-Stack : goal.returns-in-Stack
returns-in-Stack c = λ words t.
    let z = c.args.shape.now in
    let shard = c.in-Stack.shard in
    let lane = c.in-Stack.lane in
    let is = subst (λ (w : Word). IsWordOf z w) c.in-Stack.is c.requires.inside in
    let below = stack_below z.lanes shard lane is.0 is.1 in
    read c.args.self.now.stacks.items c.stack_position.result (shard * z.lanes + lane) (z.lanes * z.lanes) c.index-in-Stack.result.now (words.stack shard lane)
    c.index-in-Stack.ensures c.stack_position.ensures (subst (λ (n : ℕ). n < z.lanes * z.lanes) (sym c.stack_position.ensures) below)
    t.stacks_length (t.stacks shard lane is.0 is.1)
    ∙ sym (ap (value_of words) c.in-Stack.is)
