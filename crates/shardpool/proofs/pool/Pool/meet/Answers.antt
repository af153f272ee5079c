-- Each lane takes in what the other has seen.
use Rattle.std.proofs.Common.{◌≡◌, ℕ, Bool, true, false, cond, ltb, ◌≤◌, List, [], ◌∷◌, length, length-append, refl, ap, sym, ◌∙◌, subst, arith, append-nil}
use Rattle.std.proofs.lemmas.Bool.{ltb-false}
use mathlib.Core.List.{IsPrefix}
use Rattle.poolsteps.specs.Seats.{longer}
use Rattle.shardpool.specs.Tokens.{LaneOf}
use Rattle.shardpool.specs.Lanes.{Owns, Did, holds, refs}
use Rattle.shardpool.proofs.frame.Tellings.{told-then, then-told}
use Rattle.shardpool.proofs.pool.Pool.meet.Goals as goal

-- where a list goes on for no more entries it is the other
no-longer : (xs ys : List ℕ) → IsPrefix xs ys → length ys ≤ length xs → xs ≡ ys
no-longer xs ys ([], is) most = sym (append-nil xs) ∙ is
no-longer xs ys (x ∷ rest, is) most = let all = length-append xs (x ∷ rest) in let same = ap length is in absurd (omega (arith, all, same, most))

longer-of : (less : Bool) (xs ys : List ℕ) → ltb (length xs) (length ys) ≡ less → IsPrefix xs ys → cond less ys xs ≡ ys
longer-of true xs ys is begins = refl
longer-of false xs ys is begins = no-longer xs ys begins (ltb-false (length xs) (length ys) is)

-- the longer of a list and one that begins it is that list
longer-begun : (xs ys : List ℕ) → IsPrefix xs ys → longer xs ys ≡ ys
longer-begun xs ys begins = longer-of (ltb (length xs) (length ys)) xs ys refl begins

pub returns-clause-rooms : goal.returns-clause-rooms
returns-clause-rooms g c =
    let one : List ℕ = c.meet_by.new.lane.book.rooms in
    let other : List ℕ = c.args.other.now.book.rooms in
    let begins : IsPrefix other one = subst (λ (rooms : List ℕ). IsPrefix rooms one) c.tell-note.ensures.rooms c.meet_by.ensures.rooms in
    ap (λ (l : LaneOf). l.book.rooms) c.tell-note-2.ensures.lane
    ∙ sym (c.meet_by-2.ensures.rooms_met
    ∙ (ap (λ (l : LaneOf). longer l.book.rooms c.tell-note-2.result.book.rooms) c.tell-note.ensures.lane
    ∙ (ap (longer other) c.tell-note-2.ensures.rooms ∙ longer-begun other one begins)))

pub tell-note-requires : goal.tell-note-requires
tell-note-requires g c = c.requires.other

pub meet_by-requires-clause-owns : goal.meet_by-requires-clause-owns
meet_by-requires-clause-owns g c = c.requires.one

pub tell-note-requires-2 : goal.tell-note-requires-2
tell-note-requires-2 g c = c.meet_by.ensures.owns

pub meet_by-requires-2-clause-owns : goal.meet_by-requires-2-clause-owns
meet_by-requires-2-clause-owns g c = subst (Owns c.args.self.now) (sym c.tell-note.ensures.lane) c.requires.other

pub returns-clause-one : goal.returns-clause-one
returns-clause-one g c = subst (Owns c.args.self.now) (sym c.tell-note-2.ensures.lane) c.meet_by.ensures.owns

pub returns-clause-other : goal.returns-clause-other
returns-clause-other g c = c.meet_by-2.ensures.owns

pub returns-clause-goes : goal.returns-clause-goes
returns-clause-goes g c = (
  subst (λ (l : LaneOf). Did [] c.args.one.now l) (sym c.tell-note-2.ensures.lane) (told-then c.meet_by.ensures.goes),
  then-told (subst (λ (l : LaneOf). Did [] l c.meet_by-2.new.lane) c.tell-note.ensures.lane c.meet_by-2.ensures.goes),
)

pub returns-clause-refs : goal.returns-clause-refs
returns-clause-refs g c = (ap refs c.tell-note-2.ensures.lane ∙ c.meet_by.ensures.refs, c.meet_by-2.ensures.refs ∙ ap refs c.tell-note.ensures.lane)

pub returns-clause-one_held : goal.returns-clause-one_held
returns-clause-one_held g c = λ key. ap (λ (l : LaneOf). holds l key) c.tell-note-2.ensures.lane ∙ c.meet_by.ensures.held key

pub returns-clause-other_held : goal.returns-clause-other_held
returns-clause-other_held g c = λ key. c.meet_by-2.ensures.held key ∙ ap (λ (l : LaneOf). holds l key) c.tell-note.ensures.lane

pub returns-clause-steps : goal.returns-clause-steps
returns-clause-steps g c = (
  ap (λ (l : LaneOf). l.book.steps) c.tell-note-2.ensures.lane ∙ c.meet_by.ensures.steps,
  c.meet_by-2.ensures.steps ∙ ap (λ (l : LaneOf). l.book.steps) c.tell-note.ensures.lane,
)

pub returns-clause-looks : goal.returns-clause-looks
returns-clause-looks g c =
    let told = ap (λ (l : LaneOf). l.book.looks) c.tell-note-2.ensures.lane in
    let tells = ap (λ (l : LaneOf). l.book.looks) c.tell-note.ensures.lane in
    let one = c.meet_by.ensures.looks in
    let other = c.meet_by-2.ensures.looks in (omega (arith, told, one), omega (arith, tells, other))

pub returns-clause-one_fillings : goal.returns-clause-one_fillings
returns-clause-one_fillings g c = λ filling made. c.tell-note-2.ensures.fillings filling (c.meet_by.ensures.fillings filling made)

pub returns-clause-other_fillings : goal.returns-clause-other_fillings
returns-clause-other_fillings g c = λ filling made. c.meet_by-2.ensures.fillings filling (c.tell-note.ensures.fillings filling made)
