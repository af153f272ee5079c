-- The note has seen what the lane has.
use Rattle.std.proofs.Common.{◌∙◌, sym, ap, subst}
use Rattle.shardpool.specs.Tokens.{LaneOf}
use Rattle.shardpool.specs.Lanes.{holds, refs}
use Rattle.poollaws.specs.Words.{IsPublished}
use Rattle.poollaws.specs.Cleared.{cleared_by}
use Rattle.guards.specs.Seated.{content_in}
use Rattle.guards.proofs.Seating.{told-content, same-content, tells-on}
use Rattle.guards.proofs.seats.Seat.tell.Goals as goal

pub of-requires-clause-published : goal.of-requires-clause-published
of-requires-clause-published g c =
    let published = c.requires.published in
    subst (λ seen. IsPublished seen c.args.key (content_in seen c.args.key)) (sym c.tell-note.ensures.note.1) (told-content c.args.self.now.lane.book.seen c.args.key published.0 published.1)

pub returns-clause-content : goal.returns-clause-content
returns-clause-content g c = λ content published.
    ap (λ told. told.content) c.of.ensures
    ∙ (ap (λ seen. content_in seen c.args.key) c.tell-note.ensures.note.1
    ∙ same-content c.once_law.ensures.content _ c.args.self.now.lane.book.seen c.seen_law.ensures.legal c.args.key content published)

-- ---- the look that it costs

pub invariant_of-self : goal.invariant_of-self
invariant_of-self g c =
    let mine = c.args.self.now in
    let told = c.tell-note.ensures.lane in record {
      pool_is = mine.pool_is;
      table = ap (λ (lane : LaneOf). lane.table) told ∙ mine.table;
      directory = ap (λ (lane : LaneOf). lane.directory) told ∙ mine.directory;
      shape = ap (λ (lane : LaneOf). lane.shape) told ∙ mine.shape;
      unburdened = ap refs told ∙ mine.unburdened;
    }

pub returns-clause-keeps : goal.returns-clause-keeps
returns-clause-keeps g c = record { fillings = c.tell-note.ensures.fillings; held = λ key. ap (λ (lane : LaneOf). holds lane key) c.tell-note.ensures.lane }

pub returns-clause-number : goal.returns-clause-number
returns-clause-number g c = ap (λ (lane : LaneOf). lane.number) c.tell-note.ensures.lane

pub returns-clause-goes : goal.returns-clause-goes
returns-clause-goes g c = tells-on c.tell-note.ensures.lane

pub returns-clause-none_cleared : goal.returns-clause-none_cleared
returns-clause-none_cleared g c = ap cleared_by c.tell-note.ensures.lane
