-- Each call of the closure gave what the reference at its place shows.
use Rattle.std.proofs.Common.{◌≡◌, ◌<◌, ◌∙◌, ℕ, suc, List, [], ◌∷◌, length, slice_index_or, refl, sym, ap, arith}
use Rattle.std.proofs.lemmas.List.Elements.{All-nil, All-cons, All-head, All-tail}
use Rattle.seqpool.specs.declared.act.Act.{Act}
use Rattle.lendings.specs.Owners.{OwnedOf}
use Rattle.relaysample.specs.declared.lines.Entry.{Entry}
use Rattle.relaysample.specs.declared.rows.Row.{Row}
use Rattle.relaysample.specs.Held.{keys_of, IsShown, AreShown, IsRead, ShowsAt, AreRowsOf}
use Rattle.relaysample.proofs.collector.Collector.rows.Goals as goal

rows-of : (history : List Act) (held : List (OwnedOf Entry)) (rows : List Row) → AreShown history held → length rows ≡ length held
    → ((i : ℕ) (row : Row) → i < length held → ShowsAt held i (slice_index_or rows i row)) → AreRowsOf history held rows
rows-of history [] [] shown long shows = record { keys = refl; read = All-nil (IsRead history) }
rows-of history [] (row ∷ rows) shown long shows = absurd (omega (arith, long))
rows-of history (owned ∷ held) [] shown long shows = absurd (omega (arith, long))
rows-of history (owned ∷ held) (row ∷ rows) shown long shows =
    let first = shows 0 row (omega arith) owned in
    let rest = rows-of history held rows (All-tail (IsShown history) owned held shown) (omega (arith, long))
    (λ i other low. shows (suc i) other (omega (arith, low))) in record {
      keys = ap (λ (key : ℕ). key ∷ keys_of rows) first.key ∙ ap (λ (keys : List ℕ). owned.loan.key ∷ keys) rest.keys;
      read = All-cons (IsRead history) row rows (first.line history (All-head (IsShown history) owned held shown)) rest.read;
    }

pub returns-clause-rows : goal.returns-clause-rows
returns-clause-rows g c =
    rw (← c.as_slice-held.ensures.value) (rows-of c.args.self.now.lender.lane.book.seen c.as_slice-held.result.now c.in_ok-rows.rows.items
    (rw c.as_slice-held.ensures.value c.requires) (sym c.in_ok-rows.rows.ok.0 ∙ c.in_ok-rows.ensures.len) (λ i row low. (c.in_ok-rows.ensures.each i row low).1.met))

pub map_indices-requires-after_bounds : goal.map_indices-requires-after_bounds
map_indices-requires-after_bounds g c κs within = λ i low.
    (low, (c.args.self.now.lender.lane.book.seen, rw c.as_slice-held.ensures.value c.requires))

pub returns-clause-only : goal.returns-clause-only
returns-clause-only g c = λ row line read logged.
    c.numbers_law.ensures row.line line (c.once_law.ensures.content _ _ c.seen_law.ensures.legal read.0 logged.0 row.key _ _ read.1 logged.1)
