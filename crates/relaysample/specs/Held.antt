-- What the collector holds, and what threads read of it.
use Rattle.std.specs.Prelude.{◌≡◌, ℕ, List, All, map, Some, slice_index_or}
use Rattle.seqpool.specs.declared.act.Act.{Act}
use Rattle.poolsteps.specs.Share.{Share}
use Rattle.lendings.specs.Owners.{OwnedOf}
use Rattle.poollaws.specs.Words.{IsPublished}
use Rattle.relaysample.specs.declared.rows.Row.{Row}
use Rattle.relaysample.specs.declared.lines.Line.{Line}
use Rattle.relaysample.specs.declared.lines.Entry.{Entry}
use Rattle.relaysample.specs.Lines.{numbers_of, content_of, IsLine}

-- the keys of references, and of rows
abbrev pub held_keys : List (OwnedOf Entry) → List ℕ
held_keys held = map (λ owned. owned.loan.key) held

abbrev pub keys_of : List Row → List ℕ
keys_of rows = map (λ row. row.key) rows

-- the reference shows a line that is published under its key
pub record IsShown (history : List Act) (owned : OwnedOf Entry) : Type 0 where
  pub share : Share Entry
  pub share_is : owned.loan.share ≡ Some share
  pub line : IsLine (content_of share.object)
  pub published : IsPublished history owned.loan.key (content_of share.object)

abbrev pub AreShown : List Act → List (OwnedOf Entry) → Type 0
AreShown history held = All (IsShown history) held

-- the row's line is published under its key
abbrev pub IsRead : List Act → Row → Type 0
IsRead history row = IsPublished history row.key (numbers_of row.line)

abbrev pub AreRead : List Act → List Row → Type 0
AreRead history rows = All (IsRead history) rows

-- the row is what the reference shows: its key, and its line
pub record Shows (owned : OwnedOf Entry) (row : Row) : Type 0 where
  pub key : row.key ≡ owned.loan.key
  pub line : (history : List Act) → IsShown history owned → IsRead history row

abbrev pub ShowsAt : List (OwnedOf Entry) → ℕ → Row → Type 0
ShowsAt held index row = (owned : OwnedOf Entry) → Shows (slice_index_or held index owned) row

-- a row that is read under the key of a line that was published has just that line
abbrev pub ReadsOneLine : List Act → Type 0
ReadsOneLine history = (row : Row) (line : Line) → IsRead history row → IsPublished history row.key (numbers_of line) → row.line ≡ line

-- the rows are what is held, in its order
pub record AreRowsOf (history : List Act) (held : List (OwnedOf Entry)) (rows : List Row) : Type 0 where
  pub keys : keys_of rows ≡ held_keys held
  pub read : AreRead history rows
