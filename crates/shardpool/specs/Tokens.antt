-- What a contract sees of pools, lanes and tokens.
use Rattle.std.specs.Prelude.{ℕ, refl}
use Rattle.std.specs.Coded.{Coded, code_by, coded×, coded_ℕ}
use denote.RawPtr.{Ptr, coded_ptr}
use Rattle.atomic_table.specs.Seated.{TableId, table_id_coded}
use Rattle.keybits.specs.declared.shape.Shape.{Shape}
use Rattle.freelists.specs.Queues.{FreePlaces}
use Rattle.freelists.specs.Shards.{ShardPages}
use Rattle.poolsteps.specs.declared.view.View.{View}

-- a pool: its table, where the directory of its objects begins, and its shape
pub record PoolOf : Type 0 where
  pub table : TableId
  pub directory : Ptr
  pub shape : Shape

-- a lane: the table, the directory and the shape of its pool, its number, the view of its seat, its free places and its pages
pub record LaneOf : Type 0 where
  pub table : TableId
  pub directory : Ptr
  pub shape : Shape
  pub number : ℕ
  pub book : View
  pub free : FreePlaces
  pub pages : ShardPages

-- the guests of a pool that were not dealt yet: the table and the shape of the pool, and the number of the next one
pub record GuestsOf : Type 0 where
  pub table : TableId
  pub shape : Shape
  pub next : ℕ

-- a place to be filled: the table of its pool, where the directory of the pool's objects begins, its key, where the key's place stands, and its object
pub record FillingOf (T : Type 0) : Type 0 where
  pub table : TableId
  pub directory : Ptr
  pub key : ℕ
  pub start : ℕ
  pub object : T

-- a code for fillings, by one for their objects
abbrev pub filling_code : {T : Type 0} → Coded T → Coded (FillingOf T)
filling_code {T} code = code_by (((TableId × Ptr) × ℕ)
    × (ℕ × T)) (coded× (coded× (coded× table_id_coded coded_ptr) coded_ℕ) (coded× coded_ℕ code))
    (λ s. (((s.table, s.directory), s.key), (s.start, s.object)))
    (λ p. record { table = p.0.0.0; directory = p.0.0.1; key = p.0.1; start = p.1.0; object = p.1.1 }) (λ _. refl)

-- a reference: its key
pub record RefOf : Type 0 where
  pub key : ℕ

-- a note: the table of its pool, and the view that it passes on
pub record NoteOf : Type 0 where
  pub table : TableId
  pub book : View
