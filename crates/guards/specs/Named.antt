-- The pool that a type parameter names where nobody says which.
use Rattle.std.specs.Prelude.{[]}
use Rattle.shardpool.specs.Tokens.{PoolOf}
use denote.RawPtr.{null_ptr}

-- no pool
abbrev pub no_pool : PoolOf
no_pool = record {
  table = record { words = 0; slots = 0; views_name = 0; atom = 0; block = 0; offset = 0; slot_names = [] };
  directory = null_ptr;
  shape = record { lanes = 0; first_page = 0; pages = 0; last_generation = 0; tag = 0; guests = 0 };
}
