-- The run is in this pool.
use Rattle.pooltests.proofs.test_guests.storm.Given as goal

abbrev pub ghosts-census_of : goal.ghosts-census_of
ghosts-census_of g a = record { pool = a.opened.0 }
