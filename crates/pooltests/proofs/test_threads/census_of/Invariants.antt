-- The plays are in this pool.
use Rattle.pooltests.proofs.test_threads.census_of.Given as goal

abbrev pub ghosts-play_all : goal.ghosts-play_all
ghosts-play_all g a = record { pool = a.opened.now.pool }
