-- The batches are of this pool.
use Rattle.relaysample.proofs.serve.Given as goal

abbrev pub ghosts-run_all : goal.ghosts-run_all
ghosts-run_all g a = record { pool = a.opened.now.pool }
