-- Nor does a `&` to one give more.
use denote.Memory.{part_of, raw_all}
use denote.Param.Send.{IsSync, cell_keyless}
use Rattle.poolsteps.proofs.cells.Tally.TheSendSync.Send.{send}
use Rattle.poolsteps.specs.contracts.cells.Tally.{the_row}

pub sync : IsSync the_row
unfolding part_of
sync = record { shared = λ d b o κ q vs. (cell_keyless q (raw_all the_row.mir) vs b o, send.owned d vs) }
