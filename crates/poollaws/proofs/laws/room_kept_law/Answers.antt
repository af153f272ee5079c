use Rattle.poollaws.proofs.Kept.{first-room, less-room, kept-room, told-room, heard-room, reused-room}
use Rattle.poollaws.proofs.laws.room_kept_law.Goals as goal

pub returns-clause-first : goal.returns-clause-first
returns-clause-first g c = first-room

pub returns-clause-less : goal.returns-clause-less
returns-clause-less g c = less-room

pub returns-clause-kept : goal.returns-clause-kept
returns-clause-kept g c = kept-room

pub returns-clause-told : goal.returns-clause-told
returns-clause-told g c = told-room

pub returns-clause-heard : goal.returns-clause-heard
returns-clause-heard g c = heard-room

pub returns-clause-reused : goal.returns-clause-reused
returns-clause-reused g c = reused-room g.T.Clear.content g.T.Clear.room c.room_law.ensures
