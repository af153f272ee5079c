-- The index of a write goes into its register's row.
use Rattle.std.proofs.Common.{[], ◌∷◌, ◌++◌, length, sym, subst}
use Rattle.std.specs.Prelude.{slice_set}
use Rattle.traces.specs.declared.script.Command.{Command}
use Rattle.coresteps.specs.Writes.{AreWrites}
use Rattle.coresteps.proofs.WriteLemmas.{write_noted, none_noted, no_write}
use Rattle.coresteps.proofs.commands.note_write.Goals as goal

pub returns-in_ok-push : goal.returns-in_ok-push
returns-in_ok-push c = λ script are at.
    let register = c.in-Write.register in
    let rows = c.args.rows.now.items in
    subst (λ (x : Command). AreWrites (script ++ x ∷ []) (slice_set rows register.number c.push.new.self)) (sym c.in-Write.is)
    (write_noted script rows c.args.index register c.in-Write.field-1 c.index_mut.result.now c.push.new.self are at register.small
    c.index_mut.ensures.value c.in_ok-push.ensures.items)

pub returns-in_default : goal.returns-in_default
returns-in_default c = λ script are at.
    none_noted script c.args.rows.now.items c.args.command.now (λ number. no_write c.args.command.now c.in_default.not-Write number (length script)) are
