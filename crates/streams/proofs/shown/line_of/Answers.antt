use Rattle.std.proofs.Common.{sym, subst, string_bytes, rules, ◌≡◌}
use Rattle.streams.specs.Shown.{line_text, IsSafeLine}
use Rattle.streams.proofs.SafeLines.{safe-line}
use Rattle.streams.proofs.shown.line_of.Goals as goal

pub returns-clause-safe : goal.returns-clause-safe
returns-clause-safe c =
    let is : string_bytes c.push_str.new.self ≡ line_text c.args.text.now = search rules in
    subst IsSafeLine (sym is) (safe-line c.args.text.now)
