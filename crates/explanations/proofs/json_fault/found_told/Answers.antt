use Rattle.std.proofs.Common.{◌≡◌, ◌∙◌, false, sym, append_assoc}
use Rattle.std.specs.List.{list_all}
use Rattle.explanations.specs.JsonFaults.{is_space, found_told}
use Rattle.explanations.proofs.json_fault.found_told.Goals as goal

pub returns : goal.returns
unfolding found_told
returns c =
    let some : list_all is_space c.args.rest.now ≡ false = sym c.are_spaces.ensures ∙ c.if-are_spaces.false in
    simp (some, append_assoc) (simp (c.in_ok-found.ensures) at c.format-2.ensures.ok)
