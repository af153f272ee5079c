use Rattle.explanations.proofs.Numbers.{HasNumbers-value_of}
use Rattle.json.specs.Value.{value_view}
use Rattle.explanations.proofs.found.value_told.Goals as goal

pub to_vec-requires : goal.to_vec-requires
to_vec-requires c = HasNumbers-value_of c.args.place (value_view c.args.whole.now) (value_view c.in-Some.found.now) c.requires c.in-Some.ensures
