-- How a schedule isn't shortened.
use Rattle.std.proofs.Common.{◌≡◌, ℕ, List, string_bytes, refl}
use Rattle.commandline.specs.declared.tasks.Search.{Search}
use Rattle.scripts.specs.declared.plan.Plan.{Plan}
use Rattle.shortening.specs.Replays.{Lacks}
use Rattle.shortening.specs.declared.fault.Unshortened.{Unshortened}
use Rattle.shortening.specs.declared.fault.Unshortened.TheVariants.{Fails, Limit, Memory}
use Rattle.poolprogram.specs.Shortenings.{fault_of, RefusesShortestOf}

pub refuses_shortest : (plan : Plan) (search : Search) (schedule : List ℕ) (fault : Unshortened)
    → (fault ≡ Fails → Lacks plan.shape plan.scripts search.decoded (string_bytes search.word) schedule)
    → RefusesShortestOf plan search schedule (fault_of search.decoded fault)
refuses_shortest plan search schedule Fails lacks = (refl, lacks refl)
refuses_shortest plan search schedule Limit lacks = tt
refuses_shortest plan search schedule Memory lacks = tt
