use Rattle.steplaws.proofs.Publishes.{publish-law}
use Rattle.steplaws.proofs.step_laws.publish_law.Goals as goal

pub returns : goal.returns
returns c = publish-law
