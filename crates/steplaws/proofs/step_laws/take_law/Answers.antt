use Rattle.steplaws.proofs.TakeLaws.{take-none-law, take-chain-law}
use Rattle.steplaws.proofs.step_laws.take_law.Goals as goal

pub returns-clause-none : goal.returns-clause-none
returns-clause-none c = take-none-law

pub returns-clause-chain : goal.returns-clause-chain
returns-clause-chain c = take-chain-law
