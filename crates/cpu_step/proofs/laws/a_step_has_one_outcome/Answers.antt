use Rattle.cpu_step.proofs.CodeBytes.{code_is_bytes, outcome_is, only_outcome}
use Rattle.cpu_step.proofs.laws.a_step_has_one_outcome.Goals as goal

pub returns-clause-is : goal.returns-clause-is
returns-clause-is c = λ v sound. outcome_is v (code_is_bytes v.world sound)

pub returns-clause-only : goal.returns-clause-only
returns-clause-only c = λ v outcome sound. only_outcome v outcome (code_is_bytes v.world sound)
