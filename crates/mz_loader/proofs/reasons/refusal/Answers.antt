use Rattle.{std.proofs.Common.{rules}, mz_loader.specs.Refusal.{refusal}}
use Rattle.mz_loader.proofs.reasons.refusal.Goals.{returns-then-has_bad_table-clause-reason as goal}

pub returns-then-has_bad_table-clause-reason : goal
unfolding refusal
returns-then-has_bad_table-clause-reason c = search rules
