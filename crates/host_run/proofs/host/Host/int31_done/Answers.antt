use Rattle.{std.proofs.Common.{rules}, host_run.specs.OtherTurns.{int31_call, int31_turn}}
use Rattle.host_run.proofs.host.Host.int31_done.Goals.{returns-clause-world as goal}

pub returns-clause-world : goal
unfolding int31_call int31_turn
returns-clause-world c = search rules
