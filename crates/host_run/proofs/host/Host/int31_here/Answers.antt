use Rattle.{std.proofs.Common.{rules}, host_run.specs.OtherTurns.{int31_call}}
use Rattle.host_run.proofs.host.Host.int31_here.Goals.{returns-in-None as goal}

pub returns-in-None : goal
unfolding int31_call
returns-in-None c = search rules
