use Rattle.std.proofs.Common.{rules}
use Rattle.host_run.proofs.host.Host.interrupt_in_protected_mode.Goals.{returns-then-is_hosts_vector-clause-host as goal}

pub returns-then-is_hosts_vector-clause-host : goal
returns-then-is_hosts_vector-clause-host c = search rules
