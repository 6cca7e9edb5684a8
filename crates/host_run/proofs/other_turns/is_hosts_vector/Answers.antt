use Rattle.{std.proofs.Common.{rules}, host_run.proofs.other_turns.is_hosts_vector.Goals.{returns-then-p-selector_of as goal}}

pub returns-then-p-selector_of : goal
returns-then-p-selector_of c = search rules
