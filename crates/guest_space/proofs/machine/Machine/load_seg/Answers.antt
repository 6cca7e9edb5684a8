use Rattle.{std.proofs.Common.{rules}, guest_space.proofs.machine.Machine.load_seg.Goals.{returns-in_err-check_load-clause-world as goal}}

pub returns-in_err-check_load-clause-world : goal
returns-in_err-check_load-clause-world c = search rules
