use Rattle.host_run.proofs.{Sound.{exit_leaves_machine, exit_leaves_outside}, laws.every_exit_leaves_the_machine.Goals.{returns as goal}}

pub returns : goal
returns c = record { machine = exit_leaves_machine; outside = exit_leaves_outside }
