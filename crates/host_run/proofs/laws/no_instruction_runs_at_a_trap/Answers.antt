use Rattle.host_run.proofs.{TrapBytes.{no_instruction_runs}, laws.no_instruction_runs_at_a_trap.Goals.{returns as goal}}

pub returns : goal
returns c = no_instruction_runs
