use Rattle.host_run.proofs.{Growth.{run_console, turn_console, turns_console}, laws.every_turn_extends_the_console.Goals.{returns as goal}}

pub returns : goal
returns c = record { turn = turn_console; turns = turns_console; end = run_console }
