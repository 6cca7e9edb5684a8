use Rattle.interrupts.proofs.{KeptWorlds.{kept_world_popped, return_state}, laws.a_return_changes_registers_alone.Goals.{returns as goal}}

pub returns : goal
returns c = record { state = return_state; world = kept_world_popped }
