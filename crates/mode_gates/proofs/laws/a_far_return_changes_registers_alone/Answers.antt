use Rattle.mode_gates.proofs.{FarStates.{far_state}, laws.a_far_return_changes_registers_alone.Goals.{returns as goal}}

pub returns : goal
returns c = far_state
