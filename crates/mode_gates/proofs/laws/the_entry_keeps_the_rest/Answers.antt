use Rattle.mode_gates.proofs.{FarStates.{kept_entry}, laws.the_entry_keeps_the_rest.Goals.{returns as goal}}

pub returns : goal
returns c = kept_entry
