use Rattle.mode_gates.proofs.{SoundGates.{sound_entry, sound_world_far}, SwitchLaws.{sound_service, sound_to_protected, sound_to_real}}
use Rattle.mode_gates.proofs.laws.every_gate_is_sound.Goals.{returns as goal}

pub returns : goal
returns c = record {
  far = sound_world_far;
  entry = sound_entry;
  to_protected = sound_to_protected;
  to_real = sound_to_real;
  service = sound_service;
}
