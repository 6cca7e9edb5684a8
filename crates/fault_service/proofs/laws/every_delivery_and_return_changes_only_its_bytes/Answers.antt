use Rattle.fault_service.proofs.SoundAnswers.{delivery_law, frame_lies, return_law}
use Rattle.fault_service.proofs.laws.every_delivery_and_return_changes_only_its_bytes.Goals.{returns as goal}

pub returns : goal
returns c = record { delivery = delivery_law; back = return_law; frame = frame_lies }
