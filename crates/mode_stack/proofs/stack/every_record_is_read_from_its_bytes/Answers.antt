use Rattle.mode_stack.proofs.{Trips.{record_back}, stack.every_record_is_read_from_its_bytes.Goals.{returns as goal}}

pub returns : goal
returns c = record_back c.a_flags_image_gives_its_flags_back.ensures.flags
