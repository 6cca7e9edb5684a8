use Rattle.client_world.proofs.{FlagBits.{flags-back, interrupt-back}, registers.a_flags_image_gives_its_flags_back.Goals.{returns as goal}}

pub returns : goal
returns c = record { flags = flags-back; interrupt = interrupt-back }
