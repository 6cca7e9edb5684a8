use Rattle.translation.proofs.{StackWords.{addresses_apart}, laws.the_bytes_of_a_real_segment_are_apart.Goals.{returns as goal}}

pub returns : goal
returns c = addresses_apart
