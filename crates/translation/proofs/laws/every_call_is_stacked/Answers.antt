use Rattle.translation.proofs.{KeptWorld.{begin_pushes, end_pops, reflect_pushes}, laws.every_call_is_stacked.Goals.{returns as goal}}

pub returns : goal
returns c = record { begin = begin_pushes; reflect = reflect_pushes; end = end_pops }
