use Rattle.translation.proofs.{Begun.{refused_world}, KeptWorld.{begin_left, end_left, reflect_left}}
use Rattle.translation.proofs.laws.every_call_keeps_the_rest.Goals.{returns as goal}

pub returns : goal
returns c = record { begin = begin_left; refused = refused_world; reflect = reflect_left; end = end_left }
