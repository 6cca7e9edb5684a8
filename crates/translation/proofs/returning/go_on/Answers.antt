use Rattle.{std.proofs.Common.{rules}, guest_space.proofs.RecordWrites.{has_width}}
use Rattle.translation.proofs.returning.go_on.Goals.{returns as goal}

pub returns : goal
returns c = search (rules, has_width)
