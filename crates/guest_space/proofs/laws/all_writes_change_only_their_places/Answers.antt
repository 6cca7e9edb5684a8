use Rattle.guest_space.proofs.{Writes.{only_writes}, laws.all_writes_change_only_their_places.Goals.{returns as goal}}

pub returns : goal
returns c = only_writes
