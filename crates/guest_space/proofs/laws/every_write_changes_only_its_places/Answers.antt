use Rattle.guest_space.proofs.{OnlyWritten.{only_stored}, laws.every_write_changes_only_its_places.Goals.{returns as goal}}

pub returns : goal
returns c = only_stored
