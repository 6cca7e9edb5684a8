use Rattle.guest_space.proofs.{MemoryAlone.{near_kept, far_kept, reachable_kept}, laws.a_write_changes_no_access.Goals.{returns as goal}}

pub returns : goal
returns c = record { near = near_kept; far = far_kept; reachable = reachable_kept }
