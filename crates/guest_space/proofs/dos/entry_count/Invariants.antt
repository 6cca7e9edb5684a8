use Rattle.std.proofs.Common.{◌≢◌, ℕ, ◌+◌, ◌*◌, ◌<◌, slice_index}
use Rattle.host_memory.specs.DosList.{entry_size}
use Rattle.guest_space.proofs.ArenaLists.{list_start}
use Rattle.guest_space.proofs.dos.entry_count.Given as goal

abbrev pub invariant-loop-place : goal.invariant-loop-place
invariant-loop-place l = (k : ℕ) → k < l.place → slice_index l.ram (list_start + entry_size * k + 4) ≢ 0
