use Rattle.std.proofs.Common.{◌≡◌, ◌<◌, ◌+◌, ℕ, length}
use Rattle.std.specs.List.{slice_index_or}
use Rattle.client_world.specs.{Access.{bytes_of_block}, World.{block_at}}
use Rattle.dpmi_report.proofs.digest.block_piece.Given as goal

abbrev pub invariant-loop-i : goal.invariant-loop-i
invariant-loop-i l =
    ((k : ℕ) → k < l.i → slice_index_or l.piece k 0
    ≡ slice_index_or (bytes_of_block (block_at l.machine.world.blocks l.handle)) (l.at + k) 0) × (length l.piece ≡ 64)
