use Rattle.std.proofs.Common.{◌*◌, take}
use Rattle.sha2.specs.Hashers.{Holds256}
use Rattle.client_world.specs.{Access.{bytes_of_block}, World.{block_at}}
use Rattle.dpmi_report.proofs.digest.block_digest.Given as goal

abbrev pub invariant-loop-i : goal.invariant-loop-i
invariant-loop-i l = Holds256 l.hasher (take (l.i * 64) (bytes_of_block (block_at l.machine.world.blocks l.handle)))
