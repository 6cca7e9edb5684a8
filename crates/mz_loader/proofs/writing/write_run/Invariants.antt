use Rattle.std.proofs.Common.{◌≡◌, ◌+◌, drop}
use Rattle.guest_ram.specs.Bytes.{put}
use Rattle.mz_loader.proofs.writing.write_run.Given as goal

abbrev pub invariant-loop-byte : goal.invariant-loop-byte
invariant-loop-byte l = record {
  place : l.place ≡ l.at + l.byte-index;
  dos : put l.m.world.dos l.place (drop l.byte-index l.bytes) ≡ put l.fn.m.world.dos l.at l.bytes;
  kept : l.m.world ≡ record l.fn.m.world { dos = l.m.world.dos };
}
