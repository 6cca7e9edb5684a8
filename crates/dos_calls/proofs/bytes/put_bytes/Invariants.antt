use Rattle.std.proofs.Common.{◌≡◌, ◌+◌, drop}
use Rattle.dos_calls.specs.DosBytes.{with_dos_bytes_at}
use Rattle.dos_calls.proofs.bytes.put_bytes.Given as goal

abbrev pub invariant-loop-byte : goal.invariant-loop-byte
invariant-loop-byte l = record {
  place : l.at ≡ l.offset + l.byte-index;
  kept : l.m.world ≡ record l.fn.m.world { dos = l.m.world.dos };
  written : with_dos_bytes_at l.m.world.dos l.segment l.at (drop l.byte-index l.bytes)
      ≡ with_dos_bytes_at l.fn.m.world.dos l.segment l.offset l.bytes;
}
