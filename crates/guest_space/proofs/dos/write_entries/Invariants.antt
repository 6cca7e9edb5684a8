use Rattle.std.proofs.Common.{◌≡◌, ◌+◌, ◌*◌, length, drop}
use Rattle.guest_ram.specs.Bytes.{put}
use Rattle.host_memory.specs.DosList.{entry_size}
use Rattle.guest_space.specs.Arena.{list_bytes}
use Rattle.guest_space.proofs.dos.write_entries.Given as goal

abbrev pub invariant-loop-entry : goal.invariant-loop-entry
invariant-loop-entry l = record {
  place : l.place ≡ l.at + entry_size * l.entry-index;
  size : length l.ram ≡ length l.fn.ram;
  written : put l.ram l.place (list_bytes (drop l.entry-index l.entries)) ≡ put l.fn.ram l.at (list_bytes l.entries);
}
