use Rattle.std.proofs.Common.{◌≡◌, length, drop}
use Rattle.host_memory.specs.{DosList.{arena_in}, Headers.{with_headers}, Layout.{arena_part}}
use Rattle.guest_space.proofs.dos.write_headers.Given as goal

abbrev pub invariant-loop-place : goal.invariant-loop-place
invariant-loop-place l = record {
  size : length l.ram ≡ length l.fn.ram;
  list : arena_part l.ram ≡ arena_part l.fn.ram;
  written : with_headers l.ram (drop l.place (arena_in (arena_part l.fn.ram))) ≡ with_headers l.fn.ram (arena_in (arena_part l.fn.ram));
}
