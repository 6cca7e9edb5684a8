use Rattle.std.proofs.Common.{arith}
use Rattle.guest_space.proofs.ArenaHeaders.{length-header, header_room, one_header, header_away, no_header_left}
use Rattle.host_memory.proofs.ListsClaim.{length-arena_in}
use Rattle.guest_space.proofs.dos.write_headers.Goals as goal

pub entry-entry-requires : goal.entry-entry-requires
entry-entry-requires c = omega (arith, c.loop-place.invariant.size, c.requires.frames, c.requires.few, c.loop-place-test.true)

pub write-requires : goal.write-requires
write-requires c = grind (arith, header_room, length-header)

pub loop-place-preserved : goal.loop-place-preserved
loop-place-preserved c = grind (arith, header_away, header_room, one_header)

pub returns : goal.returns
returns c = grind (arith, length-arena_in, no_header_left)
