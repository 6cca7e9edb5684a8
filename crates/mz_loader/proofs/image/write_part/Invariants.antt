use Rattle.std.proofs.Common.{◌≡◌, ◌+◌, slice_index}
use Rattle.guest_ram.specs.{Bytes.{put}, Listed.{listed}}
use Rattle.client_world.specs.declared.memory_map.TheConstants.{IMAGE_START}
use Rattle.mz_loader.proofs.image.write_part.Given as goal

abbrev pub invariant-loop-i : goal.invariant-loop-i
invariant-loop-i l = record {
  dos : l.m.world.dos ≡ put l.fn.m.world.dos IMAGE_START (listed l.i (λ at. slice_index l.file (l.from + at)));
  kept : l.m.world ≡ record l.fn.m.world { dos = l.m.world.dos };
}
