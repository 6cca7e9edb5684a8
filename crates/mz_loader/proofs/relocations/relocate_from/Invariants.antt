use Rattle.std.proofs.Common.{◌≡◌, ◌+◌, ◌-◌, ◌*◌, false}
use Rattle.mz_loader.specs.{Refusal.{some_beyond}, Start.{after_relocations}}
use Rattle.mz_loader.proofs.relocations.relocate_from.Given as goal

abbrev pub invariant-loop-i : goal.invariant-loop-i
invariant-loop-i l = record {
  within : some_beyond l.file l.limit (l.at + 4 * l.i) (l.n - l.i) ≡ false;
  dos : after_relocations l.file (l.at + 4 * l.i) (l.n - l.i) l.m.world.dos ≡ after_relocations l.file l.at l.n l.fn.m.world.dos;
  kept : l.m.world ≡ record l.fn.m.world { dos = l.m.world.dos };
}
