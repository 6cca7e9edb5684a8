use Rattle.std.proofs.Common.{ℕ, ◌+◌, sym, ap, ◌∙◌, arith, List, set, refl, get_or}
use Rattle.client_world.specs.{World.{World}, declared.memory_map.TheConstants.{IMAGE_START}}
use Rattle.{guest_ram.specs.{Bytes.{put}, Listed.{listed}}, mz_loader.proofs.Relocating.{dos_only, put_more, put_none, below_rom}}
use Rattle.mz_loader.proofs.image.write_part.Goals as goal

pub loop-i-init : goal.loop-i-init
loop-i-init c = record {
  dos = sym (put_none c.args.m.now.world.dos IMAGE_START (λ at. get_or c.args.file.now (c.args.from + at) 0));
  kept = refl;
}

pub loop-i-preserved : goal.loop-i-preserved
loop-i-preserved c =
    let file = c.args.file.now in
    let at = IMAGE_START + c.loop-i.i in
    let byte = c.byte_of-byte.result in
    record {
      dos = ap (λ (w : World). w.dos) c.set_dos8.ensures.world
          ∙ below_rom c.loop-i.m.world.dos at byte (omega (arith, c.loop-i-test.true, c.requires.room))
          ∙ ap (λ (dos : List ℕ). set dos at byte) c.loop-i.invariant.dos
          ∙ ap (λ (v : ℕ). set (put c.args.m.now.world.dos IMAGE_START (listed c.loop-i.i (λ k. get_or file (c.args.from + k) 0))) at v)
          c.byte_of-byte.ensures
          ∙ sym (put_more c.args.m.now.world.dos IMAGE_START c.loop-i.i (λ k. get_or file (c.args.from + k) 0));
      kept = dos_only c.args.m.now.world c.loop-i.m.world c.set_dos8.new.self.world _ c.loop-i.invariant.kept c.set_dos8.ensures.world;
    }
