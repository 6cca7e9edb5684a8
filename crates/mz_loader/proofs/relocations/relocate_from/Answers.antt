use Rattle.{std.proofs.Common.{ℕ, ◌+◌, ◌-◌, ◌*◌, sym, ap, ◌∙◌, arith, List}, client_world.specs.World.{World}}
use Rattle.mz_loader.specs.Start.{after_relocation, after_relocations}
use Rattle.mz_loader.proofs.Relocating.{some_beyond_next, within_limit, all_relocated_next, all_relocated_end, dos_only}
use Rattle.mz_loader.proofs.relocations.relocate_from.Goals as goal

pub relocate_word-requires : goal.relocate_word-requires
relocate_word-requires c =
    let within = within_limit c.args.file.now c.args.limit c.args.at c.args.n c.loop-i.i c.loop-i-test.true c.loop-i.invariant.within in
    omega (arith, within, c.relocation_target-target.ensures.target, c.requires.room)

pub loop-i-preserved : goal.loop-i-preserved
loop-i-preserved c =
    let file = c.args.file.now in
    let i = c.loop-i.i in
    let within = within_limit file c.args.limit c.args.at c.args.n i c.loop-i-test.true c.loop-i.invariant.within in
    record {
      within = sym (some_beyond_next file c.args.limit c.args.at c.args.n i c.loop-i-test.true within) ∙ c.loop-i.invariant.within;
      dos = ap (λ (w : World). after_relocations file (c.args.at + 4 * (i + 1)) (c.args.n - (i + 1)) w.dos) c.relocate_word.ensures
          ∙ ap (λ (target : ℕ). after_relocations file (c.args.at + 4 * (i + 1)) (c.args.n - (i + 1))
          (after_relocation c.loop-i.m.world.dos target)) c.relocation_target-target.ensures.target
          ∙ sym (all_relocated_next file c.args.at c.args.n i c.loop-i.m.world.dos c.loop-i-test.true)
          ∙ c.loop-i.invariant.dos;
      kept = dos_only c.args.m.now.world c.loop-i.m.world c.relocate_word.new.m.world _ c.loop-i.invariant.kept c.relocate_word.ensures;
    }

pub returns : goal.returns
returns c =
    let made = sym (all_relocated_end c.args.file.now c.args.at c.args.n c.loop-i.i c.loop-i.m.world.dos c.loop-i-test.false)
    ∙ c.loop-i.invariant.dos in
    c.loop-i.invariant.kept ∙ ap (λ (dos : List ℕ). record c.args.m.now.world { dos = dos }) made
