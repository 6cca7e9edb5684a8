use Rattle.std.proofs.Common.{sym, subst, slice_set, ap, arith}
use Rattle.{client_world.specs.{Soundness.{IsSound}, Access.{place_in}, World.{World}}, host_memory.specs.View.{MachineView}}
use Rattle.host_memory.proofs.RowWrites.{row_world, row_holds}
use Rattle.guest_space.proofs.{RowCalls.{fits_of_sound}, CacheLaws.{kept_warm, put_beside, row_beside}}
use Rattle.guest_space.specs.Machines.{Processor}
use Rattle.guest_space.proofs.machine.Machine.set_desc.Goals as goal

pub set-requires-clause-fits : goal.set-requires-clause-fits
set-requires-clause-fits c = grind (arith, fits_of_sound)

pub invariant_of-self : goal.invariant_of-self
invariant_of-self c =
    let m = c.self.inside in
    let fits = fits_of_sound c.args.self.now.world.descriptors c.args.index c.args.row c.requires.sound.descriptors c.requires.index in
    let sound =
    subst (λ (v : MachineView). IsSound (record v.world { descriptors = slice_set v.world.descriptors c.args.index c.args.row }))
    (sym c.self.view_is) c.requires.sound in
    let k : Processor = record { budget = m.pages; mode = m.mode; regs = m.regs; vif = m.vif; width = m.width } in
    let holds = row_holds m.ram m.pages c.self.invariant.0 c.args.index c.args.row c.requires.index fits in
    let world = row_world m.ram m.pages c.self.invariant.0 m.mode m.regs m.vif m.width c.args.index c.args.row c.requires.index fits in
    rw c.set.ensures.bytes (
      holds,
      subst IsSound (sym world) sound,
      rw (← c.set.ensures.bytes) c.all_parts-parts.ensures,
      kept_warm k m.ram _ m.cache c.self.invariant.0 c.self.invariant.1 holds (subst IsSound (sym world) sound)
          (λ lin. ap (λ (w : World). place_in w.blocks lin) world)
          (put_beside m.ram _ _ (row_beside c.args.index c.args.row c.requires.index) (omega (arith, c.self.invariant.0.size)))
          c.self.invariant.3,
    )

pub returns-clause-world : goal.returns-clause-world
returns-clause-world c = grind (arith, fits_of_sound, row_world)
