use Rattle.{std.proofs.Common.{◌≡◌, sym, subst, ap, None, Some, arith}, client_world.specs.{Access.{place_in}, World.{World}}}
use Rattle.{host_memory.specs.View.{MachineView}, guest_space.specs.Machines.{Processor}}
use Rattle.guest_space.proofs.{CacheLaws.{kept_warm_of}, Entered.{entered_addresses, entered_holds, entered_sound, entered_world}}
use Rattle.guest_space.proofs.machine.Machine.set_width.Goals as goal

pub invariant_of-self : goal.invariant_of-self
invariant_of-self c =
    let m = c.self.inside in
    let before : Processor = record { budget = m.pages; mode = m.mode; regs = m.regs; vif = m.vif; width = m.width } in
    let after : Processor = record { budget = m.pages; mode = m.mode; regs = m.regs; vif = m.vif; width = Some c.args.w } in
    let holds = entered_holds m.ram m.pages c.self.invariant.0 c.args.w in
    let sound = entered_sound m.ram m.pages c.self.invariant.0 m.mode m.regs m.vif m.width c.args.w c.self.invariant.1
    (subst (λ (v : MachineView). v.world.width ≡ None) (sym c.self.view_is) c.requires) in
    let world = entered_world m.ram m.pages c.self.invariant.0 m.mode m.regs m.vif m.width c.args.w in (
      rw (c.set-2.ensures.bytes, c.set.ensures.bytes, c.host_code.ensures, c.host_stacks.ensures) holds,
      rw (c.set-2.ensures.bytes, c.set.ensures.bytes, c.host_code.ensures, c.host_stacks.ensures) sound,
      c.all_parts-self-inside.ensures,
      rw (c.set-2.ensures.bytes, c.set.ensures.bytes, c.host_code.ensures, c.host_stacks.ensures)
          (kept_warm_of before after m.ram _ m.cache c.self.invariant.0 c.self.invariant.1 holds sound
          (λ lin. ap (λ (w : World). place_in w.blocks lin) world) (entered_addresses m.ram m.pages c.self.invariant.0 c.args.w)
          c.self.invariant.3),
    )

pub returns-clause-world : goal.returns-clause-world
returns-clause-world c = grind (arith, entered_world)
