use Rattle.std.proofs.{Common.{◌<◌, [], ◌∷◌, arith, refl, slice_set, inl}, lemmas.Bool.{lt-ltb}}
use Rattle.{client_world.specs.declared.memory_map.TheConstants.{ROM_START}, host_memory.proofs.ClientWrites.{dos_world, dos_holds}}
use Rattle.guest_space.proofs.{OwnParts.{byte_sound}, CacheLaws.{put_beside}, Insides.{view_of, after_call}}
use Rattle.guest_space.proofs.machine.Machine.set_dos8.Goals as goal

pub invariant_of-self : goal.invariant_of-self
invariant_of-self c =
    let m = c.self.inside in
    let low : c.args.at < ROM_START = c.if-at-lt-ROM_START.true in
    rw c.set8.ensures.bytes (after_call m (view_of m) (slice_set m.ram c.args.at c.args.v) _ refl c.self.invariant
    (dos_holds m.ram m.pages c.self.invariant.0 c.args.at (c.args.v ∷ []) (omega arith))
    (byte_sound m.ram m.pages c.self.invariant.0 m.mode m.regs m.vif m.width c.args.at c.args.v c.self.invariant.1 low c.ranges.v.fits)
    (dos_world m.ram m.pages c.self.invariant.0 m.mode m.regs m.vif m.width c.args.at (c.args.v ∷ []) (omega arith)) refl (λ lin. refl)
    (put_beside m.ram c.args.at (c.args.v ∷ []) (record { tables = inl (omega arith); handles = inl (omega arith) })
    (omega (arith, c.self.invariant.0.size)))).whole

pub returns-then-at-lt-ROM_START-clause-world : goal.returns-then-at-lt-ROM_START-clause-world
returns-then-at-lt-ROM_START-clause-world c =
    let m = c.self.inside in
    let low : c.args.at < ROM_START = c.if-at-lt-ROM_START.true in
    rw (← c.self.view_is, lt-ltb c.args.at ROM_START low, c.set8.ensures.bytes)
    (dos_world m.ram m.pages c.self.invariant.0 m.mode m.regs m.vif m.width c.args.at (c.args.v ∷ []) (omega arith))
