-- What a call keeps: all of the machine but registers and DOS memory; for the return from its interrupt the mode and the place of the
-- stack.
-- Source: own.
use Rattle.std.specs.Prelude.{◌≡◌}
use Rattle.client_world.specs.World.{World}

-- the world differs at most in its registers, the bytes of the DOS megabyte and the entries of DOS memory
abbrev pub HasOtherDosMemory : World → World → Type 0
HasOtherDosMemory w u = u ≡ record w { regs = u.regs; dos = u.dos; arena = u.arena }

pub record HasSameStack (w u : World) : Type 0 where
  pub mode : u.mode ≡ w.mode
  pub segment : u.regs.ss ≡ w.regs.ss
  pub pointer : u.regs.esp ≡ w.regs.esp
