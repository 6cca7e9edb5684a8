-- The flags: CLC, STC, CMC, CLD, STD, LAHF, SAHF; and WAIT, which does nothing.
-- Source: 80386 Programmer's Reference Manual, ch. 17, each under its name.
use Rattle.std.specs.Prelude.{true, false, not}
use Rattle.client_world.specs.{declared.registers.Flags.{Flags}, Registers.{flags_image, flags_of_image, low_byte}, World.{World}}
use Rattle.insn_plan.specs.{Act.{Act, done, unchanged, with_regs, with_flags}, Registers.{register, with_register}}

-- CLC, STC, CMC: CF cleared, set, or the other way
unfoldable pub clc : World → Act
clc w = done (with_flags (record w.regs.flags { cf = false }) w)

unfoldable pub stc : World → Act
stc w = done (with_flags (record w.regs.flags { cf = true }) w)

unfoldable pub cmc : World → Act
cmc w = done (with_flags (record w.regs.flags { cf = not w.regs.flags.cf }) w)

-- CLD, STD: DF cleared or set
unfoldable pub cld : World → Act
cld w = done (with_flags (record w.regs.flags { df = false }) w)

unfoldable pub std : World → Act
std w = done (with_flags (record w.regs.flags { df = true }) w)

-- LAHF: AH becomes the low byte of the flags image
unfoldable pub lahf : World → Act
lahf w = done (with_regs (with_register w.regs 8 4 (low_byte (flags_image w.regs.flags false))) (unchanged w))

-- SAHF: the flags of that byte come from AH; DF and OF are kept
unfoldable pub sahf : World → Act
sahf w =
    let f : Flags = flags_of_image (register w.regs 8 4) in
    done (with_flags (record w.regs.flags { cf = f.cf; pf = f.pf; af = f.af; zf = f.zf; sf = f.sf }) w)

-- WAIT
unfoldable pub wait : World → Act
wait w = done (unchanged w)
