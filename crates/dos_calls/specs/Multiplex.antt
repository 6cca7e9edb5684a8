-- INT 2Fh. Source: DPMI 0.9, INT 2Fh function 1687h, "Obtain Real to Protected Mode Switch Entry Point".
use Rattle.std.specs.Prelude.{◌-◌, nat_eq, if◌then◌else◌}
use Rattle.client_world.specs.{declared.memory_map.TheConstants.{ROM_SEGMENT, ROM_START}, declared.registers.Regs.{Regs}}
use Rattle.client_world.specs.{declared.traps.TheConstants.{ENTRY_TRAP}, Registers.{low_half, with_low_byte, with_low_half}, World.{World}}

-- the host is there: flags with 32-bit programs, processor 80386, version 0.90, no private paragraphs, and the entry
abbrev pub with_entry : Regs → Regs
with_entry r = record r {
  eax = with_low_half r.eax 0;
  ebx = with_low_half r.ebx 1;
  ecx = with_low_byte r.ecx 3;
  edx = with_low_half r.edx 0x005A;
  esi = with_low_half r.esi 0;
  edi = with_low_half r.edi (ENTRY_TRAP - ROM_START);
  es = ROM_SEGMENT;
}

-- other functions change nothing
unfoldable pub multiplex_call : World → World
multiplex_call w = if nat_eq (low_half w.regs.eax) 0x1687 then record w { regs = with_entry w.regs } else w
