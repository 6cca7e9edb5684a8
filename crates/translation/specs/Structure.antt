-- The call structure: 32h bytes with the registers of a real-mode procedure, before a call those that it starts with, and after it those
-- that it left. EDI is at 00h, ESI 04h, EBP 08h, EBX 10h, EDX 14h, ECX 18h, EAX 1Ch, the flags 20h, ES 22h, DS 24h, FS 26h, GS 28h, IP 2Ah,
-- CS 2Ch, SP 2Eh and SS 30h. Source: DPMI 0.9, INT 31h function 0300h.
use Rattle.std.specs.Prelude.{ℕ, Bool, true, false, ◌&&◌, List, ◌++◌}
use Rattle.client_world.specs.{declared.registers.Regs.{Regs}, declared.segments.FarPtr.{FarPtr}, Access.{is_reachable}}
use Rattle.client_world.specs.{Registers.{flags_image, flags_of_image}, World.{World}}
use Rattle.guest_ram.specs.Bytes.{dword, word_of}
use Rattle.guest_space.specs.{Far.{far_bytes, world_after_far_write, further}, Pending.{number_bytes}}
use Rattle.translation.specs.declared.structure.TheConstants.{STRUCTURE_SIZE}

-- there is a structure at a pointer: its bytes can be read and written
abbrev pub has_structure : World → FarPtr → Bool
has_structure w at = is_reachable w at STRUCTURE_SIZE false && is_reachable w at STRUCTURE_SIZE true

-- its bytes
abbrev pub structure_bytes : World → FarPtr → List ℕ
structure_bytes w at = far_bytes w at STRUCTURE_SIZE

-- the word of its flags
abbrev pub structure_flags : List ℕ → ℕ
structure_flags s = word_of s 0x20

-- the registers in its bytes
unfoldable pub structure_regs : List ℕ → Regs
structure_regs s = record {
  eax = dword s 0x1C;
  ecx = dword s 0x18;
  edx = dword s 0x14;
  ebx = dword s 0x10;
  esp = word_of s 0x2E;
  ebp = dword s 0x08;
  esi = dword s 0x04;
  edi = dword s 0x00;
  eip = word_of s 0x2A;
  flags = flags_of_image (structure_flags s);
  es = word_of s 0x22;
  cs = word_of s 0x2C;
  ss = word_of s 0x30;
  ds = word_of s 0x24;
  fs = word_of s 0x26;
  gs = word_of s 0x28;
}

-- what a return writes: at 00h EDI, ESI and EBP
unfoldable pub index_results : Regs → List ℕ
index_results r = number_bytes 32 r.edi ++ number_bytes 32 r.esi ++ number_bytes 32 r.ebp

-- and at 10h EBX, EDX, ECX, EAX, the flags with the virtual interrupt flag, ES, DS, FS and GS. The doubleword at 0Ch, IP, CS, SP and SS
-- stay
unfoldable pub other_results : Regs → Bool → List ℕ
other_results r vif =
    number_bytes 32 r.ebx ++ number_bytes 32 r.edx ++ number_bytes 32 r.ecx ++ number_bytes 32 r.eax
    ++ number_bytes 16 (flags_image r.flags vif) ++ number_bytes 16 r.es ++ number_bytes 16 r.ds ++ number_bytes 16 r.fs
    ++ number_bytes 16 r.gs

-- the world with the results in a structure
unfoldable pub with_results : World → FarPtr → World
with_results w at =
    world_after_far_write (world_after_far_write w at 0x0C (index_results w.regs)) (further at 0x10) 0x1A (other_results w.regs w.vif)
