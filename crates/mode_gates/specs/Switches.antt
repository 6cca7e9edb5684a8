-- The raw mode switches, and the functions that give their addresses. Source: DPMI 0.9, INT 31h functions 0305h and 0306h; the addresses
-- and the exits are own.
use Rattle.std.specs.{Prelude.{ℕ, ◌-◌, Bool, false, ◌&&◌, nat_eq, if◌then◌else◌, [], None, Some, Ok, Err}, declared.option.Option.{Option}}
use Rattle.std.specs.declared.result.Result.{Result}
use Rattle.client_world.specs.{declared.memory_map.TheConstants.{ROM_SEGMENT, ROM_START}, declared.outcome.Exit.{Exit}}
use Rattle.client_world.specs.{declared.outcome.Exit.TheVariants.{Stray, BadSwitch}, declared.registers.Mode.TheVariants.{Real, Protected}}
use Rattle.client_world.specs.{declared.registers.Regs.{Regs}, declared.registers.Width.{Width}, declared.segments.SegReg.TheVariants.{Es}}
use Rattle.client_world.specs.{declared.segments.SegReg.TheVariants.{Cs, Ss, Ds}, declared.selectors.TheConstants.{HOST_CODE}}
use Rattle.client_world.specs.declared.traps.TheConstants.{PROTECTED_STATE_TRAP, REAL_STATE_TRAP, SWITCH_TO_PROTECTED_TRAP}
use Rattle.client_world.specs.{declared.traps.TheConstants.{SWITCH_TO_REAL_TRAP}, Loading.{is_loadable}, Registers.{low_half}}
use Rattle.client_world.specs.{Registers.{with_low_half}, Selector.{client_selector, selector_of}, Services.{Served, by_width}}
use Rattle.client_world.specs.World.{World}
use Rattle.service_rows.specs.{Reasons.{Service, family_outcome, unsupported}, Rows.{with_by_width}}

-- ---- the switches

-- DS, ES, SS and CS are AX, CX, DX and SI, and the stack pointer and the instruction pointer are given; FS and GS are null. All others stay
abbrev pub regs_after_switch : Regs → ℕ → ℕ → ℕ → Regs
regs_after_switch r code stack_pointer instruction_pointer = record r {
  ds = low_half r.eax;
  es = low_half r.ecx;
  ss = low_half r.edx;
  esp = stack_pointer;
  cs = code;
  eip = instruction_pointer;
  fs = 0;
  gs = 0;
}

-- to real mode: SP is BX, and IP is DI
unfoldable pub world_after_switch_to_real : World → World
world_after_switch_to_real w = record w {
  mode = Real;
  regs = regs_after_switch w.regs (low_half w.regs.esi) (low_half w.regs.ebx) (low_half w.regs.edi);
}

-- to protected mode: the selectors can be loaded, that of CS as by a far jump
abbrev pub can_switch : World → Option Width → Bool
can_switch w width =
    is_loadable w Ds (low_half w.regs.eax) 0 false && is_loadable w Es (low_half w.regs.ecx) 0 false
    && is_loadable w Ss (low_half w.regs.edx) 0 false && is_loadable w Cs (low_half w.regs.esi) (by_width width w.regs.edi) false

-- (E)SP is (E)BX, and (E)IP is (E)DI, with a high half of 0 for a client of 16 bits; CS has the client's privilege level
unfoldable pub after_switch : World → Option Width → World
after_switch w width = record w {
  mode = Protected;
  regs = regs_after_switch w.regs (client_selector (low_half w.regs.esi)) (by_width width w.regs.ebx) (by_width width w.regs.edi);
}

-- before the entry there is no protected mode to switch to
abbrev pub world_after_switch_by_width : World → Option Width → Result World Exit
world_after_switch_by_width w None = Err Stray
world_after_switch_by_width w (Some width) = if can_switch w (Some width) then Ok (after_switch w (Some width)) else Err BadSwitch

unfoldable pub world_after_switch_to_protected : World → Result World Exit
world_after_switch_to_protected w = world_after_switch_by_width w w.width

-- ---- their addresses

-- BX:CX is the address of a trap of real mode, and SI:(E)DI that of a trap of protected mode
abbrev pub address_regs : Option Width → Regs → ℕ → ℕ → Regs
address_regs width r real protected = record r {
  ebx = with_low_half r.ebx ROM_SEGMENT;
  ecx = with_low_half r.ecx (real - ROM_START);
  esi = with_low_half r.esi (selector_of HOST_CODE);
  edi = with_by_width width r.edi (protected - ROM_START);
}

-- 0305h: the addresses of the save and restore calls; AX is 0, the size of their buffer
unfoldable pub state_addresses : World → Service
state_addresses w = record {
  reasons = [];
  after =
      record w { regs = address_regs w.width (record w.regs { eax = with_low_half w.regs.eax 0 }) REAL_STATE_TRAP PROTECTED_STATE_TRAP };
}

-- 0306h: the addresses of the raw switches, to protected mode and to real mode
unfoldable pub switch_addresses : World → Service
switch_addresses w = record {
  reasons = [];
  after = record w { regs = address_regs w.width w.regs SWITCH_TO_PROTECTED_TRAP SWITCH_TO_REAL_TRAP };
}

unfoldable pub gate_function : ℕ → World → Service
gate_function ax w =
    if nat_eq ax 0x0305 then state_addresses w else
    if nat_eq ax 0x0306 then switch_addresses w else unsupported w

-- the carry that INT 31h returns, and the world after it
unfoldable pub gate_service : ℕ → World → Served
gate_service ax w = family_outcome (gate_function ax w) w
