-- A real-mode callback: a real-mode program that reaches its trap byte goes to a procedure of protected mode, which gets the program's
-- registers in a call structure, and leaves there those with which real mode goes on.
-- Source: DPMI 0.9, INT 31h function 0303h; the host's stacks, the depth, the descriptor of the real stack and the exits are own.
use Rattle.std.specs.Prelude.{ℕ, ◌+◌, ◌-◌, ◌*◌, false, true, not, nat_le, List, [], ◌∷◌, ◌++◌, None, Some, Ok, Err, if◌then◌else◌, take}
use Rattle.std.specs.{declared.option.Option.{Option}, declared.result.Result.{Result}}
use Rattle.client_world.specs.{declared.calls.Record.{Record}, declared.calls.Record.TheVariants.{Sim, Back, Exc}}
use Rattle.client_world.specs.{declared.descriptors.Origin.TheVariants.{Host}, declared.limits.TheConstants.{GREATEST_DEPTH}}
use Rattle.client_world.specs.{declared.memory_map.TheConstants.{PARAGRAPH_SIZE, ROM_SEGMENT, ROM_START}, declared.outcome.Exit.{Exit}}
use Rattle.client_world.specs.{declared.registers.Mode.TheVariants.{Real, Protected}, declared.registers.Regs.{Regs}}
use Rattle.client_world.specs.{declared.registers.TheConstants.{INTERRUPT_BIT}, declared.segments.FarPtr.{FarPtr}}
use Rattle.client_world.specs.{declared.segments.SegReg.TheVariants.{Cs}, declared.selectors.TheConstants.{CALLBACK_STACKS, HOST_CODE}}
use Rattle.client_world.specs.{declared.selectors.TheConstants.{HOST_STACKS}, declared.traps.TheConstants.{CALLBACK_RETURN_TRAP}}
use Rattle.client_world.specs.{Access.{is_reachable}, Loading.{is_loadable}, Registers.{flags_image, has_bit, low_half}, Selector.{Row}}
use Rattle.client_world.specs.{Selector.{client_selector, selector_of}, Services.{es_di}, World.{Callback, World, depth}}
use Rattle.exec_flow.specs.Interrupts.{item_bits}
use Rattle.guest_space.specs.{Far.{world_after_far_write}, Pending.{byte_count, number_bytes}, VectorLists.{callback_of_slot}}
use Rattle.mode_stack.specs.{Frames.{frame_address}, Stack.{top}}
use Rattle.service_rows.specs.Rows.{data_at, with_by_width, with_row}
use Rattle.translation.specs.{declared.structure.TheConstants.{STRUCTURE_SIZE}, Structure.{index_results, other_results, structure_bytes}}
use Rattle.translation.specs.Structure.{structure_flags, structure_regs}
use Rattle.callbacks.specs.Services.{callback_offset}
use Rattle.client_world.specs.declared.outcome.Exit.TheVariants as exits

-- ---- the real caller's stack, as a segment of protected mode

-- the descriptor that it gets: one for each depth, which stays until the next callback at this depth
abbrev pub stack_index : World → ℕ
stack_index w = CALLBACK_STACKS + depth w

-- writable data from SS·16 on, of 64 KB
abbrev pub stack_row : World → Row
stack_row w = Some (data_at (w.regs.ss * PARAGRAPH_SIZE) 0xFFFF, Host)

unfoldable pub with_stack_row : World → World
with_stack_row w = with_row (stack_index w) (stack_row w) w

-- ---- what the procedure starts with

-- the frame of an interrupt, of the client's width, from the stack pointer up: it returns to the trap of a callback's return, with the real
-- caller's flags
unfoldable pub callback_frame : World → List ℕ
callback_frame w =
    number_bytes (item_bits w.width) (CALLBACK_RETURN_TRAP - ROM_START) ++ number_bytes (item_bits w.width) (selector_of HOST_CODE)
    ++ number_bytes (item_bits w.width) (flags_image w.regs.flags w.vif)

abbrev pub callback_frame_size : World → ℕ
callback_frame_size w = 3 * byte_count (item_bits w.width)

-- where it lies
abbrev pub callback_frame_start : World → FarPtr
callback_frame_start w = frame_address w (callback_frame_size w)

-- the call structure: the real caller's registers, with 0 at 0Ch, and with the callback's own address as CS:IP
unfoldable pub caller_structure : World → ℕ → List ℕ
caller_structure w slot =
    index_results w.regs ++ number_bytes 32 0 ++ other_results w.regs w.vif
    ++ number_bytes 16 (callback_offset slot) ++ number_bytes 16 ROM_SEGMENT ++ number_bytes 16 w.regs.esp ++ number_bytes 16 w.regs.ss

-- the procedure's registers: DS:(E)SI is the real caller's SS:SP, ES:(E)DI is the call structure; FS and GS are null, and all others stay
unfoldable pub procedure_regs : World → FarPtr → FarPtr → Regs
procedure_regs w procedure at = record w.regs {
  cs = client_selector procedure.sel;
  eip = procedure.off;
  ss = selector_of HOST_STACKS;
  esp = (callback_frame_start w).off;
  ds = selector_of (stack_index w);
  esi = with_by_width w.width w.regs.esi (low_half w.regs.esp);
  es = at.sel;
  edi = with_by_width w.width w.regs.edi at.off;
  fs = 0;
  gs = 0;
}

-- the world with the frame, and then the structure
unfoldable pub with_frame_and_structure : World → ℕ → FarPtr → World
with_frame_and_structure w slot at =
    world_after_far_write (world_after_far_write w (callback_frame_start w) (callback_frame_size w) (callback_frame w)) at STRUCTURE_SIZE
    (caller_structure w slot)

-- the world in which the procedure starts, with virtual interrupts off; w has the descriptor of the real caller's stack
unfoldable pub after_entering : World → ℕ → FarPtr → FarPtr → World
after_entering w slot procedure at = record (with_frame_and_structure w slot at) {
  mode = Protected;
  regs = procedure_regs w procedure at;
  vif = false;
  calls = w.calls ++ Back slot at ∷ [];
}

-- ---- the call of a callback

-- in the world that has the descriptor of the real caller's stack: first that the procedure can't be loaded, as by a far jump, then that
-- the structure can't be written
abbrev pub entered_with_stack : World → ℕ → Callback → Result World Exit
entered_with_stack w slot callback =
    if not (is_loadable w Cs callback.0.sel callback.0.off false) then Err exits.BadFrame else
    if not (is_reachable w callback.1 STRUCTURE_SIZE true) then Err exits.LostStructure else
    Ok (after_entering w slot callback.0 callback.1)

-- before that, first that the slot is free, then that calls are nested too deeply
abbrev pub entered_slot : World → ℕ → Option Callback → Result World Exit
entered_slot w slot None = Err exits.Stray
entered_slot w slot (Some callback) =
    if nat_le GREATEST_DEPTH (depth w) then Err exits.Deep else entered_with_stack (with_stack_row w) slot callback

-- the world in which the procedure of a slot's callback starts, or the exit
unfoldable pub enter_callback : World → ℕ → Result World Exit
enter_callback w slot = entered_slot w slot (callback_of_slot w.callbacks slot)

-- ---- the return

-- real mode goes on with the registers and the virtual interrupt flag that are in a structure
unfoldable pub after_leaving : World → List ℕ → World
after_leaving w s = record w {
  mode = Real;
  regs = structure_regs s;
  vif = has_bit (structure_flags s) INTERRUPT_BIT;
  calls = take (depth w - 1) w.calls;
}

-- the return from a record: first that it is no callback's, then that the structure at the present ES:(E)DI can't be read
abbrev pub left_record : World → Option Record → Result World Exit
left_record w None = Err exits.Stray
left_record w (Some (Sim call saved vif at)) = Err exits.Stray
left_record w (Some (Exc number code)) = Err exits.Stray
left_record w (Some (Back slot at)) =
    if is_reachable w (es_di w) STRUCTURE_SIZE false then Ok (after_leaving w (structure_bytes w (es_di w))) else Err exits.LostStructure

-- the world in which real mode goes on after the procedure of the innermost callback, or the exit
unfoldable pub leave_callback : World → Result World Exit
leave_callback w = left_record w (top w)
