-- The entry to protected mode. Source: DPMI 0.9, INT 2Fh function 1687h, and "Mode Switching"; the indices of the descriptors, and that a
-- second call is refused, are own.
use Rattle.std.specs.Prelude.{ℕ, ◌+◌, ◌*◌, ◌%◌, Bool, true, false, nat_eq, if◌then◌else◌, List, None, Some, Ok, Err, slice_set}
use Rattle.std.specs.{declared.option.Option.{Option}, declared.result.Result.{Result}}
use Rattle.client_world.specs.{declared.descriptors.Desc.{Desc}, declared.descriptors.Kind.TheVariants.{Code, Data}}
use Rattle.client_world.specs.{declared.descriptors.Origin.TheVariants.{Entry, Psp}, declared.memory_map.TheConstants.{PARAGRAPH_SIZE}}
use Rattle.client_world.specs.{declared.memory_map.TheConstants.{PSP_SEGMENT, SEGMENT_SIZE}, declared.outcome.Exit.{Exit}}
use Rattle.client_world.specs.{declared.registers.Mode.TheVariants.{Protected}, declared.registers.Regs.{Regs}}
use Rattle.client_world.specs.{declared.registers.Width.{Width}, declared.registers.Width.TheVariants.{Sixteen, ThirtyTwo}}
use Rattle.client_world.specs.declared.selectors.TheConstants.{HOST_CODE, HOST_STACKS, ENTRY_CODE, ENTRY_STACK, ENTRY_DATA, ENTRY_PSP}
use Rattle.client_world.specs.{declared.selectors.TheConstants.{ENTRY_ENVIRONMENT}, declared.services.Carry.TheVariants.{Clear, Set}}
use Rattle.client_world.specs.{Descriptor.{plain}, Selector.{Row, selector_of}, Services.{Served}, Soundness.{host_code, host_stacks}}
use Rattle.client_world.specs.{Soundness.{is_wide}, World.{World}}
use Rattle.guest_ram.specs.Bytes.{word_of, with_word}
use Rattle.service_rows.specs.Rows.{with_carry}
use Rattle.mode_gates.specs.FarFrames.{world_after_far_return}

-- the width that bit 0 of AX asks for
abbrev pub asked_width : World → Width
asked_width w = if nat_eq (w.regs.eax % 2) 0 then Sixteen else ThirtyTwo

-- where the prefix has the segment of the environment, and then its selector
abbrev pub environment_word : ℕ
environment_word = PSP_SEGMENT * PARAGRAPH_SIZE + 0x2C

abbrev pub environment_of : World → ℕ
environment_of w = word_of w.dos environment_word

-- a descriptor of what starts at a real segment, with a limit in bytes
abbrev pub code_of_segment : ℕ → Desc
code_of_segment segment = plain Code (segment * PARAGRAPH_SIZE) 0xFFFF false

abbrev pub data_of_segment : ℕ → ℕ → Width → Desc
data_of_segment segment limit width = plain (Data true false) (segment * PARAGRAPH_SIZE) limit (is_wide width)

-- the rows with another one at an index
abbrev pub with_row_at : ℕ → Row → List Row → List Row
with_row_at index row rows = slice_set rows index row

-- the rows with the two descriptors of the host
abbrev pub host_rows : List Row → Width → List Row
host_rows rows width = with_row_at HOST_STACKS (host_stacks width) (with_row_at HOST_CODE host_code rows)

-- and with the five of the client: code, stack and data where the real registers point, the prefix and the environment
unfoldable pub entry_rows : World → Width → List Row
entry_rows w width =
    with_row_at ENTRY_ENVIRONMENT (Some (data_of_segment (environment_of w) 0xFFFF Sixteen, Psp))
    (with_row_at ENTRY_PSP (Some (data_of_segment PSP_SEGMENT 0xFF Sixteen, Psp))
    (with_row_at ENTRY_DATA (Some (data_of_segment w.regs.ds 0xFFFF width, Entry))
    (with_row_at ENTRY_STACK (Some (data_of_segment w.regs.ss 0xFFFF width, Entry))
    (with_row_at ENTRY_CODE (Some (code_of_segment w.regs.cs, Entry))
    (host_rows w.descriptors width)))))

-- the registers after the entry: the selectors of the descriptors, and SP alone
unfoldable pub entry_registers : Regs → Regs
entry_registers r = record (with_carry false r) {
  cs = selector_of ENTRY_CODE;
  ss = selector_of ENTRY_STACK;
  ds = selector_of ENTRY_DATA;
  es = selector_of ENTRY_PSP;
  fs = 0;
  gs = 0;
  esp = r.esp % SEGMENT_SIZE;
}

-- a world of real mode after its first entry
unfoldable pub after_first_entry : World → Width → World
after_first_entry w width = record w {
  mode = Protected;
  width = Some width;
  descriptors = entry_rows w width;
  dos = with_word w.dos environment_word (selector_of ENTRY_ENVIRONMENT);
  regs = entry_registers w.regs;
}

-- the first entry makes a width; a later one is refused, and stays in real mode
abbrev pub entry_answer : Option Width → World → Served
entry_answer None w = record { carry = Clear; world = after_first_entry w (asked_width w) }
entry_answer (Some width) w = record { carry = Set; world = record w { regs = with_carry true w.regs } }

-- first the return address is popped
abbrev pub entry_after : Result World Exit → Result Served Exit
entry_after (Ok w) = Ok (entry_answer w.width w)
entry_after (Err exit) = Err exit

unfoldable pub entry : World → Result Served Exit
entry w = entry_after (world_after_far_return w)
