-- The text of a run that has ended. Source: own.
use Rattle.std.specs.{Prelude.{ℕ, ◌++◌, List, [], Bool, length, codes, Some, None, count_by, is_some}, Fmt.{decimal}}
use Rattle.client_world.specs.{declared.host_frames.TheConstants.{DESCRIPTORS}, declared.limits.TheConstants.{MAX_BLOCKS}}
use Rattle.client_world.specs.{declared.outcome.Exit.{Exit}, declared.registers.Mode.{Mode}, declared.registers.Regs.{Regs}, World.{World}}
use Rattle.client_world.specs.World.{HostWorld, depth}
use Rattle.dpmi_io.specs.LineEnd.{line_end}
use Rattle.dpmi_report.specs.{Lines.{exit_part, mode_text, regs_text, desc_row, block_row, dos_line}, Rows.{up_to}, Trace.{trace_row}}

-- the line before the console's bytes: their number
abbrev pub console_head : ℕ → List ℕ
console_head count = codes "console " ++ decimal count ++ line_end

-- the console's bytes, between that line and the end of their own
abbrev pub console_part : HostWorld → List ℕ
console_part w = (console_head (length w.console) ++ w.console) ++ line_end

-- the line before the trace: how many lines were kept, and how many there were
abbrev pub trace_head : ℕ → ℕ → List ℕ
trace_head kept lines = codes "trace " ++ decimal kept ++ codes " of " ++ decimal lines ++ line_end

-- the lines of the trace that were kept, the first ones
abbrev pub trace_part : HostWorld → List ℕ
trace_part w = trace_head (length w.kept) w.lines ++ up_to (trace_row w.kept) (length w.kept)

-- how the run ended, and after how many turns
abbrev pub end_part : Exit → ℕ → List ℕ
end_part exit steps = codes "report" ++ line_end ++ exit_part exit steps

-- the mode, the depth n and the registers
abbrev pub processor_text : Mode → ℕ → Regs → Bool → List ℕ
processor_text mode n r vif =
    codes "mode " ++ mode_text mode ++ line_end ++ codes "depth " ++ decimal n ++ line_end
    ++ codes "regs " ++ regs_text r vif ++ line_end

abbrev pub processor_part : World → List ℕ
processor_part w = processor_text w.mode (depth w) w.regs w.vif

-- the line before the descriptors: their number
abbrev pub descs_head : ℕ → List ℕ
descs_head count = codes "descs " ++ decimal count ++ line_end

-- the descriptors by their indices
abbrev pub descs_part : World → List ℕ
descs_part w = descs_head (count_by is_some w.descriptors) ++ up_to (desc_row w.descriptors) DESCRIPTORS

-- the line before the memory blocks: their number
abbrev pub blocks_head : ℕ → List ℕ
blocks_head count = codes "blocks " ++ decimal count ++ line_end

-- the memory blocks by their handles
abbrev pub blocks_part : World → List ℕ
blocks_part w = blocks_head (count_by is_some w.blocks) ++ up_to (block_row w.blocks) MAX_BLOCKS

-- what the run did
abbrev pub run_part : HostWorld → Exit → List ℕ
run_part w exit = (console_part w ++ trace_part w) ++ end_part exit w.steps

-- the state that it left: the processor and the descriptors
abbrev pub state_part : World → List ℕ
state_part w = processor_part w ++ descs_part w

-- the memory that it left: the blocks and the DOS megabyte
abbrev pub memory_part : World → List ℕ
memory_part w = blocks_part w ++ dos_line w.dos

-- the text of a run that ended so
abbrev pub text_at : HostWorld → Exit → List ℕ
text_at w exit = (run_part w exit ++ state_part w.machine) ++ memory_part w.machine

-- the text of a run
abbrev pub text : HostWorld → List ℕ
text w = elim w.exit [ None ↦ [] | Some exit ↦ text_at w exit ]
