-- The lines of the trace. Source: own.
use Rattle.std.specs.{Prelude.{ℕ, ◌++◌, List, [], Bool, codes, Some, None, slice_get}, declared.option.Option.{Option}, Fmt.{decimal}}
use Rattle.client_world.specs.{declared.calls.Call.{Call}, declared.calls.What.{What}, declared.registers.Regs.{Regs}}
use Rattle.client_world.specs.{declared.registers.Width.{Width}, declared.registers.Width.TheVariants.{Sixteen, ThirtyTwo}}
use Rattle.client_world.specs.{declared.services.Carry.{Carry}, declared.services.Carry.TheVariants.{Clear, Set}}
use Rattle.client_world.specs.{declared.trace.TraceLine.{TraceLine}, declared.trace.TraceLine.TheVariants.{Int31, Int21, Int2f, Int20}}
use Rattle.client_world.specs.declared.trace.TraceLine.TheVariants.{Entry, EntryRefused, ToProtected, ToReal, Enter, Leave}
use Rattle.dpmi_report.specs.{Digits.{hex_byte, hex_word}, Lines.{regs_text}}
use Rattle.dpmi_io.specs.LineEnd.{line_end}
use Rattle.client_world.specs.declared.calls.Call.TheVariants as call
use Rattle.client_world.specs.declared.calls.What.TheVariants as what

-- what was called
abbrev pub call_text : Call → List ℕ
call_text (call.Int number) = codes "int " ++ hex_byte number
call_text call.Far = codes "far"
call_text call.Iret = codes "iret"
call_text (call.Reflect number) = codes "reflect " ++ hex_byte number

-- what was entered or left
abbrev pub what_text : What → List ℕ
what_text (what.Call c) = call_text c
what_text (what.Back slot) = codes "back " ++ decimal slot
what_text (what.Exc number) = codes "exc " ++ hex_byte number

-- the carry flag of a service
abbrev pub carry_text : Carry → List ℕ
carry_text Clear = codes " ok"
carry_text Set = codes " carry"

-- the width of an entry
abbrev pub width_text : Width → List ℕ
width_text Sixteen = codes "16"
width_text ThirtyTwo = codes "32"

-- the depth, what was called, and the registers
abbrev pub record_text : ℕ → What → Regs → Bool → List ℕ
record_text depth what regs vif = decimal depth ++ codes " " ++ what_text what ++ codes " " ++ regs_text regs vif

-- a line, without its end
abbrev pub event_text : TraceLine → List ℕ
event_text (Int31 ax carry) = codes "int31 " ++ hex_word ax ++ carry_text carry
event_text (Int21 ah) = codes "int21 " ++ hex_byte ah
event_text (Int2f ax) = codes "int2f " ++ hex_word ax
event_text Int20 = codes "int20"
event_text (Entry width) = codes "entry " ++ width_text width
event_text EntryRefused = codes "entry refused"
event_text ToProtected = codes "switch protected"
event_text ToReal = codes "switch real"
event_text (Enter depth what regs vif) = codes "enter " ++ record_text depth what regs vif
event_text (Leave depth what regs vif) = codes "leave " ++ record_text depth what regs vif

-- the line of that number
abbrev pub trace_text : Option TraceLine → List ℕ
trace_text None = []
trace_text (Some event) = event_text event ++ line_end

abbrev pub trace_row : List TraceLine → ℕ → List ℕ
trace_row kept i = trace_text (slice_get kept i)
