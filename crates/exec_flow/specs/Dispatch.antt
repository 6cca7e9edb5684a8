-- The instructions of this crate, and what each of them does.
use Rattle.std.specs.Prelude.{◌≡◌, ℕ, Bool, true, not}
use Rattle.client_world.specs.{Descriptor.{byte_limit}, World.{World}}
use Rattle.insn_forms.specs.{declared.insn.Insn.{Insn}, declared.insn.Op.{Op}, declared.insn.Operand.{Operand}, Kinds.{is_of_core}}
use Rattle.insn_forms.specs.Kinds.{operation}
use Rattle.insn_plan.specs.Act.{Act, done, unchanged}
use Rattle.exec_flow.specs.{FarTransfers.{jump_far, call_far, retf, iret}, FlagImages.{pushf, popf, cli, sti}, Frames.{enter, leave, bound}}
use Rattle.exec_flow.specs.{Interrupts.{int, int3, into}, Ports.{input, output}, Questions.{verify, load_from_descriptor, arpl}}
use Rattle.exec_flow.specs.{Questions.{is_readable, is_writable_row, access_rights}, Raising.{invalid_opcode, privileged, escape}}
use Rattle.exec_flow.specs.{Raising.{load_table}, Segments.{mov_segment, push_segment, pop_segment, load_pointer}, Transfers.{jcc, jcxz}}
use Rattle.exec_flow.specs.Transfers.{loop_while, jmp, call, ret}
use Rattle.client_world.specs.declared.segments.SegReg.TheVariants as segs
use Rattle.insn_forms.specs.declared.insn.Op.TheVariants as ops

-- the instruction is one of this crate, by the table of operations: it is none of exec_core
unfoldable pub is_flow : Op → Operand → Operand → Bool
unfolding operation
is_flow op first second = not (is_of_core (operation op).owner first second)

abbrev pub IsFlow : Insn → Type 0
IsFlow i = is_flow i.op i.first i.second ≡ true

-- what an instruction of this crate does; its length in bytes matters for software interrupts alone. The last line is that of none
unfoldable pub flow_row : Op → World → Insn → ℕ → Act
flow_row ops.Mov w i len = mov_segment w i
flow_row ops.Push w i len = push_segment w i
flow_row ops.Pop w i len = pop_segment w i
flow_row ops.Pushf w i len = pushf w i
flow_row ops.Popf w i len = popf w i
flow_row (ops.Jcc n) w i len = jcc w i n
flow_row ops.Jcxz w i len = jcxz w i
flow_row ops.Loop w i len = loop_while true w i
flow_row ops.Loope w i len = loop_while w.regs.flags.zf w i
flow_row ops.Loopne w i len = loop_while (not w.regs.flags.zf) w i
flow_row ops.Jmp w i len = jmp w i
flow_row ops.JmpFar w i len = jump_far w i
flow_row ops.Call w i len = call w i
flow_row ops.CallFar w i len = call_far w i
flow_row ops.Ret w i len = ret w i
flow_row ops.Retf w i len = retf w i
flow_row ops.Int w i len = int i len
flow_row ops.Int3 w i len = int3 len
flow_row ops.Into w i len = into w len
flow_row ops.Iret w i len = iret w i
flow_row ops.Bound w i len = bound w i
flow_row ops.Enter w i len = enter w i
flow_row ops.Leave w i len = leave w i
flow_row ops.Cli w i len = cli w
flow_row ops.Sti w i len = sti w
flow_row ops.Hlt w i len = privileged
flow_row ops.In w i len = input w i
flow_row ops.Out w i len = output w
flow_row ops.Ins w i len = privileged
flow_row ops.Outs w i len = privileged
flow_row ops.Les w i len = load_pointer segs.Es w i
flow_row ops.Lds w i len = load_pointer segs.Ds w i
flow_row ops.Lss w i len = load_pointer segs.Ss w i
flow_row ops.Lfs w i len = load_pointer segs.Fs w i
flow_row ops.Lgs w i len = load_pointer segs.Gs w i
flow_row ops.Lar w i len = load_from_descriptor access_rights w i
flow_row ops.Lsl w i len = load_from_descriptor byte_limit w i
flow_row ops.Verr w i len = verify is_readable w i
flow_row ops.Verw w i len = verify is_writable_row w i
flow_row ops.Arpl w i len = arpl w i
flow_row ops.Sldt w i len = invalid_opcode
flow_row ops.Str w i len = invalid_opcode
flow_row ops.Lldt w i len = load_table w
flow_row ops.Ltr w i len = load_table w
flow_row ops.Sgdt w i len = invalid_opcode
flow_row ops.Sidt w i len = invalid_opcode
flow_row ops.Lgdt w i len = privileged
flow_row ops.Lidt w i len = privileged
flow_row ops.Smsw w i len = invalid_opcode
flow_row ops.Lmsw w i len = privileged
flow_row ops.Clts w i len = privileged
flow_row ops.MovControl w i len = privileged
flow_row ops.MovDebug w i len = privileged
flow_row ops.MovTest w i len = privileged
flow_row ops.Esc w i len = escape
flow_row _ w i len = done (unchanged w)
