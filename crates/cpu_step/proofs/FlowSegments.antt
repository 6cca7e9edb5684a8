-- A row of exec_flow puts words alone into segment registers.
use Rattle.std.proofs.Common.{ℕ, zero, suc, ◌+◌, ◌/◌, ◌%◌, ◌<◌, arith, nat_eq, nat_lt, if◌then◌else◌, Bool, true, false, None, Some}
use Rattle.client_world.specs.{declared.descriptors.Desc.{Desc}, declared.faults.Fault.{Fault}, declared.registers.Mode.{Mode}}
use Rattle.client_world.specs.{declared.registers.Mode.TheVariants.{Real, Protected}, declared.segments.SegReg.{SegReg}}
use Rattle.client_world.specs.{declared.segments.SegReg.TheVariants.{Cs}, Loading.{register_fault, transfer_fault}, Selector.{Row}}
use Rattle.client_world.specs.{Selector.{client_selector, privilege_of}, World.{World}}
use Rattle.exec_flow.specs.{Dispatch.{flow_row}, FarTransfers.{code_selector, far_transfer, jump_far, call_far, far_frame_pop, retf}}
use Rattle.exec_flow.specs.{FarTransfers.{interrupt_frame_pop, iret}, FlagImages.{pushf, with_popped_flags, popf, cli, sti}}
use Rattle.exec_flow.specs.{Frames.{push_saved_frames, with_new_frame, enter, leave, bound}, Interrupts.{int, int3, into}}
use Rattle.exec_flow.specs.{Pointers.{offset_range}, Ports.{input, output}, Questions.{verify, descriptor_answer, load_from_descriptor}}
use Rattle.exec_flow.specs.{Questions.{arpl}, Raising.{invalid_opcode, privileged, escape, in_protected, load_table}}
use Rattle.exec_flow.specs.Segments.{with_loaded_segment, mov_to_segment, mov_from_segment, mov_segment, push_segment, pop_into}
use Rattle.exec_flow.specs.{Segments.{pop_segment, load_pointer}, Transfers.{at_operand_size, near_transfer, jcc, jcxz, loop_while, jmp}}
use Rattle.exec_flow.specs.Transfers.{call, immediate, ret}
use Rattle.insn_forms.specs.{declared.insn.Insn.{Insn}, declared.insn.Op.{Op}, declared.insn.Operand.{Operand}}
use Rattle.insn_forms.specs.declared.insn.Operand.TheVariants.{Empty, Reg, Seg, Mem, Imm, Far}
use Rattle.insn_plan.specs.{Act.{Act, Pending, done, raise}, Conditions.{condition}, Stack.{regs_after_pops}}
use Rattle.cpu_step.proofs.SegmentWords.{HoldWith, HoldWords, LeavesWith, LeavesWords, leaves_if, leaves_by_mode, leaves_unless}
use Rattle.cpu_step.proofs.SegmentWords.{words_register, words_put, words_pushed, words_selector, half_is_word}
use Rattle.insn_forms.specs.declared.insn.Op.TheVariants as ops

-- ---- near transfers

near_leaves : {P : ℕ → Type 0} (w : World) (i : Insn) (ip : ℕ) (p : Pending) → HoldWith P p.regs → LeavesWith P (near_transfer w i ip p)
unfolding near_transfer
near_leaves w i ip p s = leaves_unless _ (transfer_fault w w.regs.cs (at_operand_size i ip) false) _ s

pub jcc_leaves : {P : ℕ → Type 0} (w : World) (i : Insn) (n : ℕ) → HoldWith P w.regs → LeavesWith P (jcc w i n)
unfolding jcc
jcc_leaves w i n s = λ ip. leaves_if _ (condition n w.regs.flags) _ _ (near_leaves w i ip _ s) s

-- ---- far transfers

code_by_mode : (m : Mode) (sel : ℕ) → sel < 0x10000 → elim m as (λ _. ℕ) [ Real ↦ sel | Protected ↦ client_selector sel ] < 0x10000
code_by_mode Real sel small = small
code_by_mode Protected sel small = omega arith

pub code_is_word : (w : World) (sel : ℕ) → sel < 0x10000 → code_selector w sel < 0x10000
unfolding code_selector
code_is_word w sel small = code_by_mode w.mode sel small

far_leaves : (w : World) (sel ip : ℕ) (return : Bool) (p : Pending) → sel < 0x10000 → HoldWords p.regs →
    LeavesWords (far_transfer w sel ip return p)
unfolding far_transfer
far_leaves w sel ip return p small s =
    leaves_unless _ (transfer_fault w sel ip return) _ (words_selector p.regs Cs (code_selector w sel) s (code_is_word w sel small))

pub far_frame_leaves : (w : World) (bits bytes : ℕ) → HoldWords w.regs → LeavesWords (far_frame_pop w bits bytes)
unfolding far_frame_pop regs_after_pops
far_frame_leaves w bits bytes s = λ ip cs. far_leaves w _ _ _ _ (half_is_word cs) s

pub frame_leaves : (w : World) (bits : ℕ) → HoldWords w.regs → LeavesWords (interrupt_frame_pop w bits)
unfolding interrupt_frame_pop with_popped_flags regs_after_pops
frame_leaves w bits s = λ ip cs image. far_leaves w _ _ _ _ (half_is_word cs) s

-- ---- segment registers

loaded_leaves : (w : World) (seg : SegReg) (sel : ℕ) (p : Pending) → sel < 0x10000 → HoldWords p.regs →
    LeavesWords (with_loaded_segment w seg sel p)
unfolding with_loaded_segment
loaded_leaves w seg sel p small s = leaves_unless _ (register_fault w seg sel) _ (words_selector p.regs seg sel s small)

mov_to_leaves : (w : World) (i : Insn) (seg : SegReg) → HoldWords w.regs → LeavesWords (mov_to_segment w i seg)
unfolding mov_to_segment
mov_to_leaves w i seg s = λ v. loaded_leaves w seg _ _ (half_is_word v) s

-- what is done with a segment register, and with any other operand
by_operand : (o : Operand) (f : SegReg → Act) (other : Act) → ((seg : SegReg) → LeavesWords (f seg)) → LeavesWords other →
    LeavesWords (elim o [ Seg seg ↦ f seg | _ ↦ other ])
by_operand Empty f other one rest = rest
by_operand (Reg own number) f other one rest = rest
by_operand (Seg seg) f other one rest = one seg
by_operand (Mem form) f other one rest = rest
by_operand (Imm v) f other one rest = rest
by_operand (Far p) f other one rest = rest

mov_segment_leaves : (w : World) (i : Insn) → HoldWords w.regs → LeavesWords (mov_segment w i)
unfolding mov_segment mov_from_segment
mov_segment_leaves w i s =
    by_operand i.first (mov_to_segment w i) (mov_from_segment w i) (λ seg. mov_to_leaves w i seg s) (λ v. words_put _ _ _ _ _ _ s)

pop_into_leaves : (w : World) (i : Insn) (seg : SegReg) → HoldWords w.regs → LeavesWords (pop_into w i seg)
unfolding pop_into regs_after_pops
pop_into_leaves w i seg s = λ v. loaded_leaves w seg _ _ (half_is_word v) s

pop_segment_leaves : (w : World) (i : Insn) → HoldWords w.regs → LeavesWords (pop_segment w i)
unfolding pop_segment
pop_segment_leaves w i s = by_operand i.first (pop_into w i) _ (λ seg. pop_into_leaves w i seg s) s

pointer_leaves : (seg : SegReg) (w : World) (i : Insn) → HoldWords w.regs → LeavesWords (load_pointer seg w i)
unfolding load_pointer
pointer_leaves seg w i s = λ p. loaded_leaves w seg _ _ (half_is_word (p / offset_range i)) (words_put _ _ _ _ _ _ s)

-- ---- flags, frames, ports and questions

frames_leave : (w : World) (i : Insn) (level n : ℕ) (p : Pending) (rest : Pending → Act) →
    ((q : Pending) → HoldWords q.regs → LeavesWords (rest q)) → HoldWords p.regs → LeavesWords (push_saved_frames w i level n p rest)
unfolding push_saved_frames
frames_leave w i level zero p rest leaves s = leaves p s
frames_leave w i level (suc n) p rest leaves s = λ v. frames_leave w i (level + 1) n _ rest leaves (words_pushed _ _ _ _ s)

frame_words : (w : World) (i : Insn) (frame : ℕ) (p : Pending) → HoldWords p.regs → HoldWords (with_new_frame w i frame p).regs
unfolding with_new_frame
frame_words w i frame p s = words_register _ _ _ _ s

enter_leaves : (w : World) (i : Insn) → HoldWords w.regs → LeavesWords (enter w i)
unfolding enter
enter_leaves w i s =
    leaves_if _ (nat_eq (immediate i.second % 32) 0) _ _ (frame_words w i _ _ (words_pushed _ _ _ _ s))
    (frames_leave w i 1 _ _ _ (λ q t. frame_words w i _ _ (words_pushed _ _ _ _ t)) (words_pushed _ _ _ _ s))

bound_leaves : (outside : Bool) (f : Fault) (p : Pending) → HoldWords p.regs → LeavesWords (if outside then raise f else done p)
bound_leaves true f p s = tt
bound_leaves false f p s = s

leave_leaves : (w : World) (i : Insn) → HoldWords w.regs → LeavesWords (leave w i)
unfolding leave regs_after_pops
leave_leaves w i s = λ bp. words_register _ _ _ _ s

in_protected_leaves : (w : World) (act : Act) → LeavesWords act → LeavesWords (in_protected w act)
unfolding in_protected invalid_opcode
in_protected_leaves w act s = leaves_by_mode _ w.mode invalid_opcode act tt s

verify_leaves : (test : Row → Bool) (w : World) (i : Insn) → HoldWords w.regs → LeavesWords (verify test w i)
unfolding verify
verify_leaves test w i s = in_protected_leaves w _ (λ sel. s)

told_leaves : (number : Desc → ℕ) (w : World) (i : Insn) (row : Row) → HoldWords w.regs → LeavesWords (descriptor_answer number w i row)
told_leaves number w i None s = s
told_leaves number w i (Some row) s = words_put _ _ _ _ _ _ s

tell_leaves : (number : Desc → ℕ) (w : World) (i : Insn) → HoldWords w.regs → LeavesWords (load_from_descriptor number w i)
unfolding load_from_descriptor
tell_leaves number w i s = in_protected_leaves w _ (λ sel. told_leaves number w i _ s)

arpl_leaves : (w : World) (i : Insn) → HoldWords w.regs → LeavesWords (arpl w i)
unfolding arpl
arpl_leaves w i s = in_protected_leaves w _ (λ a b. leaves_if _ (nat_lt (privilege_of a) (privilege_of b)) _ _ (words_put _ _ _ _ _ _ s) s)

load_table_leaves : (w : World) → LeavesWords (load_table w)
unfolding load_table privileged
load_table_leaves w = in_protected_leaves w _ tt

-- ---- all of them. A row that puts or pushes a number, makes a near transfer, raises an exception or leaves the registers is opened; each
-- other one is shown by its lemma, which is found. The first line makes a case of each operation

pub flow_leaves : (op : Op) (w : World) (i : Insn) (len : ℕ) → HoldWords w.regs → LeavesWords (flow_row op w i len)
unfolding flow_row int int3 cli sti output invalid_opcode privileged escape with_popped_flags regs_after_pops
    push_segment pushf popf input retf iret jmp jump_far call call_far ret jcc jcxz loop_while into bound
flow_leaves ops.Mov w i len s = mov_segment_leaves w i s
flow_leaves _ w i len s = search (
  s,
  words_put,
  words_pushed,
  leaves_if,
  near_leaves,
  far_leaves,
  half_is_word,
  far_frame_leaves,
  frame_leaves,
  mov_segment_leaves,
  pop_segment_leaves,
  enter_leaves,
  leave_leaves,
  bound_leaves,
  pointer_leaves,
  tell_leaves,
  verify_leaves,
  arpl_leaves,
  load_table_leaves,
)
