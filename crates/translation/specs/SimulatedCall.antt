-- Calls of real-mode procedures from protected mode: those that a client asks for, interrupts that are reflected, and the return from both.
-- Source: DPMI 0.9, INT 31h functions 0300h to 0302h, and "Interrupts"; the host's stacks, the depth and the exits are own.
use Rattle.std.specs.Prelude.{ℕ, zero, suc, ◌+◌, ◌-◌, ◌*◌, Bool, true, false, ◌&&◌, ◌||◌, not, nat_eq, nat_le, nat_lt, is_ok, List, [], ◌∷◌}
use Rattle.std.specs.{Prelude.{◌++◌, length, take, None, Some, Ok, Err, if◌then◌else◌}, declared.option.Option.{Option}}
use Rattle.std.specs.declared.result.Result.{Result}
use Rattle.client_world.specs.{declared.calls.Call.{Call}, declared.calls.Call.TheVariants.{Int, Far, Iret, Reflect}}
use Rattle.client_world.specs.{declared.calls.Record.{Record}, declared.calls.Record.TheVariants.{Sim, Back, Exc}}
use Rattle.client_world.specs.{declared.faults.Fault.{Fault}, declared.limits.TheConstants.{GREATEST_DEPTH, MAX_CALL_WORDS}}
use Rattle.client_world.specs.{declared.memory_map.TheConstants.{ROM_SEGMENT, ROM_START}, declared.outcome.Exit.{Exit}}
use Rattle.client_world.specs.{declared.registers.Mode.TheVariants.{Real, Protected}, declared.registers.Regs.{Regs}}
use Rattle.client_world.specs.{declared.registers.TheConstants.{INTERRUPT_BIT}, declared.segments.FarPtr.{FarPtr}}
use Rattle.client_world.specs.{declared.segments.SegReg.{SegReg}, declared.segments.SegReg.TheVariants.{Es, Cs, Ss, Ds, Fs, Gs}}
use Rattle.client_world.specs.{declared.services.Begun.{Begun}, declared.services.Begun.TheVariants.{Run, Refused}}
use Rattle.client_world.specs.{declared.services.Carry.{Carry}, declared.services.Carry.TheVariants.{Clear, Set}}
use Rattle.client_world.specs.{declared.traps.TheConstants.{CALL_RETURN_TRAP}, Loading.{is_loadable}, Registers.{flags_image, has_bit}}
use Rattle.client_world.specs.{Segments.{null_pointer}, Services.{Served, cx, es_di}, World.{World, depth}}
use Rattle.guest_ram.specs.Bytes.{word_of}
use Rattle.guest_space.specs.{Dos.{real_vector}, Transfer.{read_result}}
use Rattle.insn_plan.specs.Stack.{stack_pointer_up}
use Rattle.mode_stack.specs.Stack.{top}
use Rattle.service_rows.specs.declared.refusal.Refusal.TheVariants.{InvalidAddress, InvalidValue, LinearMemoryUnavailable}
use Rattle.service_rows.specs.Reasons.{Service, outcome}
use Rattle.translation.specs.{RealStack.{are_writable_words, host_real_stack, with_words_at, words_below}, Structure.{has_structure}}
use Rattle.translation.specs.Structure.{structure_bytes, structure_flags, structure_regs, with_results}
use Rattle.client_world.specs.declared.outcome.Exit.TheVariants as exits

abbrev pub is_reflection : Call → Bool
is_reflection (Int n) = false
is_reflection Far = false
is_reflection Iret = false
is_reflection (Reflect n) = true

-- ---- the words that a client passes

-- word k at the client's SS:(E)SP, counted from the stack pointer up; each is an access of its own
abbrev pub client_word : World → ℕ → Result (List ℕ) Fault
client_word w k = read_result w Ss (stack_pointer_up w (2 * k) w.regs) 2

-- the n words from word k on can be read
abbrev pub are_readable_words : World → ℕ → ℕ → Bool
are_readable_words w k zero = true
are_readable_words w k (suc n) = is_ok (client_word w k) && are_readable_words w (k + 1) n

-- the word of a read, 0 where it has a fault
abbrev pub word_read : Result (List ℕ) Fault → ℕ
word_read (Ok bytes) = word_of bytes 0
word_read (Err fault) = 0

-- the n words from word k on
abbrev pub client_words : World → ℕ → ℕ → List ℕ
client_words w k zero = []
client_words w k (suc n) = word_read (client_word w k) ∷ client_words w (k + 1) n

-- ---- the start of a callee

-- where it starts, by the registers of the structure: the procedure at CS:IP, or the handler of an interrupt, read before anything is
-- written
abbrev pub callee_start : World → Call → Regs → FarPtr
callee_start w (Int n) r = real_vector w n
callee_start w Far r = record { sel = r.cs; off = r.eip }
callee_start w Iret r = record { sel = r.cs; off = r.eip }
callee_start w (Reflect n) r = real_vector w n

-- its stack before anything is pushed: SS:SP of the structure, or the host's where both are 0
abbrev pub callee_stack : World → Regs → FarPtr
callee_stack w r = if nat_eq r.esp 0 && nat_eq r.ss 0 then host_real_stack w else record { sel = r.ss; off = r.esp }

-- the return address, below the flags where it returns by IRET, from the stack pointer up
abbrev pub return_frame : Call → ℕ → List ℕ
return_frame (Int n) image = (CALL_RETURN_TRAP - ROM_START) ∷ ROM_SEGMENT ∷ image ∷ []
return_frame Far image = (CALL_RETURN_TRAP - ROM_START) ∷ ROM_SEGMENT ∷ []
return_frame Iret image = (CALL_RETURN_TRAP - ROM_START) ∷ ROM_SEGMENT ∷ image ∷ []
return_frame (Reflect n) image = (CALL_RETURN_TRAP - ROM_START) ∷ ROM_SEGMENT ∷ image ∷ []

-- virtual interrupts are off, but for a procedure that returns by a far return: there they are those of the flags
abbrev pub callee_interrupts : Call → ℕ → Bool
callee_interrupts (Int n) image = false
callee_interrupts Far image = has_bit image INTERRUPT_BIT
callee_interrupts Iret image = false
callee_interrupts (Reflect n) image = false

-- the registers where it starts, with n words on its stack
abbrev pub callee_regs : Regs → FarPtr → FarPtr → ℕ → Regs
callee_regs r start stack n = record r {
  eip = start.off;
  cs = start.sel;
  esp = words_below stack.off n;
  ss = stack.sel;
}

-- the world in which it starts: these registers and virtual interrupt flag, with words on its stack, and a record of the client
unfoldable pub callee_world : World → Call → FarPtr → Regs → Bool → List ℕ → World
callee_world w call at r on words = record w {
  mode = Real;
  regs = r;
  vif = on;
  dos = with_words_at w.dos r.ss r.esp words;
  calls = w.calls ++ Sim call w.regs w.vif at ∷ [];
}

-- ---- a call that the client asks for, by the registers and the word of the flags in its structure

-- what lies on the callee's stack, from the stack pointer up: the return frame, and then the client's CX words in the order that they had
unfoldable pub call_words : World → Call → ℕ → List ℕ
call_words w call image = return_frame call image ++ client_words w 0 (cx w)

-- the registers of the callee, with n words on its stack
unfoldable pub call_regs : World → Call → Regs → ℕ → Regs
call_regs w call r n = callee_regs r (callee_start w call r) (callee_stack w r) n

-- n words can be written to the stack of a callee that starts with these registers
abbrev pub has_stack : Regs → ℕ → Bool
has_stack r n = are_writable_words r.ss r.esp n

-- the world in which it starts, with these words on its stack
abbrev pub called_world : World → Call → Regs → ℕ → List ℕ → World
called_world w call r image words =
    callee_world w call (es_di w) (call_regs w call r (length words)) (callee_interrupts call image) words

-- why it is refused: more than 200 words, calls nested too deeply, no structure, a word of the client that can't be read, a word of the
-- callee's stack that can't be written
unfoldable pub call_service : World → Call → Regs → ℕ → Service
call_service w call r image = record {
  reasons =
      (InvalidValue, nat_lt MAX_CALL_WORDS (cx w)) ∷
      (LinearMemoryUnavailable, nat_le GREATEST_DEPTH (depth w)) ∷
      (InvalidAddress, not (has_structure w (es_di w))) ∷
      (InvalidAddress, not (are_readable_words w 0 (cx w))) ∷
      (InvalidAddress, not (has_stack (call_regs w call r (length (call_words w call image))) (length (call_words w call image)))) ∷ [];
  after = called_world w call r image (call_words w call image);
}

-- the carry of a call that is begun or refused
abbrev pub carry_of : Begun → Carry
carry_of Run = Clear
carry_of Refused = Set

-- functions 0300h (interrupt), 0301h (procedure with a far return) and 0302h (procedure with IRET), whose structure is at ES:(E)DI: the
-- carry, and the world after them
unfoldable pub begin_call : World → Call → Served
begin_call w call =
    let s = structure_bytes w (es_di w) in
    outcome (call_service w call (structure_regs s) (structure_flags s)) w

-- ---- an interrupt that is reflected

-- the flags of the client, with the virtual interrupt flag, on the handler's stack
unfoldable pub reflection_words : World → ℕ → List ℕ
reflection_words w n = return_frame (Reflect n) (flags_image w.regs.flags w.vif)

-- the handler's registers: the flags and the general registers of the client, and no data segments
unfoldable pub reflection_regs : World → ℕ → Regs
reflection_regs w n =
    callee_regs (record w.regs { ds = 0; es = 0; fs = 0; gs = 0 }) (callee_start w (Reflect n) w.regs) (host_real_stack w)
    (length (reflection_words w n))

-- the world in which the handler of real mode starts
unfoldable pub after_reflection : World → ℕ → World
after_reflection w n =
    callee_world w (Reflect n) null_pointer (reflection_regs w n) (callee_interrupts (Reflect n) 0) (reflection_words w n)

-- an interrupt of protected mode that no handler of the client takes, over the present registers: the world in which the handler of real
-- mode starts, or the exit where calls are nested too deeply
unfoldable pub reflect : World → ℕ → Result World Exit
reflect w n = if nat_le GREATEST_DEPTH (depth w) then Err exits.Deep else Ok (after_reflection w n)

-- ---- the return

-- a selector that can still be loaded, else null
abbrev pub still_loadable : World → SegReg → ℕ → ℕ
still_loadable w seg sel = if is_loadable w seg sel 0 false then sel else 0

-- the client's registers that a reflection doesn't pass: EIP, the stack, and the segment registers
abbrev pub with_place_of : World → Regs → Regs → Regs
with_place_of w saved r = record r {
  esp = saved.esp;
  eip = saved.eip;
  cs = saved.cs;
  ss = saved.ss;
  ds = still_loadable w Ds saved.ds;
  es = still_loadable w Es saved.es;
  fs = still_loadable w Fs saved.fs;
  gs = still_loadable w Gs saved.gs;
}

-- the client's registers after a return: after a reflection with the general registers and the flags that the handler left, after a call
-- its own with carry clear
abbrev pub client_regs : World → Call → Regs → Regs
client_regs w call saved =
    if is_reflection call then with_place_of w saved w.regs
    else with_place_of w saved (record saved { flags = record saved.flags { cf = false } })

-- the world with the results of a call in its structure
abbrev pub after_results : World → Call → FarPtr → World
after_results w call at = if is_reflection call then w else with_results w at

-- the world in which the client goes on
unfoldable pub after_return : World → Call → Regs → Bool → FarPtr → World
after_return w call saved vif at = record (after_results w call at) {
  mode = Protected;
  regs = client_regs w call saved;
  vif = vif;
  calls = take (depth w - 1) w.calls;
}

-- the client's stack and code can be loaded, as a return loads them
abbrev pub can_go_on : World → Regs → Bool
can_go_on w saved = is_loadable w Ss saved.ss 0 false && is_loadable w Cs saved.cs saved.eip true

-- the return to the client of a record
abbrev pub end_of_record : World → Option Record → Result World Exit
end_of_record w None = Err exits.Stray
end_of_record w (Some (Back slot at)) = Err exits.Stray
end_of_record w (Some (Exc number code)) = Err exits.Stray
end_of_record w (Some (Sim call saved vif at)) =
    if not (is_reflection call || has_structure w at) then Err exits.LostStructure else
    if not (can_go_on w saved) then Err exits.BadFrame else
    Ok (after_return w call saved vif at)

-- the return from the innermost record, or the exit: first that it is no call's, then that its structure can't be reached any more, then
-- that the client's code or stack can't be loaded any more
unfoldable pub end_call : World → Result World Exit
end_call w = end_of_record w (top w)
