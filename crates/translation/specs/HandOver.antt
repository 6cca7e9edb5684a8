-- What a call, a reflection and their return hand over. Source: DPMI 0.9, INT 31h functions 0300h to 0302h, and "Interrupts".
use Rattle.std.specs.Prelude.{◌≡◌, ℕ, Bool, false, List, [], ◌∷◌, ◌++◌, length}
use Rattle.client_world.specs.{declared.calls.Call.{Call}, declared.calls.Call.TheVariants.{Reflect}}
use Rattle.client_world.specs.{declared.calls.Record.TheVariants.{Sim}, declared.registers.Mode.TheVariants.{Real, Protected}}
use Rattle.client_world.specs.{declared.registers.Regs.{Regs}, declared.segments.FarPtr.{FarPtr}, Registers.{flags_image}}
use Rattle.client_world.specs.{Segments.{null_pointer}, Services.{cx, es_di}, World.{World}}
use Rattle.guest_ram.specs.Bytes.{put}
use Rattle.translation.specs.{RealStack.{host_real_stack, stack_words}, SimulatedCall.{after_return, callee_interrupts, callee_regs}}
use Rattle.translation.specs.SimulatedCall.{callee_stack, callee_start, client_regs, client_words, is_reflection, return_frame}
use Rattle.translation.specs.Structure.{index_results, other_results, structure_bytes, structure_flags, structure_regs}

-- the words on a callee's stack, from its stack pointer up
abbrev pub callee_words : World → ℕ → List ℕ
callee_words v n = stack_words v.dos v.regs.ss v.regs.esp n

-- what a call put on its callee's stack
abbrev pub passed_words : World → Call → List ℕ → List ℕ
passed_words w call s = return_frame call (structure_flags s) ++ client_words w 0 (cx w)

-- from w the client's call led to v, by the bytes s of its structure: one record is pushed; the callee has the registers of the structure,
-- but for where it starts and for its stack pointer; the return frame and the client's words lie on its stack in their order
pub record HasBegun (w v : World) (call : Call) (s : List ℕ) : Type 0 where
  pub pushed : v.calls ≡ w.calls ++ Sim call w.regs w.vif (es_di w) ∷ []
  pub mode : v.mode ≡ Real
  pub regs : v.regs ≡ callee_regs (structure_regs s) (callee_start w call (structure_regs s)) (callee_stack w (structure_regs s))
      (length (passed_words w call s))
  pub vif : v.vif ≡ callee_interrupts call (structure_flags s)
  pub words : callee_words v (length (passed_words w call s)) ≡ passed_words w call s

-- from w a reflection led to v: one record is pushed; the handler has the client's flags and general registers, and no data segments; the
-- frame of an interrupt lies on its stack
pub record HasReflected (w v : World) (n : ℕ) : Type 0 where
  pub pushed : v.calls ≡ w.calls ++ Sim (Reflect n) w.regs w.vif null_pointer ∷ []
  pub mode : v.mode ≡ Real
  pub regs : v.regs ≡ callee_regs (record w.regs { ds = 0; es = 0; fs = 0; gs = 0 }) (callee_start w (Reflect n) w.regs)
      (host_real_stack w) 3
  pub vif : v.vif ≡ false
  pub words : callee_words v 3 ≡ return_frame (Reflect n) (flags_image w.regs.flags w.vif)

-- from w a return led to v: one record is popped; the client goes on with its registers; bytes 00h to 0Bh and 10h to 29h of a call's
-- structure are the callee's registers, and the others are as they were
pub record HasEnded (w v : World) : Type 0 where
  pub call : Call
  pub saved : Regs
  pub on : Bool
  pub at : FarPtr
  pub popped : w.calls ≡ v.calls ++ Sim call saved on at ∷ []
  pub mode : v.mode ≡ Protected
  pub regs : v.regs ≡ client_regs w call saved
  pub vif : v.vif ≡ on
  pub results : is_reflection call ≡ false →
      structure_bytes v at ≡ put (put (structure_bytes w at) 0x00 (index_results w.regs)) 0x10 (other_results w.regs w.vif)

-- from w a return led to v, the client of the innermost record, which is popped
pub record IsPopped (w v : World) : Type 0 where
  pub call : Call
  pub saved : Regs
  pub on : Bool
  pub at : FarPtr
  pub popped : w.calls ≡ v.calls ++ Sim call saved on at ∷ []
  pub is : v ≡ after_return w call saved on at

-- of the world nothing has changed but the mode, the registers, the virtual interrupt flag, the megabyte and the records
abbrev pub LeftForCallee : World → World → Type 0
LeftForCallee w v = v ≡ record w { mode = v.mode; regs = v.regs; vif = v.vif; dos = v.dos; calls = v.calls }

-- nothing but those and the bytes of memory blocks
abbrev pub LeftForClient : World → World → Type 0
LeftForClient w v = v ≡ record w { mode = v.mode; regs = v.regs; vif = v.vif; dos = v.dos; blocks = v.blocks; calls = v.calls }
