-- What a callback and its return hand over. Source: DPMI 0.9, INT 31h function 0303h.
use Rattle.std.specs.Prelude.{◌≡◌, ℕ, false, [], ◌∷◌, ◌++◌, Some}
use Rattle.client_world.specs.{declared.calls.Record.TheVariants.{Back}, declared.registers.Mode.TheVariants.{Real, Protected}}
use Rattle.client_world.specs.{declared.registers.TheConstants.{INTERRUPT_BIT}, declared.segments.FarPtr.{FarPtr}, Registers.{has_bit}}
use Rattle.client_world.specs.{Selector.{row_at_index}, Services.{es_di}, World.{World}}
use Rattle.guest_space.specs.VectorLists.{callback_of_slot}
use Rattle.translation.specs.Structure.{structure_bytes, structure_flags, structure_regs}
use Rattle.callbacks.specs.Callbacks.{after_leaving, caller_structure, procedure_regs, stack_index, stack_row}

-- from w the callback of a slot led to v: one record is pushed, of the slot and of the callback's call structure
pub record IsCallbackPushed (w v : World) (slot : ℕ) : Type 0 where
  -- the callback that is held there
  pub procedure : FarPtr
  pub at : FarPtr
  pub held : callback_of_slot w.callbacks slot ≡ Some (procedure, at)
  pub pushed : v.calls ≡ w.calls ++ Back slot at ∷ []

-- from w a callback returned, which led to v: one record is popped, whose slot and structure have no part in what follows
pub record IsCallbackPopped (w v : World) : Type 0 where
  pub slot : ℕ
  pub at : FarPtr
  pub popped : w.calls ≡ v.calls ++ Back slot at ∷ []
  pub is : v ≡ after_leaving w (structure_bytes w (es_di w))

-- from w the callback of a slot led to v: one record is pushed; the procedure has the registers that it starts with; the real caller's
-- stack has its descriptor; and the structure holds the real caller's registers
pub record HasEntered (w v : World) (slot : ℕ) : Type 0 where
  -- the callback that is held there
  pub procedure : FarPtr
  pub at : FarPtr
  pub held : callback_of_slot w.callbacks slot ≡ Some (procedure, at)
  pub pushed : v.calls ≡ w.calls ++ Back slot at ∷ []
  pub mode : v.mode ≡ Protected
  pub regs : v.regs ≡ procedure_regs w procedure at
  pub vif : v.vif ≡ false
  pub stack : row_at_index v.descriptors (stack_index w) ≡ stack_row w
  pub structure : structure_bytes v at ≡ caller_structure w slot

-- from w a callback returned, which led to v: one record is popped; real mode goes on with the registers and the virtual interrupt flag of
-- the structure at the present ES:(E)DI, whichever the callback's was
pub record HasLeft (w v : World) : Type 0 where
  -- of the record
  pub slot : ℕ
  pub at : FarPtr
  pub popped : w.calls ≡ v.calls ++ Back slot at ∷ []
  pub mode : v.mode ≡ Real
  pub regs : v.regs ≡ structure_regs (structure_bytes w (es_di w))
  pub vif : v.vif ≡ has_bit (structure_flags (structure_bytes w (es_di w))) INTERRUPT_BIT

-- of the world nothing has changed but the mode, the registers, the virtual interrupt flag, the descriptors, the records, and the bytes of
-- the megabyte and of memory blocks
abbrev pub LeftForProcedure : World → World → Type 0
LeftForProcedure w v =
    v ≡ record w { mode = v.mode; regs = v.regs; vif = v.vif; dos = v.dos; blocks = v.blocks; descriptors = v.descriptors; calls = v.calls }

-- nothing but the mode, the registers, the virtual interrupt flag and the records
abbrev pub LeftForReal : World → World → Type 0
LeftForReal w v = v ≡ record w { mode = v.mode; regs = v.regs; vif = v.vif; calls = v.calls }

-- nothing but the registers and the callbacks
abbrev pub LeftByService : World → World → Type 0
LeftByService w v = v ≡ record w { regs = v.regs; callbacks = v.callbacks }
