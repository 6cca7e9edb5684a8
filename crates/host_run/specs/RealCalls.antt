-- How a turn starts a call of real mode, and how a call returns: the world after it, the record that it keeps meanwhile, and its lines of
-- the trace. Source: own.
use Rattle.std.specs.Prelude.{◌≡◌, ◌⊎◌, List, [], ◌∷◌, ℕ, Some, Ok}
use Rattle.client_world.specs.{declared.calls.Call.{Call}, declared.calls.Call.TheVariants.{Int, Far, Iret, Reflect}}
use Rattle.client_world.specs.{declared.calls.Record.{Record}, declared.calls.Record.TheVariants.{Sim}}
use Rattle.client_world.specs.{declared.registers.Mode.TheVariants.{Protected}, declared.services.Carry.TheVariants.{Clear}}
use Rattle.client_world.specs.{declared.trace.TraceLine.{TraceLine}, declared.trace.TraceLine.TheVariants.{Int31}, Registers.{low_half}}
use Rattle.client_world.specs.{Segments.{null_pointer}, Services.{es_di}, World.{World, HostWorld}}
use Rattle.interrupts.specs.Worlds.{world_after_iret}
use Rattle.host_run.specs.Turn.{asked_call, call_enter_line, call_leave_line, with_trace_line}
use Rattle.translation.specs.SimulatedCall.{begin_call, end_call, reflect}

-- the trace of the second host is that of the first with these lines after it
abbrev pub HasMoreLines : HostWorld → List TraceLine → HostWorld → Type 0
HasMoreLines w [] v = (v.kept ≡ w.kept) × (v.lines ≡ w.lines)
HasMoreLines w (line ∷ lines) v = HasMoreLines (with_trace_line line w) lines v

-- the client asks for a call by a function of INT 31h. `popped` is the machine after the frame of that interrupt is popped, which in
-- protected mode leaves the virtual interrupt flag
pub record StartsCall (w : HostWorld) (call : Call) (r : Record) (v : HostWorld) : Type 0 where
  pub popped : World
  pub pops : world_after_iret w.machine ≡ Ok popped
  pub mode : w.machine.mode ≡ Protected
  pub vif : popped.vif ≡ w.machine.vif
  pub asked : asked_call (low_half popped.regs.eax) popped ≡ Some call
  pub starts : begin_call popped call ≡ record { carry = Clear; world = v.machine }
  pub keeps : r ≡ Sim call popped.regs popped.vif (es_di popped)
  pub lines : HasMoreLines w (Int31 (low_half popped.regs.eax) Clear ∷ call_enter_line popped call v.machine ∷ []) v

-- whose interrupt a turn may reflect: the client's, which has pushed its frame; one from outside, which pushes none; or either
pub data InterruptSource : Type 0 where
  from_client : InterruptSource
  from_outside : InterruptSource
  from_anywhere : InterruptSource

-- the machine that an interrupt is reflected from: with the frame popped that the interrupt pushed; or as it is, where it pushed none
abbrev pub ReflectedFrom : InterruptSource → World → World → Type 0
ReflectedFrom from_client w client = world_after_iret w ≡ Ok client
ReflectedFrom from_outside w client = client ≡ w
ReflectedFrom from_anywhere w client = (world_after_iret w ≡ Ok client) ⊎ (client ≡ w)

-- an interrupt that no handler of the client takes is reflected; `client` is the machine that it is reflected from
pub record StartsReflection (source : InterruptSource) (w : HostWorld) (n : ℕ) (r : Record) (v : HostWorld) : Type 0 where
  pub client : World
  pub from : ReflectedFrom source w.machine client
  pub mode : w.machine.mode ≡ Protected
  pub vif : client.vif ≡ w.machine.vif
  pub starts : reflect client n ≡ Ok v.machine
  pub keeps : r ≡ Sim (Reflect n) client.regs client.vif null_pointer
  pub lines : HasMoreLines w (call_enter_line client (Reflect n) v.machine ∷ []) v

abbrev pub StartsRealCall : InterruptSource → HostWorld → Call → Record → HostWorld → Type 0
StartsRealCall source w (Int n) r v = StartsCall w (Int n) r v
StartsRealCall source w Far r v = StartsCall w Far r v
StartsRealCall source w Iret r v = StartsCall w Iret r v
StartsRealCall source w (Reflect n) r v = StartsReflection source w n r v

-- the innermost call returns to the client
pub record ReturnsFromCall (w : HostWorld) (call : Call) (v : HostWorld) : Type 0 where
  pub returns : end_call w.machine ≡ Ok v.machine
  pub lines : HasMoreLines w (call_leave_line w.machine call v.machine ∷ []) v
