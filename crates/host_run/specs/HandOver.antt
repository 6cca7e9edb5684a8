-- What is handed over in a run by two turns of which the second takes away the record that the first added. A call of real mode: the turn
-- that starts it gives its procedure the client's registers, structure and words, and the turn that ends it gives the client those of the
-- procedure. A callback: its procedure finds the real caller's registers in its structure, and real mode goes on with those of the
-- structure that the procedure names at its return. An exception: the handler finds its frame, and the client goes on as the frame then
-- says.
-- Source: DPMI 0.9, INT 31h functions 0300h to 0303h, "Interrupts" and "Exceptions".
use Rattle.std.specs.Prelude.{◌≡◌, ℕ, [], ◌∷◌, Ok}
use Rattle.client_world.specs.{declared.calls.Call.{Call}, declared.calls.Call.TheVariants.{Int, Far, Iret, Reflect}}
use Rattle.client_world.specs.{declared.calls.Record.{Record}, declared.calls.Record.TheVariants.{Sim, Back, Exc}}
use Rattle.client_world.specs.{declared.segments.FarPtr.{FarPtr}, declared.services.Carry.TheVariants.{Clear}}
use Rattle.client_world.specs.{declared.trace.TraceLine.TheVariants.{Int31}, Registers.{low_half}, Segments.{null_pointer}}
use Rattle.client_world.specs.{Services.{es_di}, World.{World, HostWorld}}
use Rattle.callbacks.specs.HandOver.{HasEntered, HasLeft}
use Rattle.interrupts.specs.Worlds.{world_after_iret}
use Rattle.host_run.specs.{Exceptions.{HasDelivered, HasResumed}, RealCalls.{HasMoreLines, InterruptSource, ReflectedFrom}}
use Rattle.host_run.specs.Turn.{call_enter_line, call_leave_line, enter_line, leave_line}
use Rattle.translation.specs.{HandOver.{HasBegun, HasEnded, HasReflected}, Structure.{structure_bytes}}
use Rattle.client_world.specs.declared.calls.What.TheVariants as whats

-- the turn from w to v starts a call that the client asks for, and the turn from x to y ends it. `popped` is the machine with the frame of
-- the client's INT 31h popped: the procedure starts with the registers of its structure and with its words, and at the end the client has
-- its registers and virtual interrupt flag of then, and its structure of then the results
pub record HandsOverCall (w v x y : HostWorld) (call : Call) : Type 0 where
  pub popped : World
  pub pops : world_after_iret w.machine ≡ Ok popped
  pub vif : popped.vif ≡ w.machine.vif
  pub begun : HasBegun popped v.machine call (structure_bytes popped (es_di popped))
  pub ended : HasEnded x.machine y.machine
  pub same : Sim ended.call ended.saved ended.on ended.at ≡ Sim call popped.regs popped.vif (es_di popped)
  pub enter : HasMoreLines w (Int31 (low_half popped.regs.eax) Clear ∷ call_enter_line popped call v.machine ∷ []) v
  pub leave : HasMoreLines x (call_leave_line x.machine call y.machine ∷ []) y

-- the same of an interrupt that is reflected: the general registers and the flags pass both ways. `client` is the machine that it is
-- reflected from: with the interrupt's frame popped, where it pushed one
pub record HandsOverReflection (source : InterruptSource) (w v x y : HostWorld) (n : ℕ) : Type 0 where
  pub client : World
  pub from : ReflectedFrom source w.machine client
  pub vif : client.vif ≡ w.machine.vif
  pub begun : HasReflected client v.machine n
  pub ended : HasEnded x.machine y.machine
  pub same : Sim ended.call ended.saved ended.on ended.at ≡ Sim (Reflect n) client.regs client.vif null_pointer
  pub enter : HasMoreLines w (call_enter_line client (Reflect n) v.machine ∷ []) v
  pub leave : HasMoreLines x (call_leave_line x.machine (Reflect n) y.machine ∷ []) y

abbrev pub HandsOverRealCall : InterruptSource → HostWorld → HostWorld → HostWorld → HostWorld → Call → Type 0
HandsOverRealCall source w v x y (Int n) = HandsOverCall w v x y (Int n)
HandsOverRealCall source w v x y Far = HandsOverCall w v x y Far
HandsOverRealCall source w v x y Iret = HandsOverCall w v x y Iret
HandsOverRealCall source w v x y (Reflect n) = HandsOverReflection source w v x y n

-- an exception of protected mode: at the handler's SS:ESP the frame is read, and the return takes what the frame at SS:(E)SP then holds
pub record HandsOverException (w v x y : HostWorld) (number code : ℕ) : Type 0 where
  pub delivered : HasDelivered w.machine (record { number = number; code = code }) v.machine
  pub resumed : HasResumed x.machine y.machine
  pub enter : HasMoreLines w (enter_line w.machine (whats.Exc number) ∷ []) v
  pub leave : HasMoreLines x (leave_line y.machine (whats.Exc number) ∷ []) y

-- the turn from w to v starts the callback of a slot, whose structure is at a pointer, and the turn from x to y ends it: the procedure
-- finds the real caller's registers in its structure, and real mode has at the end those of the structure at the ES:(E)DI of x
pub record HandsOverCallback (w v x y : HostWorld) (slot : ℕ) (at : FarPtr) : Type 0 where
  pub entered : HasEntered w.machine v.machine slot
  pub place : entered.at ≡ at
  pub left : HasLeft x.machine y.machine
  pub same : Back left.slot left.at ≡ Back slot at
  pub enter : HasMoreLines w (enter_line w.machine (whats.Back slot) ∷ []) v
  pub leave : HasMoreLines x (leave_line y.machine (whats.Back slot) ∷ []) y

-- by the record that the first of two turns adds and the second takes away
abbrev pub HandsOver : InterruptSource → HostWorld → HostWorld → HostWorld → HostWorld → Record → Type 0
HandsOver source w v x y (Sim call saved vif at) = HandsOverRealCall source w v x y call
HandsOver source w v x y (Back slot at) = HandsOverCallback w v x y slot at
HandsOver source w v x y (Exc number code) = HandsOverException w v x y number code
