-- What a delivery of an exception of protected mode and the return from it hand over. Source: DPMI 0.9, "Exceptions"; the frame is own.
use Rattle.std.specs.{Prelude.{◌≡◌, ℕ, Ok}, declared.result.Result.{Result}}
use Rattle.client_world.specs.{declared.faults.Event.{Event}, declared.faults.Fault.{Fault}}
use Rattle.client_world.specs.{declared.registers.TheConstants.{INTERRUPT_BIT}, declared.segments.SegReg.TheVariants.{Ss}}
use Rattle.client_world.specs.{Registers.{has_bit, low_half}, World.{World}}
use Rattle.exec_flow.specs.Interrupts.{frame_bits}
use Rattle.guest_space.specs.Transfer.{read_result}
use Rattle.insn_plan.specs.{Act.{value_of}, Stack.{stack_item}}
use Rattle.fault_service.specs.{Delivery.{exception_frame, exception_frame_size}, Return.{frame_regs}}

-- from w an exception was delivered, which led to v: at SS:ESP of the handler its frame is read
abbrev pub HasDelivered : World → Fault → World → Type 0
HasDelivered w f v = read_result v Ss v.regs.esp (exception_frame_size w) ≡ Ok (exception_frame w f)

-- an item of the frame at SS:(E)SP where the handler has returned, counted from the error code
abbrev pub item_left : World → ℕ → Result ℕ Event
item_left w place = value_of w (stack_item w (frame_bits w) place)

-- from w an exception returned, which led to v: EIP, CS, the flags, ESP, SS and the virtual interrupt flag are those of the frame as the
-- handler left it, and all other registers those of w
pub record HasResumed (w v : World) : Type 0 where
  pub ip : ℕ
  pub cs : ℕ
  pub image : ℕ
  pub sp : ℕ
  pub ss : ℕ
  pub ip_left : item_left w 1 ≡ Ok ip
  pub cs_left : item_left w 2 ≡ Ok cs
  pub image_left : item_left w 3 ≡ Ok image
  pub sp_left : item_left w 4 ≡ Ok sp
  pub ss_left : item_left w 5 ≡ Ok ss
  pub regs : v.regs ≡ frame_regs w.regs ip (low_half cs) (low_half image) sp (low_half ss)
  pub vif : v.vif ≡ has_bit (low_half image) INTERRUPT_BIT
