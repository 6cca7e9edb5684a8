-- What ENTER accesses: the saved frame pointers that it reads, and its pushes, whatever their numbers are. The words of two loops; no
-- public contract cites them, and what ENTER accesses follows from its row. Source: own.
use Rattle.std.specs.Prelude.{ℕ, zero, suc, ◌+◌, List, Option, Ok, Err, None, Some}
use Rattle.client_world.specs.{declared.segments.SegReg.TheVariants.{Ss}, World.{World}}
use Rattle.guest_space.specs.Pending.{byte_count}
use Rattle.insn_forms.specs.declared.insn.Insn.{Insn}
use Rattle.insn_plan.specs.{declared.accesses.Access.{Access}, Accesses.{and_read, and_push, esp_down}, Act.{Input, From, value_of}}
use Rattle.exec_flow.specs.Frames.{saved_frame}

-- the frame pointer that was saved for a level
abbrev pub frame_input : World → Insn → ℕ → Input
frame_input w i level = From Ss (saved_frame w i level) (byte_count i.width)

-- some accesses, and then the reads of n saved frame pointers, from that of a level on; none where one of them faults
unfoldable pub frame_reads : World → Insn → ℕ → ℕ → List Access → Option (List Access)
frame_reads w i level zero done = Some done
frame_reads w i level (suc n) done = elim (value_of w (frame_input w i level)) [
  | Ok v ↦ frame_reads w i (level + 1) n (and_read done (frame_input w i level))
  | Err e ↦ None
]

-- some accesses, and then n pushes of a width from an ESP on
unfoldable pub and_pushes : World → ℕ → ℕ → ℕ → List Access → List Access
and_pushes w width zero esp done = done
and_pushes w width (suc n) esp done = and_pushes w width n (esp_down w width esp) (and_push w width esp done)
