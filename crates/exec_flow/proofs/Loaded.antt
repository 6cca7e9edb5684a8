-- A segment register that is loaded after what else the instruction leaves.
use Rattle.std.proofs.Common.{◌≡◌, ℕ, Ok, Err, None, Some, ap, ◌∙◌}
use Rattle.std.specs.{declared.option.Option.{Option}, declared.result.Result.{Result}}
use Rattle.client_world.specs.{declared.faults.Event.{Event}, declared.faults.Event.TheVariants.{Fault as fault}}
use Rattle.client_world.specs.{declared.faults.Fault.{Fault}, declared.registers.Regs.{Regs}, declared.segments.SegReg.{SegReg}}
use Rattle.client_world.specs.Segments.{with_selector}
use Rattle.guest_space.specs.{Pending.{first_write_fault, after_writes}, Registers.{with_registers}}
use Rattle.host_memory.specs.View.{MachineView}
use Rattle.insn_plan.proofs.WrittenState.{settled_with}
use Rattle.insn_plan.specs.{Act.{Pending, with_regs}, Plan.{after_commit, with_state}}

granted_regs : (o : Option Fault) (v u : MachineView) →
    elim o as (λ _. Result MachineView Event) [ Some f ↦ Err (fault f) | None ↦ Ok v ] ≡ Ok u → v.world.regs ≡ u.world.regs
granted_regs None v u e = let same : v ≡ u = cc in ap (λ (x : MachineView). x.world.regs) same
granted_regs (Some f) v u e = absurd cc

-- the registers are those that are left
settled_regs : (v u : MachineView) (p : Pending) → after_commit v p ≡ Ok u → p.regs ≡ u.world.regs
unfolding after_commit
settled_regs v u p e = granted_regs (first_write_fault v.world p.writes) (with_state p.regs p.vif (after_writes v p.writes)) u e

pub settled_with_selector : (v u : MachineView) (p : Pending) (seg : SegReg) (sel : ℕ) → after_commit v p ≡ Ok u →
    after_commit v (with_regs (with_selector p.regs seg sel) p) ≡ Ok (with_registers (with_selector u.world.regs seg sel) u)
settled_with_selector v u p seg sel e =
    settled_with v (with_selector p.regs seg sel) p u e
    ∙ ap (λ (r : Regs). Ok (with_registers (with_selector r seg sel) u)) (settled_regs v u p e)
