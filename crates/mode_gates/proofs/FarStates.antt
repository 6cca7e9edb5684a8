-- A far return at a trap changes registers alone, and no byte, and what it makes of a world doesn't depend on the bytes that hold it; what
-- the entry keeps.
use Rattle.std.proofs.Common.{◌≡◌, ◌∙◌, ℕ, Bool, true, refl, ap, subst, Option, None, Some, Result, Ok, Err, sym}
use Rattle.client_world.specs.{Loading.{transfer_fault}, Registers.{low_half}, declared.faults.Event.{Event}}
use Rattle.client_world.specs.{declared.faults.Event.TheVariants.{Fault as fault}, declared.faults.Fault.{Fault}}
use Rattle.client_world.specs.{declared.outcome.Exit.{Exit}, declared.registers.Width.{Width}, Services.{Served}, World.{World}}
use Rattle.exec_flow.specs.{FarTransfers.{far_frame_pop, far_transfer}, Interrupts.{frame_bits}, Transfers.{regs_after_drop}}
use Rattle.guest_space.specs.Pending.{after_writes, first_write_fault}
use Rattle.host_memory.specs.View.{MachineView}
use Rattle.insn_plan.specs.{Act.{Act, Input, Pending, Read, done, unchanged, unless_fault, value_of, with_regs}, Plan.{after_commit}}
use Rattle.insn_plan.specs.{Plan.{after_plan, plan_result, with_state}, Stack.{regs_after_pops, stack_item}}
use Rattle.interrupts.specs.Worlds.{view_without_bytes, world_of_result}
use Rattle.interrupts.proofs.{ReturnPlans.{IsQuiet, quiet_read, quiet_transfer}, KeptWorlds.{quiet_state}, SoundAnswers.{granted_was}}
use Rattle.interrupts.proofs.{SoundAnswers.{holds_of_answer, holds_of_world, return_was}, Alone.{pop_alone}}
use Rattle.mode_gates.specs.{Entry.{after_first_entry, entry, entry_after, entry_answer}, FarFrames.{after_far_return}}
use Rattle.mode_gates.specs.FarFrames.{world_after_far_return}

abbrev with_cs : World → ℕ → ℕ → ℕ → ℕ → Act
with_cs w bits bytes ip cs =
    far_transfer w (low_half cs) ip true (with_regs (regs_after_drop w bytes (regs_after_pops w bits 2 w.regs)) (unchanged w))

abbrev with_ip : World → ℕ → ℕ → ℕ → Act
with_ip w bits bytes ip = Read (stack_item w bits 1) (with_cs w bits bytes ip)

quiet_ip : (w : World) (bits bytes ip : ℕ) → IsQuiet w (with_ip w bits bytes ip)
quiet_ip w bits bytes ip =
    quiet_read w (stack_item w bits 1) (with_cs w bits bytes ip)
    (λ cs.
    quiet_transfer w (low_half cs) ip true (with_regs (regs_after_drop w bytes (regs_after_pops w bits 2 w.regs)) (unchanged w)) refl)

quiet_far : (w : World) (bits bytes : ℕ) → IsQuiet w (far_frame_pop w bits bytes)
unfolding far_frame_pop
quiet_far w bits bytes = quiet_read w (stack_item w bits 0) (with_ip w bits bytes) (quiet_ip w bits bytes)

-- ---- the virtual interrupt flag stays

-- a plan that keeps it, where there is one
abbrev pub KeepsFlag : World → Result Pending Event → Type 0
KeepsFlag w (Ok p) = p.vif ≡ w.vif
KeepsFlag w (Err e) = Unit {0}

flag_by_value : (w : World) (r : Result ℕ Event) (rest : ℕ → Act) → ((v : ℕ) → KeepsFlag w (plan_result w (rest v))) →
    KeepsFlag w (elim r [ Ok v ↦ plan_result w (rest v) | Err e ↦ Err e ])
flag_by_value w (Ok v) rest keeps = keeps v
flag_by_value w (Err e) rest keeps = tt

pub flag_read : (w : World) (input : Input) (rest : ℕ → Act) → ((v : ℕ) → KeepsFlag w (plan_result w (rest v))) →
    KeepsFlag w (plan_result w (Read input rest))
flag_read w input rest keeps = flag_by_value w (value_of w input) rest keeps

pub flag_unless : (w : World) (o : Option Fault) (p : Pending) → p.vif ≡ w.vif → KeepsFlag w (plan_result w (unless_fault o (done p)))
flag_unless w None p same = same
flag_unless w (Some f) p same = tt

flag_cs : (w : World) (bits bytes ip cs : ℕ) → KeepsFlag w (plan_result w (with_cs w bits bytes ip cs))
unfolding far_transfer
flag_cs w bits bytes ip cs = flag_unless w (transfer_fault w (low_half cs) ip true) _ refl

flag_ip : (w : World) (bits bytes ip : ℕ) → KeepsFlag w (plan_result w (with_ip w bits bytes ip))
flag_ip w bits bytes ip = flag_read w (stack_item w bits 1) (with_cs w bits bytes ip) (flag_cs w bits bytes ip)

flag_far : (w : World) (bits bytes : ℕ) → KeepsFlag w (plan_result w (far_frame_pop w bits bytes))
unfolding far_frame_pop
flag_far w bits bytes = flag_read w (stack_item w bits 0) (with_ip w bits bytes) (flag_ip w bits bytes)

pub settled_flag : (v u : MachineView) (p : Pending) → p.vif ≡ v.world.vif → after_commit v p ≡ Ok u → u.world.vif ≡ v.world.vif
unfolding after_commit
settled_flag v u p keeps e =
    let x = with_state p.regs p.vif (after_writes v p.writes) in
    holds_of_answer (λ (m : MachineView). m.world.vif ≡ v.world.vif) (Ok x) u keeps
    (granted_was fault (first_write_fault v.world p.writes) (Ok x) u e)

pub carried_flag : (v u : MachineView) (r : Result Pending Event) → KeepsFlag v.world r → after_plan v r ≡ Ok u → u.world.vif ≡ v.world.vif
unfolding after_plan
carried_flag v u (Ok p) keeps e = settled_flag v u p keeps e
carried_flag v u (Err f) keeps e = absurd cc

-- ---- the far return

abbrev pub KeptByFar : MachineView → MachineView → Type 0
KeptByFar v u = u ≡ record v { world = record v.world { regs = u.world.regs } }

pub far_state : (v u : MachineView) → after_far_return v ≡ Ok u → KeptByFar v u
unfolding after_far_return
far_state v u e =
    let popped = return_was _ u e in
    quiet_state v u _ (quiet_far v.world (frame_bits v.world) 0) popped
    ∙ ap (λ (on : Bool). with_state u.world.regs on v) (carried_flag v u _ (flag_far v.world (frame_bits v.world) 0) popped)

abbrev pub HasOnlyOtherRegisters : World → World → Type 0
HasOnlyOtherRegisters w u = u ≡ record w { regs = u.regs }

of_world : (w : World) (v : MachineView) → KeptByFar (view_without_bytes w) v → HasOnlyOtherRegisters w v.world
of_world w v e = ap (λ (m : MachineView). m.world) e

pub kept_far : (w u : World) → world_after_far_return w ≡ Ok u → HasOnlyOtherRegisters w u
unfolding world_after_far_return
kept_far w u e =
    holds_of_world (HasOnlyOtherRegisters w) (after_far_return (view_without_bytes w)) u
    (λ v popped. of_world w v (far_state (view_without_bytes w) v popped)) e

-- ---- the entry

abbrev KeptByEntry : World → World → Type 0
KeptByEntry w u = u ≡ record w { mode = u.mode; regs = u.regs; width = u.width; dos = u.dos; descriptors = u.descriptors }

kept_answer : (o : Option Width) (w : World) → KeptByEntry w (entry_answer o w).world
unfolding after_first_entry
kept_answer None w = refl
kept_answer (Some width) w = refl

kept_after : (w : World) (r : Result World Exit) (s : Served) → ((u : World) → r ≡ Ok u → HasOnlyOtherRegisters w u) →
    entry_after r ≡ Ok s → KeptByEntry w s.world
kept_after w (Ok u) s other e =
    let a : World = (entry_answer u.width u).world in
    let same : entry_answer u.width u ≡ s = cc in
    subst (λ (t : Served). KeptByEntry w t.world) same (kept_answer u.width u
    ∙ ap (λ (x : World). record x { mode = a.mode; regs = a.regs; width = a.width; dos = a.dos; descriptors = a.descriptors })
    (other u refl))
kept_after w (Err exit) s other e = absurd cc

pub kept_entry : (w : World) (s : Served) → entry w ≡ Ok s → KeptByEntry w s.world
unfolding entry
kept_entry w s e = kept_after w (world_after_far_return w) s (kept_far w) e

pub far_alone : (v : MachineView) → world_of_result (after_far_return v) ≡ world_after_far_return v.world
unfolding after_far_return world_after_far_return
far_alone v = pop_alone v (plan_result v.world (far_frame_pop v.world (frame_bits v.world) 0))

pub far_ok : (v u : MachineView) → after_far_return v ≡ Ok u → world_after_far_return v.world ≡ Ok u.world
far_ok v u e = sym (far_alone v) ∙ ap world_of_result e

pub far_err : (v : MachineView) (exit : Exit) → after_far_return v ≡ Err exit → world_after_far_return v.world ≡ Err exit
far_err v exit e = sym (far_alone v) ∙ ap world_of_result e
