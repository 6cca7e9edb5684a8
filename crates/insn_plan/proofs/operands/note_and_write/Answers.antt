use Rattle.{std.proofs.Common.{subst}, guest_space.specs.declared.pending.Write.{Write}, host_memory.specs.View.{MachineView}}
use Rattle.insn_plan.specs.Written.{IsWritten}
use Rattle.insn_plan.proofs.{WrittenState.{made}, operands.note_and_write.Goals.{returns-clause-done as goal}}

pub returns-clause-done : goal
returns-clause-done c =
    let x : Write = record { seg = c.args.seg; width = c.args.width; off = c.args.off; value = c.args.value } in
    subst (λ (v : MachineView). IsWritten x v c.write_one.new.self) c.warm.ensures
    (made c.warm.new.self c.write_one.new.self x c.in_ok-write_one.ensures.made.0 c.in_ok-write_one.ensures.made.1)
