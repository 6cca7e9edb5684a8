use Rattle.std.proofs.Common.{arith}
use Rattle.guest_space.proofs.{WriteRuns.{run_in_memory, run_stored, run_kept}, Insides.{machine_inside, stored_whole}}
use Rattle.guest_space.proofs.machine.Machine.put_run.Goals as goal

pub write-requires : goal.write-requires
write-requires g c =
    let machine = machine_inside c.self.inside c.self.invariant in
    let size = c.told-bytes in
    let inside =
    run_in_memory _ _ c.args.seg c.args.off g.row.N c.args.at machine (rw (← c.self.view_is) at c.requires.run) c.requires.some in
    omega arith

pub invariant_of-self : goal.invariant_of-self
invariant_of-self g c = grind (arith, stored_whole)

pub returns-clause-bytes : goal.returns-clause-bytes
returns-clause-bytes g c =
    let machine = machine_inside c.self.inside c.self.invariant in
    let run = rw (← c.self.view_is) at c.requires.run in
    rw (← c.self.view_is) (rw c.write.ensures.bytes
    (run_stored _ _ c.args.seg c.args.off g.row.N c.args.at c.args.bytes.now machine run c.told-bytes (λ i within. c.are_bytes.ensures i)))

pub returns-clause-kept : goal.returns-clause-kept
returns-clause-kept g c =
    let machine = machine_inside c.self.inside c.self.invariant in
    let run = rw (← c.self.view_is) at c.requires.run in
    rw (← c.self.view_is) (rw c.write.ensures.bytes
    (run_kept _ _ c.args.seg c.args.off g.row.N c.args.at c.args.bytes.now machine run c.told-bytes (λ i within. c.are_bytes.ensures i)))
