use Rattle.{std.proofs.Common.{◌+◌, ◌%◌, ◌≤◌, ◌∙◌, sym, arith, true}, client_world.specs.declared.host_frames.TheConstants.{PAGE_SIZE}}
use Rattle.guest_space.proofs.{Puts.{store_is}, Runs.{run_all, run_inside, first_part_fails, no_fault, is_in}, Insides.{view_of}}
use Rattle.guest_space.proofs.Insides.{machine_inside, stored_whole}
use Rattle.guest_space.proofs.machine.Machine.store.Goals as goal

pub returns-in_err-at-clause-refused : goal.returns-in_err-at-clause-refused
returns-in_err-at-clause-refused g c = grind (arith, first_part_fails)

pub write-requires : goal.write-requires
write-requires g c =
    let machine = machine_inside c.self.inside c.self.invariant in
    let size = c.told-bytes in
    let inside = run_inside _ _ c.args.lin g.row.N c.in_ok-at.at true machine (omega arith)
    (is_in _ _ (sym c.is_in_page.ensures ∙ c.if-is_in_page.true)) (omega arith)
    (rw (← c.self.view_is) at (sym c.translate.ensures ∙ c.in_ok-at.was)) in
    omega arith

pub invariant_of-self : goal.invariant_of-self
invariant_of-self g c =
    rw c.write.ensures.bytes (stored_whole c.self.inside c.self.invariant c.args.lin g.row.N c.in_ok-at.at c.args.bytes.now (omega arith)
    (is_in _ _ (sym c.is_in_page.ensures ∙ c.if-is_in_page.true)) (rw (← c.self.view_is) at (sym c.translate.ensures ∙ c.in_ok-at.was))
    c.told-bytes
    (λ i within. c.are_bytes.ensures i))

pub returns-in_ok-at-clause-done : goal.returns-in_ok-at-clause-done
returns-in_ok-at-clause-done g c =
    let machine = machine_inside c.self.inside c.self.invariant in
    let room : c.args.lin % PAGE_SIZE + g.row.N ≤ PAGE_SIZE = is_in _ _ (sym c.is_in_page.ensures ∙ c.if-is_in_page.true) in
    let ends = rw (← c.self.view_is) at (sym c.translate.ensures ∙ c.in_ok-at.was) in
    let w = (view_of c.self.inside).world in
    rw (← c.self.view_is) (
      no_fault w c.args.lin g.row.N true (run_all _ _ c.args.lin g.row.N c.in_ok-at.at true machine (omega arith) room ends),
      rw c.write.ensures.bytes (store_is _ _ c.args.lin g.row.N c.in_ok-at.at c.args.bytes.now machine (omega arith) room ends c.told-bytes
          (λ i within. c.are_bytes.ensures i)),
    )
