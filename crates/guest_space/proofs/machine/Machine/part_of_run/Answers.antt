use Rattle.std.proofs.Common.{◌<◌, ◌*◌, List, ℕ, Ok, ap, ◌∙◌, sym, arith}
use Rattle.guest_space.proofs.{WriteRuns.{part_is_read, run_in_memory, run_is_small}, Insides.{machine_inside}}
use Rattle.guest_space.proofs.machine.Machine.part_of_run.Goals as goal

pub overflow_add-at : goal.overflow_add-at
overflow_add-at g c =
    let machine = machine_inside c.self.inside c.self.invariant in
    let part = c.requires.part in
    let some = c.requires.some in
    let small = run_is_small _ _ c.args.seg c.args.off c.args.n c.args.at machine (rw (← c.self.view_is) at c.requires.run) (omega arith) in
    omega arith

pub get-requires : goal.get-requires
get-requires g c =
    let machine = machine_inside c.self.inside c.self.invariant in
    let part = c.requires.part in
    let some = c.requires.some in
    let inside =
    run_in_memory _ _ c.args.seg c.args.off c.args.n c.args.at machine (rw (← c.self.view_is) at c.requires.run) (omega arith) in
    let size : g.row.N * 1 < 9223372036854775808 = omega arith in
    (size, omega arith)

pub returns : goal.returns
returns g c =
    let machine = machine_inside c.self.inside c.self.invariant in
    rw (← c.self.view_is)
    (part_is_read _ _ c.args.seg c.args.off c.args.n c.args.at c.args.from g.row.N machine (rw (← c.self.view_is) at c.requires.run)
    c.requires.part c.requires.some
    ∙ ap (λ (bytes : List ℕ). Ok bytes) (sym c.get.ensures))
