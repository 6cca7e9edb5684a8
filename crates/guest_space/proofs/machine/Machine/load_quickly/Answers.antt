use Rattle.std.proofs.Common.{◌+◌, ◌%◌, ◌≤◌, ◌∙◌, sym, ap, arith, Ok, false, List, ℕ}
use Rattle.client_world.specs.declared.host_frames.TheConstants.{PAGE_SIZE}
use Rattle.guest_space.proofs.{Runs.{run_inside, run_loaded, is_in}, Insides.{machine_inside}}
use Rattle.guest_space.proofs.machine.Machine.load_quickly.Goals as goal

pub get-requires : goal.get-requires
get-requires g c =
    let machine = machine_inside c.self.inside c.self.invariant in
    let few = c.requires.few in (
      omega arith,
      run_inside _ _ c.args.lin g.row.N c.in_ok-at.at false machine (omega arith)
          (is_in _ _ (sym c.is_in_page.ensures ∙ c.if-not-is_in_page.false)) (omega arith)
          (rw (← c.self.view_is) at c.in_ok-at.ensures),
    )

pub returns : goal.returns
returns g c =
    let machine = machine_inside c.self.inside c.self.invariant in
    let room : c.args.lin % PAGE_SIZE + g.row.N ≤ PAGE_SIZE = is_in _ _ (sym c.is_in_page.ensures ∙ c.if-not-is_in_page.false) in
    let ends = rw (← c.self.view_is) at c.in_ok-at.ensures in
    rw (← c.self.view_is) (sym (ap (λ (xs : List ℕ). Ok xs) c.get.ensures
    ∙ run_loaded _ _ c.args.lin g.row.N c.in_ok-at.at machine (omega arith) room (omega arith) ends))
