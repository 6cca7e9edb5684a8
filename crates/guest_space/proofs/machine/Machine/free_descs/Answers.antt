use Rattle.{std.proofs.Common.{arith}, guest_space.proofs.RowCalls.{first_run, none_in_world, none_in_memory}}
use Rattle.guest_space.proofs.machine.Machine.free_descs.Goals as goal

pub returns-clause-none : goal.returns-clause-none
returns-clause-none c =
    let m = c.self.inside in
    rw (← c.self.view_is) (
      λ none. none_in_world m.ram m.pages m.mode m.regs m.vif m.width c.args.n (c.free_run.ensures.none.0 none),
      λ h. c.free_run.ensures.none.1 (none_in_memory m.ram m.pages m.mode m.regs m.vif m.width c.args.n h),
    )

pub returns-clause-first : goal.returns-clause-first
returns-clause-first c = grind (arith, first_run)
