use Rattle.guest_space.specs.Pending.{byte_count, write_fault}
use Rattle.guest_space.proofs.{WriteRuns.{run_not_refused}, machine.Machine.write_run.Goals.{returns-clause-allowed as goal}}

pub returns-clause-allowed : goal
unfolding write_fault
returns-clause-allowed c =
    let x = c.args.x.now in
    run_not_refused c.holds_world.ensures.processor c.args.self.now x.seg x.off (byte_count x.width) c.args.at
    c.holds_world.ensures.machine c.requires
