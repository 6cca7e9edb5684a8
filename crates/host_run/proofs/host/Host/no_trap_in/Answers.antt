use Rattle.{host_run.specs.View.{machine_view}, host_run.proofs.{NoTraps.{none_in_window}, host.Host.no_trap_in.Goals.{returns as goal}}}

pub returns : goal
returns c = none_in_window (machine_view c.args.self.now) c.args.window.now c.args.from c.requires.window c.requires.start
