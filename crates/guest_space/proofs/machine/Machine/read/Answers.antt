use Rattle.{std.proofs.Common.{◌∙◌}, guest_space.proofs.{Accesses.{loaded_linear}, machine.Machine.read.Goals.{returns-in-Some as goal}}}

pub returns-in-Some : goal
returns-in-Some g c = c.load.ensures ∙ loaded_linear c.args.self.now.world c.args.seg c.args.off g.row.N c.in-Some.base c.in-Some.ensures
