use Rattle.{std.proofs.Common.{◌∙◌}, guest_space.proofs.{BlockLocks.{pages_in_rows, few_pages}, Insides.{processor_of}}}
use Rattle.guest_space.proofs.machine.Machine.pages_used.Goals as goal

pub used_pages-requires-clause-few : goal.used_pages-requires-clause-few
used_pages-requires-clause-few c = few_pages (processor_of c.self.inside) c.self.inside.ram c.self.invariant.0 c.self.invariant.1

pub returns : goal.returns
returns c = c.used_pages.ensures ∙ pages_in_rows (processor_of c.self.inside) c.self.inside.ram c.args.self.now c.self.view_is
