use Rattle.{std.proofs.Common.{◌∙◌}, guest_space.proofs.{BlockLocks.{locked_in_rows, few_pages, rows_inside}, Insides.{processor_of}}}
use Rattle.guest_space.proofs.machine.Machine.pages_locked.Goals as goal

pub locked_pages-requires-clause-few : goal.locked_pages-requires-clause-few
locked_pages-requires-clause-few c = few_pages (processor_of c.self.inside) c.self.inside.ram c.self.invariant.0 c.self.invariant.1

pub locked_pages-requires-clause-inside : goal.locked_pages-requires-clause-inside
locked_pages-requires-clause-inside c = rows_inside (processor_of c.self.inside) c.self.inside.ram c.self.invariant.0 c.self.invariant.1

pub returns : goal.returns
returns c = c.locked_pages.ensures ∙ locked_in_rows (processor_of c.self.inside) c.self.inside.ram c.args.self.now c.self.view_is
