use Rattle.guest_space.proofs.{BlockCalls.{free_row, some_row}, Insides.{processor_of}}
use Rattle.guest_space.proofs.machine.Machine.block.Goals as goal

pub returns-then-pages-eq0 : goal.returns-then-pages-eq0
returns-then-pages-eq0 c =
    free_row (processor_of c.self.inside) c.self.inside.ram c.args.self.now c.self.view_is c.args.handle c.get32-pages.result
    c.if-handle-eq0.false c.if-handle-gt-MAX_BLOCKS.false
    c.get32-pages.ensures c.if-pages-eq0.true

pub returns : goal.returns
returns c =
    some_row (processor_of c.self.inside) c.self.inside.ram c.args.self.now c.self.view_is c.self.invariant.0 c.self.invariant.1
    c.args.handle c.get32-base.result c.get32-pages.result
    c.if-handle-eq0.false c.if-handle-gt-MAX_BLOCKS.false c.get32-base.ensures c.get32-pages.ensures c.if-pages-eq0.false
