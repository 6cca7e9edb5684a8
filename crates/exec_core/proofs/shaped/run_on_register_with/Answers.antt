use Rattle.exec_core.proofs.{OnRegisters.{on_shape}, shaped.run_on_register_with.Goals.{on_register-requires-clause-operands as goal}}

pub on_register-requires-clause-operands : goal
on_register-requires-clause-operands g c =
    on_shape c.args.m.now.world c.args.i.now c.args.shape g.row.W _ c.args.n c.args.b c.requires.shape c.requires.some
    c.requires.width c.requires.number c.requires.second
