use Rattle.std.proofs.Common.{◌≡◌, ◌%◌, arith}
use Rattle.exec_core.proofs.{OnRegisters.{register_gives}, stacks.push_register.Goals.{push_value-requires-clause-first as goal}}
use Rattle.insn_forms.specs.Shapes.{shape_width}

pub push_value-requires-clause-first : goal
push_value-requires-clause-first g c =
    let shape = c.args.shape in
    let wide : shape_width shape ≡ g.row.W = cc in
    let number : c.args.known % 8 ≡ shape % 8 = cc in
    register_gives c.args.m.now.world c.args.i.now shape g.row.W (c.args.known % 8) c.register-v.result c.requires.shape (omega arith) wide
    number cc
