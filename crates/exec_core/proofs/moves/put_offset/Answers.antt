use Rattle.std.proofs.Common.{◌≡◌, ◌%◌, ◌∙◌, arith}
use Rattle.exec_core.proofs.{OnRegisters.{lea_on, shaped_first}, moves.put_offset.Goals.{returns as goal}}
use Rattle.insn_forms.specs.Shapes.{shape_width}

pub returns : goal
returns c =
    let i = c.args.i.now in
    let shape = c.args.shape in
    let width = c.args.width in
    let wide : shape_width shape ≡ width = cc in
    let number : c.args.known % 8 ≡ shape % 8 = cc in
    let first = shaped_first i shape width (c.args.known % 8) c.requires.shape (omega arith) wide number in
    let done = lea_on c.args.m.now i width (c.args.known % 8) (c.requires.shape.width (omega arith) ∙ wide) first in
    cc
