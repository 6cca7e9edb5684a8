use Rattle.std.proofs.{Common.{arith}, lemmas.Grind.{common_steps}}
use Rattle.dpmi_io.proofs.{Output.{given_rest}, open_file.give.Goals.{returns-clause-bytes as goal}}

pub returns-clause-bytes : goal
returns-clause-bytes c =
    let bytes = c.args.bytes.now in
    let at = c.args.at.now in
    given_rest bytes c.args.buf.now c.copy_from_slice.new.self at c.min-count.result (grind (arith, common_steps))
    (grind (arith, common_steps, c.copy_from_slice.ensures.after))
