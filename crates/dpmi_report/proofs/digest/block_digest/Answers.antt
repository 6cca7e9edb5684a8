use Rattle.std.proofs.{Common.{arith, ◌*◌, ◌∙◌, ap, take, subst, ◌++◌}, lemmas.List.{take_all}}
use Rattle.{sha2.specs.{Sha256.{sha256}, Hashers.{Holds256}}, client_world.specs.{Access.{bytes_of_block}, World.{block_at}}}
use Rattle.dpmi_report.proofs.Sequence.{piece_more}
use Rattle.dpmi_report.proofs.digest.block_digest.Goals as goal

pub loop-i-preserved : goal.loop-i-preserved
loop-i-preserved c =
    let ys = bytes_of_block (block_at c.args.machine.now.world.blocks c.args.handle) in
    let i = c.loop-i.i in
    subst (λ m. Holds256 c.update.new.self m) (ap (λ l. take (i * 64) ys ++ l) c.block_piece.ensures ∙ piece_more ys i)
    (c.update.ensures (take (i * 64) ys) c.loop-i.invariant)

pub returns : goal.returns
returns c =
    let ys = bytes_of_block (block_at c.args.machine.now.world.blocks c.args.handle) in
    c.finalize.ensures (take (c.loop-i.i * 64) ys) c.loop-i.invariant
    ∙ ap sha256 (take_all (c.loop-i.i * 64) ys (omega (arith, c.requires.size)))
