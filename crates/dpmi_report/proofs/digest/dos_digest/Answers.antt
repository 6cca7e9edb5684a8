use Rattle.std.proofs.{Common.{arith, ◌*◌, ◌∙◌, ap, take, subst, ◌++◌}, lemmas.List.{take_all}}
use Rattle.{sha2.specs.{Sha256.{sha256}, Hashers.{Holds256}}, dpmi_report.proofs.Sequence.{piece_more}}
use Rattle.dpmi_report.proofs.digest.dos_digest.Goals as goal

pub loop-i-preserved : goal.loop-i-preserved
loop-i-preserved c =
    let ys = c.args.machine.now.world.dos in
    let i = c.loop-i.i in
    subst (λ m. Holds256 c.update.new.self m) (ap (λ l. take (i * 64) ys ++ l) c.dos_piece.ensures ∙ piece_more ys i)
    (c.update.ensures (take (i * 64) ys) c.loop-i.invariant)

pub returns : goal.returns
returns c =
    c.finalize.ensures (take (c.loop-i.i * 64) c.args.machine.now.world.dos) c.loop-i.invariant
    ∙ ap sha256 (take_all (c.loop-i.i * 64) c.args.machine.now.world.dos (omega (arith, c.soundness.ensures.megabyte.size)))
