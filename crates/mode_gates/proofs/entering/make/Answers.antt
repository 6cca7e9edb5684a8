use Rattle.std.proofs.Common.{arith}
use Rattle.mode_gates.proofs.{SoundGates.{may_put}, entering.make.Goals.{set_desc-requires-clause-sound as goal}}

pub set_desc-requires-clause-sound : goal
set_desc-requires-clause-sound c =
    (may_put c.args.m.now.world c.args.index c.args.d c.args.origin c.soundness.ensures c.requires.width c.requires.from c.requires.to
    (record { base = omega arith; limit = c.requires.limit }) c.requires.origin c.requires.free).sound
