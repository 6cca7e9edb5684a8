use Rattle.interrupts.proofs.{KeptWorlds.{granted_after_pushes}, software.interrupt.Goals.{enter-requires as goal}}

pub enter-requires : goal
enter-requires c =
    granted_after_pushes c.args.m.now c.push_frame.new.m c.args.n c.vector-p.result c.in_ok-push_frame.ensures.pushed.2 c.soundness.ensures
    c.in_ok-push_frame.ensures.pushed.1 c.vector-p.ensures
