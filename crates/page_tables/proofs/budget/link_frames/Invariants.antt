use Rattle.std.proofs.Common.{◌-◌}
use Rattle.page_tables.proofs.FreeFrames.{Linking}
use Rattle.page_tables.proofs.budget.link_frames.Given as goal

abbrev pub invariant-loop-linked : goal.invariant-loop-linked
invariant-loop-linked l = Linking l.fn.ram l.ram l.first (l.frames - l.linked) l.frames
