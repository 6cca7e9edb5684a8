use Rattle.{std.proofs.Common.{inl, ◌∙◌, arith}, unit_tests.proofs.FirstTables.{below_head, named_nowhere}}
use Rattle.unit_tests.proofs.pages.compare_frames.Goals.{give_frame-requires-clause-unmapped as goal}

pub give_frame-requires-clause-unmapped : goal
give_frame-requires-clause-unmapped c =
    named_nowhere c.take_frame-first.new.ram c.in-Some.frame
    (λ k low. below_head c.link_frames.new.ram c.take_frame-first.new.ram c.in-Some.frame k
    (rw c.in-Some.is at c.take_frame-first.ensures.bytes) low
    ∙ c.link_frames.ensures.others k (omega arith) (inl (omega arith)) ∙ c.requires.zero k)
