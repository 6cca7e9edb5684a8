use Rattle.{std.proofs.Common.{rules}, exec_flow.specs.Segments.{mov_to_segment, with_loaded_segment}}
use Rattle.{insn_plan.specs.Plan.{after_plan, after_commit}, guest_space.specs.Pending.{first_write_fault, after_writes}}
use Rattle.exec_flow.proofs.segments.mov_to_segment.Goals.{returns as goal}

pub returns : goal
unfolding mov_to_segment with_loaded_segment after_plan after_commit first_write_fault after_writes
returns c = search rules
