use Rattle.{std.proofs.Common.{rules}, exec_core.specs.Bits.{bit_change}, insn_plan.specs.Accesses.{accesses_after}}
use Rattle.{insn_plan.proofs.AccessLists.{put_accesses}, exec_core.proofs.touches.bit_change.Goals.{returns as goal}}

pub returns : goal
unfolding bit_change accesses_after
returns c = search (rules, put_accesses)
