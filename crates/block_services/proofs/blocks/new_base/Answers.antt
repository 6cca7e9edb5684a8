use Rattle.{std.proofs.Common.{rules}, block_services.specs.Rows.{new_base}}
use Rattle.block_services.proofs.blocks.new_base.Goals.{returns-then-is_gap as goal}

pub returns-then-is_gap : goal
unfolding new_base
returns-then-is_gap c = search rules
