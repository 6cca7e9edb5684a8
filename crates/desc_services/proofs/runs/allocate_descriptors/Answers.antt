use Rattle.{std.proofs.Common.{rules}, desc_services.specs.Rows.{allocate_descriptors}}
use Rattle.desc_services.proofs.runs.allocate_descriptors.Goals.{returns-in_err-first as goal}

pub returns-in_err-first : goal
unfolding allocate_descriptors
returns-in_err-first c = search rules
