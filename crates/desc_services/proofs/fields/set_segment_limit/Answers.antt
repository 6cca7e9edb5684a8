use Rattle.{std.proofs.Common.{rules}, desc_services.specs.Rows.{set_segment_limit}}
use Rattle.desc_services.proofs.fields.set_segment_limit.Goals.{returns-then-is_no_limit as goal}

pub returns-then-is_no_limit : goal
unfolding set_segment_limit
returns-then-is_no_limit c = search rules
