use Rattle.{std.proofs.Common.{rules}, desc_services.proofs.freeing.is_freeable_origin.Goals.{returns-in-Own as goal}}

pub returns-in-Own : goal
returns-in-Own c = search rules
