use Rattle.{std.proofs.Common.{rules}, exec_flow.proofs.flag_images.vif_after_pop.Goals.{returns-in-Protected as goal}}

pub returns-in-Protected : goal
returns-in-Protected c = search rules
