use Rattle.{std.proofs.Common.{rules}, mz_loader.proofs.header.block_paras.Goals.{returns-else-low-eq0-clause-paras as goal}}

pub returns-else-low-eq0-clause-paras : goal
returns-else-low-eq0-clause-paras c = search rules
