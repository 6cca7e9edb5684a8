use Rattle.{std.proofs.Common.{rules}, mz_loader.proofs.loading.load.Goals.{returns-in-Some-clause-loaded as goal}}

pub returns-in-Some-clause-loaded : goal
returns-in-Some-clause-loaded c = search rules
