use Rattle.{std.proofs.Common.{rules}, exec_core.proofs.products.put_low_product.Goals.{returns as goal}}

pub returns : goal
returns c = search rules
