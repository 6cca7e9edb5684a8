use Rattle.service_rows.proofs.{RunLaws.{is_first_free_run}, descriptors.first_free.Goals.{returns-clause-found as goal}}

pub returns-clause-found : goal
returns-clause-found c =
    is_first_free_run c.args.m.now.world.descriptors c.args.n c.free_descs.result c.free_descs.ensures.none c.free_descs.ensures.first
