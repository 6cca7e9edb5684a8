use Rattle.{std.proofs.Common.{arith, rules}, desc_services.proofs.{PutLaws.{may_make_at}, runs.create_alias.Goals.{put-requires as goal}}}

pub put-requires : goal
put-requires c =
    let run = c.in_ok-first-in-Some.ensures.1 in
    may_make_at c.args.m.now.world c.in_ok-first-in-Some.first 1 _ c.soundness.ensures c.requires run.from (omega arith) run.run
    (record { base = search rules; limit = search rules })
