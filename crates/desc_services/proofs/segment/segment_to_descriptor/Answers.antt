use Rattle.std.proofs.Common.{rules, sym}
use Rattle.desc_services.proofs.{PutLaws.{may_make_segment}, segment.segment_to_descriptor.Goals.{put-requires as goal}}

pub put-requires : goal
put-requires c =
    may_make_segment c.args.m.now.world c.in_ok-first-in-None.first _ c.low_half-segment.result c.soundness.ensures c.requires
    (sym c.in-None.ensures.index) c.in_ok-first-in-None.ensures.1
    (record { base = search rules; limit = search rules })
