use Rattle.{std.proofs.Common.{◌∙◌, sym, ap, arith}, std.specs.Option.{is_some}, desc_services.specs.Rows.{fresh}}
use Rattle.desc_services.proofs.{PutLaws.{may_make_low}, low.allocate_specific.Goals.{put-requires as goal}}

pub put-requires : goal
put-requires c = rw (c.data_at.ensures, c.index_of-2.ensures.value)
    (may_make_low c.args.m.now.world c.low_half-sel.result fresh c.soundness.ensures c.requires (cc) (omega arith)
    (ap is_some (sym c.desc_of.ensures.row) ∙ sym c.if-is_some.ensures) (record { base = omega arith; limit = omega arith }))
