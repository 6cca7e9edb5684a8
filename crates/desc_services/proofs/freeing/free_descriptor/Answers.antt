use Rattle.{std.proofs.Common.{◌∙◌, sym, subst, ℕ, None}, desc_services.specs.MayPut.{MayPut}}
use Rattle.desc_services.proofs.{PutLaws.{may_free}, freeing.free_descriptor.Goals.{put-requires as goal}}

pub put-requires : goal
put-requires c = subst (λ (i : ℕ). MayPut c.args.m.now.world i None) (sym c.index_of.ensures.value)
    (may_free c.args.m.now.world c.low_half-sel.result (c.in-Some.field-0-0, c.in-Some.origin) c.soundness.ensures
    (sym c.in-Some.ensures.row)
    (sym c.is_freeable_origin.ensures ∙ c.if-is_freeable_origin.true))
