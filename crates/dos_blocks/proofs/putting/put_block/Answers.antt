use Rattle.{std.proofs.Common.{◌∙◌}, dos_blocks.proofs.BlockRuns.{made_is, plain_is, put_made, put_plain}}
use Rattle.dos_blocks.proofs.putting.put_block.Goals as goal

pub arena_put_dpmi-requires : goal.arena_put_dpmi-requires
arena_put_dpmi-requires c = put_made c.args.for_dpmi _ _ _ _ _ c.requires c.if-for_dpmi.true

pub returns-then-for_dpmi : goal.returns-then-for_dpmi
returns-then-for_dpmi c = c.arena_put_dpmi.ensures.world ∙ made_is c.args.for_dpmi _ _ _ _ _ c.if-for_dpmi.true

pub arena_put-requires : goal.arena_put-requires
arena_put-requires c =
    let can = put_plain c.args.for_dpmi _ _ _ _ _ c.requires c.if-for_dpmi.false in
    record { within = can.within; old_plain = can.old_plain; new_plain = can.new_plain; sound = can.sound }

pub returns-else-for_dpmi : goal.returns-else-for_dpmi
returns-else-for_dpmi c = c.arena_put.ensures.world ∙ plain_is c.args.for_dpmi _ _ _ _ _ c.if-for_dpmi.false
