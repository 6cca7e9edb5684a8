use Rattle.{std.proofs.Common.{◌+◌, ◌-◌, length, arith}, mode_stack.proofs.{Trips.{put_mid_is}, packing.put_at.Goals.{returns as goal}}}

pub returns : goal
returns c =
    put_mid_is c.args.into.now c.args.at (c.args.at + length c.args.bytes.now - c.args.at) c.copy_from_slice.new.self c.args.bytes.now
    c.copy_from_slice.ensures.after (omega arith) c.requires
