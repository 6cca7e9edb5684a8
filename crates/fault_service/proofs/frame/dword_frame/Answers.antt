use Rattle.{std.proofs.Common.{arith}, fault_service.proofs.{FrameItems.{all_dwords}, frame.dword_frame.Goals.{returns as goal}}}

pub returns : goal
returns c = all_dwords c.args.items.now c.put_dwords.new.into (omega arith) c.put_dwords.ensures
