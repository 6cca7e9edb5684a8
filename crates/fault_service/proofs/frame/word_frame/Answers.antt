use Rattle.{std.proofs.Common.{arith}, fault_service.proofs.{FrameItems.{all_words}, frame.word_frame.Goals.{returns as goal}}}

pub returns : goal
returns c = all_words c.args.items.now c.put_words.new.into (omega arith) c.put_words.ensures
