use Rattle.std.proofs.Common.{arith}
use Rattle.translation.proofs.{StackWords.{readable_more, words_more}, client_words.add_client_words.Goals.{loop-k-preserved as goal}}

pub loop-k-preserved : goal
loop-k-preserved c =
    let w = c.args.m.now.world in
    let inside = c.loop-k-test.true in
    let read = c.in_ok-client_word.ensures in
    record {
      room = omega (arith, c.push.ensures.len);
      readable = readable_more w c.loop-k.k c.args.n _ inside read.0 c.loop-k.invariant.readable;
      words = words_more w c.loop-k.k c.args.n _ c.loop-k.words.items c.push.new.self.items _ inside read.1 c.push.ensures.items
          c.loop-k.invariant.words;
    }
