use Rattle.std.proofs.Common.{◌≡◌, ◌<◌, drop}
use Rattle.client_world.specs.declared.memory_map.TheConstants.{SEGMENT_SIZE}
use Rattle.translation.specs.RealStack.{with_words_at}
use Rattle.translation.proofs.real_stack.put_words.Given as goal

abbrev pub invariant-loop-word : goal.invariant-loop-word
invariant-loop-word l = record {
  fits : l.at < SEGMENT_SIZE;
  rest : l.m.world ≡ record l.initial.m.world { dos = l.m.world.dos };
  world : with_words_at l.m.world.dos l.segment l.at (drop l.word-index l.words)
      ≡ with_words_at l.initial.m.world.dos l.segment l.offset l.words;
  bytes : with_words_at l.m.bytes l.segment l.at (drop l.word-index l.words) ≡ with_words_at l.initial.m.bytes l.segment l.offset l.words;
}
