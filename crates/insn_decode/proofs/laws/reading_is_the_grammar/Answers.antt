use Rattle.std.proofs.Common.{refl, ◌++◌}
use Rattle.insn_decode.proofs.Answering.{decoded_whole, decoded_only, decoded_more, more_decoded, decoded_invalid, invalid_decoded}
use Rattle.insn_decode.proofs.laws.reading_is_the_grammar.Goals.{returns as goal}

pub returns : goal
returns c = record {
  whole = λ big bytes insn len are e. decoded_whole big insn len bytes are e;
  only = λ big insn front rest s. decoded_only big insn front rest (front ++ rest) refl s;
  more = λ big bytes are. (decoded_more big bytes are, more_decoded big bytes are);
  invalid = λ big bytes are. (decoded_invalid big bytes are, invalid_decoded big bytes are);
}
