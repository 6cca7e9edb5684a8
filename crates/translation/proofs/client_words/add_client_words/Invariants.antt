use Rattle.std.proofs.Common.{◌≡◌, ◌+◌, ◌-◌, ◌++◌, ◌≤◌}
use Rattle.arrayvec.specs.ArrayVec.{array_vec_len}
use Rattle.translation.specs.{declared.client_words.TheConstants.{MOST_WORDS}, SimulatedCall.{are_readable_words, client_words}}
use Rattle.translation.proofs.client_words.add_client_words.Given as goal

abbrev pub invariant-loop-k : goal.invariant-loop-k
invariant-loop-k l = record {
  room : array_vec_len l.words + (l.n - l.k) ≤ MOST_WORDS;
  readable : are_readable_words l.m.world 0 l.n ≡ are_readable_words l.m.world l.k (l.n - l.k);
  words : l.words.items ++ client_words l.m.world l.k (l.n - l.k) ≡ l.initial.words.items ++ client_words l.m.world 0 l.n;
}
