use Rattle.translation.proofs.StackWords.{writable_by_rules}
use Rattle.translation.proofs.laws.a_stack_word_can_be_written_by_the_rules_of_real_mode.Goals.{returns as goal}

pub returns : goal
returns c = writable_by_rules
