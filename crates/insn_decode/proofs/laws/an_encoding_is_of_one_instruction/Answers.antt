use Rattle.insn_decode.proofs.{Answering.{one_insn, no_longer}, laws.an_encoding_is_of_one_instruction.Goals.{returns as goal}}

pub returns : goal
returns c = record { one = one_insn; none_longer = no_longer }
