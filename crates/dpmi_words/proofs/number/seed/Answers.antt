use Rattle.{std.proofs.Common.{arith}, dpmi_words.proofs.{Numbers.{number_refused}, number.seed.Goals.{returns-in-Err as goal}}}

pub returns-in-Err : goal
returns-in-Err c = number_refused 20 0 18446744073709551615 18446744073709551616 c.args.text.now (omega arith) c.in-Err.ensures.value.0
