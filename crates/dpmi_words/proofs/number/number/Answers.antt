use Rattle.dpmi_words.proofs.{Numbers.{number_refused}, number.number.Goals.{returns-in-Err as goal}}

pub returns-in-Err : goal
returns-in-Err c = number_refused 10 c.args.least c.args.most _ c.args.text.now c.ranges.most.fits c.in-Err.ensures.value.0
