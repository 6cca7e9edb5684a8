use Rattle.dpmi_cli.proofs.{RunAnswers.{gives_refusal}, command.refuse.Goals.{returns-clause-answers as goal}}

pub returns-clause-answers : goal
returns-clause-answers g c =
    gives_refusal c.write_refusal.result c.args.reason _ _ _ _ c.write_refusal.ensures.whole c.write_refusal.ensures.part
    c.write_refusal.ensures.failed
