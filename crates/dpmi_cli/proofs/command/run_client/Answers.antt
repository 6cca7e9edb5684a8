use Rattle.dpmi_cli.proofs.RunAnswers.{gives_run, gives_cut}
use Rattle.dpmi_cli.proofs.command.run_client.Goals as goal

pub returns-in-Ok-clause-answers : goal.returns-in-Ok-clause-answers
returns-in-Ok-clause-answers g c =
    let w = c.args.host.now.world in
    let laws = c.every_run_keeps_the_laws.ensures w c.args.timer c.requires.0.sound c.requires.0.keys in
    let end = c.run_to_end-exit in
    gives_run w end.new.h.world c.args.timer c.args.bound end.result _ _ _ _ _ laws end.ensures.world end.ensures.answer
    c.in-Ok.ensures.whole c.exit_status.ensures

pub returns-in-Err-clause-answers : goal.returns-in-Err-clause-answers
returns-in-Err-clause-answers g c =
    let w = c.args.host.now.world in
    let laws = c.every_run_keeps_the_laws.ensures w c.args.timer c.requires.0.sound c.requires.0.keys in
    let end = c.run_to_end-exit in
    gives_cut w end.new.h.world c.args.timer c.args.bound _ _ _ _ laws end.ensures.world c.in-Err.ensures.part c.in-Err.ensures.failed
