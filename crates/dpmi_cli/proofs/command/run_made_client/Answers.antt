use Rattle.{std.specs.Prelude.{None}, dpmi_cli.proofs.RunAnswers.{gives_summary, gives_summary_cut}}
use Rattle.dpmi_cli.proofs.command.run_made_client.Goals as goal

pub returns-in-Ok-clause-answers : goal.returns-in-Ok-clause-answers
returns-in-Ok-clause-answers g c =
    let w = c.args.host.now.world in
    let laws = c.every_run_keeps_the_laws.ensures w None c.requires.sound c.requires.keys in
    let end = c.watched_run-exit in
    gives_summary c.args.number w end.new.h.world end.result _ _ _ _ _ laws end.ensures.world end.ensures.answer
    c.in-Ok.ensures.whole c.exit_status.ensures

pub returns-in-Err-clause-answers : goal.returns-in-Err-clause-answers
returns-in-Err-clause-answers g c =
    let w = c.args.host.now.world in
    let laws = c.every_run_keeps_the_laws.ensures w None c.requires.sound c.requires.keys in
    let end = c.watched_run-exit in
    gives_summary_cut c.args.number w end.new.h.world end.result _ _ _ _ laws end.ensures.world end.ensures.answer
    c.in-Err.ensures.part c.in-Err.ensures.failed
