use Rattle.{std.proofs.Common.{subst}, dpmi_cli.specs.Answer.{Answer}, dpmi_io.specs.Content.{Bytes, GainsPart}}
use Rattle.dpmi_calls.proofs.{Results.{of_ok, on_ok}, Starts.{answer_started}}
use Rattle.dpmi_calls.proofs.text.answer_client.Goals.{returns-in-Ok-Ok-clause-part as goal}

pub returns-in-Ok-Ok-clause-part : goal
returns-in-Ok-Ok-clause-part c = λ short.
    subst (λ (a : Answer). GainsPart (Bytes c.args.out.now.taken) (Bytes c.run_client.new.out.taken) a.text)
    (answer_started _ _ _ _ _ (on_ok _ _ _ c.in-Ok-Ok.field-0-is c.in-Ok-Ok.ensures.taken)
    (of_ok _ _ _ c.in-Ok-Ok.field-0-is c.in-Ok-Ok.ensures.started) c.timer_given.ensures)
    (c.run_client.ensures.part short)
