use Rattle.std.proofs.Common.{◌∙◌}
use Rattle.dpmi_cli.proofs.{Files.{made_taken}, prepare.prepare_soak.Goals.{returns-in-Ok-clause-verdict as goal}}

pub returns-in-Ok-clause-verdict : goal
returns-in-Ok-clause-verdict c =
    made_taken c.args.number c.as_slice.result.now c.in-Ok.host.world (c.as_slice.ensures.value ∙ c.in_ok-file.ensures)
    (rw c.in-Ok.is at c.in_ok-host.ensures.taken) (rw c.in-Ok.is at c.in_ok-host.ensures.started)
